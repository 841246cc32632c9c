-- The state of a run is that of the run with one entry more, where the entry was taken.
use Rattle.std.proofs.Common.{◌≡◌, ◌≢◌, ℕ, ◌+◌, ◌<◌, ◌≤◌, Bool, true, false, List, [], ◌∷◌, length, Option, Some, None, sym, ap, subst, ◌∙◌, arith, inl, inr, length-append}
use Rattle.std.specs.Prelude.{◌==◌, if◌then◌else◌, reverse, slice_get}
use Rattle.std.proofs.lemmas.Bool.{cases_Bool, eqb-true}
use Rattle.std.proofs.lemmas.Bool.Decides.{nat_tests}
use Rattle.annex_base.proofs.Lists.{slice_get-within}
use Rattle.annex_base.specs.declared.kinds.Word.{Word}
use Rattle.run_data.specs.declared.entry.Entry.{Entry}
use Rattle.run_data.specs.declared.run.Run.{Run}
use Rattle.node_model.specs.After.{state_after}
use Rattle.node_model.specs.Rows.{option_is}
use Rattle.node_model.specs.SetUp.{SetUp}
use Rattle.node_model.specs.State.{State}
use Rattle.run_model.specs.Frames.{Way}
use Rattle.run_model.specs.Past.{is_of}
use Rattle.run_model.specs.Run.{IsRun, set_up}
use Rattle.step_judging.specs.Carried as carried
use Rattle.step_judging.specs.Carried.{Judge, flight_after, judge_after, judge_of}
use Rattle.state_checks.specs.Moments.{moment_of}
use Rattle.state_flights.specs.Flights.{flight_on}
use Rattle.step_rules.specs.Members as members
use Rattle.step_rules.specs.Members.{BeginsWith, IsMemberOf}
use Rattle.step_rules.specs.Runs.{with_entry}
use Rattle.step_rules.specs.States.{ChangesMember, HearsBy, IsAfter, IsJudgeOf}
use Rattle.step_rules.specs.declared.member.Member.{Member}
use Rattle.step_rules.specs.declared.run_state.RunState.{RunState}
use Rattle.step_rules.specs.declared.words.Hears.{Hears}
use Rattle.step_rules.proofs.Carrying.{judge_same, member_again, member_with, not_mine, others_words, reverse_more, words_said}
use Rattle.step_rules.proofs.SameStep.{HavePaths}

-- the newest entry, the count and the places of two states that follow each other
pub record Follows (x y : RunState) (e : Entry) : Type 0 where
  pub repos : y.repos.now ≡ x.repos.now
  pub tree : y.trees.marks.now ≡ x.trees.marks.now
  pub taken : y.taken ≡ x.taken + 1
  pub newest : y.newest ≡ Some (moment_of e)

-- these data are those of a judge, for the set-ups of the run with one entry more
abbrev pub StaysJudge : Run → Entry → Judge → Type 0
StaysJudge run e j = (r : ℕ) → HavePaths (set_up run r) (j.states r).works (set_up (with_entry run e) r).paths

module _ (run : Run) (e : Entry) (x y : RunState) (after : IsAfter x run) (follows : Follows x y e) (lawful : IsRun (with_entry run e)) where
  abbrev past : List Entry
  past = reverse run.entries

  abbrev was : Judge
  was = judge_of (set_up run) past

  -- what is carried after the entry suffices
  pub after_by : IsJudgeOf y (set_up (with_entry run e)) (judge_after (set_up run) was e) → IsAfter y (with_entry run e)
  after_by judge = record {
    repos = after.repos ∙ sym follows.repos;
    tree = after.tree ∙ sym follows.tree;
    taken = (let more = length-append run.entries (e ∷ []) in let had = after.taken in let now = follows.taken in omega (arith, more, had, now));
    lawful = lawful;
    judge =
        subst (λ (p : List Entry). IsJudgeOf y (set_up (with_entry run e)) (judge_of (set_up (with_entry run e)) p)) (sym (reverse_more run e))
        (subst (λ (j : Judge). IsJudgeOf y (set_up (with_entry run e)) (judge_after (set_up run) j e)) (sym (judge_same run e past)) judge);
  }

  module _ (have : StaysJudge run e was) where
    member_stays : (r : ℕ) (m : Member) → IsMemberOf m (set_up run r) (was.states r) (was.words r) → IsMemberOf m (set_up (with_entry run e) r) (was.states r) (was.words r)
    member_stays r m is = member_with m (set_up run r) (set_up (with_entry run e) r).paths (was.states r) (was.words r) (have r) is

    -- of a repository that didn't make the entry
    other_member : (r : ℕ) (m : Member) → is_of r e ≡ false → slice_get x.members.items r ≡ Some m
        → IsMemberOf m (set_up (with_entry run e) r) (if is_of r e then state_after (set_up run r) (was.states r) e else was.states r) (carried.words_after was e r)
    other_member r m other at =
        member_again m (set_up (with_entry run e) r) (was.states r) (if is_of r e then state_after (set_up run r) (was.states r) e else was.states r) (was.words r) (carried.words_after was e r)
        (ap (λ (b : Bool). if b then state_after (set_up run r) (was.states r) e else was.states r) other) (others_words was e r other) (member_stays r m (after.judge.members r m at))

    flights_follow : ((w : Way) → flight_on y.flights w ≡ flight_after w (flight_on x.flights w) e) → (w : Way) → (judge_after (set_up run) was e).flights w ≡ flight_on y.flights w
    flights_follow flights w = ap (λ f. flight_after w f e) (after.judge.flights w) ∙ sym (flights w)

    -- ---- an entry of no repository

    pub waited : e.repo ≡ None → y.members ≡ x.members → ((w : Way) → flight_on y.flights w ≡ flight_after w (flight_on x.flights w) e) → IsAfter y (with_entry run e)
    waited none same flights = after_by (record {
      newest = sym follows.newest;
      members = λ r m at. other_member r m (ap (λ (o : Option ℕ). option_is o r) none) (ap (λ ms. slice_get ms.items r) (sym same) ∙ at);
      others = λ r past. ap (λ (b : Bool). if b then state_after (set_up run r) (was.states r) e else was.states r) (ap (λ (o : Option ℕ). option_is o r) none)
          ∙ after.judge.others r (subst (λ ms. length ms.items ≤ r) same past);
      flights = flights_follow flights;
    })

    -- ---- an entry of a repository

    module _ (q : ℕ) (own : e.repo ≡ Some q) (known : q < length x.members.items) (begun : List (List ℕ)) (hears : Option Hears)
        (begins : BeginsWith (set_up (with_entry run e) q) e.kind begun)
        (hear : HearsBy (was.states q) was.flights q e hears)
        (changes : ChangesMember q (λ m n. (s : SetUp) (st : State) (words : ℕ → ℕ → Option Word) → BeginsWith s e.kind begun → IsMemberOf m s st words
        → IsMemberOf n s (state_after s st e) (members.words_after words hears)) x.members.items y.members.items)
        (flights : (w : Way) → flight_on y.flights w ≡ flight_after w (flight_on x.flights w) e) where
      same_number : (q == q) ≡ true
      same_number = self q
        where
          self : (n : ℕ) → (n == n) ≡ true
          self n = grind (arith, nat_tests)

      mine : is_of q e ≡ true
      mine = ap (λ (o : Option ℕ). option_is o q) own ∙ same_number

      own_member : (m n : Member) → slice_get x.members.items q ≡ Some m → slice_get y.members.items q ≡ Some n
          → IsMemberOf n (set_up (with_entry run e) q) (if is_of q e then state_after (set_up run q) (was.states q) e else was.states q) (carried.words_after was e q)
      own_member m n before now =
          member_again n (set_up (with_entry run e) q) (state_after (set_up run q) (was.states q) e) (if is_of q e then state_after (set_up run q) (was.states q) e else was.states q)
          (members.words_after (was.words q) hears) (carried.words_after was e q)
          (ap (λ (b : Bool). if b then state_after (set_up run q) (was.states q) e else was.states q) mine)
          (words_said was e q own e.taken hears hear)
          (changes.here m n before now (set_up (with_entry run e) q) (was.states q) (was.words q) begins (member_stays q m (after.judge.members q m before)))

      each_member : (r : ℕ) (m : Member) → slice_get y.members.items r ≡ Some m
          → IsMemberOf m (set_up (with_entry run e) r) (if is_of r e then state_after (set_up run r) (was.states r) e else was.states r) (carried.words_after was e r)
      each_member r m at = elim (cases_Bool (r == q)) [
        | inl is ↦ (let same : r ≡ q = eqb-true r q is in
            let there = slice_get-within x.members.items q known in
            subst (λ (n : ℕ). IsMemberOf m (set_up (with_entry run e) n) (if is_of n e then state_after (set_up run n) (was.states n) e else was.states n) (carried.words_after was e n)) (sym same)
            (own_member there.0 m there.1 (subst (λ (n : ℕ). slice_get y.members.items n ≡ Some m) same at)))
        | inr is ↦ (let apart : r ≢ q = λ same. absurd (let both : false ≡ true = sym is ∙ ap (λ (n : ℕ). n == q) same ∙ same_number in cc) in
            other_member r m (not_mine q r e own apart) (sym (changes.others r apart) ∙ at))
      ]

      pub made : IsAfter y (with_entry run e)
      made = after_by (record {
        newest = sym follows.newest;
        members = each_member;
        others = λ r far.
            let long = changes.count in
            let apart : r ≢ q = λ same. absurd (omega (arith, same, far, long, known)) in
            ap (λ (b : Bool). if b then state_after (set_up run r) (was.states r) e else was.states r) (not_mine q r e own apart)
            ∙ after.judge.others r (omega (arith, far, long));
        flights = flights_follow flights;
      })
