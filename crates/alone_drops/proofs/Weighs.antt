-- What a drop that runs alone knows, against what its candidates offered as it began.
use Rattle.std.specs.Prelude.{◌==◌, find, fold, length, max, min, option_map, unwrap_or}
use Rattle.std.specs.List.{reduce, range_with_len}
use Rattle.std.proofs.Common.{◌≡◌, ◌≢◌, ℕ, ◌+◌, ◌≤◌, Bool, true, false, not, List, [], ◌∷◌, Option, Some, None, inl, inr, refl, sym, ap, ◌∙◌, subst, arith}
use Rattle.std.proofs.lemmas.Bool.{true≢false, eqb-true}
use Rattle.std.proofs.lemmas.Bool.Decides.{nat_tests}
use Rattle.std.proofs.lemmas.Option.{same_Some}
use Rattle.annex_base.specs.Lists.{Each, Member}
use Rattle.annex_base.proofs.Conditions.{eqb_refl, if_either}
use Rattle.annex_base.proofs.Lists.{Each-from_members, Each-member, Member-filter_parts, find_member, find_nowhere}
use Rattle.drop_proof.specs.declared.evidence.Evidence.{Evidence}
use Rattle.drop_proof.specs.declared.evidence.Kind.{Kind}
use Rattle.drop_proof.specs.declared.evidence.Kind.TheVariants.{Locked, Trusted, Recent}
use Rattle.drop_proof.specs.declared.rule.Side.{Side}
use Rattle.drop_proof.specs.declared.rule.Side.TheVariants.{Local, Remote}
use Rattle.drop_proof.specs.Judging.{end_of_kind, ends, is_enough, is_full_kind, least_end}
use Rattle.run_data.specs.declared.entry.Entry.{Entry}
use Rattle.run_data.specs.declared.job.Job.{Job}
use Rattle.run_data.specs.declared.run.Run.{Run}
use Rattle.run_data.specs.declared.run.RepoView.{RepoView}
use Rattle.run_data.specs.Repos.{IsSetUp, id_of}
use Rattle.node_model.specs.Clocks.{hold_time}
use Rattle.node_model.specs.Evidence.{Standing, Claimed, Ignored, Asked, Offer, Gives, Fails, but, pick, candidates, gather, reached_candidates, standing_by}
use Rattle.node_model.specs.Jobs
use Rattle.node_model.specs.Jobs.{Heard, Work, drop_side, heard_of, or_own, side_of, target_of}
use Rattle.node_model.specs.Knows.{Reading, asks_by, candidates_by, enough_by, is_unasked, known_by, knows_by, need_of, next_by, offer_by, reading, standing_of, need_by}
use Rattle.node_model.specs.SetUp.{SetUp}
use Rattle.node_model.specs.State.{State}
use Rattle.run_model.specs.Logs.{before_step, read_at, settings_of}
use Rattle.run_model.specs.Run.{RunPast, set_up, job_paths}
use Rattle.run_model.specs.States.{state_of}
use Rattle.step_facts.proofs.Below.{SentAreRead}
use Rattle.past_facts.proofs.Gather.{gather_each}
use Rattle.alone_drops.specs.Offers.{AClaim, ALock, ALook, Nothing, Offered, OffersSuffice, count_offers, gives_hold, is_free, is_full_offer, is_offer, need_at, offer_at, offered}
use Rattle.alone_drops.proofs.Since.{Beginning}
use Rattle.alone_drops.proofs.Sides.{Aims, own_target}
use Rattle.alone_drops.proofs.Heard.{Fit}
use Rattle.alone_drops.proofs.Judging.{lacks, passes, suffices}

-- ---- one candidate

-- what was heard fits whether the content is free there, and whether holds are given
abbrev FitsRow : Standing → Bool → Bool → Heard → Type 0
FitsRow standing free holds (Jobs.Held since) = (free ≡ true) × (holds ≡ true)
FitsRow standing free holds Jobs.Seen = (free ≡ true) × (holds ≡ false)
FitsRow standing free holds Jobs.Unseen = free ≡ false
FitsRow standing free holds (Jobs.Lacks cause) = standing ≡ Asked → free ≡ false

-- it is an offer, and full where the kind is
abbrev IsAsGiven : Offered → Kind → Type 0
IsAsGiven offer kind = (is_offer offer ≡ true) × (is_full_kind kind ≡ is_full_offer offer)

full_kind : Offer → Bool
full_kind (Gives kind) = is_full_kind kind
full_kind Fails = false

given_offer : (clock : ℕ → ℕ) (standing : Standing) (o : Option Heard) (free holds : Bool) (kind : Kind) → ((h : Heard) → o ≡ Some h → FitsRow standing free holds h) → offer_by clock standing o ≡ Gives kind → IsAsGiven (offered standing free holds) kind
unfolding full_kind
given_offer clock Claimed o free holds kind fits e = (refl, sym (ap full_kind e))
given_offer clock (Ignored cause) o free holds kind fits e = absurd (cc)
given_offer clock Asked None free holds kind fits e = absurd (cc)
given_offer clock Asked (Some (Jobs.Held since)) free holds kind fits e = let f = fits (Jobs.Held since) refl in
    (ap (λ d. is_offer (offered Asked d holds)) f.0 ∙ ap (λ d. is_offer (offered Asked true d)) f.1, sym (ap full_kind e) ∙ sym (ap (λ d. is_full_offer (offered Asked d holds)) f.0 ∙ ap (λ d. is_full_offer (offered Asked true d)) f.1))
given_offer clock Asked (Some Jobs.Seen) free holds kind fits e = let f = fits Jobs.Seen refl in
    (ap (λ d. is_offer (offered Asked d holds)) f.0 ∙ ap (λ d. is_offer (offered Asked true d)) f.1, sym (ap full_kind e) ∙ sym (ap (λ d. is_full_offer (offered Asked d holds)) f.0 ∙ ap (λ d. is_full_offer (offered Asked true d)) f.1))
given_offer clock Asked (Some Jobs.Unseen) free holds kind fits e = absurd (cc)
given_offer clock Asked (Some (Jobs.Lacks cause)) free holds kind fits e = absurd (cc)

no_offer : (free holds : Bool) → free ≡ false → is_offer (offered Asked free holds) ≡ true → ⊥
no_offer true holds e f = true≢false e
no_offer false holds e f = cc

offer_given : (clock : ℕ → ℕ) (standing : Standing) (o : Option Heard) (free holds : Bool) → ((h : Heard) → o ≡ Some h → FitsRow standing free holds h) → is_unasked standing o ≡ false → is_offer (offered standing free holds) ≡ true
    → (kind : Kind) × (offer_by clock standing o ≡ Gives kind)
offer_given clock Claimed o free holds fits asked e = (Trusted, refl)
offer_given clock (Ignored cause) o free holds fits asked e = absurd (cc)
offer_given clock Asked None free holds fits asked e = absurd (cc)
offer_given clock Asked (Some (Jobs.Held since)) free holds fits asked e = (_, refl)
offer_given clock Asked (Some Jobs.Seen) free holds fits asked e = (_, refl)
offer_given clock Asked (Some Jobs.Unseen) free holds fits asked e = absurd (no_offer free holds (fits Jobs.Unseen refl) e)
offer_given clock Asked (Some (Jobs.Lacks cause)) free holds fits asked e = absurd (no_offer free holds (fits (Jobs.Lacks cause) refl refl) e)

full_is_offer : (offer : Offered) → is_full_offer offer ≡ true → is_offer offer ≡ true
full_is_offer ALock e = refl
full_is_offer AClaim e = refl
full_is_offer Nothing e = absurd (cc)
full_is_offer ALook e = refl

-- enough offers, by how many pass each test
abbrev Counts : Side → List RepoView → List (List ℕ) → List Entry → ℕ → ℕ → List ℕ → Type 0
Counts side repos paths past a target key =
    let need = need_at paths past a in
    (max need.n need.m ≤ count_offers is_offer side repos past a target key) × (side ≡ Remote → need.m ≤ count_offers is_full_offer side repos past a target key)

of_counts : (side : Side) (repos : List RepoView) (paths : List (List ℕ)) (past : List Entry) (a target : ℕ) (key : List ℕ) → Counts side repos paths past a target key → OffersSuffice side repos paths past a target key
of_counts Local repos paths past a target key x = x.0
of_counts Remote repos paths past a target key x = (x.0, x.1 refl)

to_counts : (side : Side) (repos : List RepoView) (paths : List (List ℕ)) (past : List Entry) (a target : ℕ) (key : List ℕ) → OffersSuffice side repos paths past a target key → Counts side repos paths past a target key
to_counts Local repos paths past a target key x = (x, λ remote. absurd (cc))
to_counts Remote repos paths past a target key x = (x.0, λ remote. x.1)

-- what a job heard of a candidate stands in its list
record HeardIn (w : Work) (c : ℕ) (h : Heard) : Type 0 where
  pub x : ℕ × Heard
  pub among : Member x w.heard
  pub of_it : x.0 ≡ c
  pub is : x.1 ≡ h

heard_in : (w : Work) (c : ℕ) (h : Heard) → heard_of w c ≡ Some h → HeardIn w c h
heard_in w c h e = go (find (λ x. x.0 == c) w.heard) refl e
  where
    go : (o : Option (ℕ × Heard)) → find (λ x. x.0 == c) w.heard ≡ o → option_map (λ x. x.1) o ≡ Some h → HeardIn w c h
    go None is f = absurd (cc)
    go (Some x) is f = let m = find_member (λ (y : ℕ × Heard). y.0 == c) w.heard x is in record { x = x; among = m.0; of_it = eqb-true x.0 c m.1; is = same_Some x.1 h f }

-- ---- the first end, where all are the same

fold_same : (end : ℕ) (xs : List ℕ) → Each (λ e. e ≡ end) xs → fold min end xs ≡ end
fold_same end [] all = refl
fold_same end (x ∷ xs) all = ap (λ n. fold min (min end n) xs) all.0 ∙ (ap (λ n. fold min n xs) (least end) ∙ fold_same end xs all.1)
  where
    least : (n : ℕ) → min n n ≡ n
    least n = grind (arith, nat_tests)

one_end : (end first : ℕ) (xs : List ℕ) → Each (λ e. e ≡ end) xs → reduce min xs ≡ Some first → first ≡ end
one_end end first [] all e = absurd (cc)
one_end end first (x ∷ xs) all e = sym (same_Some (fold min x xs) first e) ∙ (ap (λ n. fold min n xs) all.0 ∙ fold_same end xs all.1)

abbrev EndIs : ℕ → Evidence → Type 0
EndIs end i = (e : ℕ) → end_of_kind i.kind ≡ Some e → e ≡ end

ends_same : (end : ℕ) (items : List Evidence) → Each (EndIs end) items → Each (λ e. e ≡ end) (ends items)
ends_same end [] all = tt
ends_same end (i ∷ is) all = go (end_of_kind i.kind) refl (ends_same end is all.1)
  where
    go : (o : Option ℕ) → end_of_kind i.kind ≡ o → Each (λ e. e ≡ end) (ends is) → Each (λ e. e ≡ end) (ends (i ∷ is))
    go None is' more = rw is' more
    go (Some e) is' more = rw is' (all.0 e is', more)

end_given : (clock : ℕ → ℕ) (end : ℕ) (standing : Standing) (o : Option Heard) (kind : Kind) → ((since : ℕ) → o ≡ Some (Jobs.Held since) → clock since + hold_time ≡ end) → offer_by clock standing o ≡ Gives kind → (e : ℕ) → end_of_kind kind ≡ Some e → e ≡ end
end_given clock end Claimed o (Locked n) f g e is = absurd (cc)
end_given clock end Claimed o Trusted f g e is = absurd (cc)
end_given clock end Claimed o Recent f g e is = absurd (cc)
end_given clock end (Ignored cause) o kind f g e is = absurd (cc)
end_given clock end Asked None kind f g e is = absurd (cc)
end_given clock end Asked (Some (Jobs.Held since)) kind f g e is =
    let same : Gives (Locked (clock since + hold_time)) ≡ Gives kind = g in
    let at : Some (clock since + hold_time) ≡ Some e = ap (λ (x : Offer). end_offer x) same ∙ is in
    sym (same_Some (clock since + hold_time) e at) ∙ f since refl
  where
    end_offer : Offer → Option ℕ
    end_offer (Gives k) = end_of_kind k
    end_offer Fails = None
end_given clock end Asked (Some Jobs.Seen) (Locked n) f g e is = absurd (cc)
end_given clock end Asked (Some Jobs.Seen) Trusted f g e is = absurd (cc)
end_given clock end Asked (Some Jobs.Seen) Recent f g e is = absurd (cc)
end_given clock end Asked (Some Jobs.Unseen) kind f g e is = absurd (cc)
end_given clock end Asked (Some (Jobs.Lacks cause)) kind f g e is = absurd (cc)

module _ (reads_back : SentAreRead) (run : Run) (repos : Each IsSetUp run.repos) (past : List Entry) (b : Entry) (a j : ℕ) (what : Job) (z : Beginning run past b a j what) (h0 : RunPast (set_up run) (b ∷ past)) (side : Side) (to : ℕ) (aims : Aims a what side to)
    (p : List Entry) (w : Work) (number : w.number ≡ j) (what_is : w.what ≡ what) (heard : Each (λ x. Fit reads_back run repos past b a j what z h0 side to aims x.0 x.1) w.heard)
    (first : List Entry) (read : before_step p a j ≡ Some first) (settings_is : settings_of first a ≡ settings_of past a) where
  abbrev s : SetUp
  s = set_up run a

  abbrev st : State
  st = state_of s p

  abbrev rd : Reading
  rd = reading s st w

  read_same : settings_of (read_at p a w.number) a ≡ settings_of past a
  read_same = ap (λ n. settings_of (read_at p a n) a) number ∙ (ap (λ (o : Option (List Entry)). settings_of (unwrap_or o p) a) read ∙ settings_is)

  need_same : need_of s st w ≡ need_at (job_paths run a j) past a
  need_same = λ i. need_by (read_same i) (s.paths (number i))

  standing_same : (c : ℕ) → standing_of s st w c ≡ standing_by (settings_of past a) what.key (id_of run.repos c)
  unfolding standing_of
  standing_same c = λ i. standing_by (read_same i) ((what_is i).key) (id_of run.repos c)

  side_is : side_of w ≡ side
  side_is = ap (λ (q : Job). drop_side q.kind q.peer) what_is ∙ aims.side_is

  abbrev cs : List ℕ
  cs = candidates side (length run.repos) a to

  target_is : target_of a w ≡ to
  target_is = (λ i. or_own a (side_is i) (what_is i).peer) ∙ aims.target_is

  candidate_other : (c : ℕ) → Member c cs → c ≢ to
  candidate_other c m = go side refl m
    where
      off : (r : ℕ) (ns : List ℕ) → Member c (but r ns) → c ≢ r
      off r ns n same = true≢false (sym (Member-filter_parts (λ x. not (x == r)) ns c n).1 ∙ ap not (ap (λ k. k == r) same ∙ eqb_refl r))

      go : (q : Side) → side ≡ q → Member c (candidates q (length run.repos) a to) → c ≢ to
      go Local is n at = off a (range_with_len 0 (length run.repos)) n (at ∙ own_target a what side to aims is)
      go Remote is (inl same) at = aims.apart is (sym at ∙ same)
      go Remote is (inr n) at = off to (but a (range_with_len 0 (length run.repos))) n at

  heard_fits : (c : ℕ) → c ≢ to → (h : Heard) → heard_of w c ≡ Some h → FitsRow (standing_of s st w c) (is_free past c what.key) (gives_hold run.repos a c) h
  heard_fits c apart h e = go h (heard_in w c h e)
    where
      go : (h : Heard) → HeardIn w c h → FitsRow (standing_of s st w c) (is_free past c what.key) (gives_hold run.repos a c) h
      go h i = by h (subst (λ n. Fit reads_back run repos past b a j what z h0 side to aims n h) i.of_it (subst (λ v. Fit reads_back run repos past b a j what z h0 side to aims i.x.0 v) i.is (Each-member (λ x. Fit reads_back run repos past b a j what z h0 side to aims x.0 x.1) w.heard i.x heard i.among)))
        where
          by : (h : Heard) → Fit reads_back run repos past b a j what z h0 side to aims c h → FitsRow (standing_of s st w c) (is_free past c what.key) (gives_hold run.repos a c) h
          by (Jobs.Held since) f = let y = f apart in (y.0, y.1)
          by Jobs.Seen f = f apart
          by Jobs.Unseen f = f apart
          by (Jobs.Lacks cause) f = let y = f apart in λ asked. subst (λ n. is_free past n what.key ≡ false) (sym y.0)
              (y.1 (ap (λ n. standing_by (settings_of past a) what.key (id_of run.repos n)) (sym y.0) ∙ (sym (standing_same c) ∙ asked)))

  held_since : (c since : ℕ) → c ≢ to → heard_of w c ≡ Some (Jobs.Held since) → since ≡ b.time
  held_since c since apart e =
      let i = heard_in w c (Jobs.Held since) e in
      (subst (λ v. Fit reads_back run repos past b a j what z h0 side to aims i.x.0 v) i.is (Each-member (λ x. Fit reads_back run repos past b a j what z h0 side to aims x.0 x.1) w.heard i.x heard i.among) (subst (λ n. n ≢ to) (sym i.of_it) apart)).2

  abbrev enough : Bool
  enough = is_enough side (need_at (job_paths run a j) past a) (gather side (need_at (job_paths run a j) past a) (knows_by rd w) (reached_candidates (asks_by rd w) cs) [])

  enough_is : enough_by rd w ≡ enough
  enough_is = λ i. is_enough (side_is i) (need_same i) (gather (side_is i) (need_same i) (knows_by rd w) (reached_candidates (asks_by rd w) (candidates (side_is i) (length run.repos) a (target_is i))) [])

  abbrev offer : ℕ → Offered
  offer c = offered (standing_of s st w c) (is_free past c what.key) (gives_hold run.repos a c)

  offered_same : (c : ℕ) → offer c ≡ offer_at run.repos past a what.key c
  offered_same c = ap (λ q. offered q (is_free past c what.key) (gives_hold run.repos a c)) (standing_same c)

  abbrev offers : ℕ → Bool
  offers c = is_offer (offer_at run.repos past a what.key c)

  abbrev full : ℕ → Bool
  full c = is_full_offer (offer_at run.repos past a what.key c)

  as_given : (c : ℕ) → Member c cs → (kind : Kind) → knows_by rd w c ≡ Gives kind → (offers c ≡ true) × (is_full_kind kind ≡ full c)
  as_given c m kind g =
      let y = given_offer rd.clock (standing_of s st w c) (heard_of w c) (is_free past c what.key) (gives_hold run.repos a c) kind (heard_fits c (candidate_other c m)) g in
      (sym (ap is_offer (offered_same c)) ∙ y.0, y.1 ∙ ap is_full_offer (offered_same c))

  -- **what it knows to be enough is of enough offers**
  pub enough_suffices : enough_by rd w ≡ true → OffersSuffice side run.repos (job_paths run a j) past a to what.key
  enough_suffices e = of_counts side run.repos (job_paths run a j) past a to what.key (suffices side (need_at (job_paths run a j) past a) (knows_by rd w) (asks_by rd w) offers full cs as_given (sym enough_is ∙ e))

  -- **and where enough is offered, it doesn't lack**
  pub never_lacks : next_by rd w ≡ None → enough_by rd w ≡ false → OffersSuffice side run.repos (job_paths run a j) past a to what.key → ⊥
  never_lacks none e enough_offers = let y = to_counts side run.repos (job_paths run a j) past a to what.key enough_offers in
      lacks side (need_at (job_paths run a j) past a) (knows_by rd w) (asks_by rd w) offers full cs asked gives gives_full (sym enough_is ∙ e) y.0 y.1
    where
      nobody : find (asks_by rd w) cs ≡ None
      nobody = sym (λ i. find (asks_by rd w) (candidates (side_is i) (length run.repos) a (target_is i))) ∙ none

      asked : (c : ℕ) → Member c cs → asks_by rd w c ≡ false
      asked c m = Each-member (λ n. asks_by rd w n ≡ false) cs c (find_nowhere (asks_by rd w) cs nobody) m

      gives : (c : ℕ) → Member c cs → offers c ≡ true → (kind : Kind) × (knows_by rd w c ≡ Gives kind)
      gives c m o = offer_given rd.clock (standing_of s st w c) (heard_of w c) (is_free past c what.key) (gives_hold run.repos a c) (heard_fits c (candidate_other c m)) (asked c m) (ap is_offer (offered_same c) ∙ o)

      gives_full : (c : ℕ) → Member c cs → full c ≡ true → passes is_full_kind (knows_by rd w) c ≡ true
      gives_full c m o =
          let g = gives c m (full_is_offer (offer_at run.repos past a what.key c) o) in
          ap (λ q. pick q is_full_kind false) g.1 ∙ ((as_given c m g.0 g.1).1 ∙ o)

  -- its locks end ten minutes later
  pub locks_end : (end : ℕ) → least_end (known_by rd w) ≡ Some end → end ≡ st.clock b.time + hold_time
  locks_end end e = one_end (st.clock b.time + hold_time) end (ends (known_by rd w)) (ends_same (st.clock b.time + hold_time) (known_by rd w) each) e
    where
      each : Each (EndIs (st.clock b.time + hold_time)) (known_by rd w)
      each = gather_each (EndIs (st.clock b.time + hold_time)) (λ c. c ≢ to) (side_of w) rd.need (knows_by rd w)
          (λ c kind other g. end_given rd.clock (st.clock b.time + hold_time) (standing_of s st w c) (heard_of w c) kind (λ since o. ap (λ n. st.clock n + hold_time) (held_since c since other o)) g)
          (reached_candidates (asks_by rd w) (candidates_by rd w)) [] (few' (candidates_by rd w) all_other) tt
        where
          few' : (ns : List ℕ) → Each (λ c. c ≢ to) ns → Each (λ c. c ≢ to) (reached_candidates (asks_by rd w) ns)
          few' [] all = tt
          few' (n ∷ ns) all = if_either (Each (λ c. c ≢ to)) (asks_by rd w n) [] (n ∷ reached_candidates (asks_by rd w) ns) (λ e. tt) (λ e. (all.0, few' ns all.1))

          all_other : Each (λ c. c ≢ to) (candidates_by rd w)
          all_other = subst (Each (λ c. c ≢ to)) (sym (λ i. candidates (side_is i) (length run.repos) a (target_is i))) (Each-from_members (λ c. c ≢ to) cs candidate_other)
