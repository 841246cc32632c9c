-- What a judge carries after one entry more, as data.
use Rattle.std.proofs.Common.{◌≡◌, ◌≢◌, ℕ, ◌≤◌, Bool, true, false, List, [], ◌∷◌, length, Option, Some, None, refl, sym, ap, subst, ◌∙◌, arith, length-append}
use Rattle.std.specs.Prelude.{◌&&◌, ◌==◌, find, if◌then◌else◌, reverse}
use Rattle.std.proofs.lemmas.Bool.{and_parts, eqb-true}
use Rattle.std.proofs.lemmas.Bool.Decides.{nat_tests}
use Rattle.std.proofs.lemmas.List.{length-reverse, reverse-append}
use Rattle.std.proofs.Math.Seq.{take-append_seam}
use Rattle.annex_base.specs.Lists.{Member as Among}
use Rattle.annex_base.specs.declared.kinds.Word.{Word}
use Rattle.annex_key.specs.Tree.{paths_of}
use Rattle.run_data.specs.declared.entry.Entry.{Entry}
use Rattle.run_data.specs.declared.entry.EntryKind.TheVariants.{Begin}
use Rattle.run_data.specs.declared.entry.FrameView.{FrameView}
use Rattle.run_data.specs.declared.job.Job.{Job}
use Rattle.run_data.specs.declared.run.Run.{Run}
use Rattle.node_model.specs.Jobs.{Work}
use Rattle.node_model.specs.Rows.{option_is}
use Rattle.node_model.specs.SetUp.{SetUp}
use Rattle.node_model.specs.Slots.{job_of}
use Rattle.node_model.specs.State.{State}
use Rattle.run_model.specs.Frames.{way_of}
use Rattle.run_model.specs.Past.{begun_count, is_of}
use Rattle.run_model.specs.Run.{IsRun, job_paths, paths_at, paths_begun, set_up, tree_at}
use Rattle.run_model.specs.Safety.{past_at}
use Rattle.run_model.specs.Words.{awaits_of}
use Rattle.step_judging.specs.Carried as carried
use Rattle.step_judging.specs.Carried.{Judge, first_word, judge_after, judge_of, word_after}
use Rattle.step_state.specs.States.{IsStateOf}
use Rattle.step_rules.specs.Members as members
use Rattle.step_rules.specs.Members.{AwaitsBy, IsMemberOf}
use Rattle.step_rules.specs.Runs.{with_entry}
use Rattle.step_rules.specs.States.{HearsAt}
use Rattle.step_rules.specs.declared.member.Member.{Member}
use Rattle.step_rules.specs.declared.words.Hears.{Hears}
use Rattle.step_rules.proofs.SameReads.{state_same}
use Rattle.step_rules.proofs.SameStep.{HavePaths, with_paths}

-- ---- a run with one entry more

pub reverse_more : (run : Run) (e : Entry) → reverse (with_entry run e).entries ≡ e ∷ reverse run.entries
reverse_more run e = reverse-append run.entries (e ∷ [])

pub judge_same : (run : Run) (e : Entry) (past : List Entry) → judge_of (set_up (with_entry run e)) past ≡ judge_of (set_up run) past
judge_same run e [] = refl
judge_same run e (x ∷ past) = ap (λ (j : Judge). judge_after (set_up run) j x) (judge_same run e past)

same_number : (n : ℕ) → (n == n) ≡ true
same_number n = grind (arith, nat_tests)

-- the paths of a job that the entry begins are those of its key in the tree there
pub paths_begin : (run : Run) (e : Entry) (r job : ℕ) (what : Job) → e.repo ≡ Some r → e.kind ≡ Begin job what
    → (set_up (with_entry run e) r).paths job ≡ paths_of (tree_at run.tree (length run.entries)) what.key
paths_begin run e r job what own is =
    let past = reverse run.entries in
    let was = paths_at run.tree past r job in
    let here = paths_of (tree_at run.tree (length past)) what.key in
    ap (λ (p : List Entry). paths_at run.tree p r job) (reverse_more run e)
    ∙ ap (λ (b : Bool). if b then paths_begun run.tree (length past) job was e.kind else was) (ap (λ (o : Option ℕ). option_is o r) own ∙ same_number r)
    ∙ ap (paths_begun run.tree (length past) job was) is
    ∙ ap (λ (b : Bool). if b then here else was) (same_number job)
    ∙ ap (λ (n : ℕ). paths_of (tree_at run.tree n) what.key) (length-reverse run.entries)

abbrev pub PathsKept : Type 0
PathsKept = (run : Run) (place r job : ℕ) → IsRun run → place ≤ length run.entries → job ≤ begun_count (past_at run place) r
    → job_paths run r job ≡ paths_at run.tree (past_at run place) r job

-- and those of a job that was begun before stay
pub paths_stay : PathsKept → (run : Run) (e : Entry) → IsRun (with_entry run e) → (r job : ℕ) → job ≤ begun_count (reverse run.entries) r
    → (set_up (with_entry run e) r).paths job ≡ (set_up run r).paths job
paths_stay keep run e lawful r job low =
    let seam : past_at (with_entry run e) (length run.entries) ≡ reverse run.entries = ap reverse (take-append_seam run.entries (e ∷ [])) in
    let more = length-append run.entries (e ∷ []) in
    keep (with_entry run e) (length run.entries) r job lawful (omega (arith, more)) (subst (λ (p : List Entry). job ≤ begun_count p r) (sym seam) low)
    ∙ ap (λ (p : List Entry). paths_at run.tree p r job) seam

-- ---- a repository

-- it is that of the same state and words
pub member_again : (m : Member) (s : SetUp) (st now : State) (words said : ℕ → ℕ → Option Word) → now ≡ st → ((job c : ℕ) → said job c ≡ words job c) → IsMemberOf m s st words → IsMemberOf m s now said
member_again m s st now words said same heard is = record {
  state = subst (IsStateOf m.state s) (sym same) is.state;
  heard = λ job c. heard job c ∙ is.heard job c;
  paths = subst (λ (x : State). (w : Work) → Among w x.works → s.paths w.number ≡ members.paths_at m.paths w.number) (sym same) is.paths;
}

-- so it is where a set-up has other paths, but for those of running jobs
pub member_with : (m : Member) (s : SetUp) (p : ℕ → List (List ℕ)) (st : State) (words : ℕ → ℕ → Option Word) → HavePaths s st.works p → IsMemberOf m s st words → IsMemberOf m (with_paths s p) st words
member_with m s p st words have is = record {
  state = state_same s p st have m.state is.state;
  heard = is.heard;
  paths = λ w among. sym (have w among) ∙ is.paths w among;
}

-- ---- the words that are heard

if_both : {X : Type 0} (b : Bool) (x : X) → (if b then x else x) ≡ x
if_both true x = refl
if_both false x = refl

-- none hears a word
none_heard : (t same : Bool) (x was : Option Word) → (t ≡ true → same ≡ true → ⊥) → (if t then (if same then x else was) else was) ≡ was
none_heard true true x was none = absurd (none refl refl)
none_heard true false x was none = refl
none_heard false same x was none = refl

-- the job that hears it is this one, or isn't
one_heard : (t mine same : Bool) (x was : Option Word) → (same ≡ true → t ≡ mine) → (if t then (if same then x else was) else was) ≡ (if mine && same then x else was)
one_heard true true true x was is = refl
one_heard true true false x was is = refl
one_heard false true false x was is = refl
one_heard true false false x was is = refl
one_heard false false same x was is = refl
one_heard true false true x was is = absurd (let both : true ≡ false = is refl in cc)
one_heard false true true x was is = absurd (let both : false ≡ true = is refl in cc)

option_same : (o : Option ℕ) (n : ℕ) → option_is o n ≡ true → o ≡ Some n
option_same None n e = absurd (cc)
option_same (Some m) n e = ap (λ x. Some x) (eqb-true m n e)

module _ (j : Judge) (e : Entry) (r : ℕ) (own : e.repo ≡ Some r) where
  abbrev st : State
  st = j.states r

  abbrev waits : ℕ → ℕ → Bool
  waits job c = awaits_of c (find (λ w. w.number == job) st.works)

  mine : is_of r e ≡ true
  mine = ap (λ (o : Option ℕ). option_is o r) own ∙ same_number r

  said_none : (f : FrameView) (job c : ℕ) → AwaitsBy st e.kind f.peer None
      → (if is_of r e && option_is (job_of e.kind) job && waits job c then (if f.peer == c then first_word (j.flights (way_of r f)).waiting else j.words r job c) else j.words r job c) ≡ j.words r job c
  said_none f job c none = none_heard (is_of r e && option_is (job_of e.kind) job && waits job c) (f.peer == c) (first_word (j.flights (way_of r f)).waiting) (j.words r job c)
      (λ test same.
      let parts = and_parts (is_of r e && option_is (job_of e.kind) job) (waits job c) test in
      let makes = option_same (job_of e.kind) job (and_parts (is_of r e) (option_is (job_of e.kind) job) parts.0).1 in
      let here : waits job c ≡ false = subst (λ (n : ℕ). waits job n ≡ false) (eqb-true f.peer c same) (none job makes) in
      let both : true ≡ false = sym parts.1 ∙ here in cc)

  said_one : (f : FrameView) (h : Hears) (job c : ℕ) → AwaitsBy st e.kind f.peer (Some h.job) → h.peer ≡ f.peer → h.word ≡ first_word (j.flights (way_of r f)).waiting
      → (if is_of r e && option_is (job_of e.kind) job && waits job c then (if f.peer == c then first_word (j.flights (way_of r f)).waiting else j.words r job c) else j.words r job c)
      ≡ (if (h.job == job) && (h.peer == c) then h.word else j.words r job c)
  said_one f h job c awaits peer word =
      one_heard (is_of r e && option_is (job_of e.kind) job && waits job c) (h.job == job) (f.peer == c) (first_word (j.flights (way_of r f)).waiting) (j.words r job c) tests
      ∙ ap (λ (n : ℕ). if (h.job == job) && (n == c) then first_word (j.flights (way_of r f)).waiting else j.words r job c) (sym peer)
      ∙ ap (λ (x : Option Word). if (h.job == job) && (h.peer == c) then x else j.words r job c) (sym word)
    where
      tests : (f.peer == c) ≡ true → (is_of r e && option_is (job_of e.kind) job && waits job c) ≡ (h.job == job)
      tests same =
          ap (λ (b : Bool). b && option_is (job_of e.kind) job && waits job c) mine
          ∙ ap (λ (o : Option ℕ). option_is o job && waits job c) awaits.0
          ∙ go (h.job == job) refl
        where
          go : (b : Bool) → (h.job == job) ≡ b → ((h.job == job) && waits job c) ≡ (h.job == job)
          go true is =
              let here : waits job c ≡ true = subst (λ (n : ℕ). waits job n ≡ true) (eqb-true f.peer c same) (subst (λ (n : ℕ). waits n f.peer ≡ true) (eqb-true h.job job is) awaits.1) in
              rw here (rw is refl)
          go false is = rw is refl

  pub words_said : (o : Option FrameView) (hears : Option Hears) → HearsAt st j.flights r e.kind o hears → (job c : ℕ)
      → (if is_of r e && option_is (job_of e.kind) job && waits job c then word_after j.flights r c o (j.words r job c) else j.words r job c) ≡ members.words_after (j.words r) hears job c
  words_said None hears is job c = if_both (is_of r e && option_is (job_of e.kind) job && waits job c) (j.words r job c) ∙ ap (λ (h : Option Hears). members.words_after (j.words r) h job c) (sym is)
  words_said (Some f) None is job c = said_none f job c is
  words_said (Some f) (Some h) is job c = said_one f h job c is.0 is.1 is.2

-- ---- the entry of another repository

pub not_mine : (q r : ℕ) (e : Entry) → e.repo ≡ Some q → r ≢ q → is_of r e ≡ false
not_mine q r e own apart = ap (λ (o : Option ℕ). option_is o r) own ∙ go (q == r) refl
  where
    go : (b : Bool) → (q == r) ≡ b → b ≡ false
    go false is = refl
    go true is = absurd (apart (sym (eqb-true q r is)))

pub others_words : (j : Judge) (e : Entry) (r : ℕ) → is_of r e ≡ false → (job c : ℕ) → carried.words_after j e r job c ≡ j.words r job c
others_words j e r other job c = ap (λ (b : Bool). if b && option_is (job_of e.kind) job && awaits_of c (find (λ w. w.number == job) (j.states r).works) then word_after j.flights r c e.taken (j.words r job c) else j.words r job c) other
