-- The running jobs of a repository have numbers of their own, each is the one in its slot, and what is carried has those jobs.
use Rattle.std.proofs.Common.{◌≡◌, ℕ, ◌<◌, ◌≤◌, Bool, true, false, List, [], ◌∷◌, Some, refl, sym, ap, subst, ◌∙◌, arith}
use Rattle.std.specs.Prelude.{◌==◌, filter, find, if◌then◌else◌, map}
use Rattle.std.proofs.lemmas.Bool.Decides.{nat_tests}
use Rattle.annex_base.specs.Lists.{Each, Member}
use Rattle.annex_base.proofs.Lists.{Each-from_members, Each-member, filter_none, filter_no, filter_yes}
use Rattle.run_data.specs.Repos.{IsSetUp}
use Rattle.run_data.specs.declared.entry.Entry.{Entry}
use Rattle.run_data.specs.declared.run.Run.{Run}
use Rattle.node_model.specs.After.{AgreesAtDrops, state_after, states}
use Rattle.node_model.specs.Jobs.{Work, running_job}
use Rattle.node_model.specs.SetUp.{SetUp}
use Rattle.node_model.specs.State.{State}
use Rattle.run_model.specs.Past.{begun_count, is_of}
use Rattle.run_model.specs.Run.{OwnPast, OwnRun, RunPast, set_up}
use Rattle.run_model.specs.States.{state_of, works}
use Rattle.run_laws.specs.Sound.{IsSeated}
use Rattle.state_reads.specs.Reads.{IsOnly}
use Rattle.step_facts.proofs.JobNumbers.{Falling}
use Rattle.step_facts.proofs.Plain.{each_map}
use Rattle.step_facts.proofs.WorkNumbers.{number_begun, works_numbered}
use Rattle.past_facts.proofs.OwnRuns.{own_past}
use Rattle.step_judging.specs.Carried.{judge_of}
use Rattle.step_makes.specs.Numbers.{AreAlone}
use Rattle.node_model.specs.Slots.{RunningJob}

-- ---- one of each number

apart_below : (m n : ℕ) → m < n → (m == n) ≡ false
apart_below m n below = go (m == n) refl
  where
    go : (b : Bool) → (m == n) ≡ b → b ≡ false
    go false is = refl
    go true is = absurd (grind (arith, nat_tests))

apart_above : (m n : ℕ) → n < m → (m == n) ≡ false
apart_above m n above = go (m == n) refl
  where
    go : (b : Bool) → (m == n) ≡ b → b ≡ false
    go false is = refl
    go true is = absurd (grind (arith, nat_tests))

same_number : (n : ℕ) → (n == n) ≡ true
same_number n = grind (arith, nat_tests)

pub alone : (ws : List Work) → Falling (map running_job ws) → AreAlone ws
alone [] falls = tt
alone (w ∷ ws) falls = (
  filter_yes (λ v. v.number == w.number) w ws (same_number w.number)
      ∙ ap (λ vs. w ∷ vs) (filter_none (λ v. v.number == w.number) ws (Each-from_members (λ v. (v.number == w.number) ≡ false) ws (λ v m. apart_below v.number w.number (below v m)))),
  Each-from_members (IsOnly (w ∷ ws)) ws (λ v m. filter_no (λ u. u.number == v.number) w ws (apart_above w.number v.number (below v m)) ∙ only v m (alone ws falls.1)),
)
  where
    below : (v : Work) → Member v ws → v.number < w.number
    below v m = each_map (λ (j : RunningJob). j.number < w.number) running_job ws v falls.0 m

    only : (v : Work) → Member v ws → AreAlone ws → IsOnly ws v
    only v m all = Each-member (IsOnly ws) ws v all m

-- ---- what is carried

states_are : (s : ℕ → SetUp) (past : List Entry) (r : ℕ) → (judge_of s past).states r ≡ states (s r) (filter (is_of r) past)
states_are s [] r = refl
states_are s (e ∷ past) r = go (states_are s past r) (is_of r e)
  where
    go : (judge_of s past).states r ≡ states (s r) (filter (is_of r) past) → (b : Bool)
        → (if b then state_after (s r) ((judge_of s past).states r) e else (judge_of s past).states r) ≡ states (s r) (if b then e ∷ filter (is_of r) past else filter (is_of r) past)
    go ih true = ap (λ (st : State). state_after (s r) st e) ih
    go ih false = ih

abbrev pub StatesAgree : Type 0
StatesAgree = (s : SetUp) (past : List Entry) → OwnPast s past → AgreesAtDrops (state_of s past) (states s (filter (is_of s.number) past))

abbrev pub AreSeated : Type 0
AreSeated = (s : SetUp) (past : List Entry) → OwnRun s past → IsSeated (state_of s past)

module _ (agree : StatesAgree) (run : Run) (repos : Each IsSetUp run.repos) (past : List Entry) (h : RunPast (set_up run) past) (r : ℕ) where
  abbrev pub carried : State
  carried = (judge_of (set_up run) past).states r

  pub own : OwnPast (set_up run r) past
  own = own_past run repos r past h

  pub agreed : AgreesAtDrops (state_of (set_up run r) past) carried
  agreed = subst (AgreesAtDrops (state_of (set_up run r) past)) (sym (states_are (set_up run) past r)) (agree (set_up run r) past own)

  pub works_are : carried.works ≡ works past r
  works_are = sym (ap (λ (st : State). st.works) agreed.same)

  pub works_alone : AreAlone carried.works
  works_alone = subst AreAlone (sym works_are) (alone (works past r) (works_numbered (set_up run r) past own.run).falling)

  pub begun_numbers : (w : Work) → Member w carried.works → w.number ≤ begun_count past r
  begun_numbers w m = number_begun (set_up run r) past own.run w (subst (λ (ws : List Work). Member w ws) works_are m)

  pub works_seated : AreSeated → IsSeated carried
  works_seated seated =
      let is = seated (set_up run r) past own.run in
      record {
        slots = subst (λ (ws : List Work). (v w : Work) → Member v ws → Member w ws → v.number ≡ w.number → v.slot ≡ w.slot) (sym works_are) is.slots;
        seats = subst (λ (ws : List Work). (w : Work) → Member w ws → find (λ v. v.slot == w.slot) ws ≡ Some w) (sym works_are) is.seats;
      }
