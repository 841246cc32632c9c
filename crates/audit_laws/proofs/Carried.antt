-- What a judge carries of a state tells of a job's drop what the entries tell.
use Rattle.std.proofs.Common.{◌≡◌, ℕ, Bool, true, false, List, [], ◌∷◌, Some, refl, sym, ap, subst, ◌∙◌}
use Rattle.std.specs.Prelude.{◌==◌, filter, find, if◌then◌else◌, option_map, reverse}
use Rattle.annex_base.specs.Lists.{Member}
use Rattle.run_data.specs.declared.entry.Entry.{Entry}
use Rattle.run_data.specs.declared.run.Run.{Run}
use Rattle.node_model.specs.After.{AgreesAtDrops, state_after, states}
use Rattle.node_model.specs.Jobs.{Drops, Work}
use Rattle.node_model.specs.Knows.{Reading, proof_by, reading, standing_of}
use Rattle.node_model.specs.SetUp.{SetUp}
use Rattle.node_model.specs.State.{State}
use Rattle.run_model.specs.Past.{is_of}
use Rattle.run_model.specs.Run.{IsRun, OwnPast, set_up}
use Rattle.run_model.specs.States.{state_of, works}
use Rattle.past_facts.proofs.OwnRuns.{own_past}
use Rattle.dialogue_facts.proofs.WordsTold.{found_work}
use Rattle.step_judging.specs.Carried.{judge_of}
use Rattle.audit_laws.specs.Proofs.{carried_state, proof_after}

states_are : (s : ℕ → SetUp) (past : List Entry) (r : ℕ) → (judge_of s past).states r ≡ states (s r) (filter (is_of r) past)
states_are s [] r = refl
states_are s (e ∷ past) r = go (states_are s past r) (is_of r e)
  where
    go : (judge_of s past).states r ≡ states (s r) (filter (is_of r) past) → (b : Bool)
        → (if b then state_after (s r) ((judge_of s past).states r) e else (judge_of s past).states r) ≡ states (s r) (if b then e ∷ filter (is_of r) past else filter (is_of r) past)
    go ih true = ap (λ (st : State). state_after (s r) st e) ih
    go ih false = ih

abbrev pub StatesAgree : Type 0
StatesAgree = (s : SetUp) (past : List Entry) → OwnPast s past → AgreesAtDrops (state_of s past) (states s (filter (is_of s.number) past))

-- a drop reads of a state its clock, and what its job has read of the logs
reading_same : (s : SetUp) (st other : State) (w : Work) → st.clock ≡ other.clock → st.read w.number ≡ other.read w.number → reading s st w ≡ reading s other w
unfolding standing_of
reading_same s st other w clock read i = reading s (record st { clock = clock i; read = λ j. read i }) w

module _ (agree : StatesAgree) (run : Run) (h : IsRun run) (r : ℕ) where
  abbrev past : List Entry
  past = reverse run.entries

  pub own : OwnPast (set_up run r) (reverse run.entries)
  own = own_past run h.repos r (reverse run.entries) h.steps

  agreed : AgreesAtDrops (state_of (set_up run r) (reverse run.entries)) (carried_state run r)
  agreed = subst (AgreesAtDrops (state_of (set_up run r) (reverse run.entries))) (sym (states_are (set_up run) (reverse run.entries) r)) (agree (set_up run r) (reverse run.entries) own)

  -- **what is carried tells of a running drop what the state by the entries tells**
  pub told_as : (w : Work) → Member w (works (reverse run.entries) r) → w.part ≡ Drops
      → proof_after run r w.number ≡ Some (proof_by (reading (set_up run r) (state_of (set_up run r) (reverse run.entries)) w) w)
  told_as w m part =
      let s = set_up run r in
      let st = state_of s (reverse run.entries) in
      let other = carried_state run r in
      let jobs : other.works ≡ works (reverse run.entries) r = sym (ap (λ (x : State). x.works) agreed.same) in
      let found : find (λ v. v.number == w.number) other.works ≡ Some w = ap (find (λ v. v.number == w.number)) jobs ∙ found_work s (reverse run.entries) own.run w m in
      let same : reading s other w ≡ reading s st w = sym (reading_same s st other w (ap (λ (x : State). x.clock) agreed.same) (agreed.reads w m part)) in
      ap (option_map (λ v. proof_by (reading s other v) v)) found ∙ ap (λ (x : Reading). Some (proof_by x w)) same
