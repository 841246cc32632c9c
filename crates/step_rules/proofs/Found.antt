-- The row that an entry found, by what is carried.
use Rattle.std.proofs.Common.{◌≡◌, ℕ, ◌<◌, ◌≤◌, Bool, true, false, List, length, Option, Some, None, Result, IfOk, refl, sym, ap, ◌∙◌, arith}
use Rattle.std.specs.Prelude.{if◌then◌else◌, nat_lt, option_map, reverse, slice_get}
use Rattle.std.proofs.lemmas.Bool.Decides.{nat_tests}
use Rattle.run_data.specs.Repos.{IsSetUp}
use Rattle.run_data.specs.declared.entry.Entry.{Entry}
use Rattle.run_data.specs.declared.row.RowView.{RowView}
use Rattle.run_data.specs.declared.run.Run.{Run}
use Rattle.annex_base.specs.Lists.{Each}
use Rattle.node_model.specs.SetUp.{SetUp}
use Rattle.node_model.specs.State.{State}
use Rattle.run_model.specs.Run.{RunPast, set_up}
use Rattle.run_model.specs.States.{state_of}
use Rattle.step_judging.specs.Carried.{judge_of}
use Rattle.step_judging.specs.Verdicts.{absent_row, key_in, row_found, row_of}
use Rattle.step_state.specs.States.{IsStateOf}
use Rattle.step_state.specs.declared.state.RepoState.{RepoState}
use Rattle.step_rules.specs.States.{IsAfter, state_at}
use Rattle.step_rules.specs.declared.member.Member.{Member}
use Rattle.step_rules.specs.declared.run_state.RunState.{RunState}
use Rattle.step_rules.proofs.Alone.{StatesAgree, agreed}
use Rattle.step_rules.proofs.Places.{place_in, place_past}
use Rattle.step_rules.proofs.Rules.{ok_map}

row_agrees : (st other : State) → st ≡ record other { read = st.read } → (time : ℕ) (o : Option (List ℕ)) → row_of other (other.clock time) o ≡ row_of st (st.clock time) o
row_agrees st other same time None = refl
row_agrees st other same time (Some key) = sym (ap (λ (x : State). row_of x (x.clock time) (Some key)) same)

-- of a repository of the run
pub found_here : StatesAgree → (run : Run) → Each IsSetUp run.repos → (past : List Entry) → RunPast (set_up run) past → (e : Entry) (r : ℕ) → r < length run.repos → (row : RowView)
    → row ≡ row_of ((judge_of (set_up run) past).states r) (((judge_of (set_up run) past).states r).clock e.time) (key_in e.kind) → row ≡ row_found (set_up run) past e (Some r)
found_here agree run repos past steps e r known row is =
    let here : nat_lt r (length run.repos) ≡ true = grind (arith, nat_tests) in
    let st = state_of (set_up run r) past in
    is ∙ row_agrees st ((judge_of (set_up run) past).states r) (agreed agree run repos past steps r).same e.time (key_in e.kind)
    ∙ sym (ap (λ (b : Bool). if b then row_of st (st.clock e.time) (key_in e.kind) else absent_row) here)

-- of none
pub found_none : (run : Run) (past : List Entry) (e : Entry) (r : ℕ) → length run.repos ≤ r → (row : RowView) → row ≡ absent_row → row ≡ row_found (set_up run) past e (Some r)
found_none run past e r far row is =
    let st = state_of (set_up run r) past in
    is ∙ sym (ap (λ (b : Bool). if b then row_of st (st.clock e.time) (key_in e.kind) else absent_row) (beyond (nat_lt r (length run.repos)) refl))
  where
    beyond : (b : Bool) → nat_lt r (length run.repos) ≡ b → b ≡ false
    beyond false is = refl
    beyond true is = absurd (grind (arith, nat_tests))

-- ---- of any entry

module _ {E : Type 0} (agree : StatesAgree) (x : RunState) (count : length x.members.items ≡ length x.repos.now) (e : Entry) (row : Result RowView E) (held : Option RepoState)
    (is : held ≡ state_at x.members.items e.repo) (none : held ≡ None → IfOk row (λ y. y ≡ absent_row))
    (some : (z : RepoState) → held ≡ Some z → IfOk row (λ y. (s : SetUp) (st : State) → IsStateOf z s st → y ≡ row_of st (st.clock e.time) (key_in e.kind))) where
  abbrev Tells : RowView → Type 0
  Tells y = (run : Run) → IsAfter x run → y ≡ row_found (set_up run) (reverse run.entries) e e.repo

  found_by : (r : ℕ) → e.repo ≡ Some r → (q : Option Member) → slice_get x.members.items r ≡ q → IfOk row Tells
  found_by r own None at =
      ok_map row _ Tells
      (λ y absent. λ run after.
      let far = place_past x.members.items r at in
      let same = ap length after.repos in
      found_none run (reverse run.entries) e r (omega (arith, far, same, count)) y absent ∙ ap (row_found (set_up run) (reverse run.entries) e) (sym own))
      (none (is ∙ ap (state_at x.members.items) own ∙ ap (option_map (λ (m : Member). m.state)) at))
  found_by r own (Some m) at =
      ok_map row _ Tells
      (λ y tells. λ run after.
      let past = reverse run.entries in
      let low = place_in x.members.items r m at in
      let same = ap length after.repos in
      found_here agree run after.lawful.repos past after.lawful.steps e r (omega (arith, low, same, count)) y (tells (set_up run r) ((judge_of (set_up run) past).states r) (after.judge.members r m at).state)
      ∙ ap (row_found (set_up run) past e) (sym own))
      (some m.state (is ∙ ap (state_at x.members.items) own ∙ ap (option_map (λ (n : Member). n.state)) at))

  pub found_all : IfOk row Tells
  found_all = go e.repo refl
    where
      go : (o : Option ℕ) → e.repo ≡ o → IfOk row Tells
      go None waits = ok_map row _ Tells (λ y absent. λ run after. absent ∙ ap (row_found (set_up run) (reverse run.entries) e) (sym waits)) (none (is ∙ ap (state_at x.members.items) waits))
      go (Some r) own = found_by r own (slice_get x.members.items r) refl
