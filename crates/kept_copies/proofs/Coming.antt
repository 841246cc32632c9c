-- A content that came is a copy: the repository to which it came is one of the run.
use Rattle.std.proofs.Common.{◌≡◌, ℕ, ◌+◌, ◌<◌, ◌≤◌, Bool, true, List, ◌∷◌, length, Option, Some, None, refl, sym, ap, ◌∙◌, subst, arith}
use Rattle.std.specs.Prelude.{bytes_eq, if◌then◌else◌, slice_get}
use Rattle.std.specs.List.{range_with_len}
use Rattle.std.proofs.lemmas.Bool.{or_right}
use Rattle.annex_base.proofs.Conditions.{bytes_eq-refl, eqb_refl}
use Rattle.annex_base.proofs.Numbers.{Member-range}
use Rattle.annex_base.proofs.Pasts.{past_before}
use Rattle.run_data.specs.declared.entry.By.{By}
use Rattle.run_data.specs.declared.entry.Entry.{Entry}
use Rattle.run_data.specs.declared.entry.EntryKind.{EntryKind}
use Rattle.run_data.specs.declared.entry.EntryKind.TheVariants.{Gain}
use Rattle.run_data.specs.declared.run.Run.{Run}
use Rattle.node_model.specs.Rows.{option_is, present_after}
use Rattle.run_model.specs.Past.{now, present}
use Rattle.run_model.specs.Run.{IsRun, MayBe, RunPast, RunStep, TimeIs, set_up}
use Rattle.run_model.specs.Safety.{copies_at, past_at}
use Rattle.past_facts.proofs.EntryPlaces.{past_next}
use Rattle.kept_copies.proofs.Counting.{counts_some}
use Rattle.kept_copies.proofs.Staying.{copies_after}

-- the entry of a repository by which a content comes
pub gained : (e : Entry) (past : List Entry) (r size : ℕ) (by : By) (key : List ℕ) → e.repo ≡ Some r → e.kind ≡ Gain by size key → present (e ∷ past) r key ≡ true
gained e past r size by key repo kind =
    ap (λ (b : Bool). if b then present_after key (present past r key) e.kind else present past r key) (ap (λ (o : Option ℕ). option_is o r) repo ∙ eqb_refl r)
    ∙ ap (present_after key (present past r key)) kind
    ∙ or_right (present past r key) (bytes_eq key key) (bytes_eq-refl key)

-- one repository of the run has it
pub one_has : (run : Run) (key : List ℕ) (past : List Entry) (r : ℕ) → r < length run.repos → present past r key ≡ true → 1 ≤ copies_after run key past
one_has run key past r known h = counts_some (λ q. present past q key) (range_with_len 0 (length run.repos)) r (Member-range 0 (length run.repos) r (omega arith) (omega (arith, known))) h

step_at : (run : Run) (place : ℕ) (e : Entry) → IsRun run → slice_get run.entries place ≡ Some e → RunStep (set_up run) (past_at run place) e
step_at run place e is at =
    let k : RunStep (set_up run) (past_at run place) e × RunPast (set_up run) (past_at run place) =
    subst (λ (past : List Entry). RunPast (set_up run) past) (past_next run place e at) (past_before (RunPast (set_up run)) (λ x past h. h.1) (place + 1) run.entries is.steps) in
    k.0

pub came : (run : Run) (key : List ℕ) (place size : ℕ) (e : Entry) (by : By) → IsRun run → slice_get run.entries place ≡ Some e → e.kind ≡ Gain by size key → 1 ≤ copies_at run key (place + 1)
came run key place size e by is at kind = go e.repo refl x.order.time_is x.may
  where
    x : RunStep (set_up run) (past_at run place) e
    x = step_at run place e is at

    go : (o : Option ℕ) → e.repo ≡ o → TimeIs (now (past_at run place)) e e.kind o → MayBe (set_up run) (past_at run place) e o → 1 ≤ copies_at run key (place + 1)
    go None repo time may = let never : ⊥ = subst (λ (k : EntryKind). TimeIs (now (past_at run place)) e k None) kind time in absurd never
    go (Some r) repo time may =
        let known : r < length run.repos = may.1.known in
        subst (λ (past : List Entry). 1 ≤ copies_after run key past) (sym (past_next run place e at)) (one_has run key (e ∷ past_at run place) r known (gained e (past_at run place) r size by key repo kind))
