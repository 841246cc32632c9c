-- The steps of a run at a place, and the parts of its repositories there.
use Rattle.std.proofs.Common.{◌≡◌, ℕ, ◌+◌, ◌≤◌, Bool, true, false, ◌&&◌, List, ◌∷◌, Some, subst, arith}
use Rattle.std.specs.Prelude.{if◌then◌else◌, slice_get}
use Rattle.annex_base.proofs.Pasts.{past_before}
use Rattle.run_data.specs.declared.entry.Entry.{Entry}
use Rattle.run_data.specs.declared.run.Run.{Run}
use Rattle.run_model.specs.Past.{begun_count, is_of}
use Rattle.node_model.specs.Slots.{is_begin}
use Rattle.run_model.specs.Safety.{past_at}
use Rattle.run_model.specs.Run.{IsRun, OwnPast, RunPast, RunStep, set_up}
use Rattle.past_facts.proofs.OwnRuns.{Part, own_past, part_of}
use Rattle.past_facts.proofs.EntryPlaces.{past_next}

pub steps_at : (run : Run) (place : ℕ) → IsRun run → RunPast (set_up run) (past_at run place)
steps_at run place h = past_before (RunPast (set_up run)) (λ e past k. k.1) place run.entries h.steps

step_at : (run : Run) (place : ℕ) (e : Entry) → IsRun run → slice_get run.entries place ≡ Some e → RunStep (set_up run) (past_at run place) e
step_at run place e h at =
    let k : RunStep (set_up run) (past_at run place) e × RunPast (set_up run) (past_at run place) = subst (λ past. RunPast (set_up run) past) (past_next run place e at) (steps_at run (place + 1) h) in k.0

pub own_at : (run : Run) (place r : ℕ) → IsRun run → OwnPast (set_up run r) (past_at run place)
own_at run place r h = own_past run h.repos r (past_at run place) (steps_at run place h)

pub part_at : (run : Run) (place r : ℕ) (e : Entry) → IsRun run → slice_get run.entries place ≡ Some e → is_of r e ≡ true → Part (set_up run) (past_at run place) r e
part_at run place r e h at is = part_of (set_up run) (past_at run place) e r (step_at run place e h at) is

-- an entry that begins a job counts from then on
pub begun_more : (e : Entry) (past : List Entry) (r : ℕ) → begun_count past r ≤ begun_count (e ∷ past) r
begun_more e past r = go (is_of r e && is_begin e.kind)
  where
    go : (b : Bool) → begun_count past r ≤ (if b then begun_count past r + 1 else begun_count past r)
    go true = omega arith
    go false = omega arith
