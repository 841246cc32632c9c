-- A job met a full history as it began: the driver's step comes to an entry of that node.
use Rattle.std.proofs.Common.{◌≡◌, ℕ, ◌<◌, List, Some, Result, Err, length, sym, ap, ◌∙◌, subst}
use Rattle.std.specs.Prelude.{IsErrOf, OnErr, slice_get}
use Rattle.run_data.specs.Histories.{most_entries}
use Rattle.run_data.specs.declared.job.Job.{Job}
use Rattle.run_data.specs.declared.run.Run.{Run}
use Rattle.fleet_entries.specs.Parts.{AreParts}
use Rattle.driver_model.specs.Driver.{Driver, DriverInput, set_up_of}
use Rattle.driver_model.specs.Limits.{StopsAtFull}
use Rattle.driver_model.specs.ScriptSteps.{begins}
use Rattle.fleet_entries.specs.Nodes.{NodeView, state_of}
use Rattle.fleet_entries.specs.Stored.{StoreView}
use Rattle.fleet_entries.specs.declared.BeginRefused.{BeginRefused}
use Rattle.fleet_entries.specs.Fleets.{FleetView, HasCome}
use Rattle.fleet_entries.specs.Stopping.{OthersAreFew}
use Rattle.fleet_entries.specs.AtDriver.{EndsAtFull}
use Rattle.fleet_entries.specs.Telling.{AreFew}
use Rattle.fleet_entries.specs.declared.BeginRefused.TheVariants as begin_refusals
use Rattle.fleet_keys.proofs.Beginning.{BeginsJob, has_parts}
use Rattle.fleet_entries.proofs.Called.{IsCalled}
use Rattle.fleet_entries.proofs.Full.{ends_at, run_stays}

-- ---- jobs

-- the law of a job
abbrev pub JobStops : {K : Type 0} → (K → StoreView) → Type 0
JobStops {K} tells = (g : DriverInput) (d : Driver) (r : ℕ) (n : NodeView K) (was : FleetView K) → HasCome tells g d was → slice_get was.nodes r ≡ Some n → OthersAreFew r was.nodes
    → (job : Job) → AreParts (set_up_of g d r) (state_of (set_up_of g d r) n.history) n.parts → length n.history ≡ most_entries → length n.parts.jobs.running < 4 → StopsAtFull g r (begins r job d) was.run

-- what a call that begins a job makes of a node that meets a full history
pub record RefusesJob {K : Type 0} (n m : NodeView K) : Type 0 where
  pub node : m ≡ n
  pub full : length n.history ≡ most_entries
  pub free : length n.parts.jobs.running < 4

pub refuses_job : {K : Type 0} (job : Job) (paths : List (List ℕ)) (done : Result ℕ BeginRefused) (n m : NodeView K) → done ≡ Err begin_refusals.Full → BeginsJob job paths done n m → (IsErrOf done begin_refusals.Full → length n.history ≡ most_entries)
    → RefusesJob n m
refuses_job {K} job paths done n m is so full = record {
  node = subst (λ (a : Result ℕ BeginRefused). OnErr a (m ≡ n)) is so.err;
  full = full is;
  free = so.free (λ other. full_or_not (sym is ∙ other));
}
  where
    as_full : Result ℕ BeginRefused
    as_full = Err begin_refusals.Full

    full_or_not : as_full ≡ Err begin_refusals.NoSlot → ⊥
    full_or_not e = absurd (cc)

pub begins_end : {K : Type 0} (tells : K → StoreView) (r : ℕ) (was up after : FleetView K) (job : Job) → JobStops tells → r < length was.nodes → IsCalled tells r was up after RefusesJob
    → AreFew after.nodes → EndsAtFull tells r (λ g d. begins r job d) was after
begins_end {K} tells r was up after job law there call few =
    ends_at tells (λ g d. begins r job d) r was up after RefusesJob there call few
    (λ g d come others s.
    subst (λ (run : Run). StopsAtFull g r (begins r job d) run) (sym (run_stays s.before s.left was after s.goes.run (ap (λ (x : NodeView K). x.history) s.holds.node)))
    (law g d r s.before was come s.goes.before others job (has_parts tells g d r s.before (come.each r s.before s.goes.before) s.whole) s.holds.full s.holds.free))
