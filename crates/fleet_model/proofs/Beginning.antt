-- A job begins, in a node and in the driver.
use Rattle.std.proofs.Common.{◌≡◌, ℕ, ◌+◌, ◌<◌, ◌≤◌, Bool, true, false, List, [], length, refl, sym, ap, ◌∙◌, subst, arith}
use Rattle.std.specs.Prelude.{if◌then◌else◌, nat_lt}
use Rattle.std.proofs.lemmas.Bool.Decides.{nat_tests}
use Rattle.std.proofs.lemmas.List.{length-map}
use Rattle.run_data.specs.declared.entry.Entry.{Entry}
use Rattle.run_data.specs.declared.entry.EntryKind.TheVariants as kinds
use Rattle.run_data.specs.declared.job.Job.{Job}
use Rattle.joined_nodes.specs.Tasks.{work_now}
use Rattle.joined_nodes.specs.Running.{AreWorks, Jobs}
use Rattle.node_model.specs.After.{AgreesAtDrops}
use Rattle.node_model.specs.State.{State}
use Rattle.run_model.specs.Past.{begun_count}
use Rattle.run_model.specs.States.{works}
use Rattle.driver_model.specs.Driver.{Driver, DriverInput, notes, set_up_of, state_at}
use Rattle.driver_model.specs.ScriptSteps.{begins}
use Rattle.joined_nodes.specs.Nodes as nodes
use Rattle.joined_nodes.specs.Nodes.{NodeView, with_entry}
use Rattle.joined_nodes.specs.Stored.{StoreView}
use Rattle.fleet_model.proofs.Noting.{IsRaised, noted}

-- the node after it began a job of this number, with these jobs
abbrev pub begun : {K : Type 0} → NodeView K → ℕ → Job → Jobs → NodeView K
begun n number job now = record (with_entry n n.keeper n.branch (kinds.Begin number job) []) { parts = record n.parts { jobs = now } }

same_works : (st st' : State) (jobs : Jobs) → AgreesAtDrops st st' → st'.works ≡ Rattle.std.specs.Prelude.map work_now jobs.running → length st.works ≡ length jobs.running
same_works st st' jobs agrees are = ap (λ (x : State). length x.works) agrees.same ∙ (ap length are ∙ length-map jobs.running work_now)

-- the jobs that were begun in the driver are the node's
pub same_begun : (g : DriverInput) (d : Driver) (r : ℕ) (history : List Entry) (jobs : Jobs)
    → AgreesAtDrops (state_at g d r) (nodes.state_of (set_up_of g d r) history) → AreWorks (set_up_of g d r) (nodes.state_of (set_up_of g d r) history) jobs → jobs.begun ≡ begun_count d.past r
same_begun g d r history jobs agrees are = sym are.begun ∙ sym (ap (λ (x : State). x.begun) agrees.same)

-- with a free slot the driver begins the job
pub has_slot : (g : DriverInput) (d : Driver) (r : ℕ) (history : List Entry) (jobs : Jobs)
    → AgreesAtDrops (state_at g d r) (nodes.state_of (set_up_of g d r) history) → AreWorks (set_up_of g d r) (nodes.state_of (set_up_of g d r) history) jobs → length jobs.running < 4
    → nat_lt (length (works d.past r)) 4 ≡ true
has_slot g d r history jobs agrees are free = below (length (works d.past r)) (length jobs.running) (same_works (state_at g d r) (nodes.state_of (set_up_of g d r) history) jobs agrees are.works) free
  where
    below : (a b : ℕ) → a ≡ b → b < 4 → nat_lt a 4 ≡ true
    below a b e less = grind (arith, nat_tests)

pub begins_there : {K : Type 0} (tells : K → StoreView) (g : DriverInput) (d : Driver) (r : ℕ) (n : NodeView K) (number : ℕ) (job : Job) (now : Jobs)
    → IsRaised tells g d r n
    → AgreesAtDrops (state_at g d r) (nodes.state_of (set_up_of g d r) n.history) → AreWorks (set_up_of g d r) (nodes.state_of (set_up_of g d r) n.history) n.parts.jobs
    → number ≡ n.parts.jobs.begun + 1 → length n.parts.jobs.running < 4 → IsRaised tells g (begins r job d) r (begun n number job now)
begins_there tells g d r n number job now raised agrees are numbered free =
    subst (λ (b : Bool). IsRaised tells g (if b then notes r (kinds.Begin (begun_count d.past r + 1) job) [] d else d) r (begun n number job now)) (sym few)
    (let on = noted tells g d d r n n.keeper n.branch (kinds.Begin number job) [] raised refl refl (record { contents = raised.store.contents; parts = raised.store.parts; failing = raised.store.failing }) in
    subst (λ (m : ℕ). IsRaised tells g (notes r (kinds.Begin m job) [] d) r (begun n number job now)) which
    (record {
      entries = record { setup = on.entries.setup; history = on.entries.history; branch = on.entries.branch; time = on.entries.time; count = on.entries.count };
      store = on.store;
    }))
  where
    which : number ≡ begun_count d.past r + 1
    which = numbered ∙ ap (λ (m : ℕ). m + 1) (same_begun g d r n.history n.parts.jobs agrees are)

    few : nat_lt (length (works d.past r)) 4 ≡ true
    few = has_slot g d r n.history n.parts.jobs agrees are free

pub begins_nowhere : {K : Type 0} (tells : K → StoreView) (g : DriverInput) (d : Driver) (r : ℕ) (n : NodeView K) (job : Job)
    → AgreesAtDrops (state_at g d r) (nodes.state_of (set_up_of g d r) n.history) → AreWorks (set_up_of g d r) (nodes.state_of (set_up_of g d r) n.history) n.parts.jobs
    → 4 ≤ length n.parts.jobs.running → begins r job d ≡ d
begins_nowhere tells g d r n job agrees are full =
    ap (λ (b : Bool). if b then notes r (kinds.Begin (begun_count d.past r + 1) job) [] d else d) many
  where
    above : (a b : ℕ) → a ≡ b → 4 ≤ b → nat_lt a 4 ≡ false
    above a b e less = grind (arith, nat_tests)

    many : nat_lt (length (works d.past r)) 4 ≡ false
    many = above (length (works d.past r)) (length n.parts.jobs.running) (same_works (state_at g d r) (nodes.state_of (set_up_of g d r) n.history) n.parts.jobs agrees are.works) full
