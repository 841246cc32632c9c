-- A job that begins at a node: a fleet goes on as the driver does.
use Rattle.std.proofs.Common.{◌≡◌, ℕ, ◌+◌, ◌<◌, ◌≤◌, ◌^◌, ◌⊎◌, false, List, [], Option, Some, None, Result, Ok, Err, inl, inr, length, refl, sym, ap, ◌∙◌, subst}
use Rattle.std.specs.Prelude.{◌==◌, IfOk, IsErrOf, OnErr, OnOk, slice_get}
use Rattle.std.proofs.lemmas.Bool.{eqb-false}
use Rattle.std.proofs.lemmas.List.{length-map, length-reverse}
use Rattle.annex_base.proofs.Lists.{slice_get-within}
use Rattle.annex_key.specs.Tree.{paths_of}
use Rattle.annex_key.specs.View.{first_fault}
use Rattle.run_data.specs.declared.job.JobKind.{JobKind}
use Rattle.run_data.specs.declared.run.RepoView.{RepoView}
use Rattle.run_data.specs.declared.run.Run.{Run}
use Rattle.run_data.specs.declared.job.Job.{Job}
use Rattle.run_model.specs.Run.{tree_at}
use Rattle.driver_model.specs.Driver.{Driver, DriverInput, set_up_of}
use Rattle.driver_model.specs.Scripts.{IsJob, IsKnown, IsOther}
use Rattle.driver_model.specs.ScriptSteps.{begins}
use Rattle.driver_model.specs.Sound.{StaysSound}
use Rattle.fleet_entries.specs.Beginning.{Begins, MayBegin}
use Rattle.fleet_entries.specs.Parts.{AreParts, PartsView}
use Rattle.node_model.specs.OwedLines.{OwedLine}
use Rattle.node_model.specs.SetUp.{SetUp}
use Rattle.node_model.specs.State.{State}
use Rattle.object_store.specs.Stores.{Contents, Parts}
use Rattle.union_merge.specs.Branch.{Files}
use Rattle.fleet_entries.specs.Nodes.{IsState, NodeView, state_of, told_of, with_entry}
use Rattle.fleet_entries.specs.Stored.{StoreView}
use Rattle.fleet_entries.specs.declared.BeginRefused.{BeginRefused}
use Rattle.fleet_entries.specs.Fleets.{FleetView, HasCome, IsNodeOf}
use Rattle.fleet_entries.specs.Joined.{ids_of}
use Rattle.fleet_entries.specs.Stores.{IsTold}
use Rattle.fleet_entries.specs.Turns.{IsWhole}
use Rattle.fleet_entries.specs.Steps.{OneGoesOn, with_newest}
use Rattle.fleet_entries.specs.Telling.{Raises}
use Rattle.fleet_entries.specs.AtDriver.{GoesOn, IsDriven}
use Rattle.run_data.specs.declared.entry.EntryKind.TheVariants as kinds
use Rattle.run_data.specs.declared.job.JobKind.TheVariants as job_kinds
use Rattle.fleet_entries.specs.declared.BeginRefused.TheVariants as refusals
use Rattle.fleet_entries.proofs.Called.{IsCalled, goes_on, raised_is}
use Rattle.fleet_keys.specs.Jobs.{MayBeginAmong}

-- ---- jobs

-- the law of a job that began
abbrev pub JobLaw : {K : Type 0} → (K → StoreView) → Type 0
JobLaw {K} tells = (g : DriverInput) (d : Driver) (r : ℕ) (n m : NodeView K) (was after : FleetView K) (number : ℕ) (job : Job) (paths : List (List ℕ)) → HasCome tells g d was → OneGoesOn r n m was after → paths ≡ paths_of (tree_at d.tree (length d.past)) job.key
    → AreParts (set_up_of g d r) (state_of (set_up_of g d r) n.history) n.parts → number ≡ n.parts.jobs.begun + 1 → length n.parts.jobs.running < 4
    → Begins n.parts.jobs job paths m.parts.jobs → m ≡ record (with_entry (with_newest d n) n.keeper n.branch (kinds.Begin number job) []) { parts = record n.parts { jobs = m.parts.jobs } }
    → m.time ≤ 1000000000000 → m.count < 2 ^ 62 → StaysSound g d (begins r job d) → HasCome tells g (begins r job d) after

-- the law of one that didn't
abbrev pub NoSlotLaw : {K : Type 0} → (K → StoreView) → Type 0
NoSlotLaw {K} tells = (g : DriverInput) (d : Driver) (r : ℕ) (n m : NodeView K) (was after : FleetView K) (job : Job) → HasCome tells g d was → OneGoesOn r n m was after
    → AreParts (set_up_of g d r) (state_of (set_up_of g d r) n.history) n.parts → 4 ≤ length n.parts.jobs.running → m ≡ with_newest d n
    → m.time ≤ 1000000000000 → m.count < 2 ^ 62 → StaysSound g d (begins r job d) → HasCome tells g (begins r job d) after

-- what a call of a node that begins a job makes of it, where it answers so
pub record BeginsJob {K : Type 0} (job : Job) (paths : List (List ℕ)) (done : Result ℕ BeginRefused) (n m : NodeView K) : Type 0 where
  pub number : IfOk done (λ number. number ≡ n.parts.jobs.begun + 1)
  pub jobs : OnOk done (Begins n.parts.jobs job paths m.parts.jobs)
  pub ok : IfOk done (λ number. m ≡ record (with_entry n n.keeper n.branch (kinds.Begin number job) []) { parts = record n.parts { jobs = m.parts.jobs } })
  pub slot : IsErrOf done refusals.NoSlot → 4 ≤ length n.parts.jobs.running
  pub free : (done ≡ Err refusals.NoSlot → ⊥) → length n.parts.jobs.running < 4
  pub err : OnErr done (m ≡ n)

-- where the store tells, the node's parts are those of the state that its history leaves
told_parts : (s : SetUp) (parts : PartsView) (branch : Files) (owed : List OwedLine) (cs : Option Contents) (ps : Option Parts) (st : State) (P : Contents → Type 0) (Q : Parts → Type 0)
    → IsTold cs P → IsTold ps Q → IsState s parts branch owed (told_of cs ps) st → AreParts s st parts
told_parts s parts branch owed None ps st P Q c p is = absurd c
told_parts s parts branch owed (Some contents) None st P Q c p is = absurd p
told_parts s parts branch owed (Some contents) (Some stored) st P Q c p is = (is.stands contents refl).parts_are

pub has_parts : {K : Type 0} (tells : K → StoreView) (g : DriverInput) (d : Driver) (r : ℕ) (n : NodeView K) → IsNodeOf tells g d r n → IsWhole tells (with_newest d n)
    → AreParts (set_up_of g d r) (state_of (set_up_of g d r) n.history) n.parts
has_parts tells g d r n is whole =
    told_parts (set_up_of g d r) n.parts n.branch n.owed (tells n.keeper).contents (tells n.keeper).parts (state_of (set_up_of g d r) n.history) _ _ is.store.contents is.store.parts (whole.state (set_up_of g d r) is.setup)

begun_or_not : (done : Result ℕ BeginRefused) (number : ℕ) → done ≡ Ok number → done ≡ Err refusals.NoSlot → ⊥
begun_or_not done number ok none = absurd (cc)

-- the paths of a key in the tree of a run
abbrev pub paths_in : Run → List ℕ → List (List ℕ)
paths_in run key = paths_of (tree_at run.tree (length run.entries)) key

-- are those of the driver's
paths_now : {K : Type 0} (tells : K → StoreView) (g : DriverInput) (d : Driver) (was : FleetView K) (key : List ℕ) → HasCome tells g d was → paths_in was.run key ≡ paths_of (tree_at d.tree (length d.past)) key
paths_now tells g d was key come = ap (λ (run : Run). paths_in run key) come.run ∙ ap (λ (n : ℕ). paths_of (tree_at d.tree n) key) (length-reverse d.past)

pub begins_go : {K : Type 0} (tells : K → StoreView) (r : ℕ) (was up after : FleetView K) (job : Job) (paths : List (List ℕ)) (done : Result ℕ BeginRefused) → paths ≡ paths_in was.run job.key → JobLaw tells → NoSlotLaw tells → r < length was.nodes
    → IsCalled tells r was up after (BeginsJob job paths done) → ((number : ℕ) × (done ≡ Ok number)) ⊎ (done ≡ Err refusals.NoSlot)
    → ((g : DriverInput) (d : Driver) → length was.nodes ≡ length g.repos → IsKnown g r → StaysSound g d (begins r job d)) → GoesOn tells (λ g d. begins r job d) was after
begins_go {K} tells r was up after job paths done are law no_slot there call (inl e) sound =
    goes_on tells (λ g d. begins r job d) r was up after (BeginsJob job paths done) there call
    (λ g d come known s.
    let n : NodeView K = with_newest d s.before in
    law g d r s.before s.left was after e.0 job paths come s.goes (are ∙ paths_now tells g d was job.key come) (has_parts tells g d r s.before (come.each r s.before s.goes.before) s.whole)
    (subst (λ (a : Result ℕ BeginRefused). IfOk a (λ number. number ≡ n.parts.jobs.begun + 1)) e.1 s.holds.number) (s.holds.free (begun_or_not done e.0 e.1))
    (subst (λ (a : Result ℕ BeginRefused). OnOk a (Begins n.parts.jobs job paths s.left.parts.jobs)) e.1 s.holds.jobs)
    (subst (λ (a : Result ℕ BeginRefused). IfOk a (λ number. s.left ≡ record (with_entry n n.keeper n.branch (kinds.Begin number job) []) { parts = record n.parts { jobs = s.left.parts.jobs } })) e.1 s.holds.ok)
    s.early s.counted (sound g d come.count known))
begins_go {K} tells r was up after job paths done are law no_slot there call (inr e) sound =
    goes_on tells (λ g d. begins r job d) r was up after (BeginsJob job paths done) there call
    (λ g d come known s.
    no_slot g d r s.before s.left was after job come s.goes (has_parts tells g d r s.before (come.each r s.before s.goes.before) s.whole) (s.holds.slot e)
    (subst (λ (a : Result ℕ BeginRefused). OnErr a (s.left ≡ with_newest d s.before)) e s.holds.err)
    s.early s.counted (sound g d come.count known))

-- the same, where the node was given a copy of the job
pub begins_go_so : {K : Type 0} (tells : K → StoreView) (r : ℕ) (was up after : FleetView K) (job job' : Job) (paths : List (List ℕ)) (done : Result ℕ BeginRefused) → job' ≡ job → paths ≡ paths_in was.run job.key → JobLaw tells → NoSlotLaw tells → r < length was.nodes
    → IsCalled tells r was up after (BeginsJob job' paths done) → ((number : ℕ) × (done ≡ Ok number)) ⊎ (done ≡ Err refusals.NoSlot)
    → ((g : DriverInput) (d : Driver) → length was.nodes ≡ length g.repos → IsKnown g r → StaysSound g d (begins r job d)) → GoesOn tells (λ g d. begins r job d) was after
begins_go_so {K} tells r was up after job job' paths done same are law no_slot there call ended sound =
    begins_go tells r was up after job paths done are law no_slot there (subst (λ (j : Job). IsCalled tells r was up after (BeginsJob j paths done)) same call) ended sound

-- ---- which jobs

-- another of these repositories is another of the driver's
other_is : (g : DriverInput) (r : ℕ) (ids : List (List ℕ)) (other : ℕ) → length ids ≡ length g.repos → (other < length ids) × ((r == other) ≡ false) → IsOther g r other
other_is g r ids other many is = (subst (λ (count : ℕ). other < count) many is.0, (λ same. eqb-false r other is.1 (sym same)))

-- a job that may begin among these repositories is one that the driver's may begin
one_job : (g : DriverInput) (r : ℕ) (ids : List (List ℕ)) (kind : JobKind) (key : List ℕ) (path : Option (List ℕ)) (peer : Option ℕ) → length ids ≡ length g.repos → first_fault key ≡ None
    → MayBegin (record { number = r; ids = ids }) kind peer → IsJob g r (record { kind = kind; key = key; path = path; peer = peer })
one_job g r ids job_kinds.Drop key path None many valid may = record { peer = refl; valid = valid }
one_job g r ids job_kinds.Get key path None many valid may = record { peer = refl; valid = valid }
one_job g r ids job_kinds.Copy key path None many valid may = absurd may
one_job g r ids job_kinds.MoveTo key path None many valid may = absurd may
one_job g r ids job_kinds.MoveFrom key path None many valid may = absurd may
one_job g r ids kind key path (Some peer) many valid may = record { peer = other_is g r ids peer many may; valid = valid }

pub begun_job : (g : DriverInput) (r count : ℕ) (job : Job) → count ≡ length g.repos → MayBeginAmong count r job → first_fault job.key ≡ None → IsJob g r job
begun_job g r count job many may valid =
    let long : length (ids_of g.repos) ≡ length g.repos = length-map g.repos (λ (repo : RepoView). repo.id) in
    one_job g r (ids_of g.repos) job.kind job.key job.path job.peer long valid (may (ids_of g.repos) (long ∙ sym many))

-- and a job that may begin among all may begin at their node, once this was raised
pub node_begins : {K : Type 0} (tells : K → StoreView) (r had : ℕ) (was up : FleetView K) (what job : Job) → IsDriven tells was → Raises tells r had was up → r < length was.nodes → job ≡ what → MayBeginAmong (length was.nodes) r what
    → (n : NodeView K) → slice_get up.nodes r ≡ Some n → MayBegin (record { number = n.setup.number; ids = n.setup.repos }) job.kind job.peer
node_begins {K} tells r had was up what job driven raises there same may n at =
    let found : (b : NodeView K) × (slice_get was.nodes r ≡ Some b) = slice_get-within was.nodes r there in
    let b : NodeView K = found.0 in
    let come : HasCome tells driven.given driven.driver was = driven.stands.come in
    let setup = (come.each r b found.1).setup in
    let is : n ≡ with_newest driven.driver b = raised_is tells driven.given driven.driver r had was up b n come raises found.1 at in
    let many : length b.setup.repos ≡ length was.nodes = sym (ap length setup.ids) ∙ (length-map driven.given.repos (λ (repo : RepoView). repo.id) ∙ sym come.count) in
    subst (λ (x : NodeView K). MayBegin (record { number = x.setup.number; ids = x.setup.repos }) job.kind job.peer) (sym is)
    (subst (λ (j : Job). MayBegin (record { number = b.setup.number; ids = b.setup.repos }) j.kind j.peer) (sym same)
    (subst (λ (number : ℕ). MayBegin (record { number = number; ids = b.setup.repos }) what.kind what.peer) setup.number (may b.setup.repos many)))
