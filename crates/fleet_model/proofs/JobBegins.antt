-- A fleet whose node began a job, or had no slot for it, has come to where the driver is.
use Rattle.std.proofs.Common.{◌≡◌, ℕ, ◌+◌, ◌<◌, ◌≤◌, ◌^◌, Bool, true, false, List, [], ◌∷◌, length, Some, None, refl, sym, ap, ◌∙◌, subst, arith}
use Rattle.std.specs.Prelude.{◌==◌, ◌&&◌, IfSome, cond, if◌then◌else◌}
use Rattle.std.specs.Option.{option_map_or}
use Rattle.std.proofs.lemmas.Bool.Decides.{nat_tests}
use Rattle.annex_base.specs.Lists.{Each}
use Rattle.annex_base.proofs.Lists.{Each-member, Each-weaker}
use Rattle.annex_key.specs.Tree.{paths_of}
use Rattle.annex_base.proofs.Conditions.{eqb_refl}
use Rattle.run_data.specs.declared.entry.Entry.{Entry}
use Rattle.run_data.specs.declared.entry.EntryKind.TheVariants as kinds
use Rattle.run_data.specs.declared.job.Job.{Job}
use Rattle.run_model.specs.Past.{begun_count}
use Rattle.run_model.specs.Run.{paths_at, tree_at}
use Rattle.run_model.specs.States.{works}
use Rattle.node_model.specs.After.{AgreesAtDrops}
use Rattle.node_model.specs.Jobs.{Work}
use Rattle.joined_nodes.specs.Drops.{DropJob}
use Rattle.joined_nodes.specs.Task.{Task}
use Rattle.joined_nodes.specs.Task.TheVariants as tasks
use Rattle.joined_nodes.specs.Tasks.{number_of}
use Rattle.joined_nodes.specs.Beginning.{Begins, IsNewTask, next_slot, with_task}
use Rattle.joined_nodes.specs.Running as running
use Rattle.joined_nodes.specs.Running.{AreWorks, Jobs, given_of, job_at, words_at, words_of_task}
use Rattle.link_flights.specs.Heard.{HeardSo, SameWords}
use Rattle.driver_model.specs.Driver.{Driver, DriverInput, entry, notes, set_up_of, state_at}
use Rattle.driver_model.specs.ScriptSteps.{begins}
use Rattle.driver_model.specs.Sound.{IsSound, StaysSound}
use Rattle.joined_nodes.specs.Nodes as nodes
use Rattle.joined_nodes.specs.Nodes.{NodeView}
use Rattle.joined_nodes.specs.Stored.{StoreView}
use Rattle.fleet_model.specs.Fleets.{FleetView, HasCome, HasGiven}
use Rattle.fleet_model.specs.Steps.{OneGoesOn, with_newest}
use Rattle.fleet_model.proofs.Beginning.{begins_nowhere, begins_there, begun, has_slot, same_begun}
use Rattle.fleet_model.proofs.Coming.{came}
use Rattle.fleet_model.proofs.Directs.{comes_directly}
use Rattle.fleet_model.proofs.Hearing.{WordLaws}
use Rattle.fleet_model.proofs.Noting.{IsRaised}
use Rattle.fleet_model.proofs.Pathing.{given_on}
use Rattle.fleet_model.proofs.Raising.{raised_is}
use Rattle.fleet_model.proofs.ScriptGoing.{goes_begins}

-- ---- the job that begins

new_number : (number slot : ℕ) (what : Job) (paths : List (List ℕ)) (t : Task) → IsNewTask number slot what paths t → number_of t ≡ number
new_number number slot what paths (tasks.Drops j) is = ap (λ (x : DropJob). x.worker.number) is.0
new_number number slot what paths (tasks.Transfers w) is = ap (λ (x : Work). x.number) is.0

-- what holds of the paths holds of those that it was given, if it was given some
new_paths : (P : List (List ℕ) → Type 0) (number slot : ℕ) (what : Job) (paths : List (List ℕ)) (t : Task) → IsNewTask number slot what paths t → P paths → IfSome (running.paths_of t) P
new_paths P number slot what paths (tasks.Drops j) is holds = subst P (sym (ap (λ (x : DropJob). x.paths) is.0)) holds
new_paths P number slot what paths (tasks.Transfers w) is holds = subst P (sym is.2) holds

-- ---- the words of jobs that ran before

-- the job of another number is the one that it was
other_job : (jobs : Jobs) (t : Task) (number c : ℕ) → number_of t ≡ jobs.begun + 1 → number ≤ jobs.begun → words_at (with_task jobs t).running number c ≡ words_at jobs.running number c
other_job jobs t number c new before =
    ap (λ (b : Bool). option_map_or words_of_task (cond b (Some t) (job_at jobs.running number)) (λ c. None) c) (newer (number_of t) jobs.begun number new before)
  where
    newer : (own begun number : ℕ) → own ≡ begun + 1 → number ≤ begun → (own == number) ≡ false
    newer own begun number is before = grind (arith, nat_tests)

same_words : (past : List Entry) (r : ℕ) (jobs : Jobs) (t : Task) → number_of t ≡ jobs.begun + 1 → jobs.begun ≡ begun_count past r → Each (λ w. w.number ≤ begun_count past r) (works past r)
    → SameWords past r (words_at jobs.running) (words_at (with_task jobs t).running)
same_words past r jobs t new counted numbers w c among =
    other_job jobs t w.number c new (subst (λ (n : ℕ). w.number ≤ n) (sym counted) (Each-member (λ (w : Work). w.number ≤ begun_count past r) (works past r) w numbers among))

-- ---- it begins

pub begin_comes : {K : Type 0} → WordLaws → (tells : K → StoreView) (g : DriverInput) (d : Driver) (r : ℕ) (n m : NodeView K) (was after : FleetView K) (number : ℕ) (job : Job) (paths : List (List ℕ))
    → HasCome tells g d was → OneGoesOn r n m was after → paths ≡ paths_of (tree_at d.tree (length d.past)) job.key
    → AgreesAtDrops (state_at g d r) (nodes.state_of (set_up_of g d r) n.history) → AreWorks (set_up_of g d r) (nodes.state_of (set_up_of g d r) n.history) n.parts.jobs
    → Each (λ w. w.number ≤ begun_count d.past r) (works d.past r)
    → number ≡ n.parts.jobs.begun + 1 → length n.parts.jobs.running < 4 → Begins n.parts.jobs job paths m.parts.jobs → m ≡ begun (with_newest d n) number job m.parts.jobs
    → m.time ≤ 1000000000000 → m.count < 2 ^ 62 → StaysSound g d (begins r job d) → HasCome tells g (begins r job d) after
begin_comes {K} laws tells g d r n m was after number job paths h step named agrees are numbers numbered free on is early few sound =
    came laws tells g d (begins r job d) r n m was after h step (goes_begins r job d)
    (subst (λ (x : NodeView K). IsRaised tells g (begins r job d) r x) (sym is)
    (begins_there tells g d r (with_newest d n) number job m.parts.jobs (raised_is tells g d r n (h.each r n step.before)) agrees are numbered free))
    (ap (λ (x : NodeView K). x.parts.links) is)
    (subst (λ (js : Jobs). HeardSo (begins r job d).past r (words_at js.running)) (sym on.jobs)
    (subst (λ (b : Bool). HeardSo (if b then notes r (kinds.Begin (begun_count d.past r + 1) job) [] d else d).past r (words_at (with_task n.parts.jobs on.task).running))
    (sym (has_slot g d r n.history n.parts.jobs agrees are free))
    (laws.begun d.past (entry d r (kinds.Begin (begun_count d.past r + 1) job) []) r (begun_count d.past r + 1) job (words_at n.parts.jobs.running) (words_at (with_task n.parts.jobs on.task).running)
    (eqb_refl r) refl refl (same_words d.past r n.parts.jobs on.task own (same_begun g d r n.history n.parts.jobs agrees are) numbers) (h.each r n step.before).heard)))
    (λ sound'. subst (λ (js : Jobs). Each (λ j. HasGiven (begins r job d) r (given_of j)) js.running) (sym on.jobs)
    (subst (λ (b : Bool). IsSound g (if b then noted else d) → Each (λ j. HasGiven (if b then noted else d) r (given_of j)) (with_task n.parts.jobs on.task).running) (sym (has_slot g d r n.history n.parts.jobs agrees are free)) given sound'))
    early few sound
  where
    noted : Driver
    noted = notes r (kinds.Begin (begun_count d.past r + 1) job) [] d

    own : number_of on.task ≡ n.parts.jobs.begun + 1
    own = new_number (n.parts.jobs.begun + 1) (next_slot n.parts.jobs) job paths on.task on.is_new

    which : number_of on.task ≡ begun_count d.past r + 1
    which = own ∙ ap (λ (m : ℕ). m + 1) (same_begun g d r n.history n.parts.jobs agrees are)

    -- the new job, with the paths that the tree has now; and those before
    given : IsSound g noted → Each (λ j. HasGiven noted r (given_of j)) (with_task n.parts.jobs on.task).running
    given sound' = (
      (
        begun_now (number_of on.task) which,
        new_paths (λ ps. ps ≡ paths_at noted.tree noted.past r (number_of on.task)) (n.parts.jobs.begun + 1) (next_slot n.parts.jobs) job paths on.task on.is_new
            (named ∙ sym (paths_now (number_of on.task) which)),
      ),
      Each-weaker (λ j. HasGiven d r (given_of j)) (λ j. HasGiven noted r (given_of j)) (λ j. given_on laws g d noted r (entry d r (kinds.Begin (begun_count d.past r + 1) job) [] ∷ []) sound' refl refl (given_of j)) n.parts.jobs.running (h.each r n step.before).paths,
    )
      where
        begun_now : (x : ℕ) → x ≡ begun_count d.past r + 1 → x ≤ begun_count noted.past r
        begun_now x e = subst (λ (b : Bool). x ≤ (if b && true then begun_count d.past r + 1 else begun_count d.past r)) (sym (eqb_refl r)) (omega (arith, e))

        paths_now : (x : ℕ) → x ≡ begun_count d.past r + 1 → paths_at noted.tree noted.past r x ≡ paths_of (tree_at d.tree (length d.past)) job.key
        paths_now x e =
            ap (λ (b : Bool). if b then (if (begun_count d.past r + 1) == x then paths_of (tree_at d.tree (length d.past)) job.key else paths_at d.tree d.past r x) else paths_at d.tree d.past r x) (eqb_refl r)
            ∙ (ap (λ (x : ℕ). if (begun_count d.past r + 1) == x then paths_of (tree_at d.tree (length d.past)) job.key else paths_at d.tree d.past r x) e
            ∙ (ap (λ (b : Bool). if b then paths_of (tree_at d.tree (length d.past)) job.key else paths_at d.tree d.past r (begun_count d.past r + 1)) (eqb_refl (begun_count d.past r + 1))))

-- ---- it doesn't

pub begin_stops : {K : Type 0} → WordLaws → (tells : K → StoreView) (g : DriverInput) (d : Driver) (r : ℕ) (n m : NodeView K) (was after : FleetView K) (job : Job)
    → HasCome tells g d was → OneGoesOn r n m was after
    → AgreesAtDrops (state_at g d r) (nodes.state_of (set_up_of g d r) n.history) → AreWorks (set_up_of g d r) (nodes.state_of (set_up_of g d r) n.history) n.parts.jobs
    → 4 ≤ length n.parts.jobs.running → m ≡ with_newest d n
    → m.time ≤ 1000000000000 → m.count < 2 ^ 62 → StaysSound g d (begins r job d) → HasCome tells g (begins r job d) after
begin_stops {K} laws tells g d r n m was after job h step agrees are full is early few sound =
    comes_directly laws tells g d (begins r job d) r n m was after h step (goes_begins r job d)
    (subst (λ (x : Driver). IsRaised tells g x r m) (sym (begins_nowhere tells g d r (with_newest d n) job agrees are full))
    (subst (λ (x : NodeView K). IsRaised tells g d r x) (sym is) (raised_is tells g d r n (h.each r n step.before))))
    (ap (λ (x : NodeView K). x.parts) is) early few sound
