-- A job that begins, and the works after an entry that is no job's.
use Rattle.std.proofs.Common.{◌≡◌, ◌≢◌, ℕ, ◌+◌, ◌<◌, ◌≤◌, Bool, true, false, if◌then◌else◌, List, [], ◌∷◌, length, map, Option, Some, None, refl, sym, ap, subst, ◌∙◌, arith, true≢false}
use Rattle.std.specs.Prelude.{find, ◌==◌, ◌&&◌, ◌||◌, IfSome, bytes_eq, is_some}
use Rattle.std.specs.Option.{option_map}
use Rattle.std.proofs.lemmas.Bool.Decides.{nat_tests}
use Rattle.annex_base.specs.Lists.{Each, Member}
use Rattle.annex_base.proofs.Lists.{Each-both, Each-from_members, Each-member, Each-weaker}
use Rattle.annex_base.specs.declared.kinds.Call.TheVariants.{PutFile}
use Rattle.run_data.specs.declared.entry.By.{By}
use Rattle.run_data.specs.declared.entry.Entry.{Entry}
use Rattle.run_data.specs.declared.entry.EntryKind.{EntryKind}
use Rattle.run_data.specs.declared.entry.EntryKind.TheVariants as kinds
use Rattle.run_data.specs.declared.job.Job.{Job}
use Rattle.run_data.specs.declared.job.JobKind.{JobKind}
use Rattle.run_data.specs.declared.job.JobKind.TheVariants as jobs_of
use Rattle.node_model.specs.After.{has_read, read_after, state_after}
use Rattle.node_model.specs.Jobs as Jobs
use Rattle.node_model.specs.Jobs.{Drops, Part, Work, drop_side, first_part, is_move, new_work, partner, running_job, side_of, work_after, work_kind, works_after}
use Rattle.node_model.specs.Rows.{option_is}
use Rattle.node_model.specs.SetUp.{SetUp}
use Rattle.node_model.specs.Slots.{RunningJob, begun_after, free_slot, job_of}
use Rattle.node_model.specs.State.{State}
use Rattle.object_store.specs.Stores.{Parts}
use Rattle.content_lock.specs.Rows.{Rows, is_filling}
use Rattle.drop_proof.specs.declared.rule.Side.{Side}
use Rattle.drop_proof.specs.declared.rule.Side.TheVariants.{Local, Remote}
use Rattle.drop_phases.specs.declared.phase.Phase.{Phase}
use Rattle.drop_phases.specs.declared.phase.Phase.TheVariants as phases
use Rattle.drop_phases.specs.declared.phase.Token.TheVariants as tokens
use Rattle.drop_phases.specs.Doing.{HasToken}
use Rattle.drop_phases.specs.Sides.{FitsSide, HasTarget}
use Rattle.drop_phases.specs.Working.{phase_as}
use Rattle.node_tasks.specs.Drops.{DropJob, HasRead, given, place_reading}
use Rattle.node_tasks.specs.Places.{PlaceView}
use Rattle.node_tasks.specs.Reads.{KnownLogs}
use Rattle.node_tasks.proofs.Knowing.{read_same}
use Rattle.node_tasks.proofs.Transfers.{new_apart}
use Rattle.get_phases.specs.declared.getting.Phase.{Phase as GetPhase}
use Rattle.get_phases.specs.declared.getting.Phase.TheVariants as getting
use Rattle.get_phases.specs.Gets as gets
use Rattle.put_steps.specs.declared.phase.Phase.{Phase as PutPhase}
use Rattle.put_steps.specs.declared.phase.Phase.TheVariants as putting
use Rattle.put_steps.specs.Puts as puts
use Rattle.transfer_turns.specs.Steps.{fills_key}
use Rattle.node_tasks.specs.Worker.{Worker}
use Rattle.node_tasks.specs.Worker.TheVariants.{Gets, Puts}
use Rattle.node_tasks.specs.Workers.{CanStep, HasFill, IsFed, new_work_of, work_of}
use Rattle.node_tasks.specs.Ready.{sight_of}
use Rattle.node_tasks.specs.declared.task.Task.{Task}
use Rattle.node_tasks.specs.declared.task.Task.TheVariants as tasks
use Rattle.node_tasks.specs.Tasks.{HasReadOf, IsFedTask, IsTask, OwnsOf, number_of, slot_of, work_now}
use Rattle.running_jobs.specs.Beginning.{Begins, IsNewTask, MayBegin, new_worker, next_slot, running_now}
use Rattle.running_jobs.specs.Running.{AreAllFed, AreApart, AreFilled, AreWorks, Follows, IsOwn, Jobs as JobsView, OwnAll, fills_at, given_to}
use Rattle.running_jobs.proofs.Among.{find_mapped, found_by_number}
use Rattle.running_jobs.proofs.Slots.{next_small, next_unused}
use Rattle.running_jobs.proofs.Stepping.{task_read_stays}
use Rattle.running_jobs.proofs.Transfers.{as_job, transfer_unread}

-- ---- the job that begins

pub begins_so : (jobs was : JobsView) (what : Job) (paths : List (List ℕ)) (slot : ℕ) (task : Task) (list list' : List Task) → jobs ≡ was → list ≡ jobs.running → slot ≡ next_slot jobs → IsNewTask (jobs.begun + 1) slot what paths task → list' ≡ task ∷ list
    → Begins was what paths (record { place = jobs.place; running = list'; begun = jobs.begun + 1 })
begins_so jobs was what paths slot task list list' same items there is added =
    subst (λ (js : JobsView). Begins js what paths (record { place = jobs.place; running = list'; begun = jobs.begun + 1 })) same
    (record {
      task = task;
      is_new = subst (λ (n : ℕ). IsNewTask (jobs.begun + 1) n what paths task) there is;
      jobs = λ i. record { place = jobs.place; running = (added ∙ ap (λ (ts : List Task). task ∷ ts) items) i; begun = jobs.begun + 1 };
    })

-- its work is a new one
pub new_task_work : (number slot : ℕ) (what : Job) (paths : List (List ℕ)) (t : Task) → IsNewTask number slot what paths t → work_now t ≡ new_work_of number slot what
new_task_work number slot what paths (tasks.Drops j) is =
    ap (λ (d : DropJob). work_now (tasks.Drops d)) is.0 ∙ (λ i. record { number = number; slot = slot; what = what; part = first_part (sym is.1 i); phase = Jobs.Fresh; fills = false; version = 3; heard = []; causes = [] })
new_task_work number slot what paths (tasks.Transfers w) is = is.0

-- ---- a transfer that begins can step

get_undone : (phase : GetPhase) (kind : JobKind) → gets.part_of phase ≡ first_part kind → kind ≢ jobs_of.Drop → gets.is_done phase ≡ false
get_undone getting.Done jobs_of.Drop part other = absurd (other refl)
get_undone getting.Done jobs_of.Get part other = absurd cc
get_undone getting.Done jobs_of.Copy part other = absurd cc
get_undone getting.Done jobs_of.MoveTo part other = absurd cc
get_undone getting.Done jobs_of.MoveFrom part other = absurd cc
get_undone phase kind part other = refl

put_undone : (phase : PutPhase) (kind : JobKind) → puts.part_of phase ≡ first_part kind → kind ≢ jobs_of.Drop → puts.is_done phase ≡ false
put_undone putting.Done jobs_of.Drop part other = absurd (other refl)
put_undone putting.Done jobs_of.Get part other = absurd cc
put_undone putting.Done jobs_of.Copy part other = absurd cc
put_undone putting.Done jobs_of.MoveTo part other = absurd cc
put_undone putting.Done jobs_of.MoveFrom part other = absurd cc
put_undone phase kind part other = refl

-- a copy's worker is one that puts, whose peer is another repository
put_kind : (phase : PutPhase) (kind : JobKind) → puts.part_of phase ≡ first_part kind → kind ≢ jobs_of.Drop → first_part kind ≡ Jobs.Puts
put_kind putting.Done jobs_of.Drop part other = absurd (other refl)
put_kind phase jobs_of.Drop part other = absurd (other refl)
put_kind phase jobs_of.Copy part other = refl
put_kind phase jobs_of.MoveTo part other = refl
put_kind putting.Fresh jobs_of.Get part other = absurd cc
put_kind (putting.Opens peer) jobs_of.Get part other = absurd cc
put_kind (putting.Greets peer) jobs_of.Get part other = absurd cc
put_kind (putting.Offer peer) jobs_of.Get part other = absurd cc
put_kind (putting.Bytes s) jobs_of.Get part other = absurd cc
put_kind (putting.Word peer start) jobs_of.Get part other = absurd cc
put_kind (putting.Answer peer start) jobs_of.Get part other = absurd cc
put_kind (putting.Ends why) jobs_of.Get part other = absurd cc
put_kind putting.Done jobs_of.Get part other = absurd cc
put_kind putting.Fresh jobs_of.MoveFrom part other = absurd cc
put_kind (putting.Opens peer) jobs_of.MoveFrom part other = absurd cc
put_kind (putting.Greets peer) jobs_of.MoveFrom part other = absurd cc
put_kind (putting.Offer peer) jobs_of.MoveFrom part other = absurd cc
put_kind (putting.Bytes s) jobs_of.MoveFrom part other = absurd cc
put_kind (putting.Word peer start) jobs_of.MoveFrom part other = absurd cc
put_kind (putting.Answer peer start) jobs_of.MoveFrom part other = absurd cc
put_kind (putting.Ends why) jobs_of.MoveFrom part other = absurd cc
put_kind putting.Done jobs_of.MoveFrom part other = absurd cc

has_peer : (p : PlaceView) (kind : JobKind) (o : Option ℕ) → MayBegin p kind o → first_part kind ≡ Jobs.Puts → puts.HasPeer (sight_of p.number (length p.ids) []) o
has_peer p kind (Some peer) may is = may.1
has_peer p jobs_of.Drop None may is = absurd cc
has_peer p jobs_of.Get None may is = absurd cc
has_peer p jobs_of.Copy None may is = absurd may
has_peer p jobs_of.MoveTo None may is = absurd may
has_peer p jobs_of.MoveFrom None may is = absurd may

names_peer : (p : PlaceView) (kind : JobKind) (o : Option ℕ) → MayBegin p kind o → IfSome o (λ peer. (peer < length p.ids) × ((p.number == peer) ≡ false))
names_peer p kind (Some peer) may = may
names_peer p kind None may = tt

-- the drop of a move has its target
move_target : (p : PlaceView) (kind : JobKind) (o : Option ℕ) → MayBegin p kind o → is_move kind ≡ true → HasTarget (drop_side kind o) o (place_reading p)
move_target p jobs_of.Drop o may is = absurd (true≢false (sym is))
move_target p jobs_of.Get o may is = absurd (true≢false (sym is))
move_target p jobs_of.Copy o may is = absurd (true≢false (sym is))
move_target p jobs_of.MoveTo o may is = tt
move_target p jobs_of.MoveFrom None may is = absurd may
move_target p jobs_of.MoveFrom (Some peer) may is = may

drop_target : (p : PlaceView) (kind : JobKind) (o : Option ℕ) → MayBegin p kind o → kind ≡ jobs_of.Drop → HasTarget (drop_side kind o) o (place_reading p)
drop_target p jobs_of.Drop None may is = tt
drop_target p jobs_of.Drop (Some peer) may is = may
drop_target p jobs_of.Get o may is = absurd cc
drop_target p jobs_of.Copy o may is = absurd cc
drop_target p jobs_of.MoveTo o may is = absurd cc
drop_target p jobs_of.MoveFrom o may is = absurd cc

fresh_fits : (s : Side) → FitsSide s phases.Fresh tokens.Nothing
fresh_fits Local = tt
fresh_fits Remote = tt

can_begin : (p : PlaceView) (number slot : ℕ) (what : Job) (v : Worker) → MayBegin p what.kind what.peer → work_of (as_job v) ≡ new_work_of number slot what → what.kind ≢ jobs_of.Drop → CanStep (sight_of p.number (length p.ids) []) (as_job v)
can_begin p number slot what (Gets w) may is other = get_undone w.phase what.kind (ap (λ (v : Work). v.part) is) other
can_begin p number slot what (Puts w) may is other =
    let job : w.job ≡ what = ap (λ (v : Work). v.what) is in
    let puts_it : first_part what.kind ≡ Jobs.Puts = put_kind w.phase what.kind (ap (λ (v : Work). v.part) is) other in (
      ap (λ (j : Job). first_part j.kind) job ∙ puts_it,
      put_undone w.phase what.kind (ap (λ (v : Work). v.part) is) other,
      subst (λ (j : Job). puts.HasPeer (sight_of p.number (length p.ids) []) j.peer) (sym job) (has_peer p what.kind what.peer may puts_it),
    )

-- it fills nothing, and has taken nothing
bare_fill : (rows : Rows) (v : Worker) → (work_of (as_job v)).fills ≡ false → HasFill rows (as_job v)
bare_fill rows (Puts w) none = tt
bare_fill rows (Gets w) none = by_fill (gets.fill_in w.phase) none
  where
    by_fill : (o : Option (List ℕ)) → is_some o ≡ false → IfSome o (λ (key : List ℕ). (key ≡ w.job.key) × (is_filling rows key ≡ true))
    by_fill None e = tt
    by_fill (Some key) e = absurd (true≢false e)

bare_fed : (q : Parts) (v : Worker) → (work_of (as_job v)).phase ≡ Jobs.Fresh → IsFed q (as_job v)
bare_fed q (Puts w) fresh = tt
bare_fed q (Gets w) fresh = by_phase w.phase fresh
  where
    by_phase : (phase : GetPhase) → gets.phase_of phase ≡ Jobs.Fresh → gets.IsFed q phase
    by_phase (getting.Data peer wanting) e = absurd cc
    by_phase (getting.Bytes peer start taking) e = absurd cc
    by_phase (getting.Word peer start taken) e = absurd cc
    by_phase phase e = tt

-- ---- how it stands among the jobs

new_is_task : (jobs : JobsView) (what : Job) (paths : List (List ℕ)) (t : Task) → MayBegin jobs.place what.kind what.peer → IsNewTask (jobs.begun + 1) (next_slot jobs) what paths t → IsTask jobs.place t
new_is_task jobs what paths (tasks.Drops j) may is =
    subst (λ (d : DropJob). IsTask jobs.place (tasks.Drops d)) (sym is.0)
    (record {
      target = drop_target jobs.place what.kind what.peer may is.1;
      slot = next_small jobs;
      fits = fresh_fits (drop_side what.kind what.peer);
      stands = refl;
      unheard = λ fresh. refl;
      own = λ later. absurd (later refl);
      apart = new_apart (drop_side what.kind what.peer) what.peer (new_worker (jobs.begun + 1) (next_slot jobs) what) refl refl;
    })
new_is_task jobs what paths (tasks.Transfers w) may is = record {
  can = can_begin jobs.place (jobs.begun + 1) (next_slot jobs) what w.worker may is.0 is.1;
  slot = subst (λ (v : Work). v.slot < 4) (sym is.0) (next_small jobs);
  names = subst (λ (v : Work). IfSome v.what.peer (λ peer. (peer < length jobs.place.ids) × ((jobs.place.number == peer) ≡ false))) (sym is.0) (names_peer jobs.place what.kind what.peer may);
  apart = subst (λ (v : Work). IfSome (partner v.what.peer v.phase) (λ peer. (jobs.place.number == peer) ≡ false)) (sym is.0) tt;
  target = subst (λ (v : Work). is_move v.what.kind ≡ true → HasTarget (side_of v) v.what.peer (place_reading jobs.place)) (sym is.0) (move_target jobs.place what.kind what.peer may);
}

new_owns : (jobs : JobsView) (rows : Rows) (what : Job) (paths : List (List ℕ)) (t : Task) → OwnAll jobs rows → IsNewTask (jobs.begun + 1) (next_slot jobs) what paths t → OwnsOf rows t
new_owns jobs rows what paths (tasks.Drops j) own is = subst (λ (d : DropJob). OwnsOf rows (tasks.Drops d)) (sym is.0) (own.later (jobs.begun + 1) what.key (omega arith))
new_owns jobs rows what paths (tasks.Transfers w) own is = (
  subst (λ (v : Work). HasToken v.number v.what.key tokens.Nothing rows) (sym is.0) (own.later (jobs.begun + 1) what.key (omega arith)),
  bare_fill rows w.worker (ap (λ (v : Work). v.fills) is.0),
)

new_fed : (q : Parts) (number slot : ℕ) (what : Job) (paths : List (List ℕ)) (t : Task) → IsNewTask number slot what paths t → IsFedTask q t
new_fed q number slot what paths (tasks.Drops j) is = tt
new_fed q number slot what paths (tasks.Transfers w) is = bare_fed q w.worker (ap (λ (v : Work). v.phase) is.0)

-- a job that begins has read nothing
new_reads : (s : SetUp) (st' : State) (number slot : ℕ) (what : Job) (paths : List (List ℕ)) (t : Task) → IsNewTask number slot what paths t → st'.read number ≡ st'.logs → HasReadOf (given_to s t) st' t
new_reads s st' number slot what paths (tasks.Drops j) is reads = subst (λ (d : DropJob). HasRead (given s d.paths) st' d.worker d.known) (sym is.0) (refl, reads)
new_reads s st' number slot what paths (tasks.Transfers w) is reads = ap (λ (v : Work). st'.read v.number) is.0 ∙ reads

module _ (jobs now : JobsView) (what : Job) (paths : List (List ℕ)) (b : Begins jobs what paths now) where
  work_is : work_now b.task ≡ new_work_of (jobs.begun + 1) (next_slot jobs) what
  work_is = new_task_work (jobs.begun + 1) (next_slot jobs) what paths b.task b.is_new

  fills_none : (key : List ℕ) → fills_key (work_now b.task) key ≡ false
  fills_none key = ap (λ (v : Work). v.fills && bytes_eq v.what.key key) work_is

  pub owns_begun : (rows : Rows) → MayBegin jobs.place what.kind what.peer → length jobs.running < 4 → OwnAll jobs rows → OwnAll now rows
  owns_begun rows may few own =
      subst (λ (js : JobsView). OwnAll js rows) (sym b.jobs)
      (record {
        tasks = (new_is_task jobs what paths b.task may b.is_new, own.tasks);
        owns = (
          record { number = subst (λ (v : Work). v.number ≤ jobs.begun + 1) (sym work_is) (omega arith); owns = new_owns jobs rows what paths b.task own b.is_new },
          Each-weaker (IsOwn jobs.begun rows) (IsOwn (jobs.begun + 1) rows) (λ x o. let at : number_of x ≤ jobs.begun = o.number in record { number = omega (arith, at); owns = o.owns }) jobs.running own.owns,
        );
        apart = (
          Each-both (IsOwn jobs.begun rows) (λ x. next_slot jobs ≢ slot_of x) (AreApart b.task) apart jobs.running own.owns (next_unused jobs few),
          own.apart,
        );
        later = λ job key beyond. own.later job key (omega (arith, beyond));
      })
    where
      apart : (x : Task) → IsOwn jobs.begun rows x → next_slot jobs ≢ slot_of x → AreApart b.task x
      apart x o other = record {
        number = λ e. let at : number_of x ≤ jobs.begun = o.number in let mine : number_of b.task ≡ jobs.begun + 1 = ap (λ (v : Work). v.number) work_is in absurd (omega (arith, at, e, mine));
        slot = λ e. other (sym (ap (λ (v : Work). v.slot) work_is) ∙ e);
        fills = λ key. ap (λ (c : Bool). c && fills_key (work_now x) key) (fills_none key);
      }

  pub filled_begun : (rows : Rows) (others : List ℕ → Bool) → AreFilled rows jobs.running others → AreFilled rows now.running others
  filled_begun rows others are =
      subst (λ (js : JobsView). AreFilled rows js.running others) (sym b.jobs)
      (record {
        filled = λ key. are.filled key ∙ ap (λ (c : Bool). (c || fills_at jobs.running key) || others key) (sym (fills_none key));
        apart = λ key. ap (λ (c : Bool). (c || fills_at jobs.running key) && others key) (fills_none key) ∙ are.apart key;
      })

  pub fed_begun : (q : Parts) → AreAllFed q jobs.running → AreAllFed q now.running
  fed_begun q fed = subst (λ (js : JobsView). AreAllFed q js.running) (sym b.jobs) (new_fed q (jobs.begun + 1) (next_slot jobs) what paths b.task b.is_new, fed)

-- ---- the works after it has begun

same_running : (ts : List Task) → map running_job (map work_now ts) ≡ map running_now ts
same_running [] = refl
same_running (t ∷ ts) = ap (λ (rs : List RunningJob). running_now t ∷ rs) (same_running ts)

none_numbered : (begun : ℕ) (rows : Rows) (ts : List Task) → Each (IsOwn begun rows) ts → find (λ w. w.number == begun + 1) (map work_now ts) ≡ None
none_numbered begun rows [] h = refl
none_numbered begun rows (t ∷ ts) h =
    let at : number_of t ≤ begun = h.0.number in
    rw (other (number_of t) begun at) (none_numbered begun rows ts h.1)
  where
    other : (m n : ℕ) → m ≤ n → (m == n + 1) ≡ false
    other m n below = grind (arith, nat_tests)

pub works_begun : (jobs now : JobsView) (what : Job) (paths : List (List ℕ)) → Begins jobs what paths now → (rows : Rows) (s : SetUp) (st : State) (e : Entry) (st' : State) → OwnAll jobs rows → AreWorks s st jobs
    → e.kind ≡ kinds.Begin (jobs.begun + 1) what → Follows s st e st' → AreWorks s st' now
works_begun jobs now what paths b rows s st e st' own are kind follows =
    subst (AreWorks s st') (sym b.jobs)
    (record {
      works = follows.works ∙ (ap (works_after (record { present = st.present; bar = st.bar; ends = st.ends }) s.number st.works e) kind ∙ ((λ i. new_work (are.works i) (jobs.begun + 1) what ∷ are.works i)
          ∙ ((λ i. new_work_of (jobs.begun + 1) (free_slot (same_running jobs.running i)) what ∷ map work_now jobs.running)
          ∙ ap (λ (w : Work). w ∷ map work_now jobs.running) (sym (new_task_work (jobs.begun + 1) (next_slot jobs) what paths b.task b.is_new)))));
      begun = follows.begun ∙ (ap (begun_after st.begun) kind ∙ ap (λ (n : ℕ). n + 1) are.begun);
      read = (
        new_reads s st' (jobs.begun + 1) (next_slot jobs) what paths b.task b.is_new reads,
        Each-from_members (λ t. HasReadOf (given_to s t) st' t) jobs.running (λ t here. task_read_stays s st st' jobs e t are own.apart here follows),
      );
    })
  where
    reads : st'.read (jobs.begun + 1) ≡ st'.logs
    reads =
        follows.read (jobs.begun + 1)
        ∙ (ap (read_after st.logs (st.read (jobs.begun + 1))) (ap (find (λ w. w.number == jobs.begun + 1)) are.works ∙ none_numbered jobs.begun rows jobs.running own.owns) ∙ sym follows.logs)

-- ---- an entry that is no job's

no_jobs : (rows : Jobs.RowsAndEnds) (r : ℕ) (was : List Work) (e : Entry) (kind : EntryKind) → job_of kind ≡ None → ((clock : ℕ) → kind ≡ kinds.Crash clock → ⊥) → works_after rows r was e kind ≡ map (work_after rows r e) was
no_jobs rows r was e (kinds.Begin job what) none crash = absurd cc
no_jobs rows r was e (kinds.End job outcome) none crash = absurd cc
no_jobs rows r was e (kinds.Crash clock) none crash = absurd (crash clock refl)
no_jobs rows r was e kind none crash = refl

no_begun : (was : ℕ) (kind : EntryKind) → job_of kind ≡ None → begun_after was kind ≡ was
no_begun was (kinds.Begin job what) none = absurd cc
no_begun was kind none = refl

stay_all : (rows : Jobs.RowsAndEnds) (r : ℕ) (e : Entry) (ws : List Work) → job_of e.kind ≡ None → map (work_after rows r e) ws ≡ ws
stay_all rows r e [] none = refl
stay_all rows r e (w ∷ ws) none = (λ i. here i ∷ stay_all rows r e ws none i)
  where
    here : work_after rows r e w ≡ w
    here = rw none refl

-- where no work changes, what a drop has read stays, and a job that has read nothing would read what the logs say now
still_works : (s : SetUp) (st : State) (e : Entry) (jobs : JobsView) (rows : Rows) → AreWorks s st jobs → OwnAll jobs rows → (state_after s st e).works ≡ st.works → (state_after s st e).begun ≡ st.begun → AreWorks s (state_after s st e) jobs
still_works s st e jobs rows are own stay begun =
    record {
      works = stay ∙ are.works;
      begun = begun ∙ are.begun;
      read = Each-from_members (λ t. HasReadOf (given_to s t) (state_after s st e) t) jobs.running (λ t here. by_kind t here (Each-member (λ x. HasReadOf (given_to s x) st x) jobs.running t are.read here));
    }
  where
    reads : (t : Task) → Member t jobs.running → (state_after s st e).read (number_of t) ≡ read_after (state_after s st e).logs (st.read (number_of t)) (Some (work_now t))
    reads t here =
        ap (read_after (state_after s st e).logs (st.read (number_of t))) (ap (find (λ w. w.number == number_of t)) are.works
        ∙ (find_mapped work_now (λ w. w.number == number_of t) jobs.running ∙ ap (option_map work_now) (found_by_number jobs.running t own.apart here)))

    by_known : (j : DropJob) → Member (tasks.Drops j) jobs.running → (known : Option KnownLogs) → HasRead (given s j.paths) st j.worker known → HasRead (given s j.paths) (state_after s st e) j.worker known
    by_known j here None fresh =
        (fresh.0, reads (tasks.Drops j) here ∙ ap (λ (b : Bool). if b then st.read j.worker.number else (state_after s st e).logs) (ap (λ (ph : Phase). has_read Drops (phase_as ph)) fresh.0))
    by_known j here (Some known) h =
        read_same (given s j.paths) st (state_after s st e) j.worker known (reads (tasks.Drops j) here ∙ ap (λ (b : Bool). if b then st.read j.worker.number else (state_after s st e).logs) h.begun) h

    by_kind : (t : Task) → Member t jobs.running → HasReadOf (given_to s t) st t → HasReadOf (given_to s t) (state_after s st e) t
    by_kind (tasks.Drops j) here read = by_known j here j.known read
    by_kind (tasks.Transfers w) here read =
        reads (tasks.Transfers w) here ∙ ap (λ (b : Bool). if b then st.read (work_of w).number else (state_after s st e).logs) (transfer_unread w.worker)

pub works_stay_so : (s : SetUp) (st : State) (e : Entry) (jobs : JobsView) (rows : Rows) → AreWorks s st jobs → OwnAll jobs rows → job_of e.kind ≡ None → ((clock : ℕ) → e.kind ≡ kinds.Crash clock → ⊥) → AreWorks s (state_after s st e) jobs
works_stay_so s st e jobs rows are own none crash =
    still_works s st e jobs rows are own
    (no_jobs (record { present = st.present; bar = st.bar; ends = st.ends }) s.number st.works e e.kind none crash ∙ stay_all (record { present = st.present; bar = st.bar; ends = st.ends }) s.number e st.works none)
    (no_begun st.begun e.kind none)

-- ---- a line that couldn't be written

fault_moves_none : (rows : Jobs.RowsAndEnds) (r : ℕ) (e : Entry) (by : By) (ws : List Work) → e.kind ≡ kinds.Fault PutFile by → map (work_after rows r e) ws ≡ ws
fault_moves_none rows r e by [] is = refl
fault_moves_none rows r e by (w ∷ ws) is = (λ i. here (option_is (job_of e.kind) w.number) refl i ∷ fault_moves_none rows r e by ws is i)
  where
    here : (b : Bool) → option_is (job_of e.kind) w.number ≡ b → work_after rows r e w ≡ w
    here true mine = rw mine (ap (work_kind rows r w e) is)
    here false other = rw other refl

pub works_stay_at_faults : (s : SetUp) (st : State) (e : Entry) (jobs : JobsView) (rows : Rows) (by : By) → AreWorks s st jobs → OwnAll jobs rows → e.kind ≡ kinds.Fault PutFile by → AreWorks s (state_after s st e) jobs
works_stay_at_faults s st e jobs rows by are own is =
    still_works s st e jobs rows are own
    (ap (works_after (record { present = st.present; bar = st.bar; ends = st.ends }) s.number st.works e) is ∙ fault_moves_none (record { present = st.present; bar = st.bar; ends = st.ends }) s.number e by st.works is)
    (ap (begun_after st.begun) is)
