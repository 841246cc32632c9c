-- The step of the first job that has one, and the works that follow.
use Rattle.std.proofs.Common.{◌≡◌, inl, inr, ℕ, zero, suc, ◌<◌, Bool, true, false, if◌then◌else◌, List, [], ◌∷◌, ◌++◌, length, filter, map, Option, Some, None, refl, sym, ap, subst, ◌∙◌, arith}
use Rattle.std.specs.Prelude.{find, is_some, slice_get, ◌==◌}
use Rattle.std.proofs.lemmas.Option.{slice_get_cases}
use Rattle.std.specs.List.{list_all}
use Rattle.std.specs.Option.{ForSome, option_map, option_map_or}
use Rattle.std.proofs.lemmas.Bool.{ne_eqb}
use Rattle.annex_base.specs.Lists.{Each, Member}
use Rattle.annex_base.specs.Settings.{Settings}
use Rattle.annex_base.proofs.Conditions.{eqb_refl}
use Rattle.annex_base.proofs.Lists.{Each-append, Each-both, Each-member, Each-right, Each-weaker, Each-from_members, Member-append_left, Member-append_right, find_member}
use Rattle.annex_base.proofs.Options.{map_some}
use Rattle.annex_base.specs.OptionSteps.{first_some}
use Rattle.run_data.specs.declared.entry.Entry.{Entry}
use Rattle.run_data.specs.declared.entry.FrameView.{FrameView}
use Rattle.link_ring.specs.Ends.{EndView}
use Rattle.node_model.specs.After.{has_read, read_after}
use Rattle.node_model.specs.Clocks.{ClockSet}
use Rattle.node_model.specs.Ends.{End, EndName}
use Rattle.node_model.specs.Jobs as Jobs
use Rattle.node_model.specs.Jobs.{Work, partner, work_after, work_kind}
use Rattle.node_model.specs.JobStep.{Turn, end_with, turn_of}
use Rattle.node_model.specs.Look.{Look, Effect, as_told, entry_of, failed_in}
use Rattle.node_model.specs.Rows.{option_is}
use Rattle.node_model.specs.SetUp.{SetUp, slots}
use Rattle.node_model.specs.Slots.{job_of}
use Rattle.node_model.specs.State.{State}
use Rattle.node_model.specs.Turns.{by_partner, has_room, is_awaiting, job_step, needs, slot_step, with_partner}
use Rattle.node_ends.specs.Ends.{end_at, room_at, wait_at}
use Rattle.object_store.specs.Stores.{Contents, Parts}
use Rattle.content_lock.specs.CallsMade.{MakesCalls}
use Rattle.content_lock.specs.Rows.{Rows}
use Rattle.session_state.specs.declared.incoming.Incoming.{Incoming}
use Rattle.drop_phases.specs.Begun.{IsLast}
use Rattle.drop_phases.specs.declared.phase.Phase.{Phase}
use Rattle.drop_phases.specs.declared.turn.Taken.{Taken}
use Rattle.drop_phases.specs.Feeding as drops
use Rattle.drop_phases.specs.Feeding.{FeedsFrameAt}
use Rattle.drop_phases.specs.Leaving.{stands_on}
use Rattle.drop_phases.specs.Working.{end_in, phase_as, sight}
use Rattle.node_tasks.specs.Drops.{DropJob, HasRead, given, place_reading, work_now as drop_work}
use Rattle.node_tasks.specs.Places.{PlaceView}
use Rattle.node_tasks.specs.Reads.{KnownLogs}
use Rattle.node_tasks.specs.Waiting.{WaitsFor, taken_by}
use Rattle.node_tasks.proofs.Hearing.{awaiting}
use Rattle.node_tasks.proofs.Knowing.{read_apart, read_same}
use Rattle.transfer_turns.specs.Parcels as transfers
use Rattle.transfer_turns.specs.Steps.{Seen}
use Rattle.transfer_turns.specs.Turns.{Comes, Sight, awaited}
use Rattle.node_tasks.specs.TransferJob.{TransferJob}
use Rattle.node_tasks.specs.States.{FindsAt, HasWay, HaveState}
use Rattle.node_tasks.specs.Workers.{SeesPart, work_of}
use Rattle.node_tasks.specs.Ready.{sight_of}
use Rattle.node_tasks.specs.declared.readiness.Told.{Told}
use Rattle.node_tasks.specs.declared.readiness.Told.TheVariants as tolds
use Rattle.node_tasks.specs.declared.task.Task.{Task}
use Rattle.node_tasks.specs.declared.task.Task.TheVariants as tasks
use Rattle.node_tasks.specs.Acting.{ActsSo, HearsOn, IsOnward, SeesActs, frames_in, made_by as made_of_task}
use Rattle.node_tasks.specs.Tasks.{HasReadOf, HearsWords, IsTask, SeesTask, number_of, slot_of, work_now}
use Rattle.node_tasks.specs.Telling.{ComesTo, SeesPartOf, frame_in}
use Rattle.running_jobs.specs.declared.acted.Acted.{Acted}
use Rattle.running_jobs.specs.declared.finding.Found.{Found}
use Rattle.running_jobs.specs.Acting.{IsKindOf, SeesActed, SeesActedOf, SeesJobs, SeesPartAt, StepsJobs, made_by, output_of}
use Rattle.running_jobs.specs.Changes.{Changes, task_after}
use Rattle.running_jobs.specs.Finding.{Finds, FindsFirst, IsFirst, IsSlotIdle, has_slot}
use Rattle.running_jobs.specs.Running.{AllApart, AreApart, AreWorks, Follows, HadPathsOf, Jobs as JobsView, OwnAll, given_to, job_at, words_of_task}
use Rattle.running_jobs.proofs.Among.{apart_before, apart_behind, find_mapped, found_by_number, get_middle, is_left, works_off, works_on}
use Rattle.running_jobs.proofs.Transfers.{transfer_unread}
use Rattle.running_jobs.proofs.EntryKinds.{last_begun, last_works, onward_begun, onward_job, onward_works}

-- ---- the first slot that has a step

pub first_step : (f : ℕ → Option Effect) (n : ℕ) (m : Effect) → n < 4 → ((i : ℕ) → i < n → f i ≡ None) → f n ≡ Some m → first_some f slots ≡ Some m
first_step f zero m below before at = rw at refl
first_step f (suc zero) m below before at = rw (before 0 (omega arith), at) refl
first_step f (suc (suc zero)) m below before at = rw (before 0 (omega arith), before 1 (omega arith), at) refl
first_step f (suc (suc (suc zero))) m below before at = rw (before 0 (omega arith), before 1 (omega arith), before 2 (omega arith), at) refl
first_step f (suc (suc (suc (suc n)))) m below before at = absurd (omega (arith, below))

pub no_step : (f : ℕ → Option Effect) → ((i : ℕ) → i < 4 → f i ≡ None) → first_some f slots ≡ None
no_step f none = rw (none 0 (omega arith), none 1 (omega arith), none 2 (omega arith), none 3 (omega arith)) refl

pub middle_member : {X : Type 0} (front : List X) (x : X) (back : List X) → Member x (front ++ x ∷ back)
middle_member front x back = Member-append_right front (x ∷ back) x (inl refl)

pub task_slot : (p : PlaceView) (t : Task) → IsTask p t → slot_of t < 4
task_slot p (tasks.Drops j) is = is.slot
task_slot p (tasks.Transfers w) is = is.slot

-- ---- what each job sees

module _ (links : List EndView) (clock : ClockSet) (settings : Settings) (jobs : JobsView) (number time : ℕ) (s : SetUp) (st : State) (k : Look) (sees : SeesJobs links clock settings jobs number time s st k) where
  sees_task : (t : Task) → HadPathsOf s t → HasReadOf (given_to s t) st t → SeesTask jobs.place clock links time s st k t
  sees_task (tasks.Drops j) had read =
      record { place = sees.place; paths = had; read = read_apart (given s j.paths) st j.worker j.known s.paths (sym had) read; count = sees.count; ends = sees.ends; sees = sees.sees; ticks = sees.ticks; at = sees.at }
  sees_task (tasks.Transfers w) had read = record { place = sees.place; read = read; count = sees.count; ends = sees.ends; sees = sees.sees }

  pub sees_each : Each (SeesTask jobs.place clock links time s st k) jobs.running
  sees_each = Each-both (HadPathsOf s) (λ t. HasReadOf (given_to s t) st t) (SeesTask jobs.place clock links time s st k) sees_task jobs.running sees.paths sees.works.read

slot_none : (p : PlaceView) (clock : ClockSet) (links : List EndView) (ts : List Task) (time slot : ℕ) (rows : Rows) (c : Contents) (s : SetUp) (st : State) (k : Look) → IsSlotIdle p clock links ts time slot
    → Each (SeesTask p clock links time s st k) ts → HaveState rows c s st → st.works ≡ map work_now ts → slot_step s st k (find (λ w. w.slot == slot) st.works) ≡ None
slot_none p clock links ts time slot rows c s st k idle sees keeps works =
    ap (λ (ws : List Work). slot_step s st k (find (λ w. w.slot == slot) ws)) works ∙ idle rows c s st k sees keeps

-- no job has a step
pub none_steps : (p : PlaceView) (clock : ClockSet) (links : List EndView) (ts : List Task) (time : ℕ) (rows : Rows) (c : Contents) (s : SetUp) (st : State) (k : Look) → Finds p clock links ts time None
    → Each (SeesTask p clock links time s st k) ts → HaveState rows c s st → st.works ≡ map work_now ts → job_step s st k ≡ None
none_steps p clock links ts time rows c s st k idle sees keeps works =
    no_step (λ slot. slot_step s st k (find (λ w. w.slot == slot) st.works)) (λ slot below. slot_none p clock links ts time slot rows c s st k (idle slot below) sees keeps works)

-- ---- a job that is ready has a step

-- the end is open where a frame is taken
abbrev IsOpenAt : Turn → Option ℕ → Option FrameView → Type 0
IsOpenAt t (Some peer) (Some f) = (end_with t peer).opened ≡ true
IsOpenAt t o f = Unit {0}

drop_steps : (t : Turn) (o : Option ℕ) (f : Option FrameView) → IsOpenAt t o f → is_awaiting t.w.phase ≡ true → drops.FindsAt t o f → is_some (by_partner t o) ≡ true
drop_steps t None f live waits room = rw room refl
drop_steps t (Some peer) None live waits shut = rw shut refl
drop_steps t (Some peer) (Some f) live waits (at, room) = rw (live, waits, at, room) refl

fed_live : (p : PlaceView) (links : List EndView) (time : ℕ) (t : Turn) (slot : ℕ) (o : Option ℕ) (f : Option FrameView) (taken : Taken) → ((a : EndName) → t.ends a ≡ end_at links a) → slot ≡ t.w.slot
    → FeedsFrameAt (sight (place_reading p) (end_at links) time 0) slot o f taken → IsOpenAt t o f
fed_live p links time t slot None f taken ends same fed = tt
fed_live p links time t slot (Some peer) None taken ends same fed = tt
fed_live p links time t slot (Some peer) (Some f) taken ends same fed =
    ap (λ (e : End). e.opened) (ends (end_in t.w.slot peer)) ∙ (ap (λ (n : ℕ). (end_at links (end_in n peer)).opened) (sym same) ∙ fed.live)

-- a transfer may send bytes too, where its connection is open, or find it closed
goes_some : (t : Turn) → list_all (has_room t) (needs t t.w.phase) ≡ true → is_some (by_partner t None) ≡ true
goes_some t room = rw room refl

sends_some : (t : Turn) (peer : ℕ) → is_awaiting t.w.phase ≡ false → HasWay t (Some peer) → is_some (by_partner t (Some peer)) ≡ true
sends_some t peer gives way = by_end (end_with t peer).opened refl
  where
    by_end : (b : Bool) → (end_with t peer).opened ≡ b → is_some (with_partner t peer (end_with t peer).opened) ≡ true
    by_end false shut = ap (λ (b : Bool). is_some (with_partner t peer b)) shut
    by_end true live = ap (λ (b : Bool). is_some (with_partner t peer b)) live ∙ rw (gives, way live) refl

transfer_steps : (t : Turn) (o : Option ℕ) (b : Bool) (f : Option FrameView) → partner t.w.what.peer t.w.phase ≡ o → is_awaiting t.w.phase ≡ b → FindsAt t (if b then o else None) f → IsOpenAt t (if b then o else None) f → is_some (by_partner t o) ≡ true
transfer_steps t None true f at waits finds live = goes_some t (subst (HasWay t) at finds)
transfer_steps t None false f at waits finds live = goes_some t (subst (HasWay t) at finds)
transfer_steps t (Some peer) false f at waits finds live = sends_some t peer waits (subst (HasWay t) at finds)
transfer_steps t (Some peer) true None at waits finds live = ap (λ (b : Bool). is_some (with_partner t peer b)) finds
transfer_steps t (Some peer) true (Some f) at waits finds live = rw (live, waits, finds.0, finds.1) refl

comes_live : (x : Sight) (t : Turn) (o : Option ℕ) (f : Option FrameView) (i : Option Incoming) → ((a : EndName) → t.ends a ≡ x.ends a) → Comes x t.w.slot o f i → IsOpenAt t o f
comes_live x t None f i ends comes = tt
comes_live x t (Some peer) None i ends comes = tt
comes_live x t (Some peer) (Some f) None ends comes = absurd comes
comes_live x t (Some peer) (Some f) (Some i) ends comes = ap (λ (e : End). e.opened) (ends (transfers.end_in t.w.slot peer)) ∙ comes.1

ready_some : (p : PlaceView) (clock : ClockSet) (links : List EndView) (time : ℕ) (s : SetUp) (st : State) (k : Look) (t : Task) (x : Told) → SeesTask p clock links time s st k t → ComesTo p links time s st k t x
    → is_some (slot_step s st k (Some (work_now t))) ≡ true
ready_some p clock links time s st k (tasks.Drops j) (tolds.Feed f) sees comes =
    let taken : Option FrameView = taken_by links j.worker.slot f.takes in
    drop_steps (turn_of s st k (drop_work j)) (stands_on j.worker) taken (fed_live p links time (turn_of s st k (drop_work j)) j.worker.slot (stands_on j.worker) taken f.taken sees.ends refl comes.1) (awaiting j.worker.phase) comes.0
ready_some p clock links time s st k (tasks.Transfers w) (tolds.Arrival x) sees comes =
    let t : Turn = turn_of s st k (work_of w) in
    transfer_steps t (partner (work_of w).what.peer (work_of w).phase) (is_awaiting (work_of w).phase) (taken_by links (work_of w).slot x.takes) refl refl comes.0
    (comes_live (sight_of p.number (length p.ids) links) t (awaited (work_of w)) (taken_by links (work_of w).slot x.takes) x.incoming sees.ends comes.1)
ready_some p clock links time s st k t x sees comes = absurd comes

made_some : (o : Option Effect) → is_some o ≡ true → (m : Effect) × (o ≡ Some m)
made_some None h = absurd cc
made_some (Some m) h = (m, refl)

pub some_steps : (p : PlaceView) (clock : ClockSet) (links : List EndView) (ts : List Task) (time : ℕ) (found : Found) (rows : Rows) (c : Contents) (s : SetUp) (st : State) (k : Look) → Each (IsTask p) ts
    → FindsFirst p clock links ts time found → Each (SeesTask p clock links time s st k) ts → HaveState rows c s st → st.works ≡ map work_now ts → is_some (job_step s st k) ≡ true
some_steps p clock links ts time found rows c s st k fit finds sees keeps works =
    elim (slice_get_cases ts found.index).1 [ inl here ↦ by_job here.0 here.2 | inr past ↦ let within : found.index < length ts = finds.there in absurd (omega (arith, within, past.0)) ]
  where
    by_job : (t : Task) → slice_get ts found.index ≡ Some t → is_some (job_step s st k) ≡ true
    by_job t here =
        let first : IsFirst p clock links ts time found.told t = finds.job t here in
        let among : Member t ts = (find_member (has_slot (slot_of t)) ts t first.found).0 in
        let seen : SeesTask p clock links time s st k t = Each-member (SeesTask p clock links time s st k) ts t sees among in
        let made = made_some (slot_step s st k (Some (work_now t))) (ready_some p clock links time s st k t found.told seen (first.ready rows c s st k seen keeps)) in
        ap (λ (o : Option Effect). is_some o) (first_step (λ slot. slot_step s st k (find (λ w. w.slot == slot) st.works)) (slot_of t) made.0 (task_slot p t (Each-member (IsTask p) ts t fit among))
        (λ slot below. slot_none p clock links ts time slot rows c s st k (first.before slot below) sees keeps works)
        (ap (λ (ws : List Work). slot_step s st k (find (λ w. w.slot == slot_of t) ws)) works
        ∙ (ap (slot_step s st k) (find_mapped work_now (λ w. w.slot == slot_of t) ts ∙ ap (option_map work_now) first.found) ∙ made.1)))

-- so the search tells whether there is one
pub ready_is : (p : PlaceView) (clock : ClockSet) (links : List EndView) (ts : List Task) (time : ℕ) (o : Option Found) (rows : Rows) (c : Contents) (s : SetUp) (st : State) (k : Look) → Each (IsTask p) ts
    → Finds p clock links ts time o → Each (SeesTask p clock links time s st k) ts → HaveState rows c s st → st.works ≡ map work_now ts → is_some (job_step s st k) ≡ is_some o
ready_is p clock links ts time None rows c s st k fit finds sees keeps works = ap (λ (m : Option Effect). is_some m) (none_steps p clock links ts time rows c s st k finds sees keeps works)
ready_is p clock links ts time (Some found) rows c s st k fit finds sees keeps works = some_steps p clock links ts time found rows c s st k fit finds sees keeps works

-- ---- what stays of the others

stays_by : (rows : Jobs.RowsAndEnds) (r n m : ℕ) (e : Entry) (w : Work) → job_of e.kind ≡ Some n → w.number ≡ m → (n == m) ≡ false → work_after rows r e w ≡ w
stays_by rows r n m e w job number apart =
    (λ i. if option_is (job i) (number i) then work_kind rows r w e e.kind else w) ∙ (λ i. if apart i then work_kind rows r w e e.kind else w)

-- what a running job has read stays so
pub read_stays : (s : SetUp) (st st' : State) (jobs : JobsView) (e : Entry) (t : Task) → AreWorks s st jobs → AllApart jobs.running → Member t jobs.running → Follows s st e st' → st'.read (number_of t) ≡ st.read (number_of t)
read_stays s st st' jobs e t are apart among follows =
    follows.read (number_of t)
    ∙ (ap (read_after st.logs (st.read (number_of t))) (ap (find (λ w. w.number == number_of t)) are.works ∙ (find_mapped work_now (λ w. w.number == number_of t) jobs.running ∙ ap (option_map work_now) (found_by_number jobs.running t apart among)))
    ∙ by_kind t (Each-member (λ x. HasReadOf (given_to s x) st x) jobs.running t are.read among))
  where
    by_known : (j : DropJob) (known : Option KnownLogs) → HasRead (given s j.paths) st j.worker known → read_after st.logs (st.read j.worker.number) (Some (drop_work j)) ≡ st.read j.worker.number
    by_known j None fresh = ap (λ (ph : Phase). if has_read Jobs.Drops (phase_as ph) then st.read j.worker.number else st.logs) fresh.0 ∙ sym fresh.1
    by_known j (Some known) read = ap (λ (b : Bool). if b then st.read j.worker.number else st.logs) read.begun

    by_kind : (t : Task) → HasReadOf (given_to s t) st t → read_after st.logs (st.read (number_of t)) (Some (work_now t)) ≡ st.read (number_of t)
    by_kind (tasks.Drops j) read = by_known j j.known read
    by_kind (tasks.Transfers w) read = ap (λ (b : Bool). if b then st.read (work_of w).number else st.logs) (transfer_unread w.worker) ∙ sym read

has_read_stays : (s : SetUp) (st st' : State) (j : DropJob) → HasRead s st j.worker j.known → st'.logs ≡ st.logs → st'.read j.worker.number ≡ st.read j.worker.number → HasRead s st' j.worker j.known
has_read_stays s st st' j was logs read = by_known j.known was
  where
    by_known : (known : Option KnownLogs) → HasRead s st j.worker known → HasRead s st' j.worker known
    by_known None fresh = (fresh.0, read ∙ (fresh.1 ∙ sym logs))
    by_known (Some known) h = read_same s st st' j.worker known read h

pub task_read_stays : (s : SetUp) (st st' : State) (jobs : JobsView) (e : Entry) (t : Task) → AreWorks s st jobs → AllApart jobs.running → Member t jobs.running → Follows s st e st' → HasReadOf (given_to s t) st' t
task_read_stays s st st' jobs e (tasks.Drops j) are apart among follows =
    has_read_stays (given s j.paths) st st' j (Each-member (λ t. HasReadOf (given_to s t) st t) jobs.running (tasks.Drops j) are.read among) follows.logs (read_stays s st st' jobs e (tasks.Drops j) are apart among follows)
task_read_stays s st st' jobs e (tasks.Transfers w) are apart among follows =
    read_stays s st st' jobs e (tasks.Transfers w) are apart among follows ∙ (Each-member (λ t. HasReadOf (given_to s t) st t) jobs.running (tasks.Transfers w) are.read among ∙ sym follows.logs)

-- what the job has read that made the step
own_read : (s : SetUp) (st st' : State) (t t' : Task) (x : Told) → HearsOn t t' x → number_of t' ≡ number_of t → HadPathsOf s t → HasReadOf s st' t' → HasReadOf (given_to s t') st' t'
own_read s st st' (tasks.Drops j) (tasks.Drops j') (tolds.Feed f) hears number had reads = read_apart s st' j'.worker j'.known (λ job. j'.paths) (hears.4 ∙ (had ∙ ap s.paths (sym number))) reads
own_read s st st' (tasks.Transfers w) (tasks.Transfers w') (tolds.Arrival x) hears number had reads = reads
own_read s st st' (tasks.Transfers w) (tasks.Drops j') (tolds.Arrival x) hears number had reads = read_apart s st' j'.worker j'.known (λ job. j'.paths) (hears.2 ∙ (had ∙ ap s.paths (sym number))) reads
own_read s st st' t t' x hears number had reads = absurd hears

-- ---- what a look finds of the job that acts

hears_words : (t : Task) (k : Look) → words_of_task t ≡ k.words → HearsWords t k
hears_words (tasks.Drops j) k words = words
hears_words (tasks.Transfers w) k words = tt

comes_part : (known : Option Parts) (w : TransferJob) (x : Sight) (slot : ℕ) (o : Option ℕ) (f : Option FrameView) (i : Option Incoming) (part : ℕ) (right : Bool) → Comes x slot o f i → SeesPartAt known (tasks.Transfers w) f part right → SeesPart known w i part right
comes_part known w x slot None f i part right comes sees =
    subst (λ (j : Option Incoming). SeesPart known w j part right) (sym comes.1) (subst (λ (g : Option FrameView). SeesPartAt known (tasks.Transfers w) g part right) comes.0 sees)
comes_part known w x slot (Some peer) None None part right comes sees = sees
comes_part known w x slot (Some peer) (Some f) (Some i) part right comes sees = sees i comes.3
comes_part known w x slot (Some peer) None (Some i) part right comes sees = absurd comes
comes_part known w x slot (Some peer) (Some f) None part right comes sees = absurd comes

part_seen : (known : Option Parts) (p : PlaceView) (links : List EndView) (time : ℕ) (s : SetUp) (st : State) (k : Look) (t : Task) (x : Told) → ComesTo p links time s st k t x → SeesPartAt known t (frame_in links t x) k.part k.right → SeesPartOf known t x k
part_seen known p links time s st k (tasks.Transfers w) (tolds.Arrival x) comes sees =
    comes_part known w (sight_of p.number (length p.ids) links) (work_of w).slot (awaited (work_of w)) (frame_in links (tasks.Transfers w) (tolds.Arrival x)) x.incoming k.part k.right comes.1 sees
part_seen known p links time s st k t x comes sees = tt

-- ---- a step

module _ (links : List EndView) (clock : ClockSet) (settings : Settings) (jobs : JobsView) (number time : ℕ) (found : Found) (rows rows' : Rows) (kept kept' : Seen) (now : List Task) (a : Acted)
    (own : OwnAll jobs rows) (finds : FindsFirst jobs.place clock links jobs.running time found) (ch : Changes jobs.place clock links settings time number found rows rows' kept kept' jobs.running now a) where
  among : Member ch.t jobs.running
  among = subst (Member ch.t) (sym ch.was_is) (middle_member ch.front ch.t ch.back)

  job_there : slice_get jobs.running found.index ≡ Some ch.t
  job_there = ap (λ (ts : List Task). slice_get ts found.index) ch.was_is ∙ (ap (slice_get (ch.front ++ ch.t ∷ ch.back)) (sym ch.place) ∙ get_middle ch.front ch.t ch.back)

  pub first_of_found : IsFirst jobs.place clock links jobs.running time found.told ch.t
  first_of_found = finds.job ch.t job_there

  task : IsTask jobs.place ch.t
  task = Each-member (IsTask jobs.place) jobs.running ch.t own.tasks among

  pub takes_waiting : WaitsFor links a.slot a.takes
  takes_waiting = λ peer takes. subst (λ (n : ℕ). (room_at links (end_in n peer) ≡ true) × (is_some (wait_at links (end_in n peer)) ≡ true)) (sym ch.slot) (first_of_found.waits peer (sym ch.takes ∙ takes))

  pub in_a_slot : a.slot < 4
  in_a_slot = subst (λ (n : ℕ). n < 4) (sym ch.slot) (task_slot jobs.place ch.t task)

  apart : AllApart (ch.front ++ ch.t ∷ ch.back)
  apart = subst AllApart ch.was_is own.apart

  pub kind_is : IsKindOf a.job a
  kind_is = (
    λ going. subst (λ (n : ℕ). IsOnward n a.kind) (sym ch.job) (ch.leaves.onward going),
    λ ended. subst (λ (n : ℕ). IsLast n a.kind) (sym ch.job) (ch.leaves.last ended),
  )

  pub job_found : job_at jobs.running a.job ≡ Some ch.t
  job_found = ap (job_at jobs.running) ch.job ∙ found_by_number jobs.running ch.t own.apart among

  -- the same, as the list has it
  abbrev made : Effect
  made = made_of_task links ch.t found.told (output_of a)

  made_is : made ≡ made_by links a
  made_is = λ i. record { kind = a.kind; taken = taken_by links (sym ch.slot i) (sym ch.takes i); sent = frames_in links (sym ch.slot i) a.sent; lines = []; calls = [] }

  module _ (c : Contents) (tells : kept.contents ≡ Some c) (s : SetUp) (st : State) (k : Look) (sees : SeesJobs links clock settings jobs number time s st k) (keeps : HaveState rows c s st) (acted : SeesActed kept.parts links jobs k (Some a)) where
    each : Each (SeesTask jobs.place clock links time s st k) jobs.running
    each = sees_each links clock settings jobs number time s st k sees

    job : SeesTask jobs.place clock links time s st k ch.t
    job = Each-member (SeesTask jobs.place clock links time s st k) jobs.running ch.t each among

    acted_of : SeesActedOf kept.parts links jobs k a
    acted_of = acted a refl

    words : words_of_task ch.t ≡ k.words
    words = sym (ap (λ (o : Option Task). option_map_or words_of_task o (λ c. None)) job_found) ∙ acted_of.words

    part : SeesPartAt kept.parts ch.t (frame_in links ch.t found.told) k.part k.right
    part = subst (λ (o : Option FrameView). SeesPartAt kept.parts ch.t o k.part k.right) (λ i. taken_by links (ch.slot i) (ch.takes i)) (acted_of.part ch.t job_found)

    comes : ComesTo jobs.place links time s st k ch.t found.told
    comes = first_of_found.ready rows c s st k job keeps

    seen : SeesActs jobs.place clock links settings time number kept.parts rows c ch.t found.told (failed_in a.kind) s st k
    seen = record {
      sees = job;
      comes = comes;
      keeps = keeps;
      logs = sees.logs;
      nameless = sees.nameless;
      counts = sees.counts;
      failing = acted_of.fails;
      words = hears_words ch.t k words;
      part = part_seen kept.parts jobs.place links time s st k ch.t found.told comes part;
    }

    acts : ActsSo links ch.t ch.t' found.told (output_of a) s st k
    acts = ch.acts c tells s st k seen

    -- it is the step of the job's slot
    slot_is : slot_step s st k (find (λ w. w.slot == slot_of ch.t) st.works) ≡ slot_step s st k (Some (work_now ch.t))
    slot_is =
        ap (λ (ws : List Work). slot_step s st k (find (λ w. w.slot == slot_of ch.t) ws)) sees.works.works
        ∙ ap (slot_step s st k) (find_mapped work_now (λ w. w.slot == slot_of ch.t) jobs.running ∙ ap (option_map work_now) first_of_found.found)

    step_is : job_step s st k ≡ slot_step s st k (Some (work_now ch.t))
    step_is =
        let made_there = map_some (slot_step s st k (Some (work_now ch.t))) as_told made acts.made in
        first_step (λ slot. slot_step s st k (find (λ w. w.slot == slot) st.works)) (slot_of ch.t) made_there.0 (task_slot jobs.place ch.t task)
        (λ slot below. slot_none jobs.place clock links jobs.running time slot rows c s st k (first_of_found.before slot below) each keeps sees.works.works)
        (slot_is ∙ made_there.1) ∙ sym made_there.1

    steps_so : option_map as_told (job_step s st k) ≡ Some (made_by links a)
    steps_so = ap (option_map as_told) step_is ∙ (acts.made ∙ ap (λ (m : Effect). Some m) made_is)

    -- so its calls are those of the slot's step
    pub calls_so : ForSome (job_step s st k) (λ (m : Effect). MakesCalls m.calls (failed_in a.kind) kept.failing kept'.failing)
    calls_so = subst (λ (o : Option Effect). ForSome o (λ (m : Effect). MakesCalls m.calls (failed_in a.kind) kept.failing kept'.failing)) (sym step_is) (ch.makes c tells s st k seen)

    -- ---- the works that follow

    had : Each (HadPathsOf s) (ch.front ++ ch.t ∷ ch.back)
    had = subst (Each (HadPathsOf s)) ch.was_is sees.paths

    module _ (st' : State) (follows : Follows s st (entry_of s.number k (made_by links a)) st') where
      abbrev e : Entry
      e = entry_of s.number k (made_by links a)

      abbrev rr : Jobs.RowsAndEnds
      rr = record { present = st.present; bar = st.bar; ends = st.ends }

      abbrev Read : Task → Type 0
      Read t = HasReadOf (given_to s t) st' t

      others_read : (t : Task) → Member t jobs.running → Read t
      others_read t here = task_read_stays s st st' jobs e t sees.works own.apart here follows

      front_read : Each Read ch.front
      front_read = Each-from_members Read ch.front (λ t here. others_read t (subst (Member t) (sym ch.was_is) (Member-append_left ch.front (ch.t ∷ ch.back) t here)))

      back_read : Each Read ch.back
      back_read = Each-from_members Read ch.back (λ t here. others_read t (subst (Member t) (sym ch.was_is) (Member-append_right ch.front (ch.t ∷ ch.back) t (inr here))))

      my_read : a.ended ≡ false → Read ch.t'
      my_read going =
          own_read s st st' ch.t ch.t' found.told ch.leaves.heard ch.leaves.number (Each-right (HadPathsOf s) ch.front (ch.t ∷ ch.back) had).0
          (acts.read going st' follows.logs (read_stays s st st' jobs e ch.t sees.works own.apart among follows))

      works_on_so : IsOnward (number_of ch.t) a.kind → a.ended ≡ false → AreWorks s st' (record jobs { running = ch.front ++ ch.t' ∷ ch.back })
      works_on_so onward going =
          record {
            works = follows.works ∙ (onward_works rr s.number (number_of ch.t) st.works e a.kind onward ∙ (ap (map (work_after rr s.number e)) (sees.works.works ∙ ap (map work_now) ch.was_is)
                ∙ works_on (work_after rr s.number e) ch.front ch.t ch.t' ch.back before goes behind));
            begun = follows.begun ∙ (onward_begun (number_of ch.t) st.begun a.kind onward ∙ sees.works.begun);
            read = Each-append Read ch.front (ch.t' ∷ ch.back) front_read (my_read going, back_read);
          }
        where
          mine : job_of a.kind ≡ Some (number_of ch.t)
          mine = onward_job (number_of ch.t) a.kind onward

          before : Each (λ x. work_after rr s.number e (work_now x) ≡ work_now x) ch.front
          before = Each-weaker (λ x. AreApart x ch.t) (λ x. work_after rr s.number e (work_now x) ≡ work_now x)
              (λ x h. stays_by rr s.number (number_of ch.t) (number_of x) e (work_now x) mine refl (ne_eqb (number_of ch.t) (number_of x) (λ same. h.number (sym same)))) ch.front (apart_before ch.front ch.t ch.back apart)

          behind : Each (λ x. work_after rr s.number e (work_now x) ≡ work_now x) ch.back
          behind = Each-weaker (AreApart ch.t) (λ x. work_after rr s.number e (work_now x) ≡ work_now x)
              (λ x h. stays_by rr s.number (number_of ch.t) (number_of x) e (work_now x) mine refl (ne_eqb (number_of ch.t) (number_of x) h.number)) ch.back (apart_behind ch.front ch.t ch.back apart)

          goes : work_after rr s.number e (work_now ch.t) ≡ work_now ch.t'
          goes = sym (acts.next going ∙ ap (λ (m : Effect). work_after rr s.number (entry_of s.number k m) (work_now ch.t)) made_is)

      works_off_so : IsLast (number_of ch.t) a.kind → AreWorks s st' (record jobs { running = ch.front ++ ch.back })
      works_off_so last =
          record {
            works = follows.works ∙ (last_works rr s.number (number_of ch.t) st.works e a.kind last ∙ (ap (filter (is_left (number_of ch.t))) (sees.works.works ∙ ap (map work_now) ch.was_is)
                ∙ works_off (number_of ch.t) ch.front ch.t ch.back before (rw (eqb_refl (number_of ch.t)) refl) behind));
            begun = follows.begun ∙ (last_begun (number_of ch.t) st.begun a.kind last ∙ sees.works.begun);
            read = Each-append Read ch.front ch.back front_read back_read;
          }
        where
          before : Each (λ x. is_left (number_of ch.t) (work_now x) ≡ true) ch.front
          before = Each-weaker (λ x. AreApart x ch.t) (λ x. is_left (number_of ch.t) (work_now x) ≡ true) (λ x h. rw (ne_eqb (number_of x) (number_of ch.t) h.number) refl) ch.front (apart_before ch.front ch.t ch.back apart)

          behind : Each (λ x. is_left (number_of ch.t) (work_now x) ≡ true) ch.back
          behind = Each-weaker (AreApart ch.t) (λ x. is_left (number_of ch.t) (work_now x) ≡ true) (λ x h. rw (ne_eqb (number_of x) (number_of ch.t) (λ same. h.number (sym same))) refl) ch.back (apart_behind ch.front ch.t ch.back apart)

      works_so : AreWorks s st' (record jobs { running = now })
      works_so = subst (λ (ts : List Task). AreWorks s st' (record jobs { running = ts })) (sym ch.now_is) (by_end a.ended refl)
        where
          by_end : (b : Bool) → a.ended ≡ b → AreWorks s st' (record jobs { running = ch.front ++ (task_after b ch.t' ++ ch.back) })
          by_end false going = works_on_so (ch.leaves.onward going) going
          by_end true ended = works_off_so (ch.leaves.last ended)

    pub steps_jobs : StepsJobs s st k links jobs (record jobs { running = now }) (Some a)
    steps_jobs = record { made = steps_so; works = works_so }
