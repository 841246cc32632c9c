-- The step of a transfer is one of its job.
use Rattle.std.proofs.Common.{◌≡◌, ℕ, ◌<◌, Bool, true, false, List, [], Option, Some, None, length, Result, Ok, Err, refl, sym, ap, subst, ◌∙◌, true≢false}
use Rattle.std.specs.Prelude.{◌||◌, ◌==◌, IfOk, IfSome, filter, if◌then◌else◌, map, not}
use Rattle.std.specs.Option.{ForSome}
use Rattle.annex_base.specs.Settings.{Settings}
use Rattle.annex_base.specs.declared.kinds.Call.TheVariants as calls
use Rattle.drop_proof.specs.declared.rule.Side.{Side}
use Rattle.drop_proof.specs.declared.rule.Side.TheVariants.{Local, Remote}
use Rattle.run_data.specs.declared.entry.By.{By}
use Rattle.run_data.specs.declared.entry.By.TheVariants as bys
use Rattle.run_data.specs.declared.entry.EntryKind.{EntryKind}
use Rattle.run_data.specs.declared.entry.EntryKind.TheVariants as kinds
use Rattle.run_data.specs.declared.entry.FrameView.{FrameView}
use Rattle.run_data.specs.declared.job.Job.{Job}
use Rattle.run_data.specs.declared.job.Outcome.{Outcome}
use Rattle.object_store.specs.Stores.{Contents, Parts}
use Rattle.object_store.specs.declared.keeper.HoldRecord.{HoldRecord}
use Rattle.link_ring.specs.Ends.{EndView}
use Rattle.node_model.specs.Clocks.{ClockSet}
use Rattle.node_model.specs.Jobs.{Work, drop_side, is_move}
use Rattle.node_model.specs.Look.{Effect, Look, failed_in}
use Rattle.node_model.specs.Rows.{bar_after, holds_after, is_lost_ordered, keep_of, option_is, same_owner}
use Rattle.node_model.specs.SetUp.{SetUp}
use Rattle.node_model.specs.Slots.{job_by, job_of}
use Rattle.node_model.specs.State.{State}
use Rattle.node_model.specs.Turns.{slot_step}
use Rattle.content_lock.specs.CallsMade.{MakesCalls}
use Rattle.content_lock.specs.Rows.{Rows, bar_at, is_filling}
use Rattle.content_lock.specs.Stored.{Agrees}
use Rattle.content_lock.specs.Tokens.{Owns}
use Rattle.drop_phases.specs.Apart.{IsApart, asked_in, looked_in}
use Rattle.drop_phases.specs.Begun.{IsLast}
use Rattle.drop_phases.specs.declared.phase.Heard.{Heard}
use Rattle.drop_phases.specs.declared.phase.Phase.{Phase}
use Rattle.drop_phases.specs.declared.phase.Phase.TheVariants as phases
use Rattle.drop_phases.specs.declared.phase.Token.{Token}
use Rattle.drop_phases.specs.declared.phase.Token.TheVariants as tokens
use Rattle.drop_phases.specs.Doing.{HasToken, share_in}
use Rattle.drop_phases.specs.Sides.{FitsSide, HasTarget, IsNumbered, side_in}
use Rattle.drop_phases.specs.Worker.{Worker as DropWorker}
use Rattle.drop_phases.specs.Working.{heard_in}
use Rattle.drop_phases.proofs.Endings.{ends_rows}
use Rattle.node_drops.specs.Drops.{DropJob, HasRead, HasReadByPhase, IsDrop, place_reading}
use Rattle.node_drops.specs.Places.{PlaceView}
use Rattle.node_drops.proofs.Hearing.{count_is}
use Rattle.end_hearing.specs.declared.hearing.Arrival.{Arrival}
use Rattle.put_steps.specs.Puts.{HasPeer}
use Rattle.transfer_turns.specs.declared.parcels.Output.{Output}
use Rattle.transfer_turns.specs.Steps.{FillsSo, IsOfTransfer, LeavesAll, Seen, is_end}
use Rattle.transfer_turns.specs.Turns.{Sight}
use Rattle.node_transfers.specs.Worker.{Worker}
use Rattle.node_transfers.specs.Worker.TheVariants.{Gets, Puts as Offers}
use Rattle.node_transfers.specs.States.{Sees, StepsSo}
use Rattle.node_transfers.specs.declared.job.TransferJob.{TransferJob}
use Rattle.node_transfers.specs.Transferring as workers
use Rattle.node_transfers.specs.Transferring.{KeepsSo}
use Rattle.node_transfers.specs.Workers.{HasFill, IsFed, SeesPart, is_done, work_of}
use Rattle.node_transfers.specs.Ready.{sight_of}
use Rattle.node_tasks.specs.declared.acted.Output.{Output as Made}
use Rattle.node_tasks.specs.declared.acted.Sent.TheVariants.{ByTransfer}
use Rattle.node_tasks.specs.declared.readiness.Told.TheVariants as tolds
use Rattle.node_tasks.specs.declared.task.Task.{Task}
use Rattle.node_tasks.specs.declared.task.Task.TheVariants as tasks
use Rattle.node_tasks.specs.Acting.{Acts, Failing, HearsOn, IsOnward, LeavesSo, Makes, SeesActs, Stays}
use Rattle.node_tasks.specs.Handing.{BeginsDrop, HandsOn}
use Rattle.node_tasks.specs.Tasks.{HasReadOf, IsFedTask, IsSpent, IsTask, IsTransfer, OwnsOf, number_of, work_now}
use Rattle.node_tasks.specs.Telling.{frame_in}

-- the job has ended, or hasn't
abbrev pub made_of : Output → Bool → Made
made_of out ended = record { kind = out.kind; sent = ByTransfer out.sends; ended = ended }

-- ---- the job that it is from here on

handed_work : (w : TransferJob) (t : Task) → HandsOn w t → work_now t ≡ work_of w
handed_work w (tasks.Drops j) h = h.work
handed_work w (tasks.Transfers v) h = ap work_of h.1

-- it would read the logs
handed_read : (s : SetUp) (st : State) (w : TransferJob) (t : Task) → HandsOn w t → st.read (number_of t) ≡ st.logs → HasReadOf s st t
handed_read s st w (tasks.Drops j) h same = subst (HasRead s st j.worker) (sym h.known) (h.phase, same)
handed_read s st w (tasks.Transfers v) h same = same

-- a drop that begins stands apart
pub new_apart : (side : Side) (peer : Option ℕ) (w : DropWorker) → w.heard ≡ [] → w.phase ≡ phases.Fresh → IsApart side peer w
new_apart Local peer w heard phase = tt
new_apart Remote None w heard phase = tt
new_apart Remote (Some target) w heard phase = record {
  unheard = ap (λ (l : List (ℕ × Heard)). heard_in l target) heard;
  asked = subst (λ (ph : Phase). IfSome (asked_in ph) (λ peer. heard_in w.heard peer ≡ None)) (sym phase) tt;
  other = subst (λ (ph : Phase). IfSome (looked_in ph) (λ peer. (target == peer) ≡ false)) (sym phase) tt;
}

handed_heard : (w w' : TransferJob) (t : Task) (x : Arrival) → w'.paths ≡ w.paths → HandsOn w' t → HearsOn (tasks.Transfers w) t (tolds.Arrival x)
handed_heard w w' (tasks.Drops j) x paths h = (h.heard, h.word, h.paths ∙ paths)
handed_heard w w' (tasks.Transfers v) x paths h = ap (λ (v : TransferJob). v.paths) h.1 ∙ paths

handed_spent : (w : TransferJob) (t : Task) → HandsOn w t → IsSpent t
handed_spent w (tasks.Drops j) h = h.token
handed_spent w (tasks.Transfers v) h = tt

handed_owns : (rows : Rows) (w : TransferJob) (t : Task) → HandsOn w t → HasToken (work_of w).number (work_of w).what.key tokens.Nothing rows → HasFill rows w → OwnsOf rows t
handed_owns rows w (tasks.Drops j) h bare fill =
    subst (λ (token : Token). HasToken j.worker.number j.worker.job.key token rows) (sym h.token) (subst (λ (v : Work). HasToken v.number v.what.key tokens.Nothing rows) (sym h.work) bare)
handed_owns rows w (tasks.Transfers v) h bare fill =
    subst (λ (u : TransferJob). HasToken (work_of u).number (work_of u).what.key tokens.Nothing rows × HasFill rows u) (sym h.1) (bare, fill)

handed_fed : (known known' : Option Parts) (w w' : TransferJob) (t : Task) → HandsOn w' t → ForSome known (λ q. IsFed q w → ForSome known' (λ q'. IsFed q' w')) → ForSome known (λ q. IsFedTask q (tasks.Transfers w) → ForSome known' (λ q'. IsFedTask q' t))
handed_fed known known' w w' (tasks.Drops j) h fed = λ q told was q' told'. tt
handed_fed known known' w w' (tasks.Transfers v) h fed = λ q told was q' told'. subst (IsFed q') (sym h.1) (fed q told was q' told')

-- one that isn't done stays what it is
handed_same : (w w' : TransferJob) (t : Task) → is_done w ≡ false → w' ≡ w → HandsOn w' t → t ≡ tasks.Transfers w
handed_same w w' (tasks.Drops j) undone same h = absurd (true≢false (sym h.done ∙ (ap is_done same ∙ undone)))
handed_same w w' (tasks.Transfers v) undone same h = ap (λ (u : TransferJob). tasks.Transfers u) (h.1 ∙ same)

-- ---- its step

module _ (p : PlaceView) (clock : ClockSet) (links : List EndView) (settings : Settings) (time number : ℕ) (contents : Option Contents) (known : Option Parts) (rows : Rows) (w : TransferJob) (x : Arrival) where
  abbrev sight : Sight
  sight = sight_of p.number (length p.ids) links

  abbrev f : Option FrameView
  f = frame_in links (tasks.Transfers w) (tolds.Arrival x)

  seen_by : (c : Contents) (out : Output) (s : SetUp) (st : State) (k : Look) → SeesActs p clock links settings time number known rows c (tasks.Transfers w) (tolds.Arrival x) (failed_in out.kind) s st k
      → Sees sight rows c (work_of w) x.incoming (failed_in out.kind) (SeesPart known w x.incoming) s st k f
  seen_by c out s st k sees = record {
    sight = record { repo = sym sees.sees.place.number; count = sym (count_is p s sees.sees.place); ends = λ i a. sym (sees.sees.ends a) i };
    keeps = sees.keeps;
    failing = sees.failing;
    part = sees.part;
    finds = sees.comes.0;
    comes = sees.comes.1;
  }

  pub transfer_acts : (w' : TransferJob) (next : Task) (out : Output) (ended : Bool) → ended ≡ is_end out.kind → (work_of w').number ≡ (work_of w).number → HandsOn w' next
      → ForSome contents (λ c. (s : SetUp) (st : State) (k : Look) (g : Option FrameView) → Sees sight rows c (work_of w) x.incoming (failed_in out.kind) (SeesPart known w x.incoming) s st k g → StepsSo sight (work_of w) (work_of w') out s st k g)
      → Acts p clock links settings time number contents known rows (tasks.Transfers w) next (tolds.Arrival x) (made_of out ended)
  transfer_acts w' next out ended is_ended same hands steps = λ c is s st k sees.
      let so = steps c is s st k f (seen_by c out s st k sees) in
      record {
        made = so.made;
        next = λ going. handed_work w' next hands ∙ so.next (sym is_ended ∙ going);
        read = λ going st' logs read. handed_read s st' w' next hands (ap (λ (v : Work). st'.read v.number) (handed_work w' next hands) ∙ (ap st'.read same ∙ (read ∙ (sees.sees.read ∙ sym logs))));
      }

  pub transfer_makes : (before after : Failing) (out : Output) (ended : Bool)
      → ForSome contents (λ c. (s : SetUp) (st : State) (k : Look) (g : Option FrameView) → Sees sight rows c (work_of w) x.incoming (failed_in out.kind) (SeesPart known w x.incoming) s st k g
      → ForSome (slot_step s st k (Some (work_of w))) (λ (m : Effect). MakesCalls m.calls (failed_in out.kind) before after))
      → Makes p clock links settings time number contents known rows before after (tasks.Transfers w) (tolds.Arrival x) (made_of out ended)
  transfer_makes before after out ended makes = λ c is s st k sees. makes c is s st k f (seen_by c out s st k sees)

-- ---- what it leaves

-- its entries are its job's, and change no hold and no bar
by_is : (n : ℕ) (by : By) → job_by by ≡ Some n → by ≡ bys.Job n
by_is n (bys.Job m) is = let same : m ≡ n = cc in ap bys.Job same
by_is n by is = absurd cc

onward : (n : ℕ) (kind : EntryKind) → IsOfTransfer kind → job_of kind ≡ Some n → is_end kind ≡ false → IsOnward n kind
onward n (kinds.Talk (Some job)) of mine going = mine
onward n (kinds.Fault call by) of mine going = by_is n by mine
onward n (kinds.Gain by size key) of mine going = by_is n by mine
onward n (kinds.End job outcome) of mine going = absurd cc
onward n kind of mine going = absurd of

last : (n : ℕ) (kind : EntryKind) → IsOfTransfer kind → job_of kind ≡ Some n → is_end kind ≡ true → IsLast n kind
last n (kinds.End job outcome) of mine ended = let same : job ≡ n = cc in same
last n (kinds.Talk (Some job)) of mine ended = absurd cc
last n (kinds.Fault call by) of mine ended = absurd cc
last n (kinds.Gain by size key) of mine ended = absurd cc
last n kind of mine ended = absurd of

-- none adds a hold
numbered : (n : ℕ) (kind : EntryKind) → IsOfTransfer kind → IsNumbered n kind
numbered n (kinds.Share hold end owner key) of = absurd of
numbered n kind of = tt

-- a job without a token has no bar, and no open hold
ended_rows : (n : ℕ) (key : List ℕ) (rows : Rows) (outcome : Outcome) → HasToken n key tokens.Nothing rows → (lost : Bool) → is_lost_ordered outcome ≡ lost
    → (rows.holds ≡ holds_after rows.holds (kinds.End n outcome)) × ((k : List ℕ) → bar_at rows k ≡ bar_after k (bar_at rows k) (kinds.End n outcome))
ended_rows n key rows outcome bare false plain = let after = ends_rows n key tokens.Nothing rows rows outcome plain refl bare (λ k. refl) refl refl in (after.holds, after.bars)
ended_rows n key rows outcome bare true lost = (
  sym (ap (λ (b : Bool). if b then map (keep_of (bys.Job n)) rows.holds else filter (λ h. h.kept || not (same_owner h.owner (bys.Job n))) rows.holds) lost ∙ bare.holds.kept),
  λ k. ap (λ (b : Bool). if b then None else bar_at rows k) (sym (bare.bars k)),
)

rows_stay : (n : ℕ) (key : List ℕ) (rows : Rows) (kind : EntryKind) → HasToken n key tokens.Nothing rows → IsOfTransfer kind → job_of kind ≡ Some n
    → (rows.holds ≡ holds_after rows.holds kind) × ((k : List ℕ) → bar_at rows k ≡ bar_after k (bar_at rows k) kind)
rows_stay n key rows (kinds.Talk (Some job)) bare of mine = (refl, λ k. refl)
rows_stay n key rows (kinds.Gain by size key') bare of mine = (refl, λ k. refl)
rows_stay n key rows (kinds.Fault calls.Unhold by) bare of mine = (sym (ap (λ (b : By). map (keep_of b) rows.holds) (by_is n by mine) ∙ bare.holds.kept), λ k. refl)
rows_stay n key rows (kinds.Fault call by) bare of mine = (refl, λ k. refl)
rows_stay n key rows (kinds.End job outcome) bare of mine =
    let same : job ≡ n = cc in
    subst (λ (m : ℕ). (rows.holds ≡ holds_after rows.holds (kinds.End m outcome)) × ((k : List ℕ) → bar_at rows k ≡ bar_after k (bar_at rows k) (kinds.End m outcome))) (sym same)
    (ended_rows n key rows outcome bare (is_lost_ordered outcome) refl)
rows_stay n key rows kind bare of mine = absurd of

-- a token stays where holds and bars do
keeps_token : (rows rows' : Rows) → rows'.holds ≡ rows.holds → ((key : List ℕ) → bar_at rows' key ≡ bar_at rows key) → (job : ℕ) (key : List ℕ) (token : Token) → HasToken job key token rows → HasToken job key token rows'
keeps_token rows rows' holds bars job key token has = record {
  of_key = has.of_key;
  of_job = has.of_job;
  bars = λ k. ap (λ (o : Option ℕ). option_is o job) (bars k) ∙ has.bars k;
  holds = subst (Owns (bys.Job job) (share_in token)) (sym holds) has.holds;
}

moved : {n n' : ℕ} {what what' : Job} {rows : Rows} → n' ≡ n → what' ≡ what → HasToken n what.key tokens.Nothing rows → HasToken n' what'.key tokens.Nothing rows
moved {n} {n'} {what} {what'} {rows} number same has = subst (λ (m : ℕ). HasToken m what'.key tokens.Nothing rows) (sym number) (subst (λ (j : Job). HasToken n j.key tokens.Nothing rows) (sym same) has)

-- it stays one that can step, in its slot, with other repositories alone
has_peer : (x y : Sight) (o : Option ℕ) → x.repo ≡ y.repo → HasPeer x o → HasPeer y o
has_peer x y None same has = absurd has
has_peer x y (Some peer) same has = subst (λ (n : ℕ). (n == peer) ≡ false) same has

can_there : (x y : Sight) (w : Worker) → x.repo ≡ y.repo → workers.CanStep x w → workers.CanStep y w
can_there x y (Gets w) same can = can
can_there x y (Offers w) same can = (can.0, can.1, has_peer x y w.job.peer same can.2)

not_done : (x : Sight) (w : Worker) → workers.CanStep x w → workers.is_done w ≡ false
not_done x (Gets w) can = can
not_done x (Offers w) can = can.1

names_other : (x : Sight) (count : ℕ) (o : Option ℕ) → IfSome o (λ peer. (peer < count) × ((x.repo == peer) ≡ false)) → IfSome o (λ peer. (x.repo == peer) ≡ false)
names_other x count None names = tt
names_other x count (Some peer) names = names.1

-- only a move is done, and its drop is to begin
if_done : (b : Bool) → (b ≡ false → ⊥) → b ≡ true
if_done true h = refl
if_done false h = absurd (h refl)

fresh_fits : (side : Side) → FitsSide side phases.Fresh tokens.Nothing
fresh_fits Local = tt
fresh_fits Remote = tt

module _ (p : PlaceView) (links : List EndView) (rows rows' : Rows) (k k' : Seen) (w w' : TransferJob) (transfer : IsTransfer p w) where
  abbrev here : Sight
  here = sight_of p.number (length p.ids) links

  abbrev nowhere : Sight
  nowhere = sight_of p.number (length p.ids) []

  undone : is_done w ≡ false
  undone = not_done nowhere w.worker transfer.can

  module _ (x : Arrival) (out : Output) (bare : HasToken (work_of w).number (work_of w).what.key tokens.Nothing rows) (keeps : KeepsSo here x.incoming rows rows' k k' w.worker w'.worker out) (paths : w'.paths ≡ w.paths) where
    bars : (key : List ℕ) → bar_at rows' key ≡ bar_at rows key
    bars key = ap (λ (bs : _). bar_at (record rows { bars = bs }) key) keeps.leaves.bars

    stay : (rows.holds ≡ holds_after rows.holds out.kind) × ((key : List ℕ) → bar_at rows key ≡ bar_after key (bar_at rows key) out.kind)
    stay = rows_stay (work_of w).number (work_of w).what.key rows out.kind bare keeps.leaves.kind keeps.leaves.whose

    goes_on : is_done w' ≡ false → IsTransfer p w'
    goes_on going = record {
      can = can_there here nowhere w'.worker refl (keeps.can going (can_there nowhere here w.worker refl transfer.can));
      slot = subst (λ (n : ℕ). n < 4) (sym keeps.leaves.slot) transfer.slot;
      names = subst (λ (what : Job). IfSome what.peer (λ peer. (peer < length p.ids) × ((p.number == peer) ≡ false))) (sym keeps.leaves.what) transfer.names;
      apart = keeps.apart (names_other here (length p.ids) (work_of w).what.peer transfer.names) transfer.apart;
      target = subst (λ (what : Job). is_move what.kind ≡ true → HasTarget (drop_side what.kind what.peer) what.peer (place_reading p)) (sym keeps.leaves.what) transfer.target;
    }

    begins : (j : DropJob) → BeginsDrop w' j → IsDrop p j
    begins j h =
        let moves : is_move (work_of w).what.kind ≡ true = if_done (is_move (work_of w).what.kind) (λ plain. true≢false (sym h.done ∙ keeps.undone plain undone)) in
        let job : j.worker.job ≡ (work_of w).what = ap (λ (v : Work). v.what) h.work ∙ keeps.leaves.what in
        record {
          target = subst (λ (what : Job). HasTarget (drop_side what.kind what.peer) what.peer (place_reading p)) (sym job) (transfer.target moves);
          slot = subst (λ (n : ℕ). n < 4) (sym (ap (λ (v : Work). v.slot) h.work ∙ keeps.leaves.slot)) transfer.slot;
          fits = subst (FitsSide (side_in j.worker) j.worker.phase) (sym h.token) (subst (λ (phase : Phase). FitsSide (side_in j.worker) phase tokens.Nothing) (sym h.phase) (fresh_fits (side_in j.worker)));
          stands = subst (HasReadByPhase p j.worker.phase) (sym h.known) h.phase;
          own = λ later. absurd (later h.phase);
          apart = new_apart (side_in j.worker) j.worker.job.peer j.worker h.heard h.phase;
          unheard = λ fresh. h.heard;
        }

    is_task : (t : Task) → HandsOn w' t → IsTask p t
    is_task (tasks.Drops j) h = begins j h
    is_task (tasks.Transfers v) h = subst (IsTransfer p) (sym h.1) (goes_on h.0)

    pub transfer_leaves : (ended : Bool) → ended ≡ is_end out.kind → (next : Task) (n : ℕ) → HandsOn w' next → LeavesSo p n rows rows' k k' (tasks.Transfers w) next (tolds.Arrival x) (made_of out ended)
    transfer_leaves ended is_ended next n hands =
        let work : work_now next ≡ work_of w' = handed_work w' next hands in
        record {
          number = ap (λ (v : Work). v.number) work ∙ keeps.leaves.number;
          slot = ap (λ (v : Work). v.slot) work ∙ keeps.leaves.slot;
          what = ap (λ (v : Work). v.what) work ∙ keeps.leaves.what;
          heard = handed_heard w w' next x paths hands;
          locks = tt;
          onward = λ going. onward (work_of w).number out.kind keeps.leaves.kind keeps.leaves.whose (sym is_ended ∙ going);
          last = λ at_end. last (work_of w).number out.kind keeps.leaves.kind keeps.leaves.whose (sym is_ended ∙ at_end);
          numbered = numbered n out.kind keeps.leaves.kind;
          task = λ going. is_task next hands;
          spent = λ at_end. handed_spent w' next hands;
          owns = handed_owns rows' w' next hands (moved keeps.leaves.number keeps.leaves.what (keeps_token rows rows' keeps.leaves.holds bars (work_of w).number (work_of w).what.key tokens.Nothing bare)) keeps.has;
          others = λ job key token other has. keeps_token rows rows' keeps.leaves.holds bars job key token has;
          after = keeps.leaves.holds ∙ stay.0;
          bars = λ key. bars key ∙ stay.1 key;
          filled = subst (λ (v : Work). FillsSo (work_of w) v (is_filling rows) (is_filling rows')) (sym work) keeps.leaves.filled;
          contents = keeps.leaves.contents;
          parts = keeps.parts;
          fed = handed_fed k.parts k'.parts w w' next hands keeps.fed;
          small = keeps.small;
          judged = keeps.judged;
          pieces = keeps.pieces;
          agrees = λ agrees. subst (λ (o : Option (List HoldRecord)). Agrees o rows'.holds) (sym keeps.leaves.records) (subst (Agrees k.records) (sym keeps.leaves.holds) agrees);
          files = keeps.leaves.files;
          later = keeps.leaves.later;
          cause = keeps.leaves.cause;
          left = keeps.leaves.left;
        }

  -- want of memory changes nothing
  pub transfer_stays : (next : Task) → HandsOn w' next → w'.paths ≡ w.paths → (w'.worker ≡ w.worker) × (rows' ≡ rows) × LeavesAll k k' → Stays rows rows' k k' (tasks.Transfers w) next
  transfer_stays next hands paths all = record {
    task = handed_same w w' next undone (λ i. record { worker = all.0 i; paths = paths i }) hands;
    table = all.1;
    contents = all.2.contents;
    parts = all.2.parts;
    records = all.2.records;
    files = all.2.files;
    later = all.2.later;
    failing = all.2.failing;
  }

-- what is so at each clock, with any settings, is so at this one
pub at : {X E C S : Type 0} (P : C → S → ℕ → ℕ → X → Type 0) (clock : C) (settings : S) (time number : ℕ) (r : Result X E) → IfOk r (λ x. (clock : C) (settings : S) (time number : ℕ) → P clock settings time number x) → IfOk r (P clock settings time number)
at P clock settings time number (Ok x) all = all clock settings time number
at P clock settings time number (Err e) all = tt

-- so it is of the job that a transfer hands on to
pub handed : {X E C S : Type 0} (P : Task → C → S → ℕ → ℕ → X → Type 0) (w : TransferJob) (next : Task) (clock : C) (settings : S) (time number : ℕ) (r : Result X E) → HandsOn w next
    → IfOk r (λ x. (t : Task) → HandsOn w t → (clock : C) (settings : S) (time number : ℕ) → P t clock settings time number x) → IfOk r (P next clock settings time number)
handed P w next clock settings time number (Ok x) hands all = all next hands clock settings time number
handed P w next clock settings time number (Err e) hands all = tt
