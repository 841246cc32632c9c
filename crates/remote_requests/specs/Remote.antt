-- What a remote drop has and knows at a step, and what its step leaves; for the crates of drops (own).
use Rattle.std.specs.Prelude.{◌≡◌, ◌≤◌, ◌<◌, ◌^◌, ◌==◌, ◌&&◌, ℕ, Bool, true, false, nat_lt, if◌then◌else◌, List, [], ◌∷◌, Option, Some, None, IfSome, Result, Ok, Err, IfOk, OnErr, filter}
use Rattle.std.specs.List.{range_with_len}
use Rattle.annex_base.specs.Causes.{Rose}
use Rattle.annex_base.specs.declared.kinds.Call.TheVariants as calls
use Rattle.annex_base.specs.declared.memory.NoMemory.{NoMemory}
use Rattle.drop_proof.specs.declared.evidence.Evidence.{Evidence}
use Rattle.drop_proof.specs.declared.rule.Need.{Need}
use Rattle.drop_proof.specs.declared.rule.Side.TheVariants.{Remote}
use Rattle.run_data.specs.declared.entry.EntryKind.{EntryKind}
use Rattle.run_data.specs.declared.entry.By.TheVariants.{Job as by_job}
use Rattle.run_data.specs.declared.entry.EntryKind.TheVariants.{Fault, Order, Talk}
use Rattle.run_data.specs.declared.job.Outcome.{Outcome}
use Rattle.run_data.specs.declared.entry.FrameView.{FrameView}
use Rattle.run_data.specs.declared.job.Cause.{Cause}
use Rattle.run_data.specs.declared.job.Cause.TheVariants as causes
use Rattle.object_store.specs.Stores.{Contents}
use Rattle.object_store.specs.declared.keeper.HoldRecord.{HoldRecord}
use Rattle.node_model.specs.Ends.{End, EndName}
use Rattle.node_model.specs.Evidence.{but}
use Rattle.node_model.specs.Jobs.{drop_side, unshared_cause}
use Rattle.node_model.specs.JobStep.{ends}
use Rattle.node_model.specs.Knows.{Reading}
use Rattle.node_model.specs.Look.{failed_in}
use Rattle.content_lock.specs.Rows.{AreAfter, Rows}
use Rattle.content_lock.specs.Stored.{Agrees}
use Rattle.content_lock.specs.declared.refusals.ShareRefused.{ShareRefused}
use Rattle.content_lock.specs.declared.refusals.ShareRefused.TheVariants as shares
use Rattle.drop_phases.specs.declared.phase.Ending.TheVariants as endings
use Rattle.drop_phases.specs.declared.phase.Heard.{Heard}
use Rattle.drop_phases.specs.declared.phase.Heard.TheVariants as heards
use Rattle.drop_phases.specs.declared.phase.Phase.{Phase}
use Rattle.drop_phases.specs.declared.phase.Phase.TheVariants as phases
use Rattle.drop_phases.specs.declared.turn.Output.{Output}
use Rattle.drop_phases.specs.declared.turn.Parcel.{Parcel}
use Rattle.drop_phases.specs.declared.turn.Taken.{Taken}
use Rattle.drop_phases.specs.declared.turn.ParcelBody.TheVariants as bodies
use Rattle.drop_phases.specs.Worker.{Worker}
use Rattle.drop_phases.specs.Working.{end_in, sight}
use Rattle.drop_phases.specs.Doing.{DoesAsAsked, Grows, HasToken, OthersStay, contents_after}
use Rattle.drop_phases.specs.Feeding.{FeedsFrame, FitsRemote, HasNoBar, step_of}
use Rattle.drop_judging.specs.Judging.{evidence_of, is_owing, others_in}
use Rattle.drop_phases.specs.Leaving.{Store, Stays}
use Rattle.p2p_wire.specs.declared.message.Message.{Message}
use Rattle.p2p_wire.specs.declared.message.Message.TheVariants.{CheckPresent, GetTimestamp, LockContent, Remove, RemoveBefore, Version}
use Rattle.p2p_wire.specs.Streams.{IsLine}

-- ---- what it is

-- a drop of a job that removes the content from this peer
pub record IsRemote (target : ℕ) (w : Worker) : Type 0 where
  pub side : drop_side w.job.kind w.job.peer ≡ Remote
  pub peer : w.job.peer ≡ Some target

-- the job stands so, and the store has the records of the table's holds
pub record StandsRemote (target : ℕ) (records : Option (List HoldRecord)) (rows : Rows) (w : Worker) : Type 0 where
  pub remote : IsRemote target w
  pub owns : HasToken w.number w.job.key w.token rows
  pub fits : FitsRemote w.phase w.token
  pub agrees : Agrees records rows.holds

-- ---- what it knows

-- the candidates: its own repository, and then the others but the target
abbrev pub remote_candidates : Reading → ℕ → List ℕ
remote_candidates r target = r.repo ∷ but target (but r.repo (range_with_len 0 r.count))

abbrev pub known_remotely : Reading → ℕ → Worker → List Evidence
known_remotely r target w = evidence_of Remote r w (remote_candidates r target) []

-- ---- its requests

-- what a step says, the kind of its entry, and where the job stands then
pub record Request : Type 0 where
  pub kind : EntryKind
  pub says : Option Message
  pub phase : Phase

abbrev pub order_message : List ℕ → Option ℕ → Message
order_message key None = Remove key
order_message key (Some deadline) = RemoveBefore deadline key

abbrev pub order_of : Need → Worker → ℕ → Option ℕ → Request
order_of need w target deadline =
    record { kind = Order w.number target deadline need w.job.key; says = Some (order_message w.job.key deadline); phase = phases.Orders }

-- the target is asked for its time, where its protocol knows deadlines
abbrev pub time_request : Worker → ℕ → Request
time_request w version =
    if nat_lt version 3 then record { kind = Talk (Some w.number); says = None; phase = phases.Ends (endings.OldProtocol version) }
    else record { kind = Talk (Some w.number); says = Some GetTimestamp; phase = phases.AsksTime }

-- the target's first request, by the least end of the locks
abbrev pub target_request : Need → Worker → ℕ → ℕ → Option ℕ → Request
target_request need w target version None = order_of need w target None
target_request need w target version (Some end) = time_request w version

-- the first request to a peer
abbrev pub first_request : Need → Worker → ℕ → ℕ → ℕ → ℕ → Option ℕ → Request
first_request need w target time peer version end =
    if target == peer then target_request need w target version end
    else record { kind = Talk (Some w.number); says = Some (LockContent w.job.key); phase = phases.AsksLock peer time }

abbrev pub said_parcels : ℕ → Option Message → List Parcel
said_parcels peer None = []
said_parcels peer (Some m) = record { peer = peer; body = bodies.Message m } ∷ []

-- the worker says this to the peer, and changes no row
pub record Says (q : Request) (peer : ℕ) (w w' : Worker) (out : Output) : Type 0 where
  pub kind : out.kind ≡ q.kind
  pub sends : out.sends.items ≡ said_parcels peer q.says
  pub goes_on : out.ended ≡ false
  pub next : w' ≡ record w { phase = q.phase }

-- what a remote drop says are lines of the protocol, which are read as they were said
pub record AreRemoteProtocolLines (key : List ℕ) : Type 0 where
  pub version : IsLine (Version 3)
  pub lock : IsLine (LockContent key)
  pub look : IsLine (CheckPresent key)
  pub time : IsLine GetTimestamp
  pub order : IsLine (Remove key)
  pub timed : (n : ℕ) → n < 2 ^ 63 → IsLine (RemoveBefore n key)

-- ---- what a step leaves

pub record LeavesRemote (rows rows' : Rows) (k k' : Store) (w w' : Worker) (out : Output) : Type 0 where
  pub after : AreAfter out.kind rows rows'
  pub contents : k'.contents ≡ contents_after k.contents out.kind
  pub agrees : Agrees k'.records rows'.holds
  pub later : k.faults ≤ k'.faults
  pub cause : IfSome (failed_in out.kind) (λ call. Rose k.faults k'.faults)
  pub owns : HasToken w'.number w'.job.key w'.token rows'
  pub fits : out.ended ≡ false → FitsRemote w'.phase w'.token
  pub heard : Grows w.heard w'.heard
  pub number : w'.number ≡ w.number
  pub job : w'.job ≡ w.job
  pub others : OthersStay w.number rows rows'

-- a step did this, and left that; or nothing changed
abbrev pub DidRemote : Rows → Rows → Store → Store → Worker → Worker → (Output → Type 0) → Result Output NoMemory → Type 0
DidRemote rows rows' k k' w w' does (Ok out) = does out × LeavesRemote rows rows' k k' w w' out
DidRemote rows rows' k k' w w' does (Err e) = Stays rows rows' k k' w w'

-- a step that says something at most, and leaves the job what it has of its row
pub record Speaks (w w' : Worker) (out : Output) : Type 0 where
  pub faultless : failed_in out.kind ≡ None
  pub still : (known : Option Contents) → contents_after known out.kind ≡ known
  pub after : (rows : Rows) → AreAfter out.kind rows rows
  pub goes_on : out.ended ≡ false
  pub number : w'.number ≡ w.number
  pub job : w'.job ≡ w.job
  pub token : w'.token ≡ w.token
  pub heard : Grows w.heard w'.heard
  pub fits : HasNoBar w.token → FitsRemote w'.phase w'.token

-- the job ends so, by a step that may take a frame: or its own share couldn't be released
abbrev pub EndsSo : Reading → (EndName → End) → ℕ → Rows → Rows → Worker → Worker → Outcome → Output → Type 0
EndsSo read ends_at time rows rows' w w' outcome out =
    (number : ℕ) (p : List ℕ → Bool) (taken : Option FrameView) → DoesAsAsked (sight read ends_at time number) rows rows' p w w' taken (λ t. ends t taken outcome) out

-- ---- a closed connection

-- an order was sent, and its answer hasn't come
abbrev pub is_ordering : Phase → Bool
is_ordering phases.Orders = true
is_ordering phase = false

-- the job after its connection with this peer was closed: its target is lost, any other gives nothing
abbrev pub without_peer : Worker → ℕ → ℕ → Worker
without_peer w target peer =
    if target == peer then record w { phase = phases.Ends (endings.Lost (is_ordering w.phase)) }
    else record w { heard = (peer, heards.Lacks causes.Closed) ∷ w.heard; phase = phases.Next }

-- the connection with the peer is closed by the worker
pub record ShutsRemote (target peer : ℕ) (w w' : Worker) (out : Output) : Type 0 where
  pub kind : out.kind ≡ Talk (Some w.number)
  pub sends : out.sends.items ≡ record { peer = peer; body = bodies.Close } ∷ []
  pub goes_on : out.ended ≡ false
  pub next : w' ≡ without_peer w target peer

-- a step does what the definitions do with what it is told at its partner's end
abbrev pub TakesRemote : Reading → (EndName → End) → ℕ → Rows → Rows → ℕ → Taken → Worker → Worker → Output → Type 0
TakesRemote read ends_at time rows rows' peer taken w w' out =
    (number : ℕ) (p : List ℕ → Bool) (f : Option FrameView) → FeedsFrame (sight read ends_at time number) w.slot peer f taken
    → DoesAsAsked (sight read ends_at time number) rows rows' p w w' f (step_of (Some peer) f) out

-- ---- its own share

-- the job passes its own repository by: nothing is said, and it hears by the bar there why it has no share
pub record PassesBy (repo : ℕ) (bar : Option ℕ) (w w' : Worker) (out : Output) : Type 0 where
  pub made : out.kind ≡ Talk (Some w.number)
  pub sends : out.sends.items ≡ []
  pub goes_on : out.ended ≡ false
  pub next : w' ≡ record w { heard = (repo, heards.Lacks (unshared_cause bar)) ∷ w.heard; phase = phases.Next }

-- nothing is said, and what was heard last is that there is none, for this cause
pub record GivesNone (kind : EntryKind) (cause : Cause) (w w' : Worker) (out : Output) : Type 0 where
  pub made : out.kind ≡ kind
  pub sends : out.sends.items ≡ []
  pub goes_on : out.ended ≡ false
  pub next : (peer : ℕ) (before : Heard) (rest : List (ℕ × Heard)) → w.heard ≡ (peer, before) ∷ rest → w' ≡ record w { heard = (peer, heards.Lacks cause) ∷ rest }

-- what follows a share that was refused, of a worker that heard last of its own repository, with this bar there
abbrev pub FollowsShareRefused : Option ℕ → ShareRefused → Worker → Worker → Result Output NoMemory → Type 0
FollowsShareRefused bar shares.Absent w w' r = IfOk r (GivesNone (Talk (Some w.number)) (unshared_cause bar) w w') × OnErr r ⊥
FollowsShareRefused bar (shares.Barred job) w w' r = IfOk r (GivesNone (Talk (Some w.number)) (unshared_cause bar) w w') × OnErr r ⊥
FollowsShareRefused bar (shares.StoreFault call) w w' r = IfOk r (GivesNone (Fault call (by_job w.number)) causes.Fault w w') × OnErr r ⊥
FollowsShareRefused bar shares.NoMemory w w' r = IfOk r (λ out. ⊥) × ((x : ℕ × Heard) (rest : List (ℕ × Heard)) → w.heard ≡ x ∷ rest → w' ≡ record w { heard = rest; phase = phases.Fresh })

-- where the job stands after its own share couldn't be released at this time
abbrev pub unreleased_phase : ℕ → Phase → Phase
unreleased_phase time phases.AsksTime = phases.Late time
unreleased_phase time phase = phase

-- the share couldn't be released: the job ends next, as it would have
pub record FailsToRelease (time : ℕ) (w w' : Worker) (out : Output) : Type 0 where
  pub kind : out.kind ≡ Fault calls.Unhold (by_job w.number)
  pub sends : out.sends.items ≡ []
  pub goes_on : out.ended ≡ false
  pub next : w' ≡ record w { phase = unreleased_phase time w.phase }

-- ---- to which peers its next step may send more than a Close

-- where it is to end: those that it has locks of, unless it lost an order
abbrev pub owed_by : Phase → List ℕ → List ℕ
owed_by (phases.Ends (endings.Lost true)) locked = []
owed_by phase locked = locked

abbrev pub owed_at_end : Reading → (EndName → End) → Worker → List ℕ
owed_at_end read ends_at w = owed_by w.phase (filter (is_owing ends_at w) (others_in read))

-- the target, unless its connection is open and its protocol too old for the end of the locks
abbrev pub target_room : (EndName → End) → Worker → ℕ → Option ℕ → List ℕ
target_room ends_at w target None = target ∷ []
target_room ends_at w target (Some end) = if (ends_at (end_in w.slot target)).opened && nat_lt w.version 3 then [] else target ∷ []
