-- The jobs of a repository: where each stands, and what it heard, as its own entries show it.
use Rattle.std.specs.Prelude.{ℕ, ◌+◌, ◌-◌, Bool, true, false, not, if◌then◌else◌, ◌==◌, List, [], ◌∷◌, ◌++◌, filter, find, map, Option, Some, None, option_map}
use Rattle.annex_base.specs.declared.kinds.Call.{Call}
use Rattle.annex_base.specs.declared.kinds.Call.TheVariants.{Unhold, PutFile}
use Rattle.drop_proof.specs.declared.rule.Side.{Side}
use Rattle.drop_proof.specs.declared.rule.Side.TheVariants.{Local, Remote}
use Rattle.run_data.specs.declared.entry.Entry.{Entry}
use Rattle.run_data.specs.declared.entry.EntryKind.{EntryKind}
use Rattle.run_data.specs.declared.entry.EntryKind.TheVariants.{Begin, Gain, Share, Bar, Gone, Crash, Fault, End as ends_job}
use Rattle.run_data.specs.declared.entry.FrameView.{FrameView}
use Rattle.run_data.specs.declared.entry.FrameText.{FrameText}
use Rattle.run_data.specs.declared.entry.FrameText.TheVariants.{Opening, Closing, Bytes, Line}
use Rattle.run_data.specs.declared.job.Job.{Job}
use Rattle.run_data.specs.declared.job.JobKind.{JobKind}
use Rattle.run_data.specs.declared.job.JobKind.TheVariants as kinds
use Rattle.run_data.specs.declared.job.Outcome.{Outcome}
use Rattle.run_data.specs.declared.job.Outcome.TheVariants.{Got, Copied, Refused, TransferRefused}
use Rattle.run_data.specs.declared.job.DropRefusal.TheVariants as refusals
use Rattle.run_data.specs.declared.job.TransferRefusal.TheVariants as failures
use Rattle.run_data.specs.declared.job.Cause.{Cause}
use Rattle.run_data.specs.declared.job.Cause.TheVariants as causes
use Rattle.run_data.specs.declared.job.SourceFailure.{SourceFailure}
use Rattle.run_data.specs.declared.job.SourceCause.{SourceCause}
use Rattle.run_data.specs.declared.job.SourceCause.TheVariants as sources
use Rattle.node_model.specs.Slots.{RunningJob, free_slot, job_of}
use Rattle.node_model.specs.Rows.{option_is}
use Rattle.p2p_wire.specs.declared.message.Message.{Message}
use Rattle.p2p_wire.specs.declared.message.Message.TheVariants.{Version, LockContent, CheckPresent, GetTimestamp, Remove, RemoveBefore, Get, Put, PutFrom, AlreadyHave, Data, Valid, Success, Failure, Error}
use Rattle.p2p_wire.specs.Messages.{message_of}
use Rattle.node_model.specs.Ends.{EndName, End, end_after}
use Rattle.node_model.specs.Sessions.{line_in}

-- what a job is at
pub data Part : Type 0 where
  Gets Puts Drops : Part

-- where it stands in that
pub data Phase : Type 0 where
  Fresh : Phase  -- it is to begin
  Next : Phase  -- it is to go on to the next peer, or to judge
  Opens Greets : (peer : ℕ) → Phase  -- it sent Open; VERSION
  GetsData : (peer start : ℕ) → Phase  -- GET, and then awaits bytes, and then VALID
  GetsBytes : (peer start size left : ℕ) → Phase
  GetsWord : (peer start size : ℕ) → Phase
  PutsOffer : (peer : ℕ) → Phase  -- PUT, and then it sends bytes, and VALID, and then awaits SUCCESS
  PutsBytes : (peer start at left : ℕ) → Phase
  PutsWord : (peer start : ℕ) → Phase
  PutsAnswer : (peer start : ℕ) → Phase
  AsksLock : (peer since : ℕ) → Phase  -- LOCKCONTENT, at this time
  AsksLook : (peer : ℕ) → Phase  -- CHECKPRESENT
  AsksTime Orders : Phase  -- GETTIMESTAMP; an order: to the target
  Removed Denied : Phase  -- the content is removed; the target refused to
  Late : (time : ℕ) → Phase  -- the locks had expired then, and its own couldn't be released
  Ends : Outcome → Phase

-- what a drop heard of a candidate's copy: a lock that it asked for at this time, or a look; or why there is none. The
-- word beside a refusal is told at the job's end
pub data Heard : Type 0 where
  Held : (since : ℕ) → Heard
  Seen Unseen : Heard
  Lacks : Cause → Heard

pub record Work : Type 0 where
  pub number : ℕ
  pub slot : ℕ
  pub what : Job
  pub part : Part
  pub phase : Phase
  pub fills : Bool  -- a get has claimed the filling of the key
  pub version : ℕ  -- what the job's peer answered to VERSION
  pub heard : List (ℕ × Heard)
  pub causes : List SourceFailure  -- of the peers that a get has asked, in order

abbrev pub first_part : JobKind → Part
first_part kinds.Drop = Drops
first_part kinds.Get = Gets
first_part kinds.Copy = Puts
first_part kinds.MoveTo = Puts
first_part kinds.MoveFrom = Gets

-- a move goes on with its drop
abbrev pub is_move : JobKind → Bool
is_move kinds.MoveTo = true
is_move kinds.MoveFrom = true
is_move _ = false

abbrev pub drop_side : JobKind → Option ℕ → Side
drop_side kinds.Drop None = Local
drop_side kinds.MoveTo peer = Local
drop_side _ peer = Remote

-- where a job's drop removes
abbrev pub side_of : Work → Side
side_of w = drop_side w.what.kind w.what.peer

abbrev pub or_own : ℕ → Side → Option ℕ → ℕ
or_own r Remote (Some peer) = peer
or_own r _ peer = r

-- the target of the drop of a job of r
abbrev pub target_of : ℕ → Work → ℕ
target_of r w = or_own r (side_of w) w.what.peer

-- the peer on whose connection a job with this peer stands
abbrev pub partner : Option ℕ → Phase → Option ℕ
partner target (Opens peer) = Some peer
partner target (Greets peer) = Some peer
partner target (GetsData peer start) = Some peer
partner target (GetsBytes peer start size left) = Some peer
partner target (GetsWord peer start size) = Some peer
partner target (PutsOffer peer) = Some peer
partner target (PutsBytes peer start at left) = Some peer
partner target (PutsWord peer start) = Some peer
partner target (PutsAnswer peer start) = Some peer
partner target (AsksLock peer since) = Some peer
partner target (AsksLook peer) = Some peer
partner target AsksTime = target
partner target Orders = target
partner target _ = None

-- ---- how an entry moves its job

abbrev pub hears : Work → ℕ → Heard → Work
hears w peer x = record w { phase = Next; heard = (peer, x) ∷ w.heard }

abbrev pub to_phase : Work → Phase → Work
to_phase w phase = record w { phase = phase }

-- a peer gave a get nothing
abbrev pub fails_with : Work → ℕ → SourceCause → Work
fails_with w peer cause = record w { phase = Next; causes = w.causes ++ record { repo = peer; cause = cause } ∷ [] }

-- the transfer is done: a move begins its drop, any other job ends so
abbrev pub after_transfer : Work → Outcome → Work
after_transfer w outcome =
    if is_move w.what.kind then record w { part = Drops; phase = Fresh; fills = false }
    else record w { phase = Ends outcome; fills = false }

abbrev pub is_ordered : Phase → Bool
is_ordered Orders = true
is_ordered _ = false

-- the connection on which the job stands is closed
abbrev pub closed_part : ℕ → Work → ℕ → Part → Work
closed_part r w peer Gets = fails_with w peer sources.Closed
closed_part r w peer Puts = to_phase w (Ends (TransferRefused failures.Closed))
closed_part r w peer Drops =
    if target_of r w == peer then to_phase w (Ends (Refused (refusals.Lost (is_ordered w.phase))))
    else hears w peer (Lacks causes.Closed)

abbrev pub gets_more : ℕ → ℕ → ℕ → ℕ → Phase
gets_more peer start size left = if left == 0 then GetsWord peer start size else GetsBytes peer start size left

abbrev pub puts_more : ℕ → ℕ → ℕ → ℕ → Phase
puts_more peer start at left = if left == 0 then PutsWord peer start else PutsBytes peer start at left

-- where a get's refused source leaves it: what it took, and where it had asked
abbrev pub source_cause : ℕ → Option Message → SourceCause
source_cause start (Some Valid) = sources.Wrong
source_cause start word = if start == 0 then sources.Absent else sources.Invalid

abbrev pub word_taken : Work → Option Message → Phase → Work
word_taken w word (GetsWord peer start size) = fails_with w peer (source_cause start word)
word_taken w word phase = w

abbrev pub put_from : ℕ → ℕ → Option Message → Phase
put_from peer left (Some (PutFrom start)) = puts_more peer start start left
put_from peer left taken = PutsOffer peer

abbrev pub puts_answer : Phase → Phase
puts_answer (PutsWord peer start) = PutsAnswer peer start
puts_answer phase = phase

-- the job said this to a peer, at this time; taken is the message that it took before
abbrev pub says : Work → ℕ → ℕ → Option Message → Message → Work
says w time peer taken (Version n) = to_phase w (Greets peer)
says w time peer taken (Get n file key) = to_phase w (GetsData peer n)
says w time peer taken (Put file key) = to_phase w (PutsOffer peer)
says w time peer taken (Data n) = to_phase w (put_from peer n taken)
says w time peer taken Valid = to_phase w (puts_answer w.phase)
says w time peer taken (LockContent key) = to_phase w (AsksLock peer time)
says w time peer taken (CheckPresent key) = to_phase w (AsksLook peer)
says w time peer taken GetTimestamp = to_phase w AsksTime
says w time peer taken (Remove key) = to_phase w Orders
says w time peer taken (RemoveBefore n key) = to_phase w Orders
says w time peer taken Failure = word_taken w taken w.phase
says w time peer taken _ = w

abbrev pub says_some : Work → ℕ → ℕ → Option Message → Option Message → Work
says_some w time peer taken None = w
says_some w time peer taken (Some m) = says w time peer taken m

abbrev pub puts_bytes : ℕ → Phase → Phase
puts_bytes n (PutsBytes peer start at left) = puts_more peer start (at + n) (left - n)
puts_bytes n phase = phase

abbrev pub sends : Work → ℕ → ℕ → Option Message → FrameText → Work
sends w time peer taken Opening = to_phase w (Opens peer)
sends w time peer taken Closing = w
sends w time peer taken (Bytes n) = to_phase w (puts_bytes n w.phase)
sends w time peer taken (Line text) = says_some w time peer taken (message_of text)

-- the job took this message and said nothing
abbrev pub listens : Work → Phase → Message → Work
listens w (AsksLock peer since) Success = hears w peer (Held since)
listens w (AsksLook peer) Success = hears w peer Seen
listens w (AsksLook peer) Failure = hears w peer Unseen
listens w Orders Success = to_phase w Removed
listens w Orders Failure = to_phase w Denied
listens w (Greets peer) (Version n) = to_phase w (Ends (Refused (refusals.OldProtocol n)))
listens w (GetsData peer start) (Data n) = to_phase w (gets_more peer start start n)
listens w (PutsOffer peer) AlreadyHave = after_transfer w (Copied None)
listens w (PutsOffer peer) (Error text) = to_phase w (Ends (TransferRefused failures.Busy))
listens w (PutsOffer peer) Failure = to_phase w (Ends (TransferRefused failures.Rejected))
listens w (PutsAnswer peer start) Success = after_transfer w (Copied (Some start))
listens w (PutsAnswer peer start) Failure = to_phase w (Ends (TransferRefused failures.Rejected))
listens w phase m = w

abbrev pub gets_bytes : ℕ → Phase → Phase
gets_bytes n (GetsBytes peer start size left) = gets_more peer start (size + n) (left - n)
gets_bytes n phase = phase

abbrev pub after_line : Work → Option Message → Work
after_line w None = w
after_line w (Some m) = listens w w.phase m

abbrev pub after_frame : Work → FrameText → Work
after_frame w (Bytes n) = to_phase w (gets_bytes n w.phase)
after_frame w (Line text) = after_line w (message_of text)
after_frame w body = w

-- what an entry of a job reads of its repository: the rows, and the ends of connections
pub record RowsAndEnds : Type 0 where
  pub present : List ℕ → Bool
  pub bar : List ℕ → Option ℕ
  pub ends : EndName → End

-- why a drop has no share of its own, by the bar there: it stands, or else the content is absent. Where the logs leave the drop's own
-- repository unasked, nothing reads this
abbrev pub unshared_cause : Option ℕ → Cause
unshared_cause None = causes.Absent
unshared_cause (Some job) = causes.Barred

-- its first step, without a frame: a get found the content, or no peer to ask; a drop has no share of its own
abbrev pub first_look : ℕ → Work → Part → Bool → Option ℕ → Work
first_look r w Gets true barred = after_transfer w (Got None None)
first_look r w Drops here barred = hears w r (Lacks (unshared_cause barred))
first_look r w part here barred = to_phase w Next

-- it took and sent nothing: its first step, or the version of a target that is open already is too old
abbrev pub quiet : RowsAndEnds → ℕ → Work → Phase → Work
quiet rows r w Fresh = first_look r w w.part (rows.present w.what.key) (rows.bar w.what.key)
quiet rows r w Next = to_phase w (Ends (Refused (refusals.OldProtocol w.version)))
quiet rows r w phase = w

abbrev pub taken_message : Option FrameView → Option Message
taken_message None = None
taken_message (Some f) = line_in f.body

abbrev pub hears_frame : RowsAndEnds → ℕ → Work → Option FrameView → Work
hears_frame rows r w None = quiet rows r w w.phase
hears_frame rows r w (Some f) = after_frame w f.body

abbrev pub talks : RowsAndEnds → ℕ → Work → Entry → List FrameView → Work
talks rows r w e (f ∷ fs) = sends w e.time f.peer (taken_message e.taken) f.body
talks rows r w e [] = hears_frame rows r w e.taken

-- the client's end of a job's connection with a peer
abbrev pub job_end : Work → ℕ → EndName
job_end w peer = record { peer = peer; slot = w.slot; client = true }

abbrev pub talks_on : RowsAndEnds → ℕ → Work → Entry → Option ℕ → Work
talks_on rows r w e None = talks rows r w e e.sent
talks_on rows r w e (Some peer) =
    if (end_after (job_end w peer) (rows.ends (job_end w peer)) e).opened then talks rows r w e e.sent
    else closed_part r w peer w.part

abbrev pub stores_fault : Part → Outcome
stores_fault Drops = Refused refusals.StoreFault
stores_fault part = TransferRefused failures.StoreFault

-- a store call of the job failed: its own share gives it a cause; any other ends it
abbrev pub fault_phase : ℕ → Work → Part → Side → Phase → Work
fault_phase r w Drops Remote Fresh = hears w r (Lacks causes.Fault)
fault_phase r w part side phase = to_phase w (Ends (stores_fault w.part))

-- the own share couldn't be released: the job ends next, as it would have
abbrev pub after_failed_release : Work → ℕ → Phase → Work
after_failed_release w time AsksTime = to_phase w (Late time)
after_failed_release w time phase = w

abbrev pub fault_of : ℕ → Work → ℕ → Call → Work
fault_of r w time PutFile = w
fault_of r w time Unhold = after_failed_release w time w.phase
fault_of r w time call = fault_phase r w w.part (side_of w) w.phase

-- a get that asks a peer, or finds none to ask, fills the key
abbrev pub claims : Work → Part → Phase → Work
claims w Gets Fresh = record w { fills = true }
claims w part phase = w

abbrev pub version_said : ℕ → Option Message → ℕ
version_said was (Some (Version n)) = n
version_said was m = was

-- the version that the job's peer answers
abbrev pub learns : Work → Phase → Option FrameView → Work
learns w (Greets peer) (Some f) = if option_is w.what.peer peer then record w { version = version_said w.version (line_in f.body) } else w
learns w phase taken = w

abbrev pub after_gain : Work → Phase → Work
after_gain w (GetsWord peer start size) = after_transfer w (Got (Some peer) (Some start))
after_gain w phase = w

abbrev pub work_kind : RowsAndEnds → ℕ → Work → Entry → EntryKind → Work
work_kind rows r w e (Fault call owner) = fault_of r w e.time call
work_kind rows r w e (Bar job need key) = to_phase w Next
work_kind rows r w e (Share hold end owner key) = hears w r (Held e.time)
work_kind rows r w e (Gone source key) = to_phase w Removed
work_kind rows r w e (Gain source size key) = after_gain w w.phase
work_kind rows r w e kind = talks_on rows r (learns (claims w w.part w.phase) w.phase e.taken) e (partner w.what.peer w.phase)

-- the entry, if it is one of this job, moves it
abbrev pub work_after : RowsAndEnds → ℕ → Entry → Work → Work
work_after rows r e w = if option_is (job_of e.kind) w.number then work_kind rows r w e e.kind else w

abbrev pub running_job : Work → RunningJob
running_job w = record { number = w.number; slot = w.slot; what = w.what }

abbrev pub new_work : List Work → ℕ → Job → Work
new_work was job what = record { number = job; slot = free_slot (map running_job was); what = what; part = first_part what.kind; phase = Fresh; fills = false; version = 3; heard = []; causes = [] }

abbrev pub works_after : RowsAndEnds → ℕ → List Work → Entry → EntryKind → List Work
works_after rows r was e (Begin job what) = new_work was job what ∷ was
works_after rows r was e (ends_job job outcome) = filter (λ w. not (w.number == job)) was
works_after rows r was e (Crash clock) = []
works_after rows r was e kind = map (work_after rows r e) was

-- what the job heard of a repository's copy
abbrev pub heard_of : Work → ℕ → Option Heard
heard_of w repo = option_map (λ x. x.1) (find (λ x. x.0 == repo) w.heard)
