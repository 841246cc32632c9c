-- Why a drop or a transfer was refused: the entries and the values that its outcome rests on stand in the run (own).
use Rattle.std.specs.Prelude.{◌≡◌, ◌≢◌, ◌⊎◌, ℕ, ◌<◌, ◌≤◌, ◌==◌, Bool, true, false, ◌&&◌, List, [], ◌∷◌, filter, find, length, map, reverse, Option, Some, None, codes}
use Rattle.std.specs.List.{list_any, range_with_len}
use Rattle.annex_base.specs.Lists.{Each}
use Rattle.annex_base.specs.declared.kinds.Call.{Call}
use Rattle.annex_base.specs.declared.kinds.Call.TheVariants.{PutFile, Unhold}
use Rattle.annex_base.specs.declared.kinds.Found.TheVariants as found
use Rattle.drop_proof.specs.declared.rule.Side.{Side}
use Rattle.drop_proof.specs.declared.rule.Side.TheVariants.{Local, Remote}
use Rattle.drop_proof.specs.declared.evidence.Evidence.{Evidence}
use Rattle.drop_proof.specs.Judging.{is_enough, least_end}
use Rattle.run_data.specs.declared.run.Run.{Run}
use Rattle.run_data.specs.declared.run.RepoView.{RepoView}
use Rattle.run_data.specs.declared.entry.By.TheVariants.{Job as by_job}
use Rattle.run_data.specs.declared.entry.Entry.{Entry}
use Rattle.run_data.specs.declared.entry.EntryKind.{EntryKind}
use Rattle.run_data.specs.declared.entry.EntryKind.TheVariants.{Check, Close, End, Fault, Order, Talk}
use Rattle.run_data.specs.declared.entry.FrameView.{FrameView}
use Rattle.run_data.specs.declared.job.CandidateCause.{CandidateCause}
use Rattle.run_data.specs.declared.job.Cause.TheVariants.{Closed}
use Rattle.run_data.specs.declared.job.Denial.{Denial}
use Rattle.run_data.specs.declared.job.Denial.TheVariants as denials
use Rattle.run_data.specs.declared.job.DropRefusal.{DropRefusal}
use Rattle.run_data.specs.declared.job.DropRefusal.TheVariants.{NotPresent, Required, Held, Barred, Lacking, Expired, Denied, Lost, OldProtocol, StoreFault}
use Rattle.run_data.specs.declared.job.Job.{Job}
use Rattle.run_data.specs.declared.job.JobKind.{JobKind}
use Rattle.run_data.specs.declared.job.JobKind.TheVariants as kinds
use Rattle.run_data.specs.declared.job.Outcome.TheVariants.{Refused, TransferRefused}
use Rattle.run_data.specs.declared.job.Proof.{Proof}
use Rattle.run_data.specs.declared.job.SourceCause.{SourceCause}
use Rattle.run_data.specs.declared.job.SourceCause.TheVariants as sources
use Rattle.run_data.specs.declared.job.SourceFailure.{SourceFailure}
use Rattle.run_data.specs.declared.job.TransferRefusal.{TransferRefusal}
use Rattle.run_data.specs.declared.job.TransferRefusal.TheVariants as failures
use Rattle.run_model.specs.Past.{Occurs, bar, begun_job, clock, holds, is_of, jobs, present}
use Rattle.node_model.specs.Rows.{blocks}
use Rattle.p2p_wire.specs.declared.message.Message.TheVariants.{Error, Failure, Get, Invalid, Put, PutFrom, Valid, Version}
use Rattle.p2p_wire.specs.Messages.{order_of}
use Rattle.run_model.specs.Said.{Said, Says, CloseIt, message_in}
use Rattle.run_model.specs.Frames.{FlyingFrame, MayTake, SendingEntry, is_job, last_request, said_of, says, sender, up_of, way_of}
use Rattle.run_data.specs.Repos.{id_of}
use Rattle.run_model.specs.Logs.{before_step, has_stepped, in_drop, is_step, need_read, settings_of}
use Rattle.run_model.specs.Run.{job_paths}
use Rattle.wanted_expr.specs.Wanted.{required}
use Rattle.run_model.specs.States.{content, state_of}
use Rattle.run_model.specs.Drops.{evidence, offer_from, in_slot, is_first_step, is_waiting, reply, shuts, standing, candidate_cause, told_cause}
use Rattle.node_model.specs.Evidence
use Rattle.node_model.specs.Evidence.{candidates, but, is_locked, proof_of}
use Rattle.node_model.specs.DropStep
use Rattle.node_model.specs.Jobs.{drop_side, or_own}
use Rattle.node_model.specs.SessionStep.{is_filled}
use Rattle.node_model.specs.SetUp.{SetUp}
use Rattle.node_model.specs.Ends.{is_opening}

-- ---- a job, and its drop

-- job j of r, by what it was begun with
pub record JobOf (past : List Entry) (r j : ℕ) : Type 0 where
  pub what : Job
  pub begun : begun_job past r j ≡ Some what

abbrev pub side_of : {past : List Entry} → {r j : ℕ} → JobOf past r j → Side
side_of d = drop_side d.what.kind d.what.peer

abbrev pub target_of : {past : List Entry} → {r j : ℕ} → JobOf past r j → ℕ
target_of {r = r} d = or_own r (side_of d) d.what.peer

-- it is at its first step
pub record AtFirst (past : List Entry) (r j : ℕ) (d : JobOf past r j) : Type 0 where
  pub dropping : in_drop past r j ≡ true
  pub first : before_step past r j ≡ None
  pub local : side_of d ≡ Local

-- ---- by the row

pub record FoundAbsent (past : List Entry) (r j : ℕ) : Type 0 where
  pub d : JobOf past r j
  pub at : AtFirst past r j d
  pub absent : present past r d.what.key ≡ false

pub record FoundHeld (repos : List RepoView) (past : List Entry) (r j time : ℕ) (until : Option ℕ) : Type 0 where
  pub d : JobOf past r j
  pub at : AtFirst past r j d
  pub there : present past r d.what.key ≡ true
  pub free : bar past r d.what.key ≡ None
  pub held : DropStep.until (filter (blocks d.what.key (clock repos past r time)) (holds past r)) ≡ Some until

pub record FoundBarred (past : List Entry) (r j other : ℕ) : Type 0 where
  pub d : JobOf past r j
  pub at : AtFirst past r j d
  pub barred : bar past r d.what.key ≡ Some other

-- ---- by what the target requires

-- its first step found that the target requires the content with its own copy assumed gone, as the logs say then
pub record FoundRequired (repos : List RepoView) (paths : List (List ℕ)) (past : List Entry) (r j : ℕ) (text : List ℕ) : Type 0 where
  pub d : JobOf past r j
  pub dropping : in_drop past r j ≡ true
  pub first : before_step past r j ≡ None
  pub requires : required (settings_of past r) (id_of repos (target_of d)) d.what.key paths ≡ Some text

-- ---- by a peer

-- an entry of the job takes a frame with this message from the peer
pub record HearsMessage (past : List Entry) (r j peer : ℕ) (m : Said) : Type 0 where
  pub entry : Entry
  pub before : List Entry
  pub occurs : Occurs past entry before
  pub own : is_job r j entry ≡ true
  pub f : FrameView
  pub takes_it : entry.taken ≡ Some f
  pub peer_is : f.peer ≡ peer
  pub down : f.up ≡ false
  pub says : message_in f.body ≡ m

-- the message that it takes answers this request: the last one on the connection
pub record AnswersRequest (past : List Entry) (r j peer : ℕ) (asked answer : Said) : Type 0 where
  pub hears : HearsMessage past r j peer answer
  pub request : FlyingFrame
  pub last : last_request hears.before (up_of (way_of r hears.f)) ≡ Some request
  pub asked_is : said_of request ≡ asked

-- and this is the entry that sent it
pub record IsSentBy (past : List Entry) (r j peer : ℕ) (m : Said) (h : HearsMessage past r j peer m) : Type 0 where
  pub s : SendingEntry
  pub sent_is : sender h.before r (Some h.f) ≡ Some s

-- the job's end of its connection with the peer is closed here
pub record Closes (past : List Entry) (r j peer : ℕ) : Type 0 where
  pub entry : Entry
  pub before : List Entry
  pub occurs : Occurs past entry before
  pub own : is_of r entry ≡ true
  pub slot : ℕ
  pub kind_is : entry.kind ≡ Close peer slot true
  pub slot_is : in_slot (jobs before r) j slot ≡ true

-- a frame that opens a connection with the peer
abbrev pub opens_to : ℕ → FrameView → Bool
opens_to peer g = (g.peer == peer) && (g.up && is_opening g.body)

-- an entry of the job opened its connection with the peer
pub record OpensWith (past : List Entry) (r j peer : ℕ) : Type 0 where
  pub entry : Entry
  pub before : List Entry
  pub occurs : Occurs past entry before
  pub own : is_job r j entry ≡ true
  pub opens : list_any (opens_to peer) entry.sent ≡ true

-- the connection with the peer, which the job had opened, was closed, by the peer or here
abbrev pub ClosedWith : List Entry → ℕ → ℕ → ℕ → Type 0
ClosedWith past r j peer = ((h : HearsMessage past r j peer CloseIt) × OpensWith h.before r j peer) ⊎ ((c : Closes past r j peer) × OpensWith c.before r j peer)

-- ---- by the evidence

-- the paths are those that the job's key had as the job began
abbrev pub items : (repos : List RepoView) (paths : List (List ℕ)) (past : List Entry) (r j : ℕ) → JobOf past r j → List Evidence
items repos paths past r j d = evidence (side_of d) repos past r j (target_of d) (need_read paths past r j)

-- none of the candidates is still waited for, the evidence is not enough, and the outcome states it, with one cause for each candidate that
-- gave nothing, in the order in which they are asked; where that is `closed`, the candidate or an entry here closed the connection
pub record FoundLacking (repos : List RepoView) (paths : List (List ℕ)) (past : List Entry) (r j : ℕ) (proof : Proof) (reasons : List CandidateCause) : Type 0 where
  pub d : JobOf past r j
  pub answered : Each (λ c. is_waiting (standing repos past r j c) (reply past r j c) (told_cause past r j c) ≡ false) (candidates (side_of d) (length repos) r (target_of d))
  pub wants : is_enough (side_of d) (need_read paths past r j) (items repos paths past r j d) ≡ false
  pub proof_is : proof ≡ proof_of (length repos) (need_read paths past r j) (items repos paths past r j d)
  pub causes_are : reasons ≡ Evidence.failures (offer_from repos past r j) (candidate_cause repos past r j) (candidates (side_of d) (length repos) r (target_of d))
  pub closed : Each (λ x. x.cause ≡ Closed → ClosedWith past r j x.repo) reasons

-- the newest entry that job j of r made, but for one that began it, or told of a line that it owed
abbrev pub newest_step : List Entry → ℕ → ℕ → Option Entry
newest_step past r j = find (λ e. is_of r e && is_step j e.kind) past

-- the evidence is enough, but the clock wasn't below the first end of its locked items: now, or in the job's entry just before, which failed to
-- release the own share
pub record FoundExpired (repos : List RepoView) (paths : List (List ℕ)) (past : List Entry) (r j time end clk : ℕ) : Type 0 where
  pub d : JobOf past r j
  pub enough : is_enough (side_of d) (need_read paths past r j) (items repos paths past r j d) ≡ true
  pub first : least_end (items repos paths past r j d) ≡ Some end
  pub late : end ≤ clk
  pub when : (clk ≡ clock repos past r time)
      ⊎ ((x : Entry) × (before : List Entry) × (Occurs past x before) × (is_of r x ≡ true) × (newest_step past r j ≡ Some x) × (x.kind ≡ Fault Unhold (by_job j)) × (clk ≡ clock repos before r x.time))

-- ---- by the target

abbrev pub denied_by : EntryKind → Option Denial
denied_by (Check found.Late key) = Some denials.Late
denied_by (Check found.Barred key) = Some denials.Barred
denied_by (Check found.Held key) = Some denials.Held
denied_by (Fault call by) = Some denials.Fault
denied_by _ = None

-- its order was answered by FAILURE, for what the target found
pub record WasDenied (past : List Entry) (r j : ℕ) (answer : Denial) : Type 0 where
  pub d : JobOf past r j
  pub deadline : Option ℕ
  pub refused : AnswersRequest past r j (target_of d) (Says (order_of deadline d.what.key)) (Says Failure)
  pub by : IsSentBy past r j (target_of d) (Says Failure) refused.hears
  pub found : denied_by by.s.entry.kind ≡ Some answer

abbrev pub is_order : EntryKind → Bool
is_order (Order job target deadline need key) = true
is_order _ = false

-- the connection with the target was closed before its answer
pub record WasLost (past : List Entry) (r j : ℕ) (ordered : Bool) : Type 0 where
  pub d : JobOf past r j
  pub closed : ClosedWith past r j (target_of d)
  pub ordered_is : list_any (λ e. is_job r j e && is_order e.kind) past ≡ ordered

-- the evidence is enough, but the target speaks a version without deadlines, and there is a lock
pub record FoundOld (repos : List RepoView) (paths : List (List ℕ)) (past : List Entry) (r j version : ℕ) : Type 0 where
  pub d : JobOf past r j
  pub enough : is_enough (side_of d) (need_read paths past r j) (items repos paths past r j d) ≡ true
  pub hears : HearsMessage past r j (target_of d) (Says (Version version))
  pub old : version < 3
  pub locked : list_any (λ i. is_locked i.kind) (items repos paths past r j d) ≡ true

-- ---- by its store

-- a call for the job failed, other than for a line that was owed
pub record FailedCall (past : List Entry) (r j : ℕ) : Type 0 where
  pub entry : Entry
  pub before : List Entry
  pub occurs : Occurs past entry before
  pub own : is_of r entry ≡ true
  pub call : Call
  pub kind_is : entry.kind ≡ Fault call (by_job j)
  pub not_owed : call ≢ PutFile

-- and other than to release its own share, or in a remote drop to take it
pub record HadFault (past : List Entry) (r j : ℕ) : Type 0 where
  pub d : JobOf past r j
  pub fault : FailedCall past r j
  pub not_release : fault.call ≢ Unhold
  pub not_own : side_of d ≡ Remote → is_first_step fault.before r j fault.entry ≡ false

-- The cause of a drop's refusal, where its key had these paths; a crash ends its jobs without an entry of theirs.
abbrev pub CauseOf : List RepoView → List (List ℕ) → List Entry → ℕ → ℕ → ℕ → DropRefusal → Type 0
CauseOf repos paths past r j time NotPresent = FoundAbsent past r j
CauseOf repos paths past r j time (Required text) = FoundRequired repos paths past r j text
CauseOf repos paths past r j time (Held until) = FoundHeld repos past r j time until
CauseOf repos paths past r j time (Barred other) = FoundBarred past r j other
CauseOf repos paths past r j time (Lacking proof reasons) = FoundLacking repos paths past r j proof reasons
CauseOf repos paths past r j time (Expired end clk) = FoundExpired repos paths past r j time end clk
CauseOf repos paths past r j time (Denied answer) = WasDenied past r j answer
CauseOf repos paths past r j time (Lost ordered) = WasLost past r j ordered
CauseOf repos paths past r j time (OldProtocol version) = FoundOld repos paths past r j version
CauseOf repos paths past r j time StoreFault = HadFault past r j
CauseOf repos paths past r j time _ = ⊥

-- ---- transfers

abbrev pub is_get : JobKind → Bool
is_get kinds.Get = true
is_get kinds.MoveFrom = true
is_get _ = false

abbrev pub is_put : JobKind → Bool
is_put kinds.Copy = true
is_put kinds.MoveTo = true
is_put _ = false

-- a copy's first step found the content absent
pub record FoundNotHere (past : List Entry) (r j : ℕ) : Type 0 where
  pub d : JobOf past r j
  pub kind_is : is_put d.what.kind ≡ true
  pub first : has_stepped past r j ≡ false
  pub absent : present past r d.what.key ≡ false

abbrev pub is_failure : Said → Bool
is_failure (Says Failure) = true
is_failure _ = false

-- the content of this size, if there is one, ends before the place
abbrev pub IsBelow : Option ℕ → ℕ → Type 0
IsBelow None n = Unit {0}
IsBelow (Some size) n = size < n

-- the peer took this GET, and as it took it, its content was absent, or shorter than the place that is asked for
pub record TookGet (past : List Entry) (peer start : ℕ) (key : List ℕ) (request : FlyingFrame) : Type 0 where
  pub entry : Entry
  pub before : List Entry
  pub occurs : Occurs past entry before
  pub own : is_of peer entry ≡ true
  pub f : FrameView
  pub takes_it : entry.taken ≡ Some f
  pub comes : MayTake before (way_of peer f) f
  pub request_is : comes.it ≡ request
  pub short : IsBelow (content before peer key) start

-- why a peer gave a get nothing: the connection was closed; the bytes didn't match, which the job answers by FAILURE; its row was absent; or
-- its content didn't reach the place from which on it was asked for
abbrev pub SourceCauseOf : List Entry → ℕ → ℕ → List ℕ → ℕ → SourceCause → Type 0
SourceCauseOf past r j key peer sources.Closed = ClosedWith past r j peer
SourceCauseOf past r j key peer sources.Wrong = (h : HearsMessage past r j peer (Says Valid)) × (list_any (says is_failure) h.entry.sent ≡ true)
SourceCauseOf past r j key peer sources.Absent =
    (file : List ℕ) × (a : AnswersRequest past r j peer (Says (Get 0 file key)) (Says Invalid)) × (t : TookGet a.hears.before peer 0 key a.request) × (present t.before peer key ≡ false)
SourceCauseOf past r j key peer sources.Invalid =
    (start : ℕ) × (file : List ℕ) × (start ≢ 0) × (a : AnswersRequest past r j peer (Says (Get start file key)) (Says Invalid)) × TookGet a.hears.before peer start key a.request

-- the peers that a get asks, one after the other
abbrev pub sources_of : ℕ → ℕ → Option ℕ → List ℕ
sources_of r n (Some peer) = peer ∷ []
sources_of r n None = but r (range_with_len 0 n)

-- each of them gave nothing
pub record FoundNoSource (repos : List RepoView) (past : List Entry) (r j : ℕ) (reasons : List SourceFailure) : Type 0 where
  pub d : JobOf past r j
  pub all : map (λ x. x.repo) reasons ≡ sources_of r (length repos) d.what.peer
  pub causes : Each (λ x. SourceCauseOf past r j d.what.key x.repo x.cause) reasons

-- a session or another get of r takes the bytes of the key. Of the set-up this reads no paths
abbrev pub is_filled_at : List RepoView → List Entry → ℕ → List ℕ → Bool
is_filled_at repos past r key = let s : SetUp = record { number = r; repos = repos; paths = λ j. [] } in is_filled s (state_of s past) key

-- a get's first step found the content absent, and being filled
pub record FoundFilled (repos : List RepoView) (past : List Entry) (r j : ℕ) : Type 0 where
  pub d : JobOf past r j
  pub kind_is : is_get d.what.kind ≡ true
  pub first : has_stepped past r j ≡ false
  pub absent : present past r d.what.key ≡ false
  pub filled : is_filled_at repos past r d.what.key ≡ true

-- a copy's peer answered that the key is being filled there
pub record WasBusy (past : List Entry) (r j : ℕ) : Type 0 where
  pub d : JobOf past r j
  pub peer : ℕ
  pub peer_is : d.what.peer ≡ Some peer
  pub file : List ℕ
  pub busy : AnswersRequest past r j peer (Says (Put file d.what.key)) (Says (Error (codes "busy")))

-- the job itself closes the connection: the content is gone, or shorter than the place that the peer asks for, or than it was as the
-- job began to send it
pub record FellShort (past : List Entry) (r j peer : ℕ) (key : List ℕ) : Type 0 where
  pub entry : Entry
  pub before : List Entry
  pub occurs : Occurs past entry before
  pub own : is_job r j entry ≡ true
  pub closes : list_any (shuts peer) entry.sent ≡ true
  pub place : ℕ
  pub short : IsBelow (content before r key) place
  pub why' : ((f : FrameView) × (entry.taken ≡ Some f) × (message_in f.body ≡ Says (PutFrom place)))
      ⊎ ((x : Entry) × (then' : List Entry) × (Occurs before x then') × (is_job r j x ≡ true) × (content then' r key ≡ Some place))

-- a copy's connection with its peer was closed
pub record WasClosed (past : List Entry) (r j : ℕ) : Type 0 where
  pub d : JobOf past r j
  pub peer : ℕ
  pub peer_is : d.what.peer ≡ Some peer
  pub closed : ClosedWith past r j peer ⊎ FellShort past r j peer d.what.key

abbrev pub rejects : EntryKind → Bool
rejects (Talk None) = true
rejects (Fault call by) = true
rejects _ = false

-- a copy's peer answered FAILURE, to PUT or to VALID: the bytes didn't match, or a call of its store failed
pub record WasRejected (past : List Entry) (r j : ℕ) : Type 0 where
  pub d : JobOf past r j
  pub peer : ℕ
  pub peer_is : d.what.peer ≡ Some peer
  pub asked : Said
  pub asked_is : (asked ≡ Says Valid) ⊎ ((file : List ℕ) × (asked ≡ Says (Put file d.what.key)))
  pub refused : AnswersRequest past r j peer asked (Says Failure)
  pub by : IsSentBy past r j peer (Says Failure) refused.hears
  pub found : rejects by.s.entry.kind ≡ true

-- The cause of a transfer's refusal; a crash ends its jobs without an entry of theirs.
abbrev pub TransferCauseOf : List RepoView → List Entry → ℕ → ℕ → TransferRefusal → Type 0
TransferCauseOf repos past r j failures.NotHere = FoundNotHere past r j
TransferCauseOf repos past r j (failures.NoSource reasons) = FoundNoSource repos past r j reasons
TransferCauseOf repos past r j failures.Busy = FoundFilled repos past r j ⊎ WasBusy past r j
TransferCauseOf repos past r j failures.Closed = WasClosed past r j
TransferCauseOf repos past r j failures.Rejected = WasRejected past r j
TransferCauseOf repos past r j failures.StoreFault = FailedCall past r j
TransferCauseOf repos past r j _ = ⊥

-- ---- runs

-- an entry that ends a job by a refusal has its cause; each job's key had these paths as it began
pub record IsCaused (repos : List RepoView) (paths : ℕ → ℕ → List (List ℕ)) (past : List Entry) (e : Entry) : Type 0 where
  pub drops : (r j : ℕ) (refusal : DropRefusal) → is_of r e ≡ true → e.kind ≡ End j (Refused refusal) → CauseOf repos (paths r j) past r j e.time refusal
  pub transfers : (r j : ℕ) (refusal : TransferRefusal) → is_of r e ≡ true → e.kind ≡ End j (TransferRefused refusal) → TransferCauseOf repos past r j refusal

abbrev pub CausedPast : List RepoView → (ℕ → ℕ → List (List ℕ)) → List Entry → Type 0
CausedPast repos paths [] = Unit {0}
CausedPast repos paths (e ∷ past) = IsCaused repos paths past e × CausedPast repos paths past

-- each refused job of the run has its cause
pub record HasCauses (run : Run) : Type 0 where
  pub causes : CausedPast run.repos (job_paths run) (reverse run.entries)
