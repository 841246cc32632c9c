-- What a step found, by the kind of the entry that it makes. Laws read this table, and none of them the step itself.
use Rattle.std.specs.Prelude.{◌≡◌, ◌⊎◌, ℕ, ◌+◌, ◌-◌, ◌*◌, ◌/◌, true, false, ◌==◌, nat_lt, List, [], ◌∷◌, find, Option, Some, None}
use Rattle.annex_base.specs.Lists.{Member}
use Rattle.annex_base.specs.declared.kinds.Call.TheVariants.{PutFile}
use Rattle.annex_base.specs.declared.kinds.Found.{Found}
use Rattle.annex_base.specs.declared.kinds.Found.TheVariants as found
use Rattle.drop_proof.specs.declared.rule.Need.{Need}
use Rattle.drop_proof.specs.declared.rule.Side.TheVariants.{Local, Remote}
use Rattle.run_data.specs.declared.entry.EntryKind.{EntryKind}
use Rattle.run_data.specs.declared.entry.EntryKind.TheVariants.{Gain, Share, Release, Check, Bar, Order, Gone, Log, Talk, Close, Fault, End as ends_job}
use Rattle.run_data.specs.declared.entry.By.{By}
use Rattle.run_data.specs.declared.entry.FrameView.{FrameView}
use Rattle.run_data.specs.declared.entry.FrameText.{FrameText}
use Rattle.run_data.specs.declared.entry.FrameText.TheVariants.{Closing, Bytes, Line}
use Rattle.run_data.specs.declared.entry.LogFile.TheVariants.{Location}
use Rattle.run_data.specs.declared.job.Outcome.{Outcome}
use Rattle.run_data.specs.declared.job.Outcome.TheVariants.{Got, Refused, TransferRefused}
use Rattle.run_data.specs.declared.job.Proof.{Proof}
use Rattle.run_data.specs.declared.job.CandidateCause.{CandidateCause}
use Rattle.run_data.specs.declared.job.TransferRefusal.TheVariants as failures
use Rattle.run_data.specs.declared.job.DropRefusal.TheVariants as refusals
use Rattle.node_model.specs.Rows.{is_lost_ordered}
use Rattle.node_model.specs.Evidence.{Asked}
use Rattle.node_model.specs.SetUp.{SetUp, served_connections}
use Rattle.p2p_wire.specs.declared.message.Message.{Message}
use Rattle.p2p_wire.specs.declared.message.Message.TheVariants.{AuthSuccess, Version, CheckPresent, LockContent, UnlockContent, RemoveBefore, GetTimestamp, Timestamp, Get, Put, PutFrom, AlreadyHave, Data, Valid, Invalid, Success, Failure, Error}
use Rattle.p2p_wire.specs.Messages.{order_of, text_of}
use Rattle.node_model.specs.Ends.{EndName, end_takes, frames, may_take, server_end, takes_at}
use Rattle.node_model.specs.Sessions.{Doing, Waits, Guards, Took, line_in}
use Rattle.node_model.specs.Jobs.{Work, Gets, Drops, Puts, Fresh, Next, GetsWord, AsksTime, job_end, partner, side_of}
use Rattle.node_model.specs.OwedLines.{OwedLine, due}
use Rattle.node_model.specs.State.{State}
use Rattle.node_model.specs.Look.{Look, Effect}
use Rattle.node_model.specs.SessionStep.{Here, Reply, bar_on, by_of, here, is_held, is_here, now_of, failure_line}
use Rattle.node_model.specs.Knows.{enough_by, next_by, causes_by, proof_by}
use Rattle.node_model.specs.JobStep.{Turn, bar_there, by_me, clock_of, end_with, farewells, is_there, key_of, me, turn_of}
use Rattle.node_model.specs.DropStep.{first_end, held_until, in_time, need_now, required_there, target}
use Rattle.node_model.specs.TransferStep.{next_source}
use Rattle.node_model.specs.Turns.{is_awaiting, outcome_of}
use Rattle.node_model.specs.Clocks.{hold_time}

-- ---- sessions: h is the session's place, doing what it does, asked the message that it takes, says what it sends

abbrev pub success_line : List FrameText
success_line = Line (text_of Success) ∷ []

-- LOCKCONTENT found the content free, and a hold was taken for ten minutes
pub record TakesHold (h : Here) (doing : Doing) (asked : Option Message) (hold end : ℕ) (by : By) (key : List ℕ) (says : List FrameText) : Type 0 where
  pub asks : asked ≡ Some (LockContent key)
  pub waits : doing ≡ Waits
  pub locks : h.locks ≡ true
  pub there : is_here h key ≡ true
  pub free : bar_on h key ≡ None
  pub hold_is : hold ≡ h.number
  pub end_is : end ≡ now_of h + hold_time
  pub by_is : by ≡ by_of h
  pub says_is : says ≡ success_line

-- CHECKPRESENT found the content free
pub record FindsFree (h : Here) (doing : Doing) (asked : Option Message) (key : List ℕ) (says : List FrameText) : Type 0 where
  pub asks : asked ≡ Some (CheckPresent key)
  pub waits : doing ≡ Waits
  pub there : is_here h key ≡ true
  pub free : bar_on h key ≡ None
  pub says_is : says ≡ success_line

-- the session was asked for the copy, or to remove it
abbrev pub AsksOf : Option Message → List ℕ → Type 0
AsksOf asked key = ((asked ≡ Some (LockContent key)) ⊎ (asked ≡ Some (CheckPresent key))) ⊎ ((deadline : Option ℕ) × (asked ≡ Some (order_of deadline key)))

-- an order finds nothing to remove, and agrees; all else that finds nothing refuses
abbrev pub AnswersAbsent : Option Message → List ℕ → List FrameText → Type 0
AnswersAbsent asked key says = (says ≡ failure_line) ⊎ ((says ≡ success_line) × ((deadline : Option ℕ) × (asked ≡ Some (order_of deadline key))))

abbrev pub CheckFinds : Here → Doing → Option Message → List ℕ → List FrameText → Found → Type 0
CheckFinds h doing asked key says found.Present = FindsFree h doing asked key says
CheckFinds h doing asked key says found.Absent = (doing ≡ Waits) × AsksOf asked key × (is_here h key ≡ false) × AnswersAbsent asked key says
CheckFinds h doing asked key says found.Barred = (doing ≡ Waits) × AsksOf asked key × ((j : ℕ) × (bar_on h key ≡ Some j)) × (says ≡ failure_line)
CheckFinds h doing asked key says found.Held = (doing ≡ Waits) × AsksOf asked key × (is_held h key ≡ true) × (says ≡ failure_line)
CheckFinds h doing asked key says found.Late = (doing ≡ Waits) × ((n : ℕ) × (asked ≡ Some (RemoveBefore n key)) × (nat_lt (now_of h) (1000 * n) ≡ false)) × (says ≡ failure_line)
CheckFinds h doing asked key says found.Nolock = (doing ≡ Waits) × (asked ≡ Some (LockContent key)) × (h.locks ≡ false) × (says ≡ failure_line)

-- an order comes before its deadline, if it has one
abbrev pub IsBeforeDeadline : ℕ → Option ℕ → Type 0
IsBeforeDeadline clock None = Unit {0}
IsBeforeDeadline clock (Some n) = nat_lt clock (1000 * n) ≡ true

-- an order found the content free and no hold that blocks
pub record ObeysOrder (h : Here) (doing : Doing) (asked : Option Message) (by : By) (key : List ℕ) (says : List FrameText) : Type 0 where
  pub deadline : Option ℕ
  pub asks : asked ≡ Some (order_of deadline key)
  pub waits : doing ≡ Waits
  pub there : is_here h key ≡ true
  pub free : bar_on h key ≡ None
  pub unheld : is_held h key ≡ false
  pub soon : IsBeforeDeadline (now_of h) deadline
  pub by_is : by ≡ by_of h
  pub says_is : says ≡ success_line

-- UNLOCKCONTENT of the key that the session guards
pub record ReleasesHold (doing : Doing) (asked : Option Message) (hold : ℕ) (key : List ℕ) (says : List FrameText) : Type 0 where
  pub asks : asked ≡ Some (UnlockContent key)
  pub guards : doing ≡ Guards hold key
  pub says_is : says ≡ []

-- VALID, and the part matches its key
pub record GainsContent (h : Here) (doing : Doing) (asked : Option Message) (by : By) (size : ℕ) (key : List ℕ) (says : List FrameText) : Type 0 where
  pub asks : asked ≡ Some Valid
  pub took : doing ≡ Took key size
  pub right : h.right ≡ true
  pub by_is : by ≡ by_of h
  pub says_is : says ≡ success_line

-- a message that changes no row: none that agrees, and a timestamp is the clock
abbrev pub IsTalk : ℕ → Message → Type 0
IsTalk clock (AuthSuccess id) = Unit {0}
IsTalk clock (Version n) = Unit {0}
IsTalk clock (Timestamp n) = n ≡ clock / 1000
IsTalk clock (PutFrom n) = Unit {0}
IsTalk clock AlreadyHave = Unit {0}
IsTalk clock (Data n) = Unit {0}
IsTalk clock Valid = Unit {0}
IsTalk clock Invalid = Unit {0}
IsTalk clock Failure = Unit {0}
IsTalk clock (Error text) = Unit {0}
IsTalk clock m = ⊥

abbrev pub SaysTalk : ℕ → List FrameText → Type 0
SaysTalk clock [] = Unit {0}
SaysTalk clock (Bytes n ∷ []) = Unit {0}
SaysTalk clock (Line text ∷ []) = (m : Message) × (text ≡ text_of m) × IsTalk clock m
SaysTalk clock says = ⊥

abbrev pub SaysClose : List FrameText → Type 0
SaysClose [] = Unit {0}
SaysClose (Closing ∷ []) = Unit {0}
SaysClose (Line text ∷ Closing ∷ []) = (t : List ℕ) × (text ≡ text_of (Error t))
SaysClose says = ⊥

abbrev pub SaysFault : List FrameText → Type 0
SaysFault says = (says ≡ []) ⊎ ((says ≡ Closing ∷ []) ⊎ (says ≡ failure_line))

abbrev pub IsSessionEntry : Here → Doing → Option Message → List FrameText → EntryKind → Type 0
IsSessionEntry h doing asked says (Share hold end by key) = TakesHold h doing asked hold end by key says
IsSessionEntry h doing asked says (Check what key) = CheckFinds h doing asked key says what
IsSessionEntry h doing asked says (Gone by key) = ObeysOrder h doing asked by key says
IsSessionEntry h doing asked says (Release hold key) = ReleasesHold doing asked hold key says
IsSessionEntry h doing asked says (Gain by size key) = GainsContent h doing asked by size key says
IsSessionEntry h doing asked says (Talk None) = SaysTalk (now_of h) says
IsSessionEntry h doing asked says (Close peer slot client) = (Close peer slot client ≡ Close h.at.peer h.at.slot false) × SaysClose says
IsSessionEntry h doing asked says (Fault call by) = (by ≡ by_of h) × SaysFault says
IsSessionEntry h doing asked says kind = ⊥

-- what a session found that makes this reply
abbrev pub SessionFound : Here → Doing → Option Message → Reply → Type 0
SessionFound h doing asked x = IsSessionEntry h doing asked x.says x.kind

-- the session took a frame that its end may take; or took none while it gives
pub record TakesAt (s : SetUp) (st : State) (a : EndName) (asked : Option Message) (says : List FrameText) (m : Effect) : Type 0 where
  pub f : FrameView
  pub taken_is : m.taken ≡ Some f
  pub of_end : takes_at a f ≡ true
  pub may : may_take (st.ends a) f ≡ true
  pub asked_is : asked ≡ line_in f.body
  pub sent_is : m.sent ≡ frames a (end_takes (st.ends a) f.epoch f.body) says

pub record GivesAt (s : SetUp) (st : State) (a : EndName) (asked : Option Message) (says : List FrameText) (m : Effect) : Type 0 where
  pub taken_is : m.taken ≡ None
  pub opened : (st.ends a).opened ≡ true
  pub asked_is : asked ≡ None
  pub sent_is : m.sent ≡ frames a (st.ends a) says

-- a session of s made the entry, at an end where it is the server
pub record BySession (s : SetUp) (st : State) (k : Look) (m : Effect) : Type 0 where
  pub peer : ℕ
  pub slot : ℕ
  pub serves : Member (peer, slot) (served_connections s)
  pub asked : Option Message
  pub says : List FrameText
  pub frame : TakesAt s st (server_end peer slot) asked says m ⊎ GivesAt s st (server_end peer slot) asked says m
  pub found : IsSessionEntry (here s st k (server_end peer slot)) (st.sessions (server_end peer slot)).doing asked says m.kind

-- ---- jobs

-- its first step found the row free, at its own repository
pub record OwnShare (t : Turn) (hold end : ℕ) (by : By) (key : List ℕ) (taken : Option FrameView) (sent : List FrameView) : Type 0 where
  pub part_is : t.w.part ≡ Drops
  pub first : t.w.phase ≡ Fresh
  pub side : side_of t.w ≡ Remote
  pub asked : t.read.standing (me t) ≡ Asked
  pub there : is_there t ≡ true
  pub free : bar_there t ≡ None
  pub hold_is : hold ≡ t.number
  pub end_is : end ≡ clock_of t + hold_time
  pub by_is : by ≡ by_me t
  pub key_is : key ≡ key_of t
  pub takes_none : taken ≡ None
  pub sends_none : sent ≡ []

pub record PutsBar (t : Turn) (j : ℕ) (need : Need) (key : List ℕ) (taken : Option FrameView) (sent : List FrameView) : Type 0 where
  pub part_is : t.w.part ≡ Drops
  pub first : t.w.phase ≡ Fresh
  pub side : side_of t.w ≡ Local
  pub there : is_there t ≡ true
  pub free : bar_there t ≡ None
  pub unheld : held_until t ≡ None
  pub spared : required_there t ≡ None
  pub number_is : j ≡ t.w.number
  pub need_is : need ≡ need_now t
  pub key_is : key ≡ key_of t
  pub takes_none : taken ≡ None
  pub sends_none : sent ≡ []

-- a local drop knows enough, in time
pub record RemovesContent (t : Turn) (by : By) (key : List ℕ) (taken : Option FrameView) (sent : List FrameView) : Type 0 where
  pub part_is : t.w.part ≡ Drops
  pub next : t.w.phase ≡ Next
  pub side : side_of t.w ≡ Local
  pub enough : enough_by t.read t.w ≡ true
  pub in_time : in_time (clock_of t) (first_end t) ≡ true
  pub by_is : by ≡ by_me t
  pub key_is : key ≡ key_of t
  pub takes_none : taken ≡ None
  pub sends_none : sent ≡ []

-- without a lock there is no deadline; with one it comes of the target's timestamp, while there is time
abbrev pub HasDeadline : Turn → Option FrameView → Option ℕ → Type 0
HasDeadline t taken None = first_end t ≡ None
HasDeadline t taken (Some deadline) =
    (f : FrameView) × (taken ≡ Some f) × (t.w.phase ≡ AsksTime) × ((n first : ℕ) × (line_in f.body ≡ Some (Timestamp n))
    × (first_end t ≡ Some first) × (nat_lt (clock_of t) first ≡ true) × (deadline ≡ n + (first - clock_of t) / 1000))

pub record GivesOrder (t : Turn) (j peer : ℕ) (deadline : Option ℕ) (need : Need) (key : List ℕ) (taken : Option FrameView) (sent : List FrameView) : Type 0 where
  pub part_is : t.w.part ≡ Drops
  pub side : side_of t.w ≡ Remote
  pub number_is : j ≡ t.w.number
  pub target_is : peer ≡ target t
  pub need_is : need ≡ need_now t
  pub key_is : key ≡ key_of t
  pub timed : HasDeadline t taken deadline
  pub sent_is : sent ≡ frames (job_end t.w peer) (end_with t peer) (Line (text_of (order_of deadline key)) ∷ [])

-- VALID, and the part matches its key
pub record GainsPart (t : Turn) (by : By) (size : ℕ) (key : List ℕ) (taken : Option FrameView) (sent : List FrameView) : Type 0 where
  pub peer : ℕ
  pub start : ℕ
  pub phase_is : t.w.phase ≡ GetsWord peer start size
  pub f : FrameView
  pub taken_is : taken ≡ Some f
  pub word : line_in f.body ≡ Some Valid
  pub right : t.look.right ≡ true
  pub by_is : by ≡ by_me t
  pub key_is : key ≡ key_of t
  pub sent_is : sent ≡ frames (job_end t.w peer) (end_with t peer) success_line

-- ---- why a job ends so

-- a local drop at its first step
pub record FirstLocal (t : Turn) : Type 0 where
  pub part_is : t.w.part ≡ Drops
  pub first : t.w.phase ≡ Fresh
  pub side : side_of t.w ≡ Local

pub record LacksCopies (t : Turn) (proof : Proof) (reasons : List CandidateCause) : Type 0 where
  pub part_is : t.w.part ≡ Drops
  pub next : t.w.phase ≡ Next
  pub wants : enough_by t.read t.w ≡ false
  pub last : next_by t.read t.w ≡ None
  pub proof_is : proof ≡ proof_by t.read t.w
  pub causes_are : reasons ≡ causes_by t.read t.look.words t.w

-- a local drop that knows enough, or the drop that took the target's timestamp, came too late
pub record LocksExpire (t : Turn) (taken : Option FrameView) (end clock : ℕ) : Type 0 where
  pub part_is : t.w.part ≡ Drops
  pub first_is : first_end t ≡ Some end
  pub clock_is : clock ≡ clock_of t
  pub late : nat_lt clock end ≡ false
  pub judges : ((t.w.phase ≡ Next) × (side_of t.w ≡ Local) × (taken ≡ None)) ⊎ ((side_of t.w ≡ Remote) × (t.w.phase ≡ AsksTime))

-- what this step itself found: by the row, or by what the job knows
abbrev pub FindsOutcome : Turn → Option FrameView → Outcome → Type 0
FindsOutcome t taken (Refused refusals.NotPresent) = FirstLocal t × (is_there t ≡ false)
FindsOutcome t taken (Refused (refusals.Required text)) = (t.w.part ≡ Drops) × (t.w.phase ≡ Fresh) × (required_there t ≡ Some text)
FindsOutcome t taken (Refused (refusals.Barred j)) = FirstLocal t × (is_there t ≡ true) × (bar_there t ≡ Some j)
FindsOutcome t taken (Refused (refusals.Held end)) = FirstLocal t × (is_there t ≡ true) × (bar_there t ≡ None) × (held_until t ≡ Some end)
FindsOutcome t taken (Refused (refusals.Lacking proof reasons)) = LacksCopies t proof reasons
FindsOutcome t taken (Refused (refusals.Expired end clock)) = LocksExpire t taken end clock
FindsOutcome t taken (Got None None) = (t.w.part ≡ Gets) × (t.w.phase ≡ Fresh) × (is_there t ≡ true)
FindsOutcome t taken (TransferRefused failures.NotHere) = (t.w.part ≡ Puts) × (t.w.phase ≡ Fresh) × ((is_there t ≡ false) ⊎ (t.w.what.peer ≡ None))
FindsOutcome t taken (TransferRefused failures.Busy) = (t.w.part ≡ Gets) × (t.w.phase ≡ Fresh) × (is_there t ≡ false) × (t.filled (key_of t) ≡ true)
FindsOutcome t taken (TransferRefused (failures.NoSource reasons)) = (t.w.phase ≡ Next) × (next_source t ≡ None) × (reasons ≡ t.w.causes)
FindsOutcome t taken outcome = ⊥

-- the outcome stands since an earlier step
pub record HasOutcome (t : Turn) (taken : Option FrameView) (outcome : Outcome) : Type 0 where
  pub alone : partner t.w.what.peer t.w.phase ≡ None
  pub takes_none : taken ≡ None
  pub outcome_is : outcome ≡ outcome_of t t.w.phase

pub record EndsJob (t : Turn) (j : ℕ) (outcome : Outcome) (taken : Option FrameView) (sent : List FrameView) : Type 0 where
  pub number_is : j ≡ t.w.number
  pub why : FindsOutcome t taken outcome ⊎ HasOutcome t taken outcome
  pub sent_is : sent ≡ farewells t (is_lost_ordered outcome)

-- ---- what a job's entry may say beside

-- neither an order, nor the giving back of a lock
abbrev pub IsAsking : Message → Type 0
IsAsking (Version n) = Unit {0}
IsAsking (CheckPresent key) = Unit {0}
IsAsking (LockContent key) = Unit {0}
IsAsking GetTimestamp = Unit {0}
IsAsking (Get n file key) = Unit {0}
IsAsking (Put file key) = Unit {0}
IsAsking (Data n) = Unit {0}
IsAsking Valid = Unit {0}
IsAsking Failure = Unit {0}
IsAsking m = ⊥

abbrev pub IsAsked : FrameText → Type 0
IsAsked (Line text) = (m : Message) × (text ≡ text_of m) × IsAsking m
IsAsked body = Unit {0}

-- nothing, or one frame to one peer
abbrev pub AsksOne : Turn → List FrameView → Type 0
AsksOne t sent = (sent ≡ []) ⊎ ((peer : ℕ) × (body : FrameText) × (sent ≡ frames (job_end t.w peer) (end_with t peer) (body ∷ [])) × IsAsked body)

abbrev pub IsJobEntry : Turn → Effect → EntryKind → Type 0
IsJobEntry t m (Share hold end by key) = OwnShare t hold end by key m.taken m.sent
IsJobEntry t m (Bar j need key) = PutsBar t j need key m.taken m.sent
IsJobEntry t m (Gone by key) = RemovesContent t by key m.taken m.sent
IsJobEntry t m (Order j peer deadline need key) = GivesOrder t j peer deadline need key m.taken m.sent
IsJobEntry t m (Gain by size key) = GainsPart t by size key m.taken m.sent
IsJobEntry t m (ends_job j outcome) = EndsJob t j outcome m.taken m.sent
IsJobEntry t m (Talk (Some j)) = (j ≡ t.w.number) × AsksOne t m.sent
IsJobEntry t m (Fault call by) = (by ≡ by_me t) × (m.sent ≡ [])
IsJobEntry t m kind = ⊥

-- what a job found that makes the entry, by this frame or by none
abbrev pub JobFound : Turn → Option FrameView → Effect → Type 0
JobFound t taken m = (m.taken ≡ taken) × IsJobEntry t m m.kind

-- a job takes a frame of the peer on whose open connection it awaits one
pub record JobTakes (t : Turn) (m : Effect) : Type 0 where
  pub f : FrameView
  pub taken_is : m.taken ≡ Some f
  pub peer : ℕ
  pub partner_is : partner t.w.what.peer t.w.phase ≡ Some peer
  pub awaits : is_awaiting t.w.phase ≡ true
  pub opened : (end_with t peer).opened ≡ true
  pub of_end : takes_at (job_end t.w peer) f ≡ true
  pub may : may_take (end_with t peer) f ≡ true

pub record ByJob (s : SetUp) (st : State) (k : Look) (m : Effect) : Type 0 where
  pub w : Work
  pub slot : ℕ
  pub runs : find (λ w. w.slot == slot) st.works ≡ Some w
  pub frame : (m.taken ≡ None) ⊎ JobTakes (turn_of s st k w) m
  pub found : IsJobEntry (turn_of s st k w) m m.kind

-- ---- the line that is owed first

pub record ByOwed (s : SetUp) (st : State) (k : Look) (m : Effect) : Type 0 where
  pub first : OwedLine
  pub rest : List OwedLine
  pub owes_it : st.owed ≡ first ∷ rest
  pub writes : (m ≡ record { kind = Log (Location first.key); taken = None; sent = []; lines = due s.repos st.lines (st.wall k.time) first; calls = PutFile ∷ [] })
      ⊎ (m ≡ record { kind = Fault PutFile first.by; taken = None; sent = []; lines = []; calls = PutFile ∷ [] })

-- what the step found
abbrev pub StepFound : SetUp → State → Look → Effect → Type 0
StepFound s st k m = ByOwed s st k m ⊎ (BySession s st k m ⊎ ByJob s st k m)
