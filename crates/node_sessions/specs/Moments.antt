-- What one session serves, as one value; for private contracts.
use Rattle.std.specs.Prelude.{◌≡◌, ℕ, ◌<◌, ◌≤◌, true, false, List, All, IfSome, slice_get, Option, None, Some, is_some, slice_set}
use Rattle.std.specs.Option.{ForSome, option_and_then, option_map}
use Rattle.annex_base.specs.Causes.{Rose}
use Rattle.annex_base.specs.declared.kinds.Call.{Call}
use Rattle.object_store.specs.Stores.{Contents, Parts}
use Rattle.object_store.specs.declared.keeper.HoldRecord.{HoldRecord}
use Rattle.content_lock.specs.CallsMade.{MakesCalls, fewer}
use Rattle.content_lock.specs.Rows.{Rows, bar_at, is_filling}
use Rattle.content_lock.specs.Stored.{Agrees}
use Rattle.content_lock.specs.Tokens.{Owns}
use Rattle.link_ring.specs.declared.frame.Frame.{Frame}
use Rattle.link_ring.specs.Ends.{EndView, next_frame}
use Rattle.node_model.specs.Look.{Effect, Look, as_told, failed_in}
use Rattle.node_model.specs.Sessions as sessions
use Rattle.node_model.specs.Sessions.{session_after}
use Rattle.node_model.specs.SessionStep.{here, is_filled, session_makes}
use Rattle.node_model.specs.SetUp.{SetUp}
use Rattle.node_model.specs.State.{State}
use Rattle.node_ends.specs.Ends.{end_at, frame_at, link_at, room_at, wait_at}
use Rattle.p2p_server.specs.declared.session.Session.{Session}
use Rattle.p2p_server.specs.Answers.{contents_after}
use Rattle.p2p_server.specs.Bounds.{IsKind}
use Rattle.p2p_server.specs.Giving.{is_giving}
use Rattle.p2p_server.specs.States.{IsScene, HaveRows, stand_after, stand_of}
use Rattle.p2p_server.specs.Stepping.{LeavesOthers, Moment, moment_of}
use Rattle.p2p_server.specs.Talking.{AreAfterStep, FillsSo, HasFillOf, IsFedOf, IsJudgedOf, place_of, session_of, share_of}
use Rattle.node_sessions.specs.declared.served.Served.{Served}
use Rattle.node_sessions.specs.Pieces.{SaysPiece}
use Rattle.node_sessions.specs.Sessions.{end_of, owner_of}
use Rattle.node_sessions.specs.Serving.{SeesPartAt, ServesAt, end_by, made_by, taken_by}
use Rattle.node_sessions.specs.Stored.{bytes_at, parts_after_taken}
pub use Rattle.end_hearing.specs.Pieces.{bytes_heard}

-- what the session reads is so in the state, at the look
pub record SeesOne (links : List EndView) (clock number : ℕ) (was : Moment Session) (v : Served) (s : SetUp) (st : State) (k : Look) : Type 0 where
  pub scene : IsScene (record { place = place_of was.session; clock = clock; number = number }) s st k (end_of was.session)
  pub keeps : HaveRows was.rows was.contents (stand_of st)
  pub filled : (key : List ℕ) → is_filled s st key ≡ is_filling was.rows key
  pub session : st.sessions (end_of was.session) ≡ session_of was.session
  pub part : SeesPartAt was.parts (Some was.session) (taken_by links v) k.part k.right
  pub fails : k.fails ≡ failed_in v.kind

-- a session's end has room, and this frame waits there
pub record WaitsAt (links : List EndView) (x : Session) (frame : Frame) : Type 0 where
  pub room : room_at links (end_of x) ≡ true
  pub waits : wait_at links (end_of x) ≡ Some (frame_at (end_of x) frame)
  pub first : option_and_then next_frame (link_at links (end_of x)) ≡ Some frame

-- it has room, no frame waits there, and it is open; the session is sending a content
pub record GivesAt (links : List EndView) (x : Session) : Type 0 where
  pub room : room_at links (end_of x) ≡ true
  pub none : wait_at links (end_of x) ≡ None
  pub opened : (end_at links (end_of x)).opened ≡ true
  pub gives : is_giving (session_of x).doing ≡ true

-- the session has what it must of the table, and no hold has a number from this on
pub record IsReady (number : ℕ) (was : Moment Session) : Type 0 where
  pub agrees : Agrees was.records was.rows.holds
  pub fresh : All (λ h. h.number < number) was.rows.holds
  pub owns : Owns (owner_of was.session) (share_of was.session) was.rows.holds
  pub fills : HasFillOf was.rows was.session

-- of the parts, one alone may change: that of the key whose bytes the session takes
pub record LeavesParts (doing : sessions.Doing) (known known' : Option Parts) : Type 0 where
  pub told : is_some known' ≡ is_some known
  pub same : ForSome known (λ p. ForSome known' (λ p'. (key : List ℕ) → sessions.is_filling key doing ≡ false → p' key ≡ p key))

-- what this says of a state is the entry of its end's session, and its session and rows after it
pub record Makes (links : List EndView) (was now : Moment Session) (v : Served) (s : SetUp) (st : State) (k : Look) : Type 0 where
  pub made : option_map as_told (session_makes (here s st k (end_of was.session)) (end_at links (end_of was.session)) (st.sessions (end_of was.session)) (wait_at links (end_of was.session))) ≡ Some (made_by links v)
  pub next : session_of now.session ≡ session_after st.content v.kind (session_of was.session) (made_by links v).sent (taken_by links v)
  pub keeps : HaveRows now.rows now.contents (stand_after v.kind (stand_of st))

-- this is served, from one moment to the next
pub record Serves (links : List EndView) (clock number : ℕ) (was now : Moment Session) (v : Served) : Type 0 where
  pub place : place_of now.session ≡ place_of was.session
  pub at : end_by v ≡ end_of was.session
  pub stands : ServesAt links v
  pub piece : ForSome was.contents (λ c. SaysPiece c (session_of was.session).doing v.reply)
  pub makes : (s : SetUp) (st : State) (k : Look) → SeesOne links clock number was v s st k → Makes links was now v s st k
  pub after : AreAfterStep v.kind was.rows now.rows
  pub bars : (key : List ℕ) → bar_at now.rows key ≡ bar_at was.rows key
  pub kind : IsKind number v.kind
  pub numbers : (n : ℕ) → number < n → All (λ h. h.number < n) now.rows.holds
  pub filled : FillsSo (session_of was.session).doing (session_of now.session).doing (is_filling was.rows) (is_filling now.rows)
  pub contents : now.contents ≡ contents_after was.contents was.parts v.kind
  pub left_parts : now.parts ≡ parts_after_taken (session_of was.session).doing (taken_by links v) (bytes_at links (end_by v)) v.kind was.parts
  pub parts : LeavesParts (session_of was.session).doing was.parts now.parts
  pub fed : ForSome was.parts (λ p. IsFedOf p was.session → ForSome now.parts (λ p'. IsFedOf p' now.session))
  pub judged : IsJudgedOf was.session v.kind
  pub owns : Owns (owner_of now.session) (share_of now.session) now.rows.holds
  pub fills : HasFillOf now.rows now.session
  pub others : LeavesOthers (owner_of was.session) was.rows now.rows
  pub agrees : Agrees now.records now.rows.holds
  pub later : was.faults ≤ now.faults
  pub cause : IfSome (failed_in v.kind) (λ call. Rose was.faults now.faults)

-- the calls of its store that were made are those of the step of the state's session at its end, and the numbers are fewer by the one that failed
pub record MakesSo (links : List EndView) (clock number : ℕ) (was : Moment Session) (v : Served) (before after : Option (Call → ℕ)) : Type 0 where
  pub at : end_by v ≡ end_of was.session
  pub calls : (s : SetUp) (st : State) (k : Look) → SeesOne links clock number was v s st k
      → ForSome (session_makes (here s st k (end_of was.session)) (end_at links (end_of was.session)) (st.sessions (end_of was.session)) (wait_at links (end_of was.session))) (λ (m : Effect). MakesCalls m.calls (failed_in v.kind) before after)
  pub left : after ≡ option_map (fewer (failed_in v.kind)) before

-- the session at this place serves this, and the others stay as they are
pub record ServesAmong (links : List EndView) (clock number at : ℕ) (xs xs' : List Session) (rows rows' : Rows) (contents contents' : Option Contents) (parts parts' : Option Parts) (records records' : Option (List HoldRecord)) (faults faults' : ℕ) (v : Served) : Type 0 where
  pub was : Session
  pub now : Session
  pub here : slice_get xs at ≡ Some was
  pub left : xs' ≡ slice_set xs at now
  pub serves : Serves links clock number (moment_of was rows contents parts records faults) (moment_of now rows' contents' parts' records' faults') v

-- and it makes its own calls of the store
pub record MakesAmong (links : List EndView) (clock number at : ℕ) (xs : List Session) (rows : Rows) (contents : Option Contents) (parts : Option Parts) (records : Option (List HoldRecord)) (faults : ℕ) (v : Served) (before after : Option (Call → ℕ)) : Type 0 where
  pub was : Session
  pub here : slice_get xs at ≡ Some was
  pub makes : MakesSo links clock number (moment_of was rows contents parts records faults) v before after
