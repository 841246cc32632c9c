-- What a session serves at its end, and how that is the step of a state's sessions (own).
use Rattle.std.specs.Prelude.{◌≡◌, ℕ, ◌+◌, Bool, true, false, if◌then◌else◌, List, [], ◌∷◌, Option, Some, None, is_some, find, fold}
use Rattle.std.specs.Option.{ForSome, option_map}
use Rattle.annex_base.specs.declared.kinds.Call.{Call}
use Rattle.run_data.specs.declared.entry.By.TheVariants.{Peer}
use Rattle.run_data.specs.declared.entry.EntryKind.TheVariants.{Close}
use Rattle.run_data.specs.declared.entry.FrameText.{FrameText}
use Rattle.run_data.specs.declared.entry.FrameText.TheVariants.{Closing}
use Rattle.run_data.specs.declared.entry.FrameView.{FrameView}
use Rattle.object_store.specs.Stores.{Contents, Parts}
use Rattle.content_lock.specs.Rows.{Rows, is_filling}
use Rattle.link_ring.specs.Ends.{EndView}
use Rattle.node_model.specs.Ends.{End, EndName, end_sends, end_took, frames, sent_at, server_end, taken_at}
use Rattle.node_model.specs.Look.{Effect, Look, as_told, failed_in}
use Rattle.node_model.specs.Rows.{same_owner}
use Rattle.node_model.specs.Sessions as sessions
use Rattle.node_model.specs.Sessions.{session_after}
use Rattle.node_model.specs.SessionStep.{Reply, is_filled, reply_made, session_step}
use Rattle.node_model.specs.SetUp.{SetUp}
use Rattle.node_model.specs.State.{State}
use Rattle.node_ends.specs.declared.sending.Sending.{Sending}
use Rattle.node_ends.specs.declared.sending.Sending.TheVariants as sendings
use Rattle.node_ends.specs.Ends.{AreEnds, SeesEnds, end_at, room_at, wait_at}
use Rattle.node_ends.specs.Sent.{text_of_sending}
use Rattle.p2p_server.specs.declared.session.Session.{Session}
use Rattle.p2p_server.specs.Answers.{closes}
use Rattle.p2p_server.specs.States.{HaveRows, Stand, stand_after, stand_of}
use Rattle.p2p_server.specs.Talking.{AreAfterStep, Brings, IsJudgedOf, SeesPartOf}
use Rattle.node_sessions.specs.declared.served.Served.{Served}
use Rattle.node_sessions.specs.Sessions.{AreSessions, owner_of}
use Rattle.node_sessions.specs.Words.{word_to}

-- ---- what is served

abbrev pub end_by : Served → EndName
end_by v = server_end v.peer v.slot

-- the frame that is taken
abbrev pub taken_by : List EndView → Served → Option FrameView
taken_by links v = if v.takes then wait_at links (end_by v) else None

-- the bodies of the frames that are sent
abbrev pub says_in : Option Sending → Bool → List FrameText
says_in None close = closes close
says_in (Some said) close = text_of_sending said ∷ closes close

abbrev pub says_by : Served → List FrameText
says_by v = says_in v.reply v.close

abbrev pub reply_by : Served → Reply
reply_by v = record { kind = v.kind; says = says_by v; calls = [] }

-- the entry, at these ends, apart from the store calls of its step
abbrev pub made_by : List EndView → Served → Effect
made_by links v = reply_made (end_by v) (end_took (end_at links (end_by v)) (taken_by links v)) (taken_by links v) (reply_by v)

-- a line or a piece, which has its memory
abbrev pub IsTalk : Sending → Type 0
IsTalk sendings.Open = ⊥
IsTalk sendings.Close = ⊥
IsTalk (sendings.Line line listed) = listed ≡ line
IsTalk (sendings.Bytes bytes) = Unit {0}

-- its end has room, and a frame that waits or is open; a Close is sent where the end is open; the word is what the entry found
pub record ServesAt (links : List EndView) (v : Served) : Type 0 where
  pub room : room_at links (end_by v) ≡ true
  pub waits : v.takes ≡ true → is_some (wait_at links (end_by v)) ≡ true
  pub opened : v.takes ≡ false → (end_at links (end_by v)).opened ≡ true
  pub talk : ForSome v.reply IsTalk
  pub shuts : v.close ≡ true → (end_took (end_at links (end_by v)) (taken_by links v)).opened ≡ true
  pub word : v.word ≡ word_to (taken_by links v) v.kind

abbrev pub ServesIf : List EndView → Option Served → Type 0
ServesIf links o = ForSome o (ServesAt links)

-- the session that serves
abbrev pub server_in : List Session → Served → Option Session
server_in xs v = find (λ x. same_owner (owner_of x) (Peer v.peer v.slot)) xs

-- the store call that failed
abbrev pub failed_by : Option Served → Option Call
failed_by None = None
failed_by (Some v) = failed_in v.kind

-- a content comes only of a part whose sum is its key's
abbrev pub JudgedBy : List Session → Option Served → Type 0
JudgedBy xs o = ForSome o (λ v. ForSome (server_in xs v) (λ x. IsJudgedOf x v.kind))

-- the holds and bars are those that the entry leaves
abbrev pub AreAfterIf : Option Served → Rows → Rows → Type 0
AreAfterIf None was now = now ≡ was
AreAfterIf (Some v) was now = AreAfterStep v.kind was now

abbrev pub stand_by : Option Served → Stand → Stand
stand_by None was = was
stand_by (Some v) was = stand_after v.kind was

-- ---- the step of a state's sessions

-- the part that a frame asks this session for is the store's, as far as it is told
abbrev pub SeesPartAt : Option Parts → Option Session → Option FrameView → ℕ → Bool → Type 0
SeesPartAt known (Some x) (Some f) part right = (i : _) → Brings f.body i → SeesPartOf known x i part right
SeesPartAt known x f part right = Unit {0}

abbrev pub SeesPartBy : Option Parts → List Session → List EndView → Option Served → ℕ → Bool → Type 0
SeesPartBy known xs links o part right = ForSome o (λ v. SeesPartAt known (server_in xs v) (taken_by links v) part right)

-- there is such an answer
pub record HasPart (known : Option Parts) (xs : List Session) (links : List EndView) (o : Option Served) : Type 0 where
  pub part : ℕ
  pub right : Bool
  pub sees : SeesPartBy known xs links o part right

-- the look finds the call to fail that the entry tells
abbrev pub FailsBy : Option Served → Option Call → Type 0
FailsBy o fails = ForSome o (λ v. fails ≡ failed_in v.kind)

-- the state and the look are what the ends, a table, a store and the sessions are, at this clock, before the entry of this number
pub record Sees (links : List EndView) (rows : Rows) (contents : Option Contents) (parts : Option Parts) (clock number : ℕ) (xs : List Session) (o : Option Served) (s : SetUp) (st : State) (k : Look) : Type 0 where
  pub ends : AreEnds links s st
  pub look : SeesEnds links s k
  pub sessions : AreSessions s st.sessions xs
  pub keeps : HaveRows rows contents (stand_of st)
  pub filled : (key : List ℕ) → is_filled s st key ≡ is_filling rows key
  pub time : st.clock k.time ≡ clock
  pub made : st.made + 1 ≡ number
  pub part : SeesPartBy parts xs links o k.part k.right
  pub fails : FailsBy o k.fails

-- the sessions after an entry
abbrev pub sessions_after : State → Option Effect → EndName → sessions.Session
sessions_after st None a = st.sessions a
sessions_after st (Some m) a = session_after st.content m.kind (st.sessions a) (sent_at a m.sent) (taken_at a m.taken)

-- and the ends
abbrev pub ends_after : State → Option Effect → EndName → End
ends_after st None a = st.ends a
ends_after st (Some m) a = fold (λ c f. end_sends c f.body) (end_took (st.ends a) (taken_at a m.taken)) (sent_at a m.sent)

-- the entry of a close at a server's end that stands so
abbrev pub closing_made : ℕ → ℕ → End → Effect
closing_made peer slot c = record { kind = Close peer slot false; taken = None; sent = frames (server_end peer slot) c (Closing ∷ []); lines = []; calls = [] }

-- this is the step of the state's sessions, and these are the sessions, the rows and the contents after it
pub record StepsSo (links : List EndView) (o : Option Served) (xs : List Session) (rows : Rows) (contents : Option Contents) (s : SetUp) (st : State) (k : Look) : Type 0 where
  pub made : option_map as_told (session_step s st k) ≡ option_map (made_by links) o
  pub next : AreSessions s (sessions_after st (option_map (made_by links) o)) xs
  pub keeps : HaveRows rows contents (stand_by o (stand_of st))
