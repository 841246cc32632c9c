-- The step of a state's sessions, by what one of them served.
use Rattle.std.proofs.Common.{◌≡◌, ◌≢◌, ℕ, ◌<◌, Bool, true, false, List, [], Option, Some, None, refl, sym, ap, subst, ◌∙◌}
use Rattle.std.specs.Prelude.{is_some, slice_get, ◌&&◌, ◌==◌, if◌then◌else◌}
use Rattle.std.specs.Option.{option_map}
use Rattle.std.proofs.Math.ListN.{set}
use Rattle.annex_base.proofs.Lists.{slice_get-within}
use Rattle.annex_base.specs.OptionSteps.{first_some}
use Rattle.run_data.specs.declared.entry.EntryKind.{EntryKind}
use Rattle.run_data.specs.declared.entry.FrameText.{FrameText}
use Rattle.run_data.specs.declared.entry.FrameView.{FrameView}
use Rattle.object_store.specs.Stores.{Contents, Parts}
use Rattle.object_store.specs.declared.keeper.HoldRecord.{HoldRecord}
use Rattle.content_lock.specs.Rows.{Rows}
use Rattle.link_ring.specs.Ends.{EndView}
use Rattle.node_model.specs.Ends.{End, EndName, end_took, frames, sent_at, server_end, taken_at}
use Rattle.node_model.specs.Look.{Effect, Look, as_told}
use Rattle.node_model.specs.Sessions as sessions
use Rattle.node_model.specs.Sessions.{session_after}
use Rattle.node_model.specs.SessionStep.{here, session_at, session_step}
use Rattle.node_model.specs.SetUp.{SetUp}
use Rattle.node_model.specs.State.{State}
use Rattle.node_ends.specs.Ends.{AreEnds, SeesEnds, end_at, room_at, wait_at}
use Rattle.p2p_server.specs.declared.session.Session.{Session}
use Rattle.p2p_server.specs.Stepping.{moment_of}
use Rattle.p2p_server.specs.Talking.{place_of, session_of}
use Rattle.node_sessions.specs.declared.served.Served.{Served}
use Rattle.node_sessions.specs.Moments.{Makes, SeesOne, Serves}
use Rattle.node_sessions.specs.Serving.{Sees, SeesPartAt, StepsSo, end_by, made_by, says_by, sessions_after, taken_by}
use Rattle.node_sessions.specs.Sessions.{AreSessions, Differ, Every, EveryTwo, HaveEnds, IsSessionOf, connection_of, end_of}
use Rattle.node_sessions.specs.declared.turn.First.{First}
use Rattle.node_sessions.specs.declared.turn.Turn.{Turn}
use Rattle.node_sessions.specs.Turns.{IsFirst, IsFirstAt, turn_at}
use Rattle.node_sessions.proofs.Framing.{sent_else, sent_mine, taken_else, taken_mine, waits_form}
use Rattle.node_sessions.proofs.Listing.{Every-set, first_here, first_is, first_none, map_set}
use Rattle.node_sessions.proofs.Standing.{server_is}
use Rattle.node_sessions.proofs.Turning.{FramesWait, busy_at, end_among, idle_at, step_at}

-- ---- a session without a turn has no step

-- the state and the look are what the ends and the sessions are
pub record SeesSessions (links : List EndView) (xs : List Session) (s : SetUp) (st : State) (k : Look) : Type 0 where
  pub ends : AreEnds links s st
  pub look : SeesEnds links s k
  pub sessions : AreSessions s st.sessions xs

pub sessions_seen : (links : List EndView) (rows : Rows) (contents : Option Contents) (parts : Option Parts) (clock number : ℕ) (xs : List Session) (o : Option Served) (s : SetUp) (st : State) (k : Look)
    → Sees links rows contents parts clock number xs o s st k → SeesSessions links xs s st k
sessions_seen links rows contents parts clock number xs o s st k sees = record { ends = sees.ends; look = sees.look; sessions = sees.sessions }

pub idle_step : FramesWait → (links : List EndView) (xs : List Session) (s : SetUp) (st : State) (k : Look)
    → HaveEnds links xs → SeesSessions links xs s st k → (i : ℕ) (x : Session) → slice_get xs i ≡ Some x → turn_at links x ≡ None → session_at s st k (end_of x) ≡ None
idle_step law links xs s st k there sees i x at none =
    step_at law links s st k (end_of x) sees.ends sees.look (end_among s xs i x sees.sessions.connections at) (there i x at)
    ∙ rw (sees.sessions.each i x at).session (idle_at (here s st k (end_of x)) links x none)

pub none_made : FramesWait → (links : List EndView) (xs : List Session) (s : SetUp) (st : State) (k : Look)
    → HaveEnds links xs → Every (λ x. turn_at links x ≡ None) xs → SeesSessions links xs s st k → session_step s st k ≡ None
none_made law links xs s st k there none sees =
    ap (λ (cs : List (ℕ × ℕ)). first_some (λ c. session_at s st k (server_end c.0 c.1)) cs) (sym sees.sessions.connections)
    ∙ first_none (λ c. session_at s st k (server_end c.0 c.1)) connection_of xs (λ i x at. idle_step law links xs s st k there sees i x at (none i x at))

-- a session with a turn has a step
pub busy_step : FramesWait → (links : List EndView) (xs : List Session) (s : SetUp) (st : State) (k : Look)
    → HaveEnds links xs → SeesSessions links xs s st k → (i : ℕ) (x : Session) (turn : Turn) → slice_get xs i ≡ Some x → turn_at links x ≡ Some turn → is_some (session_at s st k (end_of x)) ≡ true
busy_step law links xs s st k there sees i x turn at is =
    ap is_some (step_at law links s st k (end_of x) sees.ends sees.look (end_among s xs i x sees.sessions.connections at) (there i x at))
    ∙ rw (sees.sessions.each i x at).session (busy_at (here s st k (end_of x)) links x turn is)

some_made : FramesWait → (links : List EndView) (xs : List Session) (s : SetUp) (st : State) (k : Look) (first : First)
    → HaveEnds links xs → IsFirstAt links xs first → SeesSessions links xs s st k → is_some (session_step s st k) ≡ true
some_made law links xs s st k first there is sees =
    let w = slice_get-within xs first.at is.within in
    ap (λ (cs : List (ℕ × ℕ)). is_some (first_some (λ c. session_at s st k (server_end c.0 c.1)) cs)) (sym sees.sessions.connections)
    ∙ first_is (λ c. session_at s st k (server_end c.0 c.1)) connection_of xs first.at (w.0) (w.1) (busy_step law links xs s st k there sees first.at (w.0) first.turn (w.1) (is.here (w.0) (w.1)))

-- and the step is that of the first that has one
pub first_made : FramesWait → (links : List EndView) (xs : List Session) (s : SetUp) (st : State) (k : Look) (i : ℕ) (x : Session)
    → HaveEnds links xs → SeesSessions links xs s st k → slice_get xs i ≡ Some x → ((j : ℕ) (y : Session) → j < i → slice_get xs j ≡ Some y → turn_at links y ≡ None)
    → is_some (session_at s st k (end_of x)) ≡ true → session_step s st k ≡ session_at s st k (end_of x)
first_made law links xs s st k i x there sees at before some =
    ap (λ (cs : List (ℕ × ℕ)). first_some (λ c. session_at s st k (server_end c.0 c.1)) cs) (sym sees.sessions.connections)
    ∙ first_here (λ c. session_at s st k (server_end c.0 c.1)) connection_of xs i x at (λ j y less aty. idle_step law links xs s st k there sees j y aty (before j y less aty)) some

-- there is a step where one has a turn
pub is_made : FramesWait → (links : List EndView) (xs : List Session) (o : Option First) → HaveEnds links xs → IsFirst links xs o
    → (s : SetUp) (st : State) (k : Look) → AreEnds links s st → SeesEnds links s k → AreSessions s st.sessions xs → is_some (session_step s st k) ≡ is_some o
is_made law links xs None there first s st k ends look are = ap is_some (none_made law links xs s st k there first (record { ends = ends; look = look; sessions = are }))
is_made law links xs (Some f) there first s st k ends look are = some_made law links xs s st k f there first (record { ends = ends; look = look; sessions = are })

pub none_steps : FramesWait → (links : List EndView) (rows : Rows) (contents : Option Contents) (parts : Option Parts) (clock number : ℕ) (xs : List Session) (s : SetUp) (st : State) (k : Look)
    → HaveEnds links xs → Every (λ x. turn_at links x ≡ None) xs → Sees links rows contents parts clock number xs None s st k → StepsSo links None xs rows contents s st k
none_steps law links rows contents parts clock number xs s st k there none sees = record {
  made = ap (option_map as_told) (none_made law links xs s st k there none (sessions_seen links rows contents parts clock number xs None s st k sees));
  next = record { connections = sees.sessions.connections; each = λ i x at. sees.sessions.each i x at };
  keeps = sees.keeps;
}

-- ---- the session that serves

pub sees_one : (links : List EndView) (rows : Rows) (contents : Option Contents) (parts : Option Parts) (records : Option (List HoldRecord)) (faults : ℕ) (clock number : ℕ) (xs : List Session) (i : ℕ) (was : Session) (v : Served) (s : SetUp) (st : State) (k : Look)
    → slice_get xs i ≡ Some was → EveryTwo Differ xs → end_by v ≡ end_of was → Sees links rows contents parts clock number xs (Some v) s st k → SeesOne links clock number (moment_of was rows contents parts records faults) v s st k
sees_one links rows contents parts records faults clock number xs i was v s st k at apart end sees =
    let mine : IsSessionOf s st.sessions was = sees.sessions.each i was at in record {
      scene = record { at = refl; id = mine.id; version = mine.version; locks = mine.locks; clock = sees.time; number = sees.made };
      keeps = sees.keeps;
      filled = sees.filled;
      session = mine.session;
      part = subst (λ (o : Option Session). SeesPartAt parts o (taken_by links v) k.part k.right) (server_is xs i was v at apart end) (sees.part v refl);
      fails = sees.fails v refl;
    }

-- ---- the sessions after it

abbrev goes_on : State → EntryKind → List FrameView → Option FrameView → EndName → sessions.Session
goes_on st kind sent taken a = session_after st.content kind (st.sessions a) (sent_at a sent) (taken_at a taken)

pub taken_own : (links : List EndView) (p s : ℕ) (o : Option FrameView) → ((f : FrameView) → o ≡ Some f → wait_at links (server_end p s) ≡ Some f) → taken_at (server_end p s) o ≡ o
taken_own links p s None waits = refl
taken_own links p s (Some f) waits = taken_mine p s (end_at links (server_end p s)) f (waits_form links (server_end p s) f (waits f refl))

taken_other : (links : List EndView) (p s q t : ℕ) (o : Option FrameView) → ((p == q) && (s == t)) ≡ false → ((f : FrameView) → o ≡ Some f → wait_at links (server_end p s) ≡ Some f) → taken_at (server_end q t) o ≡ None
taken_other links p s q t None apart waits = refl
taken_other links p s q t (Some f) apart waits = taken_else p s q t (end_at links (server_end p s)) f apart (waits_form links (server_end p s) f (waits f refl))

pub taken_waits : (links : List EndView) (v : Served) (a : EndName) → end_by v ≡ a → (f : FrameView) → taken_by links v ≡ Some f → wait_at links a ≡ Some f
taken_waits links v a end f e = go v.takes e
  where
    go : (b : Bool) → (if b then wait_at links (end_by v) else None) ≡ Some f → wait_at links a ≡ Some f
    go true g = ap (wait_at links) (sym end) ∙ g
    go false g = absurd cc

pub next_made : (links : List EndView) (m : Effect) (c : End) (bodies : List FrameText) (xs : List Session) (i : ℕ) (was now : Session) (s : SetUp) (st : State) → slice_get xs i ≡ Some was → EveryTwo Differ xs → m.sent ≡ frames (end_of was) c bodies
    → ((f : FrameView) → m.taken ≡ Some f → wait_at links (end_of was) ≡ Some f) → place_of now ≡ place_of was → AreSessions s st.sessions xs → session_of now ≡ session_after st.content m.kind (session_of was) m.sent m.taken
    → AreSessions s (sessions_after st (Some m)) (set xs i now)
next_made links m c bodies xs i was now s st at apart form waits place are next = record {
  connections = map_set connection_of xs i was now at (ap (λ p. (p.peer, p.slot)) place) ∙ are.connections;
  each = Every-set (IsSessionOf s (sessions_after st (Some m))) xs i now mine other;
}
  where
    a : EndName
    a = end_of was

    it : IsSessionOf s st.sessions was
    it = are.each i was at

    own : sent_at (end_of was) m.sent ≡ m.sent
    own = ap (sent_at (end_of was)) form ∙ sent_mine (end_of was) c bodies ∙ sym form

    taken_is : taken_at (end_of was) m.taken ≡ m.taken
    taken_is = taken_own links (place_of was).peer (place_of was).slot m.taken waits

    mine_goes : goes_on st m.kind m.sent m.taken (end_of was) ≡ session_of now
    mine_goes =
        ap (λ (x : sessions.Session). session_after st.content m.kind x (sent_at (end_of was) m.sent) (taken_at (end_of was) m.taken)) (are.each i was at).session
        ∙ ap (λ (fs : List FrameView). session_after st.content m.kind (session_of was) fs (taken_at (end_of was) m.taken)) own
        ∙ ap (λ (o : Option FrameView). session_after st.content m.kind (session_of was) m.sent o) taken_is ∙ sym next

    mine : IsSessionOf s (sessions_after st (Some m)) now
    mine = record {
      id = it.id ∙ ap (λ p. p.id) (sym place);
      version = it.version ∙ ap (λ p. p.version) (sym place);
      locks = it.locks ∙ ap (λ p. p.locks) (sym place);
      session = ap (goes_on st m.kind m.sent m.taken) (ap (λ p. server_end p.peer p.slot) place) ∙ mine_goes;
    }

    other_goes : (k : ℕ) (y : Session) → k ≢ i → slice_get xs k ≡ Some y → goes_on st m.kind m.sent m.taken (end_of y) ≡ st.sessions (end_of y)
    other_goes k y ne aty =
        let p : ℕ = (place_of was).peer in
        let q : ℕ = (place_of was).slot in
        let r : ℕ = (place_of y).peer in
        let t : ℕ = (place_of y).slot in
        let differ : ((p == r) && (q == t)) ≡ false = (apart i k was y (λ e. ne (sym e)) at aty).owners in
        let none : sent_at (end_of y) m.sent ≡ [] = ap (sent_at (end_of y)) form ∙ sent_else p q r t c bodies differ in
        let untaken : taken_at (end_of y) m.taken ≡ None = taken_other links p q r t m.taken differ waits in
        ap (λ (fs : List FrameView). session_after st.content m.kind (st.sessions (end_of y)) fs (taken_at (end_of y) m.taken)) none
        ∙ ap (λ (o : Option FrameView). session_after st.content m.kind (st.sessions (end_of y)) [] o) untaken

    other : (k : ℕ) (y : Session) → k ≢ i → slice_get xs k ≡ Some y → IsSessionOf s (sessions_after st (Some m)) y
    other k y ne aty =
        let old : IsSessionOf s st.sessions y = are.each k y aty in record {
          id = old.id;
          version = old.version;
          locks = old.locks;
          session = other_goes k y ne aty ∙ old.session;
        }

next_sessions : (links : List EndView) (v : Served) (xs : List Session) (i : ℕ) (was now : Session) (s : SetUp) (st : State) → slice_get xs i ≡ Some was → EveryTwo Differ xs → end_by v ≡ end_of was
    → place_of now ≡ place_of was → AreSessions s st.sessions xs → session_of now ≡ session_after st.content v.kind (session_of was) (made_by links v).sent (taken_by links v)
    → AreSessions s (sessions_after st (Some (made_by links v))) (set xs i now)
next_sessions links v xs i was now s st at apart end place are next =
    let c : End = end_took (end_at links (end_by v)) (taken_by links v) in
    next_made links (made_by links v) c (says_by v) xs i was now s st at apart (ap (λ (b : EndName). frames b c (says_by v)) end) (taken_waits links v (end_of was) end) place are next

-- ---- the step

-- what is told is of a step
told_some : (o : Option Effect) (m : Effect) → option_map as_told o ≡ Some m → is_some o ≡ true
told_some None m e = absurd cc
told_some (Some x) m e = refl

pub some_steps : FramesWait → (links : List EndView) (clock number : ℕ) (rows rows' : Rows) (contents contents' : Option Contents) (parts parts' : Option Parts) (records records' : Option (List HoldRecord)) (faults faults' : ℕ)
    (xs : List Session) (i : ℕ) (was now : Session) (v : Served) (s : SetUp) (st : State) (k : Look)
    → HaveEnds links xs → slice_get xs i ≡ Some was → ((j : ℕ) (y : Session) → j < i → slice_get xs j ≡ Some y → turn_at links y ≡ None) → EveryTwo Differ xs
    → Serves links clock number (moment_of was rows contents parts records faults) (moment_of now rows' contents' parts' records' faults') v
    → Sees links rows contents parts clock number xs (Some v) s st k → StepsSo links (Some v) (set xs i now) rows' contents' s st k
some_steps law links clock number rows rows' contents contents' parts parts' records records' faults faults' xs i was now v s st k there at before apart serves sees = record {
  made = ap (option_map as_told) (first_made law links xs s st k i was there (sessions_seen links rows contents parts clock number xs (Some v) s st k sees) at before (told_some (session_at s st k a) (made_by links v) here)) ∙ here;
  next = next_sessions links v xs i was now s st at apart serves.at serves.place sees.sessions makes.next;
  keeps = makes.keeps;
}
  where
    a : EndName
    a = end_of was

    makes : Makes links (moment_of was rows contents parts records faults) (moment_of now rows' contents' parts' records' faults') v s st k
    makes = serves.makes s st k (sees_one links rows contents parts records faults clock number xs i was v s st k at apart serves.at sees)

    room : room_at links a ≡ true
    room = ap (room_at links) (sym serves.at) ∙ serves.stands.room

    here : option_map as_told (session_at s st k a) ≡ Some (made_by links v)
    here = ap (option_map as_told) (step_at law links s st k a sees.ends sees.look (end_among s xs i was sees.sessions.connections at) (there i was at)) ∙ rw room makes.made
