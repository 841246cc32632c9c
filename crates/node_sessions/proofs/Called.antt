-- The calls of the store that a session made are those of the step of a state's sessions.
use Rattle.std.proofs.Common.{◌≡◌, ℕ, Bool, true, false, List, [], ◌∷◌, Option, Some, None, refl, sym, ap, subst, ◌∙◌, true≢false}
use Rattle.std.specs.Prelude.{◌==◌, if◌then◌else◌, is_some, min, slice_get}
use Rattle.std.specs.Option.{ForSome, option_map}
use Rattle.std.proofs.lemmas.Option.{same_Some}
use Rattle.annex_base.specs.declared.kinds.Call.{Call}
use Rattle.annex_base.specs.declared.kinds.Call.TheVariants.{Read}
use Rattle.run_data.specs.declared.entry.EntryKind.TheVariants.{Talk}
use Rattle.run_data.specs.declared.entry.FrameView.{FrameView}
use Rattle.object_store.specs.Stores.{Contents, Parts}
use Rattle.object_store.specs.declared.keeper.HoldRecord.{HoldRecord}
use Rattle.content_lock.specs.CallsMade.{MakesCalls, fewer}
use Rattle.content_lock.specs.Rows.{Rows}
use Rattle.link_ring.specs.Ends.{EndView}
use Rattle.p2p_wire.specs.declared.message.Message.TheVariants.{Invalid, Valid}
use Rattle.node_model.specs.Ends.{End, end_takes}
use Rattle.node_model.specs.Look.{Effect, Look, failed_in}
use Rattle.node_model.specs.Sessions as sessions
use Rattle.node_model.specs.SessionStep.{Here, Reply, gives_made, gives_next, here, on_frame, on_piece, reply, reply_made, session_makes, session_step}
use Rattle.node_model.specs.SetUp.{SetUp}
use Rattle.node_model.specs.State.{State}
use Rattle.node_ends.specs.Ends.{end_at, room_at, wait_at}
use Rattle.p2p_server.specs.declared.session.Session.{Session}
use Rattle.p2p_server.specs.SessionCalls.{calls_next}
use Rattle.node_sessions.specs.declared.served.Served.{Served}
use Rattle.node_sessions.specs.declared.turn.First.{First}
use Rattle.node_sessions.specs.Moments.{MakesAmong}
use Rattle.node_sessions.specs.Serving.{Sees}
use Rattle.node_sessions.specs.Sessions.{Every, HaveEnds, OwnAll, end_of}
use Rattle.node_sessions.specs.Turns.{IsFirstAt, turn_at}
use Rattle.node_sessions.proofs.Stepping.{SeesSessions, busy_step, first_made, none_made, sees_one, sessions_seen}
use Rattle.node_sessions.proofs.Turning.{FramesWait, end_among, step_at}

-- ---- no call

unmoved : (failing : Option (Call → ℕ)) → failing ≡ option_map (fewer None) failing
unmoved None = refl
unmoved (Some f) = refl

pub makes_none : (failing : Option (Call → ℕ)) → MakesCalls [] None failing failing
makes_none failing = record { first = λ f is. refl; left = unmoved failing }

-- ---- the calls of one step

-- an answer makes its own
pub answer_makes : (h : Here) (c : End) (was : sessions.Session) (o : Option FrameView) (f : FrameView) (failed : Option Call) (before after : Option (Call → ℕ)) → o ≡ Some f
    → MakesCalls (on_frame h was f.body).calls failed before after → ForSome (session_makes h c was o) (λ (m : Effect). MakesCalls m.calls failed before after)
answer_makes h c was o f failed before after is made =
    subst (λ (p : Option FrameView). ForSome (session_makes h c was p) (λ (m : Effect). MakesCalls m.calls failed before after)) (sym is)
    (λ m e. subst (λ (x : Effect). MakesCalls x.calls failed before after) (same_Some (reply_made h.at (end_takes c f.epoch f.body) (Some f) (on_frame h was f.body)) m e) made)

given_calls : (h : Here) (doing : sessions.Doing) (x : Reply) → gives_next h doing ≡ Some x → x.calls ≡ calls_next doing
given_calls h (sessions.Gives key at left good) x e =
    let y : Reply = if left == 0 then reply (Talk None) (if good then Valid else Invalid) else on_piece h key at (min 32768 left) in
    ap (λ (z : Reply). z.calls) (sym (same_Some y x e)) ∙ go (left == 0)
  where
    go : (b : Bool) → (if b then reply (Talk None) (if good then Valid else Invalid) else on_piece h key at (min 32768 left)).calls ≡ (if b then [] else Read ∷ [])
    go true = refl
    go false = refl
given_calls h doing x e = absurd cc

-- a piece makes the call of the next one
pub piece_makes : (h : Here) (c : End) (was : sessions.Session) (o : Option FrameView) (failed : Option Call) (before after : Option (Call → ℕ)) → o ≡ None → c.opened ≡ true
    → MakesCalls (calls_next was.doing) failed before after → ForSome (session_makes h c was o) (λ (m : Effect). MakesCalls m.calls failed before after)
piece_makes h c was o failed before after is opened made =
    subst (λ (p : Option FrameView). ForSome (session_makes h c was p) (λ (m : Effect). MakesCalls m.calls failed before after)) (sym is)
    (λ m e. given m (gives_next h was.doing) refl (sym (ap (λ (b : Bool). if b then gives_made h.at c (gives_next h was.doing) else None) opened) ∙ e))
  where
    given : (m : Effect) (next : Option Reply) → gives_next h was.doing ≡ next → gives_made h.at c next ≡ Some m → MakesCalls m.calls failed before after
    given m None is e = absurd cc
    given m (Some x) is e =
        subst (λ (y : Effect). MakesCalls y.calls failed before after) (same_Some (reply_made h.at c None x) m e)
        (subst (λ (cs : List Call). MakesCalls cs failed before after) (sym (given_calls h was.doing x is)) made)

-- ---- the calls of the sessions

-- where none has a step, none is made
pub none_makes : FramesWait → (links : List EndView) (rows : Rows) (contents : Option Contents) (parts : Option Parts) (clock number : ℕ) (xs : List Session) (failing : Option (Call → ℕ)) (s : SetUp) (st : State) (k : Look)
    → HaveEnds links xs → Every (λ x. turn_at links x ≡ None) xs → Sees links rows contents parts clock number xs None s st k → ForSome (session_step s st k) (λ (m : Effect). MakesCalls m.calls None failing failing)
none_makes law links rows contents parts clock number xs failing s st k there none sees = λ m e.
    absurd (true≢false (sym (ap is_some e) ∙ ap is_some (none_made law links xs s st k there none (sessions_seen links rows contents parts clock number xs None s st k sees))))

-- what is so of the step at an end with room or without is so of the step there
made_if : (room : Bool) (o : Option Effect) (m : Effect) → (if room then o else None) ≡ Some m → o ≡ Some m
made_if true o m e = e
made_if false o m e = absurd cc

-- where one is the first that has a step, what is made is what its session makes
first_makes : FramesWait → (links : List EndView) (xs : List Session) (s : SetUp) (st : State) (k : Look) (first : First) (x : Session) (m : Effect)
    → HaveEnds links xs → IsFirstAt links xs first → SeesSessions links xs s st k → slice_get xs first.at ≡ Some x → session_step s st k ≡ Some m
    → session_makes (here s st k (end_of x)) (end_at links (end_of x)) (st.sessions (end_of x)) (wait_at links (end_of x)) ≡ Some m
first_makes law links xs s st k first x m there is sees at e =
    made_if (room_at links (end_of x)) (session_makes (here s st k (end_of x)) (end_at links (end_of x)) (st.sessions (end_of x)) (wait_at links (end_of x))) m
    (sym (step_at law links s st k (end_of x) sees.ends sees.look (end_among s xs first.at x sees.sessions.connections at) (there first.at x at))
    ∙ sym (first_made law links xs s st k first.at x there sees at is.before (busy_step law links xs s st k there sees first.at x first.turn at (is.here x at))) ∙ e)

pub among_calls : FramesWait → (links : List EndView) (clock number : ℕ) (first : First) (xs : List Session) (rows : Rows) (contents : Option Contents) (parts : Option Parts) (records : Option (List HoldRecord)) (faults : ℕ) (v : Served) (before after : Option (Call → ℕ))
    → MakesAmong links clock number first.at xs rows contents parts records faults v before after → HaveEnds links xs → IsFirstAt links xs first → OwnAll rows xs
    → (s : SetUp) (st : State) (k : Look) → Sees links rows contents parts clock number xs (Some v) s st k → ForSome (session_step s st k) (λ (m : Effect). MakesCalls m.calls (failed_in v.kind) before after)
among_calls law links clock number first xs rows contents parts records faults v before after makes there is own s st k sees = λ m e.
    makes.makes.calls s st k (sees_one links rows contents parts records faults clock number xs first.at makes.was v s st k makes.here own.apart makes.makes.at sees) m
    (first_makes law links xs s st k first makes.was m there is (sessions_seen links rows contents parts clock number xs (Some v) s st k sees) makes.here e)

-- the same, of ends and sessions that are these
pub calls_same : (links links' : List EndView) (clock number at : ℕ) (xs xs' : List Session) (rows : Rows) (contents : Option Contents) (parts : Option Parts) (records : Option (List HoldRecord)) (faults : ℕ) (v : Served) (before after : Option (Call → ℕ))
    → links' ≡ links → xs' ≡ xs → MakesAmong links' clock number at xs' rows contents parts records faults v before after → MakesAmong links clock number at xs rows contents parts records faults v before after
calls_same links links' clock number at xs xs' rows contents parts records faults v before after e f m =
    subst (λ (l : List EndView). MakesAmong l clock number at xs rows contents parts records faults v before after) e
    (subst (λ (l : List Session). MakesAmong links' clock number at l rows contents parts records faults v before after) f m)
