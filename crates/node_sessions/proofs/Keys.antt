-- The keys that a state's sessions fill.
use Rattle.std.proofs.Common.{◌≡◌, ℕ, zero, suc, Bool, true, false, List, [], ◌∷◌, map, refl, sym, ap, ◌∙◌}
use Rattle.std.specs.Prelude.{◌&&◌, ◌||◌, bytes_eq}
use Rattle.std.specs.List.{list_any}
use Rattle.node_model.specs.Ends.{EndName, server_end}
use Rattle.node_model.specs.Sessions as sessions
use Rattle.node_model.specs.Sessions.{new_session}
use Rattle.node_model.specs.SessionStep as model
use Rattle.node_model.specs.SessionStep.{is_filled}
use Rattle.node_model.specs.SetUp.{SetUp}
use Rattle.node_model.specs.State.{State}
use Rattle.p2p_server.specs.declared.session.Session.{Session}
use Rattle.p2p_server.specs.Talking.{session_of}
use Rattle.node_sessions.specs.Sessions.{AreSessions, Every, connection_of, end_of, fills_in, session_fills}

any_same : {X Y : Type 0} (f : Y → Bool) (g : X → Y) (q : X → Bool) (xs : List X) → Every (λ x. f (g x) ≡ q x) xs → list_any f (map g xs) ≡ list_any q xs
any_same f g q [] same = refl
any_same f g q (x ∷ xs) same = ap (λ (b : Bool). b || list_any f (map g xs)) (same zero x refl) ∙ ap (λ (b : Bool). q x || b) (any_same f g q xs (λ i y at. same (suc i) y at))

one_fills : (opened : Bool) (key : List ℕ) (now x : sessions.Session) → now ≡ x → (opened ≡ false → now ≡ new_session) → (opened && sessions.is_filling key now.doing) ≡ sessions.is_filling key x.doing
one_fills true key now x is new = ap (λ (s : sessions.Session). sessions.is_filling key s.doing) is
one_fills false key now x is new = sym (ap (λ (s : sessions.Session). sessions.is_filling key s.doing) (sym is ∙ new refl))

pub state_fills : (s : SetUp) (st : State) (xs : List Session) (key : List ℕ) → AreSessions s st.sessions xs → ((a : EndName) → a.client ≡ false → (st.ends a).opened ≡ false → st.sessions a ≡ new_session)
    → is_filled s st key ≡ (fills_in xs key || list_any (λ w. w.fills && bytes_eq w.what.key key) st.works)
state_fills s st xs key are new =
    ap (λ (b : Bool). b || list_any (λ w. w.fills && bytes_eq w.what.key key) st.works)
    (ap (λ (cs : List (ℕ × ℕ)). list_any (λ c. model.session_fills st key (server_end c.0 c.1)) cs) (sym are.connections)
    ∙ any_same (λ c. model.session_fills st key (server_end c.0 c.1)) connection_of (session_fills key) xs
    (λ i x at. one_fills (st.ends (end_of x)).opened key (st.sessions (end_of x)) (session_of x) (are.each i x at).session (new (end_of x) refl)))
