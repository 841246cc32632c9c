-- A session's turn, by its end, is whether its end has a step.
use Rattle.std.proofs.Common.{◌≡◌, ℕ, ◌<◌, ◌+◌, arith, zero, suc, Bool, true, false, List, [], ◌∷◌, ◌++◌, Option, Some, None, ◌⊎◌, inl, inr, refl, sym, ap, subst, ◌∙◌, true≢false, map}
use Rattle.std.specs.Prelude.{◌&&◌, if◌then◌else◌, flat_map, is_some, slice_get}
use Rattle.std.proofs.lemmas.Bool.{cases_order}
use Rattle.annex_base.specs.Lists.{Member}
use Rattle.annex_base.proofs.Lists.{Member-append_left, Member-append_right, Member-append_cases}
use Rattle.run_data.specs.declared.entry.FrameView.{FrameView}
use Rattle.link_ring.specs.Ends.{EndView}
use Rattle.node_model.specs.AnyTime.{all_ends, ends_with}
use Rattle.node_model.specs.Ends.{End, EndName, server_end}
use Rattle.node_model.specs.Look.{Look, Effect, waiting_frame}
use Rattle.node_model.specs.Sessions as sessions
use Rattle.node_model.specs.SessionStep.{Here, gives_made, gives_next, here, session_at, session_makes}
use Rattle.node_model.specs.SetUp.{SetUp, others, served_connections, slots}
use Rattle.node_model.specs.State.{State}
use Rattle.node_ends.specs.Ends.{AreEnds, SeesEnds, end_at, link_at, room_at, wait_at}
use Rattle.p2p_server.specs.declared.session.Session.{Session}
use Rattle.p2p_server.specs.Giving.{is_giving}
use Rattle.p2p_server.specs.Talking.{session_of}
use Rattle.node_sessions.specs.declared.turn.Turn.{Turn}
use Rattle.node_sessions.specs.declared.turn.Turn.TheVariants.{Gives}
use Rattle.node_sessions.specs.Moments.{GivesAt}
use Rattle.node_sessions.specs.Sessions.{connection_of, end_of}
use Rattle.node_sessions.specs.Turns.{turn_at, turn_with}

-- ---- the ends of the served connections

slots_among : (peer : ℕ) (ss : List ℕ) (c : ℕ × ℕ) → Member c (map (λ slot. (peer, slot)) ss) → Member (server_end c.0 c.1) (map (λ slot. server_end peer slot) ss)
slots_among peer [] c among = absurd among
slots_among peer (s ∷ ss) c (inl is) = inl (ap (λ (x : ℕ × ℕ). server_end x.0 x.1) is)
slots_among peer (s ∷ ss) c (inr later) = inr (slots_among peer ss c later)

abbrev pairs_of : List ℕ → List (ℕ × ℕ)
pairs_of peers = flat_map (λ peer. map (λ slot. (peer, slot)) slots) peers

abbrev ends_of : List ℕ → List EndName
ends_of peers = flat_map (λ peer. ends_with peer true ++ ends_with peer false) peers

one_among : (peer : ℕ) (peers : List ℕ) (c : ℕ × ℕ) → (Member c (pairs_of peers) → Member (server_end c.0 c.1) (ends_of peers)) → Member c (map (λ slot. (peer, slot)) slots) ⊎ Member c (pairs_of peers)
    → Member (server_end c.0 c.1) ((ends_with peer true ++ ends_with peer false) ++ ends_of peers)
one_among peer peers c rest (inl mine) =
    Member-append_left (ends_with peer true ++ ends_with peer false) (ends_of peers) (server_end c.0 c.1)
    (Member-append_right (ends_with peer true) (ends_with peer false) (server_end c.0 c.1) (slots_among peer slots c mine))
one_among peer peers c rest (inr later) = Member-append_right (ends_with peer true ++ ends_with peer false) (ends_of peers) (server_end c.0 c.1) (rest later)

served_among : (peers : List ℕ) (c : ℕ × ℕ) → Member c (pairs_of peers) → Member (server_end c.0 c.1) (ends_of peers)
served_among [] c among = absurd among
served_among (peer ∷ peers) c among = one_among peer peers c (λ m. served_among peers c m) (Member-append_cases (map (λ slot. (peer, slot)) slots) (pairs_of peers) c among)

pub at_member : {X : Type 0} (f : X → ℕ × ℕ) (xs : List X) (i : ℕ) (x : X) → slice_get xs i ≡ Some x → Member (f x) (map f xs)
at_member f [] i x at = absurd cc
at_member f (y ∷ ys) zero x at =
    let e : x ≡ y = cc in inl (ap f e)
at_member f (y ∷ ys) (suc i) x at = inr (at_member f ys i x at)

pub end_among : (s : SetUp) (xs : List Session) (i : ℕ) (x : Session) → map connection_of xs ≡ served_connections s → slice_get xs i ≡ Some x → Member (end_of x) (all_ends s)
end_among s xs i x are at = served_among (others s) (connection_of x) (subst (λ (cs : List (ℕ × ℕ)). Member (connection_of x) cs) are (at_member connection_of xs i x at))

-- ---- the end of a session, at a look

-- the law of `frames_wait_at_ends`
abbrev pub FramesWait : Type 0
FramesWait = (links : List EndView) (s : SetUp) (st : State) (k : Look) (a : EndName) → AreEnds links s st → SeesEnds links s k → Member a (all_ends s) → waiting_frame (st.ends a) k a ≡ wait_at links a

abbrev makes_if : Bool → Option Effect → Option Effect
makes_if room m = if room then m else None

pub step_at : FramesWait → (links : List EndView) (s : SetUp) (st : State) (k : Look) (a : EndName) → AreEnds links s st → SeesEnds links s k → Member a (all_ends s) → is_some (link_at links a) ≡ true
    → session_at s st k a ≡ makes_if (room_at links a) (session_makes (here s st k a) (end_at links a) (st.sessions a) (wait_at links a))
step_at law links s st k a ends look among there =
    ap (λ (b : Bool). makes_if b (session_makes (here s st k a) (st.ends a) (st.sessions a) (waiting_frame (st.ends a) k a))) (look.room a there)
    ∙ ap (λ (o : Option FrameView). makes_if (room_at links a) (session_makes (here s st k a) (st.ends a) (st.sessions a) o)) (law links s st k a ends look among)
    ∙ ap (λ (c : End). makes_if (room_at links a) (session_makes (here s st k a) c (st.sessions a) (wait_at links a))) (ends.ends a among)

-- ---- a session without a turn

idle_gives : (h : Here) (a : EndName) (c : End) (d : sessions.Doing) → is_giving d ≡ false → gives_made a c (gives_next h d) ≡ None
idle_gives h a c sessions.Waits is = refl
idle_gives h a c (sessions.Guards hold key) is = refl
idle_gives h a c (sessions.Gives key at left good) is = absurd (true≢false is)
idle_gives h a c sessions.Gave is = refl
idle_gives h a c (sessions.Wants key size) is = refl
idle_gives h a c (sessions.Takes key size left) is = refl
idle_gives h a c (sessions.Took key size) is = refl

idle_makes : (h : Here) (c : End) (was : sessions.Session) (o : Option FrameView) → turn_with o (c.opened && is_giving was.doing) ≡ None → session_makes h c was o ≡ None
idle_makes h c was (Some f) none = absurd cc
idle_makes h c was None none = go c.opened (is_giving was.doing) refl none
  where
    go : (b g : Bool) → is_giving was.doing ≡ g → (if b && g then Some Gives else None) ≡ None → (if b then gives_made h.at c (gives_next h was.doing) else None) ≡ None
    go true true is e = absurd cc
    go true false is e = idle_gives h h.at c was.doing is
    go false g is e = refl

pub idle_at : (h : Here) (links : List EndView) (x : Session) → turn_at links x ≡ None → makes_if (room_at links (end_of x)) (session_makes h (end_at links (end_of x)) (session_of x) (wait_at links (end_of x))) ≡ None
idle_at h links x none = go (room_at links (end_of x)) none
  where
    go : (b : Bool) → (if b then turn_with (wait_at links (end_of x)) ((end_at links (end_of x)).opened && is_giving (session_of x).doing) else None) ≡ None
        → makes_if b (session_makes h (end_at links (end_of x)) (session_of x) (wait_at links (end_of x))) ≡ None
    go true e = idle_makes h (end_at links (end_of x)) (session_of x) (wait_at links (end_of x)) e
    go false e = refl

-- ---- a session with one

pub record HasTurn (links : List EndView) (x : Session) (turn : Turn) : Type 0 where
  pub room : room_at links (end_of x) ≡ true
  pub with : turn_with (wait_at links (end_of x)) ((end_at links (end_of x)).opened && is_giving (session_of x).doing) ≡ Some turn

pub has_turn : (links : List EndView) (x : Session) (turn : Turn) → turn_at links x ≡ Some turn → HasTurn links x turn
has_turn links x turn e = go (room_at links (end_of x)) refl e
  where
    go : (b : Bool) → room_at links (end_of x) ≡ b → (if b then turn_with (wait_at links (end_of x)) ((end_at links (end_of x)).opened && is_giving (session_of x).doing) else None) ≡ Some turn → HasTurn links x turn
    go true is e' = record { room = is; with = e' }
    go false is e' = absurd cc

busy_makes : (h : Here) (c : End) (was : sessions.Session) (o : Option FrameView) (turn : Turn) → turn_with o (c.opened && is_giving was.doing) ≡ Some turn → is_some (session_makes h c was o) ≡ true
busy_makes h c was (Some f) turn e = refl
busy_makes h c was None turn e = go c.opened was.doing e
  where
    go : (b : Bool) (d : sessions.Doing) → (if b && is_giving d then Some Gives else None) ≡ Some turn → is_some (if b then gives_made h.at c (gives_next h d) else None) ≡ true
    go true (sessions.Gives key at left good) e = refl
    go true sessions.Waits e = absurd cc
    go true (sessions.Guards hold key) e = absurd cc
    go true sessions.Gave e = absurd cc
    go true (sessions.Wants key size) e = absurd cc
    go true (sessions.Takes key size left) e = absurd cc
    go true (sessions.Took key size) e = absurd cc
    go false d e = absurd cc

pub busy_at : (h : Here) (links : List EndView) (x : Session) (turn : Turn) → turn_at links x ≡ Some turn
    → is_some (makes_if (room_at links (end_of x)) (session_makes h (end_at links (end_of x)) (session_of x) (wait_at links (end_of x)))) ≡ true
busy_at h links x turn e =
    let t = has_turn links x turn e in
    ap (λ (b : Bool). is_some (makes_if b (session_makes h (end_at links (end_of x)) (session_of x) (wait_at links (end_of x))))) t.room
    ∙ busy_makes h (end_at links (end_of x)) (session_of x) (wait_at links (end_of x)) turn t.with

gives_none : (o : Option FrameView) (a b : Bool) → turn_with o (a && b) ≡ Some Gives → (o ≡ None) × (a ≡ true) × (b ≡ true)
gives_none (Some f) a b e = absurd cc
gives_none None true true e = (refl, refl, refl)
gives_none None true false e = absurd cc
gives_none None false b e = absurd cc

pub gives_at : (links : List EndView) (x : Session) → turn_at links x ≡ Some Gives → GivesAt links x
gives_at links x e =
    let h = has_turn links x Gives e in
    let w = gives_none (wait_at links (end_of x)) (end_at links (end_of x)).opened (is_giving (session_of x).doing) h.with in
    record { room = h.room; none = w.0; opened = w.1; gives = w.2 }

-- ---- going over the sessions

abbrev pub IdleBelow : List EndView → List Session → ℕ → Type 0
IdleBelow links xs n = (i : ℕ) (x : Session) → i < n → slice_get xs i ≡ Some x → turn_at links x ≡ None

pub idle_more : (links : List EndView) (xs : List Session) (n : ℕ) (y : Session) → slice_get xs n ≡ Some y → turn_at links y ≡ None → IdleBelow links xs n → IdleBelow links xs (n + 1)
idle_more links xs n y at none before i x less atx = go (cases_order i n)
  where
    go : (i ≡ n) ⊎ ((i < n) ⊎ (n < i)) → turn_at links x ≡ None
    go (inl is) =
        let same : slice_get xs n ≡ Some x = ap (slice_get xs) (sym is) ∙ atx in
        let e : x ≡ y = cc in ap (turn_at links) e ∙ none
    go (inr (inl l)) = before i x l atx
    go (inr (inr l)) = absurd (omega arith)
