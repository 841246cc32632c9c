-- Whether there is a session with a client and slot.
use Rattle.std.proofs.Common.{◌≡◌, inl, inr, ℕ, Bool, true, false, List, [], ◌∷◌, map, refl, sym, ap, subst, ◌∙◌}
use Rattle.std.specs.Prelude.{◌==◌, ◌||◌}
use Rattle.std.specs.List.{list_any}
use Rattle.std.proofs.Math.Bool.{or-true}
use Rattle.std.proofs.lemmas.Bool.{and_parts, eqb-true, true≢false}
use Rattle.annex_base.specs.Lists.{Member}
use Rattle.annex_base.proofs.Conditions.{eqb_refl}
use Rattle.annex_base.proofs.Lists.{Member-map, list_any_found}
use Rattle.p2p_server.specs.declared.session.Session.{Session}
use Rattle.p2p_server.specs.Talking.{place_of}
use Rattle.node_sessions.specs.Sessions.{connection_of, is_of}

connection_is : (peer slot : ℕ) (x : Session) → is_of peer slot x ≡ true → connection_of x ≡ (peer, slot)
connection_is peer slot x is =
    let both = and_parts ((place_of x).peer == peer) ((place_of x).slot == slot) is in
    ap (λ (n : ℕ). (n, (place_of x).slot)) (eqb-true (place_of x).peer peer both.0) ∙ ap (λ (n : ℕ). (peer, n)) (eqb-true (place_of x).slot slot both.1)

is_of_own : (peer slot : ℕ) (x : Session) → (peer, slot) ≡ connection_of x → is_of peer slot x ≡ true
is_of_own peer slot x same = subst (λ (c : ℕ × ℕ). is_of c.0 c.1 x ≡ true) (sym same) (rw (eqb_refl (place_of x).peer, eqb_refl (place_of x).slot) refl)

pub found_among : (peer slot : ℕ) (xs : List Session) → list_any (is_of peer slot) xs ≡ true → Member (peer, slot) (map connection_of xs)
found_among peer slot xs any =
    let f = list_any_found (is_of peer slot) xs any in
    subst (λ (c : ℕ × ℕ). Member c (map connection_of xs)) (connection_is peer slot f.0 f.2) (Member-map connection_of xs f.0 f.1)

among_found : (peer slot : ℕ) (xs : List Session) → Member (peer, slot) (map connection_of xs) → list_any (is_of peer slot) xs ≡ true
among_found peer slot [] among = absurd among
among_found peer slot (x ∷ xs) (inl same) = ap (λ (b : Bool). b || list_any (is_of peer slot) xs) (is_of_own peer slot x same)
among_found peer slot (x ∷ xs) (inr later) = ap (λ (b : Bool). is_of peer slot x || b) (among_found peer slot xs later) ∙ or-true (is_of peer slot x)

pub none_among : (peer slot : ℕ) (xs : List Session) → list_any (is_of peer slot) xs ≡ false → Member (peer, slot) (map connection_of xs) → ⊥
none_among peer slot xs none among = true≢false (sym (among_found peer slot xs among) ∙ none)
