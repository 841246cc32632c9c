-- The names of ends, and what stays paired.
use Rattle.std.proofs.Common.{◌≡◌, ◌≢◌, ◌⊎◌, inl, inr, Bool, true, ◌&&◌, List, Option, Some, None, is_some, refl, sym, ap, ◌∙◌}
use Rattle.std.specs.Prelude.{◌==◌}
use Rattle.std.proofs.lemmas.Bool.{and_parts, cases_Bool, eqb-true, true≢false}
use Rattle.annex_base.proofs.Conditions.{eqb_refl, same_bool_is, same_bool_refl}
use Rattle.annex_base.specs.Bools.{same_bool}
use Rattle.link_ring.specs.Ends.{EndView}
use Rattle.node_model.specs.Ends.{EndName}
use Rattle.node_ends.specs.Ends.{link_at}
use Rattle.node_ends.specs.Joined.{StayPaired, StaysSo}

-- ---- two names

abbrev name_test : EndName → EndName → Bool
name_test p q = (p.peer == q.peer) && ((p.slot == q.slot) && same_bool p.client q.client)

name_own : (p : EndName) → name_test p p ≡ true
name_own p = let own : same_bool p.client p.client ≡ true = same_bool_refl p.client in rw (eqb_refl p.peer, eqb_refl p.slot, own) refl

pub same_or_other : (p q : EndName) → (p ≡ q) ⊎ (p ≢ q)
same_or_other p q = elim (cases_Bool (name_test p q)) [
  | inl is ↦
      let first = and_parts (p.peer == q.peer) ((p.slot == q.slot) && same_bool p.client q.client) is in
      let next = and_parts (p.slot == q.slot) (same_bool p.client q.client) first.1 in
      let peer = eqb-true p.peer q.peer first.0 in
      let slot = eqb-true p.slot q.slot next.0 in
      let client = same_bool_is p.client q.client next.1 in
      inl (λ i. record { peer = peer i; slot = slot i; client = client i })
  | inr other ↦ inr (λ same. true≢false (sym (name_own p) ∙ (ap (name_test p) same ∙ other)))
]

-- ---- what is paired

pub stays_same : (o : Option EndView) → StaysSo o o
stays_same None = tt
stays_same (Some v) = λ other pair. pair

stays_so_on : (a b c : Option EndView) → StaysSo a b → StaysSo b c → StaysSo a c
stays_so_on None None c p q = q
stays_so_on None (Some y) c p q = absurd p
stays_so_on (Some x) None c p q = absurd p
stays_so_on (Some x) (Some y) None p q = q
stays_so_on (Some x) (Some y) (Some z) p q = λ other pair. q other (p other pair)

pub stay_same : (links : List EndView) → StayPaired links links
stay_same links a = stays_same (link_at links a)

pub stay_on : (was mid now : List EndView) → StayPaired was mid → StayPaired mid now → StayPaired was now
stay_on was mid now p q a = stays_so_on (link_at was a) (link_at mid a) (link_at now a) (p a) (q a)

pub stays_there : (a b : Option EndView) → StaysSo a b → is_some a ≡ true → is_some b ≡ true
stays_there None b p is = absurd (true≢false (sym is))
stays_there (Some x) None p is = absurd p
stays_there (Some x) (Some y) p is = refl
