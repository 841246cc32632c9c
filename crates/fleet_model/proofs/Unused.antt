-- The ends that repositories have at themselves stay unused.
use Rattle.std.proofs.Common.{◌≡◌, ◌≢◌, ℕ, ◌<◌, Bool, true, false, List, [], ◌∷◌, Option, Some, None, length, map, refl, sym, ap, ◌∙◌, subst, arith}
use Rattle.std.specs.Prelude.{◌==◌, ◌&&◌, cond, fold, if◌then◌else◌, is_some, nat_lt, slice_get}
use Rattle.std.specs.Option.{option_map}
use Rattle.std.proofs.lemmas.Bool.Decides.{nat_tests}
use Rattle.std.proofs.lemmas.Option.{same_Some, slice_get_within}
use Rattle.std.proofs.lemmas.Bool.{eqb-false, eqb-true}
use Rattle.annex_base.specs.Lists.{Each}
use Rattle.annex_base.specs.declared.kinds.EntryStamp.{EntryStamp}
use Rattle.annex_base.specs.Bools.{same_bool}
use Rattle.link_ring.specs.Ends.{EndView, after_drop, after_take, fresh}
use Rattle.run_data.specs.declared.entry.EntryKind.{EntryKind}
use Rattle.run_data.specs.declared.entry.FrameView.{FrameView}
use Rattle.node_model.specs.Ends.{EndName, sends_at, sent_at, taken_at, takes_at}
use Rattle.node_ends.specs.declared.sending.Sending.{Sending}
use Rattle.node_ends.specs.Ends.{link_at}
use Rattle.node_ends.specs.Sent.{link_sends, text_of_sending}
use Rattle.joined_nodes.specs.Posting.{Posts, word_with}
use Rattle.joined_nodes.specs.Nodes.{NodeView}
use Rattle.fleet_model.specs.Fleets.{AreUnused, FleetView, links_at}
use Rattle.fleet_model.specs.Steps.{OneTurns}
use Rattle.fleet_model.proofs.BytesTaken.{link_dropped}
use Rattle.fleet_model.proofs.Coming.{ends_in}

-- ---- what goes to others and comes from others passes an end of its own

unlike_peer : (p q r : ℕ) → q ≡ r → p ≢ r → (p == q) ≡ false
unlike_peer p q r is apart = grind (arith, nat_tests)

none_sent : (a : EndName) (r : ℕ) (fs : List FrameView) → a.peer ≡ r → Each (λ f. f.peer ≢ r) fs → sent_at a fs ≡ []
none_sent a r [] own others = refl
none_sent a r (f ∷ fs) own others = ap (λ (b : Bool). cond b (f ∷ sent_at a fs) (sent_at a fs)) passes ∙ none_sent a r fs own others.1
  where
    passes : sends_at a f ≡ false
    passes = ap (λ (b : Bool). b && (f.slot == a.slot) && same_bool f.up a.client) (unlike_peer f.peer a.peer r own others.0)

none_taken : (a : EndName) (r : ℕ) (taken : Option FrameView) → a.peer ≡ r → ((f : FrameView) → taken ≡ Some f → f.peer ≢ r) → taken_at a taken ≡ None
none_taken a r None own others = refl
none_taken a r (Some f) own others = ap (λ (b : Bool). if b then Some f else None) passes
  where
    passes : takes_at a f ≡ false
    passes = ap (λ (b : Bool). b && (f.slot == a.slot) && same_bool a.client (if f.up then false else true)) (unlike_peer f.peer a.peer r own (others f refl))

none_said : (said : List Sending) → map text_of_sending said ≡ [] → said ≡ []
none_said [] none = refl
none_said (x ∷ said) none = absurd (cc)

-- ---- an end of its own after a step

dropped_fresh : (o : Option EndView) (v : EndView) → ((w : EndView) → o ≡ Some w → w ≡ fresh) → option_map after_drop o ≡ Some v → v ≡ fresh
dropped_fresh None v unused at = absurd (cc)
dropped_fresh (Some w) v unused at = sym (same_Some (after_drop w) v at) ∙ ap after_drop (unused w refl)

same_fresh : (o : Option EndView) (v : EndView) → ((w : EndView) → o ≡ Some w → w ≡ fresh) → option_map (λ (w : EndView). w) o ≡ Some v → v ≡ fresh
same_fresh None v unused at = absurd (cc)
same_fresh (Some w) v unused at = sym (same_Some w v at) ∙ unused w refl

-- the links of r before its turn
abbrev Unused : ℕ → List EndView → Type 0
Unused r links = (a : EndName) (v : EndView) → a.peer ≡ r → link_at links a ≡ Some v → v ≡ fresh

pub dropped_unused : (r : ℕ) (links : List EndView) → Unused r links → Unused r (map after_drop links)
dropped_unused r links unused a v own at = dropped_fresh (link_at links a) v (λ w is. unused a w own is) (sym (link_dropped links a) ∙ at)

pub posted_unused : (r : ℕ) (was now : List EndView) (sender : EntryStamp) (kind : EntryKind) (taken : Option FrameView) (sent : List FrameView)
    → Posts sender kind was now taken sent → Each (λ f. f.peer ≢ r) sent → ((f : FrameView) → taken ≡ Some f → f.peer ≢ r) → Unused r was → Unused r now
posted_unused r was now sender kind taken sent p away from unused a v own at =
    same_fresh (link_at was a) v (λ w is. unused a w own is) (sym after ∙ at)
  where
    nothing : p.said a ≡ []
    nothing = none_said (p.said a) (p.listed a ∙ ap (λ (fs : List FrameView). map (λ f. f.body) fs) (none_sent a r sent own away))

    unmoved : taken_at a taken ≡ None
    unmoved = none_taken a r taken own from

    after : link_at now a ≡ option_map (λ (w : EndView). w) (link_at was a)
    after = p.links a ∙ (λ i. option_map (λ (v : EndView). fold (λ w x. link_sends sender (word_with a taken kind x) x w) (if is_some (unmoved i) then after_take v else v) (nothing i)) (link_at was a))

-- ---- the fleet

pub turn_unused : {K : Type 0} (r : ℕ) (n m : NodeView K) (was after : FleetView K) → OneTurns r n m was after → AreUnused (links_at was.nodes) → Unused r m.parts.links → AreUnused (links_at after.nodes)
turn_unused {K} r n m was after step before mine q a v own at = go (q == r) refl
  where
    within : (o : Option (NodeView K)) → slice_get after.nodes q ≡ o → link_at (ends_in o) a ≡ Some v → q < length after.nodes
    within None e at = absurd (nowhere (nat_lt a.slot 4) at)
      where
        nowhere : (b : Bool) → (if b then None else None) ≡ Some v → ⊥
        nowhere true at = cc
        nowhere false at = cc
    within (Some x) e at = slice_get_within after.nodes q x e

    go : (b : Bool) → (q == r) ≡ b → v ≡ fresh
    go true e =
        let here : q ≡ r = eqb-true q r e in
        mine a v (own ∙ here) (sym (step.own a (own ∙ here)) ∙ (ap (λ (p : ℕ). link_at (links_at after.nodes p) a) (sym here) ∙ at))
    go false e =
        let apart : q ≢ r = eqb-false q r e in
        before q a v own
        (sym (step.carried.others q a (subst (λ (c : ℕ). q < c) step.count (within (slice_get after.nodes q) refl at)) apart (λ (is : a.peer ≡ r). apart (sym own ∙ is))) ∙ at)
