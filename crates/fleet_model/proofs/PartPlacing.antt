-- A part that the script gives a repository, in its node and in the driver.
use Rattle.std.proofs.Common.{◌≡◌, inl, inr, ℕ, Bool, true, false, List, [], ◌∷◌, Some, None, refl, ap, ◌∙◌, subst}
use Rattle.std.specs.Prelude.{find, if◌then◌else◌}
use Rattle.std.specs.Option.{option_map}
use Rattle.std.proofs.lemmas.Iterator.Adapters.{option_map_id}
use Rattle.annex_base.specs.declared.kinds.Call.{Call}
use Rattle.annex_base.specs.declared.kinds.Call.TheVariants as calls
use Rattle.object_store.specs.Stores.{with_at}
use Rattle.driver_model.specs.Driver.{Driver, DriverInput, drops_part, fails_at, puts_part}
use Rattle.driver_model.specs.ScriptSteps.{faults, is_busy, sets_part}
use Rattle.content_lock.specs.CallsMade.{MakesCalls}
use Rattle.joined_nodes.specs.Calls.{IsDoneBy, StopsAt, to_place_part}
use Rattle.joined_nodes.specs.Nodes.{NodeView}
use Rattle.joined_nodes.specs.Placing.{IsTaken}
use Rattle.joined_nodes.specs.Walks.{over}
use Rattle.node_past.specs.declared.refused.NodeRefused.TheVariants as refusals
use Rattle.joined_nodes.specs.Stored.{StoreView}
use Rattle.fleet_model.proofs.Failing.{first_of_calls}
use Rattle.fleet_model.proofs.Placing.{Stopped, calm_left, fault_noted, none_first, none_left, part_replaced, some_first}
use Rattle.fleet_model.proofs.StoreSteps.{part_dropped}
use Rattle.fleet_model.proofs.Noting.{IsRaised, over_store}

pub part_well : {K : Type 0} (tells : K → StoreView) (g : DriverInput) (d : Driver) (r : ℕ) (n m : NodeView K) (key bytes : List ℕ) → IsRaised tells g d r n
    → ((taken : Bool) → IsTaken taken (tells n.keeper).contents n.parts.table key → taken ≡ is_busy g d r key)
    → m ≡ over m.keeper n → (tells m.keeper).contents ≡ (tells n.keeper).contents
    → IsDoneBy to_place_part key bytes n.parts.table (tells n.keeper).contents (tells n.keeper).parts (tells m.keeper).parts (tells n.keeper).failing (tells m.keeper).failing
    → IsRaised tells g (sets_part g r key bytes d) r m
part_well {K} tells g d r n m key bytes raised busy node contents done = go (is_busy g d r key) refl
  where
    v : StoreView
    v = tells n.keeper

    w : StoreView
    w = tells m.keeper

    calm : (b : Bool) → is_busy g d r key ≡ b → None ≡ find (fails_at d r) (to_place_part b)
    calm b e = first_of_calls d r (to_place_part b) v None w.failing raised.store (subst (λ (t : Bool). MakesCalls (to_place_part t) None v.failing w.failing) (busy done.taken done.told ∙ e) done.calls)

    left : w.failing ≡ v.failing
    left = calm_left v.failing w.failing (to_place_part done.taken) done.calls

    parts_are : (b : Bool) → is_busy g d r key ≡ b → w.parts ≡ (if b then v.parts else option_map (λ p. with_at p key bytes) v.parts)
    parts_are b e = done.parts ∙ ap (λ (t : Bool). if t then v.parts else option_map (λ p. with_at p key bytes) v.parts) (busy done.taken done.told ∙ e)

    go : (b : Bool) → is_busy g d r key ≡ b → IsRaised tells g (sets_part g r key bytes d) r m
    go true e =
        let has_well = (none_first (fails_at d r) calls.Has [] (calm true e)).0 in
        rw has_well (rw e (rw node
        (over_store tells g d d r n m.keeper raised
        (record { contents = rw contents raised.store.contents; parts = rw (parts_are true e) raised.store.parts; failing = rw left raised.store.failing }) refl)))
    go false e =
        let c1 = none_first (fails_at d r) calls.Has (calls.DropPart ∷ calls.Append ∷ []) (calm false e) in
        let c2 = none_first (fails_at d r) calls.DropPart (calls.Append ∷ []) c1.1 in
        let c3 = none_first (fails_at d r) calls.Append [] c2.1 in
        rw c1.0 (rw e (rw c2.0 (rw c3.0 (rw node
        (over_store tells g d (puts_part r key bytes (drops_part r key d)) r n m.keeper raised
        (part_replaced d r key bytes v w raised.store contents (parts_are false e) left) refl)))))

pub part_stopped : {K : Type 0} (tells : K → StoreView) (g : DriverInput) (d : Driver) (r : ℕ) (n m : NodeView K) (key bytes : List ℕ) → IsRaised tells g d r n
    → ((taken : Bool) → IsTaken taken (tells n.keeper).contents n.parts.table key → taken ≡ is_busy g d r key)
    → StopsAt to_place_part key bytes (tells n.keeper).contents (tells m.keeper).contents (tells n.keeper).parts (tells m.keeper).parts (tells n.keeper).failing (tells m.keeper).failing refusals.StoreFault n m
    → IsRaised tells g (sets_part g r key bytes d) r m
part_stopped {K} tells g d r n m key bytes raised busy stops = go (is_busy g d r key) refl
  where
    v : StoreView
    v = tells n.keeper

    w : StoreView
    w = tells m.keeper

    p : Call → Bool
    p = fails_at d r

    which : (b : Bool) → is_busy g d r key ≡ b → Some stops.call ≡ find p (to_place_part b)
    which b e = first_of_calls d r (to_place_part b) v (Some stops.call) w.failing raised.store (subst (λ (t : Bool). MakesCalls (to_place_part t) (Some stops.call) v.failing w.failing) (busy stops.taken stops.told ∙ e) stops.calls)

    at : (c : Call) → stops.call ≡ c → Stopped key bytes v w n m c
    at c e = subst (λ (c : Call). Stopped key bytes v w n m c) e (record { node = stops.refused; contents = stops.contents; parts = stops.parts; left = stops.calls.left })

    at_first : Stopped key bytes v w n m calls.Has → IsRaised tells g (faults r calls.Has d) r m
    at_first s = fault_noted tells g d d r n m calls.Has w v.failing raised refl s.node refl s.left
        (record { contents = rw s.contents raised.store.contents; parts = rw (s.parts ∙ option_map_id v.parts) raised.store.parts; failing = raised.store.failing })

    at_drop : Stopped key bytes v w n m calls.DropPart → IsRaised tells g (faults r calls.DropPart d) r m
    at_drop s = fault_noted tells g d d r n m calls.DropPart w v.failing raised refl s.node refl s.left
        (record { contents = rw s.contents raised.store.contents; parts = rw (s.parts ∙ option_map_id v.parts) raised.store.parts; failing = raised.store.failing })

    at_append : Stopped key bytes v w n m calls.Append → IsRaised tells g (faults r calls.Append (drops_part r key d)) r m
    at_append s = fault_noted tells g d (drops_part r key d) r n m calls.Append w v.failing raised refl s.node refl s.left
        (part_dropped d r key v (record w { failing = v.failing }) raised.store s.contents s.parts refl)

    go : (b : Bool) → is_busy g d r key ≡ b → IsRaised tells g (sets_part g r key bytes d) r m
    go true e = elim (some_first p calls.Has [] stops.call (which true e)) [
      | inl h ↦ rw h.0 (at_first (at calls.Has h.1))
      | inr h ↦ absurd (none_left p stops.call h.1)
    ]
    go false e = elim (some_first p calls.Has (calls.DropPart ∷ calls.Append ∷ []) stops.call (which false e)) [
      | inl h ↦ rw h.0 (at_first (at calls.Has h.1))
      | inr h ↦ elim (some_first p calls.DropPart (calls.Append ∷ []) stops.call h.1) [
        | inl i ↦ rw h.0 (rw e (rw i.0 (at_drop (at calls.DropPart i.1))))
        | inr i ↦ elim (some_first p calls.Append [] stops.call i.1) [
          | inl j ↦ rw h.0 (rw e (rw i.0 (rw j.0 (at_append (at calls.Append j.1)))))
          | inr j ↦ absurd (none_left p stops.call j.1)
        ]
      ]
    ]
