-- Old frames are dropped at an end, and old flights in the driver: they are the same.
use Rattle.std.proofs.Common.{◌≡◌, ◌≢◌, inl, inr, ℕ, Bool, true, false, not, ◌&&◌, ◌||◌, List, refl, sym, ap, ◌∙◌}
use Rattle.std.specs.Prelude.{◌==◌, filter, length, map, nat_lt}
use Rattle.std.specs.Option.{option_map}
use Rattle.std.proofs.lemmas.Bool.{and_parts, cases_Bool}
use Rattle.std.proofs.lemmas.Option.{slice_get-map}
use Rattle.annex_base.proofs.Conditions.{eqb_refl, not_not}
use Rattle.link_ring.specs.declared.frame.Frame.{Frame}
use Rattle.link_ring.specs.Frames.{is_closed}
use Rattle.link_ring.specs.Ends.{EndView, after_drop, is_taken}
use Rattle.link_ring.specs.Places.{end_place}
use Rattle.node_model.specs.Ends.{End, EndName, takes_at}
use Rattle.node_model.specs.State.{State}
use Rattle.node_ends.specs.Ends.{frame_at, link_at, stands}
use Rattle.driver_model.specs.Driver.{Driver, Flight, is_old, is_sent_by, old_at, without_old_flights}
use Rattle.driver_model.specs.Ways.{other_end}
use Rattle.link_flights.specs.Flights.{HasAtHand, IsEndIn, comes_to, flight_at}
use Rattle.link_flights.proofs.Lists.{filter_mapped, filter_swap, filter_within}
use Rattle.link_flights.proofs.Naming.{end_own, other_number, sent_comes}
use Rattle.std.proofs.lemmas.List.Elements.{filter_agree}

-- the test of the driver is that of the end
pub old_same : (v : EndView) (a : EndName) (f : Frame) → not (is_old (stands v) (frame_at a f)) ≡ is_taken v f
old_same v a f = ap (λ (b : Bool). not (nat_lt f.epoch v.epoch || ((f.epoch == v.epoch) && b))) (not_not (is_closed v.phase))

module _ (st : State) (r : ℕ) where
  abbrev pub stays : Flight → Bool
  stays x = not (old_at st r x)

  own_same : (a : EndName) (v : EndView) → st.ends a ≡ stands v → (f : Frame) → stays (flight_at r a f) ≡ is_taken v f
  own_same a v at f = rw (eqb_refl r)
      (ap (λ (b : EndName). not (is_old (st.ends b) (frame_at a f))) (end_own a f) ∙ ap (λ (c : End). not (is_old c (frame_at a f))) at ∙ old_same v a f)

  pub hand_dropped : (xs : List Flight) (a : EndName) (v : EndView) → st.ends a ≡ stands v → HasAtHand xs r a v → HasAtHand (filter stays xs) r a (after_drop v)
  hand_dropped xs a v at hand =
      sym (filter_mapped (flight_at r a) stays (is_taken v) (own_same a v at) v.at_hand) ∙ ap (filter stays) hand ∙ filter_swap stays (comes_to r a) xs

  -- what comes to another repository isn't dropped
  young : (q : ℕ) (b : EndName) → q ≢ r → (x : Flight) → comes_to q b x ≡ true → stays x ≡ true
  young q b apart x is = let other : (x.to == r) ≡ false = other_number x.to q r apart (and_parts (x.to == q) (takes_at b x.frame) is).0 in rw other refl

  pub others_stay : (xs : List Flight) (q : ℕ) (b : EndName) → q ≢ r → filter (comes_to q b) (filter stays xs) ≡ filter (comes_to q b) xs
  others_stay xs q b apart = filter_within (comes_to q b) stays (young q b apart) xs

-- what an end sent is what comes to the other one
pub sent_filter : (r : ℕ) (a : EndName) (xs : List Flight) → filter (is_sent_by r a) xs ≡ filter (comes_to a.peer (other_end r a)) xs
sent_filter r a xs = filter_agree (is_sent_by r a) (comes_to a.peer (other_end r a)) (sent_comes r a) xs

pub sent_stay : (st : State) (r : ℕ) (xs : List Flight) (q : ℕ) (b : EndName) → b.peer ≢ r → filter (is_sent_by q b) (filter (stays st r) xs) ≡ filter (is_sent_by q b) xs
sent_stay st r xs q b apart = sent_filter q b (filter (stays st r) xs) ∙ others_stay st r xs b.peer (other_end q b) apart ∙ sym (sent_filter q b xs)

pub hand_elsewhere : (st : State) (d : Driver) (r q : ℕ) (b : EndName) (w : EndView) → q ≢ r → HasAtHand d.flights q b w → HasAtHand (without_old_flights st r d).flights q b w
hand_elsewhere st d r q b w apart hand = hand ∙ sym (others_stay st r d.flights q b apart)

pub end_dropped : (d : Driver) (st : State) (r : ℕ) (a : EndName) (v : EndView) → a.peer ≢ r → st.ends a ≡ stands v → IsEndIn d.flights r a v
    → IsEndIn (without_old_flights st r d).flights r a (after_drop v)
end_dropped d st r a v apart at end = record {
  at_hand = hand_dropped st r d.flights a v at end.at_hand;
  on_way = end.on_way;
  used = end.used ∙ ap length (sym (sent_stay st r d.flights r a apart));
}

-- an end between two others
pub end_elsewhere : (d : Driver) (st : State) (r q : ℕ) (b : EndName) (w : EndView) → q ≢ r → b.peer ≢ r → IsEndIn d.flights q b w
    → IsEndIn (without_old_flights st r d).flights q b w
end_elsewhere d st r q b w apart beside end = record {
  at_hand = hand_elsewhere st d r q b w apart end.at_hand;
  on_way = end.on_way;
  used = end.used ∙ ap length (sym (sent_stay st r d.flights q b beside));
}

-- the end of a name
pub link_drop : (xs : List EndView) (a : EndName) → link_at (map after_drop xs) a ≡ option_map after_drop (link_at xs a)
link_drop xs a = elim (cases_Bool (nat_lt a.slot 4)) [
  | inl is ↦ rw is (slice_get-map after_drop xs (end_place a.peer a.slot a.client))
  | inr other ↦ rw other refl
]
