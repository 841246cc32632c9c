-- The two ends of a connection after frames were carried over it.
use Rattle.std.proofs.Common.{◌≡◌, ◌≢◌, ℕ, ◌+◌, false, List, [], ◌++◌, length, Option, None, refl, sym, ap, ◌∙◌, arith, length-append}
use Rattle.std.specs.Prelude.{filter, map}
use Rattle.std.proofs.lemmas.List.{append-nil, length-map, map-append}
use Rattle.annex_base.specs.Lists.{Each}
use Rattle.annex_base.specs.declared.kinds.EntryStamp.{EntryStamp}
use Rattle.annex_base.specs.declared.kinds.Word.{Word}
use Rattle.link_ring.specs.declared.frame.Frame.{Frame}
use Rattle.link_ring.specs.Ends.{EndView, after_carry, after_drop, is_taken}
use Rattle.run_data.specs.declared.entry.Entry.{Entry}
use Rattle.node_model.specs.Ends.{EndName, is_opening, sent_at, taken_at}
use Rattle.node_model.specs.State.{State}
use Rattle.node_ends.specs.declared.sending.Sending.{Sending}
use Rattle.node_ends.specs.Ends.{stands}
use Rattle.driver_model.specs.Driver.{Driver, Flight, adds, flight, without_old_flights}
use Rattle.link_flights.specs.Entries.{PostsAt, link_after}
use Rattle.driver_model.specs.Ways.{other_end}
use Rattle.link_flights.specs.Flights.{HasAtHand, IsEndIn, comes_to, flight_at}
use Rattle.link_flights.proofs.Naming.{other_twice}
use Rattle.link_flights.proofs.Dropped.{hand_dropped, hand_elsewhere, sent_filter}
use Rattle.link_flights.proofs.Flown.{come_elsewhere, come_there, hand_now_still, hand_now_young, way_now}
use Rattle.annex_base.proofs.Lists.{Each-passes}

none_more : (n : ℕ) → n + 0 ≡ n
none_more n = omega arith

-- an end of r, and the other one, with the frames that go to it
pub record AreBothIn (xs : List Flight) (r : ℕ) (a : EndName) (v w : EndView) : Type 0 where
  pub own : IsEndIn xs r a (after_carry v w)
  pub other : IsEndIn xs a.peer (other_end r a) (after_carry w v)

-- what is at hand at either, or on its way to the other, are the flights
pub both_in : (xs : List Flight) (r : ℕ) (a : EndName) (v w : EndView) → HasAtHand xs r a v → w.on_way ≡ []
    → map (flight_at a.peer (other_end r a)) (w.at_hand ++ v.on_way) ≡ filter (comes_to a.peer (other_end r a)) xs → AreBothIn xs r a v w
both_in xs r a v w own none other = record {
  own = record {
    at_hand = ap (map (flight_at r a)) (ap (λ (fs : List Frame). v.at_hand ++ fs) none ∙ append-nil v.at_hand) ∙ own;
    on_way = refl;
    used = sym (length-append w.at_hand v.on_way) ∙ sym (length-map (w.at_hand ++ v.on_way) (flight_at a.peer (other_end r a))) ∙ ap length (other ∙ sym (sent_filter r a xs));
  };
  other = record {
    at_hand = other;
    on_way = refl;
    used = ap (λ (fs : List Frame). length v.at_hand + length fs) none ∙ none_more (length v.at_hand) ∙ sym (length-map v.at_hand (flight_at r a))
        ∙ ap length (own ∙ sym (sent_filter a.peer (other_end r a) xs ∙ ap (λ (b : EndName). filter (comes_to r b) xs) (other_twice a.peer a refl r)));
  };
}

-- an end to which all was carried stays as it is
pub stays_carried : (xs : List Flight) (r : ℕ) (a : EndName) (v w : EndView) → IsEndIn xs r a v → IsEndIn xs a.peer (other_end r a) w → after_carry v w ≡ v
stays_carried xs r a v w own other = λ i. record v { at_hand = hand i; on_way = sym own.on_way i; used = used i }
  where
    hand : v.at_hand ++ w.on_way ≡ v.at_hand
    hand = ap (λ (fs : List Frame). v.at_hand ++ fs) other.on_way ∙ append-nil v.at_hand

    used : length w.at_hand + length v.on_way ≡ v.used
    used = ap (λ (fs : List Frame). length w.at_hand + length fs) own.on_way ∙ none_more (length w.at_hand) ∙ sym (length-map w.at_hand (flight_at a.peer (other_end r a)))
        ∙ ap length (other.at_hand ∙ sym (sent_filter r a xs)) ∙ sym own.used

-- ---- over a connection of r

-- nothing was taken and sent
pub both_idle : (xs : List Flight) (r : ℕ) (a : EndName) (v w : EndView) → HasAtHand xs r a v → v.on_way ≡ [] → HasAtHand xs a.peer (other_end r a) w → w.on_way ≡ [] → AreBothIn xs r a v w
both_idle xs r a v w own way other none =
    both_in xs r a v w own none (ap (map (flight_at a.peer (other_end r a))) (ap (λ (fs : List Frame). w.at_hand ++ fs) way ∙ append-nil w.at_hand) ∙ other)

module _ (d : Driver) (st : State) (r : ℕ) (a : EndName) (v w : EndView) (e : Entry) (said : List Sending) (sender : EntryStamp) (word : Sending → Option Word)
    (posts : PostsAt d st r a v e.taken e.sent said) (apart : a.peer ≢ r) (way : v.on_way ≡ []) (other : HasAtHand d.flights a.peer (other_end r a) w) (none : w.on_way ≡ []) where
  abbrev after : EndView
  after = link_after sender word a e.taken said v

  abbrev over : Frame → Flight
  over = flight_at a.peer (other_end r a)

  way_flies : map over after.on_way ≡ map (flight d st r) (sent_at a e.sent)
  way_flies = way_now d st r a v e.taken e.sent said sender word posts ∙ ap (λ (fs : List Frame). map over fs ++ map (flight d st r) (sent_at a e.sent)) way

  there : map over (w.at_hand ++ after.on_way) ≡ filter (comes_to a.peer (other_end r a)) (adds st r e d).flights
  there =
      map-append over w.at_hand after.on_way ∙ ap (λ (xs : List Flight). xs ++ map over after.on_way) other
      ∙ ap (λ (xs : List Flight). filter (comes_to a.peer (other_end r a)) d.flights ++ xs) way_flies
      ∙ sym (come_there d st r e.taken e.sent a apart)

  pub both_posted : HasAtHand (adds st r e d).flights r a after → AreBothIn (adds st r e d).flights r a after w
  both_posted own = both_in (adds st r e d).flights r a after w own none there

-- a turn: old frames are dropped first
pub both_turned : (d : Driver) (st : State) (r : ℕ) (a : EndName) (v w : EndView) (e : Entry) (said : List Sending) (sender : EntryStamp) (word : Sending → Option Word)
    → a.peer ≢ r → st.ends a ≡ stands v → IsEndIn d.flights r a v → IsEndIn d.flights a.peer (other_end r a) w
    → PostsAt (without_old_flights st r d) st r a (after_drop v) e.taken e.sent said
    → AreBothIn (adds st r e (without_old_flights st r d)).flights r a (link_after sender word a e.taken said (after_drop v)) w
both_turned d st r a v w e said sender word apart at own other posts =
    both_posted (without_old_flights st r d) st r a (after_drop v) w e said sender word posts apart own.on_way
    (hand_elsewhere st d r a.peer (other_end r a) w apart other.at_hand) other.on_way
    (hand_now_young (without_old_flights st r d) st r a (after_drop v) e.taken e.sent said sender word posts (Each-passes (is_taken v) v.at_hand) (hand_dropped st r d.flights a v at own.at_hand) apart)

-- a turn without an entry
pub both_dropped : (d : Driver) (st : State) (r : ℕ) (a : EndName) (v w : EndView) → a.peer ≢ r → st.ends a ≡ stands v → IsEndIn d.flights r a v → IsEndIn d.flights a.peer (other_end r a) w
    → AreBothIn (without_old_flights st r d).flights r a (after_drop v) w
both_dropped d st r a v w apart at own other =
    both_idle (without_old_flights st r d).flights r a (after_drop v) w (hand_dropped st r d.flights a v at own.at_hand) own.on_way (hand_elsewhere st d r a.peer (other_end r a) w apart other.at_hand) other.on_way

-- an entry that takes and opens nothing, with no drop before it
pub both_closed : (d : Driver) (st : State) (r : ℕ) (a : EndName) (v w : EndView) (e : Entry) (said : List Sending) (sender : EntryStamp) (word : Sending → Option Word)
    → a.peer ≢ r → IsEndIn d.flights r a v → IsEndIn d.flights a.peer (other_end r a) w
    → PostsAt d st r a v e.taken e.sent said → taken_at a e.taken ≡ None → Each (λ b. is_opening b ≡ false) (map (λ f. f.body) (sent_at a e.sent))
    → AreBothIn (adds st r e d).flights r a (link_after sender word a e.taken said v) w
both_closed d st r a v w e said sender word apart own other posts none opens =
    both_posted d st r a v w e said sender word posts apart own.on_way other.at_hand other.on_way
    (hand_now_still d st r a v e.taken e.sent said sender word posts none opens own.at_hand apart)

-- ---- over a connection between two others

pub end_beside : (d : Driver) (st : State) (r q : ℕ) (b : EndName) (w : EndView) (e : Entry) → q ≢ r → b.peer ≢ r → IsEndIn d.flights q b w → IsEndIn (adds st r e d).flights q b w
end_beside d st r q b w e apart beside end = record {
  at_hand = end.at_hand ∙ sym (come_elsewhere d st r e.taken e.sent q b apart beside);
  on_way = end.on_way;
  used = end.used ∙ ap length (sent_filter q b d.flights ∙ sym (come_elsewhere d st r e.taken e.sent b.peer (other_end q b) beside apart) ∙ sym (sent_filter q b (adds st r e d).flights));
}
