-- A look finds at the ends what a plain look finds of the flights.
use Rattle.std.proofs.Common.{◌≡◌, ◌≢◌, ◌<◌, ◌≤◌, ◌+◌, ◌-◌, ◌*◌, ◌^◌, inl, inr, ℕ, Bool, true, false, ◌&&◌, List, [], ◌∷◌, length, Option, Some, None, is_some, refl, sym, ap, ◌∙◌, subst, arith}
use Rattle.std.specs.Prelude.{◌==◌, filter, find, flat_map, map, nat_le, nat_lt}
use Rattle.std.specs.Option.{option_and_then, option_map, option_to_list}
use Rattle.std.proofs.lemmas.Bool.{cases_Bool}
use Rattle.std.proofs.lemmas.Bool.Decides.{nat_tests}
use Rattle.annex_base.specs.Lists.{Member}
use Rattle.annex_base.proofs.Lists.{find-filter}
use Rattle.link_ring.specs.declared.frame.Frame.{Frame}
use Rattle.link_ring.specs.Ends.{EndView, after_drop, free, is_taken, next_frame}
use Rattle.run_data.specs.declared.entry.FrameView.{FrameView}
use Rattle.node_model.specs.AnyTime.{all_ends}
use Rattle.node_model.specs.Ends.{End, EndName, takes_at}
use Rattle.node_model.specs.SetUp.{SetUp}
use Rattle.node_model.specs.State.{State}
use Rattle.node_ends.specs.Ends.{AreEnds, IsEndOf, end_in, frame_at, hand_at, has_room, link_at, passes, room_at, stands}
use Rattle.driver_model.specs.Driver.{Driver, Flight, frames_to, has_room as has_places, is_sent_by, without_old_flights}
use Rattle.driver_model.specs.Turning.{at_hand}
use Rattle.link_flights.specs.Fleets.{AreEndsIn, AreOwnEndsIn}
use Rattle.link_flights.specs.Flights.{IsEndIn, comes_to, flight_at}
use Rattle.link_flights.proofs.Lists.{find_first, first, flat_map_like, some_of}
use Rattle.link_flights.proofs.Dropped.{hand_dropped, link_drop, sent_stay}

-- the first frame to r at one of its ends
first_to : (r : ℕ) (a : EndName) (xs : List Flight) → find (takes_at a) (frames_to r xs) ≡ option_map (λ (x : Flight). x.frame) (first (filter (comes_to r a) xs))
first_to r a [] = refl
first_to r a (x ∷ xs) = elim (cases_Bool (x.to == r)) [
  | inl i ↦ elim (cases_Bool (takes_at a x.frame)) [ inl j ↦ rw (i, j) refl | inr j ↦ rw (i, j) (first_to r a xs) ]
  | inr i ↦ rw i (first_to r a xs)
]

first_frame : (r : ℕ) (a : EndName) (fs : List Frame) → option_map (λ (x : Flight). x.frame) (first (map (flight_at r a) fs)) ≡ option_map (frame_at a) (first fs)
first_frame r a [] = refl
first_frame r a (f ∷ fs) = refl

module _ (st : State) (d : Driver) (r : ℕ) where
  abbrev young : List Flight
  young = (without_old_flights st r d).flights

  end_looks : (a : EndName) (v : EndView) → st.ends a ≡ stands v → IsEndIn d.flights r a v
      → option_map (frame_at a) (next_frame v) ≡ find (takes_at a) (frames_to r young)
  end_looks a v at end =
      ap (option_map (frame_at a)) (find_first (is_taken v) v.at_hand)
      ∙ sym (first_frame r a (filter (is_taken v) v.at_hand))
      ∙ ap (λ (xs : List Flight). option_map (λ (x : Flight). x.frame) (first xs)) (hand_dropped st r d.flights a v at end.at_hand)
      ∙ sym (first_to r a young)

-- the ends are there, as node_ends has it
abbrev pub Numbers : Type 0
Numbers = (s : SetUp) (a : EndName) → Member a (all_ends s) → IsEndOf s a

abbrev pub There : Type 0
There = (links : List EndView) (count : ℕ) (a : EndName) → length links ≡ count * 8 → a.peer < count → a.slot < 4 → is_some (link_at links a) ≡ true

module _ (numbers : Numbers) (there : There) (links : List EndView) (s : SetUp) (st : State) (d : Driver) (are : AreEnds links s st)
    (ends : AreOwnEndsIn d.flights s links) where
  abbrev r : ℕ
  r = s.number

  each_looks : (a : EndName) → Member a (all_ends s) → hand_at links a ≡ find (takes_at a) (frames_to r (young st d r))
  each_looks a member =
      let named = numbers s a member in
      let v = some_of (link_at links a) (there links (length s.repos) a are.count named.peer named.slot) in
      let at : st.ends a ≡ stands v.0 = are.ends a member ∙ ap end_in v.1 in
      ap (λ (o : Option EndView). option_map (frame_at a) (option_and_then next_frame o)) v.1
      ∙ end_looks st d r a v.0 at (ends a v.0 member v.1)

  pub same_at_hand : flat_map (λ (a : EndName). option_to_list (hand_at links a)) (all_ends s) ≡ at_hand s (frames_to r (young st d r))
  same_at_hand = flat_map_like (λ (a : EndName). option_to_list (hand_at links a)) (λ (a : EndName). option_to_list (find (takes_at a) (frames_to r (young st d r)))) (all_ends s)
      (λ a member. ap (λ (o : Option FrameView). option_to_list o) (each_looks a member))

pub own_of_all : Numbers → (s : SetUp) (d : Driver) (ends : ℕ → List EndView) → s.number < length s.repos → AreEndsIn d.flights (length s.repos) ends → AreOwnEndsIn d.flights s (ends s.number)
own_of_all numbers s d ends known all a v member is = let named = numbers s a member in all s.number a v known named.peer named.other is

-- room
places : (u n : ℕ) → u ≡ n → nat_le 2 (8 - u) ≡ nat_le (n + 2) 8
places u n same = grind (arith, nat_tests)

pub same_room : (st : State) (d : Driver) (r : ℕ) (links : List EndView) (a : EndName) (v : EndView) → a.peer ≢ r → link_at links a ≡ Some v → IsEndIn d.flights r a v
    → v.sent + 1 < 2 ^ 62 → v.epoch < 2 ^ 32 - 1 → room_at links a ≡ has_places r (without_old_flights st r d).flights a
same_room st d r links a v apart is end sent epoch =
    let one : nat_lt (v.sent + 1) (2 ^ 62) ≡ true = grind (arith, nat_tests) in
    let two : nat_lt v.epoch (2 ^ 32 - 1) ≡ true = grind (arith, nat_tests) in
    ap (passes has_room) is ∙ rw (one, two) (both (nat_le 2 (free v)))
    ∙ places v.used (length (filter (is_sent_by r a) (without_old_flights st r d).flights)) (end.used ∙ ap length (sym (sent_stay st r d.flights r a apart)))
  where
    both : (b : Bool) → (b && (true && true)) ≡ b
    both true = refl
    both false = refl

-- ---- once old frames were dropped, the same is seen

next_in : (o : Option EndView) → option_and_then next_frame (option_map after_drop o) ≡ option_and_then next_frame o
next_in None = refl
next_in (Some v) = find-filter (is_taken v) v.at_hand

hand_drop : (links : List EndView) (a : EndName) → hand_at (map after_drop links) a ≡ hand_at links a
hand_drop links a =
    ap (λ (o : Option EndView). option_map (frame_at a) (option_and_then next_frame o)) (link_drop links a)
    ∙ ap (option_map (frame_at a)) (next_in (link_at links a))

pub drops_see : (links : List EndView) (s : SetUp)
    → flat_map (λ (a : EndName). option_to_list (hand_at (map after_drop links) a)) (all_ends s) ≡ flat_map (λ (a : EndName). option_to_list (hand_at links a)) (all_ends s)
drops_see links s = flat_map_like (λ (a : EndName). option_to_list (hand_at (map after_drop links) a)) (λ (a : EndName). option_to_list (hand_at links a)) (all_ends s)
    (λ a member. ap (λ (o : Option FrameView). option_to_list o) (hand_drop links a))

-- ---- the numbers of an end in a run of so many entries

pub small_numbers : (c : End) (v : EndView) (n : ℕ) → c ≡ stands v → c.sent ≤ 2 * n → c.epoch ≤ 2 * n → n < 2 ^ 30 → (v.sent + 1 < 2 ^ 62) × (v.epoch < 2 ^ 32 - 1)
small_numbers c v n stood sent epoch few =
    let i : v.sent ≤ 2 * n = subst (λ (e : End). e.sent ≤ 2 * n) stood sent in
    let j : v.epoch ≤ 2 * n = subst (λ (e : End). e.epoch ≤ 2 * n) stood epoch in
    (omega (arith, i, few), omega (arith, j, few))
