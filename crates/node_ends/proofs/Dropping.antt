-- Ends after each dropped the frames that are never taken.
use Rattle.std.proofs.Common.{inl, inr, ◌≡◌, Bool, false, ◌&&◌, List, [], ◌∷◌, ◌++◌, length, Option, Some, None, is_some, refl, sym, ap, subst, ◌∙◌, arith}
use Rattle.std.specs.Prelude.{filter, flat_map, map, nat_lt}
use Rattle.std.specs.List.{list_any}
use Rattle.std.specs.Option.{option_map, option_and_then, option_to_list}
use Rattle.std.proofs.lemmas.Bool.{cases_Bool, or_parts}
use Rattle.std.proofs.lemmas.Bool.Decides.{nat_tests}
use Rattle.std.proofs.lemmas.List.{length-map}
use Rattle.std.proofs.lemmas.Option.{slice_get-map}
use Rattle.annex_base.proofs.Lists.{filter_shorter, find-filter}
use Rattle.link_ring.specs.declared.frame.Frame.{Frame}
use Rattle.link_ring.specs.Ends.{EndView, StaysPaired, after_drop, has_frames, is_taken, next_frame}
use Rattle.link_ring.specs.Places.{end_place}
use Rattle.run_data.specs.declared.entry.FrameView.{FrameView}
use Rattle.node_model.specs.AnyTime.{all_ends}
use Rattle.node_model.specs.Ends.{End, EndName}
use Rattle.node_model.specs.Look.{Look}
use Rattle.node_model.specs.SetUp.{SetUp}
use Rattle.node_model.specs.State.{State}
use Rattle.node_ends.specs.Ends.{AreEnds, SeesEnds, end_at, end_in, frame_at, hand_at, has_room, if_may, link_at, passes, room_at, wait_at}
use Rattle.node_ends.specs.Invariant.{each_may_close, may_close}
use Rattle.node_ends.specs.Joined.{StaysSo, StayPaired}

-- ---- one end

first_stays : (v : EndView) → next_frame (after_drop v) ≡ next_frame v
first_stays v = find-filter (is_taken v) v.at_hand

paired_drop : (v : EndView) → StaysPaired v (after_drop v)
paired_drop v = λ other pair. record {
  first = pair.first;
  second = omega (arith, pair.second, filter_shorter (is_taken v) v.at_hand);
}

filter_none : (p : Frame → Bool) (fs : List Frame) → nat_lt 0 (length fs) ≡ false → filter p fs ≡ fs
filter_none p [] none = refl
filter_none p (f ∷ fs) none = absurd (grind (arith, nat_tests))

end_kept : (v : EndView) → has_frames v ≡ false → after_drop v ≡ v
end_kept v none = ap (λ (fs : List Frame). record v { at_hand = fs }) (filter_none (is_taken v) v.at_hand none)

-- ---- the end of a name, if there is one

next_in : (o : Option EndView) → option_and_then next_frame (option_map after_drop o) ≡ option_and_then next_frame o
next_in None = refl
next_in (Some v) = first_stays v

stand_in : (o : Option EndView) → end_in (option_map after_drop o) ≡ end_in o
stand_in None = refl
stand_in (Some v) = refl

room_in : (o : Option EndView) → passes has_room (option_map after_drop o) ≡ passes has_room o
room_in None = refl
room_in (Some v) = refl

there_in : (o : Option EndView) → is_some (option_map after_drop o) ≡ is_some o
there_in None = refl
there_in (Some v) = refl

stays_in : (o : Option EndView) → StaysSo o (option_map after_drop o)
stays_in None = tt
stays_in (Some v) = paired_drop v

link_drop : (xs : List EndView) (a : EndName) → link_at (map after_drop xs) a ≡ option_map after_drop (link_at xs a)
link_drop xs a = elim (cases_Bool (nat_lt a.slot 4)) [
  | inl is ↦ rw is (slice_get-map after_drop xs (end_place a.peer a.slot a.client))
  | inr other ↦ rw other refl
]

-- ---- the ends

pub stand_drop : (xs : List EndView) (a : EndName) → end_at (map after_drop xs) a ≡ end_at xs a
stand_drop xs a = ap end_in (link_drop xs a) ∙ stand_in (link_at xs a)

pub room_drop : (xs : List EndView) (a : EndName) → room_at (map after_drop xs) a ≡ room_at xs a
room_drop xs a = ap (λ (o : Option EndView). passes has_room o) (link_drop xs a) ∙ room_in (link_at xs a)

pub there_drop : (xs : List EndView) (a : EndName) → is_some (link_at (map after_drop xs) a) ≡ is_some (link_at xs a)
there_drop xs a = ap (λ (o : Option EndView). is_some o) (link_drop xs a) ∙ there_in (link_at xs a)

pub stay_drop : (xs : List EndView) → StayPaired xs (map after_drop xs)
stay_drop xs a = subst (λ (o : Option EndView). StaysSo (link_at xs a) o) (sym (link_drop xs a)) (stays_in (link_at xs a))

hand_drop : (xs : List EndView) (a : EndName) → hand_at (map after_drop xs) a ≡ hand_at xs a
hand_drop xs a =
    ap (λ (o : Option EndView). option_map (frame_at a) (option_and_then next_frame o)) (link_drop xs a)
    ∙ ap (λ (o : Option Frame). option_map (frame_at a) o) (next_in (link_at xs a))

pub waits_drop : (xs : List EndView) (a : EndName) → wait_at (map after_drop xs) a ≡ wait_at xs a
waits_drop xs a =
    ap (λ (c : End). option_and_then (if_may c) (hand_at (map after_drop xs) a)) (stand_drop xs a)
    ∙ ap (λ (o : Option FrameView). option_and_then (if_may (end_at xs a)) o) (hand_drop xs a)

pub count_drop : (xs : List EndView) → length (map after_drop xs) ≡ length xs
count_drop xs = length-map xs after_drop

pub close_drop : (xs : List EndView) → each_may_close (map after_drop xs) ≡ each_may_close xs
close_drop [] = refl
close_drop (x ∷ xs) = ap (λ (b : Bool). may_close x && b) (close_drop xs)

-- where no frame is at hand, none is dropped
pub none_dropped : (xs : List EndView) → list_any has_frames xs ≡ false → map after_drop xs ≡ xs
none_dropped [] none = refl
none_dropped (x ∷ xs) none =
    let both = or_parts (has_frames x) (list_any has_frames xs) none in
    ap (λ (y : EndView). y ∷ map after_drop xs) (end_kept x both.0) ∙ ap (λ (ys : List EndView). x ∷ ys) (none_dropped xs both.1)

-- ---- as a state and a look have them

pub ends_drop : (links : List EndView) (s : SetUp) (st : State) → AreEnds links s st → AreEnds (map after_drop links) s st
ends_drop links s st are = record {
  count = count_drop links ∙ are.count;
  ends = λ a member. are.ends a member ∙ sym (stand_drop links a);
}

hands_drop : (links : List EndView) (names : List EndName)
    → flat_map (λ (a : EndName). option_to_list (hand_at links a)) names ≡ flat_map (λ (a : EndName). option_to_list (hand_at (map after_drop links) a)) names
hands_drop links [] = refl
hands_drop links (a ∷ names) =
    ap (λ (o : Option FrameView). option_to_list o ++ flat_map (λ (b : EndName). option_to_list (hand_at links b)) names) (sym (hand_drop links a))
    ∙ ap (λ (fs : List FrameView). option_to_list (hand_at (map after_drop links) a) ++ fs) (hands_drop links names)

pub looks_drop : (links : List EndView) (s : SetUp) (k : Look) → SeesEnds links s k → SeesEnds (map after_drop links) s k
looks_drop links s k sees = record {
  at_hand = sees.at_hand ∙ hands_drop links (all_ends s);
  room = λ a there. sees.room a (sym (there_drop links a) ∙ there) ∙ sym (room_drop links a);
}
