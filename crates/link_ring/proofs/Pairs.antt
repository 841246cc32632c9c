-- Two ends of one connection stay so.
use Rattle.std.proofs.Common.{inl, inr, ◌≡◌, ℕ, ◌+◌, ◌≤◌, ltb, length, Option, Some, None, refl, ap, arith, length-append}
use Rattle.std.specs.List.{after_first, position_or_len}
use Rattle.std.proofs.lemmas.Bool.{cases_Bool}
use Rattle.std.proofs.lemmas.List.{length-drop}
use Rattle.annex_base.proofs.Lists.{filter_shorter}
use Rattle.link_ring.specs.declared.frame.Frame.{Frame}
use Rattle.link_ring.specs.declared.frame.Body.{Body}
use Rattle.link_ring.specs.declared.frame.Body.TheVariants as bodies
use Rattle.link_ring.specs.Ends.{EndView, ArePaired, accepts, is_taken, next_frame, with_body, with_taken, after_carry}
use Rattle.link_ring.specs.Ways.{Call, Sends, Takes, Opens, Closes, after_call, sent_by}
use Rattle.link_ring.proofs.Order.{at_hand-after_take, on_way-after_call}

used_with_body : (a : EndView) (later : ℕ) (body : Body) → (with_body a later body).used ≡ a.used
used_with_body a later bodies.Open = refl
used_with_body a later (bodies.Line text) = refl
used_with_body a later (bodies.Bytes bytes) = refl
used_with_body a later bodies.Close = refl

used_with_taken : (a : EndView) (o : Option Frame) → (with_taken a o).used ≡ a.used
used_with_taken a None = refl
used_with_taken a (Some f) = used_with_body a f.epoch f.body

used-after_call : (c : Call) (a : EndView) → (after_call c a).used ≡ a.used + length (sent_by c a)
used-after_call (Sends f) a = elim (cases_Bool (accepts a f)) [ inl is ↦ rw is refl | inr other ↦ rw other (omega arith) ]
used-after_call Takes a = omega (arith, used_with_taken (record a { at_hand = after_first (is_taken a) a.at_hand }) (next_frame a))
used-after_call Opens a = omega arith
used-after_call Closes a = omega arith

hand_shorter : (c : Call) (a : EndView) → length (after_call c a).at_hand ≤ length a.at_hand
hand_shorter (Sends f) a = elim (cases_Bool (accepts a f)) [ inl is ↦ rw is (omega arith) | inr other ↦ rw other (omega arith) ]
hand_shorter Takes a = omega (arith, ap length (at_hand-after_take a), length-drop (position_or_len (is_taken a) a.at_hand + 1) a.at_hand)
hand_shorter Opens a = filter_shorter (λ f. ltb a.epoch f.epoch) a.at_hand
hand_shorter Closes a = omega arith

pub paired_call : (c : Call) (a b : EndView) → ArePaired a b → ArePaired (after_call c a) b
paired_call c a b pair = record {
  first = omega (arith, pair.first, used-after_call c a, ap length (on_way-after_call c a), length-append a.on_way (sent_by c a));
  second = omega (arith, pair.second, hand_shorter c a);
}

pub paired_carry : (a b : EndView) → ArePaired (after_carry a b) (after_carry b a)
paired_carry a b = record {
  first = omega (arith, length-append b.at_hand a.on_way);
  second = omega (arith, length-append a.at_hand b.on_way);
}
