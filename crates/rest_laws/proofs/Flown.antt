-- Where a driver is sound, the first flight that left by an end is the first frame of its way that was sent and not taken; and where a
-- frame may be taken, a flight has it.
use Rattle.std.proofs.Common.{◌≡◌, ℕ, zero, suc, Bool, true, false, List, [], ◌∷◌, Some, inl, inr, refl, sym, ap, ◌∙◌}
use Rattle.std.specs.Prelude.{drop, filter, map, slice_get}
use Rattle.annex_base.specs.Lists.{Member}
use Rattle.annex_base.proofs.Lists.{Member-filter_parts, cons_first, filter_yes, slice_get-map_some}
use Rattle.run_data.specs.declared.entry.FrameView.{FrameView}
use Rattle.run_data.specs.declared.run.Run.{Run}
use Rattle.node_model.specs.Ends.{EndName}
use Rattle.run_model.specs.Frames.{FlyingFrame, frames_sent, taken_count}
use Rattle.run_model.specs.Run.{RunPast, set_up}
use Rattle.run_model.specs.States.{end_at}
use Rattle.driver_model.specs.Driver.{Driver, DriverInput, Flight, is_sent_by}
use Rattle.driver_model.specs.Driving.{run_with}
use Rattle.driver_model.specs.Sound.{IsSound}
use Rattle.driver_model.specs.Ways.{AreOnTheWay, Flies, IsOver, NumberedBody, bodies_flying, bodies_sent, is_flight, numbered_body, other_end, views_sent, way_out}
use Rattle.driver_model.proofs.Holding.{steps_on}
use Rattle.rest_laws.proofs.Leaving.{Leaves, of_way, on_its_way, sent, sent_from}

-- ---- lists

within : (p q : Flight → Bool) → ((x : Flight) → p x ≡ true → q x ≡ true) → (xs : List Flight) → filter p (filter q xs) ≡ filter p xs
within p q f [] = refl
within p q f (x ∷ xs) = go (within p q f xs) (p x) refl (q x) refl
  where
    go : filter p (filter q xs) ≡ filter p xs → (b : Bool) → p x ≡ b → (c : Bool) → q x ≡ c → filter p (filter q (x ∷ xs)) ≡ filter p (x ∷ xs)
    go more true i true j = rw (j, i) (ap (λ zs. x ∷ zs) more)
    go more true i false j = absurd (let no' : true ≡ false = sym (f x i) ∙ j in cc)
    go more false i true j = rw (j, i) more
    go more false i false j = rw j (rw i more)

get_first : {X : Type 0} (k : ℕ) (xs : List X) (y : X) (ys : List X) → drop k xs ≡ y ∷ ys → slice_get xs k ≡ Some y
get_first zero [] y ys e = absurd (cc)
get_first zero (x ∷ xs) y ys e = ap (λ z. Some z) (cons_first x y xs ys e)
get_first (suc k) [] y ys e = absurd (cc)
get_first (suc k) (x ∷ xs) y ys e = get_first k xs y ys e

drop_at : {X : Type 0} (k : ℕ) (xs : List X) (y : X) → slice_get xs k ≡ Some y → drop k xs ≡ y ∷ drop (suc k) xs
drop_at zero [] y e = absurd (cc)
drop_at zero (x ∷ xs) y e = let same : x ≡ y = cc in ap (λ z. z ∷ xs) same
drop_at (suc k) [] y e = absurd (cc)
drop_at (suc k) (x ∷ xs) y e = drop_at k xs y e

get_map : {X Y : Type 0} (f : X → Y) (xs : List X) (k : ℕ) (x : X) → slice_get xs k ≡ Some x → slice_get (map f xs) k ≡ Some (f x)
get_map f [] k x e = absurd (cc)
get_map f (y ∷ xs) zero x e = let same : y ≡ x = cc in ap (λ z. Some (f z)) same
get_map f (y ∷ xs) (suc k) x e = get_map f xs k x e

first_mapped : (xs : List Flight) (y : NumberedBody) (ys : List NumberedBody) → map (λ (x : Flight). numbered_body x.frame) xs ≡ y ∷ ys → (z : Flight) × Member z xs × (numbered_body z.frame ≡ y)
first_mapped [] y ys e = absurd (cc)
first_mapped (x ∷ xs) y ys e = (x, inl refl, cons_first (numbered_body x.frame) y (map (λ (z : Flight). numbered_body z.frame) xs) ys e)

module _ (g : DriverInput) (d : Driver) (sound : IsSound g d) where
  abbrev pub run_of_it : Run
  run_of_it = run_with g d

  pub steps_of_it : RunPast (set_up (run_with g d)) d.past
  steps_of_it = steps_on g d.tree d.marks d.past sound.run

  -- it is on the way, unless it is past
  on_way : (r : ℕ) (a : EndName) (n : ℕ) → (IsOver (end_at d.past a.peer (other_end r a)) n → ⊥) → AreOnTheWay d.past d.flights r a n
  on_way r a n young = go (sound.flies r a n)
    where
      go : Flies d.past d.flights r a n → AreOnTheWay d.past d.flights r a n
      go (inl o) = absurd (young o)
      go (inr l) = l

  -- the frame that the first flight is
  pub record IsNext (r : ℕ) (a : EndName) (x : Flight) : Type 0 where
    pub it : FlyingFrame
    pub next : slice_get (frames_sent d.past (way_out r a x.frame.epoch)) (taken_count d.past (way_out r a x.frame.epoch)) ≡ Some it
    pub body_is : it.frame.body ≡ x.frame.body

  pub first_is_next : (r : ℕ) (a : EndName) (x : Flight) (ys : List Flight) → sent r a d.flights ≡ x ∷ ys → Leaves r a x → (IsOver (end_at d.past a.peer (other_end r a)) x.frame.epoch → ⊥) → IsNext r a x
  first_is_next r a x ys e l young =
      let k = taken_count d.past (way_out r a x.frame.epoch) in
      let got = get_first k (bodies_sent d.past (way_out r a x.frame.epoch)) (numbered_body x.frame) _ (sym way.same ∙ flying) in
      let view = slice_get-map_some numbered_body (views_sent d.past (way_out r a x.frame.epoch)) k (numbered_body x.frame) got in
      let it = slice_get-map_some (λ (z : FlyingFrame). z.frame) (frames_sent d.past (way_out r a x.frame.epoch)) k view.0 view.1 in
      record { it = it.0; next = it.1; body_is = ap (λ (z : FrameView). z.body) it.2 ∙ ap (λ (z : NumberedBody). z.body) view.2 }
    where
      way : AreOnTheWay d.past d.flights r a x.frame.epoch
      way = on_way r a x.frame.epoch young

      p : Flight → Bool
      p = is_flight r a x.frame.epoch

      flying : bodies_flying r a x.frame.epoch d.flights ≡ numbered_body x.frame ∷ map (λ (z : Flight). numbered_body z.frame) (filter (is_flight r a x.frame.epoch) ys)
      flying = ap (map (λ (z : Flight). numbered_body z.frame))
          (sym (within (is_flight r a x.frame.epoch) (is_sent_by r a) (λ z i. sent_from r a z (of_way r a x.frame.epoch z i).0) d.flights)
          ∙ (ap (filter (is_flight r a x.frame.epoch)) e ∙ filter_yes (is_flight r a x.frame.epoch) x ys (on_its_way r a x l)))

  -- a frame of the way that was sent and not taken flies
  pub record FliesOn (r : ℕ) (a : EndName) (n : ℕ) (it : FlyingFrame) : Type 0 where
    pub z : Flight
    pub flies : Member z d.flights
    pub leaves : Leaves r a z
    pub epoch_is : z.frame.epoch ≡ n
    pub body_is : z.frame.body ≡ it.frame.body

  pub next_flies : (r : ℕ) (a : EndName) (n : ℕ) (it : FlyingFrame) → slice_get (frames_sent d.past (way_out r a n)) (taken_count d.past (way_out r a n)) ≡ Some it
      → (IsOver (end_at d.past a.peer (other_end r a)) n → ⊥) → FliesOn r a n it
  next_flies r a n it next young =
      let k = taken_count d.past (way_out r a n) in
      let got = get_map numbered_body (views_sent d.past (way_out r a n)) k it.frame (get_map (λ (z : FlyingFrame). z.frame) (frames_sent d.past (way_out r a n)) k it next) in
      let z = first_mapped (filter (is_flight r a n) d.flights) (numbered_body it.frame) _ ((on_way r a n young).same ∙ drop_at k (bodies_sent d.past (way_out r a n)) (numbered_body it.frame) got) in
      let two = Member-filter_parts (is_flight r a n) d.flights z.0 z.1 in
      let at = of_way r a n z.0 two.1 in
      record { z = z.0; flies = two.0; leaves = at.0; epoch_is = at.1; body_is = ap (λ (y : NumberedBody). y.body) z.2 }
