-- The first frame that is on a way, and the flights with it in front.
use Rattle.std.proofs.Common.{◌≡◌, ℕ, zero, suc, Bool, true, false, List, [], ◌∷◌, ◌++◌, Some, refl, sym, ap, ◌∙◌, arith}
use Rattle.std.specs.Prelude.{cond, ◌==◌, ◌&&◌, drop, filter, map, slice_get}
use Rattle.std.proofs.lemmas.Bool.{and_parts, eqb-true}
use Rattle.annex_base.specs.Bools.{same_bool}
use Rattle.annex_base.specs.Lists.{Each}
use Rattle.annex_base.proofs.Conditions.{same_bool_is}
use Rattle.annex_base.proofs.Lists.{filter_no, filter_yes}
use Rattle.run_data.specs.declared.entry.Entry.{Entry}
use Rattle.run_data.specs.declared.entry.FrameView.{FrameView}
use Rattle.run_model.specs.Frames.{FlyingFrame, MayTake, Way, frames_sent, is_on, taken_count, way_of}
use Rattle.node_model.specs.Ends.{EndName}
use Rattle.driver_model.specs.Driver.{Flight, but_first}
use Rattle.driver_model.specs.Ways.{AreOnTheWay, InOrder, NumberedBody, bodies_flying, bodies_sent, is_flight, numbered_body, views_sent, way_out}
use Rattle.driver_model.proofs.WayNumbers.{follow_at}

-- ---- lists

pub drop_at : {X : Type 0} (k : ℕ) (xs : List X) (x : X) → slice_get xs k ≡ Some x → drop k xs ≡ x ∷ drop (suc k) xs
drop_at zero [] x e = absurd (cc)
drop_at zero (y ∷ xs) x e = let same : y ≡ x = cc in ap (λ z. z ∷ xs) same
drop_at (suc k) [] x e = absurd (cc)
drop_at (suc k) (y ∷ xs) x e = drop_at k xs x e

pub get_map : {X Y : Type 0} (f : X → Y) (xs : List X) (k : ℕ) (x : X) → slice_get xs k ≡ Some x → slice_get (map f xs) k ≡ Some (f x)
get_map f [] k x e = absurd (cc)
get_map f (y ∷ xs) zero x e = let same : y ≡ x = cc in ap (λ z. Some (f z)) same
get_map f (y ∷ xs) (suc k) x e = get_map f xs k x e

pub but_split : (q : Flight → Bool) (front back : List Flight) (x : Flight) → Each (λ y. q y ≡ false) front → q x ≡ true → but_first q (front ++ x ∷ back) ≡ front ++ back
but_split q [] back x n i = rw i refl
but_split q (y ∷ front) back x n i = rw n.0 (ap (λ zs. y ∷ zs) (but_split q front back x n.1 i))

-- where a test that passes the one passes none before it, it may as well stand in front
pub filter_front : (p : Flight → Bool) (front back : List Flight) (x : Flight) → (p x ≡ true → Each (λ z. p z ≡ false) front) → filter p (front ++ x ∷ back) ≡ filter p (x ∷ front ++ back)
filter_front p [] back x none = refl
filter_front p (y ∷ front) back x none = go (filter_front p front back x (λ i. (none i).1)) (p x) refl (p y) refl
  where
    go : filter p (front ++ x ∷ back) ≡ filter p (x ∷ front ++ back) → (b : Bool) → p x ≡ b → (c : Bool) → p y ≡ c → filter p (y ∷ front ++ x ∷ back) ≡ filter p (x ∷ y ∷ front ++ back)
    go more true i true j = absurd (let no' : true ≡ false = sym j ∙ (none i).0 in cc)
    go more true i false j = filter_no p y (front ++ x ∷ back) j ∙ more ∙ filter_yes p x (front ++ back) i ∙ ap (λ zs. x ∷ zs) (sym (filter_no p y (front ++ back) j)) ∙ sym (filter_yes p x (y ∷ front ++ back) i)
    go more false i true j = filter_yes p y (front ++ x ∷ back) j ∙ ap (λ zs. y ∷ zs) (more ∙ filter_no p x (front ++ back) i) ∙ sym (filter_yes p y (front ++ back) j) ∙ sym (filter_no p x (y ∷ front ++ back) i)
    go more false i false j = filter_no p y (front ++ x ∷ back) j ∙ more ∙ filter_no p x (front ++ back) i ∙ sym (filter_no p y (front ++ back) j) ∙ sym (filter_no p x (y ∷ front ++ back) i)

-- ---- the first to which a test applies

pub record Split (q : Flight → Bool) (xs : List Flight) : Type 0 where
  pub front : List Flight
  pub x : Flight
  pub back : List Flight
  pub is : xs ≡ front ++ x ∷ back
  pub none : Each (λ z. q z ≡ false) front
  pub it : q x ≡ true

pub split_of : (q : Flight → Bool) (xs : List Flight) (y : NumberedBody) (ys : List NumberedBody) → map (λ x. numbered_body x.frame) (filter q xs) ≡ y ∷ ys → (z : Split q xs) × (numbered_body z.x.frame ≡ y)
split_of q [] y ys e = absurd (cc)
split_of q (x ∷ xs) y ys e = go (split_of q xs y ys) (q x) refl e
  where
    go : (map (λ x. numbered_body x.frame) (filter q xs) ≡ y ∷ ys → (z : Split q xs) × (numbered_body z.x.frame ≡ y)) → (b : Bool) → q x ≡ b
        → map (λ (x : Flight). numbered_body x.frame) (cond b (x ∷ filter q xs) (filter q xs)) ≡ y ∷ ys → (z : Split q (x ∷ xs)) × (numbered_body z.x.frame ≡ y)
    go more true i h = let same : numbered_body x.frame ≡ y = cc in (record { front = []; x = x; back = xs; is = refl; none = tt; it = i }, same)
    go more false i h = let z = more h in (record { front = x ∷ z.0.front; x = z.0.x; back = z.0.back; is = ap (λ zs. x ∷ zs) z.0.is; none = (i, z.0.none); it = z.0.it }, z.1)

-- ---- flights of one way

pub record OnWay (r : ℕ) (a : EndName) (n : ℕ) (x : Flight) : Type 0 where
  pub to_is : x.to ≡ a.peer
  pub peer_is : x.frame.peer ≡ r
  pub slot_is : x.frame.slot ≡ a.slot
  pub up_is : x.frame.up ≡ a.client
  pub epoch_is : x.frame.epoch ≡ n

pub way_parts : (r : ℕ) (a : EndName) (n : ℕ) (x : Flight) → is_flight r a n x ≡ true → OnWay r a n x
way_parts r a n x e =
    let one = and_parts (x.to == a.peer) (is_on (way_out r a n) r x.frame) e in
    let two = and_parts (x.frame.peer == r) ((x.frame.slot == a.slot) && (same_bool x.frame.up a.client && (x.frame.epoch == n))) one.1 in
    let three = and_parts (x.frame.slot == a.slot) (same_bool x.frame.up a.client && (x.frame.epoch == n)) two.1 in
    let four = and_parts (same_bool x.frame.up a.client) (x.frame.epoch == n) three.1 in
    record {
      to_is = eqb-true x.to a.peer one.0;
      peer_is = eqb-true x.frame.peer r two.0;
      slot_is = eqb-true x.frame.slot a.slot three.0;
      up_is = same_bool_is x.frame.up a.client four.0;
      epoch_is = eqb-true x.frame.epoch n four.1;
    }

-- two ways with a flight of both are one
pub one_way : (r p : ℕ) (a b : EndName) (n m : ℕ) (x : Flight) → OnWay r a n x → OnWay p b m x → (z : Flight) → is_flight r a n z ≡ is_flight p b m z
one_way r p a b n m x u v z = same
  where
    peers : a.peer ≡ b.peer
    peers = sym u.to_is ∙ v.to_is

    froms : r ≡ p
    froms = sym u.peer_is ∙ v.peer_is

    slots : a.slot ≡ b.slot
    slots = sym u.slot_is ∙ v.slot_is

    ups : a.client ≡ b.client
    ups = sym u.up_is ∙ v.up_is

    epochs : n ≡ m
    epochs = sym u.epoch_is ∙ v.epoch_is

    same : is_flight r a n z ≡ is_flight p b m z
    same i = (z.to == peers i) && ((z.frame.peer == froms i) && ((z.frame.slot == slots i) && (same_bool z.frame.up (ups i) && (z.frame.epoch == epochs i))))

-- ---- the frame that may be taken is the first of its way

pub first_body : (past : List Entry) (r : ℕ) (f : FrameView) (xs : List Flight) → MayTake past (way_of r f) f
    → InOrder past f.peer (record { peer = r; slot = f.slot; client = f.up }) f.epoch → AreOnTheWay past xs f.peer (record { peer = r; slot = f.slot; client = f.up }) f.epoch
    → (ys : List NumberedBody) × (bodies_flying f.peer (record { peer = r; slot = f.slot; client = f.up }) f.epoch xs ≡ numbered_body f ∷ ys)
first_body past r f xs may order l = (drop (suc k) (bodies_sent past w), l.same ∙ drop_at k (bodies_sent past w) (numbered_body may.it.frame) got ∙ ap (λ y. y ∷ drop (suc k) (bodies_sent past w)) same)
  where
    w : Way
    w = way_of r f

    k : ℕ
    k = taken_count past (way_of r f)

    view : slice_get (views_sent past (way_of r f)) (taken_count past (way_of r f)) ≡ Some may.it.frame
    view = get_map (λ (x : FlyingFrame). x.frame) (frames_sent past (way_of r f)) (taken_count past (way_of r f)) may.it may.next

    got : slice_get (bodies_sent past (way_of r f)) (taken_count past (way_of r f)) ≡ Some (numbered_body may.it.frame)
    got = get_map numbered_body (views_sent past (way_of r f)) (taken_count past (way_of r f)) may.it.frame view

    seq : may.it.frame.seq ≡ f.seq
    seq = let i = follow_at 0 (taken_count past (way_of r f)) (views_sent past (way_of r f)) may.it.frame order.follow view in let j = may.seq_is in omega (arith, i, j)

    same : numbered_body may.it.frame ≡ numbered_body f
    same i = record { seq = seq i; body = may.body_is i }
