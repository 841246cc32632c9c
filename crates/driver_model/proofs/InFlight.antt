-- The frames on their way: on each way those that were sent and not yet taken, in order, unless the end that they go to is past
-- their epoch.
use Rattle.std.proofs.Common.{◌≡◌, ℕ, zero, suc, ◌+◌, ◌<◌, ◌≤◌, Bool, true, false, List, [], ◌∷◌, ◌++◌, Option, Some, None, ◌⊎◌, inl, inr, refl, sym, ap, ◌∙◌, subst, arith}
use Rattle.std.specs.Prelude.{cond, if◌then◌else◌, ◌==◌, ◌&&◌, ◌||◌, not, drop, filter, find, length, map, nat_lt, slice_get}
use Rattle.std.proofs.lemmas.Bool.{and_parts, eqb-true}
use Rattle.std.proofs.lemmas.Bool.Decides.{nat_tests}
use Rattle.std.proofs.lemmas.List.Elements.{filter-append}
use Rattle.std.proofs.lemmas.List.{append-nil, map-append}
use Rattle.annex_base.specs.Lists.{Each}
use Rattle.annex_base.specs.declared.kinds.Word.{Word}
use Rattle.annex_base.proofs.Lists.{slice_get-map_some}
use Rattle.annex_base.proofs.Conditions.{eqb_refl, same_bool_is, same_bool_refl}
use Rattle.annex_base.specs.Bools.{same_bool}
use Rattle.run_data.specs.declared.entry.Entry.{Entry}
use Rattle.run_data.specs.declared.entry.FrameView.{FrameView}
use Rattle.run_data.specs.declared.entry.FrameText.{FrameText}
use Rattle.run_data.specs.declared.entry.FrameText.TheVariants.{Opening, Closing, Bytes, Line}
use Rattle.run_model.specs.Frames.{FlyingFrame, MayTake, Way, is_on, on_way, sender_of, frames_sent, taken_count, taker_of, takes, way_of}
use Rattle.node_model.specs.Ends.{End, EndName, end_sends, end_takes, end_took, is_opening, may_take, sent_at, taken_at, takes_at}
use Rattle.run_model.specs.Past.{is_of}
use Rattle.node_model.specs.Rows.{option_is}
use Rattle.node_model.specs.SetUp.{SetUp}
use Rattle.run_model.specs.States.{end_at}
use Rattle.node_model.specs.State.{State}
use Rattle.run_model.specs.Run.{OwnPart}
use Rattle.driver_model.proofs.EndLemmas.{end_own, may_epoch, out_sender-is, out_taker-is, sends_all, takes_self}
use Rattle.driver_model.proofs.Premises.{EntryLaws}
use Rattle.driver_model.specs.Driver.{Driver, Flight, but_first, but_taken, end_to, flight, frames_to, is_at, is_old, old_at}
use Rattle.driver_model.specs.Ways.{Flies, InOrder, AreOnTheWay, IsOver, NumberedBody, bodies_flying, is_flight, other_end, numbered_body, bodies_sent, views_sent, way_out}
use Rattle.driver_model.proofs.WayNumbers.{follow_at, sent_more, sent_same_as}

-- ---- ends that are past an epoch

abbrev pub old_by : End → ℕ → Bool
old_by c n = nat_lt n c.epoch || ((n == c.epoch) && not c.opened)

-- or else no frame of the epoch is old there
pub over_or : (c : End) (n : ℕ) → IsOver c n ⊎ (old_by c n ≡ false)
over_or c n = go (nat_lt n c.epoch) refl (n == c.epoch) refl c.opened refl
  where
    go : (a : Bool) → nat_lt n c.epoch ≡ a → (b : Bool) → (n == c.epoch) ≡ b → (o : Bool) → c.opened ≡ o → IsOver c n ⊎ (old_by c n ≡ false)
    go true i b j o k = inl (inl (grind (arith, nat_tests)))
    go false i true j false k = inl (inr (eqb-true n c.epoch j, k))
    go false i true j true k = inr (rw (i, j, k) refl)
    go false i false j o k = inr (rw (i, j) refl)

over_sends : (c : End) (body : FrameText) (n : ℕ) → IsOver c n → IsOver (end_sends c body) n
over_sends c Opening n (inl i) = inl (omega (arith, i))
over_sends c Opening n (inr i) = let j = i.0 in inl (omega (arith, j))
over_sends c Closing n (inl i) = inl i
over_sends c Closing n (inr i) = inr (i.0, refl)
over_sends c (Bytes k) n o = o
over_sends c (Line text) n o = o

over_all : (c : End) (fs : List FrameView) (n : ℕ) → IsOver c n → IsOver (sends_all c fs) n
over_all c [] n o = o
over_all c (f ∷ fs) n o = over_all (end_sends c f.body) fs n (over_sends c f.body n o)

-- what may be taken is of an epoch that isn't past
pub not_over : (c : End) (f : FrameView) → may_take c f ≡ true → IsOver c f.epoch → ⊥
not_over c f may o = go (is_opening f.body) refl
  where
    opens : is_opening f.body ≡ true → IsOver c f.epoch → ⊥
    opens i (inl j) = let t : nat_lt c.epoch f.epoch ≡ true = (and_parts (not c.opened) (nat_lt c.epoch f.epoch) (rw i at may)).1 in grind (arith, nat_tests)
    opens i (inr j) = let t : nat_lt c.epoch f.epoch ≡ true = (and_parts (not c.opened) (nat_lt c.epoch f.epoch) (rw i at may)).1 in let k = j.0 in grind (arith, nat_tests)

    not' : is_opening f.body ≡ false → IsOver c f.epoch → ⊥
    not' i (inl j) = let e : f.epoch ≡ c.epoch = (may_epoch c f i may).1 in omega (arith, e, j)
    not' i (inr j) = let o : true ≡ false = sym (may_epoch c f i may).0 ∙ j.1 in cc

    go : (b : Bool) → is_opening f.body ≡ b → ⊥
    go true i = opens i o
    go false i = not' i o

over_takes : (c : End) (f : FrameView) (n : ℕ) → may_take c f ≡ true → IsOver c n → IsOver (end_takes c f.epoch f.body) n
over_takes c f n may o = go f.body refl
  where
    later : f.body ≡ Opening → c.epoch < f.epoch
    later i =
        let j : is_opening f.body ≡ true = ap is_opening i in
        let t : nat_lt c.epoch f.epoch ≡ true = (and_parts (not c.opened) (nat_lt c.epoch f.epoch) (rw j at may)).1 in grind (arith, nat_tests)

    up : c.epoch < f.epoch → IsOver c n → n < f.epoch
    up i (inl j) = omega (arith, i, j)
    up i (inr j) = let k = j.0 in omega (arith, i, k)

    shut : IsOver c n → IsOver (record { epoch = c.epoch; opened = false; sent = c.sent }) n
    shut (inl i) = inl i
    shut (inr i) = inr (i.0, refl)

    go : (body : FrameText) → f.body ≡ body → IsOver (end_takes c f.epoch body) n
    go Opening i = inl (up (later i) o)
    go Closing i = shut o
    go (Bytes k) i = o
    go (Line text) i = o

-- an own entry leaves it so
pub over_own : EntryLaws → (s : SetUp) (past : List Entry) (words : ℕ → Option Word) (e : Entry) (a : EndName) (n : ℕ) → is_of s.number e ≡ true → OwnPart s past words e
    → IsOver (end_at past s.number a) n → IsOver (end_at (e ∷ past) s.number a) n
over_own laws s past words e a n is own o = subst (λ (c : End). IsOver c n) (sym (end_own s.number past a e is)) (over_all (end_took (end_at past s.number a) (taken_at a e.taken)) (sent_at a e.sent) n (go e.taken refl))
  where
    at : (f : FrameView) → e.taken ≡ Some f → (b : Bool) → takes_at a f ≡ b → IsOver (end_took (end_at past s.number a) (if b then Some f else None)) n
    at f i false t = o
    at f i true t = over_takes (end_at past s.number a) f n (laws.takes s past words e f a own i t) o

    go : (t : Option FrameView) → e.taken ≡ t → IsOver (end_took (end_at past s.number a) (taken_at a e.taken)) n
    go None i = subst (λ (t : Option FrameView). IsOver (end_took (end_at past s.number a) (taken_at a t)) n) (sym i) o
    go (Some f) i = subst (λ (t : Option FrameView). IsOver (end_took (end_at past s.number a) (taken_at a t)) n) (sym i) (at f i (takes_at a f) refl)

-- ---- lists

none_more : (k : ℕ) → 0 + k ≡ k
none_more k = omega arith

shift : (k : ℕ) → suc (k + 1) ≡ suc k + 1
shift k = omega arith

module _ {X : Type 0} where
  filter_within : (p q : X → Bool) (xs : List X) → ((x : X) → p x ≡ true → q x ≡ true) → filter p (filter q xs) ≡ filter p xs
  filter_within p q [] f = refl
  filter_within p q (x ∷ xs) f = go (filter_within p q xs f) (p x) refl (q x) refl
    where
      go : filter p (filter q xs) ≡ filter p xs → (b : Bool) → p x ≡ b → (c : Bool) → q x ≡ c → filter p (filter q (x ∷ xs)) ≡ filter p (x ∷ xs)
      go more true i true j = rw (j, i) (ap (λ zs. x ∷ zs) more)
      go more true i false j = absurd (let no' : true ≡ false = sym (f x i) ∙ j in cc)
      go more false i true j = rw (j, i) more
      go more false i false j = rw j (rw i more)

  drop_append : (k : ℕ) (xs ys : List X) → k ≤ length xs → drop k (xs ++ ys) ≡ drop k xs ++ ys
  drop_append zero xs ys i = refl
  drop_append (suc k) [] ys i = absurd (omega (arith, i))
  drop_append (suc k) (x ∷ xs) ys i = drop_append k xs ys (omega (arith, i))

  -- the first that is left
  drop_first : (k : ℕ) (xs : List X) (y : X) (ys : List X) → y ∷ ys ≡ drop k xs → (k + 1 ≤ length xs) × (ys ≡ drop (k + 1) xs) × (slice_get xs k ≡ Some y)
  drop_first zero [] y ys e = absurd (cc)
  drop_first zero (x ∷ xs) y ys e = let i : y ≡ x = cc in let j : ys ≡ xs = cc in (omega arith, j, sym (ap Some i))
  drop_first (suc k) [] y ys e = absurd (cc)
  drop_first (suc k) (x ∷ xs) y ys e = let z = drop_first k xs y ys e in let i = z.0 in (omega (arith, i), z.1 ∙ ap (λ n. drop n (x ∷ xs)) (shift k), z.2)

  length_more : (xs ys : List X) → length xs ≤ length (xs ++ ys)
  length_more [] ys = omega arith
  length_more (x ∷ xs) ys = let i = length_more xs ys in omega (arith, i)

-- ---- frames are dropped

on_parts : (r : ℕ) (a : EndName) (n : ℕ) (x : Flight) → is_flight r a n x ≡ true → (x.to ≡ a.peer) × (end_to x.frame ≡ other_end r a) × (x.frame.epoch ≡ n)
on_parts r a n x e =
    let one = and_parts (x.to == a.peer) (is_on (way_out r a n) r x.frame) e in
    let two = and_parts (x.frame.peer == r) ((x.frame.slot == a.slot) && (same_bool x.frame.up a.client && (x.frame.epoch == n))) one.1 in
    let three = and_parts (x.frame.slot == a.slot) (same_bool x.frame.up a.client && (x.frame.epoch == n)) two.1 in
    let four = and_parts (same_bool x.frame.up a.client) (x.frame.epoch == n) three.1 in (
      eqb-true x.to a.peer one.0,
      end_path (eqb-true x.frame.peer r two.0) (eqb-true x.frame.slot a.slot three.0) (ap (λ b. if b then false else true) (same_bool_is x.frame.up a.client four.0)),
      eqb-true x.frame.epoch n four.1,
    )
  where
    end_path : x.frame.peer ≡ r → x.frame.slot ≡ a.slot → (if x.frame.up then false else true) ≡ (if a.client then false else true) → end_to x.frame ≡ other_end r a
    end_path i j k t = record { peer = i t; slot = j t; client = k t }

pub flies_cleared : (past : List Entry) (st : State) (p : ℕ) (xs : List Flight) (r : ℕ) (a : EndName) (n : ℕ) → ((b : EndName) → st.ends b ≡ end_at past p b)
    → Flies past xs r a n → Flies past (filter (λ x. not (old_at st p x)) xs) r a n
flies_cleared past st p xs r a n ends (inl o) = inl o
flies_cleared past st p xs r a n ends (inr l) = go (over_or c n)
  where
    c : End
    c = end_at past a.peer (other_end r a)

    go : IsOver (end_at past a.peer (other_end r a)) n ⊎ (old_by (end_at past a.peer (other_end r a)) n ≡ false) → Flies past (filter (λ x. not (old_at st p x)) xs) r a n
    go (inl o) = inl o
    go (inr young) = inr (record { inside = l.inside; same = ap (map (λ x. numbered_body x.frame)) (filter_within (is_flight r a n) (λ x. not (old_at st p x)) xs keeps) ∙ l.same })
      where
        keeps : (x : Flight) → is_flight r a n x ≡ true → not (old_at st p x) ≡ true
        keeps x e = at (x.to == p) refl
          where
            parts : (x.to ≡ a.peer) × (end_to x.frame ≡ other_end r a) × (x.frame.epoch ≡ n)
            parts = on_parts r a n x e

            at : (b : Bool) → (x.to == p) ≡ b → not (b && is_old (st.ends (end_to x.frame)) x.frame) ≡ true
            at false i = refl
            at true i = ap not (ap (λ (c : End). is_old c x.frame) (ends (end_to x.frame) ∙ end_same) ∙ ap (old_by (end_at past a.peer (other_end r a))) parts.2 ∙ young)
              where
                end_same : end_at past p (end_to x.frame) ≡ end_at past a.peer (other_end r a)
                end_same = ap (λ k. end_at past k (end_to x.frame)) (sym (eqb-true x.to p i) ∙ parts.0) ∙ ap (end_at past a.peer) parts.1

-- ---- a frame is taken

-- the frame is the first at its end
pub record IsFirst (p : ℕ) (f : FrameView) (xs : List Flight) : Type 0 where
  pub front : List Flight
  pub x : Flight
  pub back : List Flight
  pub split : xs ≡ front ++ x ∷ back
  pub none : Each (λ y. is_at p f y ≡ false) front
  pub it : is_at p f x ≡ true
  pub frame_is : x.frame ≡ f

pub first_found : (p : ℕ) (f : FrameView) (xs : List Flight) → find (takes_at (end_to f)) (frames_to p xs) ≡ Some f → IsFirst p f xs
first_found p f [] e = absurd (cc)
first_found p f (x ∷ xs) e = go (first_found p f xs) (x.to == p) refl e
  where
    later : IsFirst p f xs → is_at p f x ≡ false → IsFirst p f (x ∷ xs)
    later y i = record { front = x ∷ y.front; x = y.x; back = y.back; split = ap (λ zs. x ∷ zs) y.split; none = (i, y.none); it = y.it; frame_is = y.frame_is }

    go : (find (takes_at (end_to f)) (frames_to p xs) ≡ Some f → IsFirst p f xs) → (b : Bool) → (x.to == p) ≡ b
        → find (takes_at (end_to f)) (map (λ (x : Flight). x.frame) (cond b (x ∷ filter (λ (x : Flight). x.to == p) xs) (filter (λ (x : Flight). x.to == p) xs))) ≡ Some f → IsFirst p f (x ∷ xs)
    go more false i g = later (more g) (rw i refl)
    go more true i g = at (takes_at (end_to f) x.frame) refl g
      where
        at : (c : Bool) → takes_at (end_to f) x.frame ≡ c → cond c (Some x.frame) (find (takes_at (end_to f)) (frames_to p xs)) ≡ Some f → IsFirst p f (x ∷ xs)
        at true j h = let same : x.frame ≡ f = cc in record { front = []; x = x; back = xs; split = refl; none = tt; it = rw (i, j) refl; frame_is = same }
        at false j h = later (more h) (rw (i, j) refl)

but_split : (q : Flight → Bool) (front back : List Flight) (x : Flight) → Each (λ y. q y ≡ false) front → q x ≡ true → but_first q (front ++ x ∷ back) ≡ front ++ back
but_split q [] back x n i = rw i refl
but_split q (y ∷ front) back x n i = rw n.0 (ap (λ zs. y ∷ zs) (but_split q front back x n.1 i))

-- one that comes to the same end comes there too
at_same : (p : ℕ) (f : FrameView) (y : Flight) → y.to ≡ p → end_to y.frame ≡ end_to f → is_at p f y ≡ true
at_same p f y i j = rw (i, eqb_refl p) (subst (λ (z : EndName). takes_at z y.frame ≡ true) j (takes_self y.frame))

module _ (p : ℕ) (f : FrameView) (xs : List Flight) (y : IsFirst p f xs) (r : ℕ) (a : EndName) (n : ℕ) where
  to_is : y.x.to ≡ p
  to_is = eqb-true y.x.to p (and_parts (y.x.to == p) (takes_at (end_to f) y.x.frame) y.it).0

  -- on its way nothing is before it
  none_before : is_flight r a n y.x ≡ true → (front : List Flight) → Each (λ z. is_at p f z ≡ false) front → filter (is_flight r a n) front ≡ []
  none_before hit [] none = refl
  none_before hit (z ∷ front) none = go (none_before hit front none.1) (is_flight r a n z) refl
    where
      go : filter (is_flight r a n) front ≡ [] → (b : Bool) → is_flight r a n z ≡ b → filter (is_flight r a n) (z ∷ front) ≡ []
      go more false i = rw i more
      go more true i =
          let here = on_parts r a n z i in
          let there = on_parts r a n y.x hit in
          let at : is_at p f z ≡ true = at_same p f z (here.0 ∙ sym there.0 ∙ to_is) (here.1 ∙ sym there.1 ∙ ap end_to y.frame_is) in
          absurd (let no' : true ≡ false = sym at ∙ none.0 in cc)

  split_on : bodies_flying r a n xs ≡ bodies_flying r a n y.front ++ bodies_flying r a n (y.x ∷ y.back)
  split_on = ap (bodies_flying r a n) y.split ∙ ap (map (λ x. numbered_body x.frame)) (filter-append (is_flight r a n) y.front (y.x ∷ y.back))
      ∙ map-append (λ x. numbered_body x.frame) (filter (is_flight r a n) y.front) (filter (is_flight r a n) (y.x ∷ y.back))

  left_on : bodies_flying r a n (but_taken p (Some f) xs) ≡ bodies_flying r a n y.front ++ bodies_flying r a n y.back
  left_on = ap (λ zs. bodies_flying r a n (but_first (is_at p f) zs)) y.split ∙ ap (bodies_flying r a n) (but_split (is_at p f) y.front y.back y.x y.none y.it)
      ∙ ap (map (λ x. numbered_body x.frame)) (filter-append (is_flight r a n) y.front y.back) ∙ map-append (λ x. numbered_body x.frame) (filter (is_flight r a n) y.front) (filter (is_flight r a n) y.back)

  pub taken_first : is_flight r a n y.x ≡ true → (bodies_flying r a n xs ≡ numbered_body f ∷ bodies_flying r a n y.back) × (bodies_flying r a n (but_taken p (Some f) xs) ≡ bodies_flying r a n y.back)
  taken_first hit =
      let none : bodies_flying r a n y.front ≡ [] = ap (map (λ x. numbered_body x.frame)) (none_before hit y.front y.none) in
      (split_on ∙ rw (none, hit) (ap (λ g. numbered_body g ∷ bodies_flying r a n y.back) y.frame_is), left_on ∙ rw none refl)

  taken_else : is_flight r a n y.x ≡ false → bodies_flying r a n (but_taken p (Some f) xs) ≡ bodies_flying r a n xs
  taken_else miss = left_on ∙ sym (split_on ∙ rw miss refl)

-- ---- one more entry

module _ (laws : EntryLaws) (s : SetUp) (past : List Entry) (words : ℕ → Option Word) (e : Entry) (own : OwnPart s past words e) (mine : e.repo ≡ Some s.number) (xs : List Flight)
    (first : (f : FrameView) → e.taken ≡ Some f → IsFirst s.number f xs) where
  abbrev p : ℕ
  p = s.number

  module _ (r : ℕ) (a : EndName) (n : ℕ) where
    abbrev w : Way
    w = way_out r a n

    abbrev after_take : List Flight
    after_take = but_taken p e.taken xs

    of_taker : is_of (taker_of w) e ≡ (p == a.peer)
    of_taker = ap (λ k. is_of k e) (out_taker-is r a n) ∙ ap (λ o. option_is o a.peer) mine

    of_sender : is_of (sender_of w) e ≡ (p == r)
    of_sender = ap (λ k. is_of k e) (out_sender-is r a n) ∙ ap (λ o. option_is o r) mine

    -- what is left of the way, once the frame is taken
    left : AreOnTheWay past xs r a n → (taken_count (e ∷ past) w ≤ length (bodies_sent past w)) × (bodies_flying r a n after_take ≡ drop (taken_count (e ∷ past) w) (bodies_sent past w))
    left l = go e.taken refl
      where
        count : (hit : Bool) → (is_of (taker_of w) e && takes w e.taken) ≡ hit → taken_count (e ∷ past) w ≡ (if hit then taken_count past w + 1 else taken_count past w)
        count hit i = rw i refl

        stays : (is_of (taker_of w) e && takes w e.taken) ≡ false → bodies_flying r a n after_take ≡ bodies_flying r a n xs → (taken_count (e ∷ past) w ≤ length (bodies_sent past w)) × (bodies_flying r a n after_take ≡ drop (taken_count (e ∷ past) w) (bodies_sent past w))
        stays i j = let c = count false i in (subst (λ k. k ≤ length (bodies_sent past w)) (sym c) l.inside, j ∙ l.same ∙ ap (λ k. drop k (bodies_sent past w)) (sym c))

        never : (b : Bool) → (b && false) ≡ false
        never true = refl
        never false = refl

        some : (f : FrameView) (i : e.taken ≡ Some f) (y : IsFirst p f xs) (hit : Bool) → is_flight r a n y.x ≡ hit → (taken_count (e ∷ past) w ≤ length (bodies_sent past w)) × (bodies_flying r a n after_take ≡ drop (taken_count (e ∷ past) w) (bodies_sent past w))
        some f i y hit h = at hit h
          where
            same : (is_of (taker_of w) e && takes w e.taken) ≡ is_flight r a n y.x
            same = ap (λ b. b && takes w e.taken) of_taker ∙ ap (λ o. (p == a.peer) && takes w o) i ∙ ap (λ k. (p == a.peer) && is_on w k f) (out_sender-is r a n)
                ∙ ap (λ k. (k == a.peer) && is_on w r f) (sym (to_is p f xs y r a n)) ∙ ap (λ g. (y.x.to == a.peer) && is_on w r g) (sym y.frame_is)

            flew : bodies_flying r a n after_take ≡ bodies_flying r a n (but_taken p (Some f) xs)
            flew = ap (λ o. bodies_flying r a n (but_taken p o xs)) i

            at : (hit : Bool) → is_flight r a n y.x ≡ hit → (taken_count (e ∷ past) w ≤ length (bodies_sent past w)) × (bodies_flying r a n after_take ≡ drop (taken_count (e ∷ past) w) (bodies_sent past w))
            at false h = stays (same ∙ h) (flew ∙ taken_else p f xs y r a n h)
            at true h =
                let c = count true (same ∙ h) in
                let two = taken_first p f xs y r a n h in
                let z = drop_first (taken_count past w) (bodies_sent past w) (numbered_body f) (bodies_flying r a n y.back) (sym two.0 ∙ l.same) in
                (subst (λ k. k ≤ length (bodies_sent past w)) (sym c) z.0, flew ∙ two.1 ∙ z.1 ∙ ap (λ k. drop k (bodies_sent past w)) (sym c))

        go : (o : Option FrameView) → e.taken ≡ o → (taken_count (e ∷ past) w ≤ length (bodies_sent past w)) × (bodies_flying r a n after_take ≡ drop (taken_count (e ∷ past) w) (bodies_sent past w))
        go None i = stays (ap (λ o. is_of (taker_of w) e && takes w o) i ∙ never (is_of (taker_of w) e)) (ap (λ o. bodies_flying r a n (but_taken p o xs)) i)
        go (Some f) i = some f i (first f i) (is_flight r a n (first f i).x) refl

    -- what it sends there
    module _ (d : Driver) (st : State) where
      abbrev new : List Flight
      new = map (flight d st p) e.sent

      on_new : (g : FrameView) → is_flight r a n (flight d st p g) ≡ ((p == r) && is_on w a.peer g)
      on_new g = swap (g.peer == a.peer) (p == r) ((g.slot == a.slot) && (same_bool g.up a.client && (g.epoch == n)))
        where
          swap : (x y z : Bool) → (x && (y && z)) ≡ (y && (x && z))
          swap true true z = refl
          swap true false z = refl
          swap false true z = refl
          swap false false z = refl

      told_new : (gs : List FrameView) → bodies_flying r a n (map (flight d st p) gs) ≡ (if p == r then map numbered_body (filter (is_on w a.peer) gs) else [])
      told_new [] = go (p == r)
        where
          go : (b : Bool) → Path (List NumberedBody) [] (if b then [] else [])
          go true = refl
          go false = refl
      told_new (g ∷ gs) = go (told_new gs) (p == r) refl (is_on w a.peer g) refl
        where
          go : bodies_flying r a n (map (flight d st p) gs) ≡ (if p == r then map numbered_body (filter (is_on w a.peer) gs) else []) → (b : Bool) → (p == r) ≡ b → (c : Bool) → is_on w a.peer g ≡ c
              → bodies_flying r a n (map (flight d st p) (g ∷ gs)) ≡ (if p == r then map numbered_body (filter (is_on w a.peer) (g ∷ gs)) else [])
          go more true i true j = let hit : is_flight r a n (flight d st p g) ≡ true = on_new g ∙ rw (i, j) refl in rw (hit, i, j) (ap (λ zs. numbered_body g ∷ zs) (more ∙ rw i refl))
          go more true i false j = let miss : is_flight r a n (flight d st p g) ≡ false = on_new g ∙ rw (i, j) refl in rw (miss, i, j) (more ∙ rw i refl)
          go more false i c j = let miss : is_flight r a n (flight d st p g) ≡ false = on_new g ∙ rw i refl in rw (miss, i) (more ∙ rw i refl)

      sent_new : bodies_sent (e ∷ past) w ≡ bodies_sent past w ++ bodies_flying r a n new
      sent_new = go (p == r) refl
        where
          go : (b : Bool) → (p == r) ≡ b → bodies_sent (e ∷ past) w ≡ bodies_sent past w ++ bodies_flying r a n new
          go true i = ap (map numbered_body) (sent_more e past w (of_sender ∙ i)) ∙ map-append numbered_body (views_sent past w) (on_way w e)
              ∙ ap (λ zs. bodies_sent past w ++ zs) (ap (λ k. map numbered_body (filter (is_on w k) e.sent)) (out_taker-is r a n) ∙ sym (told_new e.sent ∙ rw i refl))
          go false i = ap (map numbered_body) (sent_same_as e past w (of_sender ∙ i)) ∙ sym (append-nil (bodies_sent past w)) ∙ ap (λ zs. bodies_sent past w ++ zs) (sym (told_new e.sent ∙ rw i refl))

      live_adds : AreOnTheWay past xs r a n → AreOnTheWay (e ∷ past) (after_take ++ new) r a n
      live_adds l =
          let x = left l in
          record {
            inside = subst (λ zs. taken_count (e ∷ past) w ≤ length zs) (sym sent_new) (longer (taken_count (e ∷ past) w) (length (bodies_sent past w)) (length (bodies_sent past w ++ bodies_flying r a n new)) x.0 (length_more (bodies_sent past w) (bodies_flying r a n new)));
            same = ap (map (λ x. numbered_body x.frame)) (filter-append (is_flight r a n) after_take new) ∙ map-append (λ x. numbered_body x.frame) (filter (is_flight r a n) after_take) (filter (is_flight r a n) new)
                ∙ ap (λ zs. zs ++ bodies_flying r a n new) x.1 ∙ sym (drop_append (taken_count (e ∷ past) w) (bodies_sent past w) (bodies_flying r a n new) x.0) ∙ ap (drop (taken_count (e ∷ past) w)) (sym sent_new);
          }
        where
          longer : (i j k : ℕ) → i ≤ j → j ≤ k → i ≤ k
          longer i j k x y = omega (arith, x, y)

      -- one more entry
      pub flies_adds : Flies past xs r a n → Flies (e ∷ past) (after_take ++ new) r a n
      flies_adds (inr l) = inr (live_adds l)
      flies_adds (inl o) = inl (go (p == a.peer) refl)
        where
          go : (b : Bool) → (p == a.peer) ≡ b → IsOver (end_at (e ∷ past) a.peer (other_end r a)) n
          go true i =
              let same : p ≡ a.peer = eqb-true p a.peer i in
              subst (λ k. IsOver (end_at (e ∷ past) k (other_end r a)) n) same (over_own laws s past words e (other_end r a) n (ap (λ o. option_is o p) mine ∙ eqb_refl p) own (subst (λ k. IsOver (end_at past k (other_end r a)) n) (sym same) o))
          go false i = subst (λ (c : End). IsOver c n) (sym (unchanged i)) o
            where
              unchanged : (p == a.peer) ≡ false → end_at (e ∷ past) a.peer (other_end r a) ≡ end_at past a.peer (other_end r a)
              unchanged j = rw (ap (λ o. option_is o a.peer) mine ∙ j) refl

  -- what is taken may be taken
  pub may_be_taken : (f : FrameView) (i : e.taken ≡ Some f)
      → Flies past xs f.peer (record { peer = p; slot = f.slot; client = f.up }) f.epoch → InOrder past f.peer (record { peer = p; slot = f.slot; client = f.up }) f.epoch → MayTake past (way_of p f) f
  may_be_taken f i flies order = go flies
    where
      hit : is_flight f.peer (record { peer = s.number; slot = f.slot; client = f.up }) f.epoch (first f i).x ≡ true
      hit = subst (λ k. ((k == s.number) && is_on (way_out f.peer (record { peer = s.number; slot = f.slot; client = f.up }) f.epoch) f.peer (first f i).x.frame) ≡ true)
          (sym (to_is s.number f xs (first f i) f.peer (record { peer = s.number; slot = f.slot; client = f.up }) f.epoch))
          (subst (λ g. ((s.number == s.number) && is_on (way_out f.peer (record { peer = s.number; slot = f.slot; client = f.up }) f.epoch) f.peer g) ≡ true) (sym (first f i).frame_is)
          (rw (eqb_refl s.number, eqb_refl f.peer, eqb_refl f.slot, same_bool_refl f.up, eqb_refl f.epoch) refl))

      it' : AreOnTheWay past xs f.peer (record { peer = s.number; slot = f.slot; client = f.up }) f.epoch → MayTake past (way_of s.number f) f
      it' l =
          let two = taken_first s.number f xs (first f i) f.peer (record { peer = s.number; slot = f.slot; client = f.up }) f.epoch hit in
          let w = way_of s.number f in
          let z = drop_first (taken_count past w) (bodies_sent past w) (numbered_body f) (bodies_flying f.peer (record { peer = s.number; slot = f.slot; client = f.up }) f.epoch (first f i).back) (sym two.0 ∙ l.same) in
          let g = slice_get-map_some numbered_body (views_sent past w) (taken_count past w) (numbered_body f) z.2 in
          let x = slice_get-map_some (λ (x : FlyingFrame). x.frame) (frames_sent past w) (taken_count past w) g.0 g.1 in
          let seq : g.0.seq ≡ 0 + taken_count past w + 1 = follow_at 0 (taken_count past w) (views_sent past w) g.0 order.follow g.1 in
          record { it = x.0; next = x.1; seq_is = sym (ap (λ (t : NumberedBody). t.seq) g.2) ∙ seq ∙ ap (λ k. k + 1) (none_more (taken_count past w)); body_is = ap (λ (h : FrameView). h.body) x.2 ∙ ap (λ (t : NumberedBody). t.body) g.2 }

      go : Flies past xs f.peer (record { peer = s.number; slot = f.slot; client = f.up }) f.epoch → MayTake past (way_of s.number f) f
      go (inr l) = it' l
      go (inl o) = absurd (not_over (end_at past s.number (end_to f)) f (laws.takes s past words e f (end_to f) own i (takes_self f)) o)
