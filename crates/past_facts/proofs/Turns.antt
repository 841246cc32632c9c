-- On one connection and epoch each answer is to the last request: by what each end does with its own entries, and because
-- what is taken is a prefix of what is sent.
use Rattle.std.proofs.Common.{◌≡◌, ℕ, zero, suc, ◌+◌, ◌<◌, ◌≤◌, Bool, true, false, cond, List, [], ◌∷◌, ◌++◌, length, take, Option, Some, None, ◌⊎◌, inl, inr, refl, sym, ap, ◌∙◌, subst, arith, append_assoc, append-nil, length-append, add-one}
use Rattle.std.specs.Prelude.{filter, map, slice_get, if◌then◌else◌}
use Rattle.std.proofs.lemmas.Option.{same_Some}
use Rattle.std.proofs.lemmas.List.Elements.{filter-append}
use Rattle.annex_base.proofs.Lists.{slice_get-left}
use Rattle.run_data.specs.declared.entry.Entry.{Entry}
use Rattle.run_data.specs.declared.entry.FrameView.{FrameView}
use Rattle.run_model.specs.Past.{Always, Occurs, is_of}
use Rattle.run_model.specs.Said.{Said, message_in, is_request}
use Rattle.step_facts.proofs.Ways.{is_answer, answers}
use Rattle.run_model.specs.Frames.{Way, FlyingFrame, MayTake, flying_frame, is_on, on_way, sender_of, taker_of, frames_sent, sent_if, says, taken_count, taken_if, up_of, requests, last_of, last_request}
use Rattle.past_facts.proofs.Own.{AtMostOne}
use Rattle.step_facts.proofs.Flights.{get_none, sending, always_before}
use Rattle.step_facts.proofs.Plain.{filter_map}

-- ---- lists

-- where an element stands that passes the test, among those that do
filter_get : {X : Type 0} (p : X → Bool) (xs : List X) (n : ℕ) (x : X) → slice_get xs n ≡ Some x → p x ≡ true → slice_get (filter p xs) (length (filter p (take n xs))) ≡ Some x
filter_get p [] n x h t = absurd (get_none n x h)
filter_get p (y ∷ xs) zero x h t = let same : y ≡ x = same_Some y x h in go (p y) (subst (λ z. p z ≡ true) (sym same) t)
  where
    go : (b : Bool) → b ≡ true → slice_get (cond b (y ∷ filter p xs) (filter p xs)) 0 ≡ Some x
    go true e = h
    go false e = cc
filter_get p (y ∷ xs) (suc n) x h t = go (filter_get p xs n x h t) (p y)
  where
    go : slice_get (filter p xs) (length (filter p (take n xs))) ≡ Some x → (b : Bool) → slice_get (cond b (y ∷ filter p xs) (filter p xs)) (length (cond b (y ∷ filter p (take n xs)) (filter p (take n xs)))) ≡ Some x
    go ih true = ih
    go ih false = ih

take_suc : {X : Type 0} (xs : List X) (n : ℕ) (x : X) → slice_get xs n ≡ Some x → (take (suc n) xs ≡ take n xs ++ x ∷ []) × (n < length xs)
take_suc [] n x h = absurd (get_none n x h)
take_suc (y ∷ xs) zero x h = let same : y ≡ x = same_Some y x h in (ap (λ z. z ∷ []) same, omega arith)
take_suc (y ∷ xs) (suc n) x h = let t = take_suc xs n x h in (ap (λ zs. y ∷ zs) t.0, more t.1)
  where
    more : n < length xs → suc n < length (y ∷ xs)
    more l = omega (arith, l)

take_next : {X : Type 0} (xs : List X) (n : ℕ) (x : X) → slice_get xs n ≡ Some x → (take (n + 1) xs ≡ take n xs ++ x ∷ []) × (n + 1 ≤ length xs)
take_next xs n x h = let t = take_suc xs n x h in (ap (λ k. take k xs) (add-one n) ∙ t.0, omega (arith, t.1))

take_left : {X : Type 0} (xs ys : List X) (n : ℕ) → n ≤ length xs → take n (xs ++ ys) ≡ take n xs
take_left xs ys zero l = refl
take_left [] ys (suc n) l = absurd (omega (arith, l))
take_left (x ∷ xs) ys (suc n) l = ap (λ zs. x ∷ zs) (take_left xs ys n (less l))
  where
    less : suc n ≤ length (x ∷ xs) → n ≤ length xs
    less l = omega (arith, l)

last_get : {X : Type 0} (xs : List X) (k : ℕ) (x : X) → slice_get xs k ≡ Some x → length xs ≡ k + 1 → last_of xs ≡ Some x
last_get [] k x h l = absurd (get_none k x h)
last_get (y ∷ []) zero x h l = h
last_get (y ∷ z ∷ zs) zero x h l = absurd (omega (arith, l))
last_get (y ∷ []) (suc k) x h l = absurd (get_none k x h)
last_get (y ∷ z ∷ zs) (suc k) x h l = last_get (z ∷ zs) k x h (less l)
  where
    less : length (y ∷ z ∷ zs) ≡ suc k + 1 → length (z ∷ zs) ≡ k + 1
    less l = omega (arith, l)

-- ---- what is taken is a prefix of what is sent

-- the frames of a way that an entry takes are the next ones
abbrev pub Prefix : Way → List Entry → Entry → Type 0
Prefix w past e = (f : FrameView) → is_of (taker_of w) e ≡ true → e.taken ≡ Some f → is_on w (sender_of w) f ≡ true → MayTake past w f

abbrev pub of_flying : (Said → Bool) → FlyingFrame → Bool
of_flying q x = says q x.frame

sent_more : (e : Entry) (past : List Entry) (w : Way) → (rest : List FlyingFrame) × (frames_sent (e ∷ past) w ≡ frames_sent past w ++ rest)
sent_more e past w = go (is_of (sender_of w) e)
  where
    go : (b : Bool) → (rest : List FlyingFrame) × ((if b then frames_sent past w ++ map (flying_frame e past) (on_way w e) else frames_sent past w) ≡ frames_sent past w ++ rest)
    go true = (map (flying_frame e past) (on_way w e), refl)
    go false = ([], sym (append-nil (frames_sent past w)))

-- how many were taken, and how many of them pass a test
pub record TakenOf (q : Said → Bool) (past : List Entry) (w : Way) : Type 0 where
  pub within : taken_count past w ≤ length (frames_sent past w)
  pub count : taken_if q past w ≡ length (filter (of_flying q) (take (taken_count past w) (frames_sent past w)))

taken_step : (q : Said → Bool) (e : Entry) (past : List Entry) (w : Way) → Prefix w past e → TakenOf q past w → TakenOf q (e ∷ past) w
taken_step q e past w all old = let t = sent_more e past w in step t.0 t.1
  where
    step : (rest : List FlyingFrame) → frames_sent (e ∷ past) w ≡ frames_sent past w ++ rest → TakenOf q (e ∷ past) w
    step rest more = go (is_of (taker_of w) e) refl e.taken refl
      where
        len : length (frames_sent (e ∷ past) w) ≡ length (frames_sent past w) + length rest
        len = ap length more ∙ length-append (frames_sent past w) rest

        same : (n : ℕ) → n ≤ length (frames_sent past w) → take n (frames_sent (e ∷ past) w) ≡ take n (frames_sent past w)
        same n l = ap (λ xs. take n xs) more ∙ take_left (frames_sent past w) rest n l

        Made : (n m : ℕ) → Type 0
        Made n m = (n ≤ length (frames_sent (e ∷ past) w)) × (m ≡ length (filter (of_flying q) (take n (frames_sent (e ∷ past) w))))

        kept : Made (taken_count past w) (taken_if q past w)
        kept = (omega (arith, len, old.within), old.count ∙ ap (λ xs. length (filter (of_flying q) xs)) (sym (same (taken_count past w) old.within)))

        one : (f : FrameView) (t : MayTake past w f) → Made (taken_count past w + 1) (if says q f then taken_if q past w + 1 else taken_if q past w)
        one f t =
            let n = take_next (frames_sent past w) (taken_count past w) t.it t.next in
            (omega (arith, len, n.1), count (says q f) refl ∙ sym (ap (λ xs. length (filter (of_flying q) xs)) (same (taken_count past w + 1) n.1 ∙ n.0)))
          where
            is : says q t.it.frame ≡ says q f
            is = ap (λ b. q (message_in b)) t.body_is

            parts : length (filter (of_flying q) (take (taken_count past w) (frames_sent past w) ++ t.it ∷ [])) ≡ taken_if q past w + length (filter (of_flying q) (t.it ∷ []))
            parts = ap length (filter-append (of_flying q) (take (taken_count past w) (frames_sent past w)) (t.it ∷ []))
                ∙ length-append (filter (of_flying q) (take (taken_count past w) (frames_sent past w))) (filter (of_flying q) (t.it ∷ []))
                ∙ ap (λ n. n + length (filter (of_flying q) (t.it ∷ []))) (sym old.count)

            count : (b : Bool) → says q f ≡ b → (if b then taken_if q past w + 1 else taken_if q past w) ≡ length (filter (of_flying q) (take (taken_count past w) (frames_sent past w) ++ t.it ∷ []))
            count true h = let k : says q t.it.frame ≡ true = is ∙ h in sym (parts ∙ ap (λ c. taken_if q past w + length (cond c (t.it ∷ []) [])) k)
            count false h = let k : says q t.it.frame ≡ false = is ∙ h in sym (parts ∙ ap (λ c. taken_if q past w + length (cond c (t.it ∷ []) [])) k ∙ omega arith)

        finish : (n m : ℕ) → Made n m → taken_count (e ∷ past) w ≡ n → taken_if q (e ∷ past) w ≡ m → TakenOf q (e ∷ past) w
        finish n m h a b = record { within = subst (λ k. k ≤ length (frames_sent (e ∷ past) w)) (sym a) h.0; count = b ∙ h.1 ∙ ap (λ k. length (filter (of_flying q) (take k (frames_sent (e ∷ past) w)))) (sym a) }

        go : (b : Bool) → is_of (taker_of w) e ≡ b → (o : Option FrameView) → e.taken ≡ o → TakenOf q (e ∷ past) w
        go false is o t = finish (taken_count past w) (taken_if q past w) kept (rw is refl) (rw is refl)
        go true is None t = finish (taken_count past w) (taken_if q past w) kept (rw (is, t) refl) (rw (is, t) refl)
        go true is (Some f) t = on (is_on w (sender_of w) f) refl
          where
            on : (c : Bool) → is_on w (sender_of w) f ≡ c → TakenOf q (e ∷ past) w
            on false c = finish (taken_count past w) (taken_if q past w) kept (rw (is, t, c) refl) (rw (is, t, c) refl)
            on true c = finish (taken_count past w + 1) (if says q f then taken_if q past w + 1 else taken_if q past w) (one f (all f is t c)) (rw (is, t, c) refl) (rw (is, t, c) refl)

pub taken_of : (q : Said → Bool) (past : List Entry) (w : Way) → Always (Prefix w) past → TakenOf q past w
taken_of q [] w all = record { within = omega arith; count = refl }
taken_of q (e ∷ past) w all = taken_step q e past w all.0 (taken_of q past w all.1)

-- the frame that may be taken next, among those that pass a test
pub next_of : (q : Said → Bool) (past : List Entry) (w : Way) (f : FrameView) → Always (Prefix w) past → (t : MayTake past w f) → says q f ≡ true → slice_get (sent_if q past w) (taken_if q past w) ≡ Some t.it
next_of q past w f all t ok =
    let is : says q t.it.frame ≡ true = ap (λ b. q (message_in b)) t.body_is ∙ ok in
    subst (λ k. slice_get (sent_if q past w) k ≡ Some t.it) (sym (taken_of q past w all).count) (filter_get (of_flying q) (frames_sent past w) (taken_count past w) t.it t.next is)

-- ---- the sender of a frame that passes a test

pub sent_if-step : (q : Said → Bool) (e : Entry) (past : List Entry) (w : Way) → is_of (sender_of w) e ≡ true → sent_if q (e ∷ past) w ≡ sent_if q past w ++ map (flying_frame e past) (filter (says q) (on_way w e))
sent_if-step q e past w is = rw is (filter-append (of_flying q) (frames_sent past w) (map (flying_frame e past) (on_way w e)) ∙ ap (λ ys. sent_if q past w ++ ys) (filter_map (of_flying q) (flying_frame e past) (on_way w e)))

sent_if-more : (q : Said → Bool) (e : Entry) (past : List Entry) (w : Way) → (rest : List FlyingFrame) × (sent_if q (e ∷ past) w ≡ sent_if q past w ++ rest)
sent_if-more q e past w = let t = sent_more e past w in (filter (of_flying q) t.0, ap (filter (of_flying q)) t.1 ∙ filter-append (of_flying q) (frames_sent past w) t.0)

-- what was sent before is a prefix
pub sent_if-prefix : (q : Said → Bool) (past : List Entry) (x : Entry) (before : List Entry) (w : Way) → Occurs past x before → (rest : List FlyingFrame) × (sent_if q past w ≡ sent_if q before w ++ rest)
sent_if-prefix q [] x before w o = absurd o
sent_if-prefix q (e ∷ past) x before w (inl o) = subst (λ (p : List Entry). (rest : List FlyingFrame) × (sent_if q (e ∷ past) w ≡ sent_if q p w ++ rest)) (sym o.1) (sent_if-more q e past w)
sent_if-prefix q (e ∷ past) x before w (inr o) =
    let t = sent_if-prefix q past x before w o in
    let u = sent_if-more q e past w in
    (t.0 ++ u.0, u.1 ∙ ap (λ xs. xs ++ u.0) t.1 ∙ append_assoc (sent_if q before w) t.0 u.0)

get_last : {X : Type 0} (xs : List X) (y : X) (k : ℕ) (x : X) → slice_get (xs ++ y ∷ []) k ≡ Some x → (slice_get xs k ≡ Some x) ⊎ ((k ≡ length xs) × (y ≡ x))
get_last [] y zero x h = inr (refl, same_Some y x h)
get_last [] y (suc k) x h = absurd (get_none k x h)
get_last (z ∷ xs) y zero x h = inl h
get_last (z ∷ xs) y (suc k) x h = elim (get_last xs y k x h) [ inl s ↦ inl s | inr s ↦ inr (step s.0, s.1) ]
  where
    step : k ≡ length xs → suc k ≡ length (z ∷ xs)
    step e = omega (arith, e)

-- an entry sends at most one frame on the way that passes the test
abbrev pub OneEach : (Said → Bool) → Way → List Entry → Entry → Type 0
OneEach q w past e = is_of (sender_of w) e ≡ true → AtMostOne (filter (says q) (on_way w e))

-- a frame with its number: as many were sent before
pub place_of : (q : Said → Bool) (past : List Entry) (w : Way) (k : ℕ) (it : FlyingFrame) → Always (OneEach q w) past → slice_get (sent_if q past w) k ≡ Some it → length (sent_if q it.before w) ≡ k
place_of q [] w k it one h = absurd (get_none k it h)
place_of q (e ∷ past) w k it one h = go (λ g. place_of q past w k it one.1 g) (is_of (sender_of w) e) refl
  where
    new : (slice_get (sent_if q past w) k ≡ Some it → length (sent_if q it.before w) ≡ k) → (gs : List FrameView) → AtMostOne gs → slice_get (sent_if q past w ++ map (flying_frame e past) gs) k ≡ Some it → length (sent_if q it.before w) ≡ k
    new ih [] o g = ih (rw append-nil at g)
    new ih (x ∷ []) o g = elim (get_last (sent_if q past w) (flying_frame e past x) k it g) [ inl s ↦ ih s | inr s ↦ subst (λ (y : FlyingFrame). length (sent_if q y.before w) ≡ k) s.1 (sym s.0) ]
    new ih (x ∷ y ∷ gs) o g = absurd o

    go : (slice_get (sent_if q past w) k ≡ Some it → length (sent_if q it.before w) ≡ k) → (b : Bool) → is_of (sender_of w) e ≡ b → length (sent_if q it.before w) ≡ k
    go ih false is = ih (rw is at h)
    go ih true is = new ih (filter (says q) (on_way w e)) (one.0 is) (subst (λ xs. slice_get xs k ≡ Some it) (sent_if-step q e past w is) h)

-- the answer that a client may take is to its last request, where its sender had answered as many as it had taken at an entry, which took that one
pub turn_of : (past : List Entry) (w : Way) (f g : FrameView) → Always (Prefix w) past → Always (Prefix (up_of w)) past → Always (OneEach is_answer w) past
    → (t : MayTake past w f) → says is_answer f ≡ true → length (requests past (up_of w)) ≡ taken_if is_answer past w + 1
    → (x : Entry) (before : List Entry) → Occurs past x before → length (answers t.it.before w) ≡ taken_if is_request before (up_of w) → (asked : MayTake before (up_of w) g) → says is_request g ≡ true
    → last_request past (up_of w) ≡ Some asked.it
turn_of past w f g down up one t answer awaits x before occurs turn asked request =
    let a : slice_get (answers past w) (taken_if is_answer past w) ≡ Some t.it = next_of is_answer past w f down t answer in
    let b : length (answers t.it.before w) ≡ taken_if is_answer past w = place_of is_answer past w (taken_if is_answer past w) t.it one a in
    let c : slice_get (requests before (up_of w)) (taken_if is_request before (up_of w)) ≡ Some asked.it = next_of is_request before (up_of w) g (always_before (Prefix (up_of w)) past x before up occurs) asked request in
    let d : taken_if is_request before (up_of w) ≡ taken_if is_answer past w = sym turn ∙ b in
    let e = sent_if-prefix is_request past x before (up_of w) occurs in
    let at : slice_get (requests past (up_of w)) (taken_if is_answer past w) ≡ Some asked.it =
    subst (λ xs. slice_get xs (taken_if is_answer past w) ≡ Some asked.it) (sym e.1)
    (slice_get-left (requests before (up_of w)) e.0 (taken_if is_answer past w) asked.it (subst (λ k. slice_get (requests before (up_of w)) k ≡ Some asked.it) d c)) in
    last_get (requests past (up_of w)) (taken_if is_answer past w) asked.it at awaits

-- that entry is the one that sends the answer
pub right_turn : (past : List Entry) (w : Way) (f g : FrameView) → Always (Prefix w) past → Always (Prefix (up_of w)) past → Always (OneEach is_answer w) past
    → (t : MayTake past w f) → says is_answer f ≡ true → length (requests past (up_of w)) ≡ taken_if is_answer past w + 1
    → length (answers t.it.before w) ≡ taken_if is_request t.it.before (up_of w) → (asked : MayTake t.it.before (up_of w) g) → says is_request g ≡ true
    → last_request past (up_of w) ≡ Some asked.it
right_turn past w f g down up one t answer awaits turn asked request =
    turn_of past w f g down up one t answer awaits t.it.entry t.it.before (sending past w (taken_count past w) t.it t.next).occurs turn asked request
