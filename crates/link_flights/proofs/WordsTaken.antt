-- The words beside the frames at hand at a client's end, after an entry of its repository.
use Rattle.std.proofs.Common.{◌≡◌, ◌≢◌, ◌⊎◌, inl, inr, ℕ, zero, suc, ◌+◌, ◌≤◌, Bool, true, false, not, ◌&&◌, List, [], ◌∷◌, Option, Some, None, refl, sym, ap, ◌∙◌, subst, arith}
use Rattle.std.specs.Prelude.{◌==◌, drop, filter, find, if◌then◌else◌, IfSome, length, slice_get}
use Rattle.std.specs.List.{AllZip}
use Rattle.std.specs.Option.{option_map}
use Rattle.std.proofs.lemmas.Bool.{eqb-true, ne_eqb}
use Rattle.annex_base.specs.Lists.{Each}
use Rattle.annex_base.proofs.Conditions.{eqb_refl}
use Rattle.annex_base.specs.Bools.{same_bool}
use Rattle.link_ring.specs.declared.frame.Frame.{Frame}
use Rattle.link_ring.specs.Ends.{EndView, after_drop, is_taken, next_frame}
use Rattle.run_data.specs.declared.entry.Entry.{Entry}
use Rattle.run_data.specs.declared.entry.FrameView.{FrameView}
use Rattle.run_model.specs.Frames.{Way, frames_sent, is_on, taken_count, takes}
use Rattle.run_model.specs.Past.{is_of}
use Rattle.run_model.specs.States.{end_at}
use Rattle.node_model.specs.Ends.{End, EndName, end_after, end_took, sent_at, taken_at, takes_at}
use Rattle.node_model.specs.Rows.{option_is}
use Rattle.node_ends.specs.Ends.{frame_at, stands}
use Rattle.driver_model.specs.Ways.{IsOver}
use Rattle.link_flights.specs.Words.{AreWorded, HasItsWord, HaveWords, of_epoch, way_down}
use Rattle.link_flights.proofs.Dropped.{old_same}
use Rattle.link_flights.proofs.Flown.{without_taken}
use Rattle.link_flights.proofs.Lists.{filter_within, rest}
use Rattle.link_flights.proofs.Passed.{is_over, over_or, over_sent, over_taken}

-- ---- lists of which each has its fellow

shift : (k : ℕ) → suc (k + 1) ≡ suc k + 1
shift k = omega arith

module _ {X Y : Type 0} (P : X → Y → Type 0) where
  -- the first of what is left, and what is left after it
  pub record FirstOf (x : X) (xs : List X) (k : ℕ) (ys : List Y) : Type 0 where
    pub y : Y
    pub at : slice_get ys k ≡ Some y
    pub it : P x y
    pub inside : k + 1 ≤ length ys
    pub more : AllZip P xs (drop (k + 1) ys)

  pub first_of_zip : (x : X) (xs : List X) (k : ℕ) (ys : List Y) → AllZip P (x ∷ xs) (drop k ys) → FirstOf x xs k ys
  first_of_zip x xs zero [] a = absurd a
  first_of_zip x xs zero (y ∷ ys) a = record { y = y; at = refl; it = a.0; inside = omega arith; more = a.1 }
  first_of_zip x xs (suc k) [] a = absurd a
  first_of_zip x xs (suc k) (y ∷ ys) a =
      let z = first_of_zip x xs k ys a in
      let i = z.inside in
      record { y = z.y; at = z.at; it = z.it; inside = omega (arith, i); more = subst (λ m. AllZip P xs (drop m (y ∷ ys))) (shift k) z.more }

-- where both counts are the same
pub words_as : (past after : List Entry) (w : Way) (xs : List Frame) → frames_sent after w ≡ frames_sent past w → taken_count after w ≡ taken_count past w → HaveWords past w xs → HaveWords after w xs
words_as past after w xs sent taken h = record {
  inside = subst (λ k. k ≤ length (frames_sent after w)) (sym taken) (subst (λ fs. taken_count past w ≤ length fs) (sym sent) h.inside);
  words = subst (λ k. AllZip HasItsWord (of_epoch w.epoch xs) (drop k (frames_sent after w))) (sym taken)
      (subst (λ fs. AllZip HasItsWord (of_epoch w.epoch xs) (drop (taken_count past w) fs)) (sym sent) h.words);
}

-- ---- old frames are dropped

pub words_dropped : (past : List Entry) (r : ℕ) (a : EndName) (v : EndView) → end_at past r a ≡ stands v → AreWorded past r a v.at_hand → AreWorded past r a (after_drop v).at_hand
words_dropped past r a v stood worded n = go (worded n) (over_or (end_at past r a) n)
  where
    stays : is_over (end_at past r a) n ≡ false → (x : Frame) → (x.epoch == n) ≡ true → is_taken v x ≡ true
    stays young x is = sym (old_same v a x) ∙ ap not (ap (is_over (stands v)) (eqb-true x.epoch n is) ∙ ap (λ (c : End). is_over c n) (sym stood) ∙ young)

    go : IsOver (end_at past r a) n ⊎ HaveWords past (way_down r a n) v.at_hand → IsOver (end_at past r a) n ⊎ (is_over (end_at past r a) n ≡ false)
        → IsOver (end_at past r a) n ⊎ HaveWords past (way_down r a n) (filter (is_taken v) v.at_hand)
    go (inl o) young = inl o
    go (inr h) (inl o) = inl o
    go (inr h) (inr young) = inr (record {
      inside = h.inside;
      words = subst (λ xs. AllZip HasItsWord xs (drop (taken_count past (way_down r a n)) (frames_sent past (way_down r a n)))) (sym (filter_within (λ x. x.epoch == n) (is_taken v) (stays young) v.at_hand)) h.words;
    })

-- ---- an entry takes there

-- where none is old, the next frame is the first
hand_first : (a : EndName) (v : EndView) (xs : List Frame) (f : FrameView) → Each (λ x. is_taken v x ≡ true) xs → option_map (frame_at a) (find (is_taken v) xs) ≡ Some f
    → (g : Frame) × (ys : List Frame) × (xs ≡ g ∷ ys) × (frame_at a g ≡ f)
hand_first a v [] f all is = absurd (cc)
hand_first a v (g ∷ ys) f all is = (g, ys, refl, (let it : Some (frame_at a g) ≡ Some f = rw all.0 at is in let same : frame_at a g ≡ f = cc in same))

on_form : (p s u t : Bool) → (p && (s && (same_bool u false && t))) ≡ (((p && s) && (if u then false else true)) && t)
on_form false s u t = refl
on_form true false u t = refl
on_form true true true t = refl
on_form true true false t = refl

module _ (past : List Entry) (r : ℕ) (a : EndName) (client : a.client ≡ true) (e : Entry) (mine : e.repo ≡ Some r) (apart : a.peer ≢ r) where
  of_own : is_of r e ≡ true
  of_own = ap (λ (o : Option ℕ). option_is o r) mine ∙ eqb_refl r

  of_peer : is_of a.peer e ≡ false
  of_peer = ap (λ (o : Option ℕ). option_is o a.peer) mine ∙ ne_eqb r a.peer (λ same. apart (sym same))

  pub over_own : (v : EndView) (n : ℕ) → end_at past r a ≡ stands v → IfSome (taken_at a e.taken) (λ f. option_map (frame_at a) (next_frame v) ≡ Some f)
      → IsOver (end_at past r a) n → IsOver (end_at (e ∷ past) r a) n
  over_own v n stood takes over = subst (λ (c : End). IsOver c n) (sym same) (over_sent (end_took (end_at past r a) (taken_at a e.taken)) (sent_at a e.sent) n
      (subst (λ (c : End). IsOver (end_took c (taken_at a e.taken)) n) (sym stood) (over_taken v a (taken_at a e.taken) n takes (subst (λ (c : End). IsOver c n) stood over))))
    where
      same : end_at (e ∷ past) r a ≡ end_after a (end_at past r a) e
      same = rw of_own refl

  module _ (n : ℕ) where
    abbrev w : Way
    w = way_down r a n

    sent_still : frames_sent (e ∷ past) w ≡ frames_sent past w
    sent_still = rw of_peer refl

    count : (b : Bool) → takes w e.taken ≡ b → taken_count (e ∷ past) w ≡ (if b then taken_count past w + 1 else taken_count past w)
    count b i = rw (of_own, i) refl

    on_takes : (f : FrameView) → is_on w a.peer f ≡ (takes_at a f && (f.epoch == n))
    on_takes f = on_form (f.peer == a.peer) (f.slot == a.slot) f.up (f.epoch == n)
        ∙ ap (λ (c : Bool). (((f.peer == a.peer) && (f.slot == a.slot)) && same_bool c (if f.up then false else true)) && (f.epoch == n)) (sym client)

    none_taken : (xs : List Frame) → takes w e.taken ≡ false → HaveWords past w xs → HaveWords (e ∷ past) w xs
    none_taken xs i h = words_as past (e ∷ past) w xs sent_still (count false i) h

    first_off : (g : Frame) (ys : List Frame) → (g.epoch == n) ≡ false → of_epoch n (g ∷ ys) ≡ of_epoch n ys
    first_off g ys j = rw j refl

    first_on : (g : Frame) (ys : List Frame) → (g.epoch == n) ≡ true → of_epoch n (g ∷ ys) ≡ g ∷ of_epoch n ys
    first_on g ys j = rw j refl

    -- the first is taken
    one_taken : (g : Frame) (ys : List Frame) → takes w e.taken ≡ (g.epoch == n) → HaveWords past w (g ∷ ys) → HaveWords (e ∷ past) w ys
    one_taken g ys i h = go (g.epoch == n) refl
      where
        go : (b : Bool) → (g.epoch == n) ≡ b → HaveWords (e ∷ past) w ys
        go false j = none_taken ys (i ∙ j) (record {
          inside = h.inside;
          words = subst (λ xs. AllZip HasItsWord xs (drop (taken_count past w) (frames_sent past w))) (first_off g ys j) h.words;
        })
        go true j =
            let z = first_of_zip HasItsWord g (of_epoch n ys) (taken_count past w) (frames_sent past w)
            (subst (λ xs. AllZip HasItsWord xs (drop (taken_count past w) (frames_sent past w))) (first_on g ys j) h.words) in
            record {
              inside = subst (λ k. k ≤ length (frames_sent (e ∷ past) w)) (sym (count true (i ∙ j))) (subst (λ fs. taken_count past w + 1 ≤ length fs) (sym sent_still) z.inside);
              words = subst (λ k. AllZip HasItsWord (of_epoch n ys) (drop k (frames_sent (e ∷ past) w))) (sym (count true (i ∙ j)))
                  (subst (λ fs. AllZip HasItsWord (of_epoch n ys) (drop (taken_count past w + 1) fs)) (sym sent_still) z.more);
            }

    taken_words : (v : EndView) (o : Option FrameView) → e.taken ≡ o → IfSome (taken_at a o) (λ f. option_map (frame_at a) (next_frame v) ≡ Some f)
        → Each (λ x. is_taken v x ≡ true) v.at_hand → HaveWords past w v.at_hand → HaveWords (e ∷ past) w (without_taken (taken_at a o) v.at_hand)
    taken_words v None i takes_it young h = none_taken v.at_hand (ap (takes w) i) h
    taken_words v (Some f) i takes_it young h = go (takes_at a f) refl takes_it
      where
        go : (b : Bool) → takes_at a f ≡ b → IfSome (if b then Some f else None) (λ f. option_map (frame_at a) (next_frame v) ≡ Some f)
            → HaveWords (e ∷ past) w (without_taken (if b then Some f else None) v.at_hand)
        go false j it = none_taken v.at_hand (ap (takes w) i ∙ on_takes f ∙ ap (λ b. b && (f.epoch == n)) j) h
        go true j it =
            let z = hand_first a v v.at_hand f young it in
            let first : takes w e.taken ≡ (z.0.epoch == n) = ap (takes w) i ∙ on_takes f ∙ ap (λ b. b && (f.epoch == n)) j ∙ ap (λ (h : FrameView). h.epoch == n) (sym z.3) in
            subst (λ xs. HaveWords (e ∷ past) w xs) (sym (ap rest z.2)) (one_taken z.0 z.1 first (subst (λ xs. HaveWords past w xs) z.2 h))

  -- what is at hand after the entry took its frame, if it took one there
  pub words_taken : (v : EndView) → end_at past r a ≡ stands v → IfSome (taken_at a e.taken) (λ f. option_map (frame_at a) (next_frame v) ≡ Some f)
      → Each (λ x. is_taken v x ≡ true) v.at_hand → AreWorded past r a v.at_hand → AreWorded (e ∷ past) r a (without_taken (taken_at a e.taken) v.at_hand)
  words_taken v stood takes_it young worded n = go (worded n)
    where
      go : IsOver (end_at past r a) n ⊎ HaveWords past (way_down r a n) v.at_hand
          → IsOver (end_at (e ∷ past) r a) n ⊎ HaveWords (e ∷ past) (way_down r a n) (without_taken (taken_at a e.taken) v.at_hand)
      go (inl o) = inl (over_own v n stood takes_it o)
      go (inr h) = inr (taken_words n v e.taken refl takes_it young h)

  -- it takes nothing
  pub words_still : (v : EndView) → end_at past r a ≡ stands v → e.taken ≡ None → AreWorded past r a v.at_hand → AreWorded (e ∷ past) r a v.at_hand
  words_still v stood none worded n = go (worded n)
    where
      go : IsOver (end_at past r a) n ⊎ HaveWords past (way_down r a n) v.at_hand → IsOver (end_at (e ∷ past) r a) n ⊎ HaveWords (e ∷ past) (way_down r a n) v.at_hand
      go (inl o) = inl (over_own v n stood (subst (λ (o : Option FrameView). IfSome (taken_at a o) (λ f. option_map (frame_at a) (next_frame v) ≡ Some f)) (sym none) tt) o)
      go (inr h) = inr (none_taken n v.at_hand (ap (takes (way_down r a n)) none) h)
