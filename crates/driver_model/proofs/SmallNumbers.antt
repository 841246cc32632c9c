-- The numbers of an end are at most twice as many as the entries of the run.
use Rattle.std.proofs.Common.{◌≡◌, ℕ, zero, suc, ◌+◌, ◌<◌, ◌≤◌, Bool, true, false, List, [], ◌∷◌, ◌++◌, Option, Some, None, refl, sym, ap, ◌∙◌, subst, arith}
use Rattle.std.specs.Prelude.{◌*◌, ◌&&◌, ◌==◌, filter, if◌then◌else◌, length, map, nat_le, slice_get}
use Rattle.std.proofs.lemmas.Bool.{and_parts, eqb-true}
use Rattle.std.proofs.lemmas.Bool.Decides.{nat_tests}
use Rattle.std.proofs.lemmas.List.{length-map}
use Rattle.annex_base.specs.Lists.{Each}
use Rattle.annex_base.specs.declared.kinds.Word.{Word}
use Rattle.annex_base.proofs.Conditions.{eqb_refl, same_bool_is}
use Rattle.annex_base.proofs.Lists.{Each-append}
use Rattle.annex_base.specs.Bools.{same_bool}
use Rattle.run_data.specs.declared.entry.Entry.{Entry}
use Rattle.run_data.specs.declared.entry.FrameView.{FrameView}
use Rattle.run_data.specs.declared.entry.FrameText.{FrameText}
use Rattle.run_data.specs.declared.entry.FrameText.TheVariants.{Opening, Closing, Bytes, Line}
use Rattle.run_data.specs.declared.run.Run.{Run}
use Rattle.run_model.specs.Frames.{FlyingFrame, MayTake, Way, flying_frame, frames_sent, is_on, on_way, sender_of, taken_count, taker_of, way_of}
use Rattle.run_model.specs.Past.{is_of}
use Rattle.run_model.specs.Run.{MayBe, OwnPart, RunPast, RunStep, set_up}
use Rattle.run_model.specs.States.{end_at}
use Rattle.node_model.specs.Ends.{End, EndName, end_after, end_sends, end_takes, end_took, is_opening, sent_at, taken_at, takes_at}
use Rattle.node_model.specs.Rows.{option_is}
use Rattle.node_model.specs.SetUp.{SetUp}
use Rattle.driver_model.specs.Driver.{Driver, DriverInput}
use Rattle.driver_model.specs.Sound.{IsSound}
use Rattle.driver_model.specs.Ways.{InOrder}
use Rattle.driver_model.proofs.EndLemmas.{sends_all}
use Rattle.driver_model.proofs.FewFrames.{few_sent}
use Rattle.driver_model.proofs.FrameNumbers.{TakesWell}
use Rattle.driver_model.proofs.Holding.{run_on, steps_on}
use Rattle.driver_model.proofs.Premises.{EntryLaws}
use Rattle.driver_model.proofs.WayNumbers.{order_begins, order_other, order_own}

-- ---- one end

-- neither number is greater
pub record AtMost (c : End) (n : ℕ) : Type 0 where
  pub sent : c.sent ≤ n
  pub epoch : c.epoch ≤ n

wider : (c : End) (m n : ℕ) → m ≤ n → AtMost c m → AtMost c n
wider c m n i x = let j = x.sent in let k = x.epoch in record { sent = omega (arith, i, j); epoch = omega (arith, i, k) }

one_sent : (c : End) (body : FrameText) (n : ℕ) → AtMost c n → AtMost (end_sends c body) (n + 1)
one_sent c Opening n x = let k = x.epoch in record { sent = omega arith; epoch = omega (arith, k) }
one_sent c Closing n x = let j = x.sent in let k = x.epoch in record { sent = omega (arith, j); epoch = omega (arith, k) }
one_sent c (Bytes m) n x = let j = x.sent in let k = x.epoch in record { sent = omega (arith, j); epoch = omega (arith, k) }
one_sent c (Line text) n x = let j = x.sent in let k = x.epoch in record { sent = omega (arith, j); epoch = omega (arith, k) }

all_sent : (c : End) (fs : List FrameView) (n : ℕ) → AtMost c n → AtMost (sends_all c fs) (n + length fs)
all_sent c [] n x = wider c n (n + 0) (omega arith) x
all_sent c (f ∷ fs) n x = wider (sends_all (end_sends c f.body) fs) (n + 1 + length fs) (n + length (f ∷ fs)) (omega arith) (all_sent (end_sends c f.body) fs (n + 1) (one_sent c f.body n x))

one_taken : (c : End) (m : ℕ) (body : FrameText) (n : ℕ) → m ≤ n → AtMost c n → AtMost (end_takes c m body) n
one_taken c m Opening n i x = record { sent = omega arith; epoch = i }
one_taken c m Closing n i x = record { sent = x.sent; epoch = x.epoch }
one_taken c m (Bytes k) n i x = x
one_taken c m (Line text) n i x = x

-- ---- a run

-- a frame that goes down opens nothing
abbrev Down : FrameView → Type 0
Down g = g.up ≡ false → is_opening g.body ≡ false

-- what is known of the frames that were sent on a way
abbrev GoesWell : Way → FlyingFrame → Type 0
GoesWell w x = (x.frame.up ≡ w.up) × Down x.frame

-- what holds after entries of a run
pub record Kept (past : List Entry) : Type 0 where
  pub order : (r : ℕ) (a : EndName) (n : ℕ) → InOrder past r a n
  pub sent : (w : Way) → Each (GoesWell w) (frames_sent past w)
  pub small : (r : ℕ) (a : EndName) → AtMost (end_at past r a) (2 * length past)

at_each : {X : Type 0} (P : X → Type 0) (xs : List X) (i : ℕ) (x : X) → slice_get xs i ≡ Some x → Each P xs → P x
at_each P [] i x e all = absurd (cc)
at_each P (y ∷ xs) zero x e all = let same : y ≡ x = cc in subst P same all.0
at_each P (y ∷ xs) (suc i) x e all = at_each P xs i x e all.1

some_there : {X : Type 0} (xs : List X) (i : ℕ) (x : X) → slice_get xs i ≡ Some x → length xs ≡ 0 → ⊥
some_there [] i x e none = absurd (cc)
some_there (y ∷ xs) i x e none = omega (arith, none)

kept_first : Kept []
kept_first = record { order = order_begins; sent = λ w. tt; small = λ r a. record { sent = omega arith; epoch = omega arith } }

sent_well : (w : Way) (e : Entry) (past : List Entry) (fs : List FrameView) → Each Down fs → Each (GoesWell w) (map (flying_frame e past) (filter (is_on w (taker_of w)) fs))
sent_well w e past [] all = tt
sent_well w e past (g ∷ fs) all = go (is_on w (taker_of w) g) refl (sent_well w e past fs all.1)
  where
    up : is_on w (taker_of w) g ≡ true → g.up ≡ w.up
    up is =
        let one = and_parts (g.peer == taker_of w) ((g.slot == w.slot) && (same_bool g.up w.up && (g.epoch == w.epoch))) is in
        let two = and_parts (g.slot == w.slot) (same_bool g.up w.up && (g.epoch == w.epoch)) one.1 in
        same_bool_is g.up w.up (and_parts (same_bool g.up w.up) (g.epoch == w.epoch) two.1).0

    go : (b : Bool) → is_on w (taker_of w) g ≡ b → Each (GoesWell w) (map (flying_frame e past) (filter (is_on w (taker_of w)) fs)) → Each (GoesWell w) (map (flying_frame e past) (filter (is_on w (taker_of w)) (g ∷ fs)))
    go true is more = rw is ((up is, all.0), more)
    go false is more = rw is more

longer : (past : List Entry) (e : Entry) → 2 * length past + 2 ≤ 2 * length (e ∷ past)
longer past e = omega arith

-- ---- an entry of no repository, which is of none

module _ (past : List Entry) (e : Entry) (kept : Kept past) where
  sent_others : (w : Way) → is_of (sender_of w) e ≡ false → Each (GoesWell w) (frames_sent (e ∷ past) w)
  sent_others w other = subst (Each (GoesWell w)) (sym same) (kept.sent w)
    where
      same : frames_sent (e ∷ past) w ≡ frames_sent past w
      same = rw other refl

  small_others : (r : ℕ) (a : EndName) → is_of r e ≡ false → AtMost (end_at (e ∷ past) r a) (2 * length (e ∷ past))
  small_others r a other = let i = longer past e in
      subst (λ (c : End). AtMost c (2 * length (e ∷ past))) (sym same) (wider (end_at past r a) (2 * length past) (2 * length (e ∷ past)) (omega (arith, i)) (kept.small r a))
    where
      same : end_at (e ∷ past) r a ≡ end_at past r a
      same = rw other refl

  kept_wait : e.repo ≡ None → Kept (e ∷ past)
  kept_wait none = record {
    order = λ r a n. order_other r a n past e (other r) (kept.order r a n);
    sent = λ w. sent_others w (other (sender_of w));
    small = λ r a. small_others r a (other r);
  }
    where
      other : (r : ℕ) → is_of r e ≡ false
      other r = ap (λ (o : Option ℕ). option_is o r) none

  -- ---- an entry of a repository

  module _ (laws : EntryLaws) (s : SetUp) (words : ℕ → Option Word) (mine : e.repo ≡ Some s.number) (own : OwnPart s past words e) (takes : (f : FrameView) → e.taken ≡ Some f → MayTake past (way_of s.number f) f) where
    is_own : is_of s.number e ≡ true
    is_own = ap (λ (o : Option ℕ). option_is o s.number) mine ∙ eqb_refl s.number

    well : TakesWell e.taken
    well f i down =
        let t = takes f i in
        let x = at_each (GoesWell (way_of s.number f)) (frames_sent past (way_of s.number f)) (taken_count past (way_of s.number f)) t.it t.next (kept.sent (way_of s.number f)) in
        ap is_opening (sym t.body_is) ∙ x.1 (x.0 ∙ down)

    -- its epoch is one that the end had which sent it
    low : (f : FrameView) → e.taken ≡ Some f → f.epoch ≤ 2 * length past
    low f i = go (nat_le f.epoch (end_at past f.peer b).epoch) refl
      where
        b : EndName
        b = record { peer = s.number; slot = f.slot; client = f.up }

        t : MayTake past (way_of s.number f) f
        t = takes f i

        count : length (map (λ (x : FlyingFrame). x.frame) (frames_sent past (way_of s.number f))) ≡ 0 → ⊥
        count none = some_there (frames_sent past (way_of s.number f)) (taken_count past (way_of s.number f)) t.it t.next (sym (length-map (frames_sent past (way_of s.number f)) (λ (x : FlyingFrame). x.frame)) ∙ none)

        go : (q : Bool) → nat_le f.epoch (end_at past f.peer b).epoch ≡ q → f.epoch ≤ 2 * length past
        go true j = let k = (kept.small f.peer b).epoch in let l : f.epoch ≤ (end_at past f.peer b).epoch = grind (arith, nat_tests) in omega (arith, k, l)
        go false j = let l : (end_at past f.peer b).epoch < f.epoch = grind (arith, nat_tests) in absurd (count ((kept.order f.peer b f.epoch).counted.not_yet l))

    took_small : (a : EndName) → AtMost (end_took (end_at past s.number a) (taken_at a e.taken)) (2 * length past)
    took_small a = go e.taken refl
      where
        at : (f : FrameView) → e.taken ≡ Some f → (q : Bool) → AtMost (end_took (end_at past s.number a) (if q then Some f else None)) (2 * length past)
        at f i true = one_taken (end_at past s.number a) f.epoch f.body (2 * length past) (low f i) (kept.small s.number a)
        at f i false = kept.small s.number a

        go : (o : Option FrameView) → e.taken ≡ o → AtMost (end_took (end_at past s.number a) (taken_at a o)) (2 * length past)
        go None i = kept.small s.number a
        go (Some f) i = at f i (takes_at a f)

    small_own : (a : EndName) → AtMost (end_at (e ∷ past) s.number a) (2 * length (e ∷ past))
    small_own a =
        let few = few_sent laws.finds s past words e a own in
        let i = longer past e in
        subst (λ (c : End). AtMost c (2 * length (e ∷ past))) (sym same)
        (wider (sends_all (end_took (end_at past s.number a) (taken_at a e.taken)) (sent_at a e.sent)) (2 * length past + length (sent_at a e.sent)) (2 * length (e ∷ past)) (omega (arith, few, i))
        (all_sent (end_took (end_at past s.number a) (taken_at a e.taken)) (sent_at a e.sent) (2 * length past) (took_small a)))
      where
        same : end_at (e ∷ past) s.number a ≡ end_after a (end_at past s.number a) e
        same = rw is_own refl

    number_is : (r : ℕ) → is_of r e ≡ true → s.number ≡ r
    number_is r is = eqb-true s.number r (sym (ap (λ (o : Option ℕ). option_is o r) mine) ∙ is)

    order_after : (r : ℕ) (a : EndName) (n : ℕ) → InOrder (e ∷ past) r a n
    order_after r a n = go (is_of r e) refl
      where
        go : (q : Bool) → is_of r e ≡ q → InOrder (e ∷ past) r a n
        go false i = order_other r a n past e i (kept.order r a n)
        go true i = subst (λ (k : ℕ). InOrder (e ∷ past) k a n) (number_is r i) (order_own laws s a n past words e is_own own well (kept.order s.number a n))

    sent_after : (w : Way) → Each (GoesWell w) (frames_sent (e ∷ past) w)
    sent_after w = go (is_of (sender_of w) e) refl
      where
        same : is_of (sender_of w) e ≡ true → frames_sent (e ∷ past) w ≡ frames_sent past w ++ map (flying_frame e past) (on_way w e)
        same i = rw i refl

        go : (q : Bool) → is_of (sender_of w) e ≡ q → Each (GoesWell w) (frames_sent (e ∷ past) w)
        go false i = sent_others w i
        go true i = subst (Each (GoesWell w)) (sym (same i))
            (Each-append (GoesWell w) (frames_sent past w) (map (flying_frame e past) (on_way w e)) (kept.sent w) (sent_well w e past e.sent (laws.sends s past words e own)))

    small_after : (r : ℕ) (a : EndName) → AtMost (end_at (e ∷ past) r a) (2 * length (e ∷ past))
    small_after r a = go (is_of r e) refl
      where
        go : (q : Bool) → is_of r e ≡ q → AtMost (end_at (e ∷ past) r a) (2 * length (e ∷ past))
        go false i = small_others r a i
        go true i = subst (λ (k : ℕ). AtMost (end_at (e ∷ past) k a) (2 * length (e ∷ past))) (number_is r i) (small_own a)

    kept_own : Kept (e ∷ past)
    kept_own = record { order = order_after; sent = sent_after; small = small_after }

kept_next : EntryLaws → (run : Run) (past : List Entry) (e : Entry) → RunStep (set_up run) past e → Kept past → Kept (e ∷ past)
kept_next laws run past e step before = go e.repo refl step.may
  where
    go : (o : Option ℕ) → e.repo ≡ o → MayBe (set_up run) past e o → Kept (e ∷ past)
    go None i may = kept_wait past e before i
    go (Some r) i may = kept_own past e before laws (set_up run r) may.0 i may.1 may.2.takes

kept_run : EntryLaws → (run : Run) (past : List Entry) → RunPast (set_up run) past → Kept past
kept_run laws run [] steps = kept_first
kept_run laws run (e ∷ past) steps = kept_next laws run past e steps.0 (kept_run laws run past steps.1)

-- in a driver that is sound
pub small_ends : EntryLaws → (g : DriverInput) (d : Driver) (r : ℕ) (a : EndName) → IsSound g d → AtMost (end_at d.past r a) (2 * length d.past)
small_ends laws g d r a sound = (kept_run laws (run_on g d.tree d.marks d.past) d.past (steps_on g d.tree d.marks d.past sound.run)).small r a
