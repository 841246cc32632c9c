-- In a run the frames of each way have the numbers from 1 on, and the end that sends them knows how many they are.
use Rattle.std.proofs.Common.{◌≡◌, ℕ, zero, suc, Bool, true, false, List, [], ◌∷◌, ◌++◌, Option, Some, None, refl, sym, ap, subst, ◌∙◌}
use Rattle.std.specs.Prelude.{◌==◌, ◌&&◌, filter, map, slice_get}
use Rattle.std.proofs.lemmas.Bool.{and_parts, eqb-true}
use Rattle.annex_base.specs.Bools.{same_bool}
use Rattle.annex_base.specs.Lists.{Each}
use Rattle.annex_base.specs.declared.kinds.Word.{Word}
use Rattle.annex_base.proofs.Conditions.{eqb_refl, same_bool_is}
use Rattle.annex_base.proofs.Lists.{Each-append}
use Rattle.run_data.specs.declared.entry.Entry.{Entry}
use Rattle.run_data.specs.declared.entry.FrameView.{FrameView}
use Rattle.run_data.specs.declared.run.Run.{Run}
use Rattle.node_model.specs.Ends.{EndName, is_opening}
use Rattle.node_model.specs.Rows.{option_is}
use Rattle.node_model.specs.SetUp.{SetUp}
use Rattle.run_model.specs.Frames.{FlyingFrame, MayTake, Way, flying_frame, frames_sent, is_on, on_way, sender_of, taken_count, taker_of, way_of}
use Rattle.run_model.specs.Past.{is_of}
use Rattle.run_model.specs.Run.{MayBe, OwnPart, RunPast, RunStep, set_up}
use Rattle.driver_model.specs.Ways.{InOrder}
use Rattle.driver_model.proofs.FrameNumbers.{TakesWell}
use Rattle.driver_model.proofs.Premises.{EntryLaws}
use Rattle.driver_model.proofs.WayNumbers.{order_begins, order_other, order_own}

-- a frame that goes down opens nothing
abbrev Down : FrameView → Type 0
Down g = g.up ≡ false → is_opening g.body ≡ false

-- what is known of the frames that were sent on a way
abbrev GoesWell : Way → FlyingFrame → Type 0
GoesWell w x = (x.frame.up ≡ w.up) × Down x.frame

-- what holds after entries of a run
record Kept (past : List Entry) : Type 0 where
  order : (r : ℕ) (a : EndName) (n : ℕ) → InOrder past r a n
  sent : (w : Way) → Each (GoesWell w) (frames_sent past w)

at_each : {X : Type 0} (P : X → Type 0) (xs : List X) (i : ℕ) (x : X) → slice_get xs i ≡ Some x → Each P xs → P x
at_each P [] i x e all = absurd (cc)
at_each P (y ∷ xs) zero x e all = let same : y ≡ x = cc in subst P same all.0
at_each P (y ∷ xs) (suc i) x e all = at_each P xs i x e all.1

sent_well : (w : Way) (e : Entry) (past : List Entry) (fs : List FrameView) → Each Down fs → Each (GoesWell w) (map (flying_frame e past) (filter (is_on w (taker_of w)) fs))
sent_well w e past [] all = tt
sent_well w e past (g ∷ fs) all = go (is_on w (taker_of w) g) refl (sent_well w e past fs all.1)
  where
    up : is_on w (taker_of w) g ≡ true → g.up ≡ w.up
    up is =
        let one = and_parts (g.peer == taker_of w) ((g.slot == w.slot) && (same_bool g.up w.up && (g.epoch == w.epoch))) is in
        let two = and_parts (g.slot == w.slot) (same_bool g.up w.up && (g.epoch == w.epoch)) one.1 in
        same_bool_is g.up w.up (and_parts (same_bool g.up w.up) (g.epoch == w.epoch) two.1).0

    go : (b : Bool) → is_on w (taker_of w) g ≡ b → Each (GoesWell w) (map (flying_frame e past) (filter (is_on w (taker_of w)) fs)) → Each (GoesWell w) (map (flying_frame e past) (filter (is_on w (taker_of w)) (g ∷ fs)))
    go true is more = rw is ((up is, all.0), more)
    go false is more = rw is more

kept_first : Kept []
kept_first = record { order = order_begins; sent = λ w. tt }

module _ (past : List Entry) (e : Entry) (kept : Kept past) where
  sent_others : (w : Way) → is_of (sender_of w) e ≡ false → Each (GoesWell w) (frames_sent (e ∷ past) w)
  sent_others w other = subst (Each (GoesWell w)) (sym same) (kept.sent w)
    where
      same : frames_sent (e ∷ past) w ≡ frames_sent past w
      same = rw other refl

  kept_wait : e.repo ≡ None → Kept (e ∷ past)
  kept_wait none = record { order = λ r a n. order_other r a n past e (other r) (kept.order r a n); sent = λ w. sent_others w (other (sender_of w)) }
    where
      other : (r : ℕ) → is_of r e ≡ false
      other r = ap (λ (o : Option ℕ). option_is o r) none

  module _ (laws : EntryLaws) (s : SetUp) (words : ℕ → Option Word) (mine : e.repo ≡ Some s.number) (own : OwnPart s past words e) (takes : (f : FrameView) → e.taken ≡ Some f → MayTake past (way_of s.number f) f) where
    is_own : is_of s.number e ≡ true
    is_own = ap (λ (o : Option ℕ). option_is o s.number) mine ∙ eqb_refl s.number

    well : TakesWell e.taken
    well f i down =
        let t = takes f i in
        let x = at_each (GoesWell (way_of s.number f)) (frames_sent past (way_of s.number f)) (taken_count past (way_of s.number f)) t.it t.next (kept.sent (way_of s.number f)) in
        ap is_opening (sym t.body_is) ∙ x.1 (x.0 ∙ down)

    number_is : (r : ℕ) → is_of r e ≡ true → s.number ≡ r
    number_is r is = eqb-true s.number r (sym (ap (λ (o : Option ℕ). option_is o r) mine) ∙ is)

    order_after : (r : ℕ) (a : EndName) (n : ℕ) → InOrder (e ∷ past) r a n
    order_after r a n = go (is_of r e) refl
      where
        go : (q : Bool) → is_of r e ≡ q → InOrder (e ∷ past) r a n
        go false i = order_other r a n past e i (kept.order r a n)
        go true i = subst (λ (k : ℕ). InOrder (e ∷ past) k a n) (number_is r i) (order_own laws s a n past words e is_own own well (kept.order s.number a n))

    sent_after : (w : Way) → Each (GoesWell w) (frames_sent (e ∷ past) w)
    sent_after w = go (is_of (sender_of w) e) refl
      where
        same : is_of (sender_of w) e ≡ true → frames_sent (e ∷ past) w ≡ frames_sent past w ++ map (flying_frame e past) (on_way w e)
        same i = rw i refl

        go : (q : Bool) → is_of (sender_of w) e ≡ q → Each (GoesWell w) (frames_sent (e ∷ past) w)
        go false i = sent_others w i
        go true i = subst (Each (GoesWell w)) (sym (same i))
            (Each-append (GoesWell w) (frames_sent past w) (map (flying_frame e past) (on_way w e)) (kept.sent w) (sent_well w e past e.sent (laws.sends s past words e own)))

    kept_own : Kept (e ∷ past)
    kept_own = record { order = order_after; sent = sent_after }

kept_next : EntryLaws → (run : Run) (past : List Entry) (e : Entry) → RunStep (set_up run) past e → Kept past → Kept (e ∷ past)
kept_next laws run past e step before = go e.repo refl step.may
  where
    go : (o : Option ℕ) → e.repo ≡ o → MayBe (set_up run) past e o → Kept (e ∷ past)
    go None i may = kept_wait past e before i
    go (Some r) i may = kept_own past e before laws (set_up run r) may.0 i may.1 may.2.takes

kept_run : EntryLaws → (run : Run) (past : List Entry) → RunPast (set_up run) past → Kept past
kept_run laws run [] steps = kept_first
kept_run laws run (e ∷ past) steps = kept_next laws run past e steps.0 (kept_run laws run past steps.1)

pub in_order : EntryLaws → (run : Run) (past : List Entry) → RunPast (set_up run) past → (r : ℕ) (a : EndName) (n : ℕ) → InOrder past r a n
in_order laws run past steps = (kept_run laws run past steps).order
