-- The frames that were sent on a way have the numbers from 1 on.
use Rattle.std.proofs.Common.{◌≡◌, ℕ, zero, suc, ◌+◌, ◌<◌, Bool, true, false, List, [], ◌∷◌, ◌++◌, Option, Some, None, refl, sym, ap, ◌∙◌, subst, arith}
use Rattle.std.specs.Prelude.{cond, if◌then◌else◌, ◌==◌, ◌&&◌, filter, length, map, nat_lt, not, slice_get}
use Rattle.std.proofs.lemmas.Bool.{and_parts, eqb-false, eqb-true}
use Rattle.std.proofs.lemmas.Bool.Decides.{nat_tests}
use Rattle.std.proofs.lemmas.List.{length-append, map-append}
use Rattle.annex_base.specs.declared.kinds.Word.{Word}
use Rattle.run_data.specs.declared.entry.Entry.{Entry}
use Rattle.run_data.specs.declared.entry.FrameView.{FrameView}
use Rattle.run_data.specs.declared.entry.FrameText.{FrameText}
use Rattle.run_data.specs.declared.entry.FrameText.TheVariants.{Opening, Closing, Bytes, Line}
use Rattle.run_model.specs.Frames.{Way, flying_frame, on_way, sender_of, frames_sent}
use Rattle.run_model.specs.Past.{is_of}
use Rattle.node_model.specs.SetUp.{SetUp}
use Rattle.node_model.specs.Ends.{End, EndName, end_sends, end_takes, end_took, is_opening, may_take, sent_at, taken_at, takes_at}
use Rattle.run_model.specs.States.{end_at}
use Rattle.run_model.specs.Run.{OwnPart}
use Rattle.driver_model.specs.Ways.{HasCounted, AreNumberedFrom, InOrder, views_sent, way_out}
use Rattle.driver_model.proofs.EndLemmas.{end_own, on_out, out_sender-is, sends_all}
use Rattle.driver_model.proofs.Premises.{EntryLaws}
use Rattle.driver_model.proofs.FrameNumbers.{Numbered, TakesWell, numbered, took_like}

follow_append : (k : ℕ) (xs ys : List FrameView) → AreNumberedFrom k xs → AreNumberedFrom (k + length xs) ys → AreNumberedFrom k (xs ++ ys)
follow_append k [] ys a b = subst (λ i. AreNumberedFrom i ys) (omega arith) b
follow_append k (x ∷ xs) ys a b = (a.0, follow_append (k + 1) xs ys a.1 (subst (λ i. AreNumberedFrom i ys) (omega arith) b))

from_none : (k : ℕ) (ys : List FrameView) → AreNumberedFrom k ys → AreNumberedFrom (0 + k) ys
from_none k ys a = subst (λ i. AreNumberedFrom i ys) (omega arith) a

pub follow_at : (k i : ℕ) (gs : List FrameView) (g : FrameView) → AreNumberedFrom k gs → slice_get gs i ≡ Some g → g.seq ≡ k + i + 1
follow_at k i [] g a e = absurd (cc)
follow_at k zero (x ∷ gs) g a e = let same : x ≡ g = cc in let j : g.seq ≡ k + 1 = ap (λ (z : FrameView). z.seq) (sym same) ∙ a.0 in omega (arith, j)
follow_at k (suc i) (x ∷ gs) g a e = let j = follow_at (k + 1) i gs g a.1 e in omega (arith, j)

-- ---- one frame is sent

same_epoch : (c : End) (body : FrameText) (n len : ℕ) → HasCounted c n len → (end_sends c body).epoch ≡ n → ((end_sends c body).sent ≡ len + 1) × HasCounted (end_sends c body) n (len + 1)
same_epoch c Opening n len x e =
    let z : len ≡ 0 = x.not_yet (omega (arith, e)) in
    (omega (arith, z), record { not_yet = λ i. omega (arith, i, e); at_it = λ i. omega (arith, z) })
same_epoch c Closing n len x e = let z : len ≡ c.sent = x.at_it e in (omega (arith, z), record { not_yet = λ i. omega (arith, i, e); at_it = λ i. omega (arith, z) })
same_epoch c (Bytes k) n len x e = let z : len ≡ c.sent = x.at_it e in (omega (arith, z), record { not_yet = λ i. omega (arith, i, e); at_it = λ i. omega (arith, z) })
same_epoch c (Line text) n len x e = let z : len ≡ c.sent = x.at_it e in (omega (arith, z), record { not_yet = λ i. omega (arith, i, e); at_it = λ i. omega (arith, z) })

other_epoch : (c : End) (body : FrameText) (n len : ℕ) → HasCounted c n len → ((end_sends c body).epoch ≡ n → ⊥) → HasCounted (end_sends c body) n len
other_epoch c Opening n len x other = record { not_yet = λ i. x.not_yet (omega (arith, i)); at_it = λ i. absurd (other i) }
other_epoch c Closing n len x other = record { not_yet = λ i. x.not_yet i; at_it = λ i. absurd (other i) }
other_epoch c (Bytes k) n len x other = record { not_yet = λ i. x.not_yet i; at_it = λ i. absurd (other i) }
other_epoch c (Line text) n len x other = record { not_yet = λ i. x.not_yet i; at_it = λ i. absurd (other i) }

abbrev of_epoch : ℕ → List FrameView → List FrameView
of_epoch n fs = filter (λ g. g.epoch == n) fs

-- all frames of an entry
all_follow : (c : End) (fs : List FrameView) (n len : ℕ) → Numbered c fs → HasCounted c n len → AreNumberedFrom len (of_epoch n fs) × HasCounted (sends_all c fs) n (len + length (of_epoch n fs))
all_follow c [] n len a x = (tt, subst (HasCounted c n) (omega arith) x)
all_follow c (f ∷ fs) n len a x = go (all_follow (end_sends c f.body) fs n) (f.epoch == n) refl
  where
    go : ((k : ℕ) → Numbered (end_sends c f.body) fs → HasCounted (end_sends c f.body) n k → AreNumberedFrom k (of_epoch n fs) × HasCounted (sends_all (end_sends c f.body) fs) n (k + length (of_epoch n fs)))
        → (b : Bool) → (f.epoch == n) ≡ b → AreNumberedFrom len (cond b (f ∷ of_epoch n fs) (of_epoch n fs)) × HasCounted (sends_all (end_sends c f.body) fs) n (len + length (cond b (f ∷ of_epoch n fs) (of_epoch n fs)))
    go more true is =
        let at : (end_sends c f.body).epoch ≡ n = sym a.0 ∙ eqb-true f.epoch n is in
        let one = same_epoch c f.body n len x at in
        let rest = more (len + 1) a.2 one.1 in
        ((a.1 ∙ one.0, rest.0), subst (HasCounted (sends_all (end_sends c f.body) fs) n) (omega arith) rest.1)
    go more false is = more len a.2 (other_epoch c f.body n len x (λ e. eqb-false f.epoch n is (a.0 ∙ e)))

-- ---- one frame is taken

counted_takes : (c : End) (f : FrameView) (n len : ℕ) → may_take c f ≡ true → HasCounted c n len → HasCounted (end_takes c f.epoch f.body) n len
counted_takes c f n len may x = go (is_opening f.body) refl
  where
    opens : (body : FrameText) → is_opening body ≡ true → (if is_opening body then not c.opened && nat_lt c.epoch f.epoch else c.opened && (f.epoch == c.epoch)) ≡ true → HasCounted (end_takes c f.epoch body) n len
    opens Opening i m =
        let l : nat_lt c.epoch f.epoch ≡ true = (and_parts (not c.opened) (nat_lt c.epoch f.epoch) m).1 in
        let later : c.epoch < f.epoch = grind (arith, nat_tests) in
        record { not_yet = λ j. x.not_yet (omega (arith, j, later)); at_it = λ j. x.not_yet (omega (arith, j, later)) }
    opens Closing i m = absurd (cc)
    opens (Bytes k) i m = absurd (cc)
    opens (Line text) i m = absurd (cc)

    go : (b : Bool) → is_opening f.body ≡ b → HasCounted (end_takes c f.epoch f.body) n len
    go true i = opens f.body i may
    go false i = let y = took_like c f i in record { not_yet = λ j. x.not_yet (subst (λ k. k < n) (sym y.0) j); at_it = λ j. x.at_it (y.0 ∙ j) ∙ y.1 }

-- ---- the frames of a way

frames_flying : (e : Entry) (past : List Entry) (gs : List FrameView) → map (λ x. x.frame) (map (flying_frame e past) gs) ≡ gs
frames_flying e past [] = refl
frames_flying e past (g ∷ gs) = ap (λ zs. g ∷ zs) (frames_flying e past gs)

-- what an entry of the sender adds
pub sent_more : (e : Entry) (past : List Entry) (w : Way) → is_of (sender_of w) e ≡ true → views_sent (e ∷ past) w ≡ views_sent past w ++ on_way w e
sent_more e past w is = rw is (map-append (λ x. x.frame) (frames_sent past w) (map (flying_frame e past) (on_way w e)) ∙ ap (λ gs. map (λ x. x.frame) (frames_sent past w) ++ gs) (frames_flying e past (on_way w e)))

pub sent_same_as : (e : Entry) (past : List Entry) (w : Way) → is_of (sender_of w) e ≡ false → views_sent (e ∷ past) w ≡ views_sent past w
sent_same_as e past w is = rw is refl

pub order_begins : (r : ℕ) (a : EndName) (n : ℕ) → InOrder [] r a n
order_begins r a n = record { counted = record { not_yet = λ i. refl; at_it = λ i. refl }; follow = tt }

pub order_other : (r : ℕ) (a : EndName) (n : ℕ) (past : List Entry) (e : Entry) → is_of r e ≡ false → InOrder past r a n → InOrder (e ∷ past) r a n
order_other r a n past e is x = record {
  counted = subst (λ gs. HasCounted (end_at (e ∷ past) r a) n (length gs)) (sym same) (subst (λ (c : End). HasCounted c n (length (views_sent past (way_out r a n)))) (sym end_same) x.counted);
  follow = subst (AreNumberedFrom 0) (sym same) x.follow;
}
  where
    same : views_sent (e ∷ past) (way_out r a n) ≡ views_sent past (way_out r a n)
    same = sent_same_as e past (way_out r a n) (ap (λ k. is_of k e) (out_sender-is r a n) ∙ is)

    end_same : end_at (e ∷ past) r a ≡ end_at past r a
    end_same = rw is refl

pub order_own : EntryLaws → (s : SetUp) (a : EndName) (n : ℕ) (past : List Entry) (words : ℕ → Option Word) (e : Entry) → is_of s.number e ≡ true → OwnPart s past words e → TakesWell e.taken
    → InOrder past s.number a n → InOrder (e ∷ past) s.number a n
order_own laws s a n past words e is own well x = record {
  counted = subst (λ (c : End). HasCounted c n (length (views_sent (e ∷ past) w))) (sym (end_own s.number past a e is)) (subst (HasCounted (sends_all mid (sent_at a e.sent)) n) (sym count) (all_follow mid (sent_at a e.sent) n len num took).1);
  follow = subst (AreNumberedFrom 0) (sym more) (follow_append 0 (views_sent past w) (of_epoch n (sent_at a e.sent)) x.follow (from_none len (of_epoch n (sent_at a e.sent)) (all_follow mid (sent_at a e.sent) n len num took).0));
}
  where
    r : ℕ
    r = s.number

    w : Way
    w = way_out r a n

    len : ℕ
    len = length (views_sent past w)

    mid : End
    mid = end_took (end_at past r a) (taken_at a e.taken)

    num : Numbered (end_took (end_at past s.number a) (taken_at a e.taken)) (sent_at a e.sent)
    num = numbered laws.finds s past words e a own well

    more : views_sent (e ∷ past) (way_out s.number a n) ≡ views_sent past (way_out s.number a n) ++ of_epoch n (sent_at a e.sent)
    more = sent_more e past (way_out s.number a n) (ap (λ k. is_of k e) (out_sender-is s.number a n) ∙ is) ∙ ap (λ gs. views_sent past (way_out s.number a n) ++ gs) (on_out s.number a n e)

    count : length (views_sent (e ∷ past) (way_out s.number a n)) ≡ length (views_sent past (way_out s.number a n)) + length (of_epoch n (sent_at a e.sent))
    count = ap length more ∙ length-append (views_sent past (way_out s.number a n)) (of_epoch n (sent_at a e.sent))

    took : HasCounted (end_took (end_at past s.number a) (taken_at a e.taken)) n (length (views_sent past (way_out s.number a n)))
    took = go e.taken refl
      where
        at : (f : FrameView) → e.taken ≡ Some f → (b : Bool) → takes_at a f ≡ b → HasCounted (end_took (end_at past s.number a) (if b then Some f else None)) n (length (views_sent past (way_out s.number a n)))
        at f i false t = x.counted
        at f i true t = counted_takes (end_at past s.number a) f n (length (views_sent past (way_out s.number a n)))
            (laws.takes s past words e f a own i t) x.counted

        go : (o : Option FrameView) → e.taken ≡ o → HasCounted (end_took (end_at past s.number a) (taken_at a e.taken)) n (length (views_sent past (way_out s.number a n)))
        go None i = subst (λ (o : Option FrameView). HasCounted (end_took (end_at past s.number a) (taken_at a o)) n (length (views_sent past (way_out s.number a n)))) (sym i) x.counted
        go (Some f) i = subst (λ (o : Option FrameView). HasCounted (end_took (end_at past s.number a) (taken_at a o)) n (length (views_sent past (way_out s.number a n)))) (sym i) (at f i (takes_at a f) refl)
