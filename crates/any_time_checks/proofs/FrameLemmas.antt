-- Frames are the same whichever stand first.
use Rattle.std.proofs.Common.{◌≡◌, ℕ, Bool, true, false, List, [], ◌∷◌, refl, sym, ap, ◌∙◌}
use Rattle.std.specs.Prelude.{◌&&◌, ◌==◌, bytes_eq}
use Rattle.std.proofs.lemmas.Bool.{eq-eqb, eqb-true}
use Rattle.annex_base.specs.Bools.{same_bool}
use Rattle.annex_base.proofs.Conditions.{bytes_eq-true, bytes_eq-refl}
use Rattle.run_data.specs.declared.entry.FrameText.{FrameText}
use Rattle.run_data.specs.declared.entry.FrameText.TheVariants.{Opening, Closing, Bytes, Line}
use Rattle.run_data.specs.declared.entry.FrameView.{FrameView}
use Rattle.step_judging.specs.Same.{same_body, same_frame, same_frames}

-- two tests of the same
pub same_tests : (b c : Bool) → (b ≡ true → c ≡ true) → (c ≡ true → b ≡ true) → b ≡ c
same_tests true c f g = sym (f refl)
same_tests false true f g = g refl
same_tests false false f g = refl

number_back : (m n : ℕ) → (m == n) ≡ (n == m)
number_back m n = same_tests (m == n) (n == m) (λ is. eq-eqb n m (sym (eqb-true m n is))) (λ is. eq-eqb m n (sym (eqb-true n m is)))

text_same : (x y : List ℕ) → bytes_eq x y ≡ true → bytes_eq y x ≡ true
text_same x y is = ap (λ (z : List ℕ). bytes_eq y z) (bytes_eq-true x y is) ∙ bytes_eq-refl y

text_back : (x y : List ℕ) → bytes_eq x y ≡ bytes_eq y x
text_back x y = same_tests (bytes_eq x y) (bytes_eq y x) (text_same x y) (text_same y x)

bool_back : (b c : Bool) → same_bool b c ≡ same_bool c b
bool_back true true = refl
bool_back true false = refl
bool_back false true = refl
bool_back false false = refl

body_back : (a b : FrameText) → same_body a b ≡ same_body b a
body_back Opening Opening = refl
body_back Closing Closing = refl
body_back (Bytes m) (Bytes n) = number_back m n
body_back (Line x) (Line y) = text_back x y
body_back Opening Closing = refl
body_back Opening (Bytes n) = refl
body_back Opening (Line y) = refl
body_back Closing Opening = refl
body_back Closing (Bytes n) = refl
body_back Closing (Line y) = refl
body_back (Bytes m) Opening = refl
body_back (Bytes m) Closing = refl
body_back (Bytes m) (Line y) = refl
body_back (Line x) Opening = refl
body_back (Line x) Closing = refl
body_back (Line x) (Bytes n) = refl

frame_back : (a b : FrameView) → same_frame a b ≡ same_frame b a
frame_back a b =
    ap (λ t. t && (a.slot == b.slot) && same_bool a.up b.up && (a.epoch == b.epoch) && (a.seq == b.seq) && same_body a.body b.body) (number_back a.peer b.peer)
    ∙ ap (λ t. (b.peer == a.peer) && t && same_bool a.up b.up && (a.epoch == b.epoch) && (a.seq == b.seq) && same_body a.body b.body) (number_back a.slot b.slot)
    ∙ ap (λ t. (b.peer == a.peer) && (b.slot == a.slot) && t && (a.epoch == b.epoch) && (a.seq == b.seq) && same_body a.body b.body) (bool_back a.up b.up)
    ∙ ap (λ t. (b.peer == a.peer) && (b.slot == a.slot) && same_bool b.up a.up && t && (a.seq == b.seq) && same_body a.body b.body) (number_back a.epoch b.epoch)
    ∙ ap (λ t. (b.peer == a.peer) && (b.slot == a.slot) && same_bool b.up a.up && (b.epoch == a.epoch) && t && same_body a.body b.body) (number_back a.seq b.seq)
    ∙ ap (λ t. (b.peer == a.peer) && (b.slot == a.slot) && same_bool b.up a.up && (b.epoch == a.epoch) && (b.seq == a.seq) && t) (body_back a.body b.body)

pub frames_back : (xs ys : List FrameView) → same_frames xs ys ≡ same_frames ys xs
frames_back [] [] = refl
frames_back [] (y ∷ ys) = refl
frames_back (x ∷ xs) [] = refl
frames_back (x ∷ xs) (y ∷ ys) = ap (λ t. t && same_frames xs ys) (frame_back x y) ∙ ap (λ t. same_frame y x && t) (frames_back xs ys)
