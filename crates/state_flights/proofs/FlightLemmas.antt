-- The first of the frames that wait.
use Rattle.std.proofs.Common.{◌≡◌, ℕ, ◌+◌, ◌++◌, false, List, [], ◌∷◌, drop, map, None, refl, ap, sym, ◌∙◌}
use Rattle.std.specs.Prelude.{◌&&◌, ◌==◌}
use Rattle.run_data.specs.declared.entry.FrameView.{FrameView}
use Rattle.step_judging.specs.Carried.{first_word, is_first}
use Rattle.step_judging.specs.Same.{same_body}
use Rattle.state_flights.specs.Tables.{waiting_frame}
use Rattle.state_flights.specs.declared.flight.Waiting.{Waiting}

pub next_is : (xs : List Waiting) (x : Waiting) (n : ℕ) (f : FrameView) → xs ≡ x ∷ drop 1 xs
    → is_first (map waiting_frame xs) n f ≡ ((f.seq == n + 1) && same_body x.body f.body)
next_is xs x n f is = ap (λ (ys : List Waiting). is_first (map waiting_frame ys) n f) is

pub none_next : (xs : List Waiting) (n : ℕ) (f : FrameView) → xs ≡ [] → is_first (map waiting_frame xs) n f ≡ false
none_next xs n f is = ap (λ (ys : List Waiting). is_first (map waiting_frame ys) n f) is

pub word_is : (xs : List Waiting) (x : Waiting) → xs ≡ x ∷ drop 1 xs → first_word (map waiting_frame xs) ≡ x.word
word_is xs x is = ap (λ (ys : List Waiting). first_word (map waiting_frame ys)) is

pub no_word : (xs : List Waiting) → xs ≡ [] → first_word (map waiting_frame xs) ≡ None
no_word xs is = ap (λ (ys : List Waiting). first_word (map waiting_frame ys)) is

pub rest_is : (xs : List Waiting) → map waiting_frame (drop 1 xs) ≡ drop 1 (map waiting_frame xs)
rest_is [] = refl
rest_is (x ∷ xs) = refl

pub pushed : (xs ys : List Waiting) → map waiting_frame (xs ++ ys) ≡ map waiting_frame xs ++ map waiting_frame ys
pushed [] ys = refl
pushed (x ∷ xs) ys = ap (λ zs. waiting_frame x ∷ zs) (pushed xs ys)
