-- A text that begins with another is compared by what is left of it.
use Rattle.std.proofs.Common.{◌≡◌, ℕ, ◌&&◌, List, [], ◌∷◌, ◌++◌, Option, Some, None, refl, sym, ap, ◌∙◌}
use Rattle.std.specs.Prelude.{bytes_eq, ◌≢◌}
use Rattle.std.specs.Option.{MatchOption, option_copied}
use Rattle.std.specs.Borrow.{Bor}
use Rattle.annex_base.proofs.Conditions.{bytes_eq-other, eqb_refl}
use Rattle.step_effects.specs.Texts.{is_rest}

front_past : (front xs ys : List ℕ) → bytes_eq (front ++ xs) (front ++ ys) ≡ bytes_eq xs ys
front_past [] xs ys = refl
front_past (c ∷ front) xs ys = ap (λ b. b && bytes_eq (front ++ xs) (front ++ ys)) (eqb_refl c) ∙ front_past front xs ys

pub left_after : (front text : List ℕ) (left : Option (Bor (List ℕ)))
    → MatchOption left ((rest : List ℕ) → text ≢ front ++ rest) (λ x. text ≡ front ++ x.now)
    → (rest : List ℕ) → bytes_eq (front ++ rest) text ≡ is_rest rest (option_copied left)
left_after front text None never rest = bytes_eq-other (front ++ rest) text (λ e. never rest (sym e))
left_after front text (Some x) is rest = ap (bytes_eq (front ++ rest)) is ∙ front_past front rest x.now
