-- Texts that are written part by part, and the removals of some first keys.
use Rattle.std.proofs.Common.{◌≡◌, ℕ, ◌+◌, ◌<◌, List, [], ◌∷◌, ◌++◌, length, take, get_or, refl, sym, ap, ◌∙◌, arith}
use Rattle.std.proofs.lemmas.List.{append_assoc, take_more}
use Rattle.run_audit.specs.declared.key_audit.KeyAudit.{KeyAudit}
use Rattle.audit_answers.specs.Texts.{all_removals}

-- one part more
part : (w x y a r : List ℕ) → x ≡ w ++ a → y ≡ x ++ r → y ≡ w ++ (a ++ r)
part w x y a r first rest = rest ∙ ap (λ (z : List ℕ). z ++ r) first ∙ append_assoc w a r

-- a field more: its name and its number
field : (w x y a n d : List ℕ) → x ≡ w ++ a → y ≡ x ++ n ++ d → y ≡ w ++ (a ++ n ++ d)
field w x y a n d first rest = part w (x ++ n) y (a ++ n) d (part w x (x ++ n) a n first refl) rest

pub key_parts : (w x₁ x₂ x₃ x₄ x₅ x₆ a k n₁ d₁ n₂ d₂ n₃ d₃ z : List ℕ) → x₁ ≡ w ++ a → x₂ ≡ x₁ ++ k → x₃ ≡ x₂ ++ n₁ ++ d₁ → x₄ ≡ x₃ ++ n₂ ++ d₂
    → x₅ ≡ x₄ ++ n₃ ++ d₃ → x₆ ≡ x₅ ++ z → x₆ ≡ w ++ (a ++ k ++ n₁ ++ d₁ ++ n₂ ++ d₂ ++ n₃ ++ d₃ ++ z)
key_parts w x₁ x₂ x₃ x₄ x₅ x₆ a k n₁ d₁ n₂ d₂ n₃ d₃ z e₁ e₂ e₃ e₄ e₅ e₆ =
    let two = part w x₁ x₂ a k e₁ e₂ in
    let three = field w x₂ x₃ (a ++ k) n₁ d₁ two e₃ in
    let four = field w x₃ x₄ (a ++ k ++ n₁ ++ d₁) n₂ d₂ three e₄ in
    let five = field w x₄ x₅ (a ++ k ++ n₁ ++ d₁ ++ n₂ ++ d₂) n₃ d₃ four e₅ in
    part w x₅ x₆ (a ++ k ++ n₁ ++ d₁ ++ n₂ ++ d₂ ++ n₃ ++ d₃) z five e₆

removals_push : (xs : List KeyAudit) (y : KeyAudit) → all_removals (xs ++ y ∷ []) ≡ all_removals xs + y.removals
removals_push [] y = omega arith
removals_push (x ∷ xs) y = let rest = removals_push xs y in omega (arith, rest)

pub removals_more : (keys : List KeyAudit) (i : ℕ) (x : KeyAudit) → i < length keys → x ≡ get_or keys i x → all_removals (take (i + 1) keys) ≡ all_removals (take i keys) + x.removals
removals_more keys i x low is =
    ap all_removals (take_more keys i x low) ∙ ap (λ (y : KeyAudit). all_removals (take i keys ++ y ∷ [])) (sym is) ∙ removals_push (take i keys) x
