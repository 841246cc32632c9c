-- A word begins where no space and no parenthesis stands.
use Rattle.std.proofs.Common.{◌≡◌, ℕ, ◌==◌, true, false, Option, Some, None, Ok, Err, ap, append_assoc, List, [], ◌∷◌, ◌++◌, refl, sym, subst, ◌∙◌}
use Rattle.std.proofs.lemmas.Bool.{ne_eqb}
use Rattle.annex_base.proofs.Conditions.{by_test}
use Rattle.annex_base.proofs.Lists.{cons_first}
use Rattle.wanted_expr.specs.Pieces.{after_spaces, ends_word, WordRead, word_at, after_bytes}
use Rattle.wanted_expr.specs.Tokens.{begins_word}

no_head : (b : ℕ) (rest : List ℕ) → [] ≡ b ∷ rest → (b == 32) ≡ false
no_head b rest e = cc

pub no_space : (bytes : List ℕ) (b : ℕ) (rest : List ℕ) → after_spaces bytes ≡ b ∷ rest → (b == 32) ≡ false
no_space [] b rest e = no_head b rest e
no_space (c ∷ cs) b rest e =
    by_test (c == 32)
    (λ t. no_space cs b rest (rw t at e))
    (λ t. let k : c ∷ cs ≡ b ∷ rest = rw t at e in subst (λ (n : ℕ). (n == 32) ≡ false) (cons_first c b cs rest k) t)

pub word_begins : (bytes text : List ℕ) (b : ℕ) (rest : List ℕ) → text ≡ after_spaces bytes → text ≡ b ∷ rest → (b ≡ 40 → ⊥) → (b ≡ 41 → ⊥) → begins_word text ≡ true
word_begins bytes text b rest is e opened closed =
    rw (e, no_space bytes b rest (sym is ∙ e), ne_eqb b 40 opened, ne_eqb b 41 closed) refl

-- A byte that belongs to the word.

pub byte_on : (total : ℕ) (quote : Option ℕ) (b : ℕ) (bs : List ℕ) → (b == 34) ≡ false → (quote ≡ None → ends_word b ≡ false) → word_at total quote (b ∷ bs) ≡ after_bytes (b ∷ []) (word_at total quote bs)
byte_on total None b bs t goes_on = let k : ends_word b ≡ false = goes_on refl in rw (k, t) refl
byte_on total (Some at) b bs t goes_on = rw t refl

after_both : (word : List ℕ) (b : ℕ) (r : WordRead) → after_bytes word (after_bytes (b ∷ []) r) ≡ after_bytes (word ++ b ∷ []) r
after_both word b (Ok x) = ap (λ (w : List ℕ). Ok (w, x.1)) (sym (append_assoc word (b ∷ []) x.0))
after_both word b (Err at) = refl

pub word_on : (total : ℕ) (quote : Option ℕ) (b : ℕ) (bs rest word pushed : List ℕ) (whole : WordRead) → whole ≡ after_bytes word (word_at total quote rest) → rest ≡ b ∷ bs → (b == 34) ≡ false → (quote ≡ None → ends_word b ≡ false) → pushed ≡ word ++ b ∷ [] → whole ≡ after_bytes pushed (word_at total quote bs)
word_on total quote b bs rest word pushed whole is e t goes_on p =
    is ∙ (ap (λ (w : List ℕ). after_bytes word (word_at total quote w)) e ∙ (ap (after_bytes word) (byte_on total quote b bs t goes_on) ∙ (after_both word b (word_at total quote bs) ∙ ap (λ (w : List ℕ). after_bytes w (word_at total quote bs)) (sym p))))
