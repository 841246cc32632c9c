-- The right to fill a key, and what is filled where it is given back.
use Rattle.std.proofs.Common.{◌≡◌, ℕ, true, not, List, Option, Some, None, sym, ap, subst, ◌∙◌}
use Rattle.std.specs.Prelude.{◌&&◌, IfSome, bytes_eq, is_some}
use Rattle.content_lock.specs.Rows.{Rows, is_filling}

-- what the table gave is its key's
abbrev pub IsGiven : Rows → List ℕ → Option (List ℕ) → Type 0
IsGiven rows own o = IfSome o (λ (key : List ℕ). (key ≡ own) × (is_filling rows key ≡ true))

pub given_at : (rows : Rows) (own fill : List ℕ) (given o : Option (List ℕ)) → IsGiven rows own o → given ≡ o → given ≡ Some fill → (fill ≡ own) × (is_filling rows fill ≡ true)
given_at rows own fill given o has is some = subst (λ (p : Option (List ℕ)). IsGiven rows own p) (sym is ∙ some) has

pub given_back : (rows rows' : Rows) (own fill : List ℕ) (given o : Option (List ℕ)) → IsGiven rows own o → given ≡ o → given ≡ Some fill → ((k : List ℕ) → is_filling rows' k ≡ (not (bytes_eq fill k) && is_filling rows k))
    → (key : List ℕ) → is_filling rows' key ≡ (not (is_some o && bytes_eq own key) && is_filling rows key)
given_back rows rows' own fill given o has is some off key =
    off key ∙ ((λ i. not (bytes_eq ((given_at rows own fill given o has is some).0 i) key) && is_filling rows key) ∙ (λ i. not (is_some ((sym some ∙ is) i) && bytes_eq own key) && is_filling rows key))

pub none_back : (rows : Rows) (own : List ℕ) (given o : Option (List ℕ)) → given ≡ o → given ≡ None → (key : List ℕ) → is_filling rows key ≡ (not (is_some o && bytes_eq own key) && is_filling rows key)
none_back rows own given o is none key = λ i. not (is_some ((sym none ∙ is) i) && bytes_eq own key) && is_filling rows key

pub fills_some : (o : Option (List ℕ)) (key : List ℕ) → o ≡ Some key → is_some o ≡ true
fills_some o key is = ap is_some is
