-- The word of a text is judged by its name.
use Rattle.std.proofs.Common.{◌≡◌, inl, inr, ℕ, Bool, true, false, ◌||◌, not, List, ◌++◌, length, Result, Ok, Err, refl, sym, ap, subst, ◌∙◌, arith, length-append, true≢false}
use Rattle.std.specs.Prelude.{codes}
use Rattle.std.proofs.lemmas.List.{append_cancel_left}
use Rattle.std.proofs.lemmas.Bool.{or_left, or_right}
use Rattle.annex_base.proofs.Conditions.{bytes_eq-other}
use Rattle.wanted_expr.specs.declared.data.Word.{Word}
use Rattle.wanted_expr.specs.declared.data.Word.TheVariants.{Anything, Nothing, Present, Include, Exclude, Copies, LackingCopies, InAllGroup, OnlyInGroup, InBackend, SecureHash, LargerThan, SmallerThan, Standard, GroupWanted}
use Rattle.wanted_expr.specs.declared.word.WordFault.{WordFault}
use Rattle.wanted_expr.specs.declared.word.WordFault.TheVariants.{Unknown, Value, NoMemory}
use Rattle.wanted_expr.specs.Finding.{FindsNamed}
use Rattle.wanted_expr.specs.Words.{IsBare, IsValued, IsWord, is_bare_name, is_valued_name, has_name, name_of}

pub bare_again : (text : List ℕ) (w : Word) → IsBare text w → name_of text ≡ text
bare_again text Anything e = subst (λ (t : List ℕ). name_of t ≡ t) (sym e) refl
bare_again text Nothing e = subst (λ (t : List ℕ). name_of t ≡ t) (sym e) refl
bare_again text Present e = subst (λ (t : List ℕ). name_of t ≡ t) (sym e) refl
bare_again text SecureHash e = subst (λ (t : List ℕ). name_of t ≡ t) (sym e) refl
bare_again text Standard e = subst (λ (t : List ℕ). name_of t ≡ t) (sym e) refl
bare_again text GroupWanted e = subst (λ (t : List ℕ). name_of t ≡ t) (sym e) refl
bare_again text (Include glob) e = absurd e
bare_again text (Exclude glob) e = absurd e
bare_again text (Copies among n) e = absurd e
bare_again text (LackingCopies n) e = absurd e
bare_again text (InAllGroup group) e = absurd e
bare_again text (OnlyInGroup group) e = absurd e
bare_again text (InBackend backend) e = absurd e
bare_again text (LargerThan n) e = absurd e
bare_again text (SmallerThan n) e = absurd e

pub valued_again : (name value : List ℕ) (w : Word) → IsValued name value w → name_of (name ++ codes "=" ++ value) ≡ name
valued_again name value Anything k = absurd k
valued_again name value Nothing k = absurd k
valued_again name value Present k = absurd k
valued_again name value SecureHash k = absurd k
valued_again name value Standard k = absurd k
valued_again name value GroupWanted k = absurd k
valued_again name value (Include glob) k = subst (λ (n : List ℕ). name_of (n ++ codes "=" ++ value) ≡ n) (sym k.0) refl
valued_again name value (Exclude glob) k = subst (λ (n : List ℕ). name_of (n ++ codes "=" ++ value) ≡ n) (sym k.0) refl
valued_again name value (Copies among n) k = subst (λ (n : List ℕ). name_of (n ++ codes "=" ++ value) ≡ n) (sym k.0) refl
valued_again name value (LackingCopies n) k = elim k.0 [
  | inl e ↦ subst (λ (n : List ℕ). name_of (n ++ codes "=" ++ value) ≡ n) (sym e) refl
  | inr e ↦ subst (λ (n : List ℕ). name_of (n ++ codes "=" ++ value) ≡ n) (sym e) refl
]
valued_again name value (InAllGroup group) k = subst (λ (n : List ℕ). name_of (n ++ codes "=" ++ value) ≡ n) (sym k.0) refl
valued_again name value (OnlyInGroup group) k = subst (λ (n : List ℕ). name_of (n ++ codes "=" ++ value) ≡ n) (sym k.0) refl
valued_again name value (InBackend backend) k = subst (λ (n : List ℕ). name_of (n ++ codes "=" ++ value) ≡ n) (sym k.0) refl
valued_again name value (LargerThan n) k = subst (λ (n : List ℕ). name_of (n ++ codes "=" ++ value) ≡ n) (sym k.0) refl
valued_again name value (SmallerThan n) k = subst (λ (n : List ℕ). name_of (n ++ codes "=" ++ value) ≡ n) (sym k.0) refl

not_bare : (name text : List ℕ) → name ≡ text → is_bare_name text ≡ false → is_bare_name name ≡ false
not_bare name text e k = subst (λ (n : List ℕ). is_bare_name n ≡ false) (sym e) k

valued_not_bare : (name value : List ℕ) (w : Word) → IsValued name value w → is_bare_name name ≡ false
unfolding is_bare_name
valued_not_bare name value Anything k = absurd k
valued_not_bare name value Nothing k = absurd k
valued_not_bare name value Present k = absurd k
valued_not_bare name value SecureHash k = absurd k
valued_not_bare name value Standard k = absurd k
valued_not_bare name value GroupWanted k = absurd k
valued_not_bare name value (Include glob) k = not_bare name (codes "include") k.0 refl
valued_not_bare name value (Exclude glob) k = not_bare name (codes "exclude") k.0 refl
valued_not_bare name value (Copies among n) k = not_bare name (codes "copies") k.0 refl
valued_not_bare name value (LackingCopies n) k = elim k.0 [
  | inl e ↦ not_bare name (codes "lackingcopies") e refl
  | inr e ↦ not_bare name (codes "approxlackingcopies") e refl
]
valued_not_bare name value (InAllGroup group) k = not_bare name (codes "inallgroup") k.0 refl
valued_not_bare name value (OnlyInGroup group) k = not_bare name (codes "onlyingroup") k.0 refl
valued_not_bare name value (InBackend backend) k = not_bare name (codes "inbackend") k.0 refl
valued_not_bare name value (LargerThan n) k = not_bare name (codes "largerthan") k.0 refl
valued_not_bare name value (SmallerThan n) k = not_bare name (codes "smallerthan") k.0 refl

pub unnamed : (name : List ℕ) → ((w : Word) → IsBare name w → ⊥) → is_bare_name name ≡ false
unfolding is_bare_name
unnamed name h =
    rw (bytes_eq-other name (codes "anything") (h Anything), bytes_eq-other name (codes "nothing") (h Nothing), bytes_eq-other name (codes "present") (h Present), bytes_eq-other name (codes "securehash") (h SecureHash), bytes_eq-other name (codes "standard") (h Standard), bytes_eq-other name (codes "groupwanted") (h GroupWanted)) refl

named_as : (text name : List ℕ) → name ≡ name_of text → has_name text ≡ (is_bare_name name || is_valued_name name)
unfolding has_name
named_as text name e = ap (λ (n : List ℕ). is_bare_name n || is_valued_name n) (sym e)

neither : (a b : Bool) → a ≡ false → not b ≡ true → not (a || b) ≡ true
neither a b e k = rw e k

pub alone_known : (name : List ℕ) → is_valued_name name ≡ true → (is_bare_name name || is_valued_name name) ≡ true
alone_known name e = or_right (is_bare_name name) (is_valued_name name) e

pub alone_unknown : (name : List ℕ) → ((w : Word) → IsBare name w → ⊥) → is_valued_name name ≡ false → not (is_bare_name name || is_valued_name name) ≡ true
alone_unknown name h e = neither (is_bare_name name) (is_valued_name name) (unnamed name h) (ap not e)

pub word_alone_is : (text name : List ℕ) → name ≡ name_of text → text ≡ name → (w : Word) → IsWord text w → IsBare name w
unfolding IsWord
word_alone_is text name n e w (inl k) = subst (λ (t : List ℕ). IsBare t w) e k
word_alone_is text name n e w (inr k) =
    let same : name ≡ k.0 = n ∙ (ap name_of k.2 ∙ valued_again k.0 k.1 w k.3) in
    absurd (omega (arith, ap length e, ap length same, ap length k.2, length-append (k.0 ++ codes "=") k.1, length-append k.0 (codes "=")))

pub found_alone : (text name : List ℕ) (r : Result Word WordFault) → name ≡ name_of text → text ≡ name → FindsNamed (is_bare_name name || is_valued_name name) (IsBare name) r → FindsNamed (has_name text) (IsWord text) r
unfolding IsWord
found_alone text name (Ok w) n e h = inl (subst (λ (t : List ℕ). IsBare t w) (sym e) h)
found_alone text name (Err Unknown) n e h = ap not (named_as text name n) ∙ h
found_alone text name (Err Value) n e h = (named_as text name n ∙ h.0, λ w k. h.1 w (word_alone_is text name n e w k))
found_alone text name (Err NoMemory) n e h = tt

pub word_valued_is : (text name value : List ℕ) → name ≡ name_of text → text ≡ name ++ codes "=" ++ value → (w : Word) → IsWord text w → IsValued name value w
unfolding IsWord
word_valued_is text name value n e w (inl k) =
    let same : name ≡ text = n ∙ bare_again text w k in
    absurd (omega (arith, ap length same, ap length e, length-append (name ++ codes "=") value, length-append name (codes "=")))
word_valued_is text name value n e w (inr k) =
    let same : k.0 ≡ name = sym (valued_again k.0 k.1 w k.3) ∙ (ap name_of (sym k.2) ∙ sym n) in
    let rest : k.1 ≡ value = append_cancel_left (name ++ codes "=") k.1 value (ap (λ (m : List ℕ). m ++ codes "=" ++ k.1) (sym same) ∙ (sym k.2 ∙ e)) in
    subst (λ (v : List ℕ). IsValued name v w) rest (subst (λ (m : List ℕ). IsValued m k.1 w) same k.3)

pub found_valued : (text name value : List ℕ) (r : Result Word WordFault) → name ≡ name_of text → text ≡ name ++ codes "=" ++ value → is_bare_name name ≡ false → FindsNamed (is_valued_name name) (IsValued name value) r → FindsNamed (has_name text) (IsWord text) r
unfolding IsWord
found_valued text name value (Ok w) n e b h = inr (name, value, e, h)
found_valued text name value (Err Unknown) n e b h = ap not (named_as text name n) ∙ neither (is_bare_name name) (is_valued_name name) b h
found_valued text name value (Err Value) n e b h = (named_as text name n ∙ or_right (is_bare_name name) (is_valued_name name) h.0, λ w k. h.1 w (word_valued_is text name value n e w k))
found_valued text name value (Err NoMemory) n e b h = tt

pub bare_with_value : (text name value : List ℕ) → name ≡ name_of text → text ≡ name ++ codes "=" ++ value → is_bare_name name ≡ true → (has_name text ≡ true) × ((w : Word) → IsWord text w → ⊥)
bare_with_value text name value n e b =
    (named_as text name n ∙ or_left (is_bare_name name) (is_valued_name name) b, λ w k. true≢false (sym b ∙ valued_not_bare name value w (word_valued_is text name value n e w k)))
