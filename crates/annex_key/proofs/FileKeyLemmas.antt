-- The key that is computed of a file name is the one whose file has this name.
use Rattle.std.proofs.Common.{inl, inr, ◌≡◌, ◌≢◌, ◌↔◌, ℕ, Bool, true, false, eqb, ◌&&◌, List, [], ◌∷◌, ◌++◌, Some, None, Result, Ok, Err, IfOk, IsErrAnd, MatchResult, refl, sym, ap, subst, ◌∙◌}
use Rattle.std.specs.Prelude.{if◌then◌else◌}
use Rattle.std.specs.Str.{bytes_eq}
use Rattle.std.proofs.lemmas.Bool.{cases_Bool, eqb-true}
use Rattle.std.proofs.lemmas.Slice.Eq.{bytes_eq-Decides}
use Rattle.annex_base.specs.Lines.{colon, slash}
use Rattle.annex_base.proofs.Options.{none_by}
use Rattle.annex_key.specs.declared.fault.KeyFault.{KeyFault}
use Rattle.annex_key.specs.declared.fault.KeyFault.TheVariants.{NoMemory}
use Rattle.annex_key.specs.KeyText.{KeyParts, IsKeyText}
use Rattle.annex_key.specs.KeyFile.{ampersand, percent, escape_of, file_text}
use Rattle.annex_key.specs.Reading.{key_at}
use Rattle.annex_key.specs.FileKey.{bytes_after, text_in, was_read, is_key, key_by, key_of_file}
use Rattle.annex_key.proofs.KeyLemmas.{text_takes, text_again}

escaped_read : (b : ℕ) (rest : List ℕ) → bytes_after false (escape_of b ++ rest) ≡ b ∷ bytes_after false rest
escaped_read b rest =
    elim (cases_Bool (eqb b ampersand)) [
      | inl is ↦ rw (eqb-true b ampersand is) refl
      | inr one ↦ elim (cases_Bool (eqb b percent)) [
        | inl is ↦ rw (eqb-true b percent is) refl
        | inr two ↦ elim (cases_Bool (eqb b colon)) [
          | inl is ↦ rw (eqb-true b colon is) refl
          | inr three ↦ elim (cases_Bool (eqb b slash)) [
            | inl is ↦ rw (eqb-true b slash is) refl
            | inr four ↦ rw (one, two, three, four) (rw (one, two) refl)
          ]
        ]
      ]
    ]

-- the file name of a text stands for it
pub text_again_in : (text : List ℕ) → text_in (file_text text) ≡ text
text_again_in [] = refl
text_again_in (b ∷ bs) = escaped_read b (file_text bs) ∙ ap (λ (w : List ℕ). b ∷ w) (text_again_in bs)

read_is : (r : Result KeyParts KeyFault) (text : List ℕ) → key_at text ≡ r → was_read r ≡ true → IsKeyText text
read_is (Ok parts) text is read = text_takes text parts is
read_is (Err e) text is read = cc

found_by : (file text key : List ℕ) (a b : Bool) → bytes_eq (file_text text) file ≡ a → is_key text ≡ b → (if a && b then Some text else None) ≡ Some key → IsKeyText key × (file ≡ file_text key)
found_by file text key true true same read found =
    let is : text ≡ key = cc in
    subst (λ w. IsKeyText w × (file ≡ file_text w)) is (read_is (key_at text) text refl read, sym ((bytes_eq-Decides (file_text text) file).0 same))
found_by file text key true false same read found = cc
found_by file text key false b same read found = cc

again : (file key : List ℕ) → IsKeyText key → file ≡ file_text key → key_by file key ≡ Some key
again file key is named =
    let same : bytes_eq (file_text key) file ≡ true = (bytes_eq-Decides (file_text key) file).1 (sym named) in
    let read : is_key key ≡ true = ap was_read (text_again key is) in
    rw (same, read) refl

pub key_of_file-is : (file key : List ℕ) → (key_of_file file ≡ Some key) ↔ (IsKeyText key × (file ≡ file_text key))
key_of_file-is file key = (
  λ found. found_by file (text_in file) key (bytes_eq (file_text (text_in file)) file) (is_key (text_in file)) refl refl found,
  λ is. subst (λ (w : List ℕ). key_by file w ≡ Some key) (sym (text_again_in key) ∙ ap text_in (sym is.1)) (again file key is.0 is.1),
)

-- ---- what a call answers

pub exact : (file : List ℕ) (r : Result (List ℕ) KeyFault) → IfOk r (λ k. (file ≡ file_text k) × IsKeyText k)
    → ((text : List ℕ) → IsKeyText text → file ≡ file_text text → MatchResult r (λ k. k ≡ text) (λ e. e ≡ NoMemory))
    → MatchResult r (λ k. key_of_file file ≡ Some k) (λ e. e ≢ NoMemory → key_of_file file ≡ None)
exact file (Ok k) found only = (key_of_file-is file k).1 (found.1, found.0)
exact file (Err e) found only = λ other. none_by (key_of_file file) (λ key is. let of = (key_of_file-is file key).0 is in other (only key of.0 of.1))

pub found_of_err : {A : Type 0} (P : A → Type 0) (Q : KeyFault → Type 0) (r : Result A KeyFault) → IsErrAnd r Q → IfOk r P
found_of_err P Q (Ok k) is = absurd is
found_of_err P Q (Err e) is = tt
