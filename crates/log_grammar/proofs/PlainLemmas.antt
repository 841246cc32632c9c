-- Texts that a line may have: UTF-8 without a newline.
use Rattle.std.proofs.Common.{◌≡◌, ℕ, ◌+◌, ◌<◌, Bool, true, ◌&&◌, nat_lt, List, [], ◌∷◌, ◌++◌, length, length-append, get_or, IsUtf8, refl, subst, arith}
use Rattle.std.specs.Char.{is_ascii_digit}
use Rattle.std.specs.List.{AllPass, list_all}
use Rattle.std.proofs.Math.Seq.{drop-append-add, get_or-append_seam}
use Rattle.std.proofs.lemmas.Bool.{ltb-true, and_parts}
use Rattle.std.proofs.lemmas.Bool.Decides.{nat_tests}
use Rattle.std.proofs.lemmas.List.{take_at}
use Rattle.std.proofs.lemmas.List.Sums.{AllPass-from_list_all}
use Rattle.std.proofs.lemmas.Str.{IsUtf8-append, IsUtf8-nil, IsUtf8-from_ascii, IsUtf8-take, IsUtf8-drop, IsCharBoundary-before_ascii, IsCharBoundary-after_ascii}
use Rattle.std.proofs.lemmas.Str.Ascii.{IsAscii-from_all}
use Rattle.annex_base.specs.StampText.{IsStamp}
use Rattle.annex_base.proofs.Lists.{list_all_append, list_all_parts}
use Rattle.annex_base.specs.Lines.{space, is_not_newline}
use Rattle.log_grammar.proofs.StampLemmas.{stamp_all, digits_pass}

pub record Plain (text : List ℕ) : Type 0 where
  pub utf8 : IsUtf8 text
  pub single : list_all is_not_newline text ≡ true

pub plain_append : (a b : List ℕ) → Plain a → Plain b → Plain (a ++ b)
plain_append a b p q = record { utf8 = IsUtf8-append a b p.utf8 q.utf8; single = list_all_append is_not_newline a b p.single q.single }

pub plain_nil : Plain []
plain_nil = record { utf8 = IsUtf8-nil; single = refl }

-- ASCII other than a newline
abbrev pub is_low : ℕ → Bool
is_low b = nat_lt b 128 && is_not_newline b

low_single : (bs : List ℕ) → list_all is_low bs ≡ true → list_all is_not_newline bs ≡ true
low_single [] all = refl
low_single (b ∷ bs) all =
    let both = and_parts (is_low b) (list_all is_low bs) all in
    let low = and_parts (nat_lt b 128) (is_not_newline b) both.0 in rw (low.1, low_single bs both.1) refl

pub plain_low : (bs : List ℕ) → list_all is_low bs ≡ true → Plain bs
plain_low bs all = record {
  utf8 = IsUtf8-from_ascii bs (IsAscii-from_all bs (λ k d within. ltb-true (get_or bs k d) 128 (and_parts (nat_lt (get_or bs k d) 128) (is_not_newline (get_or bs k d)) (AllPass-from_list_all is_low bs all k d within)).0));
  single = low_single bs all;
}

digit_low : (b : ℕ) → is_ascii_digit b ≡ true → is_low b ≡ true
digit_low b is = grind (arith, nat_tests)

pub digits_plain : (ds : List ℕ) → AllPass is_ascii_digit ds → Plain ds
digits_plain ds all = plain_low ds (digits_pass is_low digit_low ds all)

pub stamp_plain : (text : List ℕ) (n : ℕ) → IsStamp text n → Plain text
stamp_plain text n is = plain_low text (stamp_all is_low digit_low refl refl text n is)

-- what stands before a space, and after it
pub plain_before : (a b : List ℕ) → Plain (a ++ space ∷ b) → Plain a
plain_before a b p =
    let line = a ++ space ∷ b in
    let within : length a < length line = omega (arith, length-append a (space ∷ b)) in
    let at : get_or line (length a) 0 ≡ space = get_or-append_seam a space b 0 in
    record {
      utf8 = subst IsUtf8 (take_at a (space ∷ b) (length a) refl) (IsUtf8-take line (length a) p.utf8 (IsCharBoundary-before_ascii line (length a) within (omega (arith, at))));
      single = (list_all_parts is_not_newline a (space ∷ b) p.single).0;
    }

pub plain_after : (a b : List ℕ) → Plain (a ++ space ∷ b) → Plain b
plain_after a b p =
    let line = a ++ space ∷ b in
    let within : length a < length line = omega (arith, length-append a (space ∷ b)) in
    let at : get_or line (length a) 0 ≡ space = get_or-append_seam a space b 0 in
    record {
      utf8 = subst IsUtf8 (drop-append-add a (space ∷ b) 1) (IsUtf8-drop line (length a + 1) p.utf8 (IsCharBoundary-after_ascii line (length a) p.utf8 within (omega (arith, at))));
      single = (list_all_parts is_not_newline a (space ∷ b) p.single).1;
    }
