-- The key that is made of a content is a key, and the content is its own.
use Rattle.std.proofs.Common.{◌≡◌, ℕ, zero, suc, ◌+◌, ◌*◌, ◌<◌, ◌≤◌, ◌^◌, ◌/◌, ◌%◌, Bool, true, ltb, leb, not, List, [], ◌∷◌, ◌++◌, length, take, get_or, Option, Some, None, IfSome, refl, sym, ap, subst, ◌∙◌, arith, length-append}
use Rattle.std.specs.Prelude.{◌==◌, ◌&&◌, if◌then◌else◌, codes, nat_lt}
use Rattle.std.specs.Char.{is_ascii_alphanumeric}
use Rattle.std.specs.Fmt.{decimal}
use Rattle.std.specs.List.{after_last, list_all, position_or_len, before_first}
use Rattle.std.specs.Str.{IsAscii}
use Rattle.std.proofs.lemmas.Bool.{and_parts, ltb-true, leb-true}
use Rattle.std.proofs.lemmas.Bool.Decides.{nat_tests}
use Rattle.std.proofs.lemmas.Fmt.{length-decimal-le}
use Rattle.std.proofs.lemmas.List.{take_at}
use Rattle.std.proofs.lemmas.Option.{same_Some}
use Rattle.std.proofs.lemmas.Str.{IsUtf8-from_ascii}
use Rattle.annex_base.specs.Lines.{is_not_newline, slash}
use Rattle.annex_base.proofs.Lines.{one_line-by_test}
use Rattle.annex_base.proofs.Options.{where_some}
use Rattle.annex_base.proofs.Lists.{list_all_append, list_all_weaker}
use Rattle.hex.specs.Hex.{encode_with, lower_digits, encode_lower}
use Rattle.hex.proofs.HexLemmas.{length-encode_with}
use Rattle.sha2.specs.Sha256.{sha256}
use Rattle.sha2.proofs.Facts256.{length-sha256}
use Rattle.annex_key.specs.KeyText.{IsKey, IsName, is_digest_backend}
use Rattle.annex_key.specs.View.{backend_part, size_part, name_part}
use Rattle.key_verify.specs.declared.method.Method.{Method}
use Rattle.key_verify.specs.declared.method.Method.TheVariants as methods
use Rattle.key_verify.specs.Digests.{is_dot, told_digest, wanted_digest, key_method, method_of, digest_of, digest_text}
use Rattle.key_verify.specs.MakingKeys.{dot, is_extension, component_word, with_dot, extension_word, extension_of, made_key}
use Rattle.key_verify.specs.Matching.{MatchesKey}

-- ---- the bytes of a name

all_get : (p : ℕ → Bool) (xs : List ℕ) (i : ℕ) → list_all p xs ≡ true → p 0 ≡ true → p (get_or xs i 0) ≡ true
all_get p [] i all none = none
all_get p (x ∷ xs) zero all none = (and_parts (p x) (list_all p xs) all).0
all_get p (x ∷ xs) (suc i) all none = all_get p xs i (and_parts (p x) (list_all p xs) all).1 none

-- a hexadecimal text has only its digits
hex-all : (p : ℕ → Bool) (xs : List ℕ) → list_all p lower_digits ≡ true → p 0 ≡ true → list_all p (encode_with lower_digits xs) ≡ true
unfolding encode_with
hex-all p [] all none = refl
hex-all p (x ∷ xs) all none =
    rw (all_get p lower_digits (x / 16) all none, all_get p lower_digits (x % 16) all none, hex-all p xs all none) refl

ascii-by_test : (xs : List ℕ) → list_all (λ b. ltb b 128) xs ≡ true → IsAscii xs
ascii-by_test xs all = λ i. ltb-true (get_or xs i 0) 128 (all_get (λ b. ltb b 128) xs i all refl)

-- a test that letters, digits and the dot pass
abbrev PassesWords : (ℕ → Bool) → Type 0
PassesWords p = (b : ℕ) → is_ascii_alphanumeric b ≡ true → p b ≡ true

letters_ascii : PassesWords (λ b. ltb b 128)
letters_ascii b is = grind (arith, nat_tests)

letters_one_line : PassesWords is_not_newline
letters_one_line b is = grind (arith, nat_tests)

-- what a kept extension is: a dot and one to four letters or digits
word_of_extension : (component word kept : List ℕ) → component_word component word ≡ Some kept → is_extension kept ≡ true
word_of_extension component word kept e =
    let w = where_some (is_extension word && nat_lt (length word + 1) (length component)) (Some word) kept e in
    let both = and_parts (is_extension word) (nat_lt (length word + 1) (length component)) w.0 in
    subst (λ (x : List ℕ). is_extension x ≡ true) (same_Some word kept w.1) both.0

with_dot-all : (p : ℕ → Bool) (o : Option (List ℕ)) → PassesWords p → p dot ≡ true → IfSome o (λ word. is_extension word ≡ true) → list_all p (with_dot o) ≡ true
with_dot-all p None passes at is = refl
with_dot-all p (Some word) passes at is =
    let all = (and_parts _ (list_all is_ascii_alphanumeric word) is).1 in
    rw (at, list_all_weaker is_ascii_alphanumeric p passes word all) refl

with_dot-short : (o : Option (List ℕ)) → IfSome o (λ word. is_extension word ≡ true) → length (with_dot o) ≤ 5
with_dot-short None is = omega arith
with_dot-short (Some word) is =
    let front = (and_parts (leb 1 (length word) && leb (length word) 4) (list_all is_ascii_alphanumeric word) is).0 in
    let most : length word ≤ 4 = leb-true (length word) 4 (and_parts (leb 1 (length word)) (leb (length word) 4) front).1 in
    omega (arith, most)

if_word : (o : Option (List ℕ)) → ((kept : List ℕ) → o ≡ Some kept → is_extension kept ≡ true) → IfSome o (λ word. is_extension word ≡ true)
if_word None h = tt
if_word (Some word) h = h word refl

word_is : (path : List ℕ) → IfSome (extension_word path) (λ word. is_extension word ≡ true)
word_is path = if_word (extension_word path) (λ kept e. word_of_extension (after_last (λ b. b == slash) path) (after_last (λ b. b == dot) (after_last (λ b. b == slash) path)) kept e)

-- ---- the name

abbrev hex_of : List ℕ → List ℕ
hex_of bytes = encode_lower (sha256 bytes)

abbrev name_of : List ℕ → List ℕ → List ℕ
name_of path bytes = hex_of bytes ++ extension_of path

name-all : (p : ℕ → Bool) (path bytes : List ℕ) → list_all p lower_digits ≡ true → p 0 ≡ true → PassesWords p → p dot ≡ true → list_all p (name_of path bytes) ≡ true
name-all p path bytes digits none words at =
    list_all_append p (hex_of bytes) (extension_of path) (hex-all p (sha256 bytes) digits none) (with_dot-all p (extension_word path) words at (word_is path))

name_is : (path bytes : List ℕ) → IsName (name_of path bytes)
name_is path bytes = record {
  utf8 = IsUtf8-from_ascii (name_of path bytes) (ascii-by_test (name_of path bytes) (name-all (λ b. ltb b 128) path bytes refl refl letters_ascii refl));
  one_line = one_line-by_test (name_of path bytes) (name-all is_not_newline path bytes refl refl letters_one_line refl);
}

hex-length : (bytes : List ℕ) → length (hex_of bytes) ≡ 64
hex-length bytes = length-encode_with lower_digits (sha256 bytes) ∙ ap (λ n. 2 * n) (length-sha256 bytes)

name-length : (path bytes : List ℕ) → (0 < length (name_of path bytes)) × (length (name_of path bytes) ≤ 69)
name-length path bytes =
    let whole = length-append (hex_of bytes) (extension_of path) in
    let short = with_dot-short (extension_word path) (word_is path) in
    let hex = hex-length bytes in (omega (arith, whole, hex), omega (arith, whole, short, hex))

-- ---- the key

pub made_key-is : (path bytes : List ℕ) → length bytes < 2 ^ 64 → IsKey (made_key path bytes)
made_key-is path bytes small =
    let long = name-length path bytes in
    let digits : length (decimal (length bytes)) ≤ 20 = length-decimal-le 20 (length bytes) (omega arith) (omega (arith, small)) small in
    let whole : length (decimal (length bytes) ++ (45 ∷ 45 ∷ name_of path bytes)) ≡ length (decimal (length bytes)) + length (45 ∷ 45 ∷ name_of path bytes) = length-append (decimal (length bytes)) (45 ∷ 45 ∷ name_of path bytes) in
    record { backend = refl; size = small; mtime = tt; chunk = tt; some_name = long.0; name = name_is path bytes; short = omega (arith, whole, digits, long.1) }

-- ---- its content

abbrev no_dot : ℕ → Bool
no_dot b = not (is_dot b)

-- what stands before the extension, where the front has no dot
prefix-with_dot : (front : List ℕ) (o : Option (List ℕ)) → list_all no_dot front ≡ true → position_or_len is_dot (front ++ with_dot o) ≡ length front
prefix-with_dot [] None all = refl
prefix-with_dot [] (Some word) all = refl
prefix-with_dot (x ∷ xs) o all =
    let both = and_parts (no_dot x) (list_all no_dot xs) all in rw (both.0, prefix-with_dot xs o both.1) (omega arith)

before_extension : (front : List ℕ) (o : Option (List ℕ)) → list_all no_dot front ≡ true → before_first is_dot (front ++ with_dot o) ≡ front
before_extension front o all =
    ap (λ n. take n (front ++ with_dot o)) (prefix-with_dot front o all) ∙ take_at front (with_dot o) (length front) refl

abbrev wanted_by : List ℕ → List ℕ → Option (List ℕ)
wanted_by backend name = if is_digest_backend backend then Some (told_digest backend name) else None

-- the key tells the digest of its content
made_wanted : (key path bytes : List ℕ) → backend_part key ≡ codes "SHA256E" → name_part key ≡ name_of path bytes → wanted_digest key ≡ Some (hex_of bytes)
made_wanted key path bytes backend name =
    ap (λ (b : List ℕ). wanted_by b (name_part key)) backend ∙ ap (wanted_by (codes "SHA256E")) name
    ∙ ap Some (before_extension (hex_of bytes) (extension_word path) (hex-all no_dot (sha256 bytes) refl refl))

pub made_matches : (key path bytes : List ℕ) → backend_part key ≡ codes "SHA256E" → size_part key ≡ Some (length bytes) → name_part key ≡ name_of path bytes → MatchesKey key bytes
made_matches key path bytes backend size name =
    let method : key_method key ≡ methods.Sha256 = ap method_of backend in
    let digest : hex_of bytes ≡ digest_text (digest_of (key_method key) bytes) = ap (λ (m : Method). digest_text (digest_of m bytes)) (sym method) in
    record {
      size = subst (λ (o : Option ℕ). IfSome o (λ n. n ≡ length bytes)) (sym size) refl;
      digest = subst (λ (o : Option (List ℕ)). IfSome o (λ text. text ≡ digest_text (digest_of (key_method key) bytes))) (sym (made_wanted key path bytes backend name)) digest;
    }
