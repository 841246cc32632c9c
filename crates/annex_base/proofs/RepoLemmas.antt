-- The text of an identifier is 36 bytes of ASCII, and parses to the identifier alone.
use Rattle.std.proofs.Common.{◌≡◌, ℕ, ◌+◌, ◌*◌, ◌<◌, ◌≤◌, Bool, true, false, ◌==◌, if◌then◌else◌, List, length, slice_index, Some, None, Option, unwrap_or, [], inl, refl, sym, ap, subst, ◌∙◌, arith}
use Rattle.std.specs.Str.{IsAscii, bytes_eq}
use Rattle.std.specs.Cmp.Lexicographic.{bytes_decides}
use Rattle.std.specs.List.{list_all}
use Rattle.std.proofs.lemmas.Bool.{and_parts}
use Rattle.std.proofs.lemmas.Bool.Decides.{nat_tests, Decides-eqb}
use Rattle.std.proofs.lemmas.Option.{cond_some, same_Some}
use Rattle.std.proofs.lemmas.List.Sums.{AllPass-from_list_all, list_all-from_AllPass}
use Rattle.uuid.specs.Text.{parsed, parsed_simple, parsed_hyphenated, digits_of, by_index, byte_of_digits, is_hex_digit, value_of, lower, hyphen, hex_digit, nibble, digit_place, is_hyphen_place}
use Rattle.uuid.proofs.RoundTrips.{parses_hyphenated}
use Rattle.uuid.proofs.TextLemmas.{by_index_length, by_index_at, hyphenated_ascii}
use Rattle.annex_base.specs.RepoText.{IsId, repo_text, repo_of}
use Rattle.annex_base.proofs.Options.{bind_some, none_by, where_some}

pub length-repo_text : (id : List ℕ) → length (repo_text id) ≡ 36
length-repo_text id = by_index_length 36 _

pub parsed-repo_text : (id : List ℕ) → IsId id → Some id ≡ parsed (repo_text id)
parsed-repo_text id is = parses_hyphenated lower id (inl refl) is.0 is.1

pub repo_text-ascii : (id : List ℕ) → IsAscii (repo_text id)
repo_text-ascii id = hyphenated_ascii lower id (inl refl)

-- what parses from the text of an identifier is that identifier
pub one_id : (text word id : List ℕ) → IsId id → text ≡ repo_text id → word ≡ text → {found : List ℕ} → Some found ≡ parsed word → found ≡ id
one_id text word id is spelled whole {found} read =
    ap (λ (o : Option (List ℕ)). unwrap_or o []) (read ∙ ap parsed (whole ∙ spelled) ∙ sym (parsed-repo_text id is))

value_small : (c : ℕ) → is_hex_digit c ≡ true → value_of c < 16
value_small c hex = grind (arith, nat_tests)

-- the bytes of thirty-two digits are sixteen, each below 256
simple_id : (hex found : List ℕ) → Some found ≡ parsed_simple hex → IsId found
simple_id hex found read =
    let h = where_some _ (Some (by_index 16 (byte_of_digits hex))) found (sym read) in
    let tests = and_parts (length hex == 32) (list_all is_hex_digit hex) h.0 in
    let long : length hex ≡ 32 = (Decides-eqb (length hex) 32).0 tests.0 in
    let digits = AllPass-from_list_all is_hex_digit hex tests.1 in
    let is : by_index 16 (byte_of_digits hex) ≡ found = same_Some _ _ h.1 in
    let size = by_index_length 16 (byte_of_digits hex) in
    subst IsId is (
      size,
      λ k d within.
          let high = value_small (slice_index hex (2 * k)) (digits (2 * k) 0 (omega arith)) in
          let last = value_small (slice_index hex (2 * k + 1)) (digits (2 * k + 1) 0 (omega arith)) in
          rw (by_index_at 16 (byte_of_digits hex) k d (omega (arith, size, within))) (omega (arith, high, last)),
    )

parsed_at_36 : (text : List ℕ) → length text ≡ 36 → parsed text ≡ parsed_hyphenated text
parsed_at_36 text long = rw long refl

-- what parses from its own text is an identifier
pub parsed_id : (text word bytes : List ℕ) → text ≡ repo_text bytes → word ≡ text → {found : List ℕ} → bytes ≡ found → Some found ≡ parsed word → IsId bytes
parsed_id text word bytes spelled whole {found} is read =
    let long : length word ≡ 36 = ap length (whole ∙ spelled) ∙ length-repo_text bytes in
    let digits = where_some _ (parsed_simple (digits_of word)) found (sym (read ∙ parsed_at_36 word long)) in
    subst IsId (sym is) (simple_id (digits_of word) found (sym digits.1))

-- ---- the identifier of a text

pub repo_again : (text id : List ℕ) → IsId id → text ≡ repo_text id → repo_of text ≡ Some id
unfolding repo_of
repo_again text id is spelled =
    let read : parsed text ≡ Some id = ap parsed spelled ∙ sym (parsed-repo_text id is) in
    rw (read, (bytes_decides text (repo_text id)).1 spelled) refl

pub repo_takes : (text id : List ℕ) → repo_of text ≡ Some id → IsId id × (text ≡ repo_text id)
unfolding repo_of
repo_takes text id e =
    let read = bind_some (parsed text) _ id e in
    let test = cond_some (bytes_eq text (repo_text read.0)) read.0 id read.2 in
    let spelled : text ≡ repo_text read.0 = (bytes_decides text (repo_text read.0)).0 test.0 in (
      subst IsId test.1 (parsed_id text text read.0 spelled refl refl (sym read.1)),
      spelled ∙ ap repo_text test.1,
    )

pub repo_none : (text : List ℕ) → ((id : List ℕ) → IsId id → text ≡ repo_text id → ⊥) → repo_of text ≡ None
repo_none text none = none_by (repo_of text) (λ id found. let is = repo_takes text id found in none id is.0 is.1)

-- ---- what holds of every byte from the hyphen on holds of the text's bytes

hex_above : (d : ℕ) → 45 ≤ hex_digit lower d
hex_above d = grind (arith, nat_tests)

byte_above : (b : Bool) (d : ℕ) → 45 ≤ (if b then hyphen else hex_digit lower d)
byte_above true d = omega arith
byte_above false d = hex_above d

pub repo_text-all : (p : ℕ → Bool) → ((b : ℕ) → 45 ≤ b → p b ≡ true) → (id : List ℕ) → list_all p (repo_text id) ≡ true
repo_text-all p above id =
    let f : ℕ → ℕ = λ k. if is_hyphen_place k then hyphen else hex_digit lower (nibble id (digit_place k)) in
    list_all-from_AllPass p (repo_text id) (λ k d within.
    rw (by_index_at 36 f k d (subst (λ n. k < n) (length-repo_text id) within)) (above (f k) (byte_above (is_hyphen_place k) (nibble id (digit_place k)))))
