-- The paths of the log files: each has a byte and no newline, and a location log stands in two directories.
use Rattle.std.proofs.Common.{◌≡◌, ◌≢◌, inl, inr, ℕ, zero, suc, ◌+◌, ◌-◌, ◌<◌, ◌^◌, ◌/◌, ◌%◌, Bool, true, not, ◌&&◌, ◌==◌, List, [], ◌∷◌, ◌++◌, take, drop, length, codes, slice_index, Option, Some, None, IfSome, refl, sym, ap, subst, ◌∙◌, true≢false, append_assoc, length-append, arith}
use Rattle.std.specs.List.{list_all, prefix_len, after_first}
use Rattle.std.specs.Fmt.{decimal}
use Rattle.std.proofs.Math.Seq.{take-append_seam, drop-append-add}
use Rattle.std.proofs.lemmas.Bool.{cases_Bool, and_parts}
use Rattle.std.proofs.lemmas.Bool.Decides.{nat_tests}
use Rattle.std.proofs.lemmas.List.{take-append-drop}
use Rattle.hex.specs.Hex.{lower_digits, encode_with, encode_lower}
use Rattle.md5.specs.Md5.{md5}
use Rattle.annex_base.specs.Lists.{Member}
use Rattle.annex_key.specs.KeyText.{is_backend, is_backend_byte, is_upper, field_text, chunk_text, size_letter, mtime_letter, chunk_size_letter, chunk_letter, IsKeyText}
use Rattle.annex_key.specs.KeyFile.{ampersand, percent, escape_of, file_text}
use Rattle.annex_key.specs.View.{unchunked_text}
use Rattle.annex_base.specs.Lines.{newline, is_not_newline, is_one_line, colon, dash, slash}
use Rattle.annex_base.proofs.Lists.{list_all_append, list_all_parts, list_all_weaker}
use Rattle.annex_base.proofs.Lines.{one_line-by_test, one_line-decimal, one_line-members, one_line-passes}
use Rattle.union_merge.specs.LineSet.{IsLine}
use Rattle.hash_dirs.specs.LogPath.{location_path}
use Rattle.run_data.specs.Files.{is_slash, log_name}

-- ---- tests of all bytes

all_take : (p : ℕ → Bool) (n : ℕ) (xs : List ℕ) → list_all p xs ≡ true → (list_all p (take n xs) ≡ true) × (list_all p (drop n xs) ≡ true)
all_take p n xs all = list_all_parts p (take n xs) (drop n xs) (subst (λ (w : List ℕ). list_all p w ≡ true) (sym (take-append-drop n xs)) all)

index_passes : (p : ℕ → Bool) (xs : List ℕ) (n : ℕ) → list_all p xs ≡ true → p 0 ≡ true → p (slice_index xs n) ≡ true
index_passes p [] n all none = none
index_passes p (x ∷ xs) zero all none = (and_parts (p x) (list_all p xs) all).0
index_passes p (x ∷ xs) (suc n) all none = index_passes p xs n (and_parts (p x) (list_all p xs) all).1 none

digits_pass : (p : ℕ → Bool) → list_all p lower_digits ≡ true → p 0 ≡ true → (bytes : List ℕ) → list_all p (encode_with lower_digits bytes) ≡ true
unfolding encode_with
digits_pass p all none [] = refl
digits_pass p all none (b ∷ bs) =
    let high : p (slice_index lower_digits (b / 16)) ≡ true = index_passes p lower_digits (b / 16) all none in
    let low : p (slice_index lower_digits (b % 16)) ≡ true = index_passes p lower_digits (b % 16) all none in
    rw (high, low) (digits_pass p all none bs)

-- ---- texts without a newline

abbrev pub IsSingle : List ℕ → Type 0
IsSingle xs = is_one_line xs ≡ true

pub no_newline : (xs : List ℕ) → IsSingle xs → Member newline xs → ⊥
no_newline xs single = one_line-members xs (one_line-by_test xs single)

-- ---- a key

backend_byte_not_newline : (b : ℕ) → is_backend_byte b ≡ true → is_not_newline b ≡ true
backend_byte_not_newline b is = grind (arith, nat_tests)

upper_is_backend_byte : (b : ℕ) → is_upper b ≡ true → is_backend_byte b ≡ true
upper_is_backend_byte b is = rw is refl

backend_one_line : (backend : List ℕ) → is_backend backend ≡ true → IsSingle backend
backend_one_line [] is = refl
backend_one_line (b ∷ bs) is =
    let outer = and_parts (is_upper b && list_all is_backend_byte bs) _ is in
    let inner = and_parts (is_upper b) (list_all is_backend_byte bs) outer.0 in
    rw (backend_byte_not_newline b (upper_is_backend_byte b inner.0)) (list_all_weaker is_backend_byte is_not_newline backend_byte_not_newline bs inner.1)

field_one_line : (letter : ℕ) (o : Option ℕ) → is_not_newline letter ≡ true → IfSome o (λ n. n < 2 ^ 64) → IsSingle (field_text letter o)
field_one_line letter None is small = refl
field_one_line letter (Some n) is small = rw is (one_line-passes (decimal n) (one_line-decimal n))

chunk_one_line : (o : Option (ℕ × ℕ)) → IfSome o (λ c. (c.0 < 2 ^ 64) × (c.1 < 2 ^ 64)) → IsSingle (chunk_text o)
chunk_one_line None small = refl
chunk_one_line (Some c) small =
    list_all_append is_not_newline (field_text chunk_size_letter (Some c.0)) (field_text chunk_letter (Some c.1))
    (field_one_line chunk_size_letter (Some c.0) refl small.0)
    (field_one_line chunk_letter (Some c.1) refl small.1)

key_one_line : (text : List ℕ) → IsKeyText text → IsSingle text
key_one_line text is =
    let k = is.parts in
    let name : IsSingle k.name = one_line-passes k.name is.key.name.one_line in
    let end = dash ∷ dash ∷ k.name in
    let chunk = chunk_text k.chunk ++ end in
    let mtime = field_text mtime_letter k.mtime ++ chunk in
    let size = field_text size_letter k.size ++ mtime in
    subst IsSingle (sym is.spelled)
    (list_all_append is_not_newline k.backend size (backend_one_line k.backend is.key.backend)
    (list_all_append is_not_newline (field_text size_letter k.size) mtime (field_one_line size_letter k.size refl is.key.size)
    (list_all_append is_not_newline (field_text mtime_letter k.mtime) chunk (field_one_line mtime_letter k.mtime refl is.key.mtime)
    (list_all_append is_not_newline (chunk_text k.chunk) end (chunk_one_line k.chunk is.key.chunk) name))))

-- ---- its file

escaped_one_line : (b : ℕ) → is_not_newline b ≡ true → IsSingle (escape_of b)
escaped_one_line b is =
    elim (cases_Bool (b == ampersand)) [
      | inl one ↦ rw one refl
      | inr one ↦ elim (cases_Bool (b == percent)) [
        | inl two ↦ rw (one, two) refl
        | inr two ↦ elim (cases_Bool (b == colon)) [
          | inl three ↦ rw (one, two, three) refl
          | inr three ↦ elim (cases_Bool (b == slash)) [
            | inl four ↦ rw (one, two, three, four) refl
            | inr four ↦ rw (one, two, three, four) (rw is refl)
          ]
        ]
      ]
    ]

file_one_line : (text : List ℕ) → IsSingle text → IsSingle (file_text text)
file_one_line [] all = refl
file_one_line (b ∷ bs) all =
    let both = and_parts (is_not_newline b) (list_all is_not_newline bs) all in
    list_all_append is_not_newline (escape_of b) (file_text bs) (escaped_one_line b both.0) (file_one_line bs both.1)

-- ---- its location log

-- the two directories
abbrev first_of : List ℕ → List ℕ
first_of key = take 3 (encode_lower (md5 (unchunked_text key)))

abbrev second_of : List ℕ → List ℕ
second_of key = take 3 (drop 3 (encode_lower (md5 (unchunked_text key))))

dirs_pass : (p : ℕ → Bool) → list_all p lower_digits ≡ true → p 0 ≡ true → (key : List ℕ) → (list_all p (first_of key) ≡ true) × (list_all p (second_of key) ≡ true)
dirs_pass p all none key =
    let cut = all_take p 3 (encode_lower (md5 (unchunked_text key))) (digits_pass p all none (md5 (unchunked_text key))) in
    (cut.0, (all_take p 3 (drop 3 (encode_lower (md5 (unchunked_text key)))) cut.1).0)

-- the path from its directories on
pub path_is : (key : List ℕ) → location_path key ≡ first_of key ++ slash ∷ (second_of key ++ slash ∷ (file_text key ++ codes ".log"))
path_is key =
    ap (λ (w : List ℕ). w ++ codes ".log") (append_assoc (first_of key) (slash ∷ second_of key) (slash ∷ file_text key))
    ∙ append_assoc (first_of key) (slash ∷ (second_of key ++ slash ∷ file_text key)) (codes ".log")
    ∙ ap (λ (w : List ℕ). first_of key ++ slash ∷ w) (append_assoc (second_of key) (slash ∷ file_text key) (codes ".log"))

path_one_line : (key : List ℕ) → IsSingle key → IsSingle (location_path key)
path_one_line key is =
    let dirs = dirs_pass is_not_newline refl refl key in
    subst IsSingle (sym (path_is key))
    (list_all_append is_not_newline (first_of key) (slash ∷ (second_of key ++ slash ∷ (file_text key ++ codes ".log"))) dirs.0
    (list_all_append is_not_newline (second_of key) (slash ∷ (file_text key ++ codes ".log")) dirs.1
    (list_all_append is_not_newline (file_text key) (codes ".log") (file_one_line key is) refl)))

append_some : (xs : List ℕ) (y : ℕ) (ys : List ℕ) → xs ++ y ∷ ys ≢ []
append_some [] y ys is = cc
append_some (x ∷ xs) y ys is = cc

path_some : (key : List ℕ) → location_path key ≢ []
path_some key is = append_some (first_of key) slash (second_of key ++ slash ∷ (file_text key ++ codes ".log")) (sym (path_is key) ∙ is)

-- a branch can have the location log of a key
pub location_path_is_line : (key : List ℕ) → IsKeyText key → IsLine (location_path key)
location_path_is_line key is = record { some = path_some key; single = no_newline (location_path key) (path_one_line key (key_one_line key is)) }

-- ---- the name in the directories

abbrev pub not_slash : ℕ → Bool
not_slash b = not (is_slash b)

slash_at : (a b : List ℕ) → list_all not_slash a ≡ true → prefix_len not_slash (a ++ slash ∷ b) ≡ length a
slash_at [] b all = refl
slash_at (x ∷ xs) b all =
    let both = and_parts (not_slash x) (list_all not_slash xs) all in rw (both.0, slash_at xs b both.1) (omega arith)

after_slash : (a b : List ℕ) → list_all not_slash a ≡ true → after_first is_slash (a ++ slash ∷ b) ≡ b
after_slash a b all = ap (λ n. drop (n + 1) (a ++ slash ∷ b)) (slash_at a b all) ∙ drop-append-add a (slash ∷ b) 1

without_log : (file : List ℕ) → take (length (file ++ codes ".log") - 4) (file ++ codes ".log") ≡ file
without_log file =
    let long : length (file ++ codes ".log") - 4 ≡ length file = omega (arith, length-append file (codes ".log")) in
    ap (λ n. take n (file ++ codes ".log")) long ∙ take-append_seam file (codes ".log")

-- the file of a key's location log is named as the key's
pub log_name-path : (key : List ℕ) → log_name (location_path key) ≡ file_text key
log_name-path key =
    let dirs = dirs_pass not_slash refl refl key in
    let end = file_text key ++ codes ".log" in
    let first : after_first is_slash (location_path key) ≡ second_of key ++ slash ∷ end = ap (after_first is_slash) (path_is key) ∙ after_slash (first_of key) (second_of key ++ slash ∷ end) dirs.0 in
    let second : after_first is_slash (after_first is_slash (location_path key)) ≡ end = ap (after_first is_slash) first ∙ after_slash (second_of key) end dirs.1 in
    ap (λ (w : List ℕ). take (length w - 4) w) second ∙ without_log (file_text key)

-- a path without a slash is none of a location log
pub no_location : (key : List ℕ) → list_all not_slash (location_path key) ≡ true → ⊥
no_location key all =
    let parts = list_all_parts not_slash (first_of key) (slash ∷ (second_of key ++ slash ∷ (file_text key ++ codes ".log"))) (subst (λ (w : List ℕ). list_all not_slash w ≡ true) (path_is key) all) in
    true≢false (sym parts.1)
