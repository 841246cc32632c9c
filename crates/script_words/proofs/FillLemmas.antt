-- Fillings and their pieces.
use Rattle.std.proofs.Common.{◌≡◌, ◌⊎◌, inl, inr, ℕ, zero, suc, ◌+◌, ◌-◌, ◌*◌, ◌/◌, ◌<◌, ◌≤◌, ◌%◌, List, [], ◌∷◌, ◌++◌, map, length, take, drop, set, get_or, refl, sym, ap, ◌∙◌, arith, append_assoc}
use Rattle.std.specs.Prelude.{min}
use Rattle.std.specs.List.{range_with_len}
use Rattle.std.proofs.Math.Nat.{add-mul-mod_self_left, mod-add-div}
use Rattle.std.proofs.lemmas.List.{set_at, drop_more, take_all}
use Rattle.std.proofs.lemmas.List.FromFn.{length-map-range_with_len, take-map-range_with_len, map-range_with_len_more}
use Rattle.script_words.specs.Contents.{fill_bytes, piece, with_front}

-- the byte at a place of a filling
abbrev byte_of : ℕ → ℕ → ℕ
byte_of s i = (i + s) % 251

pub length-fill_bytes : (n s : ℕ) → length (fill_bytes n s) ≡ n
length-fill_bytes n s = length-map-range_with_len (byte_of s) 0 n

drop_range : (f : ℕ → ℕ) (a n k : ℕ) → drop k (map f (range_with_len a n)) ≡ map f (range_with_len (a + k) (n - k))
drop_range f a n zero = let same : a + 0 ≡ a = omega arith in let all : n - 0 ≡ n = omega arith in rw (same, all) refl
drop_range f a zero (suc k) = let none : 0 - suc k ≡ 0 = omega arith in rw none refl
drop_range f a (suc n) (suc k) =
    let on : a + 1 + k ≡ a + suc k = omega arith in
    let left : suc n - suc k ≡ n - k = omega arith in
    rw (← on, left) (drop_range f (a + 1) n k)

-- a filling from a place on is one that begins later
shift_range : (s a b n : ℕ) → map (byte_of s) (range_with_len (a + b) n) ≡ map (byte_of (b + s)) (range_with_len a n)
shift_range s a b zero = refl
shift_range s a b (suc n) =
    let head : a + b + s ≡ a + (b + s) = omega arith in
    let on : a + b + 1 ≡ a + 1 + b = omega arith in
    rw (head, on, shift_range s (a + 1) b n) refl

-- only the remainder of where it begins matters
same_range : (s t a n : ℕ) → ((i : ℕ) → byte_of s i ≡ byte_of t i) → map (byte_of s) (range_with_len a n) ≡ map (byte_of t) (range_with_len a n)
same_range s t a zero same = refl
same_range s t a (suc n) same = rw (same a, same_range s t (a + 1) n same) refl

same_byte : (at s i : ℕ) → byte_of (at + s) i ≡ byte_of (at % 251 + s) i
same_byte at s i =
    let apart : at % 251 + 251 * (at / 251) ≡ at = mod-add-div at 251 in
    let sum : i + (at + s) ≡ i + (at % 251 + s) + 251 * (at / 251) = omega (arith, apart) in
    ap (λ k. k % 251) sum ∙ add-mul-mod_self_left (i + (at % 251 + s)) 251 (at / 251)

drop_fill : (n s at : ℕ) → drop at (fill_bytes n s) ≡ fill_bytes (n - at) (at % 251 + s)
drop_fill n s at =
    drop_range (byte_of s) 0 n at ∙ shift_range s 0 at (n - at) ∙ same_range (at + s) (at % 251 + s) 0 (n - at) (same_byte at s)

take_fill : (n s most count : ℕ) → ((count ≡ most) × (most ≤ n)) ⊎ ((count ≡ n) × (n ≤ most)) → take most (fill_bytes n s) ≡ fill_bytes count s
take_fill n s most count (inl few) = take-map-range_with_len (byte_of s) 0 n most few.1 ∙ ap (λ k. fill_bytes k s) (sym few.0)
take_fill n s most count (inr all) = take_all most (fill_bytes n s) (rw (length-fill_bytes n s) all.1) ∙ ap (λ k. fill_bytes k s) (sym all.0)

min_is : (n most : ℕ) → ((min n most ≡ most) × (most ≤ n)) ⊎ ((min n most ≡ n) × (n ≤ most))
min_is n most = grind arith

-- a piece of a filling is a filling
pub piece_fill : (n s at most : ℕ) → piece (fill_bytes n s) at most ≡ fill_bytes (min (n - at) most) (at % 251 + s)
piece_fill n s at most =
    ap (take most) (drop_fill n s at) ∙ take_fill (n - at) (at % 251 + s) most (min (n - at) most) (min_is (n - at) most)

-- one byte more of a filling in its room
pub fill_more : (at s : ℕ) (room : List ℕ) → at < length room → set (with_front (fill_bytes at s) room) at ((at + s) % 251) ≡ with_front (fill_bytes (at + 1) s) room
fill_more at s room within =
    let n = length-fill_bytes at s in
    let more = length-fill_bytes (at + 1) s in
    let byte = (at + s) % 251 in
    let next = drop (at + 1) room in
    let left : with_front (fill_bytes at s) room ≡ fill_bytes at s ++ get_or room at 0 ∷ next = rw (n, drop_more room at 0 within) refl in
    let right : with_front (fill_bytes (at + 1) s) room ≡ (fill_bytes at s ++ byte ∷ []) ++ next = rw more (ap (λ l. l ++ next) (map-range_with_len_more (byte_of s) 0 at at (omega arith))) in
    ap (λ l. set l at byte) left ∙ set_at (fill_bytes at s) (get_or room at 0) next byte at n ∙ sym (append_assoc (fill_bytes at s) (byte ∷ []) next) ∙ sym right
