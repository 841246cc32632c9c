-- Contents that are taken piece by piece.
use Rattle.std.proofs.Common.{◌≡◌, ℕ, zero, suc, ◌+◌, ◌≤◌, List, [], ◌∷◌, ◌++◌, length, take, drop, refl, sym, ap, ◌∙◌, arith}
use Rattle.std.proofs.Math.Seq.{take-append_seam}
use Rattle.script_words.specs.Contents.{piece, with_front}

own_length : (n : ℕ) (xs : List ℕ) → take n xs ≡ take (length (take n xs)) xs
own_length zero xs = refl
own_length (suc n) [] = refl
own_length (suc n) (x ∷ xs) = ap (λ ys. x ∷ ys) (own_length n xs)

joined : (at most : ℕ) (content : List ℕ) → at ≤ length content → take at content ++ piece content at most ≡ take (at + length (piece content at most)) content
joined zero most content within = let none : 0 + length (take most content) ≡ length (take most content) = omega arith in rw none (own_length most content)
joined (suc at) most [] within = absurd (omega arith)
joined (suc at) most (x ∷ xs) within =
    let on : suc at + length (piece xs at most) ≡ suc (at + length (piece xs at most)) = omega arith in
    rw on (ap (λ ys. x ∷ ys) (joined at most xs (omega arith)))

-- what was taken, and the next piece
pub piece_joins : (content : List ℕ) (at most count : ℕ) → at ≤ length content → count ≡ length (piece content at most) → take at content ++ piece content at most ≡ take (at + count) content
piece_joins content at most count within is = rw is (joined at most content within)

-- the front of the room is the piece
pub front_is : (front room : List ℕ) (count : ℕ) → count ≡ length front → take count (with_front front room) ≡ front
front_is front room count is = rw is (take-append_seam front (drop (length front) room))

own_le : (n : ℕ) (xs : List ℕ) → length (take n xs) ≤ length xs
own_le zero xs = omega arith
own_le (suc n) [] = omega arith
own_le (suc n) (x ∷ xs) = omega (arith, own_le n xs)

own_short : (n : ℕ) (xs : List ℕ) → length (take n xs) ≤ n
own_short zero xs = omega arith
own_short (suc n) [] = omega arith
own_short (suc n) (x ∷ xs) = omega (arith, own_short n xs)

-- a piece is no longer than what is left, and than what is asked for
pub piece_within : (at most : ℕ) (content : List ℕ) → at ≤ length content → at + length (piece content at most) ≤ length content
piece_within zero most content within = omega (arith, own_le most content)
piece_within (suc at) most [] within = absurd (omega arith)
piece_within (suc at) most (x ∷ xs) within = omega (arith, piece_within at most xs (omega arith))

pub piece_short : (content : List ℕ) (at most : ℕ) → length (piece content at most) ≤ most
piece_short content at most = own_short most (drop at content)

pub length-with_front : (front room : List ℕ) → length front ≤ length room → length (with_front front room) ≡ length room
length-with_front [] room short = refl
length-with_front (x ∷ front) [] short = absurd (omega arith)
length-with_front (x ∷ front) (y ∷ room) short = let rest = length-with_front front room (omega arith) in omega (arith, rest)
