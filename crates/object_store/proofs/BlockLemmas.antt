-- Bytes in blocks.
use Rattle.std.proofs.Common.{◌≡◌, ℕ, zero, suc, ◌+◌, ◌-◌, ◌*◌, ◌/◌, ◌%◌, min, ◌<◌, ◌≤◌, List, [], ◌∷◌, ◌++◌, length, take, drop, get_or, refl, sym, ap, ◌∙◌, append_assoc, arith, length-append, length-take, length-drop}
use Rattle.std.specs.declared.vec.Vec.{Vec}
use Rattle.std.specs.declared.alloc.Global.{Global}
use Rattle.std.proofs.Math.Seq.{drop-append-add, take-add}
use borrow.Rule.Slice.PartMut.{put_mid}
use Rattle.std.proofs.lemmas.Nat.{div-add-mod', mod_below}
use Rattle.std.proofs.lemmas.List.{drop-drop, drop-take, drop_all, drop_at, length-take-le, take-append-drop, take_all, take_at}
use Rattle.std.proofs.lemmas.Slice.{drop-put_mid, take-put_mid}
use Rattle.annex_base.specs.Lists.{Each}
use Rattle.object_store.specs.BlockLists.{bytes_of_blocks, AreBlocks}

pub length-joined : (full : List (Vec ℕ Global)) → Each (λ b. length b.items ≡ 32768) full → length (bytes_of_blocks full) ≡ length full * 32768
length-joined [] e = refl
length-joined (b ∷ bs) e = omega (arith, length-append b.items (bytes_of_blocks bs), e.0, length-joined bs e.1)

pub length-blocks : (full : List (Vec ℕ Global)) (last : List ℕ) → AreBlocks full last → length full * 32768 + length last ≡ length (bytes_of_blocks full ++ last)
length-blocks full last b = omega (arith, length-append (bytes_of_blocks full) last, length-joined full b.whole)

pub drop_past : (xs ys : List ℕ) (n m : ℕ) → m ≡ length xs + n → drop m (xs ++ ys) ≡ drop n ys
drop_past xs ys n m e = ap (λ k. drop k (xs ++ ys)) e ∙ drop-append-add xs ys n

pub whole_block : (full : List (Vec ℕ Global)) (last : List ℕ) (q : ℕ) (d : Vec ℕ Global) → Each (λ b. length b.items ≡ 32768) full → q < length full → take 32768 (drop (q * 32768) (bytes_of_blocks full ++ last)) ≡ (get_or full q d).items
whole_block [] last q d e h = absurd (omega arith)
whole_block (b ∷ bs) last zero d e h = ap (take 32768) (append_assoc b.items (bytes_of_blocks bs) last) ∙ take_at b.items (bytes_of_blocks bs ++ last) 32768 e.0
whole_block (b ∷ bs) last (suc q) d e h =
    let past : drop (suc q * 32768) ((b.items ++ bytes_of_blocks bs) ++ last) ≡ drop (q * 32768) (bytes_of_blocks bs ++ last) =
    ap (drop (suc q * 32768)) (append_assoc b.items (bytes_of_blocks bs) last) ∙ drop_past b.items (bytes_of_blocks bs ++ last) (q * 32768) (suc q * 32768) (omega (arith, e.0)) in
    ap (take 32768) past ∙ whole_block bs last q d e.1 (omega arith)

pub last_block : (full : List (Vec ℕ Global)) (last : List ℕ) (q : ℕ) → AreBlocks full last → q ≡ length full → take 32768 (drop (q * 32768) (bytes_of_blocks full ++ last)) ≡ last
last_block full last q b e =
    ap (take 32768) (drop_at (bytes_of_blocks full) last (q * 32768) (length-joined full b.whole ∙ ap (λ n. n * 32768) (sym e))) ∙ take_all 32768 last b.rest

pub no_block : (full : List (Vec ℕ Global)) (last : List ℕ) (q : ℕ) → AreBlocks full last → length full < q → take 32768 (drop (q * 32768) (bytes_of_blocks full ++ last)) ≡ []
no_block full last q b h = ap (take 32768) (drop_all (q * 32768) (bytes_of_blocks full ++ last) (omega (arith, length-blocks full last b, b.rest)))

-- a place within a block
pub length-block : (xs : List ℕ) (place : ℕ) → length (take 32768 (drop (place / 32768 * 32768) xs)) ≡ min 32768 (length xs - place / 32768 * 32768)
length-block xs place = length-take 32768 (drop (place / 32768 * 32768) xs) ∙ ap (min 32768) (length-drop (place / 32768 * 32768) xs)

pub within_block : (xs : List ℕ) (place : ℕ) → place < length xs → place % 32768 < length (take 32768 (drop (place / 32768 * 32768) xs))
within_block xs place h = omega (arith, length-block xs place, div-add-mod' place 32768, mod_below place 32768 (omega arith))

pub rest_of_block : (xs : List ℕ) (place : ℕ) → drop (place % 32768) (take 32768 (drop (place / 32768 * 32768) xs)) ≡ take (32768 - place % 32768) (drop place xs)
rest_of_block xs place =
    let below : place % 32768 < 32768 = mod_below place 32768 (omega arith) in
    let all : 32768 ≡ place % 32768 + (32768 - place % 32768) = omega (arith, below) in
    ap (λ n. drop (place % 32768) (take n (drop (place / 32768 * 32768) xs))) all
    ∙ drop-take (place % 32768) (32768 - place % 32768) (drop (place / 32768 * 32768) xs)
    ∙ ap (take (32768 - place % 32768)) (drop-drop (place % 32768) (place / 32768 * 32768) xs ∙ ap (λ n. drop n xs) (div-add-mod' place 32768))

-- a read that has come as far as f, and then k bytes more
pub read_more : (xs was room ys : List ℕ) (at f k n : ℕ) → room ≡ take f (drop at xs) ++ drop f was → f + k ≤ length (drop at xs) → f ≤ length was → n ≡ k → ys ≡ take k (drop (at + f) xs) → put_mid f n room ys ≡ take (f + k) (drop at xs) ++ drop (f + k) was
read_more xs was room ys at f k n r fits fits' e y =
    let tail = drop at xs in
    let front : length (take f tail) ≡ f = length-take-le f tail (omega arith) in
    let more : ys ≡ take k (drop f tail) = y ∙ ap (take k) (sym (drop-drop f at xs)) in
    let size : length ys ≡ k = ap length more ∙ length-take-le k (drop f tail) (omega (arith, length-drop f tail)) in
    let long : length room ≡ length was = ap length r ∙ (omega (arith, length-append (take f tail) (drop f was), front, length-drop f was)) in
    let left : take (f + k) (put_mid f n room ys) ≡ take (f + k) tail =
    take-put_mid f n room ys (f + k) (omega (arith, size)) (omega (arith, long))
    ∙ ap (λ l. take f l ++ ys) r ∙ ap (λ l. l ++ ys) (take_at (take f tail) (drop f was) f front)
    ∙ ap (λ l. take f tail ++ l) more ∙ sym (take-add f k tail) in
    let right : drop (f + k) (put_mid f n room ys) ≡ drop (f + k) was =
    drop-put_mid f n room ys (f + k) (omega (arith, e)) (omega (arith, long)) (size ∙ sym e)
    ∙ ap (drop (f + k)) r ∙ drop_past (take f tail) (drop f was) k (f + k) (omega (arith, front)) ∙ drop-drop k f was in
    sym (take-append-drop (f + k) (put_mid f n room ys)) ∙ ap (λ l. l ++ drop (f + k) (put_mid f n room ys)) left ∙ ap (λ l. take (f + k) tail ++ l) right
