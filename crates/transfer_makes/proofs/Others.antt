-- The other repositories by their places.
use Rattle.std.proofs.Common.{◌≡◌, ◌≢◌, ℕ, zero, suc, ◌+◌, ◌-◌, ◌<◌, ◌≤◌, Bool, true, false, not, List, [], ◌∷◌, ◌++◌, length, get_or, Option, Some, None, sym, ap, ◌∙◌, append_assoc, length-append, refl, arith}
use Rattle.std.specs.Prelude.{◌==◌, if◌then◌else◌, slice_get}
use Rattle.std.specs.List.{range_with_len}
use Rattle.std.proofs.lemmas.Bool.Decides.{nat_tests}
use Rattle.std.proofs.lemmas.List.{append-nil, get_or-append-add, get_or_append_left}
use Rattle.std.proofs.lemmas.List.Elements.{filter-append}
use Rattle.std.proofs.lemmas.List.FromFn.{get_or-range_with_len, length-range_with_len}
use Rattle.std.proofs.lemmas.Option.{slice_get_past, slice_get_read}
use Rattle.annex_base.proofs.Numbers.{range_more, range_suc}
use Rattle.node_model.specs.Evidence.{but}
use Rattle.node_model.specs.JobStep.{Turn}
use Rattle.node_model.specs.TransferStep.{sources}

-- one number more
more : (r n : ℕ) → but r (range_with_len 0 (n + 1)) ≡ but r (range_with_len 0 n) ++ (if not (n == r) then n ∷ [] else [])
more r n = ap (λ (l : List ℕ). but r l) (range_more n) ∙ filter-append (λ x. not (x == r)) (range_with_len 0 n) (n ∷ [])

more_self : (r : ℕ) → but r (range_with_len 0 (r + 1)) ≡ but r (range_with_len 0 r)
more_self r =
    let e : (r == r) ≡ true = grind (arith, nat_tests) in
    more r r ∙ ap (λ (b : Bool). but r (range_with_len 0 r) ++ (if not b then r ∷ [] else [])) e ∙ append-nil (but r (range_with_len 0 r))

more_other : (r n : ℕ) → n ≢ r → but r (range_with_len 0 (n + 1)) ≡ but r (range_with_len 0 n) ++ n ∷ []
more_other r n other =
    let e : (n == r) ≡ false = grind (arith, nat_tests) in
    more r n ∙ ap (λ (b : Bool). but r (range_with_len 0 n) ++ (if not b then n ∷ [] else [])) e

-- those below r are all there
pub below : (r n : ℕ) → n ≤ r → but r (range_with_len 0 n) ≡ range_with_len 0 n
below r zero low = refl
below r (suc n) low =
    let one : suc n ≡ n + 1 = omega arith in
    ap (λ (k : ℕ). but r (range_with_len 0 k)) one ∙ more_other r n (omega (arith, low)) ∙ ap (λ (l : List ℕ). l ++ n ∷ []) (below r n (omega (arith, low)))
    ∙ sym (ap (λ (k : ℕ). range_with_len 0 k) one ∙ range_more n)

-- and those above it follow
above : (r m : ℕ) → but r (range_with_len 0 (r + 1 + m)) ≡ range_with_len 0 r ++ range_with_len (r + 1) m
above r zero =
    let none : r + 1 + 0 ≡ r + 1 = omega arith in
    let same : r ≤ r = omega arith in
    ap (λ (k : ℕ). but r (range_with_len 0 k)) none ∙ more_self r ∙ below r r same ∙ sym (append-nil (range_with_len 0 r))
above r (suc m) =
    let one : r + 1 + suc m ≡ r + 1 + m + 1 = omega arith in
    ap (λ (k : ℕ). but r (range_with_len 0 k)) one ∙ more_other r (r + 1 + m) (omega arith) ∙ ap (λ (l : List ℕ). l ++ (r + 1 + m) ∷ []) (above r m)
    ∙ append_assoc (range_with_len 0 r) (range_with_len (r + 1) m) ((r + 1 + m) ∷ []) ∙ ap (λ (l : List ℕ). range_with_len 0 r ++ l) (sym (range_suc (r + 1) m))

split : (r n : ℕ) → r < n → but r (range_with_len 0 n) ≡ range_with_len 0 r ++ range_with_len (r + 1) (n - r - 1)
split r n among =
    let whole : n ≡ r + 1 + (n - r - 1) = omega arith in
    ap (λ (k : ℕ). but r (range_with_len 0 k)) whole ∙ above r (n - r - 1)

counted : (r n : ℕ) → r < n → length (range_with_len 0 r ++ range_with_len (r + 1) (n - r - 1)) ≡ n - 1
counted r n among = length-append (range_with_len 0 r) (range_with_len (r + 1) (n - r - 1)) ∙ (rw (length-range_with_len 0 r, length-range_with_len (r + 1) (n - r - 1)) (omega (arith, among)))

pub other_before : (r n i : ℕ) → r < n → i < r → Some i ≡ slice_get (but r (range_with_len 0 n)) i
other_before r n i among low =
    let xs = range_with_len 0 r in
    let ys = range_with_len (r + 1) (n - r - 1) in
    let here : get_or (xs ++ ys) i i ≡ i =
    get_or_append_left xs ys i i (rw (length-range_with_len 0 r) low) ∙ get_or-range_with_len 0 r i i low ∙ omega arith in
    sym (ap (λ (l : List ℕ). slice_get l i) (split r n among) ∙ slice_get_read (xs ++ ys) (n - 1) i i (sym (counted r n among)) (omega (arith, among, low)) (sym here))

pub other_behind : (r n i : ℕ) → r < n → r ≤ i → i < n - 1 → Some (i + 1) ≡ slice_get (but r (range_with_len 0 n)) i
other_behind r n i among high far =
    let xs = range_with_len 0 r in
    let ys = range_with_len (r + 1) (n - r - 1) in
    let place : i ≡ length xs + (i - r) = rw (length-range_with_len 0 r) (omega (arith, high)) in
    let here : get_or (xs ++ ys) i (i + 1) ≡ i + 1 =
    ap (λ (k : ℕ). get_or (xs ++ ys) k (i + 1)) place ∙ get_or-append-add xs ys (i - r) (i + 1) ∙ get_or-range_with_len (r + 1) (n - r - 1) (i - r) (i + 1) (omega (arith, among, high, far)) ∙ omega (arith, high) in
    sym (ap (λ (l : List ℕ). slice_get l i) (split r n among) ∙ slice_get_read (xs ++ ys) (n - 1) i (i + 1) (sym (counted r n among)) far (sym here))

pub other_past : (r n i : ℕ) → r < n → n - 1 ≤ i → None ≡ slice_get (but r (range_with_len 0 n)) i
other_past r n i among past =
    sym (ap (λ (l : List ℕ). slice_get l i) (split r n among) ∙ slice_get_past (range_with_len 0 r ++ range_with_len (r + 1) (n - r - 1)) i (rw (counted r n among) past))

-- where each of them is another one
pub number_within : (n i : ℕ) → i < n → Some i ≡ slice_get (range_with_len 0 n) i
number_within n i low =
    let here : get_or (range_with_len 0 n) i i ≡ i = get_or-range_with_len 0 n i i low ∙ omega arith in
    sym (slice_get_read (range_with_len 0 n) n i i (sym (length-range_with_len 0 n)) low (sym here))

pub number_past : (n i : ℕ) → n ≤ i → None ≡ slice_get (range_with_len 0 n) i
number_past n i past = sym (slice_get_past (range_with_len 0 n) i (rw (length-range_with_len 0 n) past))

-- ---- the peers that a get asks

-- its own peer is the only one
pub own_first : (t : Turn) (peer : Option ℕ) (p n asked : ℕ) → peer ≡ Some p → asked ≡ n → asked ≡ 0 → Some p ≡ slice_get (sources t peer) n
own_first t peer p n asked is same none = (λ i. slice_get (p ∷ []) (sym none i)) ∙ (λ i. slice_get (sources t (sym is i)) (same i))

pub own_past : (t : Turn) (peer : Option ℕ) (p n asked : ℕ) → peer ≡ Some p → asked ≡ n → asked ≢ 0 → None ≡ slice_get (sources t peer) n
own_past t peer p n asked is same some = sym (slice_get_past (p ∷ []) asked (omega (arith, some))) ∙ (λ i. slice_get (sources t (sym is i)) (same i))

pub others_at : (t : Turn) (peer : Option ℕ) (n repo count asked : ℕ) → peer ≡ None → asked ≡ n → repo ≡ t.read.repo → count ≡ t.read.count → slice_get (but repo (range_with_len 0 count)) asked ≡ slice_get (sources t peer) n
others_at t peer n repo count asked is same mine all = (λ i. slice_get (but (mine i) (range_with_len 0 (all i))) (same i)) ∙ (λ i. slice_get (sources t (sym is i)) n)
