-- The items of evidence are of distinct repositories, so those that are locked or trusted are no more than the repositories that pass a test.
use Rattle.std.proofs.Common.{◌≡◌, ℕ, zero, suc, ◌+◌, ◌<◌, ◌≤◌, Bool, true, false, not, cond, List, [], ◌∷◌, ◌++◌, length, ◌⊎◌, inl, inr, refl, sym, ap, ◌∙◌, subst, arith, append_assoc}
use Rattle.std.specs.Prelude.{◌≢◌, AllPairs, if◌then◌else◌, ◌==◌, count_by, filter, map, max, nat_le}
use Rattle.std.specs.List.{AllByRecursion, range_with_len}
use Rattle.std.proofs.lemmas.Bool.{true≢false, and_parts, eqb-true}
use Rattle.std.proofs.lemmas.Bool.Decides.{nat_tests}
use Rattle.std.proofs.lemmas.List.Elements.{All-from_recursion}
use Rattle.std.proofs.lemmas.List.Kept.{AllPairs-cons}
use Rattle.std.proofs.lemmas.List.{map-append}
use Rattle.annex_base.specs.Lists.{Each, Member}
use Rattle.annex_base.proofs.Lists.{Each-filter, Each-append, Each-left, Each-right, Each-weaker, Each-passes}
use Rattle.annex_base.proofs.Conditions.{eqb_refl}
use Rattle.annex_base.proofs.Numbers.{range_below}
use Rattle.drop_proof.specs.declared.evidence.Evidence.{Evidence}
use Rattle.drop_proof.specs.declared.rule.Need.{Need}
use Rattle.drop_proof.specs.declared.rule.Side.{Side}
use Rattle.drop_proof.specs.declared.rule.Side.TheVariants.{Local, Remote}
use Rattle.drop_proof.specs.Judging.{counts, is_enough, is_full}
use Rattle.run_data.specs.declared.entry.Entry.{Entry}
use Rattle.run_data.specs.declared.run.RepoView.{RepoView}
use Rattle.node_model.specs.Evidence.{Fails, Gives, Offer, but, candidates, gather, pick, reached_candidates}
use Rattle.run_model.specs.Drops.{offer_from, evidence, waits}
use Rattle.past_facts.proofs.Lists.{count_by-cons, count_by-yes}
use Rattle.past_facts.proofs.Gather.{MatchSide, count_by-but, reached_each}

-- ---- lists of distinct numbers

-- each number differs from all later ones
abbrev pub Apart : List ℕ → Type 0
Apart [] = Unit {0}
Apart (x ∷ xs) = Each (λ y. y ≢ x) xs × Apart xs

apart_left : (xs ys : List ℕ) → Apart (xs ++ ys) → Apart xs
apart_left [] ys h = tt
apart_left (x ∷ xs) ys h = (Each-left (λ y. y ≢ x) xs ys h.0, apart_left xs ys h.1)

apart_without : (xs : List ℕ) (y : ℕ) (ys : List ℕ) → Apart (xs ++ y ∷ ys) → Apart (xs ++ ys)
apart_without [] y ys h = h.1
apart_without (x ∷ xs) y ys h = (
  Each-append (λ z. z ≢ x) xs ys (Each-left (λ z. z ≢ x) xs (y ∷ ys) h.0) (Each-right (λ z. z ≢ x) xs (y ∷ ys) h.0).1,
  apart_without xs y ys h.1,
)

apart_filter : (p : ℕ → Bool) (xs : List ℕ) → Apart xs → Apart (filter p xs)
apart_filter p [] h = tt
apart_filter p (x ∷ xs) h = go (apart_filter p xs h.1) (p x)
  where
    go : Apart (filter p xs) → (b : Bool) → Apart (cond b (x ∷ filter p xs) (filter p xs))
    go ih true = (Each-filter (λ y. y ≢ x) p xs h.0, ih)
    go ih false = ih

range_over : (a b n : ℕ) → a < b → Each (λ y. y ≢ a) (range_with_len b n)
range_over a b zero l = tt
range_over a b (suc n) l = ((λ e. absurd (omega (arith, e))), range_over a (b + 1) n (omega arith))

apart_range : (a n : ℕ) → Apart (range_with_len a n)
apart_range a zero = tt
apart_range a (suc n) = (range_over a (a + 1) n (omega arith), apart_range (a + 1) n)

-- ---- candidates

pub not_same : (x r : ℕ) → not (x == r) ≡ true → x ≢ r
not_same x r h e = true≢false (sym (subst (λ y. not (y == r) ≡ true) e h) ∙ ap not (eqb_refl r))

candidates_apart : (side : Side) (n a target : ℕ) → Apart (candidates side n a target)
candidates_apart Local n a target = apart_filter (λ x. not (x == a)) (range_with_len 0 n) (apart_range 0 n)
candidates_apart Remote n a target = (
  Each-filter (λ y. y ≢ a) (λ x. not (x == target)) (but a (range_with_len 0 n))
      (Each-weaker (λ y. not (y == a) ≡ true) (λ y. y ≢ a) (λ y h. not_same y a h) (but a (range_with_len 0 n)) (Each-passes (λ x. not (x == a)) (range_with_len 0 n))),
  apart_filter (λ x. not (x == target)) (but a (range_with_len 0 n)) (apart_filter (λ x. not (x == a)) (range_with_len 0 n) (apart_range 0 n)),
)

reached_apart : (waits : ℕ → Bool) (cs : List ℕ) → Apart cs → Apart (reached_candidates waits cs)
reached_apart waits [] h = tt
reached_apart waits (c ∷ cs) h = go (reached_apart waits cs h.1) (waits c)
  where
    go : Apart (reached_candidates waits cs) → (b : Bool) → Apart (if b then [] else c ∷ reached_candidates waits cs)
    go ih true = tt
    go ih false = (reached_each (λ y. y ≢ c) waits cs h.0, ih)

-- the candidates are repositories of the run
pub candidates_below : (side : Side) (n a target : ℕ) → MatchSide side (Unit {0}) (a < n) → Each (λ c. c < n) (candidates side n a target)
candidates_below Local n a target lt = Each-filter (λ c. c < n) (λ x. not (x == a)) (range_with_len 0 n) (range_below 0 n n (omega arith))
candidates_below Remote n a target lt =
    (lt, Each-filter (λ c. c < n) (λ x. not (x == target)) (but a (range_with_len 0 n)) (Each-filter (λ c. c < n) (λ x. not (x == a)) (range_with_len 0 n) (range_below 0 n n (omega arith))))

-- ---- evidence

abbrev pub repos_in : List Evidence → List ℕ
repos_in items = map (λ i. i.repo) items

gather_apart : (side : Side) (need : Need) (ask : ℕ → Offer) (cs : List ℕ) (items : List Evidence) → Apart (repos_in items ++ cs) → Apart (repos_in (gather side need ask cs items))
gather_apart side need ask [] items h = apart_left (repos_in items) [] h
gather_apart side need ask (c ∷ cs) items h = go (λ more k. gather_apart side need ask cs more k) (is_enough side need items) (ask c)
  where
    go : ((more : List Evidence) → Apart (repos_in more ++ cs) → Apart (repos_in (gather side need ask cs more))) → (b : Bool) (o : Offer)
        → Apart (repos_in (if b then items else pick o (λ kind. gather side need ask cs (items ++ record { repo = c; kind = kind } ∷ [])) (gather side need ask cs items)))
    go ih true o = apart_left (repos_in items) (c ∷ cs) h
    go ih false (Gives kind) =
        let i : Evidence = record { repo = c; kind = kind } in
        let same : repos_in (items ++ i ∷ []) ++ cs ≡ repos_in items ++ c ∷ cs = ap (λ xs. xs ++ cs) (map-append (λ (x : Evidence). x.repo) items (i ∷ [])) ∙ append_assoc (repos_in items) (c ∷ []) cs in
        ih (items ++ i ∷ []) (subst Apart (sym same) h)
    go ih false Fails = ih items (apart_without (repos_in items) c cs h)

-- evidence has each repository once
pub evidence_apart : (side : Side) (repos : List RepoView) (past : List Entry) (a j target : ℕ) (need : Need) → Apart (repos_in (evidence side repos past a j target need))
evidence_apart side repos past a j target need =
    gather_apart side need (offer_from repos past a j) (reached_candidates (waits repos past a j) (candidates side (length repos) a target)) []
    (reached_apart (waits repos past a j) (candidates side (length repos) a target) (candidates_apart side (length repos) a target))

each_other : (x : ℕ) (items : List Evidence) → Each (λ y. y ≢ x) (repos_in items) → AllByRecursion (λ (k : Evidence). x ≢ k.repo) items
each_other x [] h = tt
each_other x (i ∷ items) h = ((λ e. h.0 (sym e)), each_other x items h.1)

pub apart_pairs : (items : List Evidence) → Apart (repos_in items) → AllPairs (λ i k. i.repo ≢ k.repo) items
apart_pairs [] h = λ i j d lt within. absurd (omega (arith, lt, within))
apart_pairs (i ∷ items) h =
    AllPairs-cons (λ (x k : Evidence). x.repo ≢ k.repo) i items (All-from_recursion (λ (k : Evidence). i.repo ≢ k.repo) items (each_other i.repo items h.0)) (apart_pairs items h.1)

-- ---- counting them

count_no : {X : Type 0} (q : X → Bool) (x : X) (xs : List X) → q x ≡ false → count_by q (x ∷ xs) ≡ count_by q xs
count_no q x xs h = count_by-cons q x xs ∙ rw h (omega arith)

member_but : (y r : ℕ) (xs : List ℕ) → y ≢ r → Member y xs → Member y (but r xs)
member_but y r [] n m = m
member_but y r (x ∷ xs) n m = go (λ k. member_but y r xs n k) m (x == r) refl
  where
    go : (Member y xs → Member y (but r xs)) → (y ≡ x) ⊎ Member y xs → (b : Bool) → (x == r) ≡ b → Member y (cond (not b) (x ∷ but r xs) (but r xs))
    go ih (inl e) true h = absurd (n (e ∙ eqb-true x r h))
    go ih (inr k) true h = ih k
    go ih (inl e) false h = inl e
    go ih (inr k) false h = inr (ih k)

others_in : (r : ℕ) (xs : List ℕ) (items : List Evidence) → Each (λ y. y ≢ r) (repos_in items) → Each (λ (i : Evidence). Member i.repo xs) items → Each (λ (i : Evidence). Member i.repo (but r xs)) items
others_in r xs [] a m = tt
others_in r xs (i ∷ items) a m = (member_but i.repo r xs a.0 m.0, others_in r xs items a.1 m.1)

-- of distinct repositories among some, where each that is locked or trusted passes the test, no more are so than pass it
pub full_within : (q : ℕ → Bool) (items : List Evidence) (xs : List ℕ) → Apart (repos_in items) → Each (λ (i : Evidence). Member i.repo xs) items → Each (λ i. is_full i ≡ true → q i.repo ≡ true) items
    → count_by is_full items ≤ count_by q xs
full_within q [] xs a m f = omega arith
full_within q (i ∷ items) xs a m f =
    go (is_full i) refl (full_within q items xs a.1 m.1 f.1) (full_within q items (but i.repo xs) a.1 (others_in i.repo xs items a.0 m.1) f.1)
  where
    go : (b : Bool) → is_full i ≡ b → count_by is_full items ≤ count_by q xs → count_by is_full items ≤ count_by q (but i.repo xs) → count_by is_full (i ∷ items) ≤ count_by q xs
    go true h all rest = omega (arith, count_by-yes is_full i items h, count_by-yes q i.repo (but i.repo xs) (f.0 h), count_by-but q i.repo xs m.0, rest)
    go false h all rest = omega (arith, count_no is_full i items h, all)

pub all_full : (items : List Evidence) → Each (λ i. is_full i ≡ true) items → count_by is_full items ≡ length items
all_full [] h = refl
all_full (i ∷ items) h = omega (arith, count_by-yes is_full i items h.0, all_full items h.1)

pub enough_items : (side : Side) (need : Need) (items : List Evidence) → is_enough side need items ≡ true → max need.n need.m ≤ length items
enough_items side need items h = le (max need.n need.m) (and_parts (nat_le (max need.n need.m) (length items)) (nat_le need.m (count_by (counts side) items)) h).0
  where
    le : (c : ℕ) → nat_le c (length items) ≡ true → c ≤ length items
    le c k = grind (arith, nat_tests)
