-- The evidence of a drop against the offers of its candidates: gathered items are offers, and where none waits all offers are items.
use Rattle.std.specs.Prelude.{◌&&◌, count_by, if◌then◌else◌, max, nat_le}
use Rattle.std.proofs.Common.{◌≡◌, ℕ, suc, ◌+◌, ◌≤◌, Bool, true, false, cond, List, [], ◌∷◌, ◌++◌, length, inl, inr, refl, sym, ap, ◌∙◌, subst, arith}
use Rattle.std.proofs.lemmas.Bool.{true≢false, and_parts}
use Rattle.std.proofs.lemmas.Bool.Decides.{nat_tests}
use Rattle.annex_base.specs.Lists.{Member}
use Rattle.drop_proof.specs.declared.evidence.Evidence.{Evidence}
use Rattle.drop_proof.specs.declared.evidence.Kind.{Kind}
use Rattle.drop_proof.specs.declared.rule.Need.{Need}
use Rattle.drop_proof.specs.declared.rule.Side.{Side}
use Rattle.drop_proof.specs.declared.rule.Side.TheVariants.{Local, Remote}
use Rattle.drop_proof.specs.Judging.{counts, is_enough, is_full_kind}
use Rattle.node_model.specs.Evidence.{Offer, Gives, Fails, gather, pick, reached_candidates}
use Rattle.past_facts.proofs.Lists.{count_by-cons}

abbrev one : Bool → ℕ
one d = cond d 1 0

-- how many pass a test, by recursion
abbrev tally : {X : Type 0} → (X → Bool) → List X → ℕ
tally test [] = 0
tally test (x ∷ xs) = one (test x) + tally test xs

tally_is : {X : Type 0} (test : X → Bool) (xs : List X) → tally test xs ≡ count_by test xs
tally_is test [] = refl
tally_is test (x ∷ xs) = ap (λ k. one (test x) + k) (tally_is test xs) ∙ sym (count_by-cons test x xs)

-- of what a candidate gives, whether it passes a test
abbrev pub passes : (Kind → Bool) → (ℕ → Offer) → ℕ → Bool
passes test ask c = pick (ask c) test false

abbrev of_kind : (Kind → Bool) → Evidence → Bool
of_kind test i = test i.kind

pushed : (test : Evidence → Bool) (items : List Evidence) (i : Evidence) → tally test (items ++ i ∷ []) ≡ tally test items + one (test i)
pushed test [] i = omega arith
pushed test (x ∷ xs) i = let k = pushed test xs i in omega (arith, k)

-- ---- gathered items are no more than those that are given

few : (test : Kind → Bool) (side : Side) (need : Need) (ask : ℕ → Offer) (cs : List ℕ) (items : List Evidence) → tally (of_kind test) (gather side need ask cs items) ≤ tally (of_kind test) items + tally (passes test ask) cs
few test side need ask [] items = omega arith
few test side need ask (c ∷ cs) items = go (λ more. few test side need ask cs more) (is_enough side need items) (ask c)
  where
    rest : ℕ
    rest = tally (passes test ask) cs

    go : ((more : List Evidence) → tally (of_kind test) (gather side need ask cs more) ≤ tally (of_kind test) more + rest) → (d : Bool) (o : Offer)
        → tally (of_kind test) (if d then items else pick o (λ kind. gather side need ask cs (items ++ record { repo = c; kind = kind } ∷ [])) (gather side need ask cs items)) ≤ tally (of_kind test) items + (one (pick o test false) + rest)
    go ih true o = omega arith
    go ih false (Gives kind) =
        let i = ih (items ++ record { repo = c; kind = kind } ∷ []) in
        let n = pushed (of_kind test) items (record { repo = c; kind = kind }) in
        more _ _ _ _ rest i n
      where
        more : (x y l o r : ℕ) → x ≤ y + r → y ≡ l + o → x ≤ l + (o + r)
        more x y l o r i n = omega (arith, i, n)
    go ih false Fails = let i = ih items in omega (arith, i)

reached_few : (test waits : ℕ → Bool) (cs : List ℕ) → tally test (reached_candidates waits cs) ≤ tally test cs
reached_few test waits [] = omega arith
reached_few test waits (c ∷ cs) = go (reached_few test waits cs) (waits c)
  where
    go : tally test (reached_candidates waits cs) ≤ tally test cs → (d : Bool) → tally test (if d then [] else c ∷ reached_candidates waits cs) ≤ one (test c) + tally test cs
    go i true = omega arith
    go i false = omega (arith, i)

weaker_few : (test other : ℕ → Bool) (cs : List ℕ) → ((c : ℕ) → Member c cs → test c ≡ true → other c ≡ true) → tally test cs ≤ tally other cs
weaker_few test other [] f = omega arith
weaker_few test other (c ∷ cs) f = go (test c) refl (other c) refl (weaker_few test other cs (λ d m. f d (inr m)))
  where
    go : (d : Bool) → test c ≡ d → (e : Bool) → other c ≡ e → tally test cs ≤ tally other cs → one d + tally test cs ≤ one e + tally other cs
    go true p true q i = omega (arith, i)
    go true p false q i = absurd (true≢false (sym (f c (inl refl) p) ∙ q))
    go false p true q i = omega (arith, i)
    go false p false q i = omega (arith, i)

given_kind : (o : Offer) → pick o (λ kind. true) false ≡ true → (kind : Kind) × (o ≡ Gives kind)
given_kind (Gives kind) e = (kind, refl)
given_kind Fails e = absurd (cc)

-- ---- where none waits, and the evidence isn't enough, all that is given is gathered

all : (test : Kind → Bool) (side : Side) (need : Need) (ask : ℕ → Offer) (cs : List ℕ) (items : List Evidence) → is_enough side need (gather side need ask cs items) ≡ false
    → tally (of_kind test) (gather side need ask cs items) ≡ tally (of_kind test) items + tally (passes test ask) cs
all test side need ask [] items e = omega arith
all test side need ask (c ∷ cs) items e = go (λ more k. all test side need ask cs more k) (is_enough side need items) refl (ask c) e
  where
    rest : ℕ
    rest = tally (passes test ask) cs

    go : ((more : List Evidence) → is_enough side need (gather side need ask cs more) ≡ false → tally (of_kind test) (gather side need ask cs more) ≡ tally (of_kind test) more + rest) → (d : Bool) → is_enough side need items ≡ d → (o : Offer)
        → is_enough side need (if d then items else pick o (λ kind. gather side need ask cs (items ++ record { repo = c; kind = kind } ∷ [])) (gather side need ask cs items)) ≡ false
        → tally (of_kind test) (if d then items else pick o (λ kind. gather side need ask cs (items ++ record { repo = c; kind = kind } ∷ [])) (gather side need ask cs items)) ≡ tally (of_kind test) items + (one (pick o test false) + rest)
    go ih true is o e = absurd (true≢false (sym is ∙ e))
    go ih false is (Gives kind) e =
        let i = ih (items ++ record { repo = c; kind = kind } ∷ []) e in
        let n = pushed (of_kind test) items (record { repo = c; kind = kind }) in
        more _ _ _ _ rest i n
      where
        more : (x y l o r : ℕ) → x ≡ y + r → y ≡ l + o → x ≡ l + (o + r)
        more x y l o r i n = omega (arith, i, n)
    go ih false is Fails e = let i = ih items e in omega (arith, i)

reached_all : (waits : ℕ → Bool) (cs : List ℕ) → ((c : ℕ) → Member c cs → waits c ≡ false) → reached_candidates waits cs ≡ cs
reached_all waits [] none = refl
reached_all waits (c ∷ cs) none = rw (none c (inl refl)) (ap (λ ys. c ∷ ys) (reached_all waits cs (λ d m. none d (inr m))))

any_length : (items : List Evidence) → tally (of_kind (λ kind. true)) items ≡ length items
any_length [] = refl
any_length (i ∷ is) = step (tally (of_kind (λ kind. true)) is) (length is) (any_length is)
  where
    step : (x y : ℕ) → x ≡ y → 1 + x ≡ suc y
    step x y k = omega (arith, k)

at_least : (x y : ℕ) → nat_le x y ≡ true → x ≤ y
at_least x y t = grind (arith, nat_tests)

module _ (side : Side) (need : Need) (ask : ℕ → Offer) (waits offers full : ℕ → Bool) (cs : List ℕ) where
  abbrev any : Kind → Bool
  any kind = true

  abbrev items : List Evidence
  items = gather side need ask (reached_candidates waits cs) []

  -- **evidence that is enough is of as many offers; that of a remote drop of as many full ones, too**
  module _ (offered : (c : ℕ) → Member c cs → (kind : Kind) → ask c ≡ Gives kind → (offers c ≡ true) × (is_full_kind kind ≡ full c)) (enough : is_enough side need items ≡ true) where
    two : (nat_le (max need.n need.m) (length items) ≡ true) × (nat_le need.m (count_by (counts side) items) ≡ true)
    two = and_parts (nat_le (max need.n need.m) (length items)) (nat_le need.m (count_by (counts side) items)) enough

    within : (test : Kind → Bool) (other : ℕ → Bool) (n : ℕ) → n ≤ tally (of_kind test) items → ((c : ℕ) → Member c cs → passes test ask c ≡ true → other c ≡ true) → n ≤ count_by other cs
    within test other n least weaker = subst (λ k. n ≤ k) (tally_is other cs) (more n (tally (of_kind test) items) (tally (passes test ask) (reached_candidates waits cs)) (tally (passes test ask) cs) (tally other cs) least
        (few test side need ask (reached_candidates waits cs) []) (reached_few (passes test ask) waits cs) (weaker_few (passes test ask) other cs weaker))
      where
        more : (x y u v w : ℕ) → x ≤ y → y ≤ 0 + u → u ≤ v → v ≤ w → x ≤ w
        more x y u v w i k l m = omega (arith, i, k, l, m)

    full_of : (c : ℕ) → Member c cs → (o : Offer) → ask c ≡ o → pick o is_full_kind false ≡ true → full c ≡ true
    full_of c m (Gives kind) is e = sym (offered c m kind is).1 ∙ e
    full_of c m Fails is e = absurd (cc)

    pub suffices : (max need.n need.m ≤ count_by offers cs) × (side ≡ Remote → need.m ≤ count_by full cs)
    suffices = (
      within any offers (max need.n need.m) (subst (λ k. max need.n need.m ≤ k) (sym (any_length items)) (at_least (max need.n need.m) (length items) two.0)) (λ c m e. let g = given_kind (ask c) e in (offered c m g.0 g.1).0),
      λ remote. within is_full_kind full need.m (subst (λ k. need.m ≤ k) (sym (tally_is (of_kind is_full_kind) items)) (at_least need.m (count_by (counts Remote) items) (subst (λ q. nat_le need.m (count_by (counts q) items) ≡ true) remote two.1)))
          (λ c m e. full_of c m (ask c) refl e),
    )

  -- **where none waits and as many are offered, it is enough**
  module _ (none : (c : ℕ) → Member c cs → waits c ≡ false) (given : (c : ℕ) → Member c cs → offers c ≡ true → (kind : Kind) × (ask c ≡ Gives kind)) (given_full : (c : ℕ) → Member c cs → full c ≡ true → passes is_full_kind ask c ≡ true)
      (wants : is_enough side need items ≡ false) (many : max need.n need.m ≤ count_by offers cs) (some : side ≡ Remote → need.m ≤ count_by full cs) where
    over : (test : Kind → Bool) (other : ℕ → Bool) (n : ℕ) → n ≤ count_by other cs → ((c : ℕ) → Member c cs → other c ≡ true → passes test ask c ≡ true) → n ≤ tally (of_kind test) items
    over test other n least weaker = more n (tally other cs) (tally (passes test ask) cs) (tally (of_kind test) items) (subst (λ k. n ≤ k) (sym (tally_is other cs)) least) (weaker_few other (passes test ask) cs weaker)
        (all test side need ask (reached_candidates waits cs) [] wants ∙ ap (λ (ys : List ℕ). 0 + tally (passes test ask) ys) (reached_all waits cs none))
      where
        more : (x u v y : ℕ) → x ≤ u → u ≤ v → y ≡ 0 + v → x ≤ y
        more x u v y i k l = omega (arith, i, k, l)

    long : max need.n need.m ≤ length items
    long = subst (λ k. max need.n need.m ≤ k) (any_length items) (over any offers (max need.n need.m) many (λ c m e. ap (λ o. pick o any false) (given c m e).1))

    least : (n m k : ℕ) → max n m ≤ k → m ≤ k
    least n m k i = grind (arith, nat_tests)

    counted : (q : Side) → side ≡ q → need.m ≤ count_by (counts q) items
    counted Local is = subst (λ k. need.m ≤ k) (sym (any_length items) ∙ tally_is (of_kind any) items) (least need.n need.m (length items) long)
    counted Remote is = subst (λ k. need.m ≤ k) (tally_is (of_kind is_full_kind) items) (over is_full_kind full need.m (some is) given_full)

    both : (x y u v : ℕ) → x ≤ y → u ≤ v → (nat_le x y && nat_le u v) ≡ true
    both x y u v i k = let p : nat_le x y ≡ true = grind (arith, nat_tests) in let q : nat_le u v ≡ true = grind (arith, nat_tests) in rw (p, q) refl

    pub lacks : ⊥
    lacks = true≢false (sym (both (max need.n need.m) (length items) need.m (count_by (counts side) items) long (counted side refl)) ∙ wants)
