-- The ends of a repository's connections are apart, and so are those of a job.
use Rattle.std.proofs.Common.{◌≡◌, ◌≢◌, ℕ, zero, suc, ◌+◌, ◌<◌, Bool, true, false, List, [], ◌∷◌, ◌++◌, refl, arith}
use Rattle.std.specs.Prelude.{cond, ◌==◌, ◌&&◌, not, filter, flat_map, length, map}
use Rattle.std.specs.List.{range_with_len}
use Rattle.annex_base.specs.Lists.{Each}
use Rattle.annex_base.proofs.Lists.{Each-append, Each-filter}
use Rattle.annex_base.proofs.Numbers.{range_above}
use Rattle.annex_base.proofs.Conditions.{eqb_more}
use Rattle.annex_base.specs.Bools.{same_bool}
use Rattle.node_model.specs.AnyTime.{all_ends}
use Rattle.node_model.specs.Ends.{EndName}
use Rattle.node_model.specs.Jobs.{Work, job_end}
use Rattle.node_model.specs.SetUp.{SetUp, others}
use Rattle.driver_model.specs.Apart.{AreApart}
use Rattle.driver_model.proofs.EndLemmas.{same_end-differs}

-- ---- numbers that rise

abbrev Rising : List ℕ → Type 0
Rising [] = Unit {0}
Rising (x ∷ xs) = Each (λ y. x < y) xs × Rising xs

range_rising : (a n : ℕ) → Rising (range_with_len a n)
range_rising a zero = tt
range_rising a (suc n) = (range_above a (a + 1) n (omega arith), range_rising (a + 1) n)

filter_rising : (q : ℕ → Bool) (xs : List ℕ) → Rising xs → Rising (filter q xs)
filter_rising q [] r = tt
filter_rising q (x ∷ xs) r = go (filter_rising q xs r.1) (q x)
  where
    go : Rising (filter q xs) → (b : Bool) → Rising (cond b (x ∷ filter q xs) (filter q xs))
    go more true = (Each-filter (λ y. x < y) q xs r.0, more)
    go more false = more

others_rising : (s : SetUp) → Rising (others s)
others_rising s = filter_rising (λ x. not (x == s.number)) (range_with_len 0 (length s.repos)) (range_rising 0 (length s.repos))

-- ---- a job's ends

jobs_apart : (w : Work) (xs : List ℕ) → Rising xs → AreApart (map (job_end w) xs)
jobs_apart w [] r = tt
jobs_apart w (x ∷ xs) r = (each xs r.0, jobs_apart w xs r.1)
  where
    each : (ys : List ℕ) → Each (λ y. x < y) ys → Each (λ z. z ≢ job_end w x) (map (job_end w) ys)
    each [] n = tt
    each (y ∷ ys) n = (same_end-differs (job_end w y) (job_end w x) (rw (eqb_more x y n.0) refl), each ys n.1)

pub job_ends_apart : (s : SetUp) (w : Work) → AreApart (map (job_end w) (others s))
job_ends_apart s w = jobs_apart w (others s) (others_rising s)

-- ---- all ends: those with one peer, by slot and side

abbrev Code : Type 0
Code = ℕ × Bool

abbrev at : ℕ → Code → EndName
at p c = record { peer = p; slot = c.0; client = c.1 }

abbrev same_code : Code → Code → Bool
same_code c d = (c.0 == d.0) && same_bool c.1 d.1

abbrev CodesApart : List Code → Type 0
CodesApart [] = Unit {0}
CodesApart (c ∷ cs) = Each (λ d. same_code d c ≡ false) cs × CodesApart cs

abbrev pub codes : List Code
codes = (0, true) ∷ (1, true) ∷ (2, true) ∷ (3, true) ∷ (0, false) ∷ (1, false) ∷ (2, false) ∷ (3, false) ∷ []

pub codes_apart : CodesApart codes
codes_apart = ((refl, (refl, (refl, (refl, (refl, (refl, (refl, tt))))))), ((refl, (refl, (refl, (refl, (refl, (refl, tt)))))), ((refl, (refl, (refl, (refl, (refl, tt))))), ((refl, (refl, (refl, (refl, tt)))), ((refl, (refl, (refl, tt))), ((refl, (refl, tt)), ((refl, tt), (tt, tt))))))))

pub codes_ends : (p : ℕ) (cs : List Code) → CodesApart cs → AreApart (map (at p) cs)
codes_ends p [] n = tt
codes_ends p (c ∷ cs) n = (each cs n.0, codes_ends p cs n.1)
  where
    three : (x y z : Bool) → (y && z) ≡ false → ((x && y) && z) ≡ false
    three true y z e = e
    three false y z e = refl

    each : (ds : List Code) → Each (λ d. same_code d c ≡ false) ds → Each (λ z. z ≢ at p c) (map (at p) ds)
    each [] n = tt
    each (d ∷ ds) n = (same_end-differs (at p d) (at p c) (three (p == p) (d.0 == c.0) (same_bool d.1 c.1) n.0), each ds n.1)

apart_append : (xs ys : List EndName) → AreApart xs → AreApart ys → Each (λ x. Each (λ y. y ≢ x) ys) xs → AreApart (xs ++ ys)
apart_append [] ys a b c = b
apart_append (x ∷ xs) ys a b c = (Each-append (λ z. z ≢ x) xs ys a.0 c.0, apart_append xs ys a.1 b c.1)

-- other peers, other ends
codes_other : (x y : ℕ) (c : Code) (ds : List Code) → x < y → Each (λ z. z ≢ at x c) (map (at y) ds)
codes_other x y c [] i = tt
codes_other x y c (d ∷ ds) i = (same_end-differs (at y d) (at x c) (rw (eqb_more x y i) refl), codes_other x y c ds i)

peers_other : (x : ℕ) (c : Code) (ys : List ℕ) → Each (λ y. x < y) ys → Each (λ z. z ≢ at x c) (flat_map (λ y. map (at y) codes) ys)
peers_other x c [] n = tt
peers_other x c (y ∷ ys) n = Each-append (λ z. z ≢ at x c) (map (at y) codes) (flat_map (λ y. map (at y) codes) ys) (codes_other x y c codes n.0) (peers_other x c ys n.1)

peer_other : (x : ℕ) (cs : List Code) (ys : List ℕ) → Each (λ y. x < y) ys → Each (λ b. Each (λ z. z ≢ b) (flat_map (λ y. map (at y) codes) ys)) (map (at x) cs)
peer_other x [] ys n = tt
peer_other x (c ∷ cs) ys n = (peers_other x c ys n, peer_other x cs ys n)

ends_apart : (xs : List ℕ) → Rising xs → AreApart (flat_map (λ x. map (at x) codes) xs)
ends_apart [] r = tt
ends_apart (x ∷ xs) r = apart_append (map (at x) codes) (flat_map (λ y. map (at y) codes) xs) (codes_ends x codes codes_apart) (ends_apart xs r.1) (peer_other x codes xs r.0)

pub all_apart : (s : SetUp) → AreApart (all_ends s)
all_apart s = ends_apart (others s) (others_rising s)
