-- A settling adds entries of the repositories that are there, and so ends with two idle rounds where none makes more than it may.
use Rattle.std.proofs.Common.{◌≡◌, ◌⊎◌, inl, inr, ℕ, zero, suc, ◌+◌, ◌*◌, ◌<◌, ◌≤◌, Bool, true, false, List, [], ◌∷◌, ◌++◌, refl, sym, ap, ◌∙◌, subst, append_assoc, arith}
use Rattle.std.specs.Prelude.{if◌then◌else◌, length}
use Rattle.std.proofs.lemmas.List.{length-append}
use Rattle.std.proofs.Math.Nat.{eq-or-lt_of_le}
use Rattle.annex_base.specs.Lists.{Each}
use Rattle.annex_base.proofs.Lists.{Each-append, Each-weaker}
use Rattle.run_data.specs.Histories.{most_entries}
use Rattle.run_data.specs.declared.entry.Entry.{Entry}
use Rattle.run_model.specs.Past.{is_of}
use Rattle.driver_model.specs.Driver.{Driver, DriverInput}
use Rattle.driver_model.specs.Limits.{count_of, is_too_long}
use Rattle.driver_model.specs.Turning.{turn}
use Rattle.driver_model.specs.Rounds.{AfterRounds, after_round, goes_round, is_settled, most_rounds, numbers, round, rounds, turns_of}
use Rattle.driver_model.proofs.Numbers.{below_len}
use Rattle.driver_model.proofs.FullHistories.{count_one, count_own, few_entries}
use Rattle.driver_model.proofs.OwnEntries.{adds_own, turn_owns}
use Rattle.driver_model.proofs.Settles.{bound_not_met}

-- ---- of pasts, which have the newest entry first

-- the entry is one of the first so many repositories
abbrev pub IsOfFirst : ℕ → Entry → Type 0
IsOfFirst n e = (r : ℕ) × (r < n) × (is_of r e ≡ true)

-- the one past is the other with such entries in front
abbrev GrewBy : ℕ → List Entry → List Entry → Type 0
GrewBy n past after = (more : List Entry) × (after ≡ more ++ past) × Each (IsOfFirst n) more

stays : (n : ℕ) (past : List Entry) → GrewBy n past past
stays n past = ([], refl, tt)

then_grew : (n : ℕ) (a b c : List Entry) → GrewBy n a b → GrewBy n b c → GrewBy n a c
then_grew n a b c x y = (y.0 ++ x.0, y.1 ∙ ap (λ past. y.0 ++ past) x.1 ∙ sym (append_assoc y.0 x.0 a), Each-append (IsOfFirst n) y.0 x.0 y.2 x.2)

-- ---- rounds

module _ (g : DriverInput) where
  abbrev Grows : Driver → Driver → Type 0
  Grows d after = GrewBy (length g.repos) d.past after.past

  turn_grows : (r : ℕ) → r < length g.repos → (d : Driver) → Grows d (turn g r d)
  turn_grows r known d =
      let x = adds_own r d (turn g r d) (turn_owns r g d) in
      (x.more, x.adds, Each-weaker (λ (e : Entry). is_of r e ≡ true) (IsOfFirst (length g.repos)) (λ e own. (r, known, own)) x.more x.own)

  turns_grow : (rs : List ℕ) → Each (λ r. r < length g.repos) rs → (d : Driver) → Grows d (turns_of g rs d)
  turns_grow [] known d = stays (length g.repos) d.past
  turns_grow (r ∷ rs) known d =
      then_grew (length g.repos) d.past (turn g r d).past (turns_of g rs (turn g r d)).past (turn_grows r known.0 d) (turns_grow rs known.1 (turn g r d))

  round_grows : (d : Driver) → Grows d (round g d)
  round_grows d = turns_grow (numbers g) (below_len 0 (length g.repos) (length g.repos) (omega arith)) d

  goes_grows : (x : AfterRounds) → Grows x.driver (goes_round g x).driver
  goes_grows x = go (is_settled x)
    where
      go : (b : Bool) → Grows x.driver (if b then x else after_round x (round g x.driver)).driver
      go true = stays (length g.repos) x.driver.past
      go false = round_grows x.driver

  rounds_grow : (n : ℕ) (x : AfterRounds) → Grows x.driver (rounds g n x).driver
  rounds_grow zero x = goes_grows x
  rounds_grow (suc n) x =
      go (then_grew (length g.repos) x.driver.past (rounds g n x).driver.past (rounds g n (rounds g n x)).driver.past (rounds_grow n x) (rounds_grow n (rounds g n x))) (is_settled x)
    where
      go : Grows x.driver (rounds g n (rounds g n x)).driver → (b : Bool) → Grows x.driver (if b then x else rounds g n (rounds g n x)).driver
      go more true = stays (length g.repos) x.driver.past
      go more false = more

-- ---- how many entries these are

-- how many the first so many repositories have made
abbrev pub total : ℕ → List Entry → ℕ
total zero past = 0
total (suc n) past = count_of past n + total n past

total_more : (n : ℕ) (e : Entry) (past : List Entry) → total n past ≤ total n (e ∷ past)
total_more zero e past = omega arith
total_more (suc n) e past = let i = (count_one n e past).0 in let j = total_more n e past in omega (arith, i, j)

last_or_before : (r n : ℕ) → r < suc n → (r ≡ n) ⊎ (r < n)
last_or_before r n i = eq-or-lt_of_le {n = r} {m = n} (omega (arith, i))

total_one : (n : ℕ) (e : Entry) (past : List Entry) → IsOfFirst n e → total n past + 1 ≤ total n (e ∷ past)
total_one zero e past x = let i = x.1 in absurd (omega (arith, i))
total_one (suc n) e past x = elim (last_or_before x.0 n x.1) [
  | inl last ↦ let i = count_own n e past (subst (λ q. is_of q e ≡ true) last x.2) in let j = total_more n e past in omega (arith, i, j)
  | inr before ↦ let i = (count_one n e past).0 in let j = total_one n e past (x.0, before, x.2) in omega (arith, i, j)
]

pub total_added : (n : ℕ) (more past : List Entry) → Each (IsOfFirst n) more → total n past + length more ≤ total n (more ++ past)
total_added n [] past first = omega arith
total_added n (e ∷ more) past first =
    let i = total_added n more past first.1 in
    let j = total_one n e (more ++ past) first.0 in
    omega (arith, i, j)

pub total_few : (n : ℕ) (past : List Entry) → ((q : ℕ) → q < n → count_of past q ≤ most_entries) → total n past ≤ n * 100000
total_few zero past few = omega arith
total_few (suc n) past few =
    let i = few n (omega arith) in
    let j = total_few n past (λ q below. few q (omega (arith, below))) in
    omega (arith, i, j)

pub fewer : (n before more sum after total : ℕ) → n ≤ 16 → before + more ≤ sum → sum ≤ n * 100000 → after ≡ more + total → after < total + 2000000
fewer n before more sum after total sixteen added few is = omega (arith, sixteen, added, few, is)

pub rests_within_limit : (g : DriverInput) (x : AfterRounds) (bound : ℕ) → bound ≡ most_rounds → length g.repos ≤ 16
    → is_too_long g (rounds g bound x).driver.past ≡ false → is_settled (rounds g bound x) ≡ true
rests_within_limit g x bound e sixteen short =
    let grew = rounds_grow g bound x in
    let n : ℕ = length g.repos in
    let after : List Entry = (rounds g bound x).driver.past in
    let added = subst (λ (past : List Entry). total n x.driver.past + length grew.0 ≤ total n past) (sym grew.1) (total_added n grew.0 x.driver.past grew.2) in
    let few = total_few n after (few_entries g after short) in
    let is = ap length grew.1 ∙ length-append grew.0 x.driver.past in
    bound_not_met g x bound e (fewer n (total n x.driver.past) (length grew.0) (total n after) (length after) (length x.driver.past) sixteen added few is)
