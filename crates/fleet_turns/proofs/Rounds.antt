-- Turns and rounds one behind the other: a fleet goes on as the driver does.
use Rattle.std.proofs.Common.{◌≡◌, ℕ, suc, ◌+◌, ◌<◌, ◌≤◌, true, false, length, sym, ap, ◌∙◌, subst, arith}
use Rattle.std.specs.Prelude.{◌==◌, if◌then◌else◌, nat_le}
use Rattle.std.specs.List.{range_with_len}
use Rattle.std.proofs.lemmas.Bool.Decides.{nat_tests}
use Rattle.driver_model.specs.Driver.{Driver, DriverInput}
use Rattle.driver_model.specs.Driving.{turns}
use Rattle.driver_model.specs.Rounds.{AfterRounds, after_round, idle_after, is_settled, most_rounds, round, settles, turns_of}
use Rattle.driver_model.specs.Turning.{turn}
use Rattle.fleet_entries.specs.Stored.{StoreView}
use Rattle.fleet_entries.specs.Fleets.{FleetView}
use Rattle.fleet_entries.specs.Settling.{goes_rounds, power, before_rounds}
use Rattle.fleet_entries.specs.AtDriver.{GoesOn, IsDriven, IsAtDriver, most_lines}
use Rattle.fleet_entries.proofs.Driving.{entries_are}
use Rattle.fleet_entries.proofs.Few.{rounds_few}

-- ---- turns one behind the other

after_one : (n : ℕ) → suc n ≡ n + 1
after_one n = omega arith

pub one_more_turn : {K : Type 0} (tells : K → StoreView) (r n : ℕ) (was between after : FleetView K) → ((g : DriverInput) (r n : ℕ) (d : Driver) → turns g r (suc n) d ≡ turn g r (turns g r n d))
    → GoesOn tells (λ g d. turns g r n d) was between → GoesOn tells (λ g d. turn g r d) between after → GoesOn tells (λ g d. turns g r (n + 1) d) was after
one_more_turn tells r n was between after law so_far one g d stands = subst (λ (k : ℕ). IsAtDriver tells g (turns g r k d) after) (after_one n) (subst (λ (x : Driver). IsAtDriver tells g x after) (sym (law g r n d)) (one g (turns g r n d) (so_far g d stands)))

-- ---- a round

pub one_more_of_round : {K : Type 0} (tells : K → StoreView) (n : ℕ) (was between after : FleetView K) → ((g : DriverInput) (n : ℕ) (d : Driver) → turns_of g (range_with_len 0 (suc n)) d ≡ turn g n (turns_of g (range_with_len 0 n) d))
    → GoesOn tells (λ g d. turns_of g (range_with_len 0 n) d) was between → GoesOn tells (λ g d. turn g n d) between after → GoesOn tells (λ g d. turns_of g (range_with_len 0 (n + 1)) d) was after
one_more_of_round tells n was between after law so_far one g d stands = subst (λ (k : ℕ). IsAtDriver tells g (turns_of g (range_with_len 0 k) d) after) (after_one n) (subst (λ (x : Driver). IsAtDriver tells g x after) (sym (law g n d)) (one g (turns_of g (range_with_len 0 n) d) (so_far g d stands)))

-- the turns of all nodes are a round
pub whole_round : {K : Type 0} (tells : K → StoreView) (n : ℕ) (was after : FleetView K) → n ≡ length was.nodes → GoesOn tells (λ g d. turns_of g (range_with_len 0 n) d) was after → GoesOn tells (λ g d. round g d) was after
whole_round tells n was after all turned g d stands = subst (λ (k : ℕ). IsAtDriver tells g (turns_of g (range_with_len 0 k) d) after) (all ∙ stands.come.count) (turned g d stands)

-- ---- rounds one behind the other

-- wherever the driver was, it has gone so many rounds, of which the last so many were idle
pub record HasGone {K : Type 0} (tells : K → StoreView) (n idle : ℕ) (was after : FleetView K) : Type 0 where
  pub stands : (g : DriverInput) (d : Driver) → IsAtDriver tells g d was → IsAtDriver tells g (goes_rounds g n (before_rounds d)).driver after
  pub idle_is : (g : DriverInput) (d : Driver) → IsAtDriver tells g d was → (goes_rounds g n (before_rounds d)).idle ≡ idle

-- how many were idle after one more, by whether entries came between
abbrev pub idle_then : ℕ → ℕ → ℕ → ℕ
idle_then before after idle = if before == after then idle + 1 else 0

pub below : (k : ℕ) → k < 2 → nat_le 2 k ≡ false
below k less = grind (arith, nat_tests)

reached : (k : ℕ) → 2 ≤ k → nat_le 2 k ≡ true
reached k many = grind (arith, nat_tests)

pub one_more_round : {K : Type 0} (tells : K → StoreView) (n idle : ℕ) (was between after : FleetView K)
    → ((g : DriverInput) (n : ℕ) (x : AfterRounds) → is_settled (goes_rounds g n x) ≡ false → goes_rounds g (suc n) x ≡ after_round (goes_rounds g n x) (round g (goes_rounds g n x).driver))
    → idle < 2 → HasGone tells n idle was between → GoesOn tells (λ g d. round g d) between after → HasGone tells (n + 1) (idle_then (length between.run.entries) (length after.run.entries) idle) was after
one_more_round {K} tells n idle was between after law low gone one = subst (λ (k : ℕ). HasGone tells k (idle_then (length between.run.entries) (length after.run.entries) idle) was after) (after_one n) (record {
  stands = λ g d stands. subst (λ (x : AfterRounds). IsAtDriver tells g x.driver after) (sym (next g d stands)) (one g (goes_rounds g n (before_rounds d)).driver (gone.stands g d stands));
  idle_is = λ g d stands. ap (λ (x : AfterRounds). x.idle) (next g d stands) ∙ (ap (λ (k : ℕ). idle_after (goes_rounds g n (before_rounds d)).driver (round g (goes_rounds g n (before_rounds d)).driver) k) (gone.idle_is g d stands)
      ∙ (λ i. if entries_were g d stands i == entries_then g d stands i then idle + 1 else 0));
})
  where
    unready : (g : DriverInput) (d : Driver) → IsAtDriver tells g d was → is_settled (goes_rounds g n (before_rounds d)) ≡ false
    unready g d stands = ap (nat_le 2) (gone.idle_is g d stands) ∙ below idle low

    next : (g : DriverInput) (d : Driver) → IsAtDriver tells g d was → goes_rounds g (suc n) (before_rounds d) ≡ after_round (goes_rounds g n (before_rounds d)) (round g (goes_rounds g n (before_rounds d)).driver)
    next g d stands = law g n (before_rounds d) (unready g d stands)

    entries_were : (g : DriverInput) (d : Driver) → IsAtDriver tells g d was → length (goes_rounds g n (before_rounds d)).driver.past ≡ length between.run.entries
    entries_were g d stands = sym (entries_are tells g (goes_rounds g n (before_rounds d)).driver between (gone.stands g d stands).come)

    entries_then : (g : DriverInput) (d : Driver) → IsAtDriver tells g d was → length (round g (goes_rounds g n (before_rounds d)).driver).past ≡ length after.run.entries
    entries_then g d stands = sym (entries_are tells g (round g (goes_rounds g n (before_rounds d)).driver) after (one g (goes_rounds g n (before_rounds d)).driver (gone.stands g d stands)).come)

pub settled_early : {K : Type 0} (tells : K → StoreView) (n idle : ℕ) (was after : FleetView K)
    → ((g : DriverInput) (d : Driver) (n : ℕ) → n ≤ power most_rounds → is_settled (goes_rounds g n (before_rounds d)) ≡ true → settles g d ≡ (goes_rounds g n (before_rounds d)).driver)
    → n ≤ power most_rounds → 2 ≤ idle → HasGone tells n idle was after → GoesOn tells (λ g d. settles g d) was after
settled_early tells n idle was after law few enough gone g d stands =
    subst (λ (x : Driver). IsAtDriver tells g x after) (sym (law g d n few (ap (nat_le 2) (gone.idle_is g d stands) ∙ reached idle enough))) (gone.stands g d stands)

pub settled_at_most : {K : Type 0} (tells : K → StoreView) (idle : ℕ) (was after : FleetView K) → ((g : DriverInput) (d : Driver) → settles g d ≡ (goes_rounds g (power most_rounds) (before_rounds d)).driver)
    → HasGone tells (power most_rounds) idle was after → GoesOn tells (λ g d. settles g d) was after
settled_at_most tells idle was after law gone g d stands = subst (λ (x : Driver). IsAtDriver tells g x after) (sym (law g d)) (gone.stands g d stands)

-- some driver is where it has come to after so many rounds
pub driven_rounds : {K : Type 0} (tells : K → StoreView) (n idle : ℕ) (was after : FleetView K) → IsDriven tells was → HasGone tells n idle was after → IsDriven tells after
driven_rounds tells n idle was after driven gone = record {
  given = driven.given;
  driver = (goes_rounds driven.given n (before_rounds driven.driver)).driver;
  stands = gone.stands driven.given driven.driver driven.stands;
  repos = driven.repos;
  few = rounds_few most_lines driven.given n (before_rounds driven.driver) driven.few;
}

-- so many rounds are as many as there may be at most
pub few_rounds : (n : ℕ) → n < 4194304 → n ≤ power most_rounds
few_rounds n less = at_most n less
  where
    at_most : (k : ℕ) → k < 4194304 → k ≤ 4194304
    at_most k less = omega (arith, less)

pub last_round : {K : Type 0} (tells : K → StoreView) (n idle : ℕ) (was after : FleetView K) → n ≡ 4194304 → HasGone tells n idle was after → HasGone tells (power most_rounds) idle was after
last_round tells n idle was after all gone = subst (λ (k : ℕ). HasGone tells k idle was after) all gone
