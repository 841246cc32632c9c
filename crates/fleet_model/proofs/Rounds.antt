-- The driver settles by rounds one behind the other.
use Rattle.std.proofs.Common.{◌≡◌, ℕ, zero, suc, ◌+◌, ◌-◌, ◌*◌, ◌≤◌, Bool, true, false, List, [], ◌∷◌, ◌++◌, refl, sym, ap, ◌∙◌, arith}
use Rattle.std.specs.Prelude.{if◌then◌else◌}
use Rattle.std.specs.List.{range_with_len}
use Rattle.annex_base.proofs.Numbers.{range_suc}
use Rattle.driver_model.specs.Driver.{Driver, DriverInput}
use Rattle.driver_model.specs.Rounds.{AfterRounds, after_round, goes_round, is_settled, most_rounds, round, rounds, settles, turns_of}
use Rattle.driver_model.specs.Driving.{turns}
use Rattle.driver_model.specs.Turning.{turn}
use Rattle.fleet_model.specs.Settling.{goes_rounds, power, before_rounds}

-- what is settled stays
settled_once : (g : DriverInput) (x : AfterRounds) → is_settled x ≡ true → goes_round g x ≡ x
settled_once g x settled = ap (λ (b : Bool). if b then x else after_round x (round g x.driver)) settled

pub settled_stays : (g : DriverInput) (n : ℕ) (x : AfterRounds) → is_settled x ≡ true → goes_rounds g n x ≡ x
settled_stays g zero x settled = refl
settled_stays g (suc n) x settled = ap (goes_round g) (settled_stays g n x settled) ∙ settled_once g x settled

-- one more round, where it isn't settled
pub one_more_round : (g : DriverInput) (n : ℕ) (x : AfterRounds) → is_settled (goes_rounds g n x) ≡ false → goes_rounds g (suc n) x ≡ after_round (goes_rounds g n x) (round g (goes_rounds g n x).driver)
one_more_round g n x unready = ap (λ (b : Bool). if b then goes_rounds g n x else after_round (goes_rounds g n x) (round g (goes_rounds g n x).driver)) unready

-- rounds behind rounds
rounds_after : (g : DriverInput) (m n : ℕ) (x : AfterRounds) → goes_rounds g (m + n) x ≡ goes_rounds g m (goes_rounds g n x)
rounds_after g zero n x = ap (λ (k : ℕ). goes_rounds g k x) none
  where
    none : 0 + n ≡ n
    none = grind arith
rounds_after g (suc m) n x = ap (λ (k : ℕ). goes_rounds g k x) next ∙ ap (goes_round g) (rounds_after g m n x)
  where
    next : suc m + n ≡ suc (m + n)
    next = grind arith

twice : (g : DriverInput) (m : ℕ) (x : AfterRounds) → goes_rounds g (2 * m) x ≡ goes_rounds g m (goes_rounds g m x)
twice g m x = ap (λ (k : ℕ). goes_rounds g k x) both ∙ rounds_after g m m x
  where
    both : 2 * m ≡ m + m
    both = grind arith

pub rounds_are : (g : DriverInput) (n : ℕ) (x : AfterRounds) → rounds g n x ≡ goes_rounds g (power n) x
rounds_are g zero x = refl
rounds_are g (suc n) x = go (is_settled x) refl (rounds_are g n)
  where
    go : (b : Bool) → is_settled x ≡ b → ((y : AfterRounds) → rounds g n y ≡ goes_rounds g (power n) y) → (if b then x else rounds g n (rounds g n x)) ≡ goes_rounds g (2 * power n) x
    go true settled half = sym (settled_stays g (2 * power n) x settled)
    go false unready half = ap (rounds g n) (half x) ∙ (half (goes_rounds g (power n) x) ∙ sym (twice g (power n) x))

-- the driver is settled after so many rounds that no more come, or after as many as there are at most
pub settles_by : (g : DriverInput) (d : Driver) → settles g d ≡ (goes_rounds g (power most_rounds) (before_rounds d)).driver
settles_by g d = ap (λ (x : AfterRounds). x.driver) (rounds_are g most_rounds (before_rounds d))

pub settles_early : (g : DriverInput) (d : Driver) (n : ℕ) → n ≤ power most_rounds → is_settled (goes_rounds g n (before_rounds d)) ≡ true → settles g d ≡ (goes_rounds g n (before_rounds d)).driver
settles_early g d n few settled =
    settles_by g d ∙ ap (λ (x : AfterRounds). x.driver) (ap (λ (k : ℕ). goes_rounds g k (before_rounds d)) (sum (power most_rounds) few) ∙ (rounds_after g (power most_rounds - n) n (before_rounds d) ∙ settled_stays g (power most_rounds - n) (goes_rounds g n (before_rounds d)) settled))
  where
    sum : (m : ℕ) → n ≤ m → m ≡ (m - n) + n
    sum m few = grind arith

-- ---- turns one behind the other

pub one_more_turn : (g : DriverInput) (r n : ℕ) (d : Driver) → turns g r (suc n) d ≡ turn g r (turns g r n d)
one_more_turn g r zero d = refl
one_more_turn g r (suc n) d = one_more_turn g r n (turn g r d)

turns_behind : (g : DriverInput) (rs qs : List ℕ) (d : Driver) → turns_of g (rs ++ qs) d ≡ turns_of g qs (turns_of g rs d)
turns_behind g [] qs d = refl
turns_behind g (r ∷ rs) qs d = turns_behind g rs qs (turn g r d)

-- the turns of the first n repositories in a round, and of one more
pub one_more_of_round : (g : DriverInput) (n : ℕ) (d : Driver) → turns_of g (range_with_len 0 (suc n)) d ≡ turn g n (turns_of g (range_with_len 0 n) d)
one_more_of_round g n d =
    ap (λ (rs : List ℕ). turns_of g rs d) (range_suc 0 n) ∙ (turns_behind g (range_with_len 0 n) ((0 + n) ∷ []) d ∙ ap (λ (r : ℕ). turn g r (turns_of g (range_with_len 0 n) d)) from_none)
  where
    from_none : 0 + n ≡ n
    from_none = grind arith
