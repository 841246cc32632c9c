-- Where all are at rest and no old frame is left, the driver's settling changes nothing.
use Rattle.std.proofs.Common.{◌≡◌, ℕ, zero, suc, ◌<◌, ◌^◌, Bool, true, false, List, [], ◌∷◌, None, inl, inr, refl, sym, ap, ◌∙◌, subst, arith}
use Rattle.std.specs.Prelude.{if◌then◌else◌, length, not}
use Rattle.annex_base.specs.Lists.{Each, Member}
use Rattle.annex_base.proofs.Lists.{Each-filter, Each-passes, filter_all}
use Rattle.annex_base.proofs.Numbers.{Member-range}
use Rattle.driver_model.specs.Driver.{Driver, DriverInput, Flight, old_at, set_up_of, state_at, without_old_flights}
use Rattle.driver_model.specs.Finding.{driver_at_turn}
use Rattle.driver_model.specs.Rounds.{AfterRounds, after_round, goes_round, is_settled, most_rounds, numbers, round, settles, turns_of}
use Rattle.node_model.specs.Step.{step}
use Rattle.driver_model.specs.Turning.{plain_look, turn}
use Rattle.driver_model.proofs.Numbers.{below_len}
use Rattle.driver_model.proofs.Settling.{goes, rounds_are}
use Rattle.driver_model.proofs.TurnsFound.{turn_idle}
use Rattle.block_model.specs.Following.{without_old_of}
use Rattle.block_model.specs.Rest.{AreAllAtRest}

-- no frame is old at r
abbrev pub NoneOld : DriverInput → Driver → ℕ → Type 0
NoneOld g d r = Each (λ x. not (old_at (state_at g d r) r x) ≡ true) d.flights

still_none : (g : DriverInput) (rs : List ℕ) (r : ℕ) (d : Driver) → NoneOld g d r → NoneOld g (without_old_of g rs d) r
still_none g [] r d all = all
still_none g (q ∷ rs) r d all = still_none g rs r (without_old_flights (state_at g d q) q d)
    (Each-filter (λ x. not (old_at (state_at g d r) r x) ≡ true) (λ x. not (old_at (state_at g d q) q x)) d.flights all)

pub none_old : (g : DriverInput) (rs : List ℕ) (r : ℕ) (d : Driver) → Member r rs → NoneOld g (without_old_of g rs d) r
none_old g [] r d m = absurd m
none_old g (q ∷ rs) r d (inl same) = still_none g rs r (without_old_flights (state_at g d q) q d)
    (subst (λ k. NoneOld g (without_old_flights (state_at g d q) q d) k) (sym same) (Each-passes (λ x. not (old_at (state_at g d q) q x)) d.flights))
none_old g (q ∷ rs) r d (inr m) = none_old g rs r (without_old_flights (state_at g d q) q d) m

pub nothing_drops : (g : DriverInput) (d : Driver) (r : ℕ) → NoneOld g d r → driver_at_turn g r d ≡ d
nothing_drops g d r all = ap (λ (xs : List Flight). record d { flights = xs }) (filter_all (λ x. not (old_at (state_at g d r) r x)) d.flights all)

module _ (g : DriverInput) (d : Driver) (none : (r : ℕ) → r < length g.repos → NoneOld g d r) (rest : AreAllAtRest g d) where
  turn_rests : (r : ℕ) → r < length g.repos → turn g r d ≡ d
  turn_rests r known =
      let same = nothing_drops g d r (none r known) in
      turn_idle g r d (subst (λ (z : Driver). step (set_up_of g d r) (state_at g d r) (plain_look (set_up_of g d r) z) ≡ None) (sym same) (rest r known)) ∙ same

  turns_rest : (rs : List ℕ) → Each (λ r. r < length g.repos) rs → turns_of g rs d ≡ d
  turns_rest [] all = refl
  turns_rest (r ∷ rs) all = ap (turns_of g rs) (turn_rests r all.0) ∙ turns_rest rs all.1

  round_rests : round g d ≡ d
  round_rests = turns_rest (numbers g) (below_len 0 (length g.repos) (length g.repos) (omega arith))

  goes_rests : (k : ℕ) (x : AfterRounds) → x.driver ≡ d → (goes g k x).driver ≡ d
  goes_rests zero x is = is
  goes_rests (suc k) x is = goes_rests k (goes_round g x) (one (is_settled x))
    where
      one : (b : Bool) → (if b then x else after_round x (round g x.driver)).driver ≡ d
      one true = is
      one false = ap (round g) is ∙ round_rests

  pub settles_rests : settles g d ≡ d
  settles_rests = ap (λ (x : AfterRounds). x.driver) (rounds_are g most_rounds (record { driver = d; idle = 0 })) ∙ goes_rests (2 ^ most_rounds) (record { driver = d; idle = 0 }) refl

pub block_rests : (g : DriverInput) (after was : Driver) → after ≡ without_old_of g (numbers g) was → AreAllAtRest g after → settles g after ≡ after
block_rests g after was is rest = settles_rests g after (λ r known. subst (λ (z : Driver). NoneOld g z r) (sym is) (none_old g (numbers g) r was (Member-range 0 (length g.repos) r (omega arith) (omega (arith, known))))) rest
