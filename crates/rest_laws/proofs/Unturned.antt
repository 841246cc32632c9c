-- What a settled driver leaves: no frame on its way is old, and no repository has a step at its own look.
use Rattle.std.proofs.Common.{◌≡◌, ℕ, ◌<◌, Bool, true, false, None, ◌⊎◌, inl, inr, refl, sym, ap, ◌∙◌, subst, arith, true≢false}
use Rattle.std.specs.Prelude.{◌&&◌, ◌||◌, ◌==◌, length, nat_lt, not}
use Rattle.std.proofs.lemmas.Bool.{eqb-true}
use Rattle.std.proofs.lemmas.Bool.Decides.{nat_tests}
use Rattle.annex_base.specs.Lists.{Each, Member}
use Rattle.annex_base.proofs.Conditions.{eqb_refl}
use Rattle.annex_base.proofs.Lists.{Each-member, Each-passes}
use Rattle.run_data.specs.declared.entry.FrameView.{FrameView}
use Rattle.node_model.specs.Ends.{End, EndName}
use Rattle.node_model.specs.Step.{step}
use Rattle.run_model.specs.States.{end_at}
use Rattle.driver_model.specs.Driver.{Driver, DriverInput, Flight, end_to, is_old, old_at, set_up_of, state_at, without_old_flights}
use Rattle.driver_model.specs.Finding.{driver_at_turn}
use Rattle.driver_model.specs.Turning.{plain_look, turn}
use Rattle.driver_model.specs.Ways.{IsOver}
use Rattle.driver_model.proofs.TurnsFound.{turn_idle}
use Rattle.rest_laws.specs.Settled.{IsSettled}

-- a turn that adds no entry found no step ready
abbrev pub IdleTurns : Type 0
IdleTurns = (g : DriverInput) (r : ℕ) (d : Driver) → length (turn g r d).past ≡ length d.past
    → step (set_up_of g d r) (state_at g d r) (plain_look (set_up_of g d r) (without_old_flights (state_at g d r) r d)) ≡ None

-- a frame that comes to an end may still be taken there
abbrev pub IsYoung : End → ℕ → Type 0
IsYoung c n = (c.epoch < n) ⊎ ((n ≡ c.epoch) × (c.opened ≡ true))

pub young_of : (c : End) (f : FrameView) → is_old c f ≡ false → IsYoung c f.epoch
young_of c f young = go (nat_lt f.epoch c.epoch) refl (f.epoch == c.epoch) refl c.opened refl
  where
    is : (a b o : Bool) → nat_lt f.epoch c.epoch ≡ a → (f.epoch == c.epoch) ≡ b → c.opened ≡ o → (a || (b && not o)) ≡ false
    is a b o i j k = sym (λ t. i t || (j t && not (k t))) ∙ young

    go : (a : Bool) → nat_lt f.epoch c.epoch ≡ a → (b : Bool) → (f.epoch == c.epoch) ≡ b → (o : Bool) → c.opened ≡ o → IsYoung c f.epoch
    go true i b j o k = absurd (true≢false (is true b o i j k))
    go false i true j true k = inr (eqb-true f.epoch c.epoch j, k)
    go false i true j false k = absurd (true≢false (is false true false i j k))
    go false i false j o k = inl (grind (arith, nat_tests))

pub young_not_over : (c : End) (n : ℕ) → IsYoung c n → IsOver c n → ⊥
young_not_over c n (inl i) (inl j) = omega (arith, i, j)
young_not_over c n (inl i) (inr j) = let k = j.0 in omega (arith, i, k)
young_not_over c n (inr i) (inl j) = let k = i.0 in omega (arith, k, j)
young_not_over c n (inr i) (inr j) = true≢false (sym i.1 ∙ j.1)

module _ (idle : IdleTurns) (g : DriverInput) (d : Driver) (settled : IsSettled g d) (r : ℕ) (known : r < length g.repos) where
  rests : step (set_up_of g d r) (state_at g d r) (plain_look (set_up_of g d r) (driver_at_turn g r d)) ≡ None
  rests = idle g r d (ap (λ (z : Driver). length z.past) (settled r known))

  pub at_turn : driver_at_turn g r d ≡ d
  at_turn = sym (turn_idle g r d rests) ∙ settled r known

  pub none : step (set_up_of g d r) (state_at g d r) (plain_look (set_up_of g d r) d) ≡ None
  none = subst (λ (z : Driver). step (set_up_of g d r) (state_at g d r) (plain_look (set_up_of g d r) z) ≡ None) at_turn rests

  all_young : Each (λ x. not (old_at (state_at g d r) r x) ≡ true) d.flights
  all_young = subst (Each (λ x. not (old_at (state_at g d r) r x) ≡ true)) (ap (λ (z : Driver). z.flights) at_turn) (Each-passes (λ x. not (old_at (state_at g d r) r x)) d.flights)

  pub young : (x : Flight) → Member x d.flights → x.to ≡ r → (b : EndName) → end_to x.frame ≡ b → IsYoung (end_at d.past r b) x.frame.epoch
  young x m to b at = subst (λ (z : EndName). IsYoung (end_at d.past r z) x.frame.epoch) at (young_of (end_at d.past r (end_to x.frame)) x.frame (plain (is_old (end_at d.past r (end_to x.frame)) x.frame) refl))
    where
      it : not (old_at (state_at g d r) r x) ≡ true
      it = Each-member (λ x. not (old_at (state_at g d r) r x) ≡ true) d.flights x all_young m

      here : (x.to == r) ≡ true
      here = ap (λ k. k == r) to ∙ eqb_refl r

      plain : (t : Bool) → is_old (end_at d.past r (end_to x.frame)) x.frame ≡ t → t ≡ false
      plain false i = refl
      plain true i = absurd (true≢false (sym it ∙ (λ k. not (here k && i k))))
