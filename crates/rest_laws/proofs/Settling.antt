-- A driver is settled behind a settling, at the end of a block, and wherever no frame is old and none has a step at its own look.
use Rattle.std.proofs.Common.{◌≡◌, ℕ, zero, suc, ◌+◌, ◌<◌, ◌≤◌, ◌^◌, Bool, true, false, List, [], ◌∷◌, None, refl, sym, ap, ◌∙◌, subst, arith}
use Rattle.std.specs.Prelude.{if◌then◌else◌, length}
use Rattle.std.proofs.lemmas.Bool.{eqb-true}
use Rattle.std.proofs.lemmas.Bool.Decides.{nat_tests}
use Rattle.annex_base.specs.Lists.{Each, Member}
use Rattle.annex_base.proofs.Lists.{Each-member}
use Rattle.annex_base.proofs.Numbers.{Member-range}
use Rattle.node_model.specs.Step.{step}
use Rattle.driver_model.specs.Driver.{Driver, DriverInput, set_up_of, state_at, without_old_flights}
use Rattle.driver_model.specs.Rounds.{AfterRounds, after_round, goes_round, idle_after, is_idle, is_settled, numbers, round, rounds, turns_of}
use Rattle.driver_model.specs.Turning.{plain_look, turn}
use Rattle.driver_model.proofs.Numbers.{below_len}
use Rattle.driver_model.proofs.Settles.{many, turn_more, turns_more}
use Rattle.driver_model.proofs.Settling.{goes, rounds_are}
use Rattle.driver_model.proofs.TurnsFound.{turn_idle}
use Rattle.script_commands.specs.declared.command.Agendum.{Agendum}
use Rattle.block_model.specs.Blocks.{IsBlock, with_fails}
use Rattle.block_model.specs.Following.{after_entries, without_old_of}
use Rattle.block_model.specs.Rest.{AreAllAtRest}
use Rattle.block_model.proofs.Resting.{NoneOld, none_old, nothing_drops}
use Rattle.rest_laws.specs.Settled.{HasNoneOld, IsSettled}
use Rattle.rest_laws.proofs.Unturned.{IdleTurns}

-- ---- by its own look

pub own_settled : (g : DriverInput) (d : Driver) → HasNoneOld g d → AreAllAtRest g d → IsSettled g d
own_settled g d young rest r known =
    turn_idle g r d (subst (λ (z : Driver). step (set_up_of g d r) (state_at g d r) (plain_look (set_up_of g d r) z) ≡ None) (sym (young r known)) (rest r known)) ∙ young r known

among : (g : DriverInput) (r : ℕ) → r < length g.repos → Member r (numbers g)
among g r known = Member-range 0 (length g.repos) r (omega arith) (omega (arith, known))

-- these repositories have dropped what was old
dropped : (g : DriverInput) (after was : Driver) → after ≡ without_old_of g (numbers g) was → HasNoneOld g after
dropped g after was is r known = nothing_drops g after r (subst (λ (z : Driver). NoneOld g z r) (sym is) (none_old g (numbers g) r was (among g r known)))

pub block_settled : (g : DriverInput) (xs : List Agendum) (d after : Driver) → IsBlock g xs d after → IsSettled g after
block_settled g xs d after x = own_settled g after (dropped g after (after_entries g x.begun.entries (with_fails x.begun.fails d)) x.begun.after_is) x.rest

-- ---- rounds

module _ (idle : IdleTurns) (g : DriverInput) where
  -- an idle turn only drops what is old
  turn_drops : (r : ℕ) (d : Driver) → many (turn g r d) ≡ many d → turn g r d ≡ without_old_flights (state_at g d r) r d
  turn_drops r d same = turn_idle g r d (idle g r d same)

  still : (r : ℕ) (rs : List ℕ) (d : Driver) → many (turns_of g rs (turn g r d)) ≡ many d → many (turn g r d) ≡ many d
  still r rs d same = let i = turn_more g r d in let j = turns_more g rs (turn g r d) in omega (arith, same, i, j)

  idle_drops : (rs : List ℕ) (d : Driver) → many (turns_of g rs d) ≡ many d → turns_of g rs d ≡ without_old_of g rs d
  idle_drops [] d same = refl
  idle_drops (r ∷ rs) d same = ap (turns_of g rs) one ∙ idle_drops rs (without_old_flights (state_at g d r) r d) (ap (λ (z : Driver). many (turns_of g rs z)) (sym one) ∙ same)
    where
      one : turn g r d ≡ without_old_flights (state_at g d r) r d
      one = turn_drops r d (still r rs d same)

  idle_leaves : (d : Driver) → HasNoneOld g d → (rs : List ℕ) → Each (λ r. r < length g.repos) rs → many (turns_of g rs d) ≡ many d → Each (λ r. turn g r d ≡ d) rs
  idle_leaves d young [] known same = tt
  idle_leaves d young (r ∷ rs) known same = (one, idle_leaves d young rs known.1 (ap (λ (z : Driver). many (turns_of g rs z)) (sym one) ∙ same))
    where
      one : turn g r d ≡ d
      one = turn_drops r d (still r rs d same) ∙ young r known.0

  turns_leave : (d : Driver) (rs : List ℕ) → Each (λ r. turn g r d ≡ d) rs → turns_of g rs d ≡ d
  turns_leave d [] all = refl
  turns_leave d (r ∷ rs) all = ap (turns_of g rs) all.0 ∙ turns_leave d rs all.1

  all_leave : (d : Driver) → HasNoneOld g d → many (round g d) ≡ many d → Each (λ r. turn g r d ≡ d) (numbers g)
  all_leave d young same = idle_leaves d young (numbers g) (below_len 0 (length g.repos) (length g.repos) (omega arith)) same

  -- after one idle round no frame is old, and after another nothing changes any more
  record Far (x : AfterRounds) : Type 0 where
    young : 1 ≤ x.idle → HasNoneOld g x.driver
    settled : 2 ≤ x.idle → IsSettled g x.driver

  goes_far : (x : AfterRounds) → Far x → Far (goes_round g x)
  goes_far x v = go (is_settled x)
    where
      after : (b : Bool) → is_idle x.driver (round g x.driver) ≡ b → Far (after_round x (round g x.driver))
      after false i = record { young = λ l. absurd (none l); settled = λ l. absurd (fewer l) }
        where
          next : idle_after x.driver (round g x.driver) x.idle ≡ 0
          next = rw i refl

          none : 1 ≤ idle_after x.driver (round g x.driver) x.idle → ⊥
          none l = omega (arith, l, next)

          fewer : 2 ≤ idle_after x.driver (round g x.driver) x.idle → ⊥
          fewer l = omega (arith, l, next)
      after true i = record { young = λ l. dropped g (round g x.driver) x.driver (idle_drops (numbers g) x.driver same); settled = λ l. stays (low l) }
        where
          same : many (round g x.driver) ≡ many x.driver
          same = sym (eqb-true (many x.driver) (many (round g x.driver)) i)

          next : idle_after x.driver (round g x.driver) x.idle ≡ x.idle + 1
          next = rw i refl

          low : 2 ≤ idle_after x.driver (round g x.driver) x.idle → 1 ≤ x.idle
          low l = omega (arith, l, next)

          stays : 1 ≤ x.idle → IsSettled g (round g x.driver)
          stays l =
              let all = all_leave x.driver (v.young l) same in
              subst (IsSettled g) (sym (turns_leave x.driver (numbers g) all)) (λ r known. Each-member (λ q. turn g q x.driver ≡ x.driver) (numbers g) r all (among g r known))

      go : (b : Bool) → Far (if b then x else after_round x (round g x.driver))
      go true = v
      go false = after (is_idle x.driver (round g x.driver)) refl

  goes_on : (k : ℕ) (x : AfterRounds) → Far x → Far (goes g k x)
  goes_on zero x v = v
  goes_on (suc k) x v = goes_on k (goes_round g x) (goes_far x v)

  pub rounds_settle : (n : ℕ) (d : Driver) → is_settled (rounds g n (record { driver = d; idle = 0 })) ≡ true → IsSettled g (rounds g n (record { driver = d; idle = 0 })).driver
  rounds_settle n d is = far.settled (two (rounds g n (record { driver = d; idle = 0 })) is)
    where
      two : (x : AfterRounds) → is_settled x ≡ true → 2 ≤ x.idle
      two x i = grind (arith, nat_tests)

      first : Far (record { driver = d; idle = 0 })
      first = record { young = λ l. absurd (omega (arith, l)); settled = λ l. absurd (omega (arith, l)) }

      far : Far (rounds g n (record { driver = d; idle = 0 }))
      far = subst Far (sym (rounds_are g n (record { driver = d; idle = 0 }))) (goes_on (2 ^ n) (record { driver = d; idle = 0 }) first)
