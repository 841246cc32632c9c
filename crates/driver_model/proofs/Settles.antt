-- The bound on the rounds of a settling isn't met; and a turn makes an entry exactly where a step is ready.
use Rattle.std.specs.Option.{option_map}
use Rattle.std.proofs.Common.{◌≡◌, ℕ, zero, suc, ◌+◌, ◌*◌, ◌^◌, ◌<◌, ◌≤◌, Bool, true, false, List, [], ◌∷◌, Option, Some, None, refl, sym, ap, ◌∙◌, subst, arith}
use Rattle.std.specs.Prelude.{if◌then◌else◌, ◌==◌, find, length}
use Rattle.std.proofs.lemmas.Bool.Decides.{nat_tests}
use Rattle.std.proofs.lemmas.Bool.{eqb-true}
use Rattle.annex_base.specs.declared.kinds.Call.{Call}
use Rattle.run_data.specs.declared.entry.Entry.{Entry}
use Rattle.run_data.specs.declared.entry.EntryKind.{EntryKind}
use Rattle.run_data.specs.declared.entry.EntryKind.TheVariants.{Gain, Gone, Talk, Fault}
use Rattle.run_data.specs.declared.entry.FrameView.{FrameView}
use Rattle.run_data.specs.declared.entry.FrameText.{FrameText}
use Rattle.run_data.specs.declared.entry.FrameText.TheVariants.{Bytes, Line}
use Rattle.node_model.specs.SetUp.{SetUp}
use Rattle.node_model.specs.Sessions.{line_in, message_said}
use Rattle.node_model.specs.State.{State}
use Rattle.node_model.specs.Look.{Look, Effect}
use Rattle.node_model.specs.Step.{step}
use Rattle.driver_model.specs.Driver.{Driver, DriverInput, without_old_flights, drops_part, fails_at, set_up_of, state_at}
use Rattle.driver_model.specs.Turning.{asked_key, bytes_taken, calm_look, made_calls, is_failure, is_valid, look_for, looks, makes, plain_look, store_after, takes_frame, takes_into, turn}
use Rattle.driver_model.specs.Rounds.{AfterRounds, after_round, goes_round, idle_after, is_idle, is_settled, most_rounds, numbers, round, rounds, turns_of}
use Rattle.driver_model.proofs.EndsAlike.{still_steps}
use Rattle.driver_model.proofs.Premises.{NamedJobs}
use Rattle.driver_model.proofs.Settling.{goes, rounds_are, settled_stays}

-- ---- a turn adds at most an entry

into_past : (r : ℕ) (key bytes : List ℕ) (body : FrameText) (sent : List FrameView) (d : Driver) → (takes_into r key bytes body sent d).past ≡ d.past
into_past r key bytes (Bytes n) [] d = refl
into_past r key bytes (Line text) sent d = go (is_valid (line_in (Line text))) (is_failure (message_said sent))
  where
    go : (b c : Bool) → (if b then (if c then drops_part r key d else d) else d).past ≡ d.past
    go true true = refl
    go true false = refl
    go false c = refl
into_past r key bytes body sent d = refl

frame_past : (r : ℕ) (bytes : List ℕ) (key : Option (List ℕ)) (taken : Option FrameView) (sent : List FrameView) (d : Driver) → (takes_frame r bytes key taken sent d).past ≡ d.past
frame_past r bytes (Some key) (Some f) sent d = into_past r key bytes f.body sent d
frame_past r bytes key taken sent d = refl

pub store_past : (st : State) (r : ℕ) (m : Effect) (bytes : List ℕ) (kind : EntryKind) (d : Driver) → (store_after st r m bytes kind d).past ≡ d.past
store_past st r m bytes (Gain by size key) d = refl
store_past st r m bytes (Gone by key) d = refl
store_past st r m bytes (Talk job) d = frame_past r bytes (asked_key st m) m.taken m.sent d
store_past st r m bytes (Fault call by) d = refl
store_past st r m bytes kind d = refl

abbrev pub many : Driver → ℕ
many d = length d.past

makes_more : (st : State) (r : ℕ) (k : Look) (o : Option Effect) (d : Driver) → many d ≤ many (makes st r k o d)
makes_more st r k None d = omega arith
makes_more st r k (Some m) d = subst (λ (past : List Entry). many d ≤ length past) (sym (store_past st r m (bytes_taken r m.taken d) m.kind _)) (omega arith)

looks_more : (g : DriverInput) (r : ℕ) (s : SetUp) (st : State) (o : Option Effect) (d : Driver) → many d ≤ many (looks g r s st o d)
looks_more g r s st None d = omega arith
looks_more g r s st (Some m) d = makes_more st r (look_for g d r s st m) (step s st (look_for g d r s st m)) d

pub turn_more : (g : DriverInput) (r : ℕ) (d : Driver) → many d ≤ many (turn g r d)
turn_more g r d = looks_more g r (set_up_of g d r) (state_at g d r) (step (set_up_of g d r) (state_at g d r) (plain_look (set_up_of g d r) (without_old_flights (state_at g d r) r d))) (without_old_flights (state_at g d r) r d)

pub turns_more : (g : DriverInput) (rs : List ℕ) (d : Driver) → many d ≤ many (turns_of g rs d)
turns_more g [] d = omega arith
turns_more g (r ∷ rs) d = let i = turn_more g r d in let j = turns_more g rs (turn g r d) in omega (arith, i, j)

pub round_more : (g : DriverInput) (d : Driver) → many d ≤ many (round g d)
round_more g d = turns_more g (numbers g) d

-- ---- a turn makes an entry where a step is ready

module _ (names : NamedJobs) (g : DriverInput) (r : ℕ) (d : Driver) where
  abbrev s : SetUp
  s = set_up_of g d r

  abbrev st : State
  st = state_at g d r

  some : (o : Option Effect) (cs : List Call) → option_map (λ (m : Effect). m.calls) o ≡ Some cs → (m' : Effect) × (o ≡ Some m')
  some None cs h = absurd (cc)
  some (Some m') cs h = (m', refl)

  -- where a step is ready for a plain look, one is for the look of the turn
  pub step_ready : (m : Effect) → step s st (plain_look s d) ≡ Some m → (m' : Effect) × (step s st (look_for g d r s st m) ≡ Some m')
  step_ready m e =
      let calm = calm_look g d r s st m in
      let x = still_steps names s st (plain_look s d) calm.part calm.right calm.words m refl e in
      some (step s st (look_for g d r s st m)) x.0.calls (names.calls.same s st calm (find (fails_at d r) (made_calls (step s st calm))) ∙ ap (option_map (λ (m : Effect). m.calls)) x.1)

-- a turn that adds no entry found no step ready, with all frames at hand
pub idle_none : NamedJobs → (g : DriverInput) (r : ℕ) (d : Driver) → many (turn g r d) ≡ many d → step (set_up_of g d r) (state_at g d r) (plain_look (set_up_of g d r) (without_old_flights (state_at g d r) r d)) ≡ None
idle_none names g r d same = go (step s' st' (plain_look s' c)) refl same
  where
    s' : SetUp
    s' = set_up_of g d r

    st' : State
    st' = state_at g d r

    c : Driver
    c = without_old_flights (state_at g d r) r d

    made : (m : Effect) (o : Option Effect) (m' : Effect) → o ≡ Some m' → many (makes (state_at g d r) r (look_for g (without_old_flights (state_at g d r) r d) r (set_up_of g d r) (state_at g d r) m) o (without_old_flights (state_at g d r) r d)) ≡ many d → ⊥
    made m None m' i e = absurd (cc)
    made m (Some x) m' i e =
        let grew : suc (many d) ≡ many d = ap length (sym (store_past (state_at g d r) r x (bytes_taken r x.taken (without_old_flights (state_at g d r) r d)) x.kind _)) ∙ e in
        omega (arith, grew)

    go : (o : Option Effect) → step (set_up_of g d r) (state_at g d r) (plain_look (set_up_of g d r) (without_old_flights (state_at g d r) r d)) ≡ o
        → many (looks g r (set_up_of g d r) (state_at g d r) o (without_old_flights (state_at g d r) r d)) ≡ many d → o ≡ None
    go None i e = refl
    go (Some m) i e =
        let x = step_ready names g r (without_old_flights (state_at g d r) r d) m i in
        absurd (made m (step (set_up_of g d r) (state_at g d r) (look_for g (without_old_flights (state_at g d r) r d) r (set_up_of g d r) (state_at g d r) m)) x.0 x.1 e)

-- ---- so many rounds need so many entries

low : (x : AfterRounds) → is_settled x ≡ false → x.idle ≤ 1
low x i = grind (arith, nat_tests)

differs : (a b : ℕ) → (a == b) ≡ false → a ≤ b → a < b
differs a b h i = grind (arith, nat_tests)

unsettled : (g : DriverInput) (k : ℕ) (x : AfterRounds) → is_settled (goes g k x) ≡ false → k + x.idle + 2 * many x.driver ≤ 2 * many (goes g k x).driver + (goes g k x).idle
unsettled g zero x i = omega arith
unsettled g (suc k) x i = go (unsettled g k) (is_settled x) refl
  where
    go : ((y : AfterRounds) → is_settled (goes g k y) ≡ false → k + y.idle + 2 * many y.driver ≤ 2 * many (goes g k y).driver + (goes g k y).idle)
        → (b : Bool) → is_settled x ≡ b → suc k + x.idle + 2 * many x.driver ≤ 2 * many (goes g (suc k) x).driver + (goes g (suc k) x).idle
    go more true j = absurd (let no' : true ≡ false = sym (ap is_settled (settled_stays g (suc k) x j) ∙ j) ∙ i in cc)
    go more false j = subst (λ (y : AfterRounds). suc k + x.idle + 2 * many x.driver ≤ 2 * many (goes g k y).driver + (goes g k y).idle) (sym is)
        (at (is_idle x.driver (round g x.driver)) refl (more (after_round x (round g x.driver)) (subst (λ (y : AfterRounds). is_settled (goes g k y) ≡ false) is i)))
      where
        is : goes_round g x ≡ after_round x (round g x.driver)
        is = rw j refl

        at : (b : Bool) → is_idle x.driver (round g x.driver) ≡ b → k + (idle_after x.driver (round g x.driver) x.idle) + 2 * many (round g x.driver) ≤ 2 * many (goes g k (after_round x (round g x.driver))).driver + (goes g k (after_round x (round g x.driver))).idle
            → suc k + x.idle + 2 * many x.driver ≤ 2 * many (goes g k (after_round x (round g x.driver))).driver + (goes g k (after_round x (round g x.driver))).idle
        at true h y =
            let same : many x.driver ≡ many (round g x.driver) = eqb-true (many x.driver) (many (round g x.driver)) h in
            let next : idle_after x.driver (round g x.driver) x.idle ≡ x.idle + 1 = rw h refl in
            omega (arith, same, y, next)
        at false h y =
            let up = round_more g x.driver in
            let few = low x j in
            let other = differs (many x.driver) (many (round g x.driver)) h up in
            let next : idle_after x.driver (round g x.driver) x.idle ≡ 0 = rw h refl in
            omega (arith, up, few, other, y, next)

too_many : (p m n k i : ℕ) → 4194304 ≤ p → n < m + 2000000 → i ≤ 1 → p + k + 2 * m ≤ 2 * n + i → ⊥
too_many p m n k i big few l h = omega (arith, big, few, l, h)

bounded : (g : DriverInput) (n : ℕ) (x : AfterRounds) → 4194304 ≤ 2 ^ n → many (rounds g n x).driver < many x.driver + 2000000 → is_settled (rounds g n x) ≡ true
bounded g n x big few = go (is_settled (rounds g n x)) refl
  where
    all : rounds g n x ≡ goes g (2 ^ n) x
    all = rounds_are g n x

    go : (b : Bool) → is_settled (rounds g n x) ≡ b → b ≡ true
    go true i = refl
    go false i =
        let j = unsettled g (2 ^ n) x (ap is_settled (sym all) ∙ i) in
        let l = low (rounds g n x) i in
        let k : 2 ^ n + x.idle + 2 * many x.driver ≤ 2 * many (rounds g n x).driver + (rounds g n x).idle = subst (λ (y : AfterRounds). 2 ^ n + x.idle + 2 * many x.driver ≤ 2 * many y.driver + y.idle) (sym all) j in
        absurd (too_many (2 ^ n) (many x.driver) (many (rounds g n x).driver) x.idle (rounds g n x).idle big few l k)

-- where fewer than two million entries are added the bound isn't met: the rounds end with two idle ones
pub bound_not_met : (g : DriverInput) (x : AfterRounds) (bound : ℕ) → bound ≡ most_rounds → many (rounds g bound x).driver < many x.driver + 2000000 → is_settled (rounds g bound x) ≡ true
bound_not_met g x bound e few = bounded g bound x (subst (λ n. 4194304 ≤ 2 ^ n) (sym e) (omega arith)) few
