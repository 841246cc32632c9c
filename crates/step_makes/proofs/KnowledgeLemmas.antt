-- What the step of a job knows of the logs, and what is told by it.
use Rattle.std.proofs.Common.{◌≡◌, true, false, Option, Some, None, refl, sym, ap, ◌∙◌, true≢false}
use Rattle.node_model.specs.After.{has_read}
use Rattle.node_model.specs.JobStep as steps
use Rattle.node_model.specs.JobStep.{turn_of}
use Rattle.node_model.specs.Jobs.{Drops, Next, Phase}
use Rattle.node_model.specs.Jobs as jobs
use Rattle.node_model.specs.SetUp.{SetUp}
use Rattle.node_model.specs.State.{State}
use Rattle.step_judging.specs.Telling.{look_of}
use Rattle.state_jobs.specs.Works.{work_of}
use Rattle.job_makes.specs.Turns.{turn_in, word_in}
use Rattle.job_makes.specs.declared.turn.Turn.{Turn}
use Rattle.drop_makes.specs.Knowings.{drop_in}
use Rattle.drop_makes.specs.declared.knowing.Knowing.{Knowing}
use Rattle.step_makes.specs.Knowledge.{CanJudge, IsReadBy, IsTurnOf, KnowsEnough, is_judging}

-- ---- who reads the logs

-- a drop that judges is past its first step
pub judging_read : (p : jobs.Part) (phase : Phase) → is_judging p phase ≡ true → has_read p phase ≡ true
judging_read Drops Next is = refl
judging_read Drops phase is = absurd (true≢false (sym is))
judging_read p phase is = absurd (true≢false (sym is))

-- ---- what is told by what is known

some_same : {A : Type 0} (x y : A) → Some x ≡ Some y → x ≡ y
some_same x y is = cc

none_some : {A : Type 0} (x : A) → None ≡ Some x → ⊥
none_some x is = absurd cc

pub known_turn : (o : Option Knowing) (k : Knowing) (x : Turn) → o ≡ Some k → KnowsEnough x o → k.turn.now ≡ x
known_turn None k x is enough = absurd (none_some k is)
known_turn (Some j) k x is enough = ap (λ (i : Knowing). i.turn.now) (sym (some_same j k is)) ∙ enough

pub judging_turn : (o : Option Knowing) (k : Knowing) (x : Turn) → o ≡ Some k → CanJudge x o → k.turn.now ≡ x
judging_turn None k x is can = absurd (none_some k is)
judging_turn (Some j) k x is can = ap (λ (i : Knowing). i.turn.now) (sym (some_same j k is)) ∙ can

pub known_reads : (o : Option Knowing) (k : Knowing) (x : Turn) (s : SetUp) (st : State) → o ≡ Some k → IsReadBy x o s st → turn_in x s st ≡ drop_in x k.logs.now s st
known_reads None k x s st is read = absurd (none_some k is)
known_reads (Some j) k x s st is read = read ∙ ap (λ (i : Knowing). drop_in x i.logs.now s st) (some_same j k is)

-- what is said of the turn of what is known is said of the turn
pub through : {Y : Type 0} (k : Knowing) (x : Turn) (s : SetUp) (st : State) (y : Y) (F : Turn → steps.Turn → Y) → k.turn.now ≡ x → turn_in x s st ≡ drop_in x k.logs.now s st
    → y ≡ F k.turn.now (drop_in k.turn.now k.logs.now s st) → y ≡ F x (turn_in x s st)
through k x s st y F turn read is =
    is ∙ ap (λ (z : Turn). F z (drop_in z k.logs.now s st)) turn ∙ ap (λ (t : steps.Turn). F x t) (sym read)

pub by_known : {Y : Type 0} (o : Option Knowing) (k : Knowing) (x : Turn) (s : SetUp) (st : State) (y : Y) (F : Turn → steps.Turn → Y) → o ≡ Some k → KnowsEnough x o → IsReadBy x o s st
    → y ≡ F k.turn.now (drop_in k.turn.now k.logs.now s st) → y ≡ F x (turn_in x s st)
by_known o k x s st y F is enough read told = through k x s st y F (known_turn o k x is enough) (known_reads o k x s st is read) told

-- ---- the turn of a state

pub turn_same : (x : Turn) (s : SetUp) (st : State) → IsTurnOf x s st → turn_in x s st ≡ turn_of s st (look_of st (word_in x.words.now) x.told.now) (work_of x.work.now)
turn_same x s st of = λ i. turn_of (of.set_up i) (of.state i) (look_of (of.state i) (word_in x.words.now) x.told.now) (work_of x.work.now)
