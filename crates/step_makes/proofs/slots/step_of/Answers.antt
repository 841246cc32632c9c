-- What the proof of `slots::step_of` needs beside the tactics.
use Rattle.std.proofs.Common.{sym, None, ◌∙◌, ◌≡◌}
use Rattle.step_judging.specs.Rules.{effect_of, is_effect}
use Rattle.job_makes.specs.Turns.{turn_in}
use Rattle.state_jobs.specs.Phases.{phase_of}
use Rattle.state_jobs.specs.Works.{work_of}
use Rattle.node_model.specs.SetUp.{SetUp}
use Rattle.node_model.specs.State.{State}
use Rattle.std.proofs.lemmas.Result.{IfOk-weaker}
use Rattle.step_makes.specs.Knowledge.{IsReadBy, IsTurnOf, HasRoom}
use Rattle.node_model.specs.Jobs.{partner}
use Rattle.node_model.specs.Turns.{by_partner}
use Rattle.state_reads.specs.Reads.{IsOnly}
use Rattle.step_makes.proofs.slots.step_of.Goals as goal

pub by_partner-requires : goal.by_partner-requires
by_partner-requires c = sym c.reads_logs.ensures ∙ c.if-reads_logs.false

pub returns-else-reads_logs : goal.returns-else-reads_logs
returns-else-reads_logs c =
    let x = c.args.turn.now in
    IfOk-weaker c.by_partner.result
    (λ b. (s : SetUp) (st : State) → IsTurnOf x s st → HasRoom x → IsReadBy x None s st → b ≡ is_effect (by_partner (turn_in x s st) (partner x.work.now.what.peer (phase_of x.work.now.phase))) (effect_of x.told.now))
    (λ b. (s : SetUp) (st : State) → IsTurnOf x s st → HasRoom x → IsOnly st.works (work_of x.work.now) → s.paths x.work.now.number ≡ c.args.paths.now → b ≡ is_effect (by_partner (turn_in x s st) (partner x.work.now.what.peer (phase_of x.work.now.phase))) (effect_of x.told.now))
    (λ b told s st of room only had. told s st of room tt)
    c.by_partner.ensures
