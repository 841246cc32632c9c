-- What the proof of `forcing::drop_goes_freely` needs beside the tactics.
use Rattle.std.proofs.Common.{sym, ap, ◌∙◌}
use Rattle.node_model.specs.JobStep as steps
use Rattle.step_judging.specs.Rules.{is_nil}
use Rattle.node_model.specs.Jobs.{Drops}
use Rattle.job_makes.specs.Turns.{turn_in}
use Rattle.std.specs.Option.{option_copied}
use Rattle.state_jobs.specs.Phases.{part_of}
use Rattle.step_makes.proofs.KnowledgeLemmas.{through, judging_turn, known_reads}
use Rattle.job_makes.specs.declared.turn.Turn.{Turn}
use Rattle.state_jobs.specs.declared.phase.Part.{Part}
use Rattle.node_model.specs.Turns.{next_needs}
use Rattle.step_makes.proofs.forcing.drop_goes_freely.Goals as goal

pub returns : goal.returns
returns c = λ s st read.
    let x = c.args.turn.now in
    let k = c.judging_by-known.result.now in
    let is = c.judging_by-known.ensures in
    through k x s st c.judges_freely.result (λ (z : Turn) (t : steps.Turn). is_nil (next_needs t Drops)) (judging_turn (option_copied c.args.judging) k x is c.requires.judge)
    (known_reads (option_copied c.args.judging) k x s st is read) (c.judges_freely.ensures s st)
    ∙ ap (λ (p : Part). is_nil (next_needs (turn_in x s st) (part_of p))) (sym c.requires.part)
