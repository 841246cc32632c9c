-- What the proof of `forcing::goes_freely` needs beside the tactics.
use Rattle.std.proofs.Common.{ap, ℕ, List, ◌∙◌}
use Rattle.step_judging.specs.Rules.{is_nil}
use Rattle.step_makes.proofs.NeedLemmas.{transfer_needs}
use Rattle.job_makes.specs.Turns.{turn_in}
use Rattle.step_makes.proofs.forcing.goes_freely.Goals as goal

pub returns-in_default : goal.returns-in_default
returns-in_default c = λ s st read.
    let x = c.args.turn.now in
    c.needs_no_peer.ensures s st ∙ ap (λ (ps : List ℕ). is_nil ps) (transfer_needs (turn_in x s st) x.work.now.part c.in_default.not-Drops)
