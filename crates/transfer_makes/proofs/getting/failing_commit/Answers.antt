-- What the proof of `getting::failing_commit` needs beside the tactics.
use Rattle.std.proofs.Common.{Bool, sym, ap, ◌∙◌}
use Rattle.node_model.specs.Calls.{to_commit}
use Rattle.node_model.specs.Look.{failing_call}
use Rattle.job_makes.specs.Turns.{turn_in}
use Rattle.transfer_makes.proofs.getting.failing_commit.Goals as goal

pub returns-then-right : goal.returns-then-right
returns-then-right c = λ s st. c.fails.ensures s st ∙ ap (λ (b : Bool). failing_call (turn_in c.args.turn.now s st).look.fails (to_commit b)) (sym c.if-right.true)

pub returns-else-right : goal.returns-else-right
returns-else-right c = λ s st. c.fails-else-right.ensures s st ∙ ap (λ (b : Bool). failing_call (turn_in c.args.turn.now s st).look.fails (to_commit b)) (sym c.if-right.false)
