-- What the proof of `forcing::is_forced` needs beside the tactics.
use Rattle.std.proofs.Common.{sym, ap, ℕ, Option, ◌∙◌}
use Rattle.std.specs.Prelude.{not}
use Rattle.job_makes.specs.Turns.{turn_in}
use Rattle.step_judging.specs.Told.{is_forced}
use Rattle.step_makes.proofs.forcing.is_forced.Goals as goal

pub returns-in-Some : goal.returns-in-Some
returns-in-Some c = λ s st read. ap not (c.is_open.ensures s st) ∙ ap (λ (o : Option ℕ). is_forced (turn_in c.args.turn.now s st) o) (sym c.in-Some.is ∙ c.partner.ensures)

pub returns-in-None : goal.returns-in-None
returns-in-None c = λ s st read. c.needs_none.ensures s st read ∙ ap (λ (o : Option ℕ). is_forced (turn_in c.args.turn.now s st) o) (sym c.in-None.is ∙ c.partner.ensures)
