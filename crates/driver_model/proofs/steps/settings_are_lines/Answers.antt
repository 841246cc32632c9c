-- What is written of a setting has no newline.
use Rattle.driver_model.proofs.WrittenLines.{written_line}
use Rattle.driver_model.proofs.steps.settings_are_lines.Goals as goal

pub returns : goal.returns
returns c = written_line
