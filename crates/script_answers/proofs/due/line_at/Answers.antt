-- The number within the list is the one that the list has there.
use Rattle.std.proofs.lemmas.Option.{slice_get-get_or}
use Rattle.script_answers.proofs.due.line_at.Goals as goal

pub returns : goal.returns
returns c = slice_get-get_or c.args.numbers.now c.args.place 0 c.requires
