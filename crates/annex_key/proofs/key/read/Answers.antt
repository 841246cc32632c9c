-- What the proof of `key::read` needs beside the tactics.
use Rattle.annex_key.proofs.AnswerLemmas.{handed_on}
use Rattle.annex_key.proofs.key.read.Goals as goal

pub returns-in_err-size-clause-exact : goal.returns-in_err-size-clause-exact
returns-in_err-size-clause-exact c = handed_on c.from_residual.result c.args.text.now c.in_err-size.field-0.0 c.from_residual.ensures.1 c.in_err-size.ensures
