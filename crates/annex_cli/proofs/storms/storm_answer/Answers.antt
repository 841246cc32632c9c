-- The text is that of the storm.
use Rattle.std.proofs.Common.{◌∙◌}
use Rattle.annex_cli.proofs.storms.storm_answer.Goals as goal

pub text_due-requires-after_bounds : goal.text_due-requires-after_bounds
text_due-requires-after_bounds g c = λ κs lives. c.deref.ensures.value ∙ c.in_ok-bytes.ensures
