-- By the error.
use Rattle.std.proofs.Common.{sym, ◌∙◌}
use Rattle.put_steps.proofs.Replies.{busy_hears, error_shut}
use Rattle.put_steps.proofs.hearing.take_error.Goals as goal

pub returns-then-is_busy : goal.returns-then-is_busy
returns-then-is_busy c = record {
  hears = λ x rows k. busy_hears x rows k c.args.putting.now c.refuse.new.self c.args.peer c.args.text.now c.refuse.result c.requires.offers (sym c.is_busy.ensures ∙ c.if-is_busy.true) c.refuse.ensures;
}

pub returns : goal.returns
returns c = record {
  hears = λ x rows k. error_shut x rows k c.args.putting.now c.shut.new.putting c.args.peer c.args.text.now c.shut.result c.requires.offers (sym c.is_busy.ensures ∙ c.if-is_busy.false) c.shut.ensures.ok c.shut.ensures.err;
}
