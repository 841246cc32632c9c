-- By the message.
use Rattle.put_steps.proofs.Replies.{opened_hears, opened_shut}
use Rattle.put_steps.proofs.hearing.take_opened.Goals as goal

pub returns-in_ok-output-in-AuthSuccess : goal.returns-in_ok-output-in-AuthSuccess
returns-in_ok-output-in-AuthSuccess c = record {
  hears = λ x rows k.
      rw c.in-AuthSuccess.is (opened_hears x rows k c.args.putting.now c.args.peer _ c.in_ok-output-in-AuthSuccess.output c.requires.opens c.say.ensures.line c.in_ok-output-in-AuthSuccess.ensures.says);
}

pub returns-in_default : goal.returns-in_default
returns-in_default c = record {
  hears = λ x rows k. opened_shut x rows k c.args.putting.now c.shut.new.putting c.args.peer c.args.message.now c.shut.result c.requires.opens c.in_default.not-AuthSuccess c.shut.ensures.ok c.shut.ensures.err;
}
