-- By the message.
use Rattle.put_steps.proofs.Replies.{answer_refused, answer_shut, success_hears}
use Rattle.put_steps.proofs.hearing.take_answer.Goals as goal

pub returns-in_default : goal.returns-in_default
returns-in_default c = record {
  hears = λ x rows k.
      answer_shut x rows k c.args.putting.now c.shut.new.putting c.args.peer c.args.start c.args.message.now c.shut.result c.requires.answers c.in_default.not-Success c.in_default.not-Failure c.shut.ensures.ok c.shut.ensures.err;
}

pub returns-in-Success : goal.returns-in-Success
returns-in-Success c = record {
  hears = λ x rows k. rw c.in-Success.is (success_hears x rows k c.args.putting.now c.finish.new.self c.args.peer c.args.start c.finish.result c.requires.answers c.finish.ensures.says c.finish.ensures.next);
}

pub returns-in-Failure : goal.returns-in-Failure
returns-in-Failure c = record {
  hears = λ x rows k. rw c.in-Failure.is (answer_refused x rows k c.args.putting.now c.refuse.new.self c.args.peer c.args.start c.refuse.result c.requires.answers c.refuse.ensures);
}
