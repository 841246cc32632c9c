-- By the version.
use Rattle.put_steps.proofs.Replies.{known_offered, unknown_shut}
use Rattle.put_steps.proofs.hearing.agree.Goals as goal

pub returns-then-version-gt3 : goal.returns-then-version-gt3
returns-then-version-gt3 c = record {
  hears = λ x rows k.
      unknown_shut x rows k c.args.putting.now c.shut_unknown.new.putting c.args.peer c.args.version c.shut_unknown.result c.requires.greets c.if-version-gt3.true c.shut_unknown.ensures.ok c.shut_unknown.ensures.err;
}

pub returns : goal.returns
returns c = record {
  hears = λ x rows k.
      known_offered x rows k c.args.putting.now c.offer_known.new.putting c.args.peer c.args.version c.offer_known.result c.requires.greets c.if-version-gt3.false c.offer_known.ensures.ok c.offer_known.ensures.line c.offer_known.ensures.err;
}
