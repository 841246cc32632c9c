-- By whether the connection is open.
use Rattle.std.proofs.Common.{sym, ◌∙◌}
use Rattle.put_steps.proofs.Sendings.{valid_told, word_closed}
use Rattle.put_steps.proofs.acting.tell.Goals as goal

pub returns-then-not-is_open : goal.returns-then-not-is_open
returns-then-not-is_open g c = record {
  does = λ rows k.
      word_closed (g.H.Here.sight c.args.here.now) rows k c.args.putting.now c.close.new.self c.args.peer c.args.start c.close.result c.requires.word (sym c.is_open.ensures ∙ c.if-not-is_open.true) c.close.ensures;
}

pub returns : goal.returns
returns g c = record {
  does = λ rows k.
      valid_told (g.H.Here.sight c.args.here.now) rows k c.args.putting.now c.args.peer c.args.start c.in_ok-output.output c.requires.word (sym c.is_open.ensures ∙ c.if-not-is_open.false) c.say.ensures.line c.in_ok-output.ensures.says;
}
