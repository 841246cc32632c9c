-- What the proof of `reading::ready` needs beside the tactics.
use Rattle.std.proofs.Common.{rules, ◌≡◌, ◌++◌, ◌∷◌, [], ap, arith}
use Rattle.wanted_expr.specs.declared.lexeme.Operator.TheVariants.{And}
use Rattle.wanted_expr.specs.declared.reading.Frame.TheVariants as frames
use Rattle.wanted_expr.specs.Reading.{open_count}
use Rattle.wanted_expr.proofs.StackLemmas.{above_pushed, ready_pushed}
use Rattle.wanted_expr.proofs.reading.ready.Goals as goal

pub returns-in_ok-push-in-Some-clause-state : goal.returns-in_ok-push-in-Some-clause-state
returns-in_ok-push-in-Some-clause-state c =
    let pushed : c.push.new.self.items ≡ c.args.reading.stack.items ++ frames.Left c.in-Some.tree And ∷ [] = search rules in
    ready_pushed c.args.reading c.in-Some.tree c.push.new.self.items c.in-Some.is pushed

pub returns-in_ok-push-in-Some-clause-counted : goal.returns-in_ok-push-in-Some-clause-counted
returns-in_ok-push-in-Some-clause-counted c =
    let pushed : c.push.new.self.items ≡ c.args.reading.stack.items ++ frames.Left c.in-Some.tree And ∷ [] = search rules in
    omega (arith, c.requires, ap open_count (above_pushed c.push.new.self.items c.args.reading.stack.items (frames.Left c.in-Some.tree And) pushed))
