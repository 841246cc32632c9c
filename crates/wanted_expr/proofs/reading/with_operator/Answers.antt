-- What the proof of `reading::with_operator` needs beside the tactics.
use Rattle.std.proofs.Common.{rules, ◌≡◌, ◌++◌, ◌∷◌, [], ap, arith}
use Rattle.wanted_expr.specs.declared.reading.Frame.TheVariants as frames
use Rattle.wanted_expr.specs.Reading.{open_count}
use Rattle.wanted_expr.proofs.StackLemmas.{above_pushed, joins}
use Rattle.wanted_expr.proofs.reading.with_operator.Goals as goal

pub returns-in_ok-push-in-Some-clause-state : goal.returns-in_ok-push-in-Some-clause-state
returns-in_ok-push-in-Some-clause-state c =
    let pushed : c.push.new.self.items ≡ c.args.reading.stack.items ++ frames.Left c.in-Some.tree c.args.operator ∷ [] = search rules in
    joins c.args.reading c.in-Some.tree c.args.at c.args.operator c.push.new.self.items c.in-Some.is pushed

pub returns-in_ok-push-in-Some-clause-counted : goal.returns-in_ok-push-in-Some-clause-counted
returns-in_ok-push-in-Some-clause-counted c =
    let pushed : c.push.new.self.items ≡ c.args.reading.stack.items ++ frames.Left c.in-Some.tree c.args.operator ∷ [] = search rules in
    omega (arith, c.requires, ap open_count (above_pushed c.push.new.self.items c.args.reading.stack.items (frames.Left c.in-Some.tree c.args.operator) pushed))
