-- What the proof of `reading::deeper` needs beside the tactics.
use Rattle.std.proofs.Common.{rules, ◌≡◌, ◌++◌, ◌∷◌, [], arith}
use Rattle.wanted_expr.specs.Reading.{above, pending_of}
use Rattle.wanted_expr.proofs.StackLemmas.{above_pushed, deepens}
use Rattle.wanted_expr.proofs.reading.deeper.Goals as goal

pub returns-clause-state : goal.returns-clause-state
returns-clause-state c =
    let pushed : c.push.new.self.items ≡ c.in_ok-stack.stack.items ++ c.args.frame ∷ [] = search rules in
    deepens c.args.at (pending_of c.args.frame) (above [] c.in_ok-stack.stack.items) _ (above [] c.push.new.self.items) c.in_ok-stack.ensures.state (omega (arith, c.in_ok-stack.ensures.counted)) (above_pushed c.push.new.self.items c.in_ok-stack.stack.items c.args.frame pushed)

pub returns-clause-counted : goal.returns-clause-counted
returns-clause-counted c =
    let pushed : c.push.new.self.items ≡ c.in_ok-stack.stack.items ++ c.args.frame ∷ [] = search rules in
    rw (above_pushed c.push.new.self.items c.in_ok-stack.stack.items c.args.frame pushed) (omega (arith, c.in_ok-stack.ensures.counted, c.requires.opens))
