-- One after the other is closed.
use Rattle.std.proofs.Common.{arith}
use Rattle.node_sessions.proofs.Crashing.{closed_as_many, closed_next, closed_none}
use Rattle.node_sessions.proofs.ending.close_all.Goals as goal

pub loop-at-init : goal.loop-at-init
loop-at-init c = closed_none c.args.sessions.now.items c.args.table.now c.requires

pub close_at-requires-clause-within : goal.close_at-requires-clause-within
close_at-requires-clause-within c = omega (arith, c.loop-at-test.true, c.loop-at.invariant.count)

pub close_at-requires-clause-owns : goal.close_at-requires-clause-owns
close_at-requires-clause-owns c = c.loop-at.invariant.own

pub loop-at-preserved : goal.loop-at-preserved
loop-at-preserved c = closed_next c.loop-at.at c.args.sessions.now.items c.loop-at.sessions.items c.close_at.new.sessions.items c.args.table.now c.loop-at.table c.close_at.new.table c.loop-at.invariant c.close_at.ensures

pub returns : goal.returns
returns c = closed_as_many c.loop-at.at c.args.sessions.now.items c.loop-at.sessions.items c.args.table.now c.loop-at.table c.loop-at.invariant (omega (arith, c.loop-at-test.false))
