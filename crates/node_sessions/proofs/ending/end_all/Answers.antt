-- The last of those that are left is spent.
use Rattle.std.proofs.Common.{List, length, subst}
use Rattle.p2p_server.specs.declared.session.Session.{Session}
use Rattle.node_sessions.specs.Built.{AreLeft}
use Rattle.node_sessions.specs.Sessions.{OwnAll}
use Rattle.node_sessions.proofs.Filling.{fills_had}
use Rattle.node_sessions.proofs.Leaving.{last_at, left_step}
use Rattle.node_sessions.proofs.ending.end_all.Goals as goal

pub end-requires-clause-owns : goal.end-requires-clause-owns
end-requires-clause-owns c =
    let ys = c.pop.new.self.items in
    let x = c.in-Some.session in (subst (OwnAll c.loop-session.table) c.in-Some.ensures.items c.loop-session.invariant.own).shares (length ys) x (last_at ys x)

pub end-requires-clause-fills : goal.end-requires-clause-fills
end-requires-clause-fills c =
    let ys = c.pop.new.self.items in
    let x = c.in-Some.session in
    fills_had c.loop-session.table x.state.doing ((subst (OwnAll c.loop-session.table) c.in-Some.ensures.items c.loop-session.invariant.own).fills (length ys) x (last_at ys x))

pub loop-session-preserved : goal.loop-session-preserved
loop-session-preserved c =
    let e = c.end.ensures in
    left_step c.args.sessions.items c.pop.new.self.items c.in-Some.session c.args.table.now c.loop-session.table c.end.new.table
    (subst (λ (l : List Session). AreLeft c.args.sessions.items l c.args.table.now c.loop-session.table) c.in-Some.ensures.items c.loop-session.invariant)
    (record { after = e.after; numbers = e.numbers; filled = e.filled; others = e.others; agrees = e.agrees })
