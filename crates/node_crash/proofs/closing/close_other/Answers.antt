-- Those of another repository; the repository itself has none.
use Rattle.std.proofs.Common.{◌≡◌, ℕ, true, false, List, sym, subst, arith}
use Rattle.std.specs.Prelude.{◌==◌}
use Rattle.std.proofs.lemmas.Bool.Decides.{nat_tests}
use Rattle.node_crash.specs.Closing.{SendsCloses, names_with}
use Rattle.node_crash.proofs.Closes.{but_other, but_own, sends_none}
use Rattle.node_crash.proofs.closing.close_other.Goals as goal

pub returns-then-peer-own-clause-closes : goal.returns-then-peer-own-clause-closes
returns-then-peer-own-clause-closes c =
    let other : (c.args.peer == c.args.own) ≡ false = grind (arith, nat_tests, c.if-peer-own.true) in
    subst (λ (l : List ℕ). SendsCloses (names_with l) c.args.stamp c.args.ends.now c.close_peer.new.ends c.args.sent.now.items c.close_peer.new.sent.items) (sym (but_other c.args.own c.args.peer other)) c.close_peer.ensures.closes

pub returns-else-peer-own-clause-closes : goal.returns-else-peer-own-clause-closes
returns-else-peer-own-clause-closes c =
    let same : (c.args.peer == c.args.own) ≡ true = grind (arith, nat_tests, c.if-peer-own.false) in
    subst (λ (l : List ℕ). SendsCloses (names_with l) c.args.stamp c.args.ends.now c.args.ends.now c.args.sent.now.items c.args.sent.now.items) (sym (but_own c.args.own c.args.peer same)) (sends_none c.args.stamp c.args.ends.now c.args.sent.now.items)
