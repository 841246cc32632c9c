-- What the proof of `stepping::step` needs beside the tactics.
use Rattle.std.proofs.Common.{OnErr, sym, ap, subst, ◌∙◌}
use Rattle.node_steps.specs.Nodes.{told_of, beside}
use Rattle.node_past.specs.Stored.{TellsSame, store_view}
use Rattle.node_steps.proofs.TurnLemmas.{adds_over, first_served, owed_first, still_is, then_acted}
use Rattle.node_steps.proofs.stepping.step.Goals as goal

pub returns-then-owes-clause-step : goal.returns-then-owes-clause-step
returns-then-owes-clause-step g c =
    let n = beside c.args.parts.now c.args.ledger.now in
    let w = c.pay_first in
    let m = beside c.args.parts.now w.new.ledger in
    owed_first w.result (store_view (g.K.Keeper.contents n.keeper) (g.K.Keeper.parts n.keeper) (g.K.Keeper.failing n.keeper) (g.K.Keeper.faults n.keeper))
    (store_view (g.K.Keeper.contents m.keeper) (g.K.Keeper.parts m.keeper) (g.K.Keeper.failing m.keeper) (g.K.Keeper.faults m.keeper))
    n m (told_of (g.K.Keeper.contents n.keeper) (g.K.Keeper.parts n.keeper)) w.ensures.made w.ensures.step

pub returns-then-served-clause-step : goal.returns-then-served-clause-step
returns-then-served-clause-step g c =
    let n = beside c.args.parts.now c.args.ledger.now in
    let m = beside c.serve.new.parts c.serve.new.ledger in
    let it = c.in_ok-served in
    first_served it.served (store_view (g.K.Keeper.contents n.keeper) (g.K.Keeper.parts n.keeper) (g.K.Keeper.failing n.keeper) (g.K.Keeper.faults n.keeper))
    (store_view (g.K.Keeper.contents m.keeper) (g.K.Keeper.parts m.keeper) (g.K.Keeper.failing m.keeper) (g.K.Keeper.faults m.keeper))
    n m (told_of (g.K.Keeper.contents n.keeper) (g.K.Keeper.parts n.keeper)) c.requires.stands.kept.state (sym c.owes.ensures ∙ c.if-owes.false) c.if-served.true it.ensures.step

pub returns-clause-step : goal.returns-clause-step
returns-clause-step g c =
    let n = beside c.args.parts.now c.args.ledger.now in
    let m = beside c.serve.new.parts c.serve.new.ledger in
    let it = c.in_ok-served in
    let same = still_is it.served n.parts.links (store_view (g.K.Keeper.contents n.keeper) (g.K.Keeper.parts n.keeper) (g.K.Keeper.failing n.keeper) (g.K.Keeper.faults n.keeper))
    (store_view (g.K.Keeper.contents m.keeper) (g.K.Keeper.parts m.keeper) (g.K.Keeper.failing m.keeper) (g.K.Keeper.faults m.keeper))
    n m c.if-served.false it.ensures.adds in
    then_acted (λ x. store_view (g.K.Keeper.contents x) (g.K.Keeper.parts x) (g.K.Keeper.failing x) (g.K.Keeper.faults x))
    c.act.result it.served (store_view (g.K.Keeper.contents m.keeper) (g.K.Keeper.parts m.keeper) (g.K.Keeper.failing m.keeper) (g.K.Keeper.faults m.keeper))
    n m (beside c.act.new.parts c.act.new.ledger) (told_of (g.K.Keeper.contents n.keeper) (g.K.Keeper.parts n.keeper)) (told_of (g.K.Keeper.contents m.keeper) (g.K.Keeper.parts m.keeper))
    c.requires.stands.kept.state (sym c.owes.ensures ∙ c.if-owes.false) c.if-served.false it.ensures.step same (ap (λ v. told_of (g.K.Keeper.contents v.keeper) (g.K.Keeper.parts v.keeper)) same) c.act.ensures.step

pub returns-clause-adds : goal.returns-clause-adds
returns-clause-adds g c =
    let n = beside c.args.parts.now c.args.ledger.now in
    let m = beside c.serve.new.parts c.serve.new.ledger in
    let it = c.in_ok-served in
    let same = still_is it.served n.parts.links (store_view (g.K.Keeper.contents n.keeper) (g.K.Keeper.parts n.keeper) (g.K.Keeper.failing n.keeper) (g.K.Keeper.faults n.keeper))
    (store_view (g.K.Keeper.contents m.keeper) (g.K.Keeper.parts m.keeper) (g.K.Keeper.failing m.keeper) (g.K.Keeper.faults m.keeper))
    n m c.if-served.false it.ensures.adds in
    adds_over (λ x. store_view (g.K.Keeper.contents x) (g.K.Keeper.parts x) (g.K.Keeper.failing x) (g.K.Keeper.faults x))
    c.act.result n m (beside c.act.new.parts c.act.new.ledger) same c.act.ensures.adds

pub returns-clause-err_store : goal.returns-clause-err_store
returns-clause-err_store g c =
    let n = beside c.args.parts.now c.args.ledger.now in
    let m = beside c.act.new.parts c.act.new.ledger in
    let w = beside c.serve.new.parts c.serve.new.ledger in
    let it = c.in_ok-served in
    let same = still_is it.served n.parts.links (store_view (g.K.Keeper.contents n.keeper) (g.K.Keeper.parts n.keeper) (g.K.Keeper.failing n.keeper) (g.K.Keeper.faults n.keeper))
    (store_view (g.K.Keeper.contents w.keeper) (g.K.Keeper.parts w.keeper) (g.K.Keeper.failing w.keeper) (g.K.Keeper.faults w.keeper))
    n w c.if-served.false it.ensures.adds in
    subst (λ v. OnErr c.act.result (TellsSame (g.K.Keeper.contents v.keeper) (g.K.Keeper.contents m.keeper) (g.K.Keeper.parts v.keeper) (g.K.Keeper.parts m.keeper) (g.K.Keeper.records v.keeper) (g.K.Keeper.records m.keeper)
    (g.K.Keeper.files v.keeper) (g.K.Keeper.files m.keeper) (g.K.Keeper.failing v.keeper) (g.K.Keeper.failing m.keeper)))
    same c.act.ensures.err_store
