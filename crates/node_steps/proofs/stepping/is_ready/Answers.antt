-- What the proof of `stepping::is_ready` needs beside the tactics.
use Rattle.std.proofs.Common.{sym, ap, ◌∙◌}
use Rattle.node_steps.specs.Nodes.{told_of, beside}
use Rattle.node_steps.proofs.KeptLemmas.{stands_in}
use Rattle.node_ledger.proofs.WriteLemmas.{ledger_of}
use Rattle.node_past.proofs.OwedLemmas.{owed_in}
use Rattle.node_steps.proofs.MoveLemmas.{ready_parts}
use Rattle.node_steps.proofs.TurnLemmas.{owes_told, ready_if, ready_owed}
use Rattle.node_steps.proofs.stepping.is_ready.Goals as goal

pub returns-then-owes-clause-ready : goal.returns-then-owes-clause-ready
returns-then-owes-clause-ready g c = λ x told.
    let n = beside c.args.parts.now c.args.ledger.now in
    ready_owed n (owes_told n (told_of (g.K.Keeper.contents n.keeper) (g.K.Keeper.parts n.keeper)) x c.requires.stands.kept.state told) (sym c.owes.ensures ∙ c.if-owes.true)

pub returns-clause-ready : goal.returns-clause-ready
returns-clause-ready g c =
    let n = beside c.args.parts.now c.args.ledger.now in
    let i = c.ledger.inside in
    let p = c.args.parts.now in
    let stands = stands_in g.K.Keeper.contents g.K.Keeper.parts g.K.Keeper.records (ledger_of i.keeper i.branch i.past (owed_in i.past i.debts.items)) c.args.ledger.now p c.ledger.view_is c.requires.stands in
    let told = told_of (g.K.Keeper.contents n.keeper) (g.K.Keeper.parts n.keeper) in
    ready_if c.is_ready.result n told c.requires.stands.kept.state (sym c.owes.ensures ∙ c.if-owes.false)
    (ready_parts c.is_ready.result c.states_have_their_settings.ensures.made c.moment_of-moment.result i.keeper p i.branch i.past (owed_in i.past i.debts.items) (g.K.Keeper.contents i.keeper) (g.K.Keeper.parts i.keeper) n (ap (beside p) c.ledger.view_is) c.moment_of-moment.ensures stands.kept c.is_ready.ensures.ready
    (ap (λ v. told_of (g.K.Keeper.contents v.keeper) (g.K.Keeper.parts v.keeper)) c.ledger.view_is))
