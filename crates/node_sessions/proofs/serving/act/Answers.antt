-- A session whose turn it is to give is sending a content.
use Rattle.std.proofs.Common.{Some, ap, subst, sym, ◌∙◌}
use Rattle.std.proofs.lemmas.Result.{IfOk-weaker}
use Rattle.object_store.specs.Stores.{AreSmallParts}
use Rattle.node_sessions.proofs.Turning.{gives_at}
use Rattle.node_sessions.proofs.serving.act.Goals as goal

pub returns-in-Gives-clause-serves : goal.returns-in-Gives-clause-serves
returns-in-Gives-clause-serves g c =
    IfOk-weaker c.give.result _ _
    (λ v h. h c.args.ends.now c.args.table.now c.args.clock c.args.number (gives_at c.args.ends.now c.args.session.now (c.requires.turn ∙ ap Some c.in-Gives.is))
    (record { agrees = c.requires.agrees; fresh = c.requires.fresh; owns = c.requires.owns; fills = c.requires.fills }))
    c.give.ensures.serves

pub returns-in-Gives-clause-calls : goal.returns-in-Gives-clause-calls
returns-in-Gives-clause-calls g c =
    IfOk-weaker c.give.result _ _
    (λ v h. h c.args.ends.now c.args.table.now c.args.clock c.args.number (gives_at c.args.ends.now c.args.session.now (c.requires.turn ∙ ap Some c.in-Gives.is)))
    c.give.ensures.calls

pub returns-in-Gives-clause-small : goal.returns-in-Gives-clause-small
returns-in-Gives-clause-small g c = λ small. subst AreSmallParts (sym c.give.ensures.parts) small
