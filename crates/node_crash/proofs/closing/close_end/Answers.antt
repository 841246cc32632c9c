-- The Close of an end that is open; another sends none.
use Rattle.std.proofs.Common.{[], ◌∷◌, List, sym, ◌∙◌, subst}
use Rattle.run_data.specs.declared.entry.FrameView.{FrameView}
use Rattle.node_ends.specs.Ends.{name_of}
use Rattle.node_crash.specs.Closing.{SendsCloses}
use Rattle.node_crash.proofs.Closes.{sends_closed, sends_one}
use Rattle.node_crash.proofs.closing.close_end.Goals as goal

pub returns-then-is_open-clause-closes : goal.returns-then-is_open-clause-closes
returns-then-is_open-clause-closes c =
    let e = c.send.ensures in
    let a = name_of c.args.id in
    subst (λ (fs : List FrameView). SendsCloses (a ∷ []) c.args.stamp c.args.ends.now c.send.new.self c.args.sent.now.items fs) (sym c.push_reserved.ensures.items)
    (sends_one c.args.stamp c.args.ends.now c.send.new.self a c.args.sent.now.items c.send.result (sym c.is_open.ensures ∙ c.if-is_open.true)
    (record { view = e.view; state = e.state; link = e.link; others = e.others; count = e.count; after = e.after }) e.paired)

pub returns-else-is_open-clause-closes : goal.returns-else-is_open-clause-closes
returns-else-is_open-clause-closes c =
    sends_closed c.args.stamp c.args.ends.now (name_of c.args.id) c.args.sent.now.items (sym c.is_open.ensures ∙ c.if-is_open.false)
