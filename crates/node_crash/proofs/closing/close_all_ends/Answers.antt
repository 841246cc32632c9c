-- The frames as a list.
use Rattle.std.proofs.Common.{[], List, sym, subst}
use Rattle.run_data.specs.declared.entry.FrameView.{FrameView}
use Rattle.node_crash.specs.Closing.{SendsCloses, all_names}
use Rattle.node_crash.proofs.closing.close_all_ends.Goals as goal

pub returns : goal.returns
returns c =
    let names = all_names c.args.own c.args.count in
    subst (SendsCloses names c.args.stamp c.args.ends.now c.close_each.new.ends []) (sym c.from_vec.ensures)
    (subst (λ (fs : List FrameView). SendsCloses names c.args.stamp c.args.ends.now c.close_each.new.ends fs c.close_each.new.sent.items) c.requires.empty c.close_each.ensures.closes)
