-- What the proof of `paying::due_of` needs beside the tactics.
use Rattle.std.proofs.Common.{ap, ◌∙◌}
use Rattle.node_model.specs.OwedLines.{OwedLine}
use Rattle.state_owed.proofs.PayLemmas.{ok_due}
use Rattle.state_owed.proofs.paying.due_of.Goals as goal

pub returns : goal.returns
returns c =
    ok_due c.if_new.result c.args.ids.now c.args.branch.now c.args.clock c.args.line.now c.args.path.now c.bytes.result.now c.id_in-id.result c.line.inside.repo c.line.inside.there
    c.requires.path (ap (λ (o : OwedLine). o.repo) c.line.view_is) (ap (λ (o : OwedLine). o.there) c.line.view_is) c.id_in-id.ensures
    (c.bytes.ensures ∙ c.in_ok-text.ensures.text c.args.clock c.stamp_at-stamp.ensures) c.if_new.ensures
