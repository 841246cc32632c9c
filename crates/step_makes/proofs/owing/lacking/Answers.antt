-- What the proof of `owing::lacking` needs beside the tactics.
use Rattle.std.proofs.Common.{ap, ◌∙◌, ◌≡◌}
use Rattle.node_model.specs.OwedLines.{OwedLine, due, if_new}
use Rattle.union_merge.specs.Branch.{lines_at}
use Rattle.step_makes.proofs.OwingLemmas.{due_read}
use Rattle.std.proofs.lemmas.Result.{IfOk-weaker}
use Rattle.step_makes.proofs.owing.lacking.Goals as goal

pub returns : goal.returns
returns c =
    IfOk-weaker c.if_new.result (λ set. set ≡ if_new (lines_at c.args.branch.now c.args.path.now) c.bytes.result.now) (λ set. set ≡ due c.args.repos.now (lines_at c.args.branch.now) c.args.clock c.args.line.now)
    (λ set new.
    due_read c.args.repos.now c.args.branch.now c.args.clock c.args.line.now c.args.path.now c.bytes.result.now c.id_of-id.result c.line.inside.repo c.line.inside.there set
    c.requires.path (ap (λ (o : OwedLine). o.repo) c.line.view_is) (ap (λ (o : OwedLine). o.there) c.line.view_is) c.id_of-id.ensures
    (c.bytes.ensures ∙ c.in_ok-text.ensures.text c.args.clock c.stamp_at-stamp.ensures) new)
    c.if_new.ensures
