-- What the proof of `replies::is_held` needs beside the tactics.
use Rattle.std.proofs.Common.{sym, ap, ◌∙◌}
use Rattle.std.specs.List.{list_any}
use Rattle.node_model.specs.Rows.{blocks}
use Rattle.session_makes.proofs.ServedLemmas.{any_reverse}
use Rattle.session_makes.proofs.replies.is_held.Goals as goal

pub returns : goal.returns
returns c =
    let blocking = blocks c.args.key.now c.args.scene.now.clock in
    c.any_blocks.ensures ∙ sym (any_reverse blocking c.holds.result.now) ∙ ap (list_any blocking) c.holds.ensures
