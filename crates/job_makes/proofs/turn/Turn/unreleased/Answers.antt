-- What the proof of `turn::Turn::unreleased` needs beside the tactics.
use Rattle.std.proofs.Common.{Bool, ◌&&◌, not, ap, ◌∙◌}
use Rattle.node_model.specs.Calls.{to_release}
use Rattle.node_model.specs.Look.{failing_call}
use Rattle.step_judging.specs.Telling.{failed_call}
use Rattle.job_makes.proofs.turn.Turn.unreleased.Goals as goal

pub returns : goal.returns
returns c = λ s st.
    c.fails_to_release.ensures
    ∙ ap (λ (b : Bool). failing_call (failed_call c.args.self.now.told.now.kind) (to_release (b && not c.args.lost))) (c.owns_share.ensures s st)
