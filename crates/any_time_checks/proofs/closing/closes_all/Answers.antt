-- What the proof of `closing::closes_all` needs beside the tactics.
use Rattle.std.proofs.Common.{ap, ◌∙◌}
use Rattle.std.specs.Prelude.{length}
use Rattle.node_model.specs.AnyTime as any_time
use Rattle.step_judging.specs.Same.{same_frames}
use Rattle.any_time_checks.proofs.CloseLemmas.{closes_all_same}
use Rattle.any_time_checks.proofs.FrameLemmas.{frames_back}
use Rattle.any_time_checks.proofs.closing.closes_all.Goals as goal

pub returns : goal.returns
returns c = λ s st same are.
    let sent = c.args.sent.now in
    c.closes_each.ensures
    ∙ ap (λ fs. same_frames fs sent) (closes_all_same c.ends.result.now s st c.number.result (length c.args.repos.now) (c.ends.ensures s st are) (c.number.ensures s st are) (ap length same))
    ∙ frames_back (any_time.closes_all s st) sent
