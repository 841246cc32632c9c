-- What the proof of `knowing::Knowing::causes` needs beside the tactics.
use Rattle.std.proofs.Common.{◌≡◌, List, ap, subst, ◌∙◌}
use Rattle.std.specs.Prelude.{IfOk}
use Rattle.run_data.specs.declared.job.CandidateCause.{CandidateCause}
use Rattle.node_model.specs.Evidence.{failures}
use Rattle.node_model.specs.Knows.{knows_by}
use Rattle.state_jobs.specs.Works.{work_of}
use Rattle.drop_makes.specs.Knowings.{cause_in, reading_in}
use Rattle.drop_makes.proofs.knowing.Knowing.causes.Goals as goal

pub returns : goal.returns
returns c =
    let k = c.args.self.now in
    subst (λ (told : List CandidateCause). IfOk c.failures.result (λ causes. causes.items ≡ told))
    (ap (failures (knows_by (reading_in k.turn.now k.logs.now) (work_of k.turn.now.work.now)) (cause_in k.turn.now k.logs.now)) (c.deref.ensures.value ∙ k.asked)) c.failures.ensures
