-- How a remote drop ends that is to end.
use Rattle.std.proofs.Common.{sym, ap, ◌∙◌}
use Rattle.run_data.specs.declared.job.DropRefusal.TheVariants as refusals
use Rattle.run_data.specs.declared.job.Outcome.TheVariants.{Refused}
use Rattle.node_model.specs.Knows.{denial_of}
use Rattle.remote_drops.proofs.RemoteEvidences.{ends_denied, ends_late, ends_removed, ends_so}
use Rattle.remote_drops.proofs.acting.outcome.Goals as goal

pub returns-in-Removed : goal.returns-in-Removed
returns-in-Removed g c =
    ends_removed (g.H.Here.reading c.args.here.now) (g.H.Here.ends c.args.here.now) c.args.worker.now c.args.target c.requires.remote (sym c.phase.ensures ∙ c.in-Removed.is) c.obeyed.result c.obeyed.ensures

pub returns-in-Late : goal.returns-in-Late
returns-in-Late g c =
    ends_late (g.H.Here.reading c.args.here.now) (g.H.Here.ends c.args.here.now) c.args.worker.now c.args.target c.requires.remote c.in-Late.time (sym c.phase.ensures ∙ c.in-Late.is) c.late.result c.late.ensures

pub returns-in-Denied : goal.returns-in-Denied
returns-in-Denied g c =
    ends_denied (g.H.Here.reading c.args.here.now) (g.H.Here.ends c.args.here.now) c.args.worker.now c.args.target c.requires.remote (sym c.phase.ensures ∙ c.in-Denied.is) c.denied.result
    (c.denied.ensures ∙ ap (λ o. Refused (refusals.Denied (denial_of o))) c.word.ensures)

pub returns-in-Ends : goal.returns-in-Ends
returns-in-Ends g c =
    ends_so (g.H.Here.reading c.args.here.now) (g.H.Here.ends c.args.here.now) c.args.worker.now c.args.target c.requires.remote c.in-Ends.why (sym c.phase.ensures ∙ c.in-Ends.is) _ c.refusal.ensures
