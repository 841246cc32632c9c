-- The peers, by where the job stands.
use Rattle.std.proofs.Common.{◌≡◌, sym, ◌∙◌}
use Rattle.drop_phases.specs.declared.phase.Phase.TheVariants as phases
use Rattle.remote_requests.proofs.RemoteChoices.{owed_others}
use Rattle.remote_requests.proofs.RemoteOwings.{next_all}
use Rattle.remote_requests.proofs.needs.needed_remotely.Goals as goal

pub returns-in-Next-clause-does : goal.returns-in-Next-clause-does
returns-in-Next-clause-does g c =
    next_all (g.H.Here.reading c.args.here.now) (g.H.Here.ends c.args.here.now) c.args.worker.now (sym c.phase.ensures ∙ c.in-Next.is) c.judged_remotely.result c.judged_remotely.ensures.does

pub judged_remotely-requires-clause-own : goal.judged_remotely-requires-clause-own
judged_remotely-requires-clause-own g c = c.requires.own (λ fresh. let both : phases.Next ≡ phases.Fresh = sym c.in-Next.is ∙ (c.phase.ensures ∙ fresh) in cc)

pub returns-in-Removed-clause-others : goal.returns-in-Removed-clause-others
returns-in-Removed-clause-others g c = owed_others (g.H.Here.reading c.args.here.now) (g.H.Here.ends c.args.here.now) c.args.worker.now c.owed_at_end.result c.owed_at_end.ensures
