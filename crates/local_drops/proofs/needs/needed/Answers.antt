-- Where the job is to judge.
use Rattle.std.proofs.Common.{sym, ◌∙◌}
use Rattle.local_drops.proofs.Owings.{needs_next}
use Rattle.local_drops.proofs.needs.needed.Goals as goal

pub returns-in-Next-clause-does : goal.returns-in-Next-clause-does
returns-in-Next-clause-does g c =
    needs_next (g.H.Here.reading c.args.here.now) (g.H.Here.ends c.args.here.now) c.args.time c.args.worker.now (sym c.phase.ensures ∙ c.in-Next.is) c.judged.result c.judged.ensures.does
