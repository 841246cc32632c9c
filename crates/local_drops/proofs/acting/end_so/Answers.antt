-- Why it ends.
use Rattle.std.proofs.Common.{ap, ◌∙◌}
use Rattle.drop_phases.specs.declared.phase.Ending.TheVariants as endings
use Rattle.drop_phases.specs.declared.phase.Phase.TheVariants as phases
use Rattle.drop_phases.specs.Working.{sight}
use Rattle.local_drops.proofs.Finishings.{so_did}
use Rattle.local_drops.proofs.acting.end_so.Goals as goal

pub returns-clause-does : goal.returns-clause-does
returns-clause-does g c = λ time number k.
    so_did (sight (g.H.Here.reading c.args.here.now) (g.H.Here.ends c.args.here.now) time number) c.args.table.now c.finish.new.table k c.args.worker.now c.finish.new.worker endings.StoreFault c.finish.result
    (c.requires.at ∙ ap phases.Ends c.in-StoreFault.is) (c.finish.ensures.does time number k)
