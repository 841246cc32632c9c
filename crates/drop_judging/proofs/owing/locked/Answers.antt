-- They are among the others.
use Rattle.std.proofs.Common.{◌∙◌}
use Rattle.drop_judging.specs.Judging.{is_owing}
use Rattle.drop_judging.proofs.Chosen.{chosen_others}
use Rattle.drop_judging.proofs.owing.locked.Goals as goal

pub returns-clause-others : goal.returns-clause-others
returns-clause-others g c = chosen_others (g.H.Here.reading c.args.here.now) (is_owing (g.H.Here.ends c.args.here.now) c.args.worker.now) c.deref.result.now c.owing.result (c.deref.ensures.value ∙ c.in_ok-candidates.ensures.all) c.owing.ensures
