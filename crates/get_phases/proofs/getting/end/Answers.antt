-- Where it has the right.
use Rattle.get_phases.specs.Gets.{fill_in}
use Rattle.get_phases.proofs.Filling.{given_at, given_back, none_back}
use Rattle.get_phases.proofs.getting.end.Goals as goal

pub unfill-requires : goal.unfill-requires
unfill-requires c =
    record { given = (given_at c.args.table.now c.args.getting.job.key c.in-Some.fill c.into_fill.result (fill_in c.args.getting.phase) c.requires.has c.into_fill.ensures c.in-Some.is).1 }

pub returns-in-Some-clause-fills : goal.returns-in-Some-clause-fills
returns-in-Some-clause-fills c =
    given_back c.args.table.now c.unfill.new.self c.args.getting.job.key c.in-Some.fill c.into_fill.result (fill_in c.args.getting.phase) c.requires.has c.into_fill.ensures c.in-Some.is c.unfill.ensures.off

pub returns-in-None-clause-fills : goal.returns-in-None-clause-fills
returns-in-None-clause-fills c = none_back c.args.table.now c.args.getting.job.key c.into_fill.result (fill_in c.args.getting.phase) c.into_fill.ensures c.in-None.is
