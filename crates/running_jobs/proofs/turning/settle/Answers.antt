-- A job that has ended.
use Rattle.running_jobs.proofs.Ends.{settles_off}
use Rattle.running_jobs.proofs.turning.settle.Goals as goal

pub returns-clause-settles : goal.returns-clause-settles
returns-clause-settles c =
    let ended = c.if-not-ended.false in
    settles_off c.args.ended c.args.task c.args.table.now c.end.new.table ended (c.end.ensures.spent (c.requires.spent ended)) (c.end.ensures.bars (c.requires.spent ended)) c.end.ensures.others c.end.ensures.fills
