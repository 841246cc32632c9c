-- By the message.
use Rattle.node_tasks.proofs.Owing.{owed_at_ends}
use Rattle.node_tasks.proofs.telling.tells.Goals as goal

pub returns : goal.returns
returns c = owed_at_ends c.args.task.now c.args.told.now _ c.told_line.result c.message.ensures c.told_line.ensures
