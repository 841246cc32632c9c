-- The step of each phase.
use Rattle.put_steps.proofs.acting.act.Goals as goal

pub returns-in-Bytes : goal.returns-in-Bytes
returns-in-Bytes g c = record { does = c.send.ensures.does c.args.table.now }

pub returns-in-Word : goal.returns-in-Word
returns-in-Word g c = record { does = c.tell.ensures.does c.args.table.now _ }

pub returns-in-Ends : goal.returns-in-Ends
returns-in-Ends g c = record { does = c.end_so.ensures.does _ }
