-- With the frame that came.
use Rattle.transfer_worker.proofs.machine.put.Goals as goal

pub returns-in-Some : goal.returns-in-Some
returns-in-Some g c = c.hear.ensures.does (g.H.Here.sight c.args.here.now) c.args.table.now
