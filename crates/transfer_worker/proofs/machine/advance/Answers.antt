-- What is kept on either way of the content.
use Rattle.transfer_worker.proofs.Sides.{get_keeps, put_keeps}
use Rattle.transfer_worker.proofs.machine.advance.Goals as goal

pub returns-in-Gets-clause-keeps : goal.returns-in-Gets-clause-keeps
returns-in-Gets-clause-keeps g c = rw c.in-Gets.is (get_keeps (g.H.Here.sight c.args.here.now) _ _ _ _ _ c.in-Gets.getting _ c.get.result c.get.ensures)

pub returns-in-Puts-clause-keeps : goal.returns-in-Puts-clause-keeps
returns-in-Puts-clause-keeps g c = rw c.in-Puts.is (put_keeps (g.H.Here.sight c.args.here.now) _ _ _ _ c.in-Puts.putting _ c.put.result c.put.ensures)
