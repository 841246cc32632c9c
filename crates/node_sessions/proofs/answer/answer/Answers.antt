-- A Close is answered in its own way.
use Rattle.node_sessions.proofs.answer.answer.Goals as goal

pub returns-in-Close-clause-serves : goal.returns-in-Close-clause-serves
returns-in-Close-clause-serves g c = λ links w. c.hang_up.ensures.serves links c.args.clock c.args.number c.args.frame.now _ _ _ _ c.in-Close.is w c.requires.agrees c.requires.fresh

pub returns-in-Close-clause-calls : goal.returns-in-Close-clause-calls
returns-in-Close-clause-calls g c = λ links w. c.hang_up.ensures.calls links c.args.clock c.args.number c.args.frame.now _ _ _ _ _ c.in-Close.is w
