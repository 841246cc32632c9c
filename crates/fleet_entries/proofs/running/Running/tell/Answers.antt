-- What the proof of `running::Running::tell` needs beside the tactics.
use Rattle.fleet_entries.proofs.Full.{rest_of}
use Rattle.fleet_entries.proofs.running.Running.tell.Goals as goal

pub returns-clause-rest : goal.returns-clause-rest
returns-clause-rest g c = rest_of c.self.inside.nodes c.self.inside.run c.add_copies.new.entries _ c.args.self.now c.self.view_is c.add_copies.ensures.some.1
