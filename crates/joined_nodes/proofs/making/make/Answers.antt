-- What the proof of `making::make` needs beside the tactics.
use Rattle.joined_nodes.proofs.Made.{all_new, new_nodes}
use Rattle.joined_nodes.proofs.making.make.Goals as goal

pub returns-in-Ok-clause-nodes : goal.returns-in-Ok-clause-nodes
returns-in-Ok-clause-nodes g c =
    new_nodes c.ends_stay_joined.ensures.fresh c.args.repos.now c.args.keepers.items c.add_all.new.nodes.items c.requires.keepers
    (all_new c.args.repos.now c.args.keepers.items c.add_all.new.nodes.items c.requires.keepers c.in-Ok.ensures)
