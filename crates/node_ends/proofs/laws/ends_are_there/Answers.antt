-- What the proof of `laws::ends_are_there` needs beside the tactics.
use Rattle.node_ends.proofs.Listing.{listed, numbers, there}
use Rattle.node_ends.proofs.laws.ends_are_there.Goals as goal

pub returns-clause-listed : goal.returns-clause-listed
returns-clause-listed c = listed

pub returns-clause-numbers : goal.returns-clause-numbers
returns-clause-numbers c = numbers

pub returns-clause-there : goal.returns-clause-there
returns-clause-there c = there
