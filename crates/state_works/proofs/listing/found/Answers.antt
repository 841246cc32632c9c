-- What the proof of `listing::found` needs beside the tactics.
use Rattle.std.proofs.Common.{ap, ◌∙◌}
use Rattle.std.specs.Option.{option_map}
use Rattle.state_jobs.specs.Works.{work_of}
use Rattle.state_works.proofs.WorkLemmas.{found_seen}
use Rattle.state_works.proofs.listing.found.Goals as goal

pub returns : goal.returns
returns c = ap (option_map work_of) c.first_of.ensures ∙ found_seen c.args.number c.args.running.now
