-- What the proof of `slots::work_in` needs beside the tactics.
use Rattle.std.proofs.Common.{ap, ◌∙◌}
use Rattle.step_makes.proofs.SlotLemmas.{slot_seen}
use Rattle.std.specs.Option.{option_map}
use Rattle.state_jobs.specs.Works.{work_of}
use Rattle.step_makes.proofs.slots.work_in.Goals as goal

pub returns : goal.returns
returns c = ap (option_map work_of) c.first_in.ensures ∙ slot_seen c.args.slot c.args.running.now
