-- What the proof of `laws::lawful_runs_are_safe` needs beside the tactics.
use Rattle.past_facts.proofs.Latest.{lawful_safe}
use Rattle.past_facts.proofs.laws.lawful_runs_are_safe.Goals as goal

pub returns : goal.returns
returns c = lawful_safe
