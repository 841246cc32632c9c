-- What the proof of `laws::entries_are_found_by_topic` needs beside the tactics.
use Rattle.log_lines.proofs.PutLemmas.{found_by_topic}
use Rattle.log_lines.proofs.laws.entries_are_found_by_topic.Goals as goal

pub returns : goal.returns
returns c = found_by_topic
