-- What the proof of `laws::new_lines_are_taken_off_again` needs beside the tactics.
use Rattle.union_merge.proofs.UndoneLemmas.{new_lines-off}
use Rattle.union_merge.proofs.laws.new_lines_are_taken_off_again.Goals as goal

pub returns : goal.returns
returns c = new_lines-off
