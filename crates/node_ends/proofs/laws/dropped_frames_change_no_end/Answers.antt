-- What the proof of `laws::dropped_frames_change_no_end` needs beside the tactics.
use Rattle.node_ends.proofs.Dropping.{ends_drop, looks_drop}
use Rattle.node_ends.proofs.laws.dropped_frames_change_no_end.Goals as goal

pub returns-clause-ends : goal.returns-clause-ends
returns-clause-ends c = ends_drop

pub returns-clause-looks : goal.returns-clause-looks
returns-clause-looks c = looks_drop
