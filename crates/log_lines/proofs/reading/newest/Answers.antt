-- What the proof of `reading::newest` needs beside the tactics.
use Rattle.std.proofs.Common.{ap}
use Rattle.log_lines.specs.Index.{Index}
use Rattle.log_lines.proofs.NewestLemmas.{reading_by}
use Rattle.log_lines.proofs.reading.newest.Goals as goal

pub returns-clause-reading : goal.returns-clause-reading
returns-clause-reading c = reading_by c.args.kind c.args.lines.now c.in_ok-index.index.entries c.into_entries.result (ap (λ (n : Index). n.entries) c.in_ok-index.ensures) c.into_entries.ensures
