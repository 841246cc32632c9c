-- What the proof of `reading::read` needs beside the tactics.
use Rattle.std.specs.List.{flat_map}
use Rattle.branch_bundle.specs.Bundle.{file_text}
use Rattle.branch_bundle.proofs.reading.read.Goals as goal

pub returns-in_default-clause-only : goal.returns-in_default-clause-only
returns-in_default-clause-only c = λ files is. absurd (c.in_default.ensures (flat_map file_text files) is.spelled)
