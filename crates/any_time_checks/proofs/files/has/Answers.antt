-- What the proof of `files::has` needs beside the tactics.
use Rattle.std.proofs.Common.{ap, sym, ◌∙◌}
use Rattle.std.specs.Prelude.{option_copied}
use Rattle.union_merge.specs.Branch.{or_none}
use Rattle.union_merge.specs.LineSet.{has_line}
use Rattle.any_time_checks.proofs.LineLemmas.{has_here}
use Rattle.any_time_checks.proofs.files.has.Goals as goal

pub returns-in-Some : goal.returns-in-Some
returns-in-Some c =
    let line = c.args.line.now in
    has_here c.contains.result c.bytes.result.now line c.in-Some.lines.now c.bytes.ensures c.contains.ensures
    ∙ sym (ap (λ o. has_line (or_none (option_copied o)) line) c.in-Some.is)
