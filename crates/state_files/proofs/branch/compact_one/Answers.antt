-- What the proof of `branch::compact_one` needs beside the tactics.
use Rattle.std.proofs.Common.{◌∙◌, sym, subst}
use Rattle.union_merge.specs.LineSet.{IsLine}
use Rattle.state_files.proofs.BranchLemmas.{found_is_line}
use Rattle.state_files.proofs.branch.compact_one.Goals as goal

pub replace_file-requires : goal.replace_file-requires
replace_file-requires c =
    subst IsLine (c.bytes.ensures ∙ sym c.bytes-2.ensures)
    (found_is_line c.args.branch.now c.bytes.result.now c.in-Some.lines.now c.files.ensures.branch.each (sym c.in-Some.ensures))
