-- What holds at each turn of the loops of `reading::read_files`.
use Rattle.std.proofs.Common.{length}
use Rattle.branch_bundle.proofs.ReadLemmas.{ReadsOn}
use Rattle.branch_bundle.proofs.reading.read_files.Given as goal

abbrev pub invariant-loop-file : goal.invariant-loop-file
invariant-loop-file l = ReadsOn l.branch l.rest l.fn.text

abbrev pub decreases-loop-file : goal.decreases-loop-file
decreases-loop-file l = length l.rest
