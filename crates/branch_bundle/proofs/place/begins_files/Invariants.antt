-- What holds at each turn of the loops of `place::begins_files`.
use Rattle.std.proofs.Common.{[], length}
use Rattle.branch_bundle.specs.Parts.{BeginsFiles}
use Rattle.branch_bundle.proofs.place.begins_files.Given as goal

abbrev pub invariant-loop-file : goal.invariant-loop-file
invariant-loop-file l = record {
  found : BeginsFiles l.before l.rest → BeginsFiles [] l.fn.text;
  told : BeginsFiles [] l.fn.text → BeginsFiles l.before l.rest;
}

abbrev pub decreases-loop-file : goal.decreases-loop-file
decreases-loop-file l = length l.rest
