-- What holds at each turn of the loops of `printing::bundle`.
use Rattle.std.proofs.Common.{◌≡◌, ◌++◌}
use Rattle.std.specs.List.{flat_map}
use Rattle.branch_bundle.specs.Bundle.{file_text, bundle_text}
use Rattle.union_merge.specs.FileView.{files_of}
use Rattle.branch_bundle.proofs.printing.bundle.Given as goal

-- the text so far, with the files that are left, is the whole
abbrev pub invariant-loop-path : goal.invariant-loop-path
invariant-loop-path l = l.out.items ++ flat_map file_text (files_of l.path-iterator) ≡ bundle_text l.branch
