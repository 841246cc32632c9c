-- What holds at each turn of the loops of `logs::put_files`.
use Rattle.std.proofs.Common.{◌≡◌, ◌++◌}
use Rattle.std.specs.List.{flat_map}
use Rattle.union_merge.specs.FileView.{files_of}
use Rattle.shown_text.specs.Shown.{log_text}
use Rattle.shown_text.proofs.logs.put_files.Given as goal

-- the text so far, with the files that are left, is the whole
abbrev pub invariant-loop-path : goal.invariant-loop-path
invariant-loop-path l =
    l.out.items ++ flat_map (λ f. log_text l.run l.repo f.0 f.1) (files_of l.path-iterator) ≡ l.fn.out.items ++ flat_map (λ f. log_text l.run l.repo f.0 f.1) l.branch
