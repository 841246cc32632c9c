-- What holds at each turn of the loops of `settings::Settings::read`.
use Rattle.std.proofs.Common.{◌≡◌, ℕ, List}
use Rattle.union_merge.specs.Branch.{lines_at}
use Rattle.union_merge.specs.FileView as view
use Rattle.trust_groups.specs.Exprs.{HaveAllExprs}
use Rattle.trust_groups.specs.Globs.{HaveAllGlobs}
use Rattle.trust_groups.specs.Settings.{Lines}
use Rattle.trust_groups.specs.Reads.{HaveReadLines, view_of}
use Rattle.trust_groups.proofs.ReadsLemmas.{lines_from}
use Rattle.trust_groups.proofs.settings.Settings.read.Given as goal

-- some lines were read, the globs of their patterns and the expressions are kept, and with the files that are left they are those of the branch
abbrev pub invariant-loop-path : goal.invariant-loop-path
invariant-loop-path l =
    (lines : Lines) × HaveReadLines (view_of l.files.entries) lines × HaveAllGlobs l.globs.entries lines × HaveAllExprs l.exprs lines × ((path : List ℕ) → lines_from lines (view.files_of l.path-iterator) path ≡ lines_at l.branch path)
