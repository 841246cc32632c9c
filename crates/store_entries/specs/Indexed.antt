-- The index of settings beside a branch: for private contracts.
use Rattle.std.specs.Prelude.{ℕ, List, Option}
use Rattle.std.specs.Option.{ForSome}
use Rattle.log_lines.specs.Newest.{ReadAlike}
use Rattle.trust_groups.specs.Reads.{Indices, HaveReadLines, kind_at}
use Rattle.trust_groups.specs.Settings.{Lines}
use Rattle.union_merge.specs.Branch.{Files, lines_at}

-- each file reads alike in both
abbrev pub ReadsAlike : Lines → Lines → Type 0
ReadsAlike x y = (path : List ℕ) → ReadAlike (kind_at path) (x path) (y path)

-- the index, where there is one, is that of the branch's lines
abbrev pub IsIndexed : Option Indices → Files → Type 0
IsIndexed index branch = ForSome index (λ i. HaveReadLines i (lines_at branch))
