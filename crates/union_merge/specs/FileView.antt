-- A map's entries without where their paths lie in memory.
use Rattle.std.specs.Prelude.{ℕ, List, map}
use Rattle.std.specs.declared.vec.Vec.{Vec}
use Rattle.std.specs.declared.alloc.Global.{Global}
use Rattle.union_merge.specs.Branch.{Files}

abbrev pub files_of : List (Vec ℕ Global × List (List ℕ)) → Files
files_of entries = map (λ e. (e.0.items, e.1)) entries
