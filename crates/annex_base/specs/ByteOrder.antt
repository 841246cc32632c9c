-- Texts in byte order.
use Rattle.std.specs.Prelude.{◌≡◌, ℕ, List}
use Rattle.std.specs.declared.alloc.Global.{Global}
use Rattle.std.specs.declared.cmp.Ordering.{Ordering}
use Rattle.std.specs.declared.cmp.Ordering.TheVariants.{Less}
use Rattle.std.specs.declared.vec.Vec.{Vec}
use Rattle.std.specs.Ordering.{nat_cmp}
use Rattle.std.specs.Cmp.Lexicographic.{slice_cmp}
use Rattle.std.specs.List.Sorted.{IsStrictlySortedBy}

-- the first byte that differs decides, and else the shorter text comes first
abbrev pub text_cmp : List ℕ → List ℕ → Ordering
text_cmp = slice_cmp nat_cmp

-- the order of the keys of a map from byte strings
abbrev pub path_cmp : Vec ℕ Global → Vec ℕ Global → Ordering
path_cmp x y = text_cmp x.items y.items

-- the first text comes before the second
abbrev pub Before : List ℕ → List ℕ → Type 0
Before x y = text_cmp x y ≡ Less

-- texts in rising order, each once
abbrev pub IsInOrder : List (List ℕ) → Type 0
IsInOrder texts = IsStrictlySortedBy text_cmp texts
