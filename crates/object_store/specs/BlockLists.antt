-- How bytes stand in blocks, for private contracts (own).
use Rattle.std.specs.Prelude.{◌≡◌, ℕ, ◌<◌, ◌≤◌, ◌^◌, List, ◌++◌, length, flat_map}
use Rattle.std.specs.declared.vec.Vec.{Vec}
use Rattle.std.specs.declared.alloc.Global.{Global}
use Rattle.annex_base.specs.Lists.{Each}

-- the bytes of blocks, one after another
abbrev pub bytes_of_blocks : List (Vec ℕ Global) → List ℕ
bytes_of_blocks blocks = flat_map (λ b. b.items) blocks

-- whole blocks of 32,768 bytes, and a last one that may be shorter; all have fewer than 2 ^ 62 bytes
pub record AreBlocks (full : List (Vec ℕ Global)) (last : List ℕ) : Type 0 where
  pub whole : Each (λ b. length b.items ≡ 32768) full
  pub rest : length last ≤ 32768
  pub small : length (bytes_of_blocks full ++ last) < 2 ^ 62
