-- Where a key's location log stands in a branch (git-annex internals: location tracking, hash directories, chunking).
use Rattle.std.specs.Prelude.{ℕ, List, ◌∷◌, ◌++◌, take, drop, codes}
use Rattle.annex_base.specs.Lines.{slash}
use Rattle.hex.specs.Hex.{encode_lower}
use Rattle.md5.specs.Md5.{md5}
use Rattle.annex_key.specs.KeyFile.{file_text}
use Rattle.annex_key.specs.View.{unchunked_text}

-- the first three and the next three digits of the MD5 of the key's text without the two fields of a chunk, and the name of
-- the key's file, with all its fields
abbrev pub location_log : List ℕ → List ℕ → List ℕ
location_log unchunked file =
    let digits = encode_lower (md5 unchunked) in take 3 digits ++ slash ∷ take 3 (drop 3 digits) ++ slash ∷ file ++ codes ".log"

-- the path of a key's location log
abbrev pub location_path : List ℕ → List ℕ
location_path key = location_log (unchunked_text key) (file_text key)
