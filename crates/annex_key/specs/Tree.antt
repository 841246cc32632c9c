-- A tree as the list of its paths and their keys, in byte order of the paths.
use Rattle.std.specs.Prelude.{ℕ, not, List, [], ◌∷◌, filter, Option}
use Rattle.std.specs.Map.{lookup, keys_of, values_of}
use Rattle.std.specs.BTreeMap.{insert_entry, is_at}
use Rattle.std.specs.Str.{bytes_eq}
use Rattle.annex_base.specs.ByteOrder.{text_cmp}

abbrev pub Entries : Type 0
Entries = List (List ℕ × List ℕ)

-- the tree after a path is set: an earlier key of the path is replaced
abbrev pub with_key : Entries → List ℕ → List ℕ → Entries
with_key tree path key = insert_entry text_cmp tree path key

-- the key of a path
abbrev pub key_of : Entries → List ℕ → Option (List ℕ)
key_of tree path = lookup (is_at (text_cmp path)) tree

-- the paths of a key, in order
abbrev pub paths_of : Entries → List ℕ → List (List ℕ)
paths_of tree key = keys_of (filter (λ e. bytes_eq e.1 key) tree)

-- a list without what stands in it before
abbrev pub each_once : List (List ℕ) → List (List ℕ)
each_once [] = []
each_once (x ∷ xs) = x ∷ filter (λ y. not (bytes_eq y x)) (each_once xs)

-- each key once, in order of its first path
abbrev pub distinct_keys : Entries → List (List ℕ)
distinct_keys tree = each_once (values_of tree)
