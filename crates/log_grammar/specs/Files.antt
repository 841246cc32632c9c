-- The names of the log files, but for location logs, whose paths are those of their keys (git-annex internals; the files of
-- numbers by path are own).
use Rattle.std.specs.Prelude.{ℕ, List, [], ◌∷◌, Option, bytes_eq, codes}
use Rattle.std.specs.List.{find}
use Rattle.log_grammar.specs.declared.entry.LogKind.{LogKind}
use Rattle.log_grammar.specs.declared.entry.LogKind.TheVariants as kinds

-- none for a location log
abbrev pub file_name : LogKind → List ℕ
file_name kinds.Location = []
file_name kinds.Trust = codes "trust.log"
file_name kinds.Uuid = codes "uuid.log"
file_name kinds.Group = codes "group.log"
file_name kinds.Preferred = codes "preferred-content.log"
file_name kinds.Required = codes "required-content.log"
file_name kinds.GroupPreferred = codes "group-preferred-content.log"
file_name kinds.Numcopies = codes "numcopies.log"
file_name kinds.Mincopies = codes "mincopies.log"
file_name kinds.NumcopiesPath = codes "numcopies-path.log"
file_name kinds.MincopiesPath = codes "mincopies-path.log"

-- the kinds that have one file each
abbrev pub named_kinds : List LogKind
named_kinds = kinds.Trust ∷ kinds.Uuid ∷ kinds.Group ∷ kinds.Preferred ∷ kinds.Required ∷ kinds.GroupPreferred ∷ kinds.Numcopies ∷ kinds.Mincopies ∷ kinds.NumcopiesPath ∷ kinds.MincopiesPath ∷ []

-- the kind of the file of this name, of these kinds
abbrev pub kind_among : List LogKind → List ℕ → Option LogKind
kind_among kinds name = find (λ kind. bytes_eq (file_name kind) name) kinds

-- the kind of the file of this name
abbrev pub kind_named : List ℕ → Option LogKind
kind_named name = kind_among named_kinds name
