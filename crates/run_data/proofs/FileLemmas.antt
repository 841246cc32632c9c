-- A file is read off its path, and stands there.
use Rattle.std.proofs.Common.{◌≡◌, ◌≢◌, ◌⊎◌, inl, inr, ◌↔◌, ℕ, Bool, true, false, List, [], Option, Some, None, Result, Ok, Err, IfOk, refl, sym, ap, subst, ◌∙◌}
use Rattle.std.specs.Prelude.{if◌then◌else◌, bytes_eq}
use Rattle.std.specs.List.{list_all}
use Rattle.std.proofs.lemmas.Slice.Eq.{bytes_eq-Decides}
use Rattle.annex_base.proofs.Lists.{Each-always, find_member, find_none}
use Rattle.annex_base.specs.declared.memory.NoMemory.{NoMemory}
use Rattle.annex_key.specs.FileKey.{key_of_file}
use Rattle.annex_key.specs.KeyFile.{file_text}
use Rattle.annex_key.specs.KeyText.{IsKeyText}
use Rattle.log_grammar.specs.declared.entry.LogKind.{LogKind}
use Rattle.log_grammar.specs.declared.entry.LogKind.TheVariants as kinds
use Rattle.union_merge.specs.LineSet.{IsLine}
use Rattle.hash_dirs.specs.LogPath.{location_path}
use Rattle.log_grammar.specs.Files.{file_name, kind_named, named_kinds}
use Rattle.run_data.specs.declared.entry.LogFile.{LogFile}
use Rattle.run_data.specs.declared.entry.LogFile.TheVariants.{Location, Of, Other}
use Rattle.run_data.specs.Files.{HasPath, file_by, file_of, file_path, kind_of, location_of, log_name}
use Rattle.run_data.proofs.PathLemmas.{IsSingle, no_newline, location_path_is_line, log_name-path, not_slash, no_location}

-- what is read of a file name is a key's, and the other way round
abbrev pub FilesNameKeys : Type 0
FilesNameKeys = (file key : List ℕ) → (key_of_file file ≡ Some key) ↔ (IsKeyText key × (file ≡ file_text key))

-- ---- the kinds with a file of their own

pub named_path : (path : List ℕ) (kind : LogKind) → kind_named path ≡ Some kind → file_name kind ≡ path
named_path path kind found = (bytes_eq-Decides (file_name kind) path).0 (find_member (λ k. bytes_eq (file_name k) path) named_kinds kind found).1

-- what stands at a line isn't the kind without a file of its own
pub named_other : (path : List ℕ) (kind : LogKind) → IsLine path → kind_named path ≡ Some kind → kind ≢ kinds.Location
named_other path kind line found is = line.some (sym (named_path path kind found) ∙ ap file_name is)

name_one_line : (kind : LogKind) → IsSingle (file_name kind)
name_one_line kinds.Location = refl
name_one_line kinds.Trust = refl
name_one_line kinds.Uuid = refl
name_one_line kinds.Group = refl
name_one_line kinds.Preferred = refl
name_one_line kinds.Required = refl
name_one_line kinds.GroupPreferred = refl
name_one_line kinds.Numcopies = refl
name_one_line kinds.Mincopies = refl
name_one_line kinds.NumcopiesPath = refl
name_one_line kinds.MincopiesPath = refl

name_without_slash : (kind : LogKind) → list_all not_slash (file_name kind) ≡ true
name_without_slash kinds.Location = refl
name_without_slash kinds.Trust = refl
name_without_slash kinds.Uuid = refl
name_without_slash kinds.Group = refl
name_without_slash kinds.Preferred = refl
name_without_slash kinds.Required = refl
name_without_slash kinds.GroupPreferred = refl
name_without_slash kinds.Numcopies = refl
name_without_slash kinds.Mincopies = refl
name_without_slash kinds.NumcopiesPath = refl
name_without_slash kinds.MincopiesPath = refl

name_some : (kind : LogKind) → kind ≢ kinds.Location → file_name kind ≢ []
name_some kinds.Location other = λ is. other refl
name_some kinds.Trust other = λ is. cc
name_some kinds.Uuid other = λ is. cc
name_some kinds.Group other = λ is. cc
name_some kinds.Preferred other = λ is. cc
name_some kinds.Required other = λ is. cc
name_some kinds.GroupPreferred other = λ is. cc
name_some kinds.Numcopies other = λ is. cc
name_some kinds.Mincopies other = λ is. cc
name_some kinds.NumcopiesPath other = λ is. cc
name_some kinds.MincopiesPath other = λ is. cc

-- ---- the path of a file

pub path_is_line : (file : LogFile) → HasPath file → IsLine (file_path file)
path_is_line (Location key) has = location_path_is_line key has
path_is_line (Of kind) has = record { some = name_some kind has; single = no_newline (file_name kind) (name_one_line kind) }
path_is_line (Other name) has = has

-- ---- the file of a path

path_of-location : (path : List ℕ) (o : Option (List ℕ)) → file_path (location_of path o) ≡ path
path_of-location path None = refl
path_of-location path (Some key) = go (bytes_eq (location_path key) path) refl
  where
    go : (b : Bool) → bytes_eq (location_path key) path ≡ b → file_path (if b then Location key else Other path) ≡ path
    go true is = (bytes_eq-Decides (location_path key) path).0 is
    go false is = refl

pub file_path-file_of : (path : List ℕ) → file_path (file_of path) ≡ path
file_path-file_of path = go (kind_named path) refl
  where
    go : (o : Option LogKind) → kind_named path ≡ o → file_path (file_by path o) ≡ path
    go None is = path_of-location path (key_of_file (log_name path))
    go (Some kind) is = named_path path kind is

location_has : (path : List ℕ) (o : Option (List ℕ)) → IsLine path → ((key : List ℕ) → o ≡ Some key → IsKeyText key) → HasPath (location_of path o)
location_has path None line of = line
location_has path (Some key) line of = go (bytes_eq (location_path key) path)
  where
    go : (b : Bool) → HasPath (if b then Location key else Other path)
    go true = of key refl
    go false = line

pub file_has_path : FilesNameKeys → (path : List ℕ) → IsLine path → HasPath (file_of path)
file_has_path names path line = go (kind_named path) refl
  where
    go : (o : Option LogKind) → kind_named path ≡ o → HasPath (file_by path o)
    go None is = location_has path (key_of_file (log_name path)) line (λ key is. ((names (log_name path) key).0 is).0)
    go (Some kind) is = named_other path kind line is

-- no location log has the name of another log
pub apart : (key : List ℕ) (kind : LogKind) → file_name kind ≡ location_path key → ⊥
apart key kind same = no_location key (subst (λ (w : List ℕ). list_all not_slash w ≡ true) same (name_without_slash kind))

unnamed : (key : List ℕ) (kind : LogKind) → bytes_eq (file_name kind) (location_path key) ≡ false
unnamed key kind = go (bytes_eq (file_name kind) (location_path key)) refl
  where
    go : (b : Bool) → bytes_eq (file_name kind) (location_path key) ≡ b → b ≡ false
    go true is = absurd (apart key kind ((bytes_eq-Decides (file_name kind) (location_path key)).0 is))
    go false is = refl

pub file_of-location : FilesNameKeys → (key : List ℕ) → IsKeyText key → file_of (location_path key) ≡ Location key
file_of-location names key is =
    let kind : kind_named (location_path key) ≡ None = find_none (λ k. bytes_eq (file_name k) (location_path key)) named_kinds (Each-always (λ k. bytes_eq (file_name k) (location_path key) ≡ false) (unnamed key) named_kinds) in
    let found : key_of_file (log_name (location_path key)) ≡ Some key = (names (log_name (location_path key)) key).1 (is, log_name-path key) in
    let same : bytes_eq (location_path key) (location_path key) ≡ true = (bytes_eq-Decides (location_path key) (location_path key)).1 refl in
    ap (file_by (location_path key)) kind ∙ ap (location_of (location_path key)) found ∙ ap (λ (b : Bool). if b then Location key else Other (location_path key)) same

named_kind : (kind : LogKind) → kind ≢ kinds.Location → kind_named (file_name kind) ≡ Some kind
named_kind kinds.Location other = absurd (other refl)
named_kind kinds.Trust other = refl
named_kind kinds.Uuid other = refl
named_kind kinds.Group other = refl
named_kind kinds.Preferred other = refl
named_kind kinds.Required other = refl
named_kind kinds.GroupPreferred other = refl
named_kind kinds.Numcopies other = refl
named_kind kinds.Mincopies other = refl
named_kind kinds.NumcopiesPath other = refl
named_kind kinds.MincopiesPath other = refl

-- the kind that a name tells, or none but a location log's
abbrev or_location : Option LogKind → LogKind
or_location None = kinds.Location
or_location (Some kind) = kind

told_kind : (kind : LogKind) → or_location (kind_named (file_name kind)) ≡ kind
told_kind kinds.Location = refl
told_kind kinds.Trust = refl
told_kind kinds.Uuid = refl
told_kind kinds.Group = refl
told_kind kinds.Preferred = refl
told_kind kinds.Required = refl
told_kind kinds.GroupPreferred = refl
told_kind kinds.Numcopies = refl
told_kind kinds.Mincopies = refl
told_kind kinds.NumcopiesPath = refl
told_kind kinds.MincopiesPath = refl

-- two logs at one path are of one kind
pub kind_there : (file other : LogFile) (kind : LogKind) → file_path file ≡ file_path other → kind_of other ≡ Some kind → (kind_of file ≡ Some kind) ⊎ (kind_of file ≡ None)
kind_there (Other name) other kind same is = inr refl
kind_there (Location key) (Location other) kind same is = inl is
kind_there (Location key) (Of other) kind same is = absurd (apart key other (sym same))
kind_there (Of own) (Location other) kind same is = absurd (apart other own same)
kind_there (Of own) (Of other) kind same is = inl (ap Some (sym (told_kind own) ∙ ap (λ n. or_location (kind_named n)) same ∙ told_kind other) ∙ is)
kind_there file (Other name) kind same is = absurd (cc)

file_of-kind : (kind : LogKind) → kind ≢ kinds.Location → file_of (file_name kind) ≡ Of kind
file_of-kind kind other = ap (file_by (file_name kind)) (named_kind kind other)

-- a log file is read off its path again
pub file_of-file_path : FilesNameKeys → (file : LogFile) → HasPath file → kind_of file ≢ None → file_of (file_path file) ≡ file
file_of-file_path names (Location key) has known = file_of-location names key has
file_of-file_path names (Of kind) has known = file_of-kind kind has
file_of-file_path names (Other name) has known = absurd (known refl)

pub line_of_location : (r : Result (List ℕ) NoMemory) (file : LogFile) (key : List ℕ) → file ≡ Location key → IfOk r (λ path. path ≡ location_path key) → IfOk r (λ path. HasPath file → IsLine path)
line_of_location (Ok path) file key is at = λ has. subst (λ w. IsLine w) (sym at) (location_path_is_line key (subst HasPath is has))
line_of_location (Err e) file key is at = tt
