-- What lines show of a branch (own): its files, who is claimed to have a key, numbers of copies, levels and groups.
use Rattle.std.specs.Prelude.{ℕ, List, [], ◌∷◌, ◌++◌, length, filter, map, codes, not, bytes_eq, Option, Some, None}
use Rattle.std.specs.List.{list_any}
use Rattle.std.specs.Fmt.{decimal}
use Rattle.run_data.specs.declared.run.Run.{Run}
use Rattle.run_data.specs.declared.run.RepoView.{RepoView}
use Rattle.annex_base.specs.RepoText.{repo_text}
use Rattle.annex_base.specs.Settings.{Settings}
use Rattle.glob_match.specs.Numbers.{mincopies_of, numcopies_of}
use Rattle.union_merge.specs.LineSet.{text_of}
use Rattle.run_data.specs.Repos.{id_of}
use Rattle.script_words.specs.Fields.{level_word}
use Rattle.script_words.specs.Words.{printed_word}
use Rattle.run_text.specs.Words.{joined_text}
use Rattle.run_text.specs.Names.{name_of}
use Rattle.run_text.specs.Jobs.{key_text}
use Rattle.script_commands.specs.declared.command.NamedKey.{NamedKey}

-- repositories by their names, in order of number, and after them identifiers that no repository of the run has, in
-- byte order
abbrev pub names_of_ids : List RepoView → List (List ℕ) → List (List ℕ)
names_of_ids repos ids =
    map (λ repo. repo.name) (filter (λ repo. list_any (λ id. bytes_eq id repo.id) ids) repos)
    ++ map repo_text (filter (λ id. not (list_any (λ repo. bytes_eq id repo.id) repos)) ids)

-- how many lines, and the lines
abbrev pub lines_text : List (List ℕ) → List ℕ
lines_text lines = decimal (length lines) ++ codes "\n" ++ text_of lines

-- a key as a line named it
abbrev pub named_text : NamedKey → List ℕ
named_text k = key_text k.key k.path

-- a file of the branch of a repository
abbrev pub log_text : Run → ℕ → List ℕ → List (List ℕ) → List ℕ
log_text run r path lines = codes "log " ++ name_of run.repos r ++ codes " " ++ printed_word path ++ codes " " ++ lines_text lines

abbrev pub location_text : Run → ℕ → NamedKey → List (List ℕ) → List ℕ
location_text run r k lines = codes "location " ++ name_of run.repos r ++ codes " " ++ named_text k ++ codes " " ++ lines_text lines

abbrev pub numbers_text : Run → ℕ → Settings → List ℕ
numbers_text run r s = codes "numbers " ++ name_of run.repos r ++ codes " " ++ decimal s.numcopies ++ codes " " ++ decimal s.mincopies ++ codes "\n"

-- those of the contents with this one path
abbrev pub numbers_at_text : Run → ℕ → List ℕ → ℕ → ℕ → List ℕ
numbers_at_text run r path n m = codes "numbers " ++ name_of run.repos r ++ codes " " ++ printed_word path ++ codes " " ++ decimal n ++ codes " " ++ decimal m ++ codes "\n"

abbrev pub path_numbers_text : Run → ℕ → List ℕ → Settings → List ℕ
path_numbers_text run r path s = numbers_at_text run r path (numcopies_of s (path ∷ [])) (mincopies_of s (path ∷ []))

-- those of a path, or of all contents
abbrev pub numbers_for : Run → ℕ → Option (List ℕ) → Settings → List ℕ
numbers_for run r None s = numbers_text run r s
numbers_for run r (Some path) s = path_numbers_text run r path s

abbrev pub trust_text : Run → ℕ → ℕ → Settings → List ℕ
trust_text run r target s =
    codes "level " ++ name_of run.repos r ++ codes " " ++ name_of run.repos target ++ codes " " ++ level_word (s.level (id_of run.repos target))
    ++ codes " groups=" ++ joined_text 44 (λ group. group) (s.groups (id_of run.repos target)) ++ codes "\n"

abbrev pub claims_text : Run → ℕ → NamedKey → List (List ℕ) → List ℕ
claims_text run r k ids = codes "claims " ++ name_of run.repos r ++ codes " " ++ named_text k ++ codes " " ++ joined_text 32 (λ word. word) (names_of_ids run.repos ids) ++ codes "\n"
