-- How lines of storms are written, and what they declare.
use Rattle.std.specs.Prelude.{ℕ, Bool, false, not, ◌==◌, ◌&&◌, nat_lt, List, [], ◌∷◌, map}
use Rattle.std.specs.List.{list_all, range_with_len}
use Rattle.script_forms.specs.declared.context.Repository.{Repository}
use Rattle.script_words.specs.Words.{quote}
use Rattle.storm_script.specs.Storm.{repo_word}
use Rattle.kept_copies.specs.Storms.{id_bytes}

-- a byte of ASCII that is no space, newline or other blank
abbrev pub is_visible : ℕ → Bool
is_visible b = nat_lt 32 b && nat_lt b 128

-- the word is written as it is: it isn't empty, has such bytes alone, and doesn't begin with a quote
abbrev pub is_plain : List ℕ → Bool
is_plain [] = false
is_plain (b ∷ bs) = not (b == quote) && list_all is_visible (b ∷ bs)

-- a repository of a storm
abbrev pub repo_declared : ℕ → Repository
repo_declared r = record { name = repo_word r; id = id_bytes r; offset = 0; version = 3; locks = nat_lt r 6 }

-- all eight
abbrev pub all_repos : List Repository
all_repos = map repo_declared (range_with_len 0 8)
