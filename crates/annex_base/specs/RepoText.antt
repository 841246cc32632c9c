-- The lower-case hyphenated text of an identifier (RFC 9562).
use Rattle.std.specs.Prelude.{◌≡◌, ℕ, ◌<◌, List, length, All, Option, Some, None, if◌then◌else◌}
use Rattle.std.specs.Str.{bytes_eq}
use Rattle.uuid.specs.Text.{parsed, hyphenated_text, lower}
use Rattle.annex_base.specs.OptionSteps.{◌>>=◌}

-- sixteen bytes
abbrev pub IsId : List ℕ → Type 0
IsId id = (length id ≡ 16) × All (λ b. b < 256) id

-- the text of sixteen bytes
abbrev pub repo_text : List ℕ → List ℕ
repo_text id = hyphenated_text lower id

-- the identifier that a text spells: what parses from it, where that is written so
unfoldable pub repo_of : List ℕ → Option (List ℕ)
repo_of text = parsed text >>= λ id. if bytes_eq text (repo_text id) then Some id else None
