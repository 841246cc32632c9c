-- Which words a line has, by how they are written (own).
use Rattle.std.specs.Prelude.{◌≡◌, ◌≢◌, ℕ, ◌+◌, Bool, true, false, ◌==◌, List, [], ◌∷◌, ◌++◌, length, drop}
use Rattle.std.specs.List.{list_all}
use Rattle.std.specs.Str.{is_utf8}
use Rattle.annex_base.specs.Lines.{is_space, is_not_space}
use Rattle.script_words.specs.Places.{LineWord}
use Rattle.script_words.specs.Words.{quote, is_not_quote, is_break}

abbrev pub begins_quoted : List ℕ → Bool
begins_quoted [] = false
begins_quoted (b ∷ bytes) = b == quote

-- how a word is written: as it is, where it has no space and doesn't begin with a quote, or between quotes, where it has none
pub data Spells : List ℕ → List ℕ → Type 0 where
  Plain : (text : List ℕ) → text ≢ [] → begins_quoted text ≡ false → list_all is_not_space text ≡ true → Spells text text
  Quoted : (text : List ℕ) → list_all is_not_quote text ≡ true → Spells (quote ∷ text ++ quote ∷ []) text

-- the word stands next behind the place: only spaces are between, and a space or the line's end follows it
pub record IsNext (line : List ℕ) (place : ℕ) (word : LineWord) : Type 0 where
  pub spaces : List ℕ
  pub spelled : List ℕ
  pub rest : List ℕ
  pub goes_on : drop place line ≡ spaces ++ (spelled ++ rest)
  pub spaces_are : list_all is_space spaces ≡ true
  pub spelling : Spells spelled word.text
  pub utf8 : is_utf8 word.text ≡ true
  pub ends : is_break rest ≡ true
  pub begins_at : word.place ≡ place + length spaces
  pub ends_at : word.after ≡ word.place + length spelled

-- only spaces stand behind the place
abbrev pub IsBlank : List ℕ → ℕ → Type 0
IsBlank line place = list_all is_space (drop place line) ≡ true
