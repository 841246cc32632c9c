-- What a log file still says when lines were added, merged and left out (git-annex internals: branch files).
use Rattle.std.specs.Prelude.{◌≡◌, ◌↔◌, ℕ, true, List, [], ◌++◌}
use Rattle.annex_base.specs.Lists.{Member, Each}
use Rattle.log_grammar.specs.declared.entry.LogKind.{LogKind}
use Rattle.log_grammar.specs.declared.entry.Entry.{Entry}
use Rattle.log_grammar.specs.LineText.{IsLine}
use Rattle.log_lines.specs.Newest.{is_older, current_lines}

-- a line among these says the entry
pub record Says (kind : LogKind) (lines : List (List ℕ)) (e : Entry) : Type 0 where
  pub line : List ℕ
  pub among : Member line lines
  pub says : IsLine kind line e

-- the line has an entry, and one of the lines has a newer one of its topic
pub record HasNewer (kind : LogKind) (lines : List (List ℕ)) (line : List ℕ) : Type 0 where
  pub entry : Entry
  pub later : Entry
  pub says : IsLine kind line entry
  pub said : Says kind lines later
  pub older : is_older entry later ≡ true

-- each line of the one is a line of the other
abbrev pub SameLines : List (List ℕ) → List (List ℕ) → Type 0
SameLines xs ys = (line : List ℕ) → Member line xs ↔ Member line ys

-- the lines that a file keeps, of all lines that were ever added to it or to a file that was merged into it (compaction
-- is own)
pub data Keeps (kind : LogKind) : List (List ℕ) → List (List ℕ) → Type 0 where
  Empty : Keeps kind [] []
  Add : (kept ever lines : List (List ℕ)) → Keeps kind kept ever → Keeps kind (kept ++ lines) (ever ++ lines)
  AddAgain : (kept ever lines : List (List ℕ)) → Each (λ line. Member line ever) lines → Keeps kind kept ever → Keeps kind (kept ++ lines) ever
  Merge : (kept ever others all : List (List ℕ)) → Keeps kind kept ever → Keeps kind others all → Keeps kind (kept ++ others) (ever ++ all)
  Arrange : (kept ever arranged : List (List ℕ)) → SameLines kept arranged → Keeps kind kept ever → Keeps kind arranged ever
  Compact : (kept ever : List (List ℕ)) → Keeps kind kept ever → Keeps kind (current_lines kind kept) ever
