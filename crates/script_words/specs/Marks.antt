-- What follows a mark at the front of a word, as `text:` or `offset=`.
use Rattle.std.specs.Prelude.{ℕ, List, length, take, drop, Option, Some, None, bytes_eq, if◌then◌else◌}

-- what follows the mark, where the word begins with it
unfoldable pub behind_mark : List ℕ → List ℕ → Option (List ℕ)
behind_mark mark word = if bytes_eq (take (length mark) word) mark then Some (drop (length mark) word) else None
