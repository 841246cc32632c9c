-- Reading a line: each function gives what stands in front and what follows it.
use Rattle.std.specs.Prelude.{ℕ, ◌+◌, ◌-◌, ◌==◌, Bool, true, false, nat_lt, nat_le, ◌&&◌, if◌then◌else◌, List, [], ◌∷◌, length, take, drop, Option, Some, None}
use Rattle.std.specs.Char.{is_ascii_digit}
use Rattle.std.specs.List.{list_all, position_or_len, suffix_len, starts_with, slice_split}
use Rattle.std.specs.Option.{is_some, option_map}
use Rattle.std.specs.Str.{is_utf8}
use Rattle.std.specs.Str.Parse.{digits_value}
use Rattle.annex_base.specs.Lines.{space, is_space, is_not_space, is_not_newline}
use Rattle.annex_base.specs.OptionSteps.{◌>>=◌}
use Rattle.annex_base.specs.RepoText.{repo_of}
use Rattle.annex_base.specs.StampReading.{stamp_of}
use Rattle.annex_base.specs.declared.kinds.Level.{Level}
use Rattle.annex_base.specs.declared.kinds.Level.TheVariants as levels
use Rattle.log_grammar.specs.declared.entry.LogKind.{LogKind}
use Rattle.log_grammar.specs.declared.entry.LogKind.TheVariants as kinds
use Rattle.log_grammar.specs.declared.entry.Topic.TheVariants as topics
use Rattle.log_grammar.specs.declared.entry.Value.{Value}
use Rattle.log_grammar.specs.declared.entry.Value.TheVariants as values
use Rattle.log_grammar.specs.declared.entry.Entry.{Entry}
use Rattle.log_grammar.specs.LineText.{is_group, stamp_mark}

-- what stands before the first space, and after it
unfoldable pub first_word : List ℕ → Option (List ℕ × List ℕ)
first_word line = let n = position_or_len is_space line in if nat_lt n (length line) then Some (take n line, drop (n + 1) line) else None

-- what stands before the last space, and after it
unfoldable pub last_word : List ℕ → Option (List ℕ × List ℕ)
last_word line =
    let n = suffix_len is_not_space line in
    if nat_lt n (length line) then Some (take (length line - n - 1) line, drop (length line - n) line) else None

-- what follows the mark of a stamp
unfoldable pub after_mark : List ℕ → Option (List ℕ)
after_mark word = if starts_with ◌==◌ word stamp_mark then Some (drop 10 word) else None

-- what stands before a last word with the mark of a stamp, and what follows the mark
unfoldable pub mark_at : List ℕ → Option (List ℕ × List ℕ)
mark_at line = last_word line >>= λ x. option_map (λ text. (x.0, text)) (after_mark x.1)

-- the line without its stamp, and the stamp that the mark announces
abbrev pub end_of : List ℕ → Option (List ℕ × List ℕ) → Option (List ℕ × Option ℕ)
end_of line None = Some (line, None)
end_of line (Some x) = option_map (λ time. (x.0, Some time)) (stamp_of x.1)

unfoldable pub stamp_end : List ℕ → Option (List ℕ × Option ℕ)
stamp_end line = end_of line (mark_at line)

-- the identifier in front
unfoldable pub repo_front : List ℕ → Option (List ℕ × List ℕ)
repo_front bytes = if nat_lt (length bytes) 36 then None else option_map (λ id. (id, drop 36 bytes)) (repo_of (take 36 bytes))

-- the identifier, what stands between it and the stamp, and the stamp
unfoldable pub repo_line : List ℕ → Option (List ℕ × List ℕ × Option ℕ)
repo_line line = do
  end ← stamp_end line
  repo ← repo_front end.0
  Some (repo.0, repo.1, end.1)

-- the stamp in front, and what follows its space
unfoldable pub stamp_front : List ℕ → Option (ℕ × List ℕ)
stamp_front line = do
  first ← first_word line
  time ← stamp_of first.0
  Some (time, first.1)

abbrev pub letter_status : ℕ → Option Value
letter_status letter =
    if letter == 49 then Some values.Present else
    (if letter == 48 then Some values.Absent else
    (if letter == 88 then Some values.Gone else None))

abbrev pub status_of : List ℕ → Option Value
status_of [] = None
status_of (letter ∷ []) = letter_status letter
status_of (letter ∷ other ∷ rest) = None

-- STAMP STATUS UUID
unfoldable pub location_of : List ℕ → Option Entry
location_of line = do
  begin ← stamp_front line
  word ← first_word begin.1
  status ← status_of word.0
  id ← repo_of word.1
  Some (record { topic = topics.Repo id; stamp = Some begin.0; value = status })

-- one to nine digits
unfoldable pub number_of : List ℕ → Option ℕ
number_of word =
    if nat_lt 0 (length word) && nat_le (length word) 9 && list_all is_ascii_digit word then Some (digits_value 10 word) else None

-- STAMP NUMBER
unfoldable pub copies_of : List ℕ → Option Entry
copies_of line = do
  begin ← stamp_front line
  number ← number_of begin.1
  Some (record { topic = topics.Whole; stamp = Some begin.0; value = values.Number number })

abbrev pub some_text : List ℕ → Option (List ℕ)
some_text [] = None
some_text (b ∷ bs) = Some (b ∷ bs)

-- the number in front, and what follows its space, which isn't empty
unfoldable pub number_and_rest : List ℕ → Option (ℕ × List ℕ)
number_and_rest bytes = do
  word ← first_word bytes
  number ← number_of word.0
  pattern ← some_text word.1
  Some (number, pattern)

-- STAMP NUMBER GLOB
unfoldable pub path_copies_of : List ℕ → Option Entry
path_copies_of line = do
  begin ← stamp_front line
  numbered ← number_and_rest begin.1
  Some (record { topic = topics.Pattern numbered.1; stamp = Some begin.0; value = values.Number numbered.0 })

abbrev pub letter_level : ℕ → Option Level
letter_level letter =
    if letter == 49 then Some levels.Trusted else
    (if letter == 63 then Some levels.Semitrusted else
    (if letter == 48 then Some levels.Untrusted else
    (if letter == 88 then Some levels.Dead else None)))

-- a space and a level's letter
abbrev pub level_body : List ℕ → Option Level
level_body [] = None
level_body (b ∷ []) = None
level_body (b ∷ letter ∷ []) = if b == space then letter_level letter else None
level_body (b ∷ letter ∷ other ∷ rest) = None

-- UUID S timestamp=STAMP
unfoldable pub trust_of : List ℕ → Option Entry
trust_of line = do
  parts ← repo_line line
  level ← level_body parts.1
  Some (record { topic = topics.Repo parts.0; stamp = parts.2; value = values.Level level })

-- what follows the space, or nothing
abbrev pub text_body : List ℕ → Option (List ℕ)
text_body [] = Some []
text_body (b ∷ bs) = if b == space then Some bs else None

-- UUID TEXT timestamp=STAMP
unfoldable pub text_of : List ℕ → Option Entry
text_of line = do
  parts ← repo_line line
  text ← text_body parts.1
  Some (record { topic = topics.Repo parts.0; stamp = parts.2; value = values.Text text })

-- the words, where each is a group
abbrev pub all_groups : List (List ℕ) → Option (List (List ℕ))
all_groups words = if list_all is_group words then Some words else None

-- the groups after the first space; where a stamp follows, there may be none
abbrev pub groups_after : Bool → List ℕ → Option (List (List ℕ))
groups_after false text = all_groups (slice_split is_space text)
groups_after true [] = Some []
groups_after true (b ∷ bs) = all_groups (slice_split is_space (b ∷ bs))

-- a space before each group
abbrev pub group_body : Bool → List ℕ → Option (List (List ℕ))
group_body stamped [] = Some []
group_body stamped (b ∷ bs) = if b == space then groups_after stamped bs else None

-- UUID GROUP GROUP .. timestamp=STAMP
unfoldable pub groups_of : List ℕ → Option Entry
groups_of line = do
  parts ← repo_line line
  names ← group_body (is_some parts.2) parts.1
  Some (record { topic = topics.Repo parts.0; stamp = parts.2; value = values.Groups names })

-- a group in front, and what follows it
unfoldable pub group_front : List ℕ → Option (List ℕ × List ℕ)
group_front bytes =
    let n = position_or_len is_space bytes in if is_group (take n bytes) then Some (take n bytes, drop n bytes) else None

-- STAMP GROUP TEXT
unfoldable pub group_text_of : List ℕ → Option Entry
group_text_of line = do
  begin ← stamp_front line
  named ← group_front begin.1
  text ← text_body named.1
  Some (record { topic = topics.Group named.0; stamp = Some begin.0; value = values.Text text })

abbrev pub form_of : LogKind → List ℕ → Option Entry
form_of kinds.Location line = location_of line
form_of kinds.Trust line = trust_of line
form_of kinds.Uuid line = text_of line
form_of kinds.Group line = groups_of line
form_of kinds.Preferred line = text_of line
form_of kinds.Required line = text_of line
form_of kinds.GroupPreferred line = group_text_of line
form_of kinds.Numcopies line = copies_of line
form_of kinds.Mincopies line = copies_of line
form_of kinds.NumcopiesPath line = path_copies_of line
form_of kinds.MincopiesPath line = path_copies_of line

-- UTF-8 without a newline, of at most 8,192 bytes
abbrev pub is_line_text : List ℕ → Bool
is_line_text line = nat_le (length line) 8192 && is_utf8 line && list_all is_not_newline line

-- what the line of this file says
unfoldable pub entry_of : LogKind → List ℕ → Option Entry
entry_of kind line = if is_line_text line then form_of kind line else None
