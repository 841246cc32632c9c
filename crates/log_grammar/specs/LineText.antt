-- What the lines of the log files say (git-annex internals: location log, trust.log and the other log files).
use Rattle.std.specs.Prelude.{◌≡◌, ◌⊎◌, ℕ, ◌<◌, ◌≤◌, Bool, true, false, not, ◌&&◌, if◌then◌else◌, IsTrue, List, [], ◌∷◌, ◌++◌, length, Option, Some, None, Contains, codes, flat_map}
use Rattle.std.specs.Char.{is_ascii_digit, is_ascii_control}
use Rattle.std.specs.List.{AllPass, list_all}
use Rattle.std.specs.Fmt.{decimal}
use Rattle.std.specs.Str.{IsUtf8}
use Rattle.std.specs.Str.Parse.{digits_value}
use Rattle.annex_base.specs.Lines.{newline, space, is_not_space}
use Rattle.annex_base.specs.RepoText.{IsId, repo_text}
use Rattle.annex_base.specs.StampText.{IsStamp, stamp_text}
use Rattle.annex_base.specs.declared.kinds.Level.{Level}
use Rattle.annex_base.specs.declared.kinds.Level.TheVariants as levels
use Rattle.log_grammar.specs.declared.entry.LogKind.{LogKind}
use Rattle.log_grammar.specs.declared.entry.LogKind.TheVariants as kinds
use Rattle.log_grammar.specs.declared.entry.Topic.{Topic}
use Rattle.log_grammar.specs.declared.entry.Topic.TheVariants as topics
use Rattle.log_grammar.specs.declared.entry.Value.{Value}
use Rattle.log_grammar.specs.declared.entry.Value.TheVariants as values
use Rattle.log_grammar.specs.declared.entry.Entry.{Entry}

-- UTF-8 without a newline, of at most 8,192 bytes (the limit is own)
pub record IsLineText (line : List ℕ) : Type 0 where
  pub short : length line ≤ 8192
  pub utf8 : IsUtf8 line
  pub single : ¬ Contains line newline

-- no byte is a space
abbrev pub IsWord : List ℕ → Type 0
IsWord word = IsTrue (list_all is_not_space word)

-- a group's name has neither spaces nor control bytes, and isn't empty (which bytes it has is own)
abbrev pub is_group_byte : ℕ → Bool
is_group_byte b = not (is_ascii_control b) && is_not_space b

abbrev pub is_group : List ℕ → Bool
is_group [] = false
is_group (b ∷ bs) = list_all is_group_byte (b ∷ bs)

-- what comes before the stamp in a last word
abbrev pub stamp_mark : List ℕ
stamp_mark = codes "timestamp="

-- the line ends with a space and a word that begins like a stamp's
pub record EndsMarked (line : List ℕ) : Type 0 where
  pub front : List ℕ
  pub rest : List ℕ
  pub spelled : line ≡ front ++ (space ∷ (stamp_mark ++ rest))
  pub word : IsWord rest

-- the line is a stamp, a space and the rest
pub record BeginsStamped (line : List ℕ) (time : ℕ) (rest : List ℕ) : Type 0 where
  pub stamp : List ℕ
  pub is : IsStamp stamp time
  pub spelled : line ≡ stamp ++ (space ∷ rest)

-- the line is a front, a space and the stamp's word
pub record EndsStamped (line front : List ℕ) (time : ℕ) : Type 0 where
  pub stamp : List ℕ
  pub is : IsStamp stamp time
  pub spelled : line ≡ front ++ (space ∷ (stamp_mark ++ stamp))

-- the line is this front and its stamp; without a stamp it is the front alone, whose last word doesn't begin like one
abbrev pub Ends : List ℕ → List ℕ → Option ℕ → Type 0
Ends line front (Some time) = EndsStamped line front time
Ends line front None = (¬ EndsMarked line) × (line ≡ front)

-- the letter of a location log: 1, 0 or X
abbrev pub IsStatus : Value → ℕ → Type 0
IsStatus values.Present letter = codes "1" ≡ letter ∷ []
IsStatus values.Absent letter = codes "0" ≡ letter ∷ []
IsStatus values.Gone letter = codes "X" ≡ letter ∷ []
IsStatus v letter = ⊥

-- the letter of trust.log: 1, ?, 0 or X
abbrev pub level_letter : Level → List ℕ
level_letter levels.Trusted = codes "1"
level_letter levels.Semitrusted = codes "?"
level_letter levels.Untrusted = codes "0"
level_letter levels.Dead = codes "X"

-- STAMP STATUS UUID
pub record IsLocationLine (line : List ℕ) (e : Entry) : Type 0 where
  pub time : ℕ
  pub letter : ℕ
  pub id : List ℕ
  pub begins : BeginsStamped line time (letter ∷ space ∷ repo_text id)
  pub status : IsStatus e.value letter
  pub repo : IsId id
  pub topic : e.topic ≡ topics.Repo id
  pub at : e.stamp ≡ Some time

-- UUID and a body, and timestamp=STAMP where the entry has a stamp
pub record IsRepoLine (IsBody : Value → List ℕ → Type 0) (line : List ℕ) (e : Entry) : Type 0 where
  pub id : List ℕ
  pub body : List ℕ
  pub ends : Ends line (repo_text id ++ body) e.stamp
  pub repo : IsId id
  pub says : IsBody e.value body
  pub topic : e.topic ≡ topics.Repo id

-- a space and the level's letter
abbrev pub IsLevelBody : Value → List ℕ → Type 0
IsLevelBody (values.Level l) body = body ≡ space ∷ level_letter l
IsLevelBody v body = ⊥

-- a space and the text; nothing also stands for the empty text
abbrev pub IsTextBody : Value → List ℕ → Type 0
IsTextBody (values.Text t) body = (body ≡ space ∷ t) ⊎ ((t ≡ []) × (body ≡ []))
IsTextBody v body = ⊥

-- a space before each group
abbrev pub IsGroupBody : Value → List ℕ → Type 0
IsGroupBody (values.Groups gs) body = IsTrue (list_all is_group gs) × (body ≡ flat_map (λ g. space ∷ g) gs)
IsGroupBody v body = ⊥

-- UUID, two spaces and timestamp=STAMP: no group, as git-annex writes it after the last one is left
pub record IsUngroupedLine (line : List ℕ) (e : Entry) : Type 0 where
  pub id : List ℕ
  pub time : ℕ
  pub ends : EndsStamped line (repo_text id ++ (space ∷ [])) time
  pub repo : IsId id
  pub topic : e.topic ≡ topics.Repo id
  pub at : e.stamp ≡ Some time
  pub none : e.value ≡ values.Groups []

abbrev pub IsGroupLine : List ℕ → Entry → Type 0
IsGroupLine line e = IsRepoLine IsGroupBody line e ⊎ IsUngroupedLine line e

-- STAMP GROUP and a body
pub record IsGroupTextLine (line : List ℕ) (e : Entry) : Type 0 where
  pub time : ℕ
  pub group : List ℕ
  pub body : List ℕ
  pub begins : BeginsStamped line time (group ++ body)
  pub named : IsTrue (is_group group)
  pub says : IsTextBody e.value body
  pub topic : e.topic ≡ topics.Group group
  pub at : e.stamp ≡ Some time

-- one to nine digits (the limit is own), and the number that they write
abbrev pub IsNumber : Value → List ℕ → Type 0
IsNumber (values.Number n) digits = (0 < length digits) × (length digits ≤ 9) × AllPass is_ascii_digit digits × (n ≡ digits_value 10 digits)
IsNumber v digits = ⊥

-- STAMP NUMBER
pub record IsNumberLine (line : List ℕ) (e : Entry) : Type 0 where
  pub time : ℕ
  pub digits : List ℕ
  pub begins : BeginsStamped line time digits
  pub says : IsNumber e.value digits
  pub topic : e.topic ≡ topics.Whole
  pub at : e.stamp ≡ Some time

-- STAMP NUMBER GLOB: the pattern is the rest of the line, and isn't empty (own)
pub record IsPathNumberLine (line : List ℕ) (e : Entry) : Type 0 where
  pub time : ℕ
  pub digits : List ℕ
  pub pattern : List ℕ
  pub begins : BeginsStamped line time (digits ++ (space ∷ pattern))
  pub says : IsNumber e.value digits
  pub some : 0 < length pattern
  pub topic : e.topic ≡ topics.Pattern pattern
  pub at : e.stamp ≡ Some time

-- the form of the lines of each file (git-annex internals: location log, trust.log, uuid.log, group.log,
-- preferred-content.log, required-content.log, group-preferred-content.log, numcopies.log, mincopies.log)
abbrev pub HasForm : LogKind → List ℕ → Entry → Type 0
HasForm kinds.Location = IsLocationLine
HasForm kinds.Trust = IsRepoLine IsLevelBody
HasForm kinds.Uuid = IsRepoLine IsTextBody
HasForm kinds.Group = IsGroupLine
HasForm kinds.Preferred = IsRepoLine IsTextBody
HasForm kinds.Required = IsRepoLine IsTextBody
HasForm kinds.GroupPreferred = IsGroupTextLine
HasForm kinds.Numcopies = IsNumberLine
HasForm kinds.Mincopies = IsNumberLine
HasForm kinds.NumcopiesPath = IsPathNumberLine
HasForm kinds.MincopiesPath = IsPathNumberLine

-- the line is in the grammar of this file, and says this
pub record IsLine (kind : LogKind) (line : List ℕ) (e : Entry) : Type 0 where
  pub text : IsLineText line
  pub form : HasForm kind line e

-- a line says one thing at most
abbrev pub OneEntry : Type 0
OneEntry = (kind : LogKind) (line : List ℕ) (e e' : Entry) → IsLine kind line e → IsLine kind line e' → e ≡ e'

-- the entry has a line in this file
pub record HasLine (kind : LogKind) (e : Entry) : Type 0 where
  pub line : List ℕ
  pub is : IsLine kind line e

-- ---- the line that is written

abbrev pub topic_text : Topic → List ℕ
topic_text (topics.Repo id) = repo_text id
topic_text (topics.Group name) = name
topic_text topics.Whole = []
topic_text (topics.Pattern glob) = glob

-- a space before each group; the other values have none
abbrev pub value_text : Value → List ℕ
value_text values.Present = codes "1"
value_text values.Absent = codes "0"
value_text values.Gone = codes "X"
value_text (values.Level l) = level_letter l
value_text (values.Text t) = t
value_text (values.Groups gs) = flat_map (λ g. space ∷ g) gs
value_text (values.Number n) = decimal n

abbrev pub is_groups : Value → Bool
is_groups (values.Groups gs) = true
is_groups v = false

-- the value after a topic: a text that is empty keeps its space
abbrev pub spaced_value : Value → List ℕ
spaced_value v = if is_groups v then value_text v else (space ∷ value_text v)

-- a stamp that stands first, and one that stands last
abbrev pub stamp_first : Option ℕ → List ℕ
stamp_first None = []
stamp_first (Some time) = stamp_text time ++ (space ∷ [])

abbrev pub stamp_last : Option ℕ → List ℕ
stamp_last None = []
stamp_last (Some time) = (space ∷ stamp_mark) ++ stamp_text time

-- a stamp, a value and a topic
abbrev pub spaced_text : Entry → List ℕ
spaced_text e = stamp_first e.stamp ++ value_text e.value ++ (space ∷ []) ++ topic_text e.topic

abbrev pub repo_line_text : Entry → List ℕ
repo_line_text e = topic_text e.topic ++ spaced_value e.value ++ stamp_last e.stamp

abbrev pub group_line_text : Entry → List ℕ
group_line_text e = stamp_first e.stamp ++ topic_text e.topic ++ spaced_value e.value

abbrev pub number_line_text : Entry → List ℕ
number_line_text e = stamp_first e.stamp ++ value_text e.value

-- the line that is written for the entry
abbrev pub line_text : LogKind → Entry → List ℕ
line_text kinds.Location = spaced_text
line_text kinds.Trust = repo_line_text
line_text kinds.Uuid = repo_line_text
line_text kinds.Group = repo_line_text
line_text kinds.Preferred = repo_line_text
line_text kinds.Required = repo_line_text
line_text kinds.GroupPreferred = group_line_text
line_text kinds.Numcopies = number_line_text
line_text kinds.Mincopies = number_line_text
line_text kinds.NumcopiesPath = spaced_text
line_text kinds.MincopiesPath = spaced_text
