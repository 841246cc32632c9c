-- Lines of log files, read, written and taken together, as git-annex has them or as worked out by hand (by computation).
-- A stamp counts nanoseconds.
use Rattle.std.specs.Prelude.{◌≡◌, refl, ℕ, Bool, true, false, List, [], ◌∷◌, ◌++◌, map, replicate, Option, Some, None, option_map, codes}
use Rattle.std.specs.List.{slice_split}
use Rattle.annex_base.specs.Lines.{is_newline}
use Rattle.annex_base.specs.declared.kinds.Level.TheVariants as levels
use Rattle.log_lines.specs.declared.entry.Entry.{Entry}
use Rattle.log_lines.specs.declared.entry.LogKind.{LogKind}
use Rattle.log_lines.specs.declared.entry.LogKind.TheVariants as kinds
use Rattle.log_lines.specs.declared.entry.Topic.{Topic}
use Rattle.log_lines.specs.declared.entry.Topic.TheVariants as topics
use Rattle.log_lines.specs.declared.entry.Value.{Value}
use Rattle.log_lines.specs.declared.entry.Value.TheVariants as values
use Rattle.log_lines.specs.Files.{file_name, kind_named}
use Rattle.log_lines.specs.LineText.{line_text}
use Rattle.log_lines.specs.Newest.{current_lines, has_outdated, newest, newest_of, next_stamp}
use Rattle.log_lines.specs.Reading.{entry_of}
use Rattle.union_merge.specs.LineSet.{text_of}
use Rattle.text_claims.proofs.Cases.{Answers}
use Rattle.text_claims.proofs.Opened.{opened, repo}

abbrev said : Topic → Option ℕ → Value → Option Entry
said topic stamp value = Some (record { topic = topic; stamp = stamp; value = value })

-- of the repository 2
abbrev two : Option ℕ → Value → Option Entry
two stamp value = said (topics.Repo (repo 2)) stamp value

-- ---- the kind of the log file of a name, and its name (git-annex internals)

abbrev named_cases : List (List ℕ × Option LogKind)
named_cases =
    (codes "trust.log", Some kinds.Trust)
    ∷ (codes "uuid.log", Some kinds.Uuid)
    ∷ (codes "group.log", Some kinds.Group)
    ∷ (codes "preferred-content.log", Some kinds.Preferred)
    ∷ (codes "required-content.log", Some kinds.Required)
    ∷ (codes "group-preferred-content.log", Some kinds.GroupPreferred)
    ∷ (codes "numcopies.log", Some kinds.Numcopies)
    ∷ (codes "mincopies.log", Some kinds.Mincopies)
    ∷ ([], None)
    ∷ (codes "trust", None)
    ∷ (codes "remote.log", None)
    ∷ (codes "975/c65/WORM-s3--abc.log", None)
    ∷ []

named : Answers kind_named named_cases
unfolding opened
named = refl

abbrev name_cases : List (LogKind × List ℕ)
name_cases =
    (kinds.Trust, codes "trust.log")
    ∷ (kinds.Uuid, codes "uuid.log")
    ∷ (kinds.Group, codes "group.log")
    ∷ (kinds.Preferred, codes "preferred-content.log")
    ∷ (kinds.Required, codes "required-content.log")
    ∷ (kinds.GroupPreferred, codes "group-preferred-content.log")
    ∷ (kinds.Numcopies, codes "numcopies.log")
    ∷ (kinds.Mincopies, codes "mincopies.log")
    ∷ []

names : Answers file_name name_cases
unfolding opened
names = refl

-- ---- what a line says

-- lines of location logs; the first ten as git-annex reads them
abbrev location_cases : List (List ℕ × Option Entry)
location_cases =
    (codes "1 1 22222222-2222-4222-8222-222222222222", two (Some 1000000000) values.Present)
    ∷ (codes "9999999999.999999999s 1 22222222-2222-4222-8222-222222222222", two (Some 9999999999999999999) values.Present)
    ∷ (codes "1700000000.5.5s 1 22222222-2222-4222-8222-222222222222", None)
    ∷ (codes "1700000000s 2 22222222-2222-4222-8222-222222222222", None)
    ∷ (codes " 1700000000s 1 22222222-2222-4222-8222-222222222222", None)
    ∷ (codes "1700000000s  1  22222222-2222-4222-8222-222222222222", None)
    ∷ (codes "hello", None)
    ∷ (codes "1 22222222-2222-4222-8222-222222222222 1700000000s", None)
    ∷ (codes "1700000000.5s 0 22222222-2222-4222-8222-222222222222", two (Some 1700000000500000000) values.Absent)
    ∷ (codes "1700000000.0000000001s X 22222222-2222-4222-8222-222222222222", two (Some 1700000000000000000) values.Gone)
    ∷ (codes "1 22222222-2222-4222-8222-222222222222", None)
    ∷ (codes "1s x 22222222-2222-4222-8222-222222222222", None)
    ∷ (codes "1s 11 22222222-2222-4222-8222-222222222222", None)
    ∷ (codes "1s  22222222-2222-4222-8222-222222222222", None)
    ∷ (codes "1s 1 22222222-2222-4222-8222-22222222222", None)
    ∷ (codes "1s 1 22222222-2222-4222-8222-222222222222 ", None)
    ∷ (codes "1s 1 ABCDEF22-2222-4222-8222-222222222222", None)
    ∷ (codes "1s" ++ 9 ∷ codes "1 22222222-2222-4222-8222-222222222222", None)
    ∷ (codes "1s 1 22222222-2222-4222-8222-222222222222\n", None)
    ∷ (codes "1s 1", None)
    ∷ (codes "1s", None)
    ∷ ([], None)
    ∷ []

locations : Answers (entry_of kinds.Location) location_cases
unfolding opened
locations = refl

-- levels of trust; the first five as git-annex reads them
abbrev level_cases : List (List ℕ × Option Entry)
level_cases =
    (codes "22222222-2222-4222-8222-222222222222 0 timestamp=1700000000s", two (Some 1700000000000000000) (values.Level levels.Untrusted))
    ∷ (codes "22222222-2222-4222-8222-222222222222 1", two None (values.Level levels.Trusted))
    ∷ (codes "22222222-2222-4222-8222-222222222222 1 1 timestamp=1700000000s", None)
    ∷ (codes "22222222-2222-4222-8222-222222222222 0 timestamp=", None)
    ∷ (codes "22222222-2222-4222-8222-222222222222 timestamp=1700000000s 0", None)
    ∷ (codes "22222222-2222-4222-8222-222222222222 ? timestamp=1.25", two (Some 1250000000) (values.Level levels.Semitrusted))
    ∷ (codes "22222222-2222-4222-8222-222222222222 X timestamp=1s", two (Some 1000000000) (values.Level levels.Dead))
    ∷ (codes "22222222-2222-4222-8222-222222222222 X", two None (values.Level levels.Dead))
    ∷ (codes "22222222-2222-4222-8222-222222222222 timestamp=1s", None)
    ∷ (codes "22222222-2222-4222-8222-222222222222  timestamp=1s", None)
    ∷ (codes "22222222-2222-4222-8222-222222222222  1 timestamp=1s", None)
    ∷ (codes "22222222-2222-4222-8222-222222222222 1  timestamp=1s", None)
    ∷ (codes "22222222-2222-4222-8222-222222222222 1 timestamp=1s ", None)
    ∷ (codes "22222222-2222-4222-8222-222222222222 11", None)
    ∷ (codes "22222222-2222-4222-8222-222222222222 ", None)
    ∷ (codes "22222222-2222-4222-8222-222222222222", None)
    ∷ (codes "2222222-2222-4222-8222-222222222222 1", None)
    ∷ (codes "timestamp=1s", None)
    ∷ []

trust : Answers (entry_of kinds.Trust) level_cases
unfolding opened
trust = refl

-- descriptions and content expressions; the first seven of each file as git-annex reads them
abbrev text_cases : List (List ℕ × Option Entry)
text_cases =
    (codes "22222222-2222-4222-8222-222222222222  timestamp=1700000000s", two (Some 1700000000000000000) (values.Text []))
    ∷ (codes "22222222-2222-4222-8222-222222222222", two None (values.Text []))
    ∷ (codes "22222222-2222-4222-8222-222222222222   timestamp=1700000000s", two (Some 1700000000000000000) (values.Text (codes " ")))
    ∷ (codes "22222222-2222-4222-8222-222222222222 timestamp=1700000000s", two (Some 1700000000000000000) (values.Text []))
    ∷ (codes "22222222-2222-4222-8222-222222222222 present   timestamp=1700000000s", two (Some 1700000000000000000) (values.Text (codes "present  ")))
    ∷ (codes "22222222-2222-4222-8222-222222222222 a" ++ 9 ∷ codes "b timestamp=1700000000s", two (Some 1700000000000000000) (values.Text (codes "a" ++ 9 ∷ codes "b")))
    ∷ (codes "22222222-2222-4222-8222-222222222222 present timestamp=x", None)
    ∷ (codes "22222222-2222-4222-8222-222222222222 ", two None (values.Text []))
    ∷ (codes "22222222-2222-4222-8222-222222222222 my disk", two None (values.Text (codes "my disk")))
    ∷ (codes "22222222-2222-4222-8222-222222222222 my disk ", two None (values.Text (codes "my disk ")))
    ∷ (codes "22222222-2222-4222-8222-222222222222 " ++ 195 ∷ 169 ∷ codes " timestamp=1s", two (Some 1000000000) (values.Text (195 ∷ 169 ∷ [])))
    ∷ (codes "22222222-2222-4222-8222-222222222222 timestamp=x timestamp=1s", two (Some 1000000000) (values.Text (codes "timestamp=x")))
    ∷ (codes "22222222-2222-4222-8222-222222222222 timestamp=1s x", two None (values.Text (codes "timestamp=1s x")))
    ∷ (codes "22222222-2222-4222-8222-222222222222 timestamp=1s ", two None (values.Text (codes "timestamp=1s ")))
    ∷ (codes "22222222-2222-4222-8222-222222222222 timestamp=", None)
    ∷ (codes "22222222-2222-4222-8222-222222222222 a timestamp=12345678901s", None)
    ∷ (codes "22222222-2222-4222-8222-222222222222-", None)
    ∷ (codes "22222222-2222-4222-8222-2222222222222 a", None)
    ∷ (codes "22222222-2222-4222-8222-222222222222\na", None)
    ∷ (codes "22222222-2222-4222-8222-22222222222A a", None)
    ∷ ([], None)
    ∷ []

descriptions : Answers (entry_of kinds.Uuid) text_cases
unfolding opened
descriptions = refl

preferred : Answers (entry_of kinds.Preferred) text_cases
unfolding opened
preferred = refl

required : Answers (entry_of kinds.Required) text_cases
unfolding opened
required = refl

-- groups of repositories; the first two as git-annex reads them, the third as it writes the line when the last group is
-- left
abbrev group_cases : List (List ℕ × Option Entry)
group_cases =
    (codes "22222222-2222-4222-8222-222222222222 timestamp=5 timestamp=1700000000s", two (Some 1700000000000000000) (values.Groups (codes "timestamp=5" ∷ [])))
    ∷ (codes "22222222-2222-4222-8222-222222222222 b a timestamp=1700000000s", two (Some 1700000000000000000) (values.Groups (codes "b" ∷ codes "a" ∷ [])))
    ∷ (codes "22222222-2222-4222-8222-222222222222  timestamp=1700000000s", two (Some 1700000000000000000) (values.Groups []))
    ∷ (codes "22222222-2222-4222-8222-222222222222 b a", two None (values.Groups (codes "b" ∷ codes "a" ∷ [])))
    ∷ (codes "22222222-2222-4222-8222-222222222222 a a timestamp=1s", two (Some 1000000000) (values.Groups (codes "a" ∷ codes "a" ∷ [])))
    ∷ (codes "22222222-2222-4222-8222-222222222222 timestamp=1s", two (Some 1000000000) (values.Groups []))
    ∷ (codes "22222222-2222-4222-8222-222222222222", two None (values.Groups []))
    ∷ (codes "22222222-2222-4222-8222-222222222222 " ++ 195 ∷ 169 ∷ codes "~! timestamp=1s", two (Some 1000000000) (values.Groups ((195 ∷ 169 ∷ codes "~!") ∷ [])))
    ∷ (codes "22222222-2222-4222-8222-222222222222 ", None)
    ∷ (codes "22222222-2222-4222-8222-222222222222  ", None)
    ∷ (codes "22222222-2222-4222-8222-222222222222   timestamp=1s", None)
    ∷ (codes "22222222-2222-4222-8222-222222222222  a", None)
    ∷ (codes "22222222-2222-4222-8222-222222222222 a  b", None)
    ∷ (codes "22222222-2222-4222-8222-222222222222 a timestamp=x", None)
    ∷ (codes "22222222-2222-4222-8222-222222222222 a" ++ 9 ∷ codes "b", None)
    ∷ (codes "22222222-2222-4222-8222-222222222222 a" ++ 127 ∷ [], None)
    ∷ (codes "22222222-2222-4222-8222-222222222222,a", None)
    ∷ []

groups : Answers (entry_of kinds.Group) group_cases
unfolding opened
groups = refl

-- content expressions of groups; the first as git-annex reads it
abbrev group_text_cases : List (List ℕ × Option Entry)
group_text_cases =
    (codes "1700000000s timestamp=5 present", said (topics.Group (codes "timestamp=5")) (Some 1700000000000000000) (values.Text (codes "present")))
    ∷ (codes "1s archive ", said (topics.Group (codes "archive")) (Some 1000000000) (values.Text []))
    ∷ (codes "1s archive", said (topics.Group (codes "archive")) (Some 1000000000) (values.Text []))
    ∷ (codes "1s archive  a b ", said (topics.Group (codes "archive")) (Some 1000000000) (values.Text (codes " a b ")))
    ∷ (codes "1s archive a timestamp=x", said (topics.Group (codes "archive")) (Some 1000000000) (values.Text (codes "a timestamp=x")))
    ∷ (codes "archive present", None)
    ∷ (codes "1s", None)
    ∷ (codes "1s ", None)
    ∷ (codes "1s  present", None)
    ∷ (codes "1s a" ++ 9 ∷ codes "b present", None)
    ∷ ([], None)
    ∷ []

group_preferred : Answers (entry_of kinds.GroupPreferred) group_text_cases
unfolding opened
group_preferred = refl

-- numbers of copies; the first five of each file as git-annex reads them
abbrev number_cases : List (List ℕ × Option Entry)
number_cases =
    (codes "1700000000s 0", said topics.Whole (Some 1700000000000000000) (values.Number 0))
    ∷ (codes "1700000000s 3", said topics.Whole (Some 1700000000000000000) (values.Number 3))
    ∷ (codes "1700000001s x", None)
    ∷ (codes "1700000000s 999999999", said topics.Whole (Some 1700000000000000000) (values.Number 999999999))
    ∷ (codes "1700000000.25s 3", said topics.Whole (Some 1700000000250000000) (values.Number 3))
    ∷ (codes "1s 7", said topics.Whole (Some 1000000000) (values.Number 7))
    ∷ (codes "1s 07", said topics.Whole (Some 1000000000) (values.Number 7))
    ∷ (codes "1s 000000007", said topics.Whole (Some 1000000000) (values.Number 7))
    ∷ (codes "1s 0000000007", None)
    ∷ (codes "1s 1000000000", None)
    ∷ (codes "1s +7", None)
    ∷ (codes "1s -7", None)
    ∷ (codes "1s 7 ", None)
    ∷ (codes "1s  7", None)
    ∷ (codes "1s ", None)
    ∷ (codes "1s", None)
    ∷ (codes "7", None)
    ∷ ([], None)
    ∷ []

numcopies : Answers (entry_of kinds.Numcopies) number_cases
unfolding opened
numcopies = refl

mincopies : Answers (entry_of kinds.Mincopies) number_cases
unfolding opened
mincopies = refl

-- a line is a text of at most 8,192 bytes
abbrev limit_cases : List (List ℕ × Option Entry)
limit_cases =
    (codes "22222222-2222-4222-8222-222222222222 " ++ replicate 8155 97, two None (values.Text (replicate 8155 97)))
    ∷ (codes "22222222-2222-4222-8222-222222222222 " ++ replicate 8156 97, None)
    ∷ (codes "22222222-2222-4222-8222-222222222222 " ++ 255 ∷ [], None)
    ∷ (codes "22222222-2222-4222-8222-222222222222 " ++ 195 ∷ [], None)
    ∷ []

limits : Answers (entry_of kinds.Uuid) limit_cases
unfolding opened
limits = refl

-- ---- the line that is written of a line's entry, and what it says again

abbrev rewritten : LogKind × List ℕ → Option (List ℕ)
rewritten c = option_map (line_text c.0) (entry_of c.0 c.1)

abbrev written_cases : List ((LogKind × List ℕ) × Option (List ℕ))
written_cases =
    ((kinds.Location, codes "1.50 X 22222222-2222-4222-8222-222222222222"), Some (codes "1.5s X 22222222-2222-4222-8222-222222222222"))
    ∷ ((kinds.Location, codes "1 1 22222222-2222-4222-8222-222222222222"), Some (codes "1s 1 22222222-2222-4222-8222-222222222222"))
    ∷ ((kinds.Location, codes "1 0 22222222-2222-4222-8222-222222222222"), Some (codes "1s 0 22222222-2222-4222-8222-222222222222"))
    ∷ ((kinds.Trust, codes "22222222-2222-4222-8222-222222222222 ? timestamp=01"), Some (codes "22222222-2222-4222-8222-222222222222 ? timestamp=1s"))
    ∷ ((kinds.Trust, codes "22222222-2222-4222-8222-222222222222 X"), Some (codes "22222222-2222-4222-8222-222222222222 X"))
    ∷ ((kinds.Uuid, codes "22222222-2222-4222-8222-222222222222 my disk timestamp=1"), Some (codes "22222222-2222-4222-8222-222222222222 my disk timestamp=1s"))
    ∷ ((kinds.Uuid, codes "22222222-2222-4222-8222-222222222222"), Some (codes "22222222-2222-4222-8222-222222222222 "))
    ∷ ((kinds.Preferred, codes "22222222-2222-4222-8222-222222222222 timestamp=1s"), Some (codes "22222222-2222-4222-8222-222222222222  timestamp=1s"))
    ∷ ((kinds.Required, codes "22222222-2222-4222-8222-222222222222  a"), Some (codes "22222222-2222-4222-8222-222222222222  a"))
    ∷ ((kinds.Group, codes "22222222-2222-4222-8222-222222222222 b a timestamp=1s"), Some (codes "22222222-2222-4222-8222-222222222222 b a timestamp=1s"))
    ∷ ((kinds.Group, codes "22222222-2222-4222-8222-222222222222 timestamp=1s"), Some (codes "22222222-2222-4222-8222-222222222222 timestamp=1s"))
    ∷ ((kinds.Group, codes "22222222-2222-4222-8222-222222222222  timestamp=1s"), Some (codes "22222222-2222-4222-8222-222222222222 timestamp=1s"))
    ∷ ((kinds.Group, codes "22222222-2222-4222-8222-222222222222"), Some (codes "22222222-2222-4222-8222-222222222222"))
    ∷ ((kinds.GroupPreferred, codes "1 archive"), Some (codes "1s archive "))
    ∷ ((kinds.GroupPreferred, codes "1 archive a b"), Some (codes "1s archive a b"))
    ∷ ((kinds.Numcopies, codes "1 07"), Some (codes "1s 7"))
    ∷ ((kinds.Mincopies, codes "1 000"), Some (codes "1s 0"))
    ∷ []

written : Answers rewritten written_cases
unfolding opened
written = refl

-- the line that was written says the same
written_again : map (λ c. option_map (entry_of c.0.0) c.1) written_cases ≡ map (λ c. Some (entry_of c.0.0 c.0.1)) written_cases
unfolding opened
written_again = refl

-- ---- the lines of the newest entries. At one stamp X is preferred to 0, and 0 to 1; the lesser trust; the greater number,
-- text and list of groups. Without a stamp a line is older than all others. Each topic has its own entry, in order.

abbrev newest_text : LogKind × List ℕ → List ℕ
newest_text c = text_of (map (line_text c.0) (newest c.0 (slice_split is_newline c.1)))

abbrev newest_cases : List ((LogKind × List ℕ) × List ℕ)
newest_cases =
    ((kinds.Location, codes "1s 1 22222222-2222-4222-8222-222222222222\n1s 0 22222222-2222-4222-8222-222222222222"), codes "1s 0 22222222-2222-4222-8222-222222222222\n")
    ∷ ((kinds.Location, codes "1s 0 22222222-2222-4222-8222-222222222222\n1s 1 22222222-2222-4222-8222-222222222222"), codes "1s 0 22222222-2222-4222-8222-222222222222\n")
    ∷ ((kinds.Location, codes "1s 0 22222222-2222-4222-8222-222222222222\n1s X 22222222-2222-4222-8222-222222222222"), codes "1s X 22222222-2222-4222-8222-222222222222\n")
    ∷ ((kinds.Location, codes "1s X 22222222-2222-4222-8222-222222222222\n1s 0 22222222-2222-4222-8222-222222222222"), codes "1s X 22222222-2222-4222-8222-222222222222\n")
    ∷ ((kinds.Location, codes "1s X 22222222-2222-4222-8222-222222222222\n2s 1 22222222-2222-4222-8222-222222222222"), codes "2s 1 22222222-2222-4222-8222-222222222222\n")
    ∷ ((kinds.Location, codes "2s 1 22222222-2222-4222-8222-222222222222\n1s X 22222222-2222-4222-8222-222222222222"), codes "2s 1 22222222-2222-4222-8222-222222222222\n")
    ∷ ((kinds.Trust, codes "22222222-2222-4222-8222-222222222222 1 timestamp=1s\n22222222-2222-4222-8222-222222222222 ? timestamp=1s"), codes "22222222-2222-4222-8222-222222222222 ? timestamp=1s\n")
    ∷ ((kinds.Trust, codes "22222222-2222-4222-8222-222222222222 ? timestamp=1s\n22222222-2222-4222-8222-222222222222 1 timestamp=1s"), codes "22222222-2222-4222-8222-222222222222 ? timestamp=1s\n")
    ∷ ((kinds.Trust, codes "22222222-2222-4222-8222-222222222222 ? timestamp=1s\n22222222-2222-4222-8222-222222222222 0 timestamp=1s"), codes "22222222-2222-4222-8222-222222222222 0 timestamp=1s\n")
    ∷ ((kinds.Trust, codes "22222222-2222-4222-8222-222222222222 0 timestamp=1s\n22222222-2222-4222-8222-222222222222 ? timestamp=1s"), codes "22222222-2222-4222-8222-222222222222 0 timestamp=1s\n")
    ∷ ((kinds.Trust, codes "22222222-2222-4222-8222-222222222222 0 timestamp=1s\n22222222-2222-4222-8222-222222222222 X timestamp=1s"), codes "22222222-2222-4222-8222-222222222222 X timestamp=1s\n")
    ∷ ((kinds.Trust, codes "22222222-2222-4222-8222-222222222222 X timestamp=1s\n22222222-2222-4222-8222-222222222222 0 timestamp=1s"), codes "22222222-2222-4222-8222-222222222222 X timestamp=1s\n")
    ∷ ((kinds.Trust, codes "22222222-2222-4222-8222-222222222222 X\n22222222-2222-4222-8222-222222222222 1 timestamp=0s"), codes "22222222-2222-4222-8222-222222222222 1 timestamp=0s\n")
    ∷ ((kinds.Trust, codes "22222222-2222-4222-8222-222222222222 1 timestamp=0s\n22222222-2222-4222-8222-222222222222 X"), codes "22222222-2222-4222-8222-222222222222 1 timestamp=0s\n")
    ∷ []

newest_are : Answers newest_text newest_cases
unfolding opened
newest_are = refl

abbrev more_newest_cases : List ((LogKind × List ℕ) × List ℕ)
more_newest_cases =
    ((kinds.Numcopies, codes "1s 3\n1s 2"), codes "1s 3\n")
    ∷ ((kinds.Numcopies, codes "1s 2\n1s 3"), codes "1s 3\n")
    ∷ ((kinds.Mincopies, codes "1s 10\n1s 9"), codes "1s 10\n")
    ∷ ((kinds.Mincopies, codes "1s 9\n1s 10"), codes "1s 10\n")
    ∷ ((kinds.Uuid, codes "22222222-2222-4222-8222-222222222222 ab timestamp=1s\n22222222-2222-4222-8222-222222222222 b timestamp=1s"), codes "22222222-2222-4222-8222-222222222222 b timestamp=1s\n")
    ∷ ((kinds.Uuid, codes "22222222-2222-4222-8222-222222222222 b timestamp=1s\n22222222-2222-4222-8222-222222222222 ab timestamp=1s"), codes "22222222-2222-4222-8222-222222222222 b timestamp=1s\n")
    ∷ ((kinds.Group, codes "22222222-2222-4222-8222-222222222222 a timestamp=1s\n22222222-2222-4222-8222-222222222222 a b timestamp=1s"), codes "22222222-2222-4222-8222-222222222222 a b timestamp=1s\n")
    ∷ ((kinds.Group, codes "22222222-2222-4222-8222-222222222222 a b timestamp=1s\n22222222-2222-4222-8222-222222222222 a timestamp=1s"), codes "22222222-2222-4222-8222-222222222222 a b timestamp=1s\n")
    ∷ ((kinds.GroupPreferred, codes "2s backup x\n1s archive y\n3s archive z"), codes "3s archive z\n2s backup x\n")
    ∷ ((kinds.GroupPreferred, codes "3s archive z\n1s archive y\n2s backup x"), codes "3s archive z\n2s backup x\n")
    ∷ ((kinds.Location, codes "hello"), [])
    ∷ ((kinds.Location, codes "1700000001s 1 22222222-2222-4222-8222-222222222222\n1700000001s 0 22222222-2222-4222-8222-222222222222\n1700000002 1 33333333-3333-4333-8333-333333333333\nhello\n1700000003s 1 2c8f"), codes "1700000001s 0 22222222-2222-4222-8222-222222222222\n1700000002s 1 33333333-3333-4333-8333-333333333333\n")
    ∷ ((kinds.Location, codes "1700000003s 1 2c8f\nhello\n1700000002 1 33333333-3333-4333-8333-333333333333\n1700000001s 0 22222222-2222-4222-8222-222222222222\n1700000001s 1 22222222-2222-4222-8222-222222222222"), codes "1700000001s 0 22222222-2222-4222-8222-222222222222\n1700000002s 1 33333333-3333-4333-8333-333333333333\n")
    ∷ []

more_newest_are : Answers newest_text more_newest_cases
unfolding opened
more_newest_are = refl

-- the newest entry of a repository
abbrev two_repositories : List (List ℕ)
two_repositories = slice_split is_newline (codes "1700000001s 1 22222222-2222-4222-8222-222222222222\n1700000001s 0 22222222-2222-4222-8222-222222222222\n1700000002 1 33333333-3333-4333-8333-333333333333\nhello\n1700000003s 1 2c8f")

newest_of_one : newest_of kinds.Location two_repositories (topics.Repo (repo 2)) ≡ two (Some 1700000001000000000) values.Absent
unfolding opened
newest_of_one = refl

newest_of_none : newest_of kinds.Location two_repositories (topics.Repo (repo 1)) ≡ None
unfolding opened
newest_of_none = refl

-- ---- the lines that compaction keeps, and whether it leaves out a line

abbrev compacted_text : LogKind × List ℕ → List ℕ
compacted_text c = text_of (current_lines c.0 (slice_split is_newline c.1))

abbrev compacted_cases : List ((LogKind × List ℕ) × List ℕ)
compacted_cases =
    ((kinds.Numcopies, codes "1700000000s 2\n1700000001s 3"), codes "1700000001s 3\n")
    ∷ ((kinds.Numcopies, codes "1s 07\n1s 7"), codes "1s 07\n1s 7\n")
    ∷ ((kinds.Location, codes "1s 1 22222222-2222-4222-8222-222222222222\nhello\n1s 0 22222222-2222-4222-8222-222222222222"), codes "hello\n1s 0 22222222-2222-4222-8222-222222222222\n")
    ∷ ((kinds.Location, codes "9999999999.999999999s X 22222222-2222-4222-8222-222222222222\n9999999999.999999999 X 22222222-2222-4222-8222-222222222222\n1s 1 33333333-3333-4333-8333-333333333333"), codes "9999999999.999999999s X 22222222-2222-4222-8222-222222222222\n9999999999.999999999 X 22222222-2222-4222-8222-222222222222\n1s 1 33333333-3333-4333-8333-333333333333\n")
    ∷ ((kinds.Uuid, codes "22222222-2222-4222-8222-222222222222 old\n22222222-2222-4222-8222-222222222222 new timestamp=1s"), codes "22222222-2222-4222-8222-222222222222 new timestamp=1s\n")
    ∷ []

compacted : Answers compacted_text compacted_cases
unfolding opened
compacted = refl

abbrev is_outdated : LogKind × List ℕ → Bool
is_outdated c = has_outdated c.0 (slice_split is_newline c.1)

abbrev outdated_cases : List ((LogKind × List ℕ) × Bool)
outdated_cases =
    ((kinds.Numcopies, codes "1700000000s 2\n1700000001s 3"), true)
    ∷ ((kinds.Numcopies, codes "1700000001s 3"), false)
    ∷ ((kinds.Numcopies, codes "1s 07\n1s 7"), false)
    ∷ ((kinds.Location, codes "1s 1 22222222-2222-4222-8222-222222222222\nhello\n1s 0 22222222-2222-4222-8222-222222222222"), true)
    ∷ ((kinds.Location, codes "hello\n1s 0 22222222-2222-4222-8222-222222222222"), false)
    ∷ ((kinds.Location, codes "9999999999.999999999s X 22222222-2222-4222-8222-222222222222\n9999999999.999999999 X 22222222-2222-4222-8222-222222222222\n1s 1 33333333-3333-4333-8333-333333333333"), false)
    ∷ ((kinds.Uuid, codes "22222222-2222-4222-8222-222222222222 old\n22222222-2222-4222-8222-222222222222 new timestamp=1s"), true)
    ∷ ((kinds.Uuid, codes "22222222-2222-4222-8222-222222222222 new timestamp=1s"), false)
    ∷ []

outdated : Answers is_outdated outdated_cases
unfolding opened
outdated = refl

-- ---- the stamp of an entry that is added, by the newest stamp and the clock

abbrev stamp_by : Option ℕ × ℕ → ℕ
stamp_by c = next_stamp c.0 c.1

abbrev next_cases : List ((Option ℕ × ℕ) × ℕ)
next_cases =
    ((None, 5000000000), 5000000000)
    ∷ ((Some 4000000000, 5000000000), 5000000000)
    ∷ ((Some 5000000000, 5000000000), 5000000001)
    ∷ ((Some 7000000000, 5000000000), 7000000001)
    ∷ ((Some 9999999999999999998, 5000000000), 9999999999999999999)
    ∷ ((Some 9999999999999999999, 5000000000), 9999999999999999999)
    ∷ []

next : Answers stamp_by next_cases
unfolding opened
next = refl
