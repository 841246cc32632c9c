-- What the lines of a log file say together: of each topic its newest entry (git-annex internals: branch files).
use Rattle.std.specs.Prelude.{◌≡◌, ◌↔◌, ℕ, ◌+◌, Bool, false, not, ◌&&◌, if◌then◌else◌, List, [], ◌∷◌, filter, map, max, min, Option, Some, None}
use Rattle.std.specs.declared.cmp.Ordering.{Ordering}
use Rattle.std.specs.Ordering.{nat_cmp, ordering_then, is_eq, is_lt, match_ordering}
use Rattle.std.specs.Cmp.Lexicographic.{slice_cmp}
use Rattle.std.specs.List.{list_any, fold}
use Rattle.std.specs.List.Sorted.{IsStrictlySortedBy}
use Rattle.std.specs.Option.{option_cmp}
use Rattle.annex_base.specs.ByteOrder.{text_cmp}
use Rattle.annex_base.specs.Lists.{Member}
use Rattle.annex_base.specs.declared.kinds.Level.{Level}
use Rattle.annex_base.specs.declared.kinds.Level.TheVariants as levels
use Rattle.log_grammar.specs.declared.entry.LogKind.{LogKind}
use Rattle.log_grammar.specs.declared.entry.Topic.{Topic}
use Rattle.log_grammar.specs.declared.entry.Topic.TheVariants as topics
use Rattle.log_grammar.specs.declared.entry.Value.{Value}
use Rattle.log_grammar.specs.declared.entry.Value.TheVariants as values
use Rattle.log_grammar.specs.declared.entry.Entry.{Entry}
use Rattle.log_grammar.specs.LineText.{IsLine}
use Rattle.log_grammar.specs.Reading.{entry_of}

-- ---- topics

abbrev pub topic_rank : Topic → ℕ
topic_rank (topics.Repo id) = 0
topic_rank (topics.Group name) = 1
topic_rank topics.Whole = 2
topic_rank (topics.Pattern glob) = 3

-- repositories in order of identifier, then groups in byte order, then the whole file, then patterns in byte order
abbrev pub topic_cmp : Topic → Topic → Ordering
topic_cmp (topics.Repo a) (topics.Repo b) = text_cmp a b
topic_cmp (topics.Group a) (topics.Group b) = text_cmp a b
topic_cmp (topics.Pattern a) (topics.Pattern b) = text_cmp a b
topic_cmp a b = nat_cmp (topic_rank a) (topic_rank b)

abbrev pub same_topic : Topic → Topic → Bool
same_topic a b = is_eq (topic_cmp a b)

-- ---- which of two entries is the newer

abbrev pub distrust : Level → ℕ
distrust levels.Trusted = 0
distrust levels.Semitrusted = 1
distrust levels.Untrusted = 2
distrust levels.Dead = 3

-- each log file has values of one of these classes
abbrev pub value_class : Value → ℕ
value_class values.Gone = 0
value_class values.Absent = 0
value_class values.Present = 0
value_class (values.Level l) = 1
value_class (values.Text t) = 2
value_class (values.Groups gs) = 3
value_class (values.Number n) = 4

-- what is compared of two values of a class
abbrev pub value_weight : Value → List (List ℕ)
value_weight values.Present = (0 ∷ []) ∷ []
value_weight values.Absent = (1 ∷ []) ∷ []
value_weight values.Gone = (2 ∷ []) ∷ []
value_weight (values.Level l) = (distrust l ∷ []) ∷ []
value_weight (values.Text t) = t ∷ []
value_weight (values.Groups gs) = gs
value_weight (values.Number n) = (n ∷ []) ∷ []

-- At one stamp X is preferred to 0, and 0 to 1; the lesser trust to the greater; the greater number; the text and the
-- list of groups that is greater in byte order (own).
abbrev pub value_cmp : Value → Value → Ordering
value_cmp v w = ordering_then (nat_cmp (value_class v) (value_class w)) (slice_cmp text_cmp (value_weight v) (value_weight w))

-- the entry with the later stamp is the newer; one without a stamp is older than all others
abbrev pub entry_cmp : Entry → Entry → Ordering
entry_cmp e f = ordering_then (option_cmp nat_cmp e.stamp f.stamp) (value_cmp e.value f.value)

-- the first entry is older than the second, which is of the same topic
abbrev pub is_older : Entry → Entry → Bool
is_older e f = same_topic e.topic f.topic && is_lt (entry_cmp e f)

-- ---- the newest entries

-- a line says the entry, and no line says a newer one of its topic
pub record IsNewest (kind : LogKind) (lines : List (List ℕ)) (e : Entry) : Type 0 where
  pub line : List ℕ
  pub among : Member line lines
  pub says : IsLine kind line e
  pub last : (other : List ℕ) (f : Entry) → Member other lines → IsLine kind other f → is_older e f ≡ false

-- these are the newest entries of the lines, one a topic, in order of topic
pub record IsReading (kind : LogKind) (lines : List (List ℕ)) (es : List Entry) : Type 0 where
  pub sorted : IsStrictlySortedBy topic_cmp (map (λ e. e.topic) es)
  pub each : (e : Entry) → Member e es ↔ IsNewest kind lines e

-- the newer of two entries of one topic
abbrev pub newer : Entry → Entry → Entry
newer e f = if is_lt (entry_cmp e f) then f else e

-- the entries with one more, which replaces an older one of its topic
abbrev pub with_entry : List Entry → Entry → List Entry
with_entry [] e = e ∷ []
with_entry (x ∷ xs) e = match_ordering (topic_cmp e.topic x.topic) (e ∷ x ∷ xs) (newer x e ∷ xs) (x ∷ with_entry xs e)

abbrev pub with_entry_if : List Entry → Option Entry → List Entry
with_entry_if es None = es
with_entry_if es (Some e) = with_entry es e

-- the newest entries of the lines, in order of topic
abbrev pub newest : LogKind → List (List ℕ) → List Entry
newest kind lines = fold (λ es line. with_entry_if es (entry_of kind line)) [] lines

abbrev pub entry_at : List Entry → Topic → Option Entry
entry_at [] topic = None
entry_at (e ∷ es) topic = if same_topic topic e.topic then Some e else entry_at es topic

-- the newest entry of the topic
abbrev pub newest_of : LogKind → List (List ℕ) → Topic → Option Entry
newest_of kind lines topic = entry_at (newest kind lines) topic

-- two files say the same
abbrev pub ReadAlike : LogKind → List (List ℕ) → List (List ℕ) → Type 0
ReadAlike kind lines others = newest kind lines ≡ newest kind others

-- ---- the stamp of an entry that is added

abbrev pub greatest_stamp : ℕ
greatest_stamp = 9999999999999999999

-- the clock, or one nanosecond past the newest stamp of the topic, but never past the greatest
abbrev pub next_stamp : Option ℕ → ℕ → ℕ
next_stamp None clock = clock
next_stamp (Some stamp) clock = max clock (min (stamp + 1) greatest_stamp)

abbrev pub stamp_in : Option Entry → Option ℕ
stamp_in None = None
stamp_in (Some e) = e.stamp

-- the newest stamp of the topic, if it has one
abbrev pub newest_stamp : LogKind → List (List ℕ) → Topic → Option ℕ
newest_stamp kind lines topic = stamp_in (newest_of kind lines topic)

-- ---- compaction (own)

abbrev pub says_newer : Entry → Option Entry → Bool
says_newer e None = false
says_newer e (Some f) = is_older e f

abbrev pub outdated_by : LogKind → List (List ℕ) → Option Entry → Bool
outdated_by kind lines None = false
outdated_by kind lines (Some e) = list_any (λ line. says_newer e (entry_of kind line)) lines

-- the line has an entry, and one of the lines has a newer one of its topic
abbrev pub is_outdated : LogKind → List (List ℕ) → List ℕ → Bool
is_outdated kind lines line = outdated_by kind lines (entry_of kind line)

-- the lines without those that are outdated
abbrev pub current_lines : LogKind → List (List ℕ) → List (List ℕ)
current_lines kind lines = filter (λ line. not (is_outdated kind lines line)) lines

-- compaction leaves out a line
abbrev pub has_outdated : LogKind → List (List ℕ) → Bool
has_outdated kind lines = list_any (λ line. is_outdated kind lines line) lines
