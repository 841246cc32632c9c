-- The newest entry of one topic, line by line (for private contracts).
use Rattle.std.specs.Prelude.{ℕ, Bool, true, false, if◌then◌else◌, List, Option, Some, None}
use Rattle.std.specs.declared.cmp.Ordering.{Ordering}
use Rattle.std.specs.Ordering.{nat_cmp, ordering_then, is_lt}
use Rattle.std.specs.Option.{option_cmp}
use Rattle.log_grammar.specs.declared.entry.Topic.{Topic}
use Rattle.log_grammar.specs.declared.entry.Value.{Value}
use Rattle.log_grammar.specs.declared.entry.Value.TheVariants as values
use Rattle.log_grammar.specs.declared.entry.Entry.{Entry}
use Rattle.log_lines.specs.declared.statement.Statement.{Statement}
use Rattle.log_lines.specs.Newest.{same_topic, value_cmp, newer, entry_at, says_newer}

-- the entry, if it speaks of the topic
abbrev pub said_of : Topic → Option Entry → Option Entry
said_of topic None = None
said_of topic (Some e) = if same_topic topic e.topic then Some e else None

-- the newer of two entries of one topic, where there are such
abbrev pub newer_of : Option Entry → Option Entry → Option Entry
newer_of None o = o
newer_of (Some e) None = Some e
newer_of (Some e) (Some f) = Some (newer e f)

-- the place of a value among those that a log file may have, and those of a location log among one another
abbrev pub value_rank : Value → ℕ
value_rank values.Present = 0
value_rank values.Absent = 1
value_rank values.Gone = 2
value_rank (values.Level l) = 3
value_rank (values.Text t) = 4
value_rank (values.Groups gs) = 5
value_rank (values.Number n) = 6

-- which of two statements of one topic is the older
abbrev pub statement_cmp : Statement → Statement → Ordering
statement_cmp c d = ordering_then (option_cmp nat_cmp c.stamp d.stamp) (value_cmp c.value d.value)

-- the statement is the first of its topic, or the one that is known is older
abbrev pub is_news : Statement → Option Statement → Bool
is_news c None = true
is_news c (Some known) = is_lt (statement_cmp known c)

-- the statement that is known is newer
abbrev pub is_old : Statement → Option Statement → Bool
is_old c None = false
is_old c (Some known) = is_lt (statement_cmp c known)

-- the newest entry of the topic among these is newer than the entry
abbrev pub is_outdated_in : List Entry → Option Entry → Bool
is_outdated_in es None = false
is_outdated_in es (Some e) = says_newer e (entry_at es e.topic)
