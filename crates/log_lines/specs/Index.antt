-- The newest entries of a log file's lines, as they are kept while lines are added (own).
use Rattle.std.specs.Prelude.{ℕ, List, [], map}
use Rattle.log_grammar.specs.declared.entry.LogKind.{LogKind}
use Rattle.log_grammar.specs.declared.entry.Topic.{Topic}
use Rattle.log_grammar.specs.declared.entry.Entry.{Entry}
use Rattle.log_lines.specs.declared.statement.Statement.{Statement}
use Rattle.log_grammar.specs.Reading.{entry_of}
use Rattle.log_lines.specs.Newest.{with_entry_if, newest}

-- the newest entries of a file of this kind, in order of topic
pub record Index : Type 0 where
  pub kind : LogKind
  pub entries : List Entry

-- of no lines
abbrev pub empty_index : LogKind → Index
empty_index kind = record { kind = kind; entries = [] }

-- with one more line
abbrev pub index_with : Index → List ℕ → Index
index_with index line = record { kind = index.kind; entries = with_entry_if index.entries (entry_of index.kind line) }

-- of these lines
abbrev pub index_of : LogKind → List (List ℕ) → Index
index_of kind lines = record { kind = kind; entries = newest kind lines }

-- ---- topics and what is said of them

-- what the entry says of its topic
abbrev pub statement_of : Entry → Statement
statement_of e = record { stamp = e.stamp; value = e.value }

-- the statement as an entry of the topic
abbrev pub entry_with : Topic → Statement → Entry
entry_with topic s = record { topic = topic; stamp = s.stamp; value = s.value }

-- statements by topic, as entries
abbrev pub entries_in : List (Topic × Statement) → List Entry
entries_in statements = map (λ p. entry_with p.0 p.1) statements
