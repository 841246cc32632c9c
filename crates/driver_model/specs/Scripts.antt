-- Which lines of a script may be driven, and how far a run may grow (own).
use Rattle.std.specs.Prelude.{◌≡◌, ◌≢◌, ℕ, ◌<◌, ◌≤◌, ◌^◌, true, List, [], length, None}
use Rattle.annex_base.specs.Lines.{IsOneLine}
use Rattle.annex_base.specs.Lists.{Each}
use Rattle.annex_key.specs.KeyText.{IsKeyText}
use Rattle.annex_key.specs.View.{first_fault, size_part}
use Rattle.log_lines.specs.declared.entry.LogKind.TheVariants.{Location}
use Rattle.log_lines.specs.declared.entry.Topic.{Topic}
use Rattle.log_lines.specs.declared.entry.Topic.TheVariants as topics
use Rattle.log_lines.specs.declared.entry.Value.{Value}
use Rattle.log_lines.specs.declared.entry.Value.TheVariants as values
use Rattle.union_merge.specs.LineSet.{IsLine}
use Rattle.run_data.specs.declared.entry.Entry.{Entry}
use Rattle.run_data.specs.declared.job.Job.{Job}
use Rattle.run_data.specs.Files.{HasPath, kind_of}
use Rattle.run_data.specs.Repos.{fits_size}
use Rattle.node_model.specs.AnyTime.{IsPeer}
use Rattle.run_model.specs.Past.{Always}
use Rattle.run_model.specs.Run.{IsSmall}
use Rattle.script_commands.specs.declared.command.Action.{Action}
use Rattle.script_commands.specs.declared.command.Action.TheVariants.{Have, SetPart, Add, File, Set, Raw, Merge, Compact, Sync, Begin, Run, Turns, Settle, Close, Crash, Wait, Fail}
use Rattle.script_commands.specs.declared.command.Agendum.{Agendum}
use Rattle.script_commands.specs.declared.command.BlockLine.{BlockLine}
use Rattle.script_commands.specs.declared.command.BlockLine.TheVariants.{Runs, Crashes, Closes, Fails}
use Rattle.script_commands.specs.declared.command.Command.{Command}
use Rattle.script_commands.specs.declared.command.Command.TheVariants.{Repo, Does, Damage, Par, Shows}
use Rattle.driver_model.specs.Driver.{Driver, DriverInput}

-- ---- lines

-- the repository is one of the run
abbrev pub IsKnown : DriverInput → ℕ → Type 0
IsKnown g r = r < length g.repos

-- the repository may begin the job: its key is one, and its peer, which each copy and move has, is another repository
pub record IsJob (g : DriverInput) (r : ℕ) (job : Job) : Type 0 where
  pub peer : IsPeer (record { number = r; repos = g.repos; paths = λ j. [] }) job.kind job.peer
  pub valid : first_fault job.key ≡ None

-- the other is another repository of the run
abbrev pub IsOther : DriverInput → ℕ → ℕ → Type 0
IsOther g r other = (other < length g.repos) × (other ≢ r)

-- the content has the size that the key says
abbrev pub IsContent : List ℕ → List ℕ → Type 0
IsContent key bytes = IsKeyText key × (fits_size (size_part key) (length bytes) ≡ true)

-- a group's name has no newline, nor has a text, nor the names in a list of groups
abbrev pub IsPlainTopic : Topic → Type 0
IsPlainTopic (topics.Group name) = IsOneLine name
IsPlainTopic (topics.Pattern glob) = IsOneLine glob
IsPlainTopic topic = Unit {0}

abbrev pub IsPlainValue : Value → Type 0
IsPlainValue (values.Text text) = IsOneLine text
IsPlainValue (values.Groups groups) = Each IsOneLine groups
IsPlainValue value = Unit {0}

-- a line of a block, of this repository
abbrev pub IsBlockLine : DriverInput → ℕ → BlockLine → Type 0
IsBlockLine g r (Runs job) = IsJob g r job
IsBlockLine g r (Crashes clock) = Unit {0}
IsBlockLine g r (Closes other) = IsOther g r other
IsBlockLine g r (Fails call) = Unit {0}

abbrev pub IsAgendum : DriverInput → Agendum → Type 0
IsAgendum g x = IsKnown g x.repo × IsBlockLine g x.repo x.line

-- The action is one of the script's: the repository that acts is one of the run, and a job one that it may begin; a content is
-- of a key, and has its size; a path of the tree names a key; what is written is a line of a file whose kind is known.
abbrev pub IsOneAction : DriverInput → Action → Type 0
IsOneAction g (Have r key bytes) = IsKnown g r × IsContent key bytes
IsOneAction g (SetPart r key bytes) = IsKnown g r
IsOneAction g (Add r path key bytes) = IsKnown g r × IsContent key bytes
IsOneAction g (File path key) = IsKeyText key
IsOneAction g (Set r kind topic value) = IsKnown g r × (kind ≢ Location) × IsPlainTopic topic × IsPlainValue value
IsOneAction g (Raw r file line) = IsKnown g r × HasPath file × (kind_of file ≢ None) × IsLine line
IsOneAction g (Merge r other) = IsKnown g r
IsOneAction g (Compact r) = IsKnown g r
IsOneAction g (Sync r) = IsKnown g r
IsOneAction g (Begin r job) = IsKnown g r × IsJob g r job
IsOneAction g (Run r job) = IsKnown g r × IsJob g r job
IsOneAction g (Turns r n) = IsKnown g r
IsOneAction g Settle = Unit {0}
IsOneAction g (Close r other) = IsKnown g r × IsOther g r other
IsOneAction g (Crash r clock) = IsKnown g r
IsOneAction g (Wait milliseconds) = Unit {0}
IsOneAction g (Fail r call) = Unit {0}

-- The line is one of the script's; none is a `damage` line yet.
abbrev pub IsOne : DriverInput → Command → Type 0
IsOne g (Repo name id offset version locks) = Unit {0}
IsOne g (Does action) = IsOneAction g action
IsOne g (Damage r key bytes) = ⊥
IsOne g (Par lines) = Each (IsAgendum g) lines
IsOne g (Shows what) = Unit {0}

-- ---- bounds

-- a time is at most 1,000,000,000,000, a count and the size of a gain are below 2^62, and a clock is at most 100,000,000,000
pub record IsWithinBounds (past : List Entry) (e : Entry) : Type 0 where
  pub in_time : e.time ≤ 1000000000000
  pub counted : e.count < 2 ^ 62
  pub small : IsSmall e.kind

-- each entry is within its bounds, and so is the greatest part
abbrev pub HasBoundedPast : Driver → Type 0
HasBoundedPast d = Always IsWithinBounds d.past × (d.largest < 2 ^ 62)
