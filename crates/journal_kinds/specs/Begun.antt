-- The kinds of the jobs that a run's repositories began, as data that a reader of its journal carries on (own).
use Rattle.std.specs.Prelude.{◌≡◌, ℕ, Bool, ◌==◌, ◌&&◌, if◌then◌else◌, List, [], Option, Some, None}
use Rattle.std.specs.Map.{lookup}
use Rattle.std.specs.Option.{option_map}
use Rattle.run_data.specs.declared.entry.Entry.{Entry}
use Rattle.run_data.specs.declared.job.JobKind.{JobKind}
use Rattle.run_model.specs.Past.{begun_job}
use Rattle.run_text.specs.Outcomes.{transfer_word}
use Rattle.journal_kinds.specs.declared.begun.JobName.{JobName}
use Rattle.journal_kinds.specs.declared.begun.Begun.{Begun}

abbrev pub same_job : JobName → JobName → Bool
same_job a b = (a.repo == b.repo) && (a.number == b.number)

-- the kind of the job that repository r began last with number j
abbrev pub kind_at : List (JobName × JobKind) → ℕ → ℕ → Option JobKind
kind_at kinds r j = lookup (same_job (record { repo = r; number = j })) kinds

abbrev pub kind_of : Begun → ℕ → ℕ → Option JobKind
kind_of begun r j = kind_at begun.kinds.entries r j

-- the jobs are those that these entries (the newest first) began
abbrev pub AreBegun : List Entry → Begun → Type 0
AreBegun past begun = (r j : ℕ) → kind_of begun r j ≡ option_map (λ job. job.kind) (begun_job past r j)

-- the kind, after this job began
abbrev pub begins : ℕ → ℕ → Option (JobName × JobKind) → Option JobKind → Option JobKind
begins r j None was = was
begins r j (Some x) was = if (x.0.repo == r) && (x.0.number == j) then Some x.1 else was

-- the word that names the transfer of a move; none for another job
abbrev pub word_in : Option JobKind → List ℕ
word_in None = []
word_in (Some kind) = transfer_word kind

abbrev pub word_at : Begun → ℕ → ℕ → List ℕ
word_at begun r j = word_in (kind_of begun r j)
