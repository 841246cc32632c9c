-- The words that name the transfers of the jobs that were begun.
use Rattle.std.proofs.Common.{◌≡◌, ℕ, List, Option, Some, None, refl, ap, ◌∙◌}
use Rattle.std.specs.Option.{option_map}
use Rattle.run_data.specs.declared.entry.Entry.{Entry}
use Rattle.run_data.specs.declared.job.Job.{Job}
use Rattle.run_model.specs.Past.{begun_job}
use Rattle.run_text.specs.Outcomes.{transfer_word_of}
use Rattle.journal_kinds.specs.declared.begun.Begun.{Begun}
use Rattle.journal_kinds.specs.Begun.{AreBegun, word_in, word_at}

word_of_job : (o : Option Job) → word_in (option_map (λ job. job.kind) o) ≡ transfer_word_of o
word_of_job None = refl
word_of_job (Some job) = refl

pub words_are : (past : List Entry) (begun : Begun) → AreBegun past begun → (r j : ℕ) → word_at begun r j ≡ transfer_word_of (begun_job past r j)
words_are past begun are r j = ap word_in (are r j) ∙ word_of_job (begun_job past r j)
