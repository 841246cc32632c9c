-- Kinds of entries that leave jobs' beginnings, the clock and the logs alone (own).
use Rattle.std.specs.Prelude.{◌≡◌, ℕ, false, List}
use Rattle.run_data.specs.declared.entry.EntryKind.{EntryKind}
use Rattle.run_data.specs.declared.entry.EntryKind.TheVariants.{Crash}
use Rattle.node_model.specs.Files.{lines_after}
use Rattle.node_model.specs.Slots.{is_begin}

-- the entry begins no job, is no crash, and adds no line to a log
pub record IsQuiet (kind : EntryKind) : Type 0 where
  pub begins : is_begin kind ≡ false
  pub crashes : (clock : ℕ) → kind ≡ Crash clock → ⊥
  pub lines : (path : List ℕ) (was added : List (List ℕ)) → lines_after path was kind added ≡ was
