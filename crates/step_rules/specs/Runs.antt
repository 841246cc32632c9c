-- Runs by their first entries (own).
use Rattle.std.specs.Prelude.{[], ◌∷◌, ◌++◌, ℕ, take}
use Rattle.run_data.specs.declared.entry.Entry.{Entry}
use Rattle.run_data.specs.declared.run.Run.{Run}

-- the run and one entry more
abbrev pub with_entry : Run → Entry → Run
with_entry run e = record run { entries = run.entries ++ e ∷ [] }

-- the run of its first entries, so many
abbrev pub start_of : Run → ℕ → Run
start_of run n = record run { entries = take n run.entries }
