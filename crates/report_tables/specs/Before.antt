-- What is there before a place of a run (own): who has a key, the branch of a repository, and the row of a key.
use Rattle.std.specs.Prelude.{ℕ, ◌+◌, ◌-◌, Bool, if◌then◌else◌, List, [], ◌∷◌, filter, length, map, reverse}
use Rattle.std.specs.List.{range_with_len}
use Rattle.union_merge.specs.Branch.{Files}
use Rattle.run_data.specs.declared.entry.Entry.{Entry}
use Rattle.run_data.specs.declared.entry.EntryKind.{EntryKind}
use Rattle.run_data.specs.declared.entry.EntryKind.TheVariants.{Gain, Gone}
use Rattle.run_data.specs.declared.row.Hold.{Hold}
use Rattle.run_data.specs.declared.row.HoldView.{HoldView}
use Rattle.run_data.specs.declared.row.RowView.{RowView}
use Rattle.run_data.specs.declared.run.Run.{Run}
use Rattle.node_model.specs.Rows.{blocks}
use Rattle.run_model.specs.Logs.{branch}
use Rattle.run_model.specs.Past.{bar, clock, holds, is_of, now, present}
use Rattle.run_model.specs.Safety.{past_at}

-- the repositories that have the key before a place
abbrev pub possessors : Run → ℕ → List ℕ → List ℕ
possessors run place key = filter (λ r. present (past_at run place) r key) (range_with_len 0 (length run.repos))

-- how many contents a repository has: a gain of one that isn't there adds one, a removal of one that is there takes one away
abbrev pub total_after : (List ℕ → Bool) → ℕ → EntryKind → ℕ
total_after here was (Gain by size key) = if here key then was else was + 1
total_after here was (Gone by key) = if here key then was - 1 else was
total_after here was kind = was

abbrev pub total : List Entry → ℕ → ℕ
total [] r = 0
total (e ∷ past) r = if is_of r e then total_after (present past r) (total past r) e.kind else total past r

-- those that it has before a place
abbrev pub total_at : Run → ℕ → ℕ → ℕ
total_at run place r = total (past_at run place) r

-- the branch of a repository before a place
abbrev pub branch_at : Run → ℕ → ℕ → Files
branch_at run place r = branch (past_at run place) r

-- the clock of a repository before a place
abbrev pub clock_at : Run → ℕ → ℕ → ℕ
clock_at run place r = clock run.repos (past_at run place) r (now (past_at run place))

abbrev pub hold_view : Hold → HoldView
hold_view h = record { number = h.number; end = h.end; kept = h.kept }

-- those of the holds that block the key at this time of the clock, in order of number; the newest is given first
abbrev pub blockers : List ℕ → ℕ → List Hold → List HoldView
blockers key clock hs = map hold_view (reverse (filter (blocks key clock) hs))

-- the row of a key at a repository before a place
abbrev pub row_at : Run → ℕ → ℕ → List ℕ → RowView
row_at run place r key = record {
  present = present (past_at run place) r key;
  bar = bar (past_at run place) r key;
  holds = blockers key (clock_at run place r) (holds (past_at run place) r);
}
