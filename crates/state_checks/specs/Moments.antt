-- When the newest entry was made, as data, and the order and the bounds of the next one by that (own).
use Rattle.std.specs.Prelude.{ℕ, ◌^◌, Bool, true, false, ◌&&◌, ◌||◌, ◌==◌, nat_lt, nat_le, Option, Some, None}
use Rattle.run_data.specs.declared.entry.Entry.{Entry}
use Rattle.run_model.specs.Run.{repo_number}
use Rattle.step_judging.specs.Rules.{is_small, is_time}
use Rattle.state_checks.specs.declared.order.Moment.{Moment}

abbrev pub moment_of : Entry → Moment
moment_of e = record { time = e.time; count = e.count; repo = e.repo }

-- ---- for private contracts

abbrev pub comes_after : Option Moment → Entry → Bool
comes_after None e = true
comes_after (Some m) e = nat_lt m.time e.time || (nat_lt m.count e.count || ((m.count == e.count) && nat_lt (repo_number m.repo) (repo_number e.repo)))

abbrev pub time_at : Option Moment → ℕ
time_at None = 0
time_at (Some m) = m.time

-- an entry that doesn't wait is of a repository, and made at this time
abbrev pub is_made_at : ℕ → Entry → Option ℕ → Bool
is_made_at before e None = false
is_made_at before e (Some r) = e.time == before

abbrev pub is_ordered_at : Option Moment → Entry → Bool
is_ordered_at newest e =
    comes_after newest e && is_time (time_at newest) e e.kind e.repo && nat_le e.time 1000000000000 && nat_lt e.count (2 ^ 62) && is_small e.kind
