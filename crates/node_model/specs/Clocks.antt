-- The two clocks of a repository (own): the wall clock makes stamps, and the other one times locks and orders.
use Rattle.std.specs.Prelude.{ℕ, ◌+◌, ◌-◌, List}
use Rattle.run_data.specs.declared.run.RepoView.{RepoView}
use Rattle.run_data.specs.Repos.{offset_of}

-- how long a hold lasts, in milliseconds of its repository's clock: ten minutes
abbrev pub hold_time : ℕ
hold_time = 600000

-- the wall clock of r, which makes stamps
abbrev pub wall : List RepoView → ℕ → ℕ → ℕ
wall repos r time = time + offset_of repos r

-- a clock was set at this time to this number, and has run on since
pub record ClockSet : Type 0 where
  pub at : ℕ
  pub to : ℕ

abbrev pub runs_on : ClockSet → ℕ → ℕ
runs_on c time = (time - c.at) + c.to
