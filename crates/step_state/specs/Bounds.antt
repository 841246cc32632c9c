-- How large the numbers of a repository's state are: they rise with its entries, and its peers are repositories of its run (own).
use Rattle.std.specs.Prelude.{ℕ, ◌+◌, ◌*◌, ◌^◌}
use Rattle.step_state.specs.Counts.{made_in}
use Rattle.step_state.specs.Links as of_links
use Rattle.step_state.specs.Places.{count_in}
use Rattle.step_state.specs.Working as of_working
use Rattle.step_state.specs.Working.{AreWithin}
use Rattle.step_state.specs.declared.counts.Counts.{Counts}
use Rattle.step_state.specs.declared.links.Links.{Links}
use Rattle.step_state.specs.declared.place.Place.{Place}
use Rattle.step_state.specs.declared.working.Working.{Working}

-- no number of an end and no place in a content has come to this after so many entries
abbrev pub limit_after : ℕ → ℕ
limit_after made = (made + 1) * 2 ^ 66

-- the numbers are below that, and the peers of jobs and of owed lines are of the run
pub record AreBounded (p : Place) (c : Counts) (links : Links) (x : Working) : Type 0 where
  pub links_below : of_links.AreBelow (limit_after (made_in c)) links
  pub jobs_below : of_working.AreBelow (limit_after (made_in c)) x
  pub within : AreWithin (count_in p) x
