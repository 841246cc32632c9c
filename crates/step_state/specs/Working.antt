-- The running jobs of a repository, what their drops have read and the lines that it owes, as data, and those of a state (own).
use Rattle.std.specs.Prelude.{ℕ}
use Rattle.annex_base.specs.Lists.{Each}
use Rattle.node_model.specs.SetUp.{SetUp}
use Rattle.node_model.specs.State.{State}
use Rattle.state_works.specs.Jobs as of_works
use Rattle.state_works.specs.Jobs.{AreWorksOf, HasRoomForAll, works_of}
use Rattle.state_reads.specs.Reads as of_reads
use Rattle.state_reads.specs.Reads.{HaveReadAs}
use Rattle.state_owed.specs.Owed as of_owed
use Rattle.state_owed.specs.Owed.{AreOwedOf}
use Rattle.state_owed.specs.Changes.{TalksWithin}
use Rattle.step_state.specs.declared.working.Working.{Working}

-- the jobs, what they have read and what is owed are those of the state, with the set-up
pub record AreWorkingOf (x : Working) (s : SetUp) (st : State) : Type 0 where
  pub works : AreWorksOf x.jobs st
  pub reads : HaveReadAs s x.reads st
  pub owed : AreOwedOf x.owed st

-- no job has come to this place of a content
abbrev pub AreBelow : ℕ → Working → Type 0
AreBelow limit x = of_works.AreBelow limit x.jobs

-- the jobs talk with repositories among so many, and the lines are of their copies
pub record AreWithin (count : ℕ) (x : Working) : Type 0 where
  pub jobs : Each (TalksWithin count) (works_of x.jobs)
  pub owed : of_owed.AreWithin count x.owed

-- there is room for what an entry adds
pub record HasRoom (x : Working) : Type 0 where
  pub jobs : HasRoomForAll x.jobs
  pub reads : of_reads.HasRoom x.reads
  pub owed : of_owed.HasRoom x.owed

-- they are what they were, but for the room that they have
pub record StaySame (was now : Working) : Type 0 where
  pub jobs : of_works.StaySame was.jobs now.jobs
  pub reads : of_reads.StaySame was.reads now.reads
  pub owed : of_owed.StaySame was.owed now.owed
