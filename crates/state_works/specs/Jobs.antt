-- The running jobs of one repository as data, and the works of a state that they are (own).
use Rattle.std.specs.Prelude.{◌≡◌, ℕ, ◌<◌, List, map, Option, Some, None, vec_len, vec_capacity}
use Rattle.std.specs.Option.{option_map}
use Rattle.annex_base.specs.Lists.{Each}
use Rattle.run_data.specs.declared.entry.Entry.{Entry}
use Rattle.run_data.specs.declared.entry.EntryKind.{EntryKind}
use Rattle.run_data.specs.declared.entry.EntryKind.TheVariants.{Begin}
use Rattle.node_model.specs.Jobs as jobs
use Rattle.node_model.specs.Jobs.{new_work}
use Rattle.node_model.specs.State.{State}
use Rattle.state_jobs.specs.Around.{IsTalkOf}
use Rattle.state_jobs.specs.Phases.{IsBelow}
use Rattle.state_jobs.specs.Works.{HasRoom, work_of}
use Rattle.state_works.specs.declared.jobs.JobChange.{JobChange}
use Rattle.state_works.specs.declared.jobs.Jobs.{Jobs}

-- the running jobs, the newest first
abbrev pub works_of : Jobs → List jobs.Work
works_of x = map work_of x.running.items

-- these are the works of the state
pub record AreWorksOf (x : Jobs) (st : State) : Type 0 where
  pub works : st.works ≡ works_of x

-- no job has come to this place of a content
abbrev pub AreBelow : ℕ → Jobs → Type 0
AreBelow limit x = Each (λ w. IsBelow limit w.phase) x.running.items

-- the job that an entry of this kind begins
abbrev pub begun_in : List jobs.Work → EntryKind → Option jobs.Work
begun_in was (Begin job what) = Some (new_work was job what)
begun_in was kind = None

-- it is what the entry adds, where these jobs run
pub record IsChangeOf (was : List jobs.Work) (e : Entry) (change : JobChange) : Type 0 where
  pub begun : option_map work_of change.begun ≡ begun_in was e.kind
  pub talk : IsTalkOf e change.talk

-- there is room for a job, and for what each job hears next
pub record HasRoomForAll (x : Jobs) : Type 0 where
  pub jobs : vec_len x.running < vec_capacity x.running
  pub each : Each HasRoom x.running.items

-- they are what they were, but for the room that they have
pub record StaySame (was now : Jobs) : Type 0 where
  pub works : works_of now ≡ works_of was
  pub below : (limit : ℕ) → AreBelow limit was → AreBelow limit now
