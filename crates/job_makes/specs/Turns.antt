-- What the step of a job reads, as data, and the turn of the definitions that these are (own).
use Rattle.std.specs.Prelude.{◌≡◌, ℕ, List, Option, None, is_some, slice_get, unwrap_or}
use Rattle.annex_base.specs.declared.kinds.Word.{Word}
use Rattle.run_data.specs.declared.entry.Entry.{Entry}
use Rattle.run_data.specs.declared.run.RepoView.{RepoView}
use Rattle.node_model.specs.JobStep as steps
use Rattle.node_model.specs.JobStep.{turn_of}
use Rattle.node_model.specs.Look.{Look}
use Rattle.node_model.specs.SetUp.{SetUp}
use Rattle.node_model.specs.State.{State}
use Rattle.step_judging.specs.Telling.{look_of}
use Rattle.state_ends.specs.Ends.{end_of}
use Rattle.state_jobs.specs.Works.{work_of}
use Rattle.state_jobs.specs.declared.work.Work.{Work}
use Rattle.state_rows.specs.Rows.{bar_of, holds_of, size_of}
use Rattle.state_works.specs.Jobs.{works_of}
use Rattle.step_state.specs.States.{clock_of, made_of}
use Rattle.step_state.specs.declared.state.RepoState.{RepoState}
use Rattle.job_makes.specs.declared.turn.Turn.{Turn}

-- the word beside what the repository of this number answered, among these in order of number
abbrev pub word_in : List (Option Word) → ℕ → Option Word
word_in words c = unwrap_or (slice_get words c) None

-- the set-up and the state, with what the data have of them
abbrev pub set_up_in : Turn → SetUp → SetUp
set_up_in x s = record s { number = x.repo; repos = x.repos.now }

abbrev pub state_in : Turn → State → State
state_in x st = record st {
  clock = clock_of x.state.now;
  made = made_of x.state.now;
  present = λ key. is_some (size_of x.rows.now key);
  bar = bar_of x.rows.now;
  content = size_of x.rows.now;
  holds = holds_of x.rows.now;
  ends = end_of x.ends.now;
  works = works_of x.jobs.now;
}

-- the turn that the job has there, by the look that the entry tells of
abbrev pub turn_in : Turn → SetUp → State → steps.Turn
turn_in x s st =
    turn_of (set_up_in x s) (state_in x st) (look_of (state_in x st) (word_in x.words.now) x.told.now) (work_of x.work.now)

-- the data are these
pub record IsGiven (x : Turn) (all : List RepoView) (here : RepoState) (w : Work) (told_words : List (Option Word)) (e : Entry) : Type 0 where
  pub repos : x.repos.now ≡ all
  pub state : x.state.now ≡ here
  pub work : x.work.now ≡ w
  pub words : x.words.now ≡ told_words
  pub told : x.told.now ≡ e
