-- What a drop reads and knows, as data (own).
use Rattle.std.specs.Prelude.{◌≡◌, ℕ, length}
use Rattle.run_data.specs.declared.job.Cause.{Cause}
use Rattle.node_model.specs.JobStep as steps
use Rattle.node_model.specs.Jobs.{heard_of}
use Rattle.node_model.specs.Knows.{Reading, candidates_by, cause_by, known_by}
use Rattle.node_model.specs.SetUp.{SetUp}
use Rattle.node_model.specs.State.{State}
use Rattle.state_jobs.specs.Works.{work_of}
use Rattle.state_reads.specs.Known.{KnownLogs, standing_in}
use Rattle.step_state.specs.States.{clock_of}
use Rattle.job_makes.specs.Turns.{turn_in, word_in}
use Rattle.job_makes.specs.declared.turn.Turn.{Turn}

-- what the drop reads, which has read this of the logs
abbrev pub reading_in : Turn → KnownLogs → Reading
reading_in x known = record {
  repo = x.repo;
  count = length x.repos.now;
  clock = clock_of x.state.now;
  need = known.need;
  standing = standing_in known;
  requires = known.requires;
}

-- the turn of such a drop
abbrev pub drop_in : Turn → KnownLogs → SetUp → State → steps.Turn
drop_in x known s st = record (turn_in x s st) { read = reading_in x known }

-- why a candidate gave nothing; for private contracts
abbrev pub cause_in : Turn → KnownLogs → ℕ → Cause
cause_in x known c = cause_by (word_in x.words.now c) (standing_in known c) (heard_of (work_of x.work.now) c)
