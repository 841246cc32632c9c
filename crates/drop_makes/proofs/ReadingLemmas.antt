-- What is kept of the logs for a drop is what the definitions read.
use Rattle.std.proofs.Common.{◌≡◌, ℕ}
use Rattle.node_model.specs.Knows.{standing_of}
use Rattle.node_model.specs.SetUp.{SetUp}
use Rattle.node_model.specs.State.{State}
use Rattle.state_jobs.specs.Works.{work_of}
use Rattle.state_reads.specs.Known.{AreLogsRead, KnownLogs, standing_in}
use Rattle.job_makes.specs.Turns.{set_up_in, state_in, turn_in}
use Rattle.job_makes.specs.declared.turn.Turn.{Turn}
use Rattle.drop_makes.specs.Knowings.{drop_in, reading_in}

standing_is : (x : Turn) (known : KnownLogs) (s : SetUp) (st : State) → AreLogsRead (st.read x.work.now.number) (set_up_in x s) (work_of x.work.now) known
    → (c : ℕ) → standing_of (set_up_in x s) (state_in x st) (work_of x.work.now) c ≡ standing_in known c
unfolding standing_of
standing_is x known s st are c = are.standing c

pub drop_is : (x : Turn) (known : KnownLogs) (s : SetUp) (st : State) → AreLogsRead (st.read x.work.now.number) (set_up_in x s) (work_of x.work.now) known → turn_in x s st ≡ drop_in x known s st
drop_is x known s st are = λ i. record (turn_in x s st) {
  read = record (reading_in x known) { need = are.need i; standing = λ c. standing_is x known s st are c i; requires = are.requires i };
}
