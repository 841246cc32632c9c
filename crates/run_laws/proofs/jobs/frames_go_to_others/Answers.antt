-- With whom a repository speaks.
use Rattle.std.specs.Prelude.{reverse}
use Rattle.run_laws.proofs.Others.{run_sends, run_takes, step_sends, step_takes}
use Rattle.run_laws.proofs.jobs.frames_go_to_others.Goals as goal

pub returns-clause-sent : goal.returns-clause-sent
returns-clause-sent c run e before r is occurs mine = run_sends c.sent_messages_are_read.ensures.read run is.repos (reverse run.entries) is.steps e before r occurs mine

pub returns-clause-taken : goal.returns-clause-taken
returns-clause-taken c run e before r f is occurs mine took = run_takes c.sent_messages_are_read.ensures.read run is.repos (reverse run.entries) is.steps e before r occurs mine f took

pub returns-clause-sends : goal.returns-clause-sends
returns-clause-sends c run r k m is known small makes = step_sends c.sent_messages_are_read.ensures.read run is.repos (reverse run.entries) is.steps r k m known small makes

pub returns-clause-takes : goal.returns-clause-takes
returns-clause-takes c run r k m f is known small makes took = step_takes c.sent_messages_are_read.ensures.read run is.repos (reverse run.entries) is.steps r k m known small makes f took
