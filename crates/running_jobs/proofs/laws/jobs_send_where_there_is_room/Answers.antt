-- The law.
use Rattle.running_jobs.proofs.FirstSteps.{sends_where_room}
use Rattle.running_jobs.proofs.laws.jobs_send_where_there_is_room.Goals as goal

pub returns : goal.returns
returns c s st k jobs m are fit room is = sends_where_room s st k jobs m are c.jobs_send_where_there_is_room.ensures fit room is
