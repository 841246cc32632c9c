-- The law.
use Rattle.node_model.specs.JobStep.{turn_of}
use Rattle.job_frames.proofs.Making.{made_sends}
use Rattle.job_frames.proofs.laws.jobs_send_where_there_is_room.Goals as goal

pub returns : goal.returns
returns c s st k w m stands is = made_sends (turn_of s st k w) m is stands
