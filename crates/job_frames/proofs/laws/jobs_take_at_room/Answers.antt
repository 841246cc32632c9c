-- The law.
use Rattle.node_model.specs.JobStep.{turn_of}
use Rattle.job_frames.proofs.Making.{made_takes}
use Rattle.job_frames.proofs.laws.jobs_take_at_room.Goals as goal

pub returns : goal.returns
returns c s st k w m f is taken = made_takes (turn_of s st k w) m is f taken
