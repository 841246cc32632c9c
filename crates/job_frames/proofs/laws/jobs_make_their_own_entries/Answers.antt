-- The law.
use Rattle.node_model.specs.JobStep.{turn_of}
use Rattle.job_frames.proofs.Making.{made_number, made_own}
use Rattle.job_frames.proofs.laws.jobs_make_their_own_entries.Goals as goal

pub returns-clause-own : goal.returns-clause-own
returns-clause-own c s st k w m is = made_own (turn_of s st k w) m is

pub returns-clause-number : goal.returns-clause-number
returns-clause-number c s st k w m is = made_number (turn_of s st k w) m is
