-- What the proof of `outcome::read_outcome` needs beside the tactics.
use Rattle.journal_jobs.proofs.TableLemmas.{ended_is}
use Rattle.journal_jobs.proofs.outcome.read_outcome.Goals as goal

pub returns : goal.returns
returns c = rw (ended_is c.args.repos.now c.args.own c.args.word.now c.args.bytes.now) c.read_ended.ensures
