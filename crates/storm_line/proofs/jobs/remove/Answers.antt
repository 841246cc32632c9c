-- What the proof of `jobs::remove` needs beside the tactics.
use Rattle.std.proofs.Common.{rules}
use Rattle.std.proofs.lemmas.Fn.{filter_same}
use Rattle.storm_line.proofs.jobs.remove.Goals as goal

pub returns-clause-numbers : goal.returns-clause-numbers
returns-clause-numbers c = filter_same _ _ _ (λ x b f' k. search rules) _ _ c.retain.ensures.filtered
