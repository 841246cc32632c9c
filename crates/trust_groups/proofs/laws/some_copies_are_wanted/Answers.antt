-- What the proof of `laws::some_copies_are_wanted` needs beside the tactics.
use Rattle.log_lines.specs.declared.entry.LogKind.TheVariants as kinds
use Rattle.log_lines.specs.declared.entry.Topic.TheVariants as topics
use Rattle.trust_groups.specs.Settings.{entry_in, value_in}
use Rattle.trust_groups.proofs.ClaimLemmas.{some_number}
use Rattle.trust_groups.proofs.laws.some_copies_are_wanted.Goals as goal

pub returns-clause-numcopies : goal.returns-clause-numcopies
returns-clause-numcopies c = λ lines. some_number (value_in (entry_in kinds.Numcopies lines topics.Whole))

pub returns-clause-mincopies : goal.returns-clause-mincopies
returns-clause-mincopies c = λ lines. some_number (value_in (entry_in kinds.Mincopies lines topics.Whole))
