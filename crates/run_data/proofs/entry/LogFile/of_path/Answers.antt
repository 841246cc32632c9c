-- What the proof of `entry::LogFile::of_path` needs beside the tactics.
use Rattle.std.proofs.Common.{sym, ◌∙◌}
use Rattle.run_data.proofs.FileLemmas.{named_other}
use Rattle.run_data.proofs.entry.LogFile.of_path.Goals as goal

pub returns-in-Some-clause-path : goal.returns-in-Some-clause-path
returns-in-Some-clause-path c = λ line. named_other c.args.path.now c.in-Some.kind line (sym c.named.ensures ∙ c.in-Some.is)
