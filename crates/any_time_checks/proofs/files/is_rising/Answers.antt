-- What the proof of `files::is_rising` needs beside the tactics.
use Rattle.std.proofs.Common.{sym}
use Rattle.any_time_checks.proofs.LineLemmas.{rise_same}
use Rattle.any_time_checks.proofs.files.is_rising.Goals as goal

pub loop-line-init : goal.loop-line-init
loop-line-init c = sym (rise_same c.args.lines.now)
