-- What the proof of `script::put_repos` needs beside the tactics.
use Rattle.std.proofs.Common.{arith}
use Rattle.storm_script.specs.Storm.{repo_line}
use Rattle.storm_text.proofs.Drawn.{line_more}
use Rattle.storm_text.proofs.script.put_repos.Goals as goal

pub loop-repo-preserved : goal.loop-repo-preserved
loop-repo-preserved c = line_more repo_line 0 c.loop-repo.repo c.args.out.now.items c.loop-repo.out.items _ (omega arith) c.loop-repo.invariant c.in_ok-put_repo_line.ensures
