-- What the proof of `running::since_crash` needs beside the tactics.
use Rattle.std.proofs.Common.{List, reverse, ap, ◌∙◌}
use Rattle.run_data.specs.declared.entry.Entry.{Entry}
use Rattle.run_model.specs.Past.{jobs}
use Rattle.crashed_jobs.proofs.Since.{jobs_since}
use Rattle.crashed_jobs.proofs.running.since_crash.Goals as goal

pub returns-then-is_crash : goal.returns-then-is_crash
returns-then-is_crash c =
    ap (λ (l : List Entry). jobs (reverse l) c.args.repo) c.split_at.ensures.back
    ∙ jobs_since c.args.before.now c.loop-last.rest.now c.in-Some.earlier.now c.in-Some.last.now c.args.repo c.loop-last.invariant c.in-Some.ensures.cases.0
    (c.is_crash.ensures c.if-is_crash.true (reverse c.in-Some.earlier.now))
