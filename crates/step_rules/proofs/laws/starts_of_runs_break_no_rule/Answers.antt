-- What the proof of `laws::starts_of_runs_break_no_rule` needs beside the tactics.
use Rattle.std.proofs.Common.{◌+◌, subst}
use Rattle.run_model.specs.Run.{IsRun}
use Rattle.step_rules.specs.Runs.{start_of}
use Rattle.step_rules.proofs.Starts.{breaks_none, start_more, start_within}
use Rattle.step_rules.proofs.laws.starts_of_runs_break_no_rule.Goals as goal

pub returns : goal.returns
returns c = λ run place e lawful at.
    breaks_none c.runs_break_no_rule.ensures.next c.jobs_keep_their_paths.ensures.entries (start_of run place) e
    (subst IsRun (start_more run place e at) (c.runs_grow.ensures.start run (place + 1) (start_within run place e at) lawful))
