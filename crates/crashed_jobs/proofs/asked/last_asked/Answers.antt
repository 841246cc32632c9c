-- What the proof of `asked::last_asked` needs beside the tactics.
use Rattle.std.proofs.Common.{sym, ◌∙◌}
use Rattle.crashed_jobs.proofs.Requests.{asked_last}
use Rattle.crashed_jobs.proofs.asked.last_asked.Goals as goal

pub returns-then-branch : goal.returns-then-branch
returns-then-branch c =
    asked_last c.args.frame.now c.args.sent.now c.loop-last.rest.now c.in-Some.earlier.now c.in-Some.last.now c.loop-last.invariant c.in-Some.ensures.cases.0
    (sym c.in_ok-asks_on.ensures ∙ c.if-branch.true)
