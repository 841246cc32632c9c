-- What the proof of `asked::last_request` needs beside the tactics.
use Rattle.std.proofs.Common.{option_copied, sym, ap, ◌∙◌}
use Rattle.crashed_jobs.proofs.Requests.{asked_by_it, asked_earlier}
use Rattle.crashed_jobs.proofs.asked.last_request.Goals as goal

pub returns-in-Some-2 : goal.returns-in-Some-2
returns-in-Some-2 c =
    asked_by_it c.args.repo c.args.frame.now c.args.before.now c.loop-last.rest.now c.in-Some.earlier.now c.in-Some.last.now c.loop-last.invariant
    c.in-Some.ensures.cases.0 c.in-Some-2.asked.now (sym c.in_ok-asked.ensures ∙ ap option_copied c.in-Some-2.is)

pub loop-last-preserved : goal.loop-last-preserved
loop-last-preserved c =
    asked_earlier c.args.repo c.args.frame.now c.args.before.now c.loop-last.rest.now c.in-Some.earlier.now c.in-Some.last.now c.loop-last.invariant
    c.in-Some.ensures.cases.0 (sym c.in_ok-asked.ensures ∙ ap option_copied c.in-None.is)
