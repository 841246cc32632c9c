-- What the proof of `evidence::cause` needs beside the tactics.
use Rattle.std.proofs.Common.{ap, ◌∙◌}
use Rattle.drop_phases.specs.Working.{newest_of}
use Rattle.drop_judging.specs.Judging.{cause_told}
use Rattle.drop_judging.proofs.Evidences.{cause_open}
use Rattle.drop_judging.proofs.evidence.cause.Goals as goal

pub returns-in-Claimed : goal.returns-in-Claimed
returns-in-Claimed g c =
    let r = g.H.Here.reading c.args.here.now in
    let w = c.args.worker.now in
    c.cause_told.ensures ∙ (ap cause_told (c.newest.ensures ∙ ap (λ l. newest_of l c.args.candidate) c.heard.ensures)
    ∙ cause_open r w c.args.candidate c.standing.result c.in-Claimed.is c.standing.ensures)
