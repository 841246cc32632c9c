-- What the proof of `judging::asks` needs beside the tactics.
use Rattle.std.proofs.Common.{sym, ap, ◌∙◌}
use Rattle.drop_phases.specs.Standings.{standing_of}
use Rattle.drop_phases.specs.Working.{newest_of}
use Rattle.drop_judging.proofs.Judgings.{asked_none, asked_some}
use Rattle.drop_judging.proofs.judging.asks.Goals as goal

pub returns-in-None : goal.returns-in-None
returns-in-None g c =
    asked_none (g.H.Here.reading c.args.here.now) c.args.worker.now c.args.candidate (sym (ap standing_of c.in-Asked.is) ∙ c.standing.ensures)
    (ap (λ l. newest_of l c.args.candidate) (sym c.heard.ensures) ∙ (sym c.newest.ensures ∙ c.in-None.is))

pub returns-in-Some : goal.returns-in-Some
returns-in-Some g c =
    asked_some (g.H.Here.reading c.args.here.now) c.args.worker.now c.args.candidate _ (sym (ap standing_of c.in-Asked.is) ∙ c.standing.ensures)
    (ap (λ l. newest_of l c.args.candidate) (sym c.heard.ensures) ∙ (sym c.newest.ensures ∙ c.in-Some.is))
