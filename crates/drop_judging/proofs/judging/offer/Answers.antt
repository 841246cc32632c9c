-- What the proof of `judging::offer` needs beside the tactics.
use Rattle.std.proofs.Common.{Option, sym, ap, ◌∙◌}
use Rattle.drop_phases.specs.declared.phase.Heard.{Heard}
use Rattle.drop_phases.specs.Standings.{standing_of}
use Rattle.drop_phases.specs.Working.{newest_of}
use Rattle.drop_judging.specs.Judging.{offer_heard}
use Rattle.drop_judging.proofs.Judgings.{asked_offer}
use Rattle.drop_judging.proofs.judging.offer.Goals as goal

pub returns-in-Some : goal.returns-in-Some
returns-in-Some g c =
    let r = g.H.Here.reading c.args.here.now in
    let w = c.args.worker.now in
    c.heard_kind.ensures ∙ (ap (λ (o : Option Heard). offer_heard r.clock o) (sym c.in-Some.is ∙ (c.newest.ensures ∙ ap (λ l. newest_of l c.args.candidate) c.heard.ensures))
    ∙ asked_offer r w c.args.candidate (sym (ap standing_of c.in-Asked.is) ∙ c.standing.ensures))

pub returns-in-None : goal.returns-in-None
returns-in-None g c =
    let r = g.H.Here.reading c.args.here.now in
    let w = c.args.worker.now in
    ap (λ (o : Option Heard). offer_heard r.clock o) (sym c.in-None.is ∙ (c.newest.ensures ∙ ap (λ l. newest_of l c.args.candidate) c.heard.ensures))
    ∙ asked_offer r w c.args.candidate (sym (ap standing_of c.in-Asked.is) ∙ c.standing.ensures)
