-- On either way of the content.
use Rattle.std.proofs.Common.{sym, ap, subst, ◌∙◌}
use Rattle.std.specs.Option.{option_to_list}
use Rattle.node_model.specs.JobStep.{turn_of}
use Rattle.node_model.specs.Turns.{needs}
use Rattle.transfer_worker.specs.declared.worker.Worker.{Worker}
use Rattle.transfer_worker.specs.Workers.{CanStep, work_of}
use Rattle.transfer_turns.specs.Turns.{awaited}
use Rattle.std.proofs.Common.{◌≡◌, None}
use Rattle.transfer_worker.proofs.Wanting.{get_needs, put_needs}
use Rattle.transfer_worker.proofs.worker.sends_to.Goals as goal

pub returns-in-Gets : goal.returns-in-Gets
returns-in-Gets g c = λ s st k z.
    let x = g.H.Here.sight c.args.here.now in
    let can = subst (λ (w : Worker). CanStep x w) c.in-Gets.is c.requires.can in
    let free = subst (λ (w : Worker). awaited (work_of w) ≡ None) c.in-Gets.is c.requires.awaits in
    ap option_to_list c.asked_by.ensures ∙ (get_needs x s st k z c.in-Gets.getting can free ∙ ap (λ (w : Worker). needs (turn_of s st k (work_of w)) (work_of w).phase) (sym c.in-Gets.is))

pub returns-in-Puts : goal.returns-in-Puts
returns-in-Puts g c = λ s st k z.
    let x = g.H.Here.sight c.args.here.now in
    let can = subst (λ (w : Worker). CanStep x w) c.in-Puts.is c.requires.can in
    let free = subst (λ (w : Worker). awaited (work_of w) ≡ None) c.in-Puts.is c.requires.awaits in
    ap option_to_list c.offered_by.ensures ∙ (put_needs x s st k z c.in-Puts.putting can.0 can.1 free ∙ ap (λ (w : Worker). needs (turn_of s st k (work_of w)) (work_of w).phase) (sym c.in-Puts.is))
