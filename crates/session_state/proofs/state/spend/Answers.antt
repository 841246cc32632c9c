-- By the phase.
use Rattle.std.proofs.Common.{ap}
use Rattle.node_model.specs.Sessions as sessions
use Rattle.session_state.specs.declared.doing.Doing.{Doing}
use Rattle.session_state.specs.Talking.{doing_of, share_in}
use Rattle.session_state.proofs.Leaving.{fill_goes, guarded_goes}
use Rattle.session_state.proofs.state.spend.Goals as goal

pub returns-in-Guards : goal.returns-in-Guards
returns-in-Guards c = λ place own.
    guarded_goes place c.args.doing _ c.args.table.now c.abandon.new.self c.in-Guards.is own c.abandon.ensures.after c.abandon.ensures.owns c.abandon.ensures.others c.abandon.ensures.stored

pub returns-in-Wants : goal.returns-in-Wants
returns-in-Wants c = λ place own.
    fill_goes place c.args.doing _ c.args.table.now c.unfill.new.self (ap share_in c.in-Wants.is) (λ k. ap (λ (d : Doing). sessions.is_filling k (doing_of d)) c.in-Wants.is)
    c.unfill.ensures.off c.unfill.ensures.holds c.unfill.ensures.bars own

pub returns-in-Takes : goal.returns-in-Takes
returns-in-Takes c = λ place own.
    fill_goes place c.args.doing _ c.args.table.now c.unfill-in-Takes.new.self (ap share_in c.in-Takes.is) (λ k. ap (λ (d : Doing). sessions.is_filling k (doing_of d)) c.in-Takes.is)
    c.unfill-in-Takes.ensures.off c.unfill-in-Takes.ensures.holds c.unfill-in-Takes.ensures.bars own

pub returns-in-Took : goal.returns-in-Took
returns-in-Took c = λ place own.
    fill_goes place c.args.doing _ c.args.table.now c.unfill-in-Took.new.self (ap share_in c.in-Took.is) (λ k. ap (λ (d : Doing). sessions.is_filling k (doing_of d)) c.in-Took.is)
    c.unfill-in-Took.ensures.off c.unfill-in-Took.ensures.holds c.unfill-in-Took.ensures.bars own
