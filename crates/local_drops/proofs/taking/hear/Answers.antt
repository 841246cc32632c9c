-- What is told, case by case.
use Rattle.std.proofs.lemmas.Result.{IfOk-weaker}
use Rattle.annex_base.proofs.Results.{IfOk-both}
use Rattle.drop_phases.specs.Doing.{Takes}
use Rattle.drop_phases.specs.Feeding.{FindsClosed, TakesClose, TakesFed, TakesOther}
use Rattle.drop_phases.proofs.Doings.{fed_closed, fed_message, fed_other}
use Rattle.local_drops.proofs.taking.hear.Goals as goal

pub returns-in-Message-clause-does : goal.returns-in-Message-clause-does
returns-in-Message-clause-does c =
    let w = c.args.worker.now in
    let w' = c.take_message.new.worker in
    let taken = c.args.input.now.taken in
    let time = c.args.input.now.time in
    IfOk-weaker c.take_message.result (Takes time c.args.peer c.in-Message.message w w') (TakesFed time c.args.peer taken w w') (λ out takes. fed_message time c.args.peer c.in-Message.message w w' out taken c.in-Message.is takes)
    c.take_message.ensures.does

pub returns-in-Other-clause-does : goal.returns-in-Other-clause-does
returns-in-Other-clause-does c =
    let w = c.args.worker.now in
    let w' = c.take_other.new.worker in
    let taken = c.args.input.now.taken in
    let time = c.args.input.now.time in
    IfOk-weaker c.take_other.result (TakesOther c.args.peer w w') (TakesFed time c.args.peer taken w w') (λ out takes. fed_other time c.args.peer w w' out taken c.in-Other.is takes)
    c.take_other.ensures.does

pub returns-in-Closed-clause-does : goal.returns-in-Closed-clause-does
returns-in-Closed-clause-does c =
    let w = c.args.worker.now in
    let w' = c.close.new.worker in
    let taken = c.args.input.now.taken in
    let time = c.args.input.now.time in
    IfOk-both c.close.result (TakesClose c.args.peer w w') (FindsClosed c.args.peer w w') (TakesFed time c.args.peer taken w w') (λ out takes here. fed_closed time c.args.peer w w' out taken c.in-Closed.is takes here) c.close.ensures.does
    c.close.ensures.here
