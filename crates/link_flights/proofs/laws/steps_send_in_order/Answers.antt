-- What steps take and send.
use Rattle.link_flights.proofs.Stepped.{SendLaws, close_in_order, closes_in_order, first_taken, step_orderly}
use Rattle.link_flights.proofs.laws.steps_send_in_order.Goals as goal

pub returns-clause-takes : goal.returns-clause-takes
returns-clause-takes c links s st k m a v sees made is = first_taken links s k.at_hand m.taken a v sees (λ f took. c.steps_take_what_is_at_hand.ensures.at_hand s st k m f made took) is

pub returns-clause-sends : goal.returns-clause-sends
returns-clause-sends c s st k m a made =
    let laws : SendLaws = record {
      finds = c.steps_find_their_cause.ensures;
      apart = c.ends_are_apart.ensures.job;
      opens = c.steps_open_closed_ends.ensures;
    } in
    step_orderly laws s st k m made a

pub returns-clause-close : goal.returns-clause-close
returns-clause-close c s st a b = close_in_order s st b a

pub returns-clause-crash : goal.returns-clause-crash
returns-clause-crash c s st a = closes_in_order s st (c.ends_are_apart.ensures.all s) a
