-- A step's entry is posted.
use Rattle.link_flights.proofs.Fleet.{step_posted}
use Rattle.link_flights.proofs.Stepped.{SendLaws}
use Rattle.link_flights.proofs.laws.steps_are_posted.Goals as goal

pub returns : goal.returns
returns c =
    let laws : SendLaws = record {
      finds = c.steps_find_their_cause.ensures;
      apart = c.ends_are_apart.ensures.job;
      opens = c.steps_open_closed_ends.ensures;
    } in
    step_posted laws c.steps_take_what_is_at_hand.ensures.at_hand
