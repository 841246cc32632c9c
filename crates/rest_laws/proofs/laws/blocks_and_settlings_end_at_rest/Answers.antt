-- At the end of a block, and behind a settling, the run is at rest.
use Rattle.driver_model.specs.Rounds.{settles}
use Rattle.rest_laws.proofs.laws.blocks_and_settlings_end_at_rest.Goals as goal

pub returns-clause-block : goal.returns-clause-block
returns-clause-block c g xs d after run block sound same =
    let settled = c.drivers_settle.ensures.block g xs d after block in
    (c.settled_drivers_are_at_rest.ensures.jobs g after sound settled, c.settled_drivers_are_at_rest.ensures.rest g after run sound settled same)

pub returns-clause-settling : goal.returns-clause-settling
returns-clause-settling c g d run few short sound same =
    let settled = c.drivers_settle.ensures.settling g d few short in
    (c.settled_drivers_are_at_rest.ensures.jobs g (settles g d) sound settled, c.settled_drivers_are_at_rest.ensures.rest g (settles g d) run sound settled same)
