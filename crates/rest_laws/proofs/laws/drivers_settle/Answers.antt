-- A driver settles by its own look, at the end of a block and behind a settling.
use Rattle.std.proofs.Common.{refl}
use Rattle.driver_model.specs.Rounds.{most_rounds}
use Rattle.rest_laws.proofs.Settling.{block_settled, own_settled, rounds_settle}
use Rattle.rest_laws.proofs.Unturned.{at_turn, none}
use Rattle.rest_laws.proofs.laws.drivers_settle.Goals as goal

pub returns-clause-own : goal.returns-clause-own
returns-clause-own c = own_settled

pub returns-clause-only : goal.returns-clause-only
returns-clause-only c g d settled = ((λ r known. at_turn c.settlings_come_to_rest.ensures.idle g d settled r known), (λ r known. none c.settlings_come_to_rest.ensures.idle g d settled r known))

pub returns-clause-block : goal.returns-clause-block
returns-clause-block c = block_settled

pub returns-clause-settling : goal.returns-clause-settling
returns-clause-settling c g d few short =
    rounds_settle c.settlings_come_to_rest.ensures.idle g most_rounds d (c.settlings_come_to_rest.ensures.limited g (record { driver = d; idle = 0 }) most_rounds refl few short)
