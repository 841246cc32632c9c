-- The driver settles by rounds.
use Rattle.fleet_model.proofs.Rounds.{one_more_of_round, one_more_round, one_more_turn, settles_by, settles_early}
use Rattle.fleet_model.proofs.laws.fleets_settle.Goals as goal

pub returns-clause-early : goal.returns-clause-early
returns-clause-early c = settles_early

pub returns-clause-most : goal.returns-clause-most
returns-clause-most c = settles_by

pub returns-clause-round : goal.returns-clause-round
returns-clause-round c = one_more_round

pub returns-clause-turn : goal.returns-clause-turn
returns-clause-turn c = one_more_of_round

pub returns-clause-turns : goal.returns-clause-turns
returns-clause-turns c = one_more_turn
