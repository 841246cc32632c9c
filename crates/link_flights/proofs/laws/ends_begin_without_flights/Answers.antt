-- The flights at the start, and of what changes none.
use Rattle.link_flights.proofs.Quiet.{all_first, entry_quiet, first_none, made_flights, store_flights}
use Rattle.link_flights.proofs.laws.ends_begin_without_flights.Goals as goal

pub returns-clause-first : goal.returns-clause-first
returns-clause-first c = first_none

pub returns-clause-quiet : goal.returns-clause-quiet
returns-clause-quiet c = entry_quiet

pub returns-clause-store : goal.returns-clause-store
returns-clause-store c = store_flights

pub returns-clause-made : goal.returns-clause-made
returns-clause-made c d st r k m = made_flights st r k m d

pub returns-clause-all : goal.returns-clause-all
returns-clause-all c = all_first
