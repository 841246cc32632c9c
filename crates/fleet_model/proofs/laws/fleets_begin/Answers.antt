-- A fleet of new nodes.
use Rattle.fleet_model.proofs.Firsts.{first_comes}
use Rattle.fleet_model.proofs.laws.fleets_begin.Goals as goal

pub returns : goal.returns
returns g c = first_comes (record { ends = c.ends_begin_without_flights.ensures.all; words = c.words_stay_with_frames.ensures.first; heard = c.heard_words_are_told.ensures.first })
