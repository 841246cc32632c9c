-- A fleet closes ends of connections.
use Rattle.fleet_model.proofs.CloseComes.{close_comes, none_closed, places_are}
use Rattle.fleet_model.proofs.closing.fleets_close.Goals as goal

pub returns-clause-closes : goal.returns-clause-closes
returns-clause-closes g c = close_comes
    (record { in_order = c.steps_send_in_order.ensures.close; ends = c.turns_keep_all_ends.ensures.closed; words = c.words_stay_with_frames.ensures.closed; stays = c.ends_in_flight_are_carried.ensures; numbers = c.ends_are_there.ensures.numbers; there = c.ends_are_there.ensures.there })
    (record { quiet = c.words_stay_with_frames.ensures.quiet; other = c.heard_words_are_told.ensures.other; beside = c.heard_words_are_told.ensures.beside; begun = c.heard_words_are_told.ensures.begun; paths = c.jobs_keep_their_paths.ensures.entries; marks = c.jobs_keep_their_paths.ensures.tree })
    (record { states_agree = c.carried_states_agree.ensures.states; steps_agree = c.carried_states_agree.ensures.steps }) c.ends_are_there.ensures.listed

pub returns-clause-places : goal.returns-clause-places
returns-clause-places g c = places_are (record { states_agree = c.carried_states_agree.ensures.states; steps_agree = c.carried_states_agree.ensures.steps }) c.ends_are_there.ensures.listed

pub returns-clause-none : goal.returns-clause-none
returns-clause-none g c = none_closed (record { states_agree = c.carried_states_agree.ensures.states; steps_agree = c.carried_states_agree.ensures.steps }) c.ends_are_there.ensures.listed
