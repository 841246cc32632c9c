-- A fleet takes turns.
use Rattle.fleet_model.proofs.TurnComes.{idle_comes, turn_comes}
use Rattle.fleet_model.proofs.laws.fleets_take_turns.Goals as goal

pub returns-clause-moved : goal.returns-clause-moved
returns-clause-moved g c = turn_comes (record {
  looks = record {
    carried = record { states_agree = c.carried_states_agree.ensures.states; steps_agree = c.carried_states_agree.ensures.steps };
    found = record { found = c.steps_find_their_cause.ensures };
    hand = c.looks_see_the_flights.ensures.at_hand;
  };
  ends = record {
    dropped = c.looks_see_the_flights.ensures.dropped;
    own = c.looks_see_the_flights.ensures.own;
    posted = c.steps_are_posted.ensures;
    moved = c.turns_keep_all_ends.ensures.moved;
    idle = c.turns_keep_all_ends.ensures.idle;
  };
  words = record { quiet = c.words_stay_with_frames.ensures.quiet; other = c.heard_words_are_told.ensures.other; beside = c.heard_words_are_told.ensures.beside; begun = c.heard_words_are_told.ensures.begun; paths = c.jobs_keep_their_paths.ensures.entries; marks = c.jobs_keep_their_paths.ensures.tree };
  found = c.turns_are_found.ensures.moved;
  idle = c.turns_are_found.ensures.idle;
  stays = c.drivers_stay_sound.ensures.turn;
  read = c.heard_words_are_told.ensures.read;
  room = c.looks_see_the_flights.ensures.in_runs;
  own_room = c.sound_drivers_keep_their_jobs.ensures.room;
  sends = c.sound_drivers_keep_their_jobs.ensures.sends;
  takes = c.sound_drivers_keep_their_jobs.ensures.takes;
  dropped = c.dropped_ends_keep_their_flights.ensures.own;
  worded = c.words_stay_with_frames.ensures.moved;
  worded_idly = c.words_stay_with_frames.ensures.idle;
  jobs = c.sound_drivers_keep_their_jobs.ensures.jobs;
  asked = c.sound_drivers_keep_their_jobs.ensures.asked;
  changed = λ s past k m e steps repo kind taken sent jobs w v f in_was in_now number takes. c.heard_words_are_told.ensures.changed s past k m e w v f steps repo kind taken sent jobs in_was in_now number takes;
  stepped = c.heard_words_are_told.ensures.stepped;
  listed = c.ends_are_there.ensures.listed;
})

pub returns-clause-idle : goal.returns-clause-idle
returns-clause-idle g c = idle_comes (record {
  looks = record {
    carried = record { states_agree = c.carried_states_agree.ensures.states; steps_agree = c.carried_states_agree.ensures.steps };
    found = record { found = c.steps_find_their_cause.ensures };
    hand = c.looks_see_the_flights.ensures.at_hand;
  };
  ends = record {
    dropped = c.looks_see_the_flights.ensures.dropped;
    own = c.looks_see_the_flights.ensures.own;
    posted = c.steps_are_posted.ensures;
    moved = c.turns_keep_all_ends.ensures.moved;
    idle = c.turns_keep_all_ends.ensures.idle;
  };
  words = record { quiet = c.words_stay_with_frames.ensures.quiet; other = c.heard_words_are_told.ensures.other; beside = c.heard_words_are_told.ensures.beside; begun = c.heard_words_are_told.ensures.begun; paths = c.jobs_keep_their_paths.ensures.entries; marks = c.jobs_keep_their_paths.ensures.tree };
  found = c.turns_are_found.ensures.moved;
  idle = c.turns_are_found.ensures.idle;
  stays = c.drivers_stay_sound.ensures.turn;
  read = c.heard_words_are_told.ensures.read;
  room = c.looks_see_the_flights.ensures.in_runs;
  own_room = c.sound_drivers_keep_their_jobs.ensures.room;
  sends = c.sound_drivers_keep_their_jobs.ensures.sends;
  takes = c.sound_drivers_keep_their_jobs.ensures.takes;
  dropped = c.dropped_ends_keep_their_flights.ensures.own;
  worded = c.words_stay_with_frames.ensures.moved;
  worded_idly = c.words_stay_with_frames.ensures.idle;
  jobs = c.sound_drivers_keep_their_jobs.ensures.jobs;
  asked = c.sound_drivers_keep_their_jobs.ensures.asked;
  changed = λ s past k m e steps repo kind taken sent jobs w v f in_was in_now number takes. c.heard_words_are_told.ensures.changed s past k m e w v f steps repo kind taken sent jobs in_was in_now number takes;
  stepped = c.heard_words_are_told.ensures.stepped;
  listed = c.ends_are_there.ensures.listed;
})
