-- A fleet stops where a history is full.
use Rattle.fleet_model.proofs.StopContents.{content_stops_behind}
use Rattle.fleet_model.proofs.StopSteps.{content_asked, crash_stops, job_stops, line_stops, part_asked, setting_stops, turn_stops}
use Rattle.fleet_model.proofs.StopWalks.{compact_stops, merge_stops}
use Rattle.fleet_model.proofs.stops.fleets_stop_at_full_histories.Goals as goal

pub returns-clause-turn : goal.returns-clause-turn
returns-clause-turn g c = turn_stops (record {
  looks = record {
    carried = record { states_agree = c.carried_states_agree.ensures.states; steps_agree = c.carried_states_agree.ensures.steps };
    found = record { found = c.steps_find_their_cause.ensures };
    hand = c.looks_see_the_flights.ensures.at_hand;
  };
  ends = record {
    dropped = c.looks_see_the_flights.ensures.dropped;
    own = c.looks_see_the_flights.ensures.own;
    posted = c.steps_are_posted.ensures;
    moved = c.turns_keep_all_ends.ensures.moved;
    idle = c.turns_keep_all_ends.ensures.idle;
  };
  words = record { quiet = c.words_stay_with_frames.ensures.quiet; other = c.heard_words_are_told.ensures.other; beside = c.heard_words_are_told.ensures.beside; begun = c.heard_words_are_told.ensures.begun; paths = c.jobs_keep_their_paths.ensures.entries; marks = c.jobs_keep_their_paths.ensures.tree };
  found = c.turns_are_found.ensures.moved;
  idle = c.turns_are_found.ensures.idle;
  stays = c.drivers_stay_sound.ensures.turn;
  read = c.heard_words_are_told.ensures.read;
  room = c.looks_see_the_flights.ensures.in_runs;
  own_room = c.sound_drivers_keep_their_jobs.ensures.room;
  sends = c.sound_drivers_keep_their_jobs.ensures.sends;
  takes = c.sound_drivers_keep_their_jobs.ensures.takes;
  dropped = c.dropped_ends_keep_their_flights.ensures.own;
  worded = c.words_stay_with_frames.ensures.moved;
  worded_idly = c.words_stay_with_frames.ensures.idle;
  jobs = c.sound_drivers_keep_their_jobs.ensures.jobs;
  asked = c.sound_drivers_keep_their_jobs.ensures.asked;
  changed = λ s past k m e steps repo kind taken sent jobs w v f in_was in_now number takes. c.heard_words_are_told.ensures.changed s past k m e w v f steps repo kind taken sent jobs in_was in_now number takes;
  stepped = c.heard_words_are_told.ensures.stepped;
  listed = c.ends_are_there.ensures.listed;
}) (record {
  turn_adds = c.steps_add_own_entries.ensures.turn;
  content_adds = c.steps_add_own_entries.ensures.has;
  part_adds = c.steps_add_own_entries.ensures.part;
  merges_add = c.steps_add_own_entries.ensures.merges;
  compacts_add = c.steps_add_own_entries.ensures.compacts;
  merges_start = c.starts_of_steps_stay_sound.ensures.merges;
  compacts_start = c.starts_of_steps_stay_sound.ensures.compacts;
  content_start = c.starts_of_steps_stay_sound.ensures.content;
  asks = c.runs_are_cut_where_histories_are_full.ensures.asks;
  idle = c.settlings_come_to_rest.ensures.idle;
})

pub returns-clause-job : goal.returns-clause-job
returns-clause-job g c = job_stops (record { states_agree = c.carried_states_agree.ensures.states; steps_agree = c.carried_states_agree.ensures.steps })

pub returns-clause-crash : goal.returns-clause-crash
returns-clause-crash g c = crash_stops

pub returns-clause-line : goal.returns-clause-line
returns-clause-line g c = line_stops

pub returns-clause-setting : goal.returns-clause-setting
returns-clause-setting g c = setting_stops

pub returns-clause-asked : goal.returns-clause-asked
returns-clause-asked g c = content_asked (record {
  turn_adds = c.steps_add_own_entries.ensures.turn;
  content_adds = c.steps_add_own_entries.ensures.has;
  part_adds = c.steps_add_own_entries.ensures.part;
  merges_add = c.steps_add_own_entries.ensures.merges;
  compacts_add = c.steps_add_own_entries.ensures.compacts;
  merges_start = c.starts_of_steps_stay_sound.ensures.merges;
  compacts_start = c.starts_of_steps_stay_sound.ensures.compacts;
  content_start = c.starts_of_steps_stay_sound.ensures.content;
  asks = c.runs_are_cut_where_histories_are_full.ensures.asks;
  idle = c.settlings_come_to_rest.ensures.idle;
})

pub returns-clause-part : goal.returns-clause-part
returns-clause-part g c = part_asked (record {
  turn_adds = c.steps_add_own_entries.ensures.turn;
  content_adds = c.steps_add_own_entries.ensures.has;
  part_adds = c.steps_add_own_entries.ensures.part;
  merges_add = c.steps_add_own_entries.ensures.merges;
  compacts_add = c.steps_add_own_entries.ensures.compacts;
  merges_start = c.starts_of_steps_stay_sound.ensures.merges;
  compacts_start = c.starts_of_steps_stay_sound.ensures.compacts;
  content_start = c.starts_of_steps_stay_sound.ensures.content;
  asks = c.runs_are_cut_where_histories_are_full.ensures.asks;
  idle = c.settlings_come_to_rest.ensures.idle;
})

pub returns-clause-merge : goal.returns-clause-merge
returns-clause-merge g c = merge_stops (record {
  turn_adds = c.steps_add_own_entries.ensures.turn;
  content_adds = c.steps_add_own_entries.ensures.has;
  part_adds = c.steps_add_own_entries.ensures.part;
  merges_add = c.steps_add_own_entries.ensures.merges;
  compacts_add = c.steps_add_own_entries.ensures.compacts;
  merges_start = c.starts_of_steps_stay_sound.ensures.merges;
  compacts_start = c.starts_of_steps_stay_sound.ensures.compacts;
  content_start = c.starts_of_steps_stay_sound.ensures.content;
  asks = c.runs_are_cut_where_histories_are_full.ensures.asks;
  idle = c.settlings_come_to_rest.ensures.idle;
})

pub returns-clause-compact : goal.returns-clause-compact
returns-clause-compact g c = compact_stops (record {
  turn_adds = c.steps_add_own_entries.ensures.turn;
  content_adds = c.steps_add_own_entries.ensures.has;
  part_adds = c.steps_add_own_entries.ensures.part;
  merges_add = c.steps_add_own_entries.ensures.merges;
  compacts_add = c.steps_add_own_entries.ensures.compacts;
  merges_start = c.starts_of_steps_stay_sound.ensures.merges;
  compacts_start = c.starts_of_steps_stay_sound.ensures.compacts;
  content_start = c.starts_of_steps_stay_sound.ensures.content;
  asks = c.runs_are_cut_where_histories_are_full.ensures.asks;
  idle = c.settlings_come_to_rest.ensures.idle;
})

pub returns-clause-content : goal.returns-clause-content
returns-clause-content g c = content_stops_behind (record {
  turn_adds = c.steps_add_own_entries.ensures.turn;
  content_adds = c.steps_add_own_entries.ensures.has;
  part_adds = c.steps_add_own_entries.ensures.part;
  merges_add = c.steps_add_own_entries.ensures.merges;
  compacts_add = c.steps_add_own_entries.ensures.compacts;
  merges_start = c.starts_of_steps_stay_sound.ensures.merges;
  compacts_start = c.starts_of_steps_stay_sound.ensures.compacts;
  content_start = c.starts_of_steps_stay_sound.ensures.content;
  asks = c.runs_are_cut_where_histories_are_full.ensures.asks;
  idle = c.settlings_come_to_rest.ensures.idle;
})
    (record { states_agree = c.carried_states_agree.ensures.states; steps_agree = c.carried_states_agree.ensures.steps })
