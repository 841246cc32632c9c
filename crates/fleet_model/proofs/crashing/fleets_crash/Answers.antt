-- A node of a fleet crashes.
use Rattle.fleet_model.proofs.CrashComes.{crash_comes}
use Rattle.fleet_model.proofs.crashing.fleets_crash.Goals as goal

pub returns : goal.returns
returns g c = crash_comes
    (record { in_order = c.steps_send_in_order.ensures.crash; ends = c.turns_keep_all_ends.ensures.closed; words = c.words_stay_with_frames.ensures.closed; numbers = c.ends_are_there.ensures.numbers })
    (record { quiet = c.words_stay_with_frames.ensures.quiet; other = c.heard_words_are_told.ensures.other; beside = c.heard_words_are_told.ensures.beside; begun = c.heard_words_are_told.ensures.begun; paths = c.jobs_keep_their_paths.ensures.entries; marks = c.jobs_keep_their_paths.ensures.tree })
    (record { states_agree = c.carried_states_agree.ensures.states; steps_agree = c.carried_states_agree.ensures.steps })
