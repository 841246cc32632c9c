-- A fleet does the lines of a script.
use Rattle.fleet_model.proofs.Beside.{entered, marked, waited}
use Rattle.fleet_model.proofs.DirectContents.{content_comes, content_stops, part_comes, part_stops}
use Rattle.fleet_model.proofs.Directs.{line_comes, setting_comes}
use Rattle.fleet_model.proofs.DirectWalks.{compact_comes, merge_comes}
use Rattle.fleet_model.proofs.FailsNext.{fail_comes}
use Rattle.fleet_model.proofs.JobBegins.{begin_comes, begin_stops}
use Rattle.fleet_model.proofs.States.{state_is}
use Rattle.fleet_model.proofs.laws.fleets_do_lines.Goals as goal

pub returns-clause-line : goal.returns-clause-line
returns-clause-line g c = line_comes (record { quiet = c.words_stay_with_frames.ensures.quiet; other = c.heard_words_are_told.ensures.other; beside = c.heard_words_are_told.ensures.beside; begun = c.heard_words_are_told.ensures.begun; paths = c.jobs_keep_their_paths.ensures.entries; marks = c.jobs_keep_their_paths.ensures.tree })

pub returns-clause-setting : goal.returns-clause-setting
returns-clause-setting g c = setting_comes (record { quiet = c.words_stay_with_frames.ensures.quiet; other = c.heard_words_are_told.ensures.other; beside = c.heard_words_are_told.ensures.beside; begun = c.heard_words_are_told.ensures.begun; paths = c.jobs_keep_their_paths.ensures.entries; marks = c.jobs_keep_their_paths.ensures.tree })

pub returns-clause-merge : goal.returns-clause-merge
returns-clause-merge g c = merge_comes (record { quiet = c.words_stay_with_frames.ensures.quiet; other = c.heard_words_are_told.ensures.other; beside = c.heard_words_are_told.ensures.beside; begun = c.heard_words_are_told.ensures.begun; paths = c.jobs_keep_their_paths.ensures.entries; marks = c.jobs_keep_their_paths.ensures.tree })

pub returns-clause-compact : goal.returns-clause-compact
returns-clause-compact g c = compact_comes (record { quiet = c.words_stay_with_frames.ensures.quiet; other = c.heard_words_are_told.ensures.other; beside = c.heard_words_are_told.ensures.beside; begun = c.heard_words_are_told.ensures.begun; paths = c.jobs_keep_their_paths.ensures.entries; marks = c.jobs_keep_their_paths.ensures.tree })

pub returns-clause-content : goal.returns-clause-content
returns-clause-content g c = content_comes (record { quiet = c.words_stay_with_frames.ensures.quiet; other = c.heard_words_are_told.ensures.other; beside = c.heard_words_are_told.ensures.beside; begun = c.heard_words_are_told.ensures.begun; paths = c.jobs_keep_their_paths.ensures.entries; marks = c.jobs_keep_their_paths.ensures.tree })
    (record { states_agree = c.carried_states_agree.ensures.states; steps_agree = c.carried_states_agree.ensures.steps })

pub returns-clause-content_stops : goal.returns-clause-content_stops
returns-clause-content_stops g c = content_stops (record { quiet = c.words_stay_with_frames.ensures.quiet; other = c.heard_words_are_told.ensures.other; beside = c.heard_words_are_told.ensures.beside; begun = c.heard_words_are_told.ensures.begun; paths = c.jobs_keep_their_paths.ensures.entries; marks = c.jobs_keep_their_paths.ensures.tree })
    (record { states_agree = c.carried_states_agree.ensures.states; steps_agree = c.carried_states_agree.ensures.steps })

pub returns-clause-part : goal.returns-clause-part
returns-clause-part g c = part_comes (record { quiet = c.words_stay_with_frames.ensures.quiet; other = c.heard_words_are_told.ensures.other; beside = c.heard_words_are_told.ensures.beside; begun = c.heard_words_are_told.ensures.begun; paths = c.jobs_keep_their_paths.ensures.entries; marks = c.jobs_keep_their_paths.ensures.tree })
    (record { states_agree = c.carried_states_agree.ensures.states; steps_agree = c.carried_states_agree.ensures.steps })

pub returns-clause-part_stops : goal.returns-clause-part_stops
returns-clause-part_stops g c = part_stops (record { quiet = c.words_stay_with_frames.ensures.quiet; other = c.heard_words_are_told.ensures.other; beside = c.heard_words_are_told.ensures.beside; begun = c.heard_words_are_told.ensures.begun; paths = c.jobs_keep_their_paths.ensures.entries; marks = c.jobs_keep_their_paths.ensures.tree })
    (record { states_agree = c.carried_states_agree.ensures.states; steps_agree = c.carried_states_agree.ensures.steps })

pub returns-clause-job : goal.returns-clause-job
returns-clause-job g c tells given d r n m was after number job paths h step named parts numbered free on is early few sound =
    begin_comes (record { quiet = c.words_stay_with_frames.ensures.quiet; other = c.heard_words_are_told.ensures.other; beside = c.heard_words_are_told.ensures.beside; begun = c.heard_words_are_told.ensures.begun; paths = c.jobs_keep_their_paths.ensures.entries; marks = c.jobs_keep_their_paths.ensures.tree })
    tells given d r n m was after number job paths h step named
    (state_is (record { states_agree = c.carried_states_agree.ensures.states; steps_agree = c.carried_states_agree.ensures.steps }) given d r n h.sound (h.each r n step.before).history)
    parts.works (c.sound_drivers_keep_their_jobs.ensures.numbers given d r h.sound) numbered free on is early few sound

pub returns-clause-no_slot : goal.returns-clause-no_slot
returns-clause-no_slot g c tells given d r n m was after job h step parts full is early few sound =
    begin_stops (record { quiet = c.words_stay_with_frames.ensures.quiet; other = c.heard_words_are_told.ensures.other; beside = c.heard_words_are_told.ensures.beside; begun = c.heard_words_are_told.ensures.begun; paths = c.jobs_keep_their_paths.ensures.entries; marks = c.jobs_keep_their_paths.ensures.tree })
    tells given d r n m was after job h step
    (state_is (record { states_agree = c.carried_states_agree.ensures.states; steps_agree = c.carried_states_agree.ensures.steps }) given d r n h.sound (h.each r n step.before).history)
    parts.works full is early few sound

pub returns-clause-fail : goal.returns-clause-fail
returns-clause-fail g c = fail_comes

pub returns-clause-wait : goal.returns-clause-wait
returns-clause-wait g c = waited (record { quiet = c.words_stay_with_frames.ensures.quiet; other = c.heard_words_are_told.ensures.other; beside = c.heard_words_are_told.ensures.beside; begun = c.heard_words_are_told.ensures.begun; paths = c.jobs_keep_their_paths.ensures.entries; marks = c.jobs_keep_their_paths.ensures.tree })

pub returns-clause-entered : goal.returns-clause-entered
returns-clause-entered g c = entered (record { quiet = c.words_stay_with_frames.ensures.quiet; other = c.heard_words_are_told.ensures.other; beside = c.heard_words_are_told.ensures.beside; begun = c.heard_words_are_told.ensures.begun; paths = c.jobs_keep_their_paths.ensures.entries; marks = c.jobs_keep_their_paths.ensures.tree })

pub returns-clause-mark : goal.returns-clause-mark
returns-clause-mark g c = marked
