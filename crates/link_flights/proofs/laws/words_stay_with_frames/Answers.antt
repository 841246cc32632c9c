-- The words beside the frames at hand.
use Rattle.link_flights.proofs.FleetWords.{words_closed, words_first, words_idle, words_quiet, words_turned}
use Rattle.link_flights.proofs.laws.words_stay_with_frames.Goals as goal

pub returns-clause-first : goal.returns-clause-first
returns-clause-first c = words_first

pub returns-clause-moved : goal.returns-clause-moved
returns-clause-moved c s d was now mine e sender word said known are ends worded by tells posted carried =
    words_turned c.ends_are_there.ensures.listed s d was now known ends are worded e by sender word said mine tells posted carried

pub returns-clause-idle : goal.returns-clause-idle
returns-clause-idle c s d was now known are ends worded carried = words_idle c.ends_are_there.ensures.listed s d was now known ends are worded carried

pub returns-clause-closed : goal.returns-clause-closed
returns-clause-closed c s d was now mine e sender word said known are ends worded by none closes posted carried =
    words_closed c.ends_are_there.ensures.listed s d was now known ends are worded e by sender word said mine none closes posted carried

pub returns-clause-quiet : goal.returns-clause-quiet
returns-clause-quiet c = words_quiet
