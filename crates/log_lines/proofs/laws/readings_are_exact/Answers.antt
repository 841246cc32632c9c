-- What the proof of `laws::readings_are_exact` needs beside the tactics.
use Rattle.log_lines.proofs.NewestLemmas.{reading_same, newest_reading, newest_of_found, newest_of_none}
use Rattle.log_lines.proofs.laws.readings_are_exact.Goals as goal

pub returns-clause-one : goal.returns-clause-one
returns-clause-one c = reading_same

pub returns-clause-reading : goal.returns-clause-reading
returns-clause-reading c = newest_reading

pub returns-clause-found : goal.returns-clause-found
returns-clause-found c = newest_of_found

pub returns-clause-nothing : goal.returns-clause-nothing
returns-clause-nothing c = newest_of_none
