-- What the proof of `laws::options_are_as_written` needs beside the tactics.
use Rattle.std.proofs.Common.{arith}
use Rattle.std.specs.Prelude.{codes}
use Rattle.script_words.specs.Fields.{greatest_offset}
use Rattle.script_words.proofs.FieldLemmas.{marked_written, marked_found, version_written, version_found}
use Rattle.script_words.proofs.laws.options_are_as_written.Goals as goal

pub returns-clause-offset : goal.returns-clause-offset
returns-clause-offset c word time =
    (marked_written (codes "offset=") word greatest_offset time, λ is. rw is.0 (marked_found (codes "offset=") greatest_offset time is.1 (omega arith)))

pub returns-clause-clock : goal.returns-clause-clock
returns-clause-clock c word time =
    (marked_written (codes "clock=") word greatest_offset time, λ is. rw is.0 (marked_found (codes "clock=") greatest_offset time is.1 (omega arith)))

pub returns-clause-version : goal.returns-clause-version
returns-clause-version c word version = (version_written word version, λ is. rw is.0 (version_found version is.1 is.2))
