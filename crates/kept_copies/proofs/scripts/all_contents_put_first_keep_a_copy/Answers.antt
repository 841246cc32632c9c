-- What the proof of `scripts::all_contents_put_first_keep_a_copy` needs beside the tactics.
use Rattle.std.specs.Prelude.{◌++◌}
use Rattle.driver_model.specs.Driving.{run_of}
use Rattle.driver_model.specs.Limits.{limited_run}
use Rattle.kept_copies.proofs.Keeping.{limited_keeps, whole_keeps}
use Rattle.kept_copies.proofs.Limited.{first_whole}
use Rattle.kept_copies.proofs.scripts.all_contents_put_first_keep_a_copy.Goals as goal

pub returns-clause-whole : goal.returns-clause-whole
returns-clause-whole c g first rest keys all is none there =
    whole_keeps c.drivers_only_add.ensures.line g first rest keys all there
    (λ key place later. c.a_copy_stays_where_nobody_is_trusted.ensures.stays (run_of g (first ++ rest)) key place later is
    (c.scripts_trust_only_by_their_lines.ensures.whole g (first ++ rest) all none))

pub returns-clause-limited : goal.returns-clause-limited
returns-clause-limited c g first rest keys all is none there whole =
    limited_keeps c.drivers_only_add.ensures.line g first rest keys all there
    (λ key place later. c.a_copy_stays_where_nobody_is_trusted.ensures.stays (limited_run g (first ++ rest)).run key place later is
    (c.scripts_trust_only_by_their_lines.ensures.limited g (first ++ rest) all none))
    whole

pub returns-clause-uncut : goal.returns-clause-uncut
returns-clause-uncut c = first_whole
