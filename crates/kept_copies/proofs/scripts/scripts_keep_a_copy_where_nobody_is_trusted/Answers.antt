-- What the proof of `scripts::scripts_keep_a_copy_where_nobody_is_trusted` needs beside the tactics.
use Rattle.driver_model.specs.Driving.{run_of}
use Rattle.driver_model.specs.Limits.{limited_run}
use Rattle.kept_copies.proofs.scripts.scripts_keep_a_copy_where_nobody_is_trusted.Goals as goal

pub returns-clause-whole : goal.returns-clause-whole
returns-clause-whole c g lines key place later repos all fits none le h =
    c.a_copy_stays_where_nobody_is_trusted.ensures.stays (run_of g lines) key place later (c.driven_runs_are_runs.ensures.run g lines repos all fits)
    (c.scripts_trust_only_by_their_lines.ensures.whole g lines all none) le h

pub returns-clause-limited : goal.returns-clause-limited
returns-clause-limited c g lines key place later repos all fits none le h =
    c.a_copy_stays_where_nobody_is_trusted.ensures.stays (limited_run g lines).run key place later (c.limited_runs_are_runs.ensures g lines repos all fits)
    (c.scripts_trust_only_by_their_lines.ensures.limited g lines all none) le h
