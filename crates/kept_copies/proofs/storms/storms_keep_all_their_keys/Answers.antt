-- What the proof of `storms::storms_keep_all_their_keys` needs beside the tactics.
use Rattle.driver_model.specs.Limits.{limited_run}
use Rattle.kept_copies.specs.Storms.{first_commands, later_commands, storm_commands, storm_keys}
use Rattle.kept_copies.proofs.Keeping.{all_counted}
use Rattle.kept_copies.proofs.Stormy.{firsts_few, firsts_have, firsts_prepare, storms_free}
use Rattle.kept_copies.proofs.storms.storms_keep_all_their_keys.Goals as goal

pub returns-clause-put : goal.returns-clause-put
returns-clause-put c = firsts_have

pub returns-clause-trust : goal.returns-clause-trust
returns-clause-trust c = storms_free

pub returns-clause-kept : goal.returns-clause-kept
returns-clause-kept c g number jobs all is =
    all_counted (limited_run g (storm_commands number jobs)).run storm_keys
    (c.all_contents_put_first_keep_a_copy.ensures.limited g (first_commands number) (later_commands number jobs) storm_keys all is (storms_free number jobs) (firsts_have number)
    (c.all_contents_put_first_keep_a_copy.ensures.uncut g (first_commands number) (firsts_prepare number) (firsts_few number)))
