-- What the proof of `copies::a_copy_stays_where_nobody_is_trusted` needs beside the tactics.
use Rattle.std.proofs.Common.{◌+◌, arith}
use Rattle.kept_copies.proofs.copies.a_copy_stays_where_nobody_is_trusted.Goals as goal

pub returns-clause-stays : goal.returns-clause-stays
returns-clause-stays c run key place later is nobody le h =
    c.a_copy_stays_where_no_drop_counts_trust.ensures run key place later is (c.no_drop_counts_trust_where_nobody_is_trusted.ensures run key later is nobody) le h

pub returns-clause-came : goal.returns-clause-came
returns-clause-came c run key place later size e by is nobody at kind lt =
    c.a_copy_stays_where_no_drop_counts_trust.ensures run key (place + 1) later is (c.no_drop_counts_trust_where_nobody_is_trusted.ensures run key later is nobody)
    (omega (arith, lt)) (c.contents_that_came_are_copies.ensures run key place size e by is at kind)
