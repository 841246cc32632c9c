-- A local drop that ran alone.
use Rattle.drop_proof.specs.declared.rule.Side.TheVariants.{Local}
use Rattle.std.proofs.Common.{refl}
use Rattle.alone_drops.proofs.Ending.{allowed_alone, done_alone, local_aims}
use Rattle.alone_drops.proofs.laws.local_drops_alone_are_done_where_offers_suffice.Goals as goal

pub returns-clause-done : goal.returns-clause-done
returns-clause-done c run first last a j what outcome is x local there may offers =
    let reads = c.sent_messages_are_read.ensures.read in
    let others = c.others_change_nothing.ensures in
    done_alone reads others run is first last a j what outcome x Local a (local_aims reads others run is first last a j what outcome x local) (λ remote. absurd (cc)) (λ at. there) may offers

pub returns-clause-only : goal.returns-clause-only
returns-clause-only c run first last a j what outcome is x local done =
    let reads = c.sent_messages_are_read.ensures.read in
    let others = c.others_change_nothing.ensures in
    let was = allowed_alone reads others run is first last a j what outcome x Local a (local_aims reads others run is first last a j what outcome x local) (λ remote. absurd (cc)) done in
    let row = was.0 refl in
    (row.0, row.1, was.1)
