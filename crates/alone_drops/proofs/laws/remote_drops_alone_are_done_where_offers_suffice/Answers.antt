-- A remote drop that ran alone.
use Rattle.drop_proof.specs.declared.rule.Side.TheVariants.{Remote}
use Rattle.alone_drops.proofs.Ending.{allowed_alone, done_alone, remote_aims}
use Rattle.alone_drops.proofs.laws.remote_drops_alone_are_done_where_offers_suffice.Goals as goal

pub returns-clause-done : goal.returns-clause-done
returns-clause-done c run first last a j what outcome is x to to_is three may offers =
    let reads = c.sent_messages_are_read.ensures.read in
    let others = c.others_change_nothing.ensures in
    done_alone reads others run is first last a j what outcome x Remote to (remote_aims reads others run is first last a j what outcome x to to_is) (λ remote. record { three = three; may = may }) (λ local. absurd (cc)) may offers

pub returns-clause-only : goal.returns-clause-only
returns-clause-only c run first last a j what outcome is x to to_is three may done =
    let reads = c.sent_messages_are_read.ensures.read in
    let others = c.others_change_nothing.ensures in
    (allowed_alone reads others run is first last a j what outcome x Remote to (remote_aims reads others run is first last a j what outcome x to to_is) (λ remote. record { three = three; may = may }) done).1
