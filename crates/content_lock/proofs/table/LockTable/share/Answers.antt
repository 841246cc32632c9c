-- What the proof of `table::LockTable::share` needs beside the tactics.
use Rattle.std.proofs.Common.{◌+◌}
use Rattle.std.proofs.lemmas.Result.{on_ok_weaker}
use Rattle.content_lock.proofs.StoredLemmas.{share_given, share_others, share_owns}
use Rattle.content_lock.proofs.TurnLemmas.{look_first}
use Rattle.content_lock.proofs.table.LockTable.share.Goals as goal

pub returns-clause-owns : goal.returns-clause-owns
returns-clause-owns g c =
    on_ok_weaker c.hold.result
    (λ after owns. share_owns c.args.self.now c.hold.new.self c.args.number (c.args.now + 600000) c.args.owner c.args.key.now c.in_ok-copy.field-0 c.in_ok-copy.ensures c.requires.fresh after owns)
    c.hold.ensures.after

pub returns-clause-others : goal.returns-clause-others
returns-clause-others g c =
    on_ok_weaker c.hold.result
    (λ after by share differ owns. share_others c.args.self.now c.hold.new.self c.args.number (c.args.now + 600000) c.args.owner c.args.key.now c.in_ok-copy.field-0 c.in_ok-copy.ensures c.requires.fresh after by share differ owns)
    c.hold.ensures.after

pub returns-clause-given : goal.returns-clause-given
returns-clause-given g c =
    on_ok_weaker c.hold.result
    (λ after. share_given c.args.self.now c.hold.new.self c.args.number (c.args.now + 600000) c.args.owner c.args.key.now c.in_ok-copy.field-0 c.in_ok-copy.ensures c.requires.fresh after)
    c.hold.ensures.after

pub returns-clause-failing : goal.returns-clause-failing
returns-clause-failing g c =
    look_first c.hold.result (g.K.Keeper.failing c.args.keeper.now) (g.K.Keeper.failing c.check.new.keeper) (g.K.Keeper.failing c.hold.new.keeper) c.hold.ensures.why c.in-Ok-Present.ensures.failing c.hold.ensures.failing
