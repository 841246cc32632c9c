-- What the proof of `record::KeyRecord::change` needs beside the tactics.
use Rattle.run_audit.proofs.Changed.{changed, still_few}
use Rattle.run_audit.proofs.record.KeyRecord.change.Goals as goal

pub count-requires : goal.count-requires
count-requires c = still_few c.args.self.now.holders.each.items c.hold.new.self.each.items c.remove_if.new.self.holders.each.items c.requires.many c.hold.ensures.all c.remove_if.ensures.holders.all

pub returns : goal.returns
returns c =
    changed c.args.repo c.args.copy c.args.proof.now c.args.self.now c.hold.new.self c.remove_if.new.self c.count.new.self c.hold.ensures.all c.hold.ensures.each c.remove_if.ensures.holders c.remove_if.ensures.audit
    c.count.ensures.holders c.count.ensures.audit
