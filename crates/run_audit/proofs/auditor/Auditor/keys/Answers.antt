-- What the proof of `auditor::Auditor::keys` needs beside the tactics.
use Rattle.run_audit.proofs.Keys.{all_told}
use Rattle.run_audit.proofs.auditor.Auditor.keys.Goals as goal

pub returns : goal.returns
returns c = all_told c.audits_tell.ensures c.args.self.now c.told.result c.told.ensures.value c.told.ensures.order
