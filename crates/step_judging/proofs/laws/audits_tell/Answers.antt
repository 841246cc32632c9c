-- What the proof of `laws::audits_tell` needs beside the tactics.
use Rattle.step_judging.proofs.Audited.{audit_holds}
use Rattle.step_judging.proofs.laws.audits_tell.Goals as goal

pub returns : goal.returns
returns c = audit_holds
