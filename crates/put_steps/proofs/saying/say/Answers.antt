-- That what is said is a line.
use Rattle.std.proofs.Common.{ℕ, List, subst}
use Rattle.transfer_turns.specs.Lines.{AreTransferLines}
use Rattle.put_steps.proofs.Lines.{said_line}
use Rattle.put_steps.proofs.saying.say.Goals as goal

pub new-requires : goal.new-requires
new-requires c = said_line c.args.putting.now.job.key c.args.message (subst (λ (k : List ℕ). AreTransferLines k) c.key.ensures c.reads.ensures) c.requires

pub returns-in_err-new-clause-line : goal.returns-in_err-new-clause-line
returns-in_err-new-clause-line c = said_line c.args.putting.now.job.key c.args.message (subst (λ (k : List ℕ). AreTransferLines k) c.key.ensures c.reads.ensures) c.requires

pub returns-clause-line : goal.returns-clause-line
returns-clause-line c = said_line c.args.putting.now.job.key c.args.message (subst (λ (k : List ℕ). AreTransferLines k) c.key.ensures c.reads.ensures) c.requires
