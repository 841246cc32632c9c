-- What the proof of `turn::Turn::owes_none` needs beside the tactics.
use Rattle.std.proofs.Common.{not, sym, ap, ◌∙◌}
use Rattle.job_makes.proofs.PartingLemmas.{nil_owed}
use Rattle.job_makes.proofs.turn.Turn.owes_none.Goals as goal

pub returns : goal.returns
returns c = λ s st. ap not c.owes_some.ensures ∙ sym (nil_owed c.args.self.now s st)
