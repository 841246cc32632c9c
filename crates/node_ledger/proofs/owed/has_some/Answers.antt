-- What the proof of `owed::has_some` needs beside the tactics.
use Rattle.std.proofs.Common.{sym, ap, ◌∙◌}
use Rattle.std.specs.Option.{option_copied}
use Rattle.node_ledger.proofs.DebtLemmas.{none_owing, some_owing}
use Rattle.node_ledger.proofs.owed.has_some.Goals as goal

pub returns-in-Some : goal.returns-in-Some
returns-in-Some c = λ s history are. some_owing s history c.args.debts.now _ (sym c.first.ensures.value ∙ ap option_copied c.in-Some.is) are

pub returns-in-None : goal.returns-in-None
returns-in-None c = λ s history are. none_owing s.number history c.args.debts.now (sym c.first.ensures.value ∙ ap option_copied c.in-None.is)
