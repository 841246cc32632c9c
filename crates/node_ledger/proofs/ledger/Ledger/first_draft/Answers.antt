-- What the proof of `ledger::Ledger::first_draft` needs beside the tactics.
use Rattle.std.proofs.Common.{Option, option_map, subst}
use Rattle.node_ledger.specs.Debts.{owed_line_of}
use Rattle.node_past.specs.Owing.{IsFirstOf}
use Rattle.node_ledger.specs.declared.owed.Due.{Due}
use Rattle.node_ledger.proofs.DebtLemmas.{ok_first}
use Rattle.node_ledger.proofs.ledger.Ledger.first_draft.Goals as goal

pub returns : goal.returns
returns g c =
    let n = c.args.self.now in
    ok_first c.drafted.result n (owed_line_of c.in-Some.due)
    (subst (λ (d : Option Due). IsFirstOf (option_map owed_line_of d) n.owed) c.in-Some.is c.first_due.ensures.first) c.drafted.ensures
