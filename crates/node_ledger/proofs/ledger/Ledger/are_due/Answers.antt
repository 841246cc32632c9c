-- What the proof of `ledger::Ledger::are_due` needs beside the tactics.
use Rattle.std.proofs.Common.{Option, option_map, sym, ap, subst}
use Rattle.node_ledger.specs.Debts.{owed_line_of}
use Rattle.node_ledger.specs.Ledgers.{are_due}
use Rattle.node_past.specs.Owing.{IsFirstOf}
use Rattle.node_ledger.specs.declared.owed.Due.{Due}
use Rattle.node_ledger.proofs.DebtLemmas.{due_first}
use Rattle.node_ledger.proofs.ledger.Ledger.are_due.Goals as goal

pub returns-in-None : goal.returns-in-None
returns-in-None g c = λ file here.
    let n = c.args.self.now in
    ap (are_due n file c.args.lines.now)
    (sym (subst (λ (d : Option Due). IsFirstOf (option_map owed_line_of d) n.owed) c.in-None.is c.first_due.ensures.first))

pub returns-in-Some : goal.returns-in-Some
returns-in-Some g c = λ file here.
    let n = c.args.self.now in
    due_first c.pays.result n file c.args.path.now c.args.lines.now (owed_line_of c.in-Some.due) here
    (subst (λ (d : Option Due). IsFirstOf (option_map owed_line_of d) n.owed) c.in-Some.is c.first_due.ensures.first) c.pays.ensures
