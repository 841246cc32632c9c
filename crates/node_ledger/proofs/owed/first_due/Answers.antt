-- What the proof of `owed::first_due` needs beside the tactics.
use Rattle.std.proofs.Common.{option_map, sym, ap, ◌∙◌}
use Rattle.std.specs.Option.{option_copied}
use Rattle.node_ledger.specs.Debts.{owed_line_of}
use Rattle.node_ledger.proofs.DebtLemmas.{first_is, first_none, first_some}
use Rattle.node_ledger.proofs.owed.first_due.Goals as goal

pub returns-in-Some-clause-first : goal.returns-in-Some-clause-first
returns-in-Some-clause-first c = λ are.
    let p = c.args.past.now in
    first_some p.setup p.history.items c.args.debts.now c.in-Some.debt.now (option_map owed_line_of c.debt_due.result)
    (sym c.first.ensures.value ∙ ap option_copied c.in-Some.is) c.debt_due.ensures.owes are

pub returns-in-Some-clause-among : goal.returns-in-Some-clause-among
returns-in-Some-clause-among c = λ are.
    let p = c.args.past.now in
    c.debt_due.ensures.among (first_is p.setup p.history.items c.args.debts.now c.in-Some.debt.now (sym c.first.ensures.value ∙ ap option_copied c.in-Some.is) are)

pub returns-in-None-clause-first : goal.returns-in-None-clause-first
returns-in-None-clause-first c = λ are.
    let p = c.args.past.now in
    first_none p.setup.number p.history.items c.args.debts.now (sym c.first.ensures.value ∙ ap option_copied c.in-None.is)
