-- What the proof of `owed::debt_due` needs beside the tactics.
use Rattle.std.proofs.Common.{length}
use Rattle.node_ledger.proofs.DebtLemmas.{own_among}
use Rattle.node_ledger.proofs.owed.debt_due.Goals as goal

pub returns-in-Entry-clause-among : goal.returns-in-Entry-clause-among
returns-in-Entry-clause-among c = λ is.
    own_among c.place_due.result c.number.result (length c.args.past.now.setup.repos) c.place_due.ensures.own c.number.ensures.there
