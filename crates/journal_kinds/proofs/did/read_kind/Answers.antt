-- What the proof of `did::read_kind` needs beside the tactics.
use Rattle.journal_kinds.proofs.RowLemmas.{rows_are}
use Rattle.journal_kinds.proofs.did.read_kind.Goals as goal

pub returns : goal.returns
returns c = λ past are.
    rw (← rows_are c.args.repos.now c.args.tree.now past c.args.begun.now c.args.own c.args.bytes.now are) c.read_rows.ensures
