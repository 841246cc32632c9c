-- What the proof of `begun::put` needs beside the tactics.
use Rattle.journal_kinds.specs.declared.begun.JobName.{JobName}
use Rattle.journal_kinds.proofs.begun.put.Goals as goal

pub returns : goal.returns
returns c = λ r j.
    let updates = rw c.unwrap.ensures at c.insert.ensures.updates in
    let name : JobName = record { repo = r; number = j } in
    updates.0 name
