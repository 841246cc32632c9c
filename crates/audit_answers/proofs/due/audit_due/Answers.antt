-- What the proof of `due::audit_due` needs beside the tactics.
use Rattle.audit_answers.proofs.due.audit_due.Goals as goal

pub run_due-requires-clause-journal : goal.run_due-requires-clause-journal
run_due-requires-clause-journal c = (c.texts_read_as_their_runs.ensures c.args.bytes.now _).0 c.in-Ok.ensures
