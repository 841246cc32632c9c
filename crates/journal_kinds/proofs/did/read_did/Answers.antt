-- What the proof of `did::read_did` needs beside the tactics.
use Rattle.journal_kinds.proofs.did.read_did.Goals as goal

pub returns-in-Some : goal.returns-in-Some
returns-in-Some c = λ past are. rw c.in-Some.is (c.read_kind.ensures past are)
