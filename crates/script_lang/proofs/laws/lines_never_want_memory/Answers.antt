-- What the proof of `laws::lines_never_want_memory` needs beside the tactics.
use Rattle.script_lang.proofs.MemoryLemmas.{never_wants}
use Rattle.script_lang.proofs.laws.lines_never_want_memory.Goals as goal

pub returns : goal.returns
returns c = never_wants
