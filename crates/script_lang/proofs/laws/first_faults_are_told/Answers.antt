-- What the proof of `laws::first_faults_are_told` needs beside the tactics.
use Rattle.std.proofs.Common.{length, ◌+◌, arith}
use Rattle.script_lang.specs.Script.{no_lines}
use Rattle.script_lang.proofs.LawLemmas.{first_fault}
use Rattle.script_lang.proofs.laws.first_faults_are_told.Goals as goal

pub returns : goal.returns
returns c before more line state fault behind wrong = first_fault before more line no_lines state 1 (length before + 1) fault (omega arith) behind wrong
