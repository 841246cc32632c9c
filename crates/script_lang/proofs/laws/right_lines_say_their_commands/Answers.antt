-- What the proof of `laws::right_lines_say_their_commands` needs beside the tactics.
use Rattle.script_lang.specs.Script.{no_lines}
use Rattle.script_lang.proofs.LawLemmas.{all_right}
use Rattle.script_lang.proofs.laws.right_lines_say_their_commands.Goals as goal

pub returns : goal.returns
returns c lines state behind shut = all_right lines no_lines state 1 behind shut
