-- What the proof of `laws::printed_words_say_the_same` needs beside the tactics.
use Rattle.script_words.proofs.SpellingLemmas.{printed_spells}
use Rattle.script_words.proofs.laws.printed_words_say_the_same.Goals as goal

pub returns : goal.returns
returns c = printed_spells
