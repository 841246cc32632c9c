-- What the proof of `laws::words_are_ahead` needs beside the tactics.
use Rattle.script_words.proofs.PlaceLemmas.{next_ahead, rest_ahead}
use Rattle.script_words.proofs.laws.words_are_ahead.Goals as goal

pub returns-clause-next : goal.returns-clause-next
returns-clause-next c = next_ahead

pub returns-clause-rest : goal.returns-clause-rest
returns-clause-rest c = rest_ahead
