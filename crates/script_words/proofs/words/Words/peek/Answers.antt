-- What the proof of `words::Words::peek` needs beside the tactics.
use Rattle.script_words.proofs.PlaceLemmas.{next_ahead}
use Rattle.script_words.proofs.words.Words.peek.Goals as goal

pub returns-clause-ahead : goal.returns-clause-ahead
returns-clause-ahead c = rw (← c.self.view_is, c.find_word.ensures) (next_ahead c.self.inside.line.now c.self.inside.place c.self.invariant)
