-- What the proof of `laws::words_are_as_written` needs beside the tactics.
use Rattle.script_words.proofs.SpellingLemmas.{next_found, next_written, blank_found, none_blank, next_wrong}
use Rattle.script_words.proofs.laws.words_are_as_written.Goals as goal

pub returns-clause-word : goal.returns-clause-word
returns-clause-word c line place word = (next_written line place word, next_found line place word)

pub returns-clause-none : goal.returns-clause-none
returns-clause-none c line place = (none_blank line place, blank_found line place)

pub returns-clause-wrong : goal.returns-clause-wrong
returns-clause-wrong c = next_wrong
