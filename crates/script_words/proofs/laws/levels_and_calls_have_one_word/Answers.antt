-- What the proof of `laws::levels_and_calls_have_one_word` needs beside the tactics.
use Rattle.script_words.proofs.FieldLemmas.{level_written, level_found, call_written, call_found}
use Rattle.script_words.proofs.laws.levels_and_calls_have_one_word.Goals as goal

pub returns-clause-level : goal.returns-clause-level
returns-clause-level c word level = (level_written word level, λ is. rw is (level_found level))

pub returns-clause-call : goal.returns-clause-call
returns-clause-call c word call = (call_written word call, λ is. rw is (call_found call))
