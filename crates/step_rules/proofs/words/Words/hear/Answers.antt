-- What the proof of `words::Words::hear` needs beside the tactics.
use Rattle.step_rules.specs.Members.{words_at}
use Rattle.step_rules.proofs.Heard.{heard_then}
use Rattle.step_rules.proofs.words.Words.hear.Goals as goal

pub returns : goal.returns
returns c = λ job k.
    heard_then c.args.hears.job job c.args.hears.peer k c.args.hears.word (words_at c.args.self.now) (words_at c.take_out-words.new.self) (words_at c.put.new.self) c.take_out-words.result.items
    c.take_out-words.ensures.value c.requires.1 c.take_out-words.ensures.out c.put.ensures.words
