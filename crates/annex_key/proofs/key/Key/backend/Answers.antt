-- What the proof of `key::Key::backend` needs beside the tactics.
use Rattle.std.proofs.Common.{ap, ◌∙◌}
use Rattle.annex_key.specs.View.{backend_part}
use Rattle.annex_key.proofs.AnswerLemmas.{backend_part-key}
use Rattle.annex_key.proofs.key.Key.backend.Goals as goal

pub returns-clause-spelled : goal.returns-clause-spelled
returns-clause-spelled c = λ k is spelled.
    c.backend_word.ensures ∙ ap backend_part (c.deref.ensures.value ∙ c.self.view_is) ∙ backend_part-key k c.args.self.now is spelled
