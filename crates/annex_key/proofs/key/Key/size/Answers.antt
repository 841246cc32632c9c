-- What the proof of `key::Key::size` needs beside the tactics.
use Rattle.std.proofs.Common.{sym, ap, ◌∙◌}
use Rattle.annex_key.specs.View.{or_none}
use Rattle.annex_key.proofs.AnswerLemmas.{size_part-key}
use Rattle.annex_key.proofs.key.Key.size.Goals as goal

pub returns-clause-spelled : goal.returns-clause-spelled
returns-clause-spelled c = λ k is spelled. sym (ap or_none c.self.invariant) ∙ size_part-key k c.self.inside.text.items is (c.self.view_is ∙ spelled)
