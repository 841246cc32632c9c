-- What the proof of `key::Key::text` needs beside the tactics.
use Rattle.std.proofs.Common.{subst}
use Rattle.annex_key.specs.KeyText.{IsKeyText}
use Rattle.annex_key.proofs.AnswerLemmas.{keyed_is}
use Rattle.annex_key.proofs.key.Key.text.Goals as goal

pub returns-clause-key : goal.returns-clause-key
returns-clause-key c = subst IsKeyText c.self.view_is (keyed_is c.self.inside.text.items c.self.inside.size c.self.invariant)
