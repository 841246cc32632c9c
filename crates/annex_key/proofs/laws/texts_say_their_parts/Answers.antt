-- What the proof of `laws::texts_say_their_parts` needs beside the tactics.
use Rattle.std.proofs.Common.{refl}
use Rattle.annex_key.specs.KeyText.{key_text}
use Rattle.annex_key.proofs.AnswerLemmas.{backend_part-key, size_part-key, name_part-key}
use Rattle.annex_key.proofs.laws.texts_say_their_parts.Goals as goal

pub returns-clause-backend : goal.returns-clause-backend
returns-clause-backend c = λ k is. backend_part-key k (key_text k) is refl

pub returns-clause-size : goal.returns-clause-size
returns-clause-size c = λ k is. size_part-key k (key_text k) is refl

pub returns-clause-name : goal.returns-clause-name
returns-clause-name c = λ k is. name_part-key k (key_text k) is refl
