-- What the proof of `laws::made_keys_match` needs beside the tactics.
use Rattle.annex_key.specs.KeyText.{key_text}
use Rattle.key_verify.specs.MakingKeys.{made_key}
use Rattle.key_verify.proofs.MadeKeys.{made_key-is, made_matches}
use Rattle.key_verify.proofs.laws.made_keys_match.Goals as goal

pub returns-clause-key : goal.returns-clause-key
returns-clause-key c = made_key-is

pub returns-clause-matching : goal.returns-clause-matching
returns-clause-matching c = λ path bytes small.
    let law = c.texts_say_their_parts.ensures in
    let k = made_key path bytes in
    let is = made_key-is path bytes small in made_matches (key_text k) path bytes (law.backend k is) (law.size k is) (law.name k is)
