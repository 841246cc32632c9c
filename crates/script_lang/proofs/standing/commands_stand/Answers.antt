-- What each command of a text has, from the laws of keys and of their contents.
use Rattle.script_lang.proofs.StandingLines.{text_stands}
use Rattle.script_lang.proofs.VerifyLemmas.{right_is, made_is}
use Rattle.script_lang.proofs.standing.commands_stand.Goals as goal

pub returns : goal.returns
returns c =
    text_stands (λ text none. (c.key_texts_have_no_fault.ensures.sound text).0 none)
    (λ key content is. (c.verdicts_are_matches.ensures key content).0 (right_is key content is))
    (λ path content small. made_is path content (c.made_keys_match.ensures.key path content small))
