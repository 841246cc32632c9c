-- The lines of commands are counted as the commands are.
use Rattle.script_lang.proofs.StandingLines.{text_counts}
use Rattle.script_lang.proofs.VerifyLemmas.{right_is, made_is}
use Rattle.script_lang.proofs.standing.commands_have_lines.Goals as goal

pub returns : goal.returns
returns c =
    text_counts (λ text none. (c.key_texts_have_no_fault.ensures.sound text).0 none)
    (λ key content is. (c.verdicts_are_matches.ensures key content).0 (right_is key content is))
    (λ path content small. made_is path content (c.made_keys_match.ensures.key path content small))
