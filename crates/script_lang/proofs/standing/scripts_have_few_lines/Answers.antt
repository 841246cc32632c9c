-- Each line gives one command at most.
use Rattle.script_lang.proofs.StandingLines.{few_commands}
use Rattle.script_lang.proofs.VerifyLemmas.{right_is, made_is}
use Rattle.script_lang.proofs.standing.scripts_have_few_lines.Goals as goal

pub returns : goal.returns
returns c =
    few_commands (λ text none. (c.key_texts_have_no_fault.ensures.sound text).0 none)
    (λ key content is. (c.verdicts_are_matches.ensures key content).0 (right_is key content is))
    (λ path content small. made_is path content (c.made_keys_match.ensures.key path content small))
