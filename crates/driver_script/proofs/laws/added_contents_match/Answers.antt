-- The key of a file that is added is made of its content.
use Rattle.driver_script.proofs.StandingLemmas.{made_is}
use Rattle.driver_script.proofs.laws.added_contents_match.Goals as goal

pub returns : goal.returns
returns c = λ context r path key content stands.
    made_is (record { faultless = λ key text. (c.key_texts_have_no_fault.ensures.sound key).1 text; made = c.made_keys_match.ensures.key; matching = c.made_keys_match.ensures.matching }) path key content stands.2 stands.3
