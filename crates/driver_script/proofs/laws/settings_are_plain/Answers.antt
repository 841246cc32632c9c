-- Each kind of log has its topics and values.
use Rattle.driver_script.proofs.StandingLemmas.{plain_setting}
use Rattle.driver_script.proofs.laws.settings_are_plain.Goals as goal

pub returns : goal.returns
returns c = plain_setting
