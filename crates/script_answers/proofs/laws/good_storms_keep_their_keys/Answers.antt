-- The text of a storm is a script of its commands, whose run is one of repositories, so it keeps its keys.
use Rattle.driver_script.specs.Inputs.{driver_input_of}
use Rattle.kept_copies.specs.Storms.{storm_commands}
use Rattle.storm_script.specs.Storm.{storm_text}
use Rattle.script_answers.proofs.laws.good_storms_keep_their_keys.Goals as goal

pub returns : goal.returns
returns c = λ number jobs good.
    let script = storm_commands number jobs in
    let is = c.storms_say_their_commands.ensures number jobs in
    c.storms_keep_all_their_keys.ensures.kept (driver_input_of script) number jobs (c.scripts_may_be_driven.ensures.lines (storm_text number jobs) script is) (good script is).is_run
