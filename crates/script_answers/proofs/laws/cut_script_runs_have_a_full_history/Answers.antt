-- Each line of a script is one of a run of its repositories.
use Rattle.driver_model.specs.Driver.{at_first}
use Rattle.driver_model.specs.Limits.{limited_run}
use Rattle.driver_script.specs.Inputs.{driver_input_of}
use Rattle.script_answers.proofs.FullLemmas.{full_or_lacking}
use Rattle.script_answers.proofs.GoodLemmas.{all_have_repos}
use Rattle.script_answers.proofs.laws.cut_script_runs_have_a_full_history.Goals as goal

pub returns : goal.returns
returns c = λ bytes script is cut.
    let g = driver_input_of script in
    full_or_lacking script (limited_run g script).run (all_have_repos g script at_first) (c.cut_runs_have_a_full_history.ensures g script (c.scripts_may_be_driven.ensures.lines bytes script is) cut)
