-- What each command has where it stands, its line has; and the repositories are those that the commands declare.
use Rattle.std.proofs.Common.{◌≡◌, List, None, arith}
use Rattle.script_commands.specs.declared.command.Command.{Command}
use Rattle.script_lang.specs.Script.{no_context}
use Rattle.script_lang.specs.Preconditions.{AllStand}
use Rattle.driver_script.specs.Inputs.{driver_input_of}
use Rattle.driver_script.specs.Lines.{first_unbuilt, repos_of}
use Rattle.driver_script.proofs.BuiltLemmas.{all_built}
use Rattle.driver_script.proofs.DeclaringLemmas.{Declares, all_declare, none_declared}
use Rattle.driver_script.proofs.StandingLemmas.{all_lines}
use Rattle.driver_script.proofs.laws.scripts_may_be_driven.Goals as goal

declared : (all : List Command) → AllStand no_context all → first_unbuilt all ≡ None → Declares (repos_of all)
declared all stand built = all_declare no_context all stand (all_built all built) none_declared

pub returns-clause-repos : goal.returns-clause-repos
returns-clause-repos c = λ text all is. (declared all (c.commands_stand.ensures text all is.says) is.built).each

pub returns-clause-few : goal.returns-clause-few
returns-clause-few c = λ text all is. (declared all (c.commands_stand.ensures text all is.says) is.built).few

pub returns-clause-apart : goal.returns-clause-apart
returns-clause-apart c = λ text all is. (declared all (c.commands_stand.ensures text all is.says) is.built).apart

pub returns-clause-lines : goal.returns-clause-lines
returns-clause-lines c = λ text all is.
    all_lines (record { faultless = λ key text. (c.key_texts_have_no_fault.ensures.sound key).1 text; made = c.made_keys_match.ensures.key; matching = c.made_keys_match.ensures.matching }) (driver_input_of all) no_context all (omega arith) (c.commands_stand.ensures text all is.says) (all_built all is.built)
