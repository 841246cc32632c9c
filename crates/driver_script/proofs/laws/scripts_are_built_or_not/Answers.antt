-- A reading is one thing, and so is the first place that it gives; without a first all are built.
use Rattle.std.proofs.Common.{◌≡◌, List, None, Some, ap, sym, ◌∙◌}
use Rattle.script_commands.specs.declared.command.Command.{Command}
use Rattle.script_lang.specs.Script.{Reading, Commands}
use Rattle.driver_script.specs.Lines.{first_unbuilt}
use Rattle.driver_script.proofs.BuiltLemmas.{all_built}
use Rattle.driver_script.proofs.laws.scripts_are_built_or_not.Goals as goal

one_reading : (says : Reading) (all others : List Command) → says ≡ Commands all → says ≡ Commands others → all ≡ others
one_reading says all others is are = let same : Commands all ≡ Commands others = sym is ∙ are in cc

pub returns-clause-one : goal.returns-clause-one
returns-clause-one c = λ text all line is are.
    let same = one_reading _ all are.all is.says are.says in
    absurd (let no : None ≡ Some are.place = sym is.built ∙ (ap first_unbuilt same ∙ are.first) in cc)

pub returns-clause-each : goal.returns-clause-each
returns-clause-each c = all_built
