-- What the proof of `declaring::repositories` needs beside the tactics.
use Rattle.std.proofs.Common.{◌++◌, List, ◌∙◌, sym, ap}
use Rattle.std.proofs.lemmas.List.{take_all}
use Rattle.run_data.specs.declared.run.RepoView.{RepoView}
use Rattle.driver_script.specs.Lines.{declared_by, repos_of}
use Rattle.fleet_run.proofs.Declared.{repos_next}
use Rattle.fleet_run.proofs.declaring.repositories.Goals as goal

pub loop-command-preserved : goal.loop-command-preserved
loop-command-preserved c =
    c.in_ok-declare.ensures ∙ ap (λ (rs : List RepoView). rs ++ declared_by c.command-item.result) c.loop-command.invariant
    ∙ sym (repos_next c.args.commands.now c.loop-command.command-index c.command-item.result c.loop-command-test.true c.command-item.is)

pub returns : goal.returns
returns c = c.loop-command.invariant ∙ ap repos_of (take_all c.loop-command.command-index c.args.commands.now c.loop-command-test.false)
