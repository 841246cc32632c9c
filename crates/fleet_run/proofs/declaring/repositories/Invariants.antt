-- What holds at each turn of the loop of `declaring::repositories`.
use Rattle.std.proofs.Common.{◌≡◌, take}
use Rattle.driver_script.specs.Lines.{repos_of}
use Rattle.fleet_run.proofs.declaring.repositories.Given as goal

abbrev pub invariant-loop-command : goal.invariant-loop-command
invariant-loop-command l = l.repos ≡ repos_of (take l.command-index l.commands)
