-- The fleet has done the commands before those that are left.
use Rattle.std.proofs.Common.{drop}
use Rattle.fleet_run.specs.Stored.{store_view}
use Rattle.annex_cli.specs.Doing.{HasDone}
use Rattle.annex_cli.proofs.runs.run_lines.Given as goal

abbrev pub invariant-loop-command : goal.invariant-loop-command
invariant-loop-command g l =
    HasDone (λ k. store_view (g.K.Keeper.contents k) (g.K.Keeper.parts k) (g.K.Keeper.failing k) (g.K.Keeper.faults k)) l.commands (drop l.command-index l.commands) l.fleet
