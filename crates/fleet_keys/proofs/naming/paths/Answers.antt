-- What the proof of `naming::paths` needs beside the tactics.
use Rattle.std.proofs.Common.{◌≡◌, length, subst}
use Rattle.std.specs.Prelude.{IfOk}
use Rattle.annex_key.specs.Tree.{paths_of}
use Rattle.run_model.specs.Run.{tree_at}
use Rattle.fleet_entries.specs.Fleets.{FleetView}
use Rattle.fleet_keys.proofs.NamedPaths.{paths_found}
use Rattle.fleet_keys.proofs.naming.paths.Goals as goal

pub returns-clause-value : goal.returns-clause-value
returns-clause-value g c =
    subst (λ (f : FleetView g.row.K.Denot). IfOk c.paths.result (λ paths. paths ≡ paths_of (tree_at f.run.tree (length f.run.entries)) c.args.key.now)) c.running.view_is
    (paths_found c.paths.result c.as_slice.result.now c.running.inside.run c.running.inside.index c.args.key.now c.trees_have_all_marks_before.ensures.all c.running.invariant c.as_slice.ensures c.paths.ensures.value)
