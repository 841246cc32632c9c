-- What the proof of `naming::enter` needs beside the tactics.
use Rattle.std.proofs.Common.{ℕ, List, [], ◌∷◌, ◌++◌, ap, length, refl, subst, sym, ◌∙◌}
use Rattle.fleet_entries.specs.Stored.{StoreView, store_view}
use Rattle.run_data.specs.declared.run.TreeMark.{TreeMark}
use Rattle.run_paths.specs.Paths.{IsIndexOf}
use Rattle.driver_model.specs.ScriptSteps.{enters}
use Rattle.fleet_entries.specs.Fleets.{FleetView}
use Rattle.fleet_entries.specs.AtDriver.{GoesOn}
use Rattle.fleet_keys.proofs.NamedPaths.{enters_on, names_behind, paths_named, run_named}
use Rattle.fleet_entries.proofs.Full.{behind, ok_or_err, rest_where_same}
use Rattle.fleet_entries.proofs.Starts.{always_err, start_same}
use Rattle.fleet_keys.proofs.naming.enter.Goals as goal

pub returns : goal.returns
returns g c =
    let tells : g.row.K.Denot → StoreView = λ k. store_view (g.K.Keeper.contents k) (g.K.Keeper.parts k) (g.K.Keeper.failing k) (g.K.Keeper.faults k) in
    let was : FleetView g.row.K.Denot = record { nodes = c.running.inside.nodes; run = c.running.inside.run } in
    let after : FleetView g.row.K.Denot = record { nodes = c.running.inside.nodes; run = record c.running.inside.run { tree = c.push.new.self } } in
    let place = c.made-place.ensures ∙ ap (λ (f : FleetView g.row.K.Denot). length f.run.entries) (sym c.running.view_is) in
    let named = run_named c.running.inside.run c.push.new.self c.args.path.now c.args.key.now c.in_ok-mark.mark c.made-place.result place c.in_ok-mark.ensures c.in_ok-push.ensures.ok in
    record {
      ok = subst (λ (f : FleetView g.row.K.Denot). GoesOn tells (λ given d. enters c.args.path.now c.args.key.now d) f after) c.running.view_is
          (enters_on tells was after c.args.path.now c.args.key.now (λ given d. c.fleets_do_lines.ensures.entered tells given d c.args.path.now c.args.key.now was after) (λ given d. c.drivers_stay_sound.ensures.enters given c.args.path.now c.args.key.now d c.requires.key) refl named);
      full = λ r e. absurd (ok_or_err _ _ e);
      stopped = tt;
      rest = names_behind c.args.path.now c.args.key.now c.args.running.now was after c.running.view_is named;
      same = tt;
      count = ap (λ (f : FleetView g.row.K.Denot). length f.nodes) c.running.view_is;
    }

pub returns-in_err-mark-clause-stopped : goal.returns-in_err-mark-clause-stopped
returns-in_err-mark-clause-stopped g c =
    let tells : g.row.K.Denot → StoreView = λ k. store_view (g.K.Keeper.contents k) (g.K.Keeper.parts k) (g.K.Keeper.failing k) (g.K.Keeper.faults k) in
    always_err _ _ (start_same tells (λ given d. enters c.args.path.now c.args.key.now d) c.args.running.now c.args.running.now (λ given d. c.drivers_only_add.ensures.enters c.args.path.now c.args.key.now d) refl)

pub returns-in_err-mark-clause-rest : goal.returns-in_err-mark-clause-rest
returns-in_err-mark-clause-rest g c = behind c.args.running.now c.args.running.now (rest_where_same c.args.running.now c.args.running.now refl)

pub returns-in_err-push-clause-stopped : goal.returns-in_err-push-clause-stopped
returns-in_err-push-clause-stopped g c =
    let tells : g.row.K.Denot → StoreView = λ k. store_view (g.K.Keeper.contents k) (g.K.Keeper.parts k) (g.K.Keeper.failing k) (g.K.Keeper.faults k) in
    let after : FleetView g.row.K.Denot = record { nodes = c.running.inside.nodes; run = record c.running.inside.run { tree = c.push.new.self } } in
    always_err _ _ (start_same tells (λ given d. enters c.args.path.now c.args.key.now d) c.args.running.now after (λ given d. c.drivers_only_add.ensures.enters c.args.path.now c.args.key.now d)
    ((λ i. record c.running.inside.run { tree = c.in_err-push.ensures.err i }) ∙ ap (λ (f : FleetView g.row.K.Denot). f.run) c.running.view_is))

pub returns-in_err-push-clause-rest : goal.returns-in_err-push-clause-rest
returns-in_err-push-clause-rest g c =
    let after : FleetView g.row.K.Denot = record { nodes = c.running.inside.nodes; run = record c.running.inside.run { tree = c.push.new.self } } in
    behind c.args.running.now after (rest_where_same c.args.running.now after ((λ i. record c.running.inside.run { tree = c.in_err-push.ensures.err i }) ∙ ap (λ (f : FleetView g.row.K.Denot). f.run) c.running.view_is))

pub returns-in_err-push-clause-same : goal.returns-in_err-push-clause-same
returns-in_err-push-clause-same g c =
    always_err _ _ ((λ i. record c.running.inside.run { tree = c.in_err-push.ensures.err i }) ∙ ap (λ (f : FleetView g.row.K.Denot). f.run) c.running.view_is)

pub invariant_of-running-2 : goal.invariant_of-running-2
invariant_of-running-2 g c =
    let place = c.made-place.ensures ∙ ap (λ (f : FleetView g.row.K.Denot). length f.run.entries) (sym c.running.view_is) in
    paths_named c.running.inside.run c.push.new.self c.in_ok-mark.mark c.running.inside.index
    (subst (λ (marks : List TreeMark). IsIndexOf marks c.running.inside.index) (sym c.in_ok-push.ensures.ok) (c.trees_have_all_marks_before.ensures.more c.running.inside.run.tree c.in_ok-mark.mark c.running.inside.index c.running.invariant.index_is))
    c.in_ok-push.ensures.ok (ap (λ (mark : TreeMark). mark.place) c.in_ok-mark.ensures ∙ place) c.running.invariant
