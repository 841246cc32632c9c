-- What the proof of `running::Running::mark` needs beside the tactics.
use Rattle.std.proofs.Common.{ℕ, ◌∷◌, [], ◌++◌, ◌∙◌, ap, length, refl, subst, sym}
use Rattle.fleet_model.specs.Stored.{StoreView, store_view}
use Rattle.driver_model.specs.Driving.{with_mark}
use Rattle.fleet_model.specs.Fleets.{FleetView}
use Rattle.fleet_entries.specs.AtDriver.{GoesOn}
use Rattle.fleet_entries.proofs.Driving.{marks_on}
use Rattle.fleet_entries.proofs.Starts.{always_err}
use Rattle.fleet_entries.proofs.running.Running.mark.Goals as goal

pub returns : goal.returns
returns g c =
    let tells : g.row.K.Denot → StoreView = λ k. store_view (g.K.Keeper.contents k) (g.K.Keeper.parts k) (g.K.Keeper.failing k) (g.K.Keeper.faults k) in
    let was : FleetView g.row.K.Denot = record { nodes = c.self.inside.nodes; run = c.self.inside.run } in
    let after : FleetView g.row.K.Denot = record { nodes = c.self.inside.nodes; run = record c.self.inside.run { marks = c.push.new.self } } in
    record {
      ok = subst (λ (f : FleetView g.row.K.Denot). GoesOn tells (λ given d. with_mark d) f after) c.self.view_is
          (marks_on tells was after (λ given d. c.fleets_do_lines.ensures.mark tells given d was after) (λ given d. c.drivers_stay_sound.ensures.mark given d) refl
          (λ i. record c.self.inside.run { marks = (c.in_ok-push.ensures.ok ∙ ap (λ (n : ℕ). c.self.inside.run.marks ++ n ∷ []) (c.made-place.ensures ∙ ap (λ (f : FleetView g.row.K.Denot). length f.run.entries) (sym c.self.view_is))) i }));
      err = tt;
    }

pub returns-in_err-push-clause-err : goal.returns-in_err-push-clause-err
returns-in_err-push-clause-err g c =
    always_err _ _ ((λ i. record c.self.inside.run { marks = c.in_err-push.ensures.err i }) ∙ ap (λ (f : FleetView g.row.K.Denot). f.run) c.self.view_is)
