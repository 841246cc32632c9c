-- What the proof of `two_steps::add` needs beside the tactics.
use Rattle.std.proofs.Common.{ℕ, ◌<◌, subst, sym}
use Rattle.fleet_entries.specs.Stored.{StoreView, store_view}
use Rattle.script_commands.specs.declared.command.Action.TheVariants as actions
use Rattle.script_commands.specs.declared.command.Command.TheVariants as commands
use Rattle.driver_model.specs.ScriptSteps.{enters, has}
use Rattle.fleet_entries.specs.AtDriver.{most_lines}
use Rattle.fleet_run.specs.Commands.{does_command}
use Rattle.fleet_run.proofs.Cutting.{CutLaws, added_cuts, room_added}
use Rattle.fleet_entries.proofs.Driving.{driven_on}
use Rattle.fleet_entries.proofs.Full.{behind_on, same_err}
use Rattle.fleet_entries.proofs.Starts.{always_err, on_err, start_same}
use Rattle.fleet_entries.proofs.Ending.{goes_twice}
use Rattle.fleet_entries.proofs.Ended.{on_ok}
use Rattle.fleet_run.proofs.two_steps.add.Goals as goal

pub place-requires-clause-there : goal.place-requires-clause-there
place-requires-clause-there g c = subst (λ (n : ℕ). c.args.repo < n) (sym c.enter.ensures.count) c.requires.there

pub place-requires-clause-driven : goal.place-requires-clause-driven
place-requires-clause-driven g c =
    let tells : g.row.K.Denot → StoreView = λ k. store_view (g.K.Keeper.contents k) (g.K.Keeper.parts k) (g.K.Keeper.failing k) (g.K.Keeper.faults k) in
    driven_on tells most_lines most_lines (λ given d. enters c.args.path.now c.args.key.now d) c.args.running.now c.enter.new.running (λ given d few. few) c.requires.driven c.in_ok-enter.ensures.ok

pub returns : goal.returns
returns g c =
    let tells : g.row.K.Denot → StoreView = λ k. store_view (g.K.Keeper.contents k) (g.K.Keeper.parts k) (g.K.Keeper.failing k) (g.K.Keeper.faults k) in
    let laws : CutLaws = record { cut = c.runs_are_cut_where_histories_are_full.ensures.cut; entries = c.runs_are_cut_where_histories_are_full.ensures.entries; marks = c.runs_are_cut_where_histories_are_full.ensures.marks; tree = c.runs_are_cut_where_histories_are_full.ensures.tree } in
    let named = c.in_ok-enter.ensures.ok in
    record {
      ok = on_ok c.place.result _ _ c.place.ensures.ok (λ goes. goes_twice tells (λ given d. enters c.args.path.now c.args.key.now d) (λ given d. has given c.args.repo c.args.key.now c.args.content.now d) c.args.running.now c.enter.new.running c.place.new.running named goes);
      room = on_ok c.place.result _ _ c.place.ensures.room (λ room. room_added tells c.args.repo c.args.path.now c.args.key.now c.args.content.now c.args.running.now c.enter.new.running named room);
      full = λ r e. added_cuts tells laws c.args.repo r c.args.path.now c.args.key.now c.args.content.now c.args.running.now c.enter.new.running c.place.new.running named (c.place.ensures.full r e) c.place.ensures.rest;
      stopped = on_err c.place.result _ _ c.place.ensures.stopped (λ stops. λ given d stands. stops given (enters c.args.path.now c.args.key.now d) (named given d stands));
      rest = behind_on c.args.running.now c.enter.new.running c.place.new.running c.enter.ensures.rest c.place.ensures.rest;
    }

pub returns-in_err-enter-clause-full : goal.returns-in_err-enter-clause-full
returns-in_err-enter-clause-full g c = λ r e. absurd (c.enter.ensures.full r (same_err c.enter.result c.from_residual.result c.in_err-enter.field-0.0 _ c.in_err-enter.was c.from_residual.ensures.1 e))

pub returns-in_err-enter-clause-stopped : goal.returns-in_err-enter-clause-stopped
returns-in_err-enter-clause-stopped g c =
    let tells : g.row.K.Denot → StoreView = λ k. store_view (g.K.Keeper.contents k) (g.K.Keeper.parts k) (g.K.Keeper.failing k) (g.K.Keeper.faults k) in
    always_err _ _ (start_same tells (does_command (commands.Does (actions.Add c.args.repo c.args.path.now c.args.key.now c.args.content.now))) c.args.running.now c.enter.new.running
    (λ given d. c.drivers_only_add.ensures.has given c.args.repo c.args.key.now c.args.content.now (enters c.args.path.now c.args.key.now d)) c.in_err-enter.ensures.same)
