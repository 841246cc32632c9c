-- What the proof of `lines::do_and_mark` needs beside the tactics.
use Rattle.std.proofs.Common.{length, arith}
use Rattle.fleet_entries.specs.Stored.{StoreView, store_view}
use Rattle.driver_model.specs.Driving.{with_mark}
use Rattle.fleet_run.specs.Commands.{does_command}
use Rattle.fleet_entries.specs.AtDriver.{most_lines}
use Rattle.fleet_run.proofs.Cutting.{meets_none}
use Rattle.fleet_entries.proofs.Full.{behind_same, few_in, ok_or_err, same_err}
use Rattle.fleet_entries.proofs.Driving.{driven_within}
use Rattle.fleet_run.proofs.Marked.{driven_behind, driven_marked, marked_once}
use Rattle.fleet_entries.proofs.Ending.{goes_twice}
use Rattle.fleet_entries.proofs.Starts.{always_err, start_kept}
use Rattle.fleet_run.proofs.lines.do_and_mark.Goals as goal

pub do_line-requires-clause-driven : goal.do_line-requires-clause-driven
do_line-requires-clause-driven g c = λ κs lives.
    let tells : g.row.K.Denot → StoreView = λ k. store_view (g.K.Keeper.contents k) (g.K.Keeper.parts k) (g.K.Keeper.failing k) (g.K.Keeper.faults k) in
    let few = c.requires.few in
    driven_within tells (length c.args.running.now.run.marks) most_lines c.args.running.now (omega (arith, few)) c.requires.driven

pub mark-requires : goal.mark-requires
mark-requires g c =
    let tells : g.row.K.Denot → StoreView = λ k. store_view (g.K.Keeper.contents k) (g.K.Keeper.parts k) (g.K.Keeper.failing k) (g.K.Keeper.faults k) in
    record { driven = driven_behind tells c.args.command.now c.requires.may.built c.args.running.now c.do_line.new.running c.requires.few c.requires.driven c.in_ok-do_line.ensures.ok }

pub returns : goal.returns
returns g c =
    let tells : g.row.K.Denot → StoreView = λ k. store_view (g.K.Keeper.contents k) (g.K.Keeper.parts k) (g.K.Keeper.failing k) (g.K.Keeper.faults k) in
    let goes = goes_twice tells (does_command c.args.command.now) (λ g d. with_mark d) c.args.running.now c.do_line.new.running c.mark.new.self c.in_ok-do_line.ensures.ok c.in_ok-mark.ensures.ok in
    record {
      ok = goes;
      marked = driven_marked tells c.args.command.now c.requires.may.built c.args.running.now c.mark.new.self c.runs_are_cut_where_histories_are_full.ensures.marks c.requires.driven goes;
      marks = marked_once tells c.args.command.now c.args.running.now c.mark.new.self c.runs_are_cut_where_histories_are_full.ensures.marks c.requires.driven goes;
      within = meets_none tells c.args.command.now c.args.running.now c.do_line.new.running c.requires.may.built c.runs_are_cut_where_histories_are_full.ensures.few c.in_ok-do_line.ensures.room c.in_ok-do_line.ensures.ok
          (few_in c.running.inside.nodes c.running.inside.run c.do_line.new.running c.running.view_is c.histories_are_few.ensures);
      full = λ r e. absurd (ok_or_err _ _ e);
      stopped = tt;
      kept = tt;
    }

pub returns-in_err-do_line-clause-full : goal.returns-in_err-do_line-clause-full
returns-in_err-do_line-clause-full g c =
    let tells : g.row.K.Denot → StoreView = λ k. store_view (g.K.Keeper.contents k) (g.K.Keeper.parts k) (g.K.Keeper.failing k) (g.K.Keeper.faults k) in
    λ r e. c.do_line.ensures.full r (same_err c.do_line.result c.from_residual.result c.in_err-do_line.field-0.0 _ c.in_err-do_line.was c.from_residual.ensures.1 e)

pub returns-in_err-do_line-clause-stopped : goal.returns-in_err-do_line-clause-stopped
returns-in_err-do_line-clause-stopped g c = always_err _ _ c.in_err-do_line.ensures.stopped

pub returns-in_err-do_line-clause-kept : goal.returns-in_err-do_line-clause-kept
returns-in_err-do_line-clause-kept g c = always_err _ _ c.do_line.ensures.rest

pub returns-in_err-mark-clause-stopped : goal.returns-in_err-mark-clause-stopped
returns-in_err-mark-clause-stopped g c =
    let tells : g.row.K.Denot → StoreView = λ k. store_view (g.K.Keeper.contents k) (g.K.Keeper.parts k) (g.K.Keeper.failing k) (g.K.Keeper.faults k) in
    always_err _ _ (start_kept tells (does_command c.args.command.now) c.args.running.now c.do_line.new.running c.mark.new.self c.in_ok-do_line.ensures.ok c.in_err-mark.ensures.err)

pub returns-in_err-mark-clause-kept : goal.returns-in_err-mark-clause-kept
returns-in_err-mark-clause-kept g c =
    always_err _ _ (behind_same c.args.running.now c.do_line.new.running c.mark.new.self c.do_line.ensures.rest c.in_err-mark.ensures.err)
