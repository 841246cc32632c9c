-- What the proof of `lines::do_line` needs beside the tactics.
use Rattle.std.proofs.Common.{refl}
use Rattle.fleet_entries.specs.Stored.{StoreView, store_view}
use Rattle.script_commands.specs.declared.command.Command.TheVariants as commands
use Rattle.fleet_run.proofs.Commands.{as_form, may_as, never_unbuilt, quiet_stays, stops_as}
use Rattle.fleet_entries.proofs.Ended.{on_ok}
use Rattle.fleet_run.proofs.Cutting.{cut_as, room_as, room_quiet}
use Rattle.fleet_entries.proofs.Full.{behind, ok_or_err, rest_where_same}
use Rattle.fleet_entries.proofs.Starts.{on_err}
use Rattle.fleet_run.proofs.lines.do_line.Goals as goal

pub act-requires-clause-driven : goal.act-requires-clause-driven
act-requires-clause-driven g c = λ κs lives. c.requires.driven

pub act-requires-clause-may : goal.act-requires-clause-may
act-requires-clause-may g c = λ κs lives. may_as c.args.running.now c.args.command.now (commands.Does c.in-Does.action) c.in-Does.is c.requires.may

pub returns-in-Does : goal.returns-in-Does
returns-in-Does g c =
    let tells : g.row.K.Denot → StoreView = λ k. store_view (g.K.Keeper.contents k) (g.K.Keeper.parts k) (g.K.Keeper.failing k) (g.K.Keeper.faults k) in
    let form = commands.Does c.in-Does.action in
    record {
      ok = on_ok c.act.result _ _ c.act.ensures.ok (λ goes. as_form tells c.args.command.now form c.args.running.now c.act.new.running c.in-Does.is goes);
      room = on_ok c.act.result _ _ c.act.ensures.room (λ room. room_as tells c.args.command.now form c.args.running.now c.in-Does.is room);
      full = λ r e. cut_as tells r c.args.command.now form c.args.running.now c.act.new.running c.in-Does.is (c.act.ensures.full r e);
      stopped = on_err c.act.result _ _ c.act.ensures.stopped (λ stops. stops_as tells c.args.command.now form c.args.running.now c.act.new.running c.in-Does.is stops);
      rest = c.act.ensures.rest;
    }

pub returns-in-Repo : goal.returns-in-Repo
returns-in-Repo g c =
    let tells : g.row.K.Denot → StoreView = λ k. store_view (g.K.Keeper.contents k) (g.K.Keeper.parts k) (g.K.Keeper.failing k) (g.K.Keeper.faults k) in
    record {
      ok = quiet_stays tells c.args.command.now c.args.running.now c.in-Repo.is;
      room = room_quiet tells c.args.command.now c.args.running.now c.in-Repo.is;
      full = λ r e. absurd (ok_or_err _ _ e);
      stopped = tt;
      rest = behind c.args.running.now c.args.running.now (rest_where_same c.args.running.now c.args.running.now refl);
    }

pub returns-in-Repo-2 : goal.returns-in-Repo-2
returns-in-Repo-2 g c =
    let tells : g.row.K.Denot → StoreView = λ k. store_view (g.K.Keeper.contents k) (g.K.Keeper.parts k) (g.K.Keeper.failing k) (g.K.Keeper.faults k) in
    record {
      ok = quiet_stays tells c.args.command.now c.args.running.now c.in-Repo.is;
      room = room_quiet tells c.args.command.now c.args.running.now c.in-Repo.is;
      full = λ r e. absurd (ok_or_err _ _ e);
      stopped = tt;
      rest = behind c.args.running.now c.args.running.now (rest_where_same c.args.running.now c.args.running.now refl);
    }

pub unreachable-requires : goal.unreachable-requires
unreachable-requires g c = never_unbuilt c.args.command.now c.requires.may.built c.in-Damage.is

pub unreachable-unreachable : goal.unreachable-unreachable
unreachable-unreachable g c = never_unbuilt c.args.command.now c.requires.may.built c.in-Damage.is
