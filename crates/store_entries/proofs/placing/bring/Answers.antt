-- What the proof of `placing::bring` needs beside the tactics.
use Rattle.store_entries.proofs.PartLemmas.{same_later, stops_later}
use Rattle.std.proofs.Common.{Err, ap}
use Rattle.node_past.specs.declared.refused.NodeRefused.{NodeRefused}
use Rattle.node_past.proofs.CallLemmas.{handed}
use Rattle.store_entries.proofs.PlaceCallLemmas.{had_room, StopsTold, ready_stops, told_later}
use Rattle.store_entries.proofs.placing.bring.Goals as goal

pub returns-clause-same : goal.returns-clause-same
returns-clause-same g c = same_later c.bring_ready.result c.args.past.now c.ready.new.past c.bring_ready.new.past c.ready.ensures.same c.bring_ready.ensures.same

pub returns-clause-err : goal.returns-clause-err
returns-clause-err g c = stops_later c.bring_ready.result c.args.past.now c.ready.new.past c.bring_ready.new.past c.ready.ensures.same c.bring_ready.ensures.err

pub returns-in_err-ready-clause-stops : goal.returns-in_err-ready-clause-stops
returns-in_err-ready-clause-stops g c =
    handed (λ e. StopsTold c.args.key.now c.args.bytes.now c.args.table.now (g.K.Keeper.contents c.args.keeper.now) (g.K.Keeper.parts c.args.keeper.now) (g.K.Keeper.parts c.args.keeper.now) (g.K.Keeper.failing c.args.keeper.now) (g.K.Keeper.failing c.args.keeper.now) e c.args.past.now c.ready.new.past) c.from_residual.result c.in_err-ready.field-0.0 c.from_residual.ensures.1
    (ready_stops c.in_err-ready.field-0.0 c.args.key.now c.args.bytes.now c.args.table.now (g.K.Keeper.contents c.args.keeper.now) (g.K.Keeper.parts c.args.keeper.now) (g.K.Keeper.failing c.args.keeper.now) c.args.past.now c.ready.new.past c.in_err-ready.ensures.fails (λ is. c.in_err-ready.ensures.no_fault (ap (λ (e : NodeRefused). Err e) is)))

pub returns-clause-stops : goal.returns-clause-stops
returns-clause-stops g c = told_later c.bring_ready.result c.args.key.now c.args.bytes.now c.args.table.now (g.K.Keeper.contents c.args.keeper.now) (g.K.Keeper.parts c.args.keeper.now) (g.K.Keeper.parts c.bring_ready.new.keeper) (g.K.Keeper.failing c.args.keeper.now) (g.K.Keeper.failing c.bring_ready.new.keeper) c.args.past.now c.ready.new.past c.bring_ready.new.past c.ready.ensures.same c.bring_ready.ensures.stops

pub returns-clause-room : goal.returns-clause-room
returns-clause-room g c = had_room c.bring_ready.result c.args.past.now c.ready.new.past c.ready.ensures.same c.in_ok-ready.ensures.ready
