-- What the proof of `placing::replace_part` needs beside the tactics.
use Rattle.store_entries.proofs.PartLemmas.{part_later, same_later, stops_later}
use Rattle.std.proofs.Common.{◌∷◌, [], Err}
use Rattle.annex_base.specs.declared.kinds.Call.TheVariants.{Append, DropPart}
use Rattle.store_entries.specs.Calls.{StopsEarly}
use Rattle.node_past.proofs.CallLemmas.{handed}
use Rattle.store_entries.proofs.PlaceCallLemmas.{append_stops, both_made, drop_stops, put_later}
use Rattle.store_entries.proofs.placing.replace_part.Goals as goal

pub returns-clause-part : goal.returns-clause-part
returns-clause-part g c =
    part_later c.append_part.result c.args.key.now c.args.bytes.now (g.K.Keeper.parts c.args.keeper.now) (g.K.Keeper.parts c.drop_part.new.keeper) (g.K.Keeper.parts c.append_part.new.keeper)
    c.in_ok-drop_part.ensures.part c.append_part.ensures.part

pub returns-clause-same : goal.returns-clause-same
returns-clause-same g c = same_later c.append_part.result c.args.past.now c.drop_part.new.past c.append_part.new.past c.in_ok-drop_part.ensures.same c.append_part.ensures.same

pub returns-clause-err : goal.returns-clause-err
returns-clause-err g c = stops_later c.append_part.result c.args.past.now c.drop_part.new.past c.append_part.new.past c.in_ok-drop_part.ensures.same c.append_part.ensures.err

pub returns-in_err-drop_part-clause-stops : goal.returns-in_err-drop_part-clause-stops
returns-in_err-drop_part-clause-stops g c =
    handed (λ e. StopsEarly (DropPart ∷ Append ∷ []) c.args.key.now c.args.bytes.now (g.K.Keeper.parts c.args.keeper.now) (g.K.Keeper.parts c.drop_part.new.keeper) (g.K.Keeper.failing c.args.keeper.now) (g.K.Keeper.failing c.drop_part.new.keeper) e c.args.past.now c.drop_part.new.past) c.from_residual.result c.in_err-drop_part.field-0.0 c.from_residual.ensures.1
    (drop_stops {X = Unit {0}} (Err c.in_err-drop_part.field-0.0) c.args.key.now c.args.bytes.now (g.K.Keeper.parts c.args.keeper.now) (g.K.Keeper.parts c.drop_part.new.keeper) (g.K.Keeper.failing c.args.keeper.now) (g.K.Keeper.failing c.drop_part.new.keeper) c.args.past.now c.drop_part.new.past
    c.in_err-drop_part.ensures.fails c.in_err-drop_part.ensures.calls c.in_err-drop_part.ensures.err_parts)

pub returns-clause-put : goal.returns-clause-put
returns-clause-put g c = put_later c.append_part.result c.args.key.now c.args.bytes.now (g.K.Keeper.parts c.args.keeper.now) (g.K.Keeper.parts c.drop_part.new.keeper) (g.K.Keeper.parts c.append_part.new.keeper) c.in_ok-drop_part.ensures.part c.append_part.ensures.part

pub returns-clause-done : goal.returns-clause-done
returns-clause-done g c = both_made c.append_part.result (g.K.Keeper.failing c.args.keeper.now) (g.K.Keeper.failing c.drop_part.new.keeper) (g.K.Keeper.failing c.append_part.new.keeper) c.in_ok-drop_part.ensures.calls c.append_part.ensures.calls

pub returns-clause-stops : goal.returns-clause-stops
returns-clause-stops g c =
    append_stops c.append_part.result c.args.key.now c.args.bytes.now (g.K.Keeper.parts c.args.keeper.now) (g.K.Keeper.parts c.drop_part.new.keeper) (g.K.Keeper.parts c.append_part.new.keeper) (g.K.Keeper.failing c.args.keeper.now) (g.K.Keeper.failing c.drop_part.new.keeper) (g.K.Keeper.failing c.append_part.new.keeper) c.args.past.now c.drop_part.new.past c.append_part.new.past
    c.in_ok-drop_part.ensures.same c.in_ok-drop_part.ensures.calls c.in_ok-drop_part.ensures.part c.append_part.ensures.fails c.append_part.ensures.calls c.append_part.ensures.err_parts
