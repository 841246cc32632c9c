-- What the proof of `placing::bring_ready` needs beside the tactics.
use Rattle.std.proofs.Common.{Err, Bool, None, ◌∷◌, [], ap, ◌∙◌}
use Rattle.store_entries.proofs.PartLemmas.{filled_brought, stops_later}
use Rattle.std.specs.Option.{option_map}
use Rattle.object_store.specs.Stores.{Parts, with_at}
use Rattle.annex_base.specs.declared.kinds.Call.TheVariants.{Append, DropPart, Has}
use Rattle.node_past.proofs.CallLemmas.{handed, makes_then}
use Rattle.store_entries.proofs.PlaceCallLemmas.{StopsTold, behind_look, look_stops}
use Rattle.store_entries.proofs.placing.bring_ready.Goals as goal

pub returns-in-Err-clause-err : goal.returns-in-Err-clause-err
returns-in-Err-clause-err g c =
    stops_later {X = Unit {0}} (Err c.in-Err.refused) c.args.past.now c.is_taken.new.past c.replace_part.new.past c.in_ok-taken.ensures.same c.in-Err.ensures.err

pub returns-in-Ok-clause-filled : goal.returns-in-Ok-clause-filled
returns-in-Ok-clause-filled g c =
    filled_brought c.args.table.now c.args.key.now (g.K.Keeper.parts c.args.keeper.now) (g.K.Keeper.parts c.is_taken.new.keeper) (g.K.Keeper.parts c.replace_part.new.keeper)
    c.is_taken.ensures.parts (c.in_ok-taken.ensures.free c.if-taken.false) c.replace_part.ensures.others

pub returns-in-Err-clause-filled : goal.returns-in-Err-clause-filled
returns-in-Err-clause-filled g c =
    filled_brought c.args.table.now c.args.key.now (g.K.Keeper.parts c.args.keeper.now) (g.K.Keeper.parts c.is_taken.new.keeper) (g.K.Keeper.parts c.replace_part.new.keeper)
    c.is_taken.ensures.parts (c.in_ok-taken.ensures.free c.if-taken.false) c.replace_part.ensures.others

pub returns-in_err-taken-clause-stops : goal.returns-in_err-taken-clause-stops
returns-in_err-taken-clause-stops g c =
    handed (λ e. StopsTold c.args.key.now c.args.bytes.now c.args.table.now (g.K.Keeper.contents c.args.keeper.now) (g.K.Keeper.parts c.args.keeper.now) (g.K.Keeper.parts c.is_taken.new.keeper) (g.K.Keeper.failing c.args.keeper.now) (g.K.Keeper.failing c.is_taken.new.keeper) e c.args.past.now c.is_taken.new.past) c.from_residual.result c.in_err-taken.field-0.0 c.from_residual.ensures.1
    (look_stops {X = Bool} (Err c.in_err-taken.field-0.0) c.args.key.now c.args.bytes.now c.args.table.now (g.K.Keeper.contents c.args.keeper.now) (g.K.Keeper.parts c.args.keeper.now) (g.K.Keeper.parts c.is_taken.new.keeper) (g.K.Keeper.failing c.args.keeper.now) (g.K.Keeper.failing c.is_taken.new.keeper) c.args.past.now c.is_taken.new.past
    c.in_err-taken.ensures.fails c.in_err-taken.ensures.calls c.is_taken.ensures.parts)

pub returns-in-Ok-clause-put : goal.returns-in-Ok-clause-put
returns-in-Ok-clause-put g c = λ free. c.in-Ok.ensures.put ∙ ap (option_map (λ (p : Parts). with_at p c.args.key.now c.args.bytes.now)) c.is_taken.ensures.parts

pub returns-in-Ok-clause-done : goal.returns-in-Ok-clause-done
returns-in-Ok-clause-done g c = makes_then (Has ∷ []) (DropPart ∷ Append ∷ []) None (g.K.Keeper.failing c.args.keeper.now) (g.K.Keeper.failing c.is_taken.new.keeper) (g.K.Keeper.failing c.replace_part.new.keeper) c.in_ok-taken.ensures.calls c.in-Ok.ensures.done

pub returns-in-Err-clause-stops : goal.returns-in-Err-clause-stops
returns-in-Err-clause-stops g c =
    behind_look c.in-Err.refused c.in_ok-taken.taken c.args.key.now c.args.bytes.now c.args.table.now (g.K.Keeper.contents c.args.keeper.now) (g.K.Keeper.parts c.args.keeper.now) (g.K.Keeper.parts c.is_taken.new.keeper) (g.K.Keeper.parts c.replace_part.new.keeper) (g.K.Keeper.failing c.args.keeper.now) (g.K.Keeper.failing c.is_taken.new.keeper) (g.K.Keeper.failing c.replace_part.new.keeper) c.args.past.now c.is_taken.new.past c.replace_part.new.past
    c.if-taken.false c.in_ok-taken.ensures.value c.in_ok-taken.ensures.same c.is_taken.ensures.parts c.in_ok-taken.ensures.calls c.in-Err.ensures.stops
