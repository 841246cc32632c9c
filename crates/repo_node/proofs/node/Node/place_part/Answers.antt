-- What the proof of `node::Node::place_part` needs beside the tactics.
use Rattle.std.proofs.Common.{◌≡◌, ◌<◌, Bool, OnOk, IfErr, length, subst}
use Rattle.run_data.specs.Histories.{most_entries}
use Rattle.content_lock.specs.Rows.{Rows}
use Rattle.annex_base.specs.Causes.{Rose}
use Rattle.store_entries.specs.Placing.{IsTaken, LeavesFilled}
use Rattle.node_past.specs.declared.refused.NodeRefused.TheVariants.{StoreFault}
use Rattle.node_steps.specs.Nodes.{beside}
use Rattle.node_ledger.specs.Walks.{over}
use Rattle.repo_node.specs.Calls.{IsDoneBy, StopsAt, to_place_part}
use Rattle.repo_node.specs.Placing.{PartAfter, StopsBefore}
use Rattle.repo_node.proofs.GainLemmas.{stands_brought}
use Rattle.repo_node.proofs.PlaceCallLemmas.{brought_stops, cause_without, done_of, err_without, on_without, over_beside, part_of, stops_beside}
use Rattle.repo_node.proofs.node.Node.place_part.Goals as goal

pub invariant_of-self : goal.invariant_of-self
invariant_of-self g c =
    let i = c.self.inside in
    let p = i.parts in
    let l = i.ledger in
    let b = c.bring.new.self in
    stands_brought c.parts_stay_fed.ensures c.bring.result l b p (g.K.Keeper.contents l.keeper) (g.K.Keeper.contents b.keeper) (g.K.Keeper.parts l.keeper) (g.K.Keeper.parts b.keeper) (g.K.Keeper.records l.keeper) (g.K.Keeper.records b.keeper) c.table.ensures.sound (c.direct_entries_keep_parts.ensures p c.table.ensures.sound)
    c.bring.ensures.ok c.bring.ensures.err c.bring.ensures.contents c.bring.ensures.records (subst (λ (rows : Rows). LeavesFilled rows (g.K.Keeper.parts l.keeper) (g.K.Keeper.parts b.keeper)) c.table.ensures.rows c.bring.ensures.filled) c.self.invariant

pub returns-clause-ok : goal.returns-clause-ok
returns-clause-ok g c =
    let i = c.self.inside in
    let p = i.parts in
    let l = i.ledger in
    let b = c.bring.new.self in
    let w = c.without in
    let key = c.args.key.now in
    let bytes = c.args.bytes.now in
    on_without c.bring.result w.result _ w.ensures (subst (λ v. OnOk c.bring.result (beside p b ≡ over b.keeper v)) c.self.view_is (over_beside c.bring.result p l b c.bring.ensures.ok))

pub returns-clause-err : goal.returns-clause-err
returns-clause-err g c =
    let i = c.self.inside in
    let p = i.parts in
    let l = i.ledger in
    let b = c.bring.new.self in
    let w = c.without in
    let key = c.args.key.now in
    let bytes = c.args.bytes.now in
    err_without c.bring.result w.result (λ e. StopsBefore e c.args.self.now (beside p b)) w.ensures (subst (λ v. IfErr c.bring.result (λ e. StopsBefore e v (beside p b))) c.self.view_is (stops_beside c.bring.result p l b c.bring.ensures.err))

pub returns-clause-stops : goal.returns-clause-stops
returns-clause-stops g c =
    let i = c.self.inside in
    let p = i.parts in
    let l = i.ledger in
    let b = c.bring.new.self in
    let w = c.without in
    let key = c.args.key.now in
    let bytes = c.args.bytes.now in
    err_without c.bring.result w.result (λ e. StopsAt to_place_part key bytes (g.K.Keeper.contents c.args.self.now.keeper) (g.K.Keeper.contents b.keeper) (g.K.Keeper.parts c.args.self.now.keeper) (g.K.Keeper.parts b.keeper) (g.K.Keeper.failing c.args.self.now.keeper) (g.K.Keeper.failing b.keeper) e c.args.self.now (beside p b)) w.ensures
    (subst (λ v. IfErr c.bring.result (λ e. StopsAt to_place_part key bytes (g.K.Keeper.contents v.keeper) (g.K.Keeper.contents b.keeper) (g.K.Keeper.parts v.keeper) (g.K.Keeper.parts b.keeper) (g.K.Keeper.failing v.keeper) (g.K.Keeper.failing b.keeper) e v (beside p b))) c.self.view_is
    (brought_stops c.bring.result p l b key bytes c.table.result.now (g.K.Keeper.contents l.keeper) (g.K.Keeper.contents b.keeper) (g.K.Keeper.parts l.keeper) (g.K.Keeper.parts b.keeper) (g.K.Keeper.failing l.keeper) (g.K.Keeper.failing b.keeper) c.table.ensures.rows c.bring.ensures.contents c.bring.ensures.stops))

pub returns-clause-part : goal.returns-clause-part
returns-clause-part g c =
    let i = c.self.inside in
    let p = i.parts in
    let l = i.ledger in
    let b = c.bring.new.self in
    let w = c.without in
    let key = c.args.key.now in
    let bytes = c.args.bytes.now in
    subst (λ v. OnOk w.result ((taken : Bool) × IsTaken taken (g.K.Keeper.contents v.keeper) v.parts.table key × PartAfter taken key bytes (g.K.Keeper.parts v.keeper) (g.K.Keeper.parts b.keeper))) c.self.view_is
    (on_without c.bring.result w.result _ w.ensures (part_of c.bring.result key bytes p.table c.table.result.now (g.K.Keeper.contents l.keeper) (g.K.Keeper.parts l.keeper) (g.K.Keeper.parts b.keeper) c.table.ensures.rows c.bring.ensures.taken c.bring.ensures.left c.bring.ensures.part))

pub returns-clause-done : goal.returns-clause-done
returns-clause-done g c =
    let i = c.self.inside in
    let p = i.parts in
    let l = i.ledger in
    let b = c.bring.new.self in
    let w = c.without in
    let key = c.args.key.now in
    let bytes = c.args.bytes.now in
    subst (λ v. OnOk w.result (IsDoneBy to_place_part key bytes v.parts.table (g.K.Keeper.contents v.keeper) (g.K.Keeper.parts v.keeper) (g.K.Keeper.parts b.keeper) (g.K.Keeper.failing v.keeper) (g.K.Keeper.failing b.keeper))) c.self.view_is
    (on_without c.bring.result w.result _ w.ensures (done_of c.bring.result key bytes p.table c.table.result.now (g.K.Keeper.contents l.keeper) (g.K.Keeper.parts l.keeper) (g.K.Keeper.parts b.keeper) (g.K.Keeper.failing l.keeper) (g.K.Keeper.failing b.keeper) c.table.ensures.rows c.bring.ensures.taken c.bring.ensures.done c.bring.ensures.left c.bring.ensures.put))

pub returns-clause-room : goal.returns-clause-room
returns-clause-room g c =
    let i = c.self.inside in
    let p = i.parts in
    let l = i.ledger in
    let b = c.bring.new.self in
    let w = c.without in
    let key = c.args.key.now in
    let bytes = c.args.bytes.now in
    on_without c.bring.result w.result _ w.ensures (subst (λ v. OnOk c.bring.result (length v.history < most_entries)) c.self.view_is c.bring.ensures.room)

pub returns-clause-cause : goal.returns-clause-cause
returns-clause-cause g c =
    let i = c.self.inside in
    let p = i.parts in
    let l = i.ledger in
    let b = c.bring.new.self in
    let w = c.without in
    let key = c.args.key.now in
    let bytes = c.args.bytes.now in
    cause_without c.bring.result w.result StoreFault w.ensures (λ is. subst (λ v. Rose (g.K.Keeper.faults v.keeper) (g.K.Keeper.faults b.keeper)) c.self.view_is (c.bring.ensures.cause is))
