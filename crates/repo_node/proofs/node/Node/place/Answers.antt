-- What the proof of `node::Node::place` needs beside the tactics.
use Rattle.std.proofs.Common.{◌≡◌, ◌<◌, Bool, true, false, Err, OnOk, IfErr, IsErrOf, inl, subst, ap, [], length}
use Rattle.content_lock.specs.Rows.{Rows, is_filling}
use Rattle.store_entries.specs.Placing.{LeavesFilled}
use Rattle.node_steps.specs.Nodes.{beside, told_of}
use Rattle.annex_base.specs.declared.kinds.Call.TheVariants.{Commit, PutFile}
use Rattle.run_data.specs.declared.entry.By.TheVariants.{Script}
use Rattle.node_past.specs.declared.refused.NodeRefused.TheVariants.{Full}
use Rattle.repo_node.specs.Calls.{IsDoneBy, StopsAt, to_place}
use Rattle.repo_node.specs.Placing.{IsPlaced, IsTaken, StopsPlacing}
use Rattle.node_past.proofs.CallLemmas.{handed, same_refusal}
use Rattle.node_steps.proofs.KeptLemmas.{kept_status, refuses_beside, stands_so}
use Rattle.repo_node.proofs.BesideLemmas.{err_so, ok_status_beside}
use Rattle.repo_node.proofs.GainLemmas.{is_placed, long_brought, placed_content, stands_brought, stands_gained, stops_before, stops_behind, taken_placed}
use Rattle.repo_node.proofs.PlaceCallLemmas.{bring_stops, brought_stops, commit_stops, is_brought, is_gained, line_done, line_stops, stops_beside, taken_done}
use Rattle.repo_node.proofs.FullLemmas.{MeetsFullPlacing, full_bringing, full_commit, full_line, room_later}
use Rattle.run_data.specs.Histories.{most_entries}
use Rattle.repo_node.proofs.node.Node.place.Goals as goal

pub invariant_of-self : goal.invariant_of-self
invariant_of-self g c =
    let i = c.self.inside in
    let p = i.parts in
    let l = i.ledger in
    let b = c.bring.new.self in
    stands_brought c.parts_stay_fed.ensures c.bring.result l b p (g.K.Keeper.contents l.keeper) (g.K.Keeper.contents b.keeper) (g.K.Keeper.parts l.keeper) (g.K.Keeper.parts b.keeper) (g.K.Keeper.records l.keeper) (g.K.Keeper.records b.keeper) c.table.ensures.sound (c.direct_entries_keep_parts.ensures p c.table.ensures.sound)
    c.bring.ensures.ok c.bring.ensures.err c.bring.ensures.contents c.bring.ensures.records (subst (λ (rows : Rows). LeavesFilled rows (g.K.Keeper.parts l.keeper) (g.K.Keeper.parts b.keeper)) c.table.ensures.rows c.bring.ensures.filled) c.self.invariant

pub invariant_of-self-then-taken : goal.invariant_of-self-then-taken
invariant_of-self-then-taken g c =
    let i = c.self.inside in
    let p = i.parts in
    let l = i.ledger in
    let b = c.bring.new.self in
    stands_brought c.parts_stay_fed.ensures c.bring.result l b p (g.K.Keeper.contents l.keeper) (g.K.Keeper.contents b.keeper) (g.K.Keeper.parts l.keeper) (g.K.Keeper.parts b.keeper) (g.K.Keeper.records l.keeper) (g.K.Keeper.records b.keeper) c.table.ensures.sound (c.direct_entries_keep_parts.ensures p c.table.ensures.sound)
    c.bring.ensures.ok c.bring.ensures.err c.bring.ensures.contents c.bring.ensures.records (subst (λ (rows : Rows). LeavesFilled rows (g.K.Keeper.parts l.keeper) (g.K.Keeper.parts b.keeper)) c.table.ensures.rows c.bring.ensures.filled) c.self.invariant

pub invariant_of-self-in-Err : goal.invariant_of-self-in-Err
invariant_of-self-in-Err g c =
    let i = c.self.inside in
    let p = i.parts in
    let l = i.ledger in
    let b = c.bring.new.self in
    let m = c.gain.new.self in
    let key = c.args.key.now in
    let bytes = c.args.bytes.now in
    stands_gained c.parts_stay_fed.ensures c.gain.result b m p (g.K.Keeper.contents b.keeper) (g.K.Keeper.contents m.keeper) (g.K.Keeper.parts b.keeper) (g.K.Keeper.parts m.keeper) (g.K.Keeper.records b.keeper) (g.K.Keeper.records m.keeper) key (length bytes) c.table.ensures.sound (c.direct_entries_keep_parts.ensures p c.table.ensures.sound)
    c.gain.ensures.ok c.gain.ensures.err c.gain.ensures.content c.gain.ensures.err_contents c.gain.ensures.part c.gain.ensures.err_parts c.gain.ensures.records (long_brought key bytes (g.K.Keeper.parts l.keeper) (g.K.Keeper.parts b.keeper) (c.in_ok-taken.ensures.part c.if-taken.false)) (subst (λ (x : Rows). is_filling x key ≡ false) c.table.ensures.rows (c.in_ok-taken.ensures.free c.if-taken.false))
    (stands_brought c.parts_stay_fed.ensures c.bring.result l b p (g.K.Keeper.contents l.keeper) (g.K.Keeper.contents b.keeper) (g.K.Keeper.parts l.keeper) (g.K.Keeper.parts b.keeper) (g.K.Keeper.records l.keeper) (g.K.Keeper.records b.keeper) c.table.ensures.sound (c.direct_entries_keep_parts.ensures p c.table.ensures.sound)
    c.bring.ensures.ok c.bring.ensures.err c.bring.ensures.contents c.bring.ensures.records (subst (λ (rows : Rows). LeavesFilled rows (g.K.Keeper.parts l.keeper) (g.K.Keeper.parts b.keeper)) c.table.ensures.rows c.bring.ensures.filled) c.self.invariant)

pub invariant_of-self-in-Ok : goal.invariant_of-self-in-Ok
invariant_of-self-in-Ok g c =
    let i = c.self.inside in
    let p = i.parts in
    let l = i.ledger in
    let b = c.bring.new.self in
    let m = c.gain.new.self in
    let last = c.log_status.new.self in
    let key = c.args.key.now in
    let bytes = c.args.bytes.now in
    stands_so m last p (g.K.Keeper.contents m.keeper) (g.K.Keeper.contents last.keeper) (g.K.Keeper.parts m.keeper) (g.K.Keeper.parts last.keeper) (g.K.Keeper.records m.keeper) (g.K.Keeper.records last.keeper) c.log_status.ensures.contents c.log_status.ensures.parts c.log_status.ensures.records
    (kept_status c.log_status.result Script m last p (told_of (g.K.Keeper.contents m.keeper) (g.K.Keeper.parts m.keeper)) key c.number-number.result true c.files_are_changed_alone.ensures.there c.files_are_changed_alone.ensures.other (c.direct_entries_keep_parts.ensures p c.table.ensures.sound) c.log_status.ensures.ok c.log_status.ensures.err)
    (stands_gained c.parts_stay_fed.ensures c.gain.result b m p (g.K.Keeper.contents b.keeper) (g.K.Keeper.contents m.keeper) (g.K.Keeper.parts b.keeper) (g.K.Keeper.parts m.keeper) (g.K.Keeper.records b.keeper) (g.K.Keeper.records m.keeper) key (length bytes) c.table.ensures.sound (c.direct_entries_keep_parts.ensures p c.table.ensures.sound)
    c.gain.ensures.ok c.gain.ensures.err c.gain.ensures.content c.gain.ensures.err_contents c.gain.ensures.part c.gain.ensures.err_parts c.gain.ensures.records (long_brought key bytes (g.K.Keeper.parts l.keeper) (g.K.Keeper.parts b.keeper) (c.in_ok-taken.ensures.part c.if-taken.false)) (subst (λ (x : Rows). is_filling x key ≡ false) c.table.ensures.rows (c.in_ok-taken.ensures.free c.if-taken.false))
    (stands_brought c.parts_stay_fed.ensures c.bring.result l b p (g.K.Keeper.contents l.keeper) (g.K.Keeper.contents b.keeper) (g.K.Keeper.parts l.keeper) (g.K.Keeper.parts b.keeper) (g.K.Keeper.records l.keeper) (g.K.Keeper.records b.keeper) c.table.ensures.sound (c.direct_entries_keep_parts.ensures p c.table.ensures.sound)
    c.bring.ensures.ok c.bring.ensures.err c.bring.ensures.contents c.bring.ensures.records (subst (λ (rows : Rows). LeavesFilled rows (g.K.Keeper.parts l.keeper) (g.K.Keeper.parts b.keeper)) c.table.ensures.rows c.bring.ensures.filled) c.self.invariant))

pub returns-in-Err-clause-err : goal.returns-in-Err-clause-err
returns-in-Err-clause-err g c =
    let i = c.self.inside in
    let p = i.parts in
    let l = i.ledger in
    let b = c.bring.new.self in
    let m = c.gain.new.self in
    let key = c.args.key.now in
    let bytes = c.args.bytes.now in
    subst (λ v. StopsPlacing key bytes (g.K.Keeper.contents v.keeper) (g.K.Keeper.parts v.keeper) (g.K.Keeper.contents m.keeper) c.in-Err.refused v (beside p m)) c.self.view_is
    (stops_before c.in-Err.refused key bytes (g.K.Keeper.contents l.keeper) (g.K.Keeper.contents b.keeper) (g.K.Keeper.contents m.keeper) (g.K.Keeper.parts l.keeper) (beside p l) (beside p b) (beside p m) (ap (beside p) c.in_ok-taken.ensures.ok) (refuses_beside p Script c.in-Err.refused Commit b m c.in-Err.ensures.err) c.bring.ensures.contents c.in-Err.ensures.err_contents)

pub returns-in-Ok-clause-err : goal.returns-in-Ok-clause-err
returns-in-Ok-clause-err g c =
    let i = c.self.inside in
    let p = i.parts in
    let l = i.ledger in
    let b = c.bring.new.self in
    let m = c.gain.new.self in
    let last = c.log_status.new.self in
    let key = c.args.key.now in
    let bytes = c.args.bytes.now in
    subst (λ v. IfErr c.log_status.result (λ e. StopsPlacing key bytes (g.K.Keeper.contents v.keeper) (g.K.Keeper.parts v.keeper) (g.K.Keeper.contents last.keeper) e v (beside p last))) c.self.view_is
    (stops_behind c.log_status.result key bytes (g.K.Keeper.contents l.keeper) (g.K.Keeper.contents m.keeper) (g.K.Keeper.contents last.keeper) (g.K.Keeper.parts l.keeper) (beside p l) (beside p b) (beside p m) (beside p last) (ap (beside p) c.in_ok-taken.ensures.ok) (ap (beside p) c.in-Ok.ensures.ok) (err_so c.log_status.result p PutFile m last c.log_status.ensures.err) (placed_content (g.K.Keeper.contents l.keeper) (g.K.Keeper.contents b.keeper) (g.K.Keeper.contents m.keeper) (g.K.Keeper.parts l.keeper) (g.K.Keeper.parts b.keeper) key bytes (c.in_ok-taken.ensures.part c.if-taken.false) c.bring.ensures.contents c.in-Ok.ensures.content) c.log_status.ensures.contents)

pub returns-in-Ok-clause-ok : goal.returns-in-Ok-clause-ok
returns-in-Ok-clause-ok g c =
    let i = c.self.inside in
    let p = i.parts in
    let l = i.ledger in
    let b = c.bring.new.self in
    let m = c.gain.new.self in
    let last = c.log_status.new.self in
    let key = c.args.key.now in
    let bytes = c.args.bytes.now in
    subst (λ v. OnOk c.log_status.result (IsPlaced key bytes (g.K.Keeper.contents v.keeper) (g.K.Keeper.parts v.keeper) (g.K.Keeper.contents last.keeper) v (beside p last))) c.self.view_is
    (is_placed c.log_status.result key bytes (g.K.Keeper.contents l.keeper) (g.K.Keeper.contents m.keeper) (g.K.Keeper.contents last.keeper) (g.K.Keeper.parts l.keeper) c.in_ok-taken.taken c.number-number.result (beside p l) (beside p b) (beside p m) (beside p last) c.if-taken.false (subst (λ (x : Rows). IsTaken c.in_ok-taken.taken (g.K.Keeper.contents l.keeper) x key) c.table.ensures.rows c.in_ok-taken.ensures.taken) c.number-number.ensures.value (ap (beside p) c.in_ok-taken.ensures.ok) (ap (beside p) c.in-Ok.ensures.ok) (ok_status_beside c.log_status.result p m last key c.number-number.result true c.log_status.ensures.ok) (placed_content (g.K.Keeper.contents l.keeper) (g.K.Keeper.contents b.keeper) (g.K.Keeper.contents m.keeper) (g.K.Keeper.parts l.keeper) (g.K.Keeper.parts b.keeper) key bytes (c.in_ok-taken.ensures.part c.if-taken.false) c.bring.ensures.contents c.in-Ok.ensures.content) c.log_status.ensures.contents)

pub returns-then-taken-clause-ok : goal.returns-then-taken-clause-ok
returns-then-taken-clause-ok g c =
    let i = c.self.inside in
    let p = i.parts in
    let l = i.ledger in
    let b = c.bring.new.self in
    let key = c.args.key.now in
    let bytes = c.args.bytes.now in
    subst (λ v. IsPlaced key bytes (g.K.Keeper.contents v.keeper) (g.K.Keeper.parts v.keeper) (g.K.Keeper.contents b.keeper) v (beside p b)) c.self.view_is
    (taken_placed c.in_ok-taken.taken key bytes (g.K.Keeper.contents l.keeper) (g.K.Keeper.contents b.keeper) (g.K.Keeper.parts l.keeper) (beside p l) (beside p b) c.if-taken.true (subst (λ (x : Rows). IsTaken c.in_ok-taken.taken (g.K.Keeper.contents l.keeper) x key) c.table.ensures.rows c.in_ok-taken.ensures.taken) (ap (beside p) c.in_ok-taken.ensures.ok) c.bring.ensures.contents)

pub returns-in_err-taken-clause-stops : goal.returns-in_err-taken-clause-stops
returns-in_err-taken-clause-stops g c =
    let i = c.self.inside in
    let p = i.parts in
    let l = i.ledger in
    let b = c.bring.new.self in
    let key = c.args.key.now in
    let bytes = c.args.bytes.now in
    subst (λ v. IfErr c.from_residual.result (λ e. StopsAt to_place key bytes (g.K.Keeper.contents v.keeper) (g.K.Keeper.contents b.keeper) (g.K.Keeper.parts v.keeper) (g.K.Keeper.parts b.keeper) (g.K.Keeper.failing v.keeper) (g.K.Keeper.failing b.keeper) e v (beside p b))) c.self.view_is
    (handed (λ e. StopsAt to_place key bytes (g.K.Keeper.contents l.keeper) (g.K.Keeper.contents b.keeper) (g.K.Keeper.parts l.keeper) (g.K.Keeper.parts b.keeper) (g.K.Keeper.failing l.keeper) (g.K.Keeper.failing b.keeper) e (beside p l) (beside p b)) c.from_residual.result c.in_err-taken.field-0.0 c.from_residual.ensures.1
    (bring_stops {X = Bool} (Err c.in_err-taken.field-0.0) key bytes (g.K.Keeper.contents l.keeper) (g.K.Keeper.contents b.keeper) (g.K.Keeper.parts l.keeper) (g.K.Keeper.parts b.keeper) (g.K.Keeper.failing l.keeper) (g.K.Keeper.failing b.keeper) (beside p l) (beside p b)
    (brought_stops {X = Bool} (Err c.in_err-taken.field-0.0) p l b key bytes c.table.result.now (g.K.Keeper.contents l.keeper) (g.K.Keeper.contents b.keeper) (g.K.Keeper.parts l.keeper) (g.K.Keeper.parts b.keeper) (g.K.Keeper.failing l.keeper) (g.K.Keeper.failing b.keeper) c.table.ensures.rows c.bring.ensures.contents c.in_err-taken.ensures.stops)))

pub returns-in_err-taken-clause-err : goal.returns-in_err-taken-clause-err
returns-in_err-taken-clause-err g c =
    let i = c.self.inside in
    let p = i.parts in
    let l = i.ledger in
    let b = c.bring.new.self in
    let key = c.args.key.now in
    let bytes = c.args.bytes.now in
    subst (λ v. IfErr c.from_residual.result (λ e. StopsPlacing key bytes (g.K.Keeper.contents v.keeper) (g.K.Keeper.parts v.keeper) (g.K.Keeper.contents b.keeper) e v (beside p b))) c.self.view_is
    (handed (λ e. StopsPlacing key bytes (g.K.Keeper.contents l.keeper) (g.K.Keeper.parts l.keeper) (g.K.Keeper.contents b.keeper) e (beside p l) (beside p b)) c.from_residual.result c.in_err-taken.field-0.0 c.from_residual.ensures.1
    (inl (stops_beside {X = Bool} (Err c.in_err-taken.field-0.0) p l b c.in_err-taken.ensures.err, c.bring.ensures.contents)))

pub returns-then-taken-clause-done : goal.returns-then-taken-clause-done
returns-then-taken-clause-done g c =
    let i = c.self.inside in
    let p = i.parts in
    let l = i.ledger in
    let b = c.bring.new.self in
    let key = c.args.key.now in
    let bytes = c.args.bytes.now in
    subst (λ v. IsDoneBy to_place key [] v.parts.table (g.K.Keeper.contents v.keeper) (g.K.Keeper.parts v.keeper) (g.K.Keeper.parts b.keeper) (g.K.Keeper.failing v.keeper) (g.K.Keeper.failing b.keeper)) c.self.view_is
    (taken_done c.in_ok-taken.taken key [] p.table (g.K.Keeper.contents l.keeper) (g.K.Keeper.parts l.keeper) (g.K.Keeper.parts b.keeper) (g.K.Keeper.failing l.keeper) (g.K.Keeper.failing b.keeper) c.if-taken.true (subst (λ (x : Rows). IsTaken c.in_ok-taken.taken (g.K.Keeper.contents l.keeper) x key) c.table.ensures.rows c.in_ok-taken.ensures.taken) c.in_ok-taken.ensures.done c.in_ok-taken.ensures.left)

pub returns-in-Err-clause-stops : goal.returns-in-Err-clause-stops
returns-in-Err-clause-stops g c =
    let i = c.self.inside in
    let p = i.parts in
    let l = i.ledger in
    let b = c.bring.new.self in
    let m = c.gain.new.self in
    let key = c.args.key.now in
    let bytes = c.args.bytes.now in
    subst (λ v. StopsAt to_place key bytes (g.K.Keeper.contents v.keeper) (g.K.Keeper.contents m.keeper) (g.K.Keeper.parts v.keeper) (g.K.Keeper.parts m.keeper) (g.K.Keeper.failing v.keeper) (g.K.Keeper.failing m.keeper) c.in-Err.refused v (beside p m)) c.self.view_is
    (commit_stops c.in-Err.refused key bytes (g.K.Keeper.contents l.keeper) (g.K.Keeper.contents b.keeper) (g.K.Keeper.contents m.keeper) (g.K.Keeper.parts l.keeper) (g.K.Keeper.parts b.keeper) (g.K.Keeper.parts m.keeper) (g.K.Keeper.failing l.keeper) (g.K.Keeper.failing b.keeper) (g.K.Keeper.failing m.keeper) (beside p l) (beside p b) (beside p m) (is_brought c.in_ok-taken.taken key bytes (g.K.Keeper.contents l.keeper) (g.K.Keeper.contents b.keeper) (g.K.Keeper.parts l.keeper) (g.K.Keeper.parts b.keeper) (g.K.Keeper.failing l.keeper) (g.K.Keeper.failing b.keeper) (beside p l) (beside p b) c.if-taken.false (subst (λ (x : Rows). IsTaken c.in_ok-taken.taken (g.K.Keeper.contents l.keeper) x key) c.table.ensures.rows c.in_ok-taken.ensures.taken) (ap (beside p) c.in_ok-taken.ensures.ok) c.in_ok-taken.ensures.done c.bring.ensures.contents c.in_ok-taken.ensures.put) (refuses_beside p Script c.in-Err.refused Commit b m c.in-Err.ensures.err) c.in-Err.ensures.calls c.in-Err.ensures.err_contents c.in-Err.ensures.err_parts)

pub returns-in-Ok-clause-stops : goal.returns-in-Ok-clause-stops
returns-in-Ok-clause-stops g c =
    let i = c.self.inside in
    let p = i.parts in
    let l = i.ledger in
    let b = c.bring.new.self in
    let m = c.gain.new.self in
    let last = c.log_status.new.self in
    let key = c.args.key.now in
    let bytes = c.args.bytes.now in
    subst (λ v. IfErr c.log_status.result (λ e. StopsAt to_place key bytes (g.K.Keeper.contents v.keeper) (g.K.Keeper.contents last.keeper) (g.K.Keeper.parts v.keeper) (g.K.Keeper.parts last.keeper) (g.K.Keeper.failing v.keeper) (g.K.Keeper.failing last.keeper) e v (beside p last))) c.self.view_is
    (line_stops c.log_status.result key bytes (g.K.Keeper.contents l.keeper) (g.K.Keeper.contents m.keeper) (g.K.Keeper.contents last.keeper) (g.K.Keeper.parts l.keeper) (g.K.Keeper.parts m.keeper) (g.K.Keeper.parts last.keeper) (g.K.Keeper.failing l.keeper) (g.K.Keeper.failing m.keeper) (g.K.Keeper.failing last.keeper) (beside p l) (beside p m) (beside p last) (is_gained key bytes (g.K.Keeper.contents l.keeper) (g.K.Keeper.contents b.keeper) (g.K.Keeper.contents m.keeper) (g.K.Keeper.parts l.keeper) (g.K.Keeper.parts b.keeper) (g.K.Keeper.parts m.keeper) (g.K.Keeper.failing l.keeper) (g.K.Keeper.failing b.keeper) (g.K.Keeper.failing m.keeper) (beside p l) (beside p b) (beside p m) (is_brought c.in_ok-taken.taken key bytes (g.K.Keeper.contents l.keeper) (g.K.Keeper.contents b.keeper) (g.K.Keeper.parts l.keeper) (g.K.Keeper.parts b.keeper) (g.K.Keeper.failing l.keeper) (g.K.Keeper.failing b.keeper) (beside p l) (beside p b) c.if-taken.false (subst (λ (x : Rows). IsTaken c.in_ok-taken.taken (g.K.Keeper.contents l.keeper) x key) c.table.ensures.rows c.in_ok-taken.ensures.taken) (ap (beside p) c.in_ok-taken.ensures.ok) c.in_ok-taken.ensures.done c.bring.ensures.contents c.in_ok-taken.ensures.put) (ap (beside p) c.in-Ok.ensures.ok) c.in-Ok.ensures.calls (placed_content (g.K.Keeper.contents l.keeper) (g.K.Keeper.contents b.keeper) (g.K.Keeper.contents m.keeper) (g.K.Keeper.parts l.keeper) (g.K.Keeper.parts b.keeper) key bytes (c.in_ok-taken.ensures.part c.if-taken.false) c.bring.ensures.contents c.in-Ok.ensures.content) c.in-Ok.ensures.part) (err_so c.log_status.result p PutFile m last c.log_status.ensures.err) c.log_status.ensures.calls c.log_status.ensures.contents c.log_status.ensures.parts)

pub returns-in-Ok-clause-done : goal.returns-in-Ok-clause-done
returns-in-Ok-clause-done g c =
    let i = c.self.inside in
    let p = i.parts in
    let l = i.ledger in
    let b = c.bring.new.self in
    let m = c.gain.new.self in
    let last = c.log_status.new.self in
    let key = c.args.key.now in
    let bytes = c.args.bytes.now in
    subst (λ v. OnOk c.log_status.result (IsDoneBy to_place key [] v.parts.table (g.K.Keeper.contents v.keeper) (g.K.Keeper.parts v.keeper) (g.K.Keeper.parts last.keeper) (g.K.Keeper.failing v.keeper) (g.K.Keeper.failing last.keeper))) c.self.view_is
    (line_done c.log_status.result key bytes (g.K.Keeper.contents l.keeper) (g.K.Keeper.contents m.keeper) (g.K.Keeper.parts l.keeper) (g.K.Keeper.parts m.keeper) (g.K.Keeper.parts last.keeper) (g.K.Keeper.failing l.keeper) (g.K.Keeper.failing m.keeper) (g.K.Keeper.failing last.keeper) (beside p l) (beside p m) (is_gained key bytes (g.K.Keeper.contents l.keeper) (g.K.Keeper.contents b.keeper) (g.K.Keeper.contents m.keeper) (g.K.Keeper.parts l.keeper) (g.K.Keeper.parts b.keeper) (g.K.Keeper.parts m.keeper) (g.K.Keeper.failing l.keeper) (g.K.Keeper.failing b.keeper) (g.K.Keeper.failing m.keeper) (beside p l) (beside p b) (beside p m) (is_brought c.in_ok-taken.taken key bytes (g.K.Keeper.contents l.keeper) (g.K.Keeper.contents b.keeper) (g.K.Keeper.parts l.keeper) (g.K.Keeper.parts b.keeper) (g.K.Keeper.failing l.keeper) (g.K.Keeper.failing b.keeper) (beside p l) (beside p b) c.if-taken.false (subst (λ (x : Rows). IsTaken c.in_ok-taken.taken (g.K.Keeper.contents l.keeper) x key) c.table.ensures.rows c.in_ok-taken.ensures.taken) (ap (beside p) c.in_ok-taken.ensures.ok) c.in_ok-taken.ensures.done c.bring.ensures.contents c.in_ok-taken.ensures.put) (ap (beside p) c.in-Ok.ensures.ok) c.in-Ok.ensures.calls (placed_content (g.K.Keeper.contents l.keeper) (g.K.Keeper.contents b.keeper) (g.K.Keeper.contents m.keeper) (g.K.Keeper.parts l.keeper) (g.K.Keeper.parts b.keeper) key bytes (c.in_ok-taken.ensures.part c.if-taken.false) c.bring.ensures.contents c.in-Ok.ensures.content) c.in-Ok.ensures.part) c.log_status.ensures.calls c.log_status.ensures.parts)

pub returns-in_err-taken-clause-full : goal.returns-in_err-taken-clause-full
returns-in_err-taken-clause-full g c =
    let i = c.self.inside in
    let p = i.parts in
    let l = i.ledger in
    let b = c.bring.new.self in
    let key = c.args.key.now in
    let bytes = c.args.bytes.now in
    subst (λ v. IsErrOf c.from_residual.result Full → MeetsFullPlacing key bytes (g.K.Keeper.contents v.keeper) (g.K.Keeper.failing v.keeper) (g.K.Keeper.failing b.keeper) v (beside p b)) c.self.view_is
    (full_bringing c.from_residual.result c.in_err-taken.field-0.0 key bytes (g.K.Keeper.contents l.keeper) (g.K.Keeper.failing l.keeper) (g.K.Keeper.failing b.keeper) (beside p l) (beside p b) c.from_residual.ensures.1 (stops_beside {X = Bool} (Err c.in_err-taken.field-0.0) p l b c.in_err-taken.ensures.err))

pub returns-in-Err-clause-full : goal.returns-in-Err-clause-full
returns-in-Err-clause-full g c =
    let i = c.self.inside in
    let p = i.parts in
    let l = i.ledger in
    let b = c.bring.new.self in
    let m = c.gain.new.self in
    let key = c.args.key.now in
    let bytes = c.args.bytes.now in
    λ full.
    subst (λ v. MeetsFullPlacing key bytes (g.K.Keeper.contents v.keeper) (g.K.Keeper.failing v.keeper) (g.K.Keeper.failing m.keeper) v (beside p m)) c.self.view_is
    (full_commit c.in-Err.refused key bytes (g.K.Keeper.contents l.keeper) (g.K.Keeper.failing l.keeper) (g.K.Keeper.failing m.keeper) (beside p l) (beside p b) (beside p m) (ap (beside p) c.in_ok-taken.ensures.ok) (refuses_beside p Script c.in-Err.refused Commit b m c.in-Err.ensures.err) (same_refusal c.in-Err.refused Full full))

pub returns-in-Ok-clause-full : goal.returns-in-Ok-clause-full
returns-in-Ok-clause-full g c =
    let i = c.self.inside in
    let p = i.parts in
    let l = i.ledger in
    let b = c.bring.new.self in
    let m = c.gain.new.self in
    let last = c.log_status.new.self in
    let key = c.args.key.now in
    let bytes = c.args.bytes.now in
    subst (λ v. IsErrOf c.log_status.result Full → MeetsFullPlacing key bytes (g.K.Keeper.contents v.keeper) (g.K.Keeper.failing v.keeper) (g.K.Keeper.failing last.keeper) v (beside p last)) c.self.view_is
    (full_line c.log_status.result key bytes (g.K.Keeper.contents l.keeper) (g.K.Keeper.contents m.keeper) (g.K.Keeper.parts l.keeper) (g.K.Keeper.parts m.keeper) (g.K.Keeper.failing l.keeper) (g.K.Keeper.failing m.keeper) (g.K.Keeper.failing last.keeper) (beside p l) (beside p m) (beside p last) (is_gained key bytes (g.K.Keeper.contents l.keeper) (g.K.Keeper.contents b.keeper) (g.K.Keeper.contents m.keeper) (g.K.Keeper.parts l.keeper) (g.K.Keeper.parts b.keeper) (g.K.Keeper.parts m.keeper) (g.K.Keeper.failing l.keeper) (g.K.Keeper.failing b.keeper) (g.K.Keeper.failing m.keeper) (beside p l) (beside p b) (beside p m) (is_brought c.in_ok-taken.taken key bytes (g.K.Keeper.contents l.keeper) (g.K.Keeper.contents b.keeper) (g.K.Keeper.parts l.keeper) (g.K.Keeper.parts b.keeper) (g.K.Keeper.failing l.keeper) (g.K.Keeper.failing b.keeper) (beside p l) (beside p b) c.if-taken.false (subst (λ (x : Rows). IsTaken c.in_ok-taken.taken (g.K.Keeper.contents l.keeper) x key) c.table.ensures.rows c.in_ok-taken.ensures.taken) (ap (beside p) c.in_ok-taken.ensures.ok) c.in_ok-taken.ensures.done c.bring.ensures.contents c.in_ok-taken.ensures.put) (ap (beside p) c.in-Ok.ensures.ok) c.in-Ok.ensures.calls (placed_content (g.K.Keeper.contents l.keeper) (g.K.Keeper.contents b.keeper) (g.K.Keeper.contents m.keeper) (g.K.Keeper.parts l.keeper) (g.K.Keeper.parts b.keeper) key bytes (c.in_ok-taken.ensures.part c.if-taken.false) c.bring.ensures.contents c.in-Ok.ensures.content) c.in-Ok.ensures.part) (err_so c.log_status.result p PutFile m last c.log_status.ensures.err) c.log_status.ensures.calls)

pub returns-in-Ok-clause-room : goal.returns-in-Ok-clause-room
returns-in-Ok-clause-room g c =
    let i = c.self.inside in
    let p = i.parts in
    let l = i.ledger in
    let b = c.bring.new.self in
    subst (λ v. OnOk c.log_status.result (length v.history < most_entries)) c.self.view_is
    (room_later c.in_ok-taken.taken c.log_status.result c.in_ok-taken.ensures.room)
