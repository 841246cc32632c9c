-- What the proof of `table::LockTable::hold` needs beside the tactics.
use Rattle.std.proofs.Common.{false, List, ◌<◌, ap, sym, subst, ◌∙◌}
use Rattle.std.specs.Prelude.{All}
use Rattle.run_data.specs.declared.row.Hold.{Hold}
use Rattle.content_lock.specs.Rows.{Rows}
use Rattle.content_lock.specs.Tokens.{others_of}
use Rattle.content_lock.proofs.StoredLemmas.{recorded_new}
use Rattle.content_lock.proofs.TokenLemmas.{off_again}
use Rattle.content_lock.proofs.TurnLemmas.{hold_refused}
use Rattle.content_lock.proofs.table.LockTable.hold.Goals as goal

pub returns-in-Ok-clause-recorded : goal.returns-in-Ok-clause-recorded
returns-in-Ok-clause-recorded g c =
    c.in-Ok.ensures.ok ∙ recorded_new (g.K.Keeper.records c.args.keeper.now) c.args.self.now.holds c.args.stored c.requires.agrees c.requires.fresh

pub returns-in-Err-clause-err : goal.returns-in-Err-clause-err
returns-in-Err-clause-err g c =
    let n = c.args.stored.number in
    let hs = c.self.inside.holds in
    let h : Hold = record { number = n; key = c.in_ok-copy.field-0; end = c.args.stored.end; kept = false; owner = c.args.owner } in
    let less = subst (λ (l : List Hold). All (λ x. x.number < n) l) (sym (ap (λ (r : Rows). r.holds) c.self.view_is)) c.requires.fresh in
    let back = c.take_off.ensures.off ∙ ap (others_of n) c.in_ok-add.ensures.ok ∙ off_again h hs less in
    (λ i. record { holds = back i; bars = c.self.inside.bars.entries; fills = c.self.inside.fills.keys }) ∙ c.self.view_is

pub returns-in-Err-clause-failing : goal.returns-in-Err-clause-failing
returns-in-Err-clause-failing g c =
    rw c.from.ensures (hold_refused c.in-Err.fault (g.K.Keeper.failing c.args.keeper.now) (g.K.Keeper.failing c.put_hold.new.self) c.in-Err.ensures.failing)
