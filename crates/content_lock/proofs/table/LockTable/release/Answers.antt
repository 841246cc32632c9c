-- What the proof of `table::LockTable::release` needs beside the tactics.
use Rattle.std.proofs.Common.{List, ap, sym, subst, ◌∙◌}
use Rattle.run_data.specs.declared.row.Hold.{Hold}
use Rattle.content_lock.specs.Indexed.{AreFalling}
use Rattle.content_lock.specs.Rows.{Rows}
use Rattle.content_lock.specs.Stored.{Agrees, AgreesInEnds}
use Rattle.content_lock.specs.Tokens.{Owns, ShareView, others_of}
use Rattle.content_lock.proofs.StoredLemmas.{agrees_without, ends_without}
use Rattle.content_lock.proofs.TokenLemmas.{off_is_owners, others_own_off}
use Rattle.content_lock.proofs.table.LockTable.release.Goals as goal

pub returns-in-Ok-clause-ended : goal.returns-in-Ok-clause-ended
returns-in-Ok-clause-ended g c = λ owns.
    let number = ap (λ (s : ShareView). s.number) c.share.view_is in
    let holds = ap (λ (r : Rows). r.holds) c.self.view_is in
    let off = c.take_off.ensures.off ∙ (λ i. others_of (number i) (holds i)) in
    off ∙ off_is_owners c.args.self.now.holds c.args.share (subst AreFalling holds c.take_off.ensures.falling) owns

pub returns-in-Ok-clause-others : goal.returns-in-Ok-clause-others
returns-in-Ok-clause-others g c = λ by other differ owns.
    let number = ap (λ (s : ShareView). s.number) c.share.view_is in
    let holds = ap (λ (r : Rows). r.holds) c.self.view_is in
    let off = c.take_off.ensures.off ∙ (λ i. others_of (number i) (holds i)) in
    subst (Owns by other) (sym off) (others_own_off c.args.self.now.holds c.args.share by other c.requires.given differ owns)

pub returns-in-Ok-clause-agrees : goal.returns-in-Ok-clause-agrees
returns-in-Ok-clause-agrees g c = λ x is.
    let n = c.share.inside.number in
    let off = c.take_off.ensures.off ∙ ap (λ (r : Rows). others_of n r.holds) c.self.view_is in
    let known = g.K.Keeper.records c.args.keeper.now in
    subst (λ (hs : List Hold). Agrees (g.K.Keeper.records c.remove_hold.new.self) hs) (sym off)
    (rw c.in-Ok.ensures.ok (agrees_without known c.args.self.now.holds n c.requires.agrees)) x is

pub returns-in-Ok-clause-ends : goal.returns-in-Ok-clause-ends
returns-in-Ok-clause-ends g c = λ ends x is.
    let n = c.share.inside.number in
    let off = c.take_off.ensures.off ∙ ap (λ (r : Rows). others_of n r.holds) c.self.view_is in
    let known = g.K.Keeper.records c.args.keeper.now in
    subst (λ (hs : List Hold). AgreesInEnds (g.K.Keeper.records c.remove_hold.new.self) hs) (sym off)
    (rw c.in-Ok.ensures.ok (ends_without known c.args.self.now.holds n ends)) x is
