-- What the proof of `table::LockTable::abandon` needs beside the tactics.
use Rattle.std.proofs.Common.{List, None, map, sym, ap, subst, ◌∙◌}
use Rattle.run_data.specs.declared.row.Hold.{Hold}
use Rattle.content_lock.specs.Indexed.{AreFalling}
use Rattle.content_lock.specs.Rows.{Rows, bar_at}
use Rattle.content_lock.specs.Stored.{label_of, record_of}
use Rattle.content_lock.specs.Tokens.{Owns, ShareView, keep_numbered}
use Rattle.content_lock.proofs.StoredLemmas.{labels_kept, records_kept}
use Rattle.content_lock.proofs.TokenLemmas.{keeps_owners, others_own_kept, owns_kept}
use Rattle.content_lock.proofs.table.LockTable.abandon.Goals as goal

pub returns-clause-after : goal.returns-clause-after
returns-clause-after c = λ owns.
    let number = ap (λ (s : ShareView). s.number) c.share.view_is in
    let holds = ap (λ (r : Rows). r.holds) c.self.view_is in
    let kept = c.keep.ensures.kept ∙ (λ i. map (keep_numbered (number i)) (holds i)) in
    record {
      holds = kept ∙ keeps_owners c.args.self.now.holds c.args.share (subst AreFalling holds c.keep.ensures.falling) owns;
      bars = λ key. ap (λ (r : Rows). bar_at r key) c.self.view_is;
      fills = ap (λ (r : Rows). r.fills) c.self.view_is;
    }

pub returns-clause-owns : goal.returns-clause-owns
returns-clause-owns c = λ owns.
    let number = ap (λ (s : ShareView). s.number) c.share.view_is in
    let holds = ap (λ (r : Rows). r.holds) c.self.view_is in
    let kept = c.keep.ensures.kept ∙ (λ i. map (keep_numbered (number i)) (holds i)) in
    subst (λ (hs : List Hold). Owns c.args.share.owner None hs) (sym kept) (owns_kept c.args.self.now.holds c.args.share (subst AreFalling holds c.keep.ensures.falling) owns)

pub returns-clause-others : goal.returns-clause-others
returns-clause-others c = λ by other differ owns.
    let number = ap (λ (s : ShareView). s.number) c.share.view_is in
    let holds = ap (λ (r : Rows). r.holds) c.self.view_is in
    let kept = c.keep.ensures.kept ∙ (λ i. map (keep_numbered (number i)) (holds i)) in
    subst (Owns by other) (sym kept) (others_own_kept c.args.self.now.holds c.args.share by other c.requires.given differ owns)

pub returns-clause-stored : goal.returns-clause-stored
returns-clause-stored c =
    ap (map record_of) c.keep.ensures.kept ∙ records_kept c.share.inside.number c.self.inside.holds ∙ ap (λ (r : Rows). map record_of r.holds) c.self.view_is

pub returns-clause-labels : goal.returns-clause-labels
returns-clause-labels c =
    ap (map label_of) c.keep.ensures.kept ∙ labels_kept c.share.inside.number c.self.inside.holds ∙ ap (λ (r : Rows). map label_of r.holds) c.self.view_is
