-- What the proof of `shown::put_showing` needs beside the tactics.
use Rattle.std.proofs.Common.{◌<◌, ◌++◌, ℕ, ap, ◌∙◌, sym, subst}
use Rattle.union_merge.specs.Branch.{Files, lines_at}
use Rattle.trust_groups.specs.Settings.{claims}
use Rattle.shown_text.specs.Shown.{claims_text}
use Rattle.report_text.proofs.shown.put_showing.Goals as goal

pub returns-in_ok-put_presence-in-Presence-clause-text : goal.returns-in_ok-put_presence-in-Presence-clause-text
returns-in_ok-put_presence-in-Presence-clause-text c =
    rw c.in-Presence.is (c.in_ok-put_presence-in-Presence.ensures c.args.place c.in_ok-move_to-in-Presence.ensures)

pub returns-in_ok-put_claims-in-Claims-clause-text : goal.returns-in_ok-put_claims-in-Claims-clause-text
returns-in_ok-put_claims-in-Claims-clause-text c =
    let text = claims_text c.args.run.now c.in-Claims.repo c.in-Claims.key in
    rw c.in-Claims.is (c.in_ok-put_claims-in-Claims.ensures
    ∙ ap (λ (b : Files). c.args.out.now.items ++ text (claims (lines_at b) c.in-Claims.key.key)) (c.branch-walk.ensures c.args.run.now c.args.place c.in_ok-move_to-in-Claims.ensures))

pub put_row_at-requires : goal.put_row_at-requires
put_row_at-requires c =
    subst (λ (n : ℕ). c.in-Row.repo < n) (sym c.in_ok-move_to-in-Row.ensures.knows.rows.number_is) (rw c.in-Row.is at c.requires.known)

pub returns-in_ok-put_row_at-in-Row-clause-text : goal.returns-in_ok-put_row_at-in-Row-clause-text
returns-in_ok-put_row_at-in-Row-clause-text c = rw c.in-Row.is (c.in_ok-put_row_at-in-Row.ensures c.args.place c.in_ok-move_to-in-Row.ensures)
