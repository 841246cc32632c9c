-- What the proof of `walk::Walk::row` needs beside the tactics.
use Rattle.std.proofs.Common.{◌<◌, ℕ, refl, subst, length}
use Rattle.run_model.specs.Safety.{past_at}
use Rattle.report_tables.proofs.walk.Walk.row.Goals as goal

pub returns : goal.returns
returns c = λ run place stands.
    let past = past_at run place in
    let knows = stands.knows in
    let within = subst (λ (n : ℕ). c.args.repo < n) knows.rows.number_is c.requires in
    rw (
      c.has.ensures.known (length run.repos) past knows.contents within,
      c.bar.ensures run.repos past knows.rows,
      c.from_vec.ensures,
      c.in_ok-holds.ensures run.repos past knows.rows,
    ) refl
