-- What the proof of `line::storm_line` needs beside the tactics.
use Rattle.std.proofs.Common.{List, ℕ, ◌≡◌, IfOk, subst}
use Rattle.storm_line.proofs.Written.{line_same}
use Rattle.storm_line.proofs.line.storm_line.Goals as goal

pub returns : goal.returns
returns c =
    subst (λ (l : List ℕ). IfOk c.written.result (λ text. text.items ≡ l))
    (line_same c.args.number c.args.jobs _ _ _ _ _ _ _ _ c.in_ok-ended.ensures.done c.in_ok-ended.ensures.refused c.in_ok-noslots.ensures c.in_ok-kept.ensures) c.written.ensures
