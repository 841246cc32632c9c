-- What the proof of `stamped::status_line` needs beside the tactics.
use Rattle.std.proofs.Common.{List, ℕ, Some, sym, ap, subst, ◌∙◌}
use Rattle.log_lines.specs.declared.entry.LogKind.TheVariants as kinds
use Rattle.log_lines.specs.declared.entry.Topic.TheVariants as topics
use Rattle.log_lines.specs.declared.entry.Value.{Value}
use Rattle.log_lines.specs.LineText.{line_text}
use Rattle.log_lines.specs.Newest.{newest_stamp, next_stamp}
use Rattle.union_merge.specs.Branch.{lines_at}
use Rattle.union_merge.specs.LineSet.{IsLine}
use Rattle.branch_lines.proofs.LineLemmas.{status_is_line}
use Rattle.branch_lines.proofs.stamped.status_line.Goals as goal

pub returns-clause-line : goal.returns-clause-line
returns-clause-line c =
    let time : ℕ = next_stamp (newest_stamp kinds.Location (lines_at c.args.branch.now c.args.path.now) (topics.Repo c.args.id)) c.args.clock in
    subst (λ (line : List ℕ). IsLine line)
    (sym (c.in_ok-line.ensures ∙ ap (λ (v : Value). line_text kinds.Location (record { topic = topics.Repo c.args.id; stamp = Some time; value = v })) c.status.ensures))
    (status_is_line c.args.id c.args.there time)
