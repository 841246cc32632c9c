-- What the proof of `walk::Walk::possessors` needs beside the tactics.
use Rattle.std.proofs.Common.{List, length, subst, sym, ap, ◌∙◌}
use Rattle.std.specs.Prelude.{filter}
use Rattle.std.specs.List.{range_with_len}
use Rattle.run_data.specs.declared.run.RepoView.{RepoView}
use Rattle.run_model.specs.Past.{present}
use Rattle.run_model.specs.Safety.{past_at}
use Rattle.report_tables.specs.Contents.{Tracks}
use Rattle.report_tables.proofs.walk.Walk.possessors.Goals as goal

pub returns : goal.returns
returns c = λ place stands.
    let past = past_at c.args.run.now place in
    c.in_ok-numbers.ensures past (subst (λ (xs : List RepoView). Tracks c.args.self.now.contents (length xs) past) (sym c.as_slice.ensures) stands.knows.contents)
    ∙ ap (λ (xs : List RepoView). filter (λ r. present past r c.args.key.now) (range_with_len 0 (length xs))) c.as_slice.ensures
