-- What the proof of `branches::Branches::add` needs beside the tactics.
use Rattle.std.proofs.Common.{◌<◌, ◌∙◌, ap, arith, length, length-set, slice_set}
use Rattle.std.proofs.lemmas.List.{get_or_default, set-get_or}
use Rattle.std.proofs.lemmas.Result.{err_from_is_err_and}
use Rattle.run_model.specs.Logs.{branch_after}
use Rattle.report_tables.proofs.BranchLemmas.{branch_noted}
use Rattle.report_tables.proofs.branches.Branches.add.Goals as goal

pub returns-in_ok-change-clause-ok : goal.returns-in_ok-change-clause-ok
returns-in_ok-change-clause-ok c n past has =
    let e = c.args.entry.now in
    let i = c.in-Some.repo in
    let branches = c.args.self.now.branches.items in
    let within : i < length branches = omega arith in
    record {
      number_is = length-set branches i c.change.new.branch ∙ has.number_is;
      each = λ r below. branch_noted branches i c.change.new.branch past e r c.in-Some.is within
          (c.in_ok-change.ensures.ok ∙ ap (λ was. branch_after was e.kind e.lines) (c.index_mut.ensures.value ∙ get_or_default branches i c.index_mut.result.now _ within))
          (has.each r below);
    }

pub returns-in_err-change-clause-err : goal.returns-in_err-change-clause-err
returns-in_err-change-clause-err c =
    let p = err_from_is_err_and c.from_residual.result c.from_residual.ensures.1 in
    let branches = c.args.self.now.branches.items in
    rw p.1 (ap (slice_set branches c.in-Some.repo) (c.in_err-change.ensures.err ∙ c.index_mut.ensures.value) ∙ set-get_or branches c.in-Some.repo _)
