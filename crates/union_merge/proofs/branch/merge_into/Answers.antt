-- What the proof of `branch::merge_into` needs beside the tactics.
use Rattle.std.proofs.Common.{◌≡◌, ◌∙◌, Some, sym, ap}
use Rattle.annex_base.proofs.Rows.{lookup-shown}
use Rattle.annex_base.proofs.Results.{OnErr-always}
use Rattle.union_merge.specs.LineSet.{union}
use Rattle.union_merge.specs.Branch.{file_at, or_none, with_file}
use Rattle.union_merge.specs.FileView.{files_of}
use Rattle.union_merge.proofs.SetLemmas.{Lines}
use Rattle.union_merge.proofs.BranchLemmas.{Member-file_at}
use Rattle.union_merge.proofs.ViewLemmas.{files_of-set_value, set_value-same}
use Rattle.union_merge.proofs.branch.merge_into.Goals as goal

pub returns-in_default-clause-missing : goal.returns-in_default-clause-missing
returns-in_default-clause-missing c = λ is.
    (sym (lookup-shown c.args.files.now.entries c.args.path.now) ∙ sym c.in_default.ensures.value, ap (λ m. files_of m.entries) c.get_mut.follows.holds-at-none)

pub returns-in_err-merge-clause-err : goal.returns-in_err-merge-clause-err
returns-in_err-merge-clause-err c =
    OnErr-always _ c.from_residual.result
    (ap files_of ((c.get_mut.follows.holds c.merge.new.self).0 ∙ set_value-same c.args.files.now.entries c.args.path.now c.merge.new.self (sym c.in-Some.ensures.value ∙ ap Some (sym c.in_err-merge.ensures.err))))

pub returns-clause-there : goal.returns-clause-there
returns-clause-there c = λ is.
    let found : file_at (files_of c.args.files.now.entries) c.args.path.now ≡ Some c.in-Some.own.now = sym (lookup-shown c.args.files.now.entries c.args.path.now) ∙ sym c.in-Some.ensures.value in
    ap files_of (c.get_mut.follows.holds c.merge.new.self).0
    ∙ files_of-set_value c.args.files.now.entries c.args.path.now c.merge.new.self c.requires (Member-file_at (files_of c.args.files.now.entries) c.args.path.now c.in-Some.own.now found)
    ∙ ap (with_file (files_of c.args.files.now.entries) c.args.path.now) (c.in_ok-merge.ensures.ok ∙ ap (λ (w : Lines). union w c.args.lines.now) (ap or_none (sym found)))
