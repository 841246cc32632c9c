-- What the proof of `branch::take_lines` needs beside the tactics.
use Rattle.std.proofs.Common.{◌≡◌, Some, ap, sym, ◌∙◌}
use Rattle.annex_base.proofs.Rows.{lookup-shown}
use Rattle.union_merge.specs.LineSet.{difference}
use Rattle.union_merge.specs.Branch.{file_at, or_none, with_file}
use Rattle.union_merge.specs.FileView.{files_of}
use Rattle.union_merge.proofs.SetLemmas.{Lines}
use Rattle.union_merge.proofs.BranchLemmas.{Member-file_at, never_none}
use Rattle.union_merge.proofs.ViewLemmas.{files_of-set_value}
use Rattle.union_merge.proofs.branch.take_lines.Goals as goal

pub unreachable-requires : goal.unreachable-requires
unreachable-requires c =
    never_none (file_at (files_of c.args.files.now.entries) c.args.path.now) (sym (lookup-shown c.args.files.now.entries c.args.path.now) ∙ sym c.in_default.ensures.value) c.requires.there

pub returns : goal.returns
returns c =
    let found : file_at (files_of c.args.files.now.entries) c.args.path.now ≡ Some c.in-Some.own.now = sym (lookup-shown c.args.files.now.entries c.args.path.now) ∙ sym c.in-Some.ensures.value in
    ap files_of (c.get_mut.follows.holds c.take_off.new.self).0
    ∙ files_of-set_value c.args.files.now.entries c.args.path.now c.take_off.new.self c.requires.order (Member-file_at (files_of c.args.files.now.entries) c.args.path.now c.in-Some.own.now found)
    ∙ ap (with_file (files_of c.args.files.now.entries) c.args.path.now) (c.take_off.ensures ∙ ap (λ (w : Lines). difference w c.args.lines.now) (ap or_none (sym found)))
