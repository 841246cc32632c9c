-- What the proof of `indices::add_line` needs beside the tactics.
use Rattle.std.proofs.Common.{sym, ap, subst, ◌∙◌}
use Rattle.std.proofs.lemmas.Result.{IfOk-weaker}
use Rattle.log_lines.specs.Index.{empty_index, index_with}
use Rattle.trust_groups.specs.Adding.{indices_and}
use Rattle.trust_groups.specs.Reads.{Indices, HaveReadLines, kind_at, lines_with, view_of}
use Rattle.trust_groups.proofs.ReadsLemmas.{known_reads, first_reads}
use Rattle.trust_groups.proofs.indices.add_line.Goals as goal

pub returns-then-branch-clause-reads : goal.returns-then-branch-clause-reads
returns-then-branch-clause-reads c = λ lines reads.
    let path = c.args.path.now in
    let known = c.in_ok-add_known.ensures.known c.if-branch.true in
    subst (λ (es : Indices). HaveReadLines es (lines_with lines path c.args.line.now)) (sym known.2) (known_reads (view_of c.args.files.now.entries) path c.args.line.now known.0 lines known.1 reads)

pub returns-clause-reads : goal.returns-clause-reads
returns-clause-reads c =
    let path = c.args.path.now in
    let line = c.args.line.now in
    let unknown = c.in_ok-add_known.ensures.unknown c.if-branch.false in
    IfOk-weaker c.add_first.result _ _ (λ v is lines reads.
    subst (λ (es : Indices). HaveReadLines es (lines_with lines path line))
    (sym (is ∙ ap (λ (es : Indices). indices_and es path (index_with (empty_index (kind_at path)) line)) unknown.1))
    (first_reads (view_of c.args.files.now.entries) path line lines unknown.0 reads)) c.add_first.ensures.ok
