-- What the proof of `settings::Settings::read` needs beside the tactics.
use Rattle.std.proofs.Common.{[], ap, ◌∙◌}
use Rattle.union_merge.specs.Branch.{lines_at}
use Rattle.union_merge.specs.FileView as view
use Rattle.trust_groups.specs.Adding.{lines_and}
use Rattle.trust_groups.specs.Reads.{view_of}
use Rattle.trust_groups.proofs.ExprLemmas.{have_more_exprs}
use Rattle.trust_groups.proofs.GlobLemmas.{have_more}
use Rattle.trust_groups.proofs.KeptLemmas.{settings_read}
use Rattle.trust_groups.proofs.ReadsLemmas.{from_start, from_step, from_end, reads_none, reads_same}
use Rattle.trust_groups.proofs.settings.Settings.read.Goals as goal

pub loop-path-init : goal.loop-path-init
loop-path-init c = (
  λ path. [],
  reads_none c.new-files.result.entries c.new-files.ensures.empty,
  λ kind by line among. absurd among,
  λ kind has line among. absurd among,
  from_start c.args.branch.now c.into_iter-path-iterator.result (ap view.files_of c.into_iter-path-iterator.ensures.into_iter_gives ∙ c.files-path-items.ensures.value) c.files-path-items.ensures.branch,
)

pub loop-path-preserved : goal.loop-path-preserved
loop-path-preserved c =
    let so_far = c.loop-path.invariant in (
      lines_and so_far.0 c.as_slice-path.result.now c.lines-lines.result.now,
      c.in_ok-add_file.ensures so_far.0 so_far.1,
      have_more c.loop-path.globs.entries c.keep_globs.new.globs.entries so_far.0 c.as_slice-path.result.now c.lines-lines.result.now so_far.2 c.keep_globs.ensures.keeps c.in_ok-keep_globs.ensures.have,
      have_more_exprs c.loop-path.exprs c.keep_exprs.new.exprs so_far.0 c.as_slice-path.result.now c.lines-lines.result.now so_far.3 c.keep_exprs.ensures.keeps c.in_ok-keep_exprs.ensures.have,
      from_step so_far.0 (lines_at c.args.branch.now) c.loop-path.path-iterator c.next.new.self (c.in-Some.path.now, c.in-Some.lines.now) c.as_slice-path.result.now c.lines-lines.result.now
          c.in-Some.ensures.steps c.as_slice-path.ensures.value c.lines-lines.ensures.value so_far.4,
    )

pub returns-clause-reads : goal.returns-clause-reads
returns-clause-reads c =
    let so_far = c.loop-path.invariant in
    reads_same (view_of c.loop-path.files.entries) so_far.0 (lines_at c.args.branch.now)
    (from_end so_far.0 (lines_at c.args.branch.now) c.loop-path.path-iterator c.in-None.ensures.steps.0 so_far.4) so_far.1

pub returns-clause-exact : goal.returns-clause-exact
returns-clause-exact c =
    let so_far = c.loop-path.invariant in
    settings_read (view_of c.loop-path.files.entries) (lines_at c.args.branch.now)
    (reads_same (view_of c.loop-path.files.entries) so_far.0 (lines_at c.args.branch.now)
    (from_end so_far.0 (lines_at c.args.branch.now) c.loop-path.path-iterator c.in-None.ensures.steps.0 so_far.4) so_far.1)

pub invariant_of-result : goal.invariant_of-result
invariant_of-result c =
    let so_far = c.loop-path.invariant in (
      record { lines = so_far.0; reads = so_far.1; have = so_far.2 },
      record { lines = so_far.0; reads = so_far.1; have = so_far.3 },
    )
