-- What the proof of `settings::Settings::add` needs beside the tactics.
use Rattle.std.proofs.Common.{refl, sym, subst, ◌∙◌}
use Rattle.std.proofs.lemmas.Result.{IfOk-weaker}
use Rattle.trust_groups.specs.Reads.{Indices, HaveReadLines, lines_with, view_of}
use Rattle.trust_groups.proofs.ExprLemmas.{line_read, still_read}
use Rattle.trust_groups.proofs.KeptLemmas.{settings_read}
use Rattle.trust_groups.proofs.MergeLemmas.{other_file}
use Rattle.trust_groups.proofs.settings.Settings.add.Goals as goal

-- where memory runs out for the line's expressions
pub invariant_of-self : goal.invariant_of-self
invariant_of-self c = (
  c.self.invariant.0,
  still_read c.self.inside.exprs c.keep_exprs_of.new.exprs (view_of c.self.inside.files.entries) (view_of c.self.inside.files.entries) c.self.invariant.1 c.keep_exprs_of.ensures.keeps refl,
)

pub invariant_of-self-2 : goal.invariant_of-self-2
invariant_of-self-2 c = (
  c.add_kept.ensures.kept c.self.invariant.0,
  line_read c.add_kept.result c.self.inside.exprs c.keep_exprs_of.new.exprs (view_of c.self.inside.files.entries) (view_of c.add_kept.new.files.entries) c.args.path.now c.args.line.now c.self.invariant.1
      c.keep_exprs_of.ensures.keeps c.in_ok-keep_exprs_of.ensures.have c.add_kept.ensures.reads c.add_kept.ensures.err,
)

pub returns-clause-settings : goal.returns-clause-settings
returns-clause-settings c =
    IfOk-weaker c.add_kept.result _ _ (λ v read lines reads.
    settings_read (view_of c.add_kept.new.files.entries) (lines_with lines c.args.path.now c.args.line.now) (read lines (subst (λ (es : Indices). HaveReadLines es lines) (sym c.self.view_is) reads))) c.add_kept.ensures.reads

pub returns-clause-other : goal.returns-clause-other
returns-clause-other c =
    IfOk-weaker c.add_kept.result _ _ (λ v read lines reads none.
    settings_read (view_of c.add_kept.new.files.entries) (lines_with lines c.args.path.now c.args.line.now) (read lines (subst (λ (es : Indices). HaveReadLines es lines) (sym c.self.view_is) reads))
    ∙ other_file lines c.args.path.now c.args.line.now none
    ∙ sym (settings_read c.args.self.now lines reads)) c.add_kept.ensures.reads
