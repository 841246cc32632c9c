-- What the proof of `exprs::keep_standard` needs beside the tactics.
use Rattle.std.proofs.Common.{List, ℕ, map, take, arith, ap, subst, ◌∙◌}
use Rattle.std.proofs.lemmas.List.{take_all}
use Rattle.wanted_expr.specs.Wanted.{standard_text}
use Rattle.trust_groups.specs.Exprs.{HaveExprs}
use Rattle.trust_groups.proofs.ExprLemmas.{next_standard, texts_keep}
use Rattle.trust_groups.proofs.exprs.keep_standard.Goals as goal

pub loop-group-init : goal.loop-group-init
loop-group-init c = (λ text has. has, tt)

pub loop-group-preserved : goal.loop-group-preserved
loop-group-preserved c = (
  λ text has. c.keep.ensures.keeps text (c.loop-group.invariant.0 text has),
  next_standard c.keep.new.self c.args.groups.now c.loop-group.group-index c.group-item.result c.standard_text.result.now c.loop-group-test.true c.group-item.is (c.standard_text.ensures ∙ ap standard_text c.bytes.ensures)
      (texts_keep c.loop-group.exprs c.keep.new.self c.keep.ensures.keeps (map standard_text (take c.loop-group.group-index c.args.groups.now)) c.loop-group.invariant.1) c.in_ok-keep.ensures.has,
)

pub returns-in_err-keep-clause-keeps : goal.returns-in_err-keep-clause-keeps
returns-in_err-keep-clause-keeps c = λ text has. c.keep.ensures.keeps text (c.loop-group.invariant.0 text has)

pub returns-clause-keeps : goal.returns-clause-keeps
returns-clause-keeps c = c.loop-group.invariant.0

pub returns-clause-have : goal.returns-clause-have
returns-clause-have c =
    subst (λ (groups : List (List ℕ)). HaveExprs c.loop-group.exprs (map standard_text groups)) (take_all c.loop-group.group-index c.args.groups.now (omega (arith, c.loop-group-test.false))) c.loop-group.invariant.1
