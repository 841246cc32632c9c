-- What the proof of `exprs::keep_all` needs beside the tactics.
use Rattle.std.proofs.Common.{List, ℕ, arith, take}
use Rattle.log_lines.specs.Reading.{entry_of}
use Rattle.trust_groups.specs.Exprs.{HaveExprs, texts_said}
use Rattle.trust_groups.proofs.ExprLemmas.{said_keep}
use Rattle.trust_groups.proofs.LineLemmas.{all_taken, next_line}
use Rattle.trust_groups.proofs.exprs.keep_all.Goals as goal

pub loop-line-init : goal.loop-line-init
loop-line-init c = (λ text has. has, λ line among. absurd among)

pub loop-line-preserved : goal.loop-line-preserved
loop-line-preserved c =
    let lines = c.args.lines.now in
    let now = c.keep_said.new.exprs in (
      λ text has. c.keep_said.ensures.keeps text (c.loop-line.invariant.0 text has),
      next_line (λ (line : List ℕ). HaveExprs now (texts_said (entry_of c.args.kind line))) lines c.loop-line.line-index c.line-item.result c.loop-line-test.true c.line-item.is
          (said_keep c.loop-line.exprs now c.args.kind (take c.loop-line.line-index lines) c.keep_said.ensures.keeps c.loop-line.invariant.1) c.in_ok-keep_said.ensures.have,
    )

pub returns-in_err-keep_said-clause-keeps : goal.returns-in_err-keep_said-clause-keeps
returns-in_err-keep_said-clause-keeps c = λ text has. c.keep_said.ensures.keeps text (c.loop-line.invariant.0 text has)

pub returns-clause-keeps : goal.returns-clause-keeps
returns-clause-keeps c = c.loop-line.invariant.0

pub returns-clause-have : goal.returns-clause-have
returns-clause-have c =
    all_taken (λ (line : List ℕ). HaveExprs c.loop-line.exprs (texts_said (entry_of c.args.kind line))) c.args.lines.now c.loop-line.line-index (omega (arith, c.loop-line-test.false)) c.loop-line.invariant.1
