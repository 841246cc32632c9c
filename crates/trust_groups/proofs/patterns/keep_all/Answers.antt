-- What the proof of `patterns::keep_all` needs beside the tactics.
use Rattle.std.proofs.Common.{List, ℕ, arith, take}
use Rattle.log_lines.specs.Reading.{entry_of}
use Rattle.trust_groups.specs.Globs.{HasGlob, pattern_said}
use Rattle.trust_groups.proofs.GlobLemmas.{globs_keep}
use Rattle.trust_groups.proofs.LineLemmas.{all_taken, next_line}
use Rattle.trust_groups.proofs.patterns.keep_all.Goals as goal

pub loop-line-init : goal.loop-line-init
loop-line-init c = (λ pattern has. has, λ line among. absurd among)

pub loop-line-preserved : goal.loop-line-preserved
loop-line-preserved c =
    let lines = c.args.lines.now in
    let now = c.keep_said.new.globs.entries in (
      λ pattern has. c.keep_said.ensures.keeps pattern (c.loop-line.invariant.0 pattern has),
      next_line (λ (line : List ℕ). HasGlob now (pattern_said (entry_of c.args.kind line))) lines c.loop-line.line-index c.line-item.result c.loop-line-test.true c.line-item.is
          (globs_keep c.loop-line.globs.entries now c.args.kind (take c.loop-line.line-index lines) c.keep_said.ensures.keeps c.loop-line.invariant.1) c.in_ok-keep_said.ensures.has,
    )

pub returns-in_err-keep_said-clause-keeps : goal.returns-in_err-keep_said-clause-keeps
returns-in_err-keep_said-clause-keeps c = λ pattern has. c.keep_said.ensures.keeps pattern (c.loop-line.invariant.0 pattern has)

pub returns-clause-keeps : goal.returns-clause-keeps
returns-clause-keeps c = c.loop-line.invariant.0

pub returns-clause-have : goal.returns-clause-have
returns-clause-have c =
    all_taken (λ (line : List ℕ). HasGlob c.loop-line.globs.entries (pattern_said (entry_of c.args.kind line))) c.args.lines.now c.loop-line.line-index (omega (arith, c.loop-line-test.false)) c.loop-line.invariant.1
