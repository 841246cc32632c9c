-- What the proof of `reading::read` needs beside the tactics.
use Rattle.std.proofs.Common.{◌++◌, ◌∷◌, [], length, arith}
use Rattle.wanted_expr.specs.Expressions.{NextIs}
use Rattle.wanted_expr.specs.Reading.{Awaiting, reading_state}
use Rattle.wanted_expr.proofs.ReadLemmas.{reads_on, runs_on, stops}
use Rattle.wanted_expr.proofs.reading.read.Goals as goal

pub returns-in_err-reading : goal.returns-in_err-reading
returns-in_err-reading c =
    let next : NextIs (length c.args.text.now) c.loop-reading.rest.now c.in-Some.at c.in-Some.lexeme c.in-Some.after.now = rw c.in-Some.is at c.in_ok-at.ensures.exact in
    stops c.args.text.now c.loop-reading.rest.now c.in-Some.after.now c.loop-reading.invariant.2.0 (reading_state c.loop-reading.reading) c.in-Some.at c.in-Some.lexeme c.in_err-reading.field-0.0 c.from_residual-in_err-reading.result
    c.loop-reading.invariant.2.1 c.loop-reading.invariant.2.2 next c.in_err-reading.ensures.state c.from_residual-in_err-reading.ensures.1

pub loop-reading-preserved : goal.loop-reading-preserved
loop-reading-preserved c =
    let next : NextIs (length c.args.text.now) c.loop-reading.rest.now c.in-Some.at c.in-Some.lexeme c.in-Some.after.now = rw c.in-Some.is at c.in_ok-at.ensures.exact in
    let shorter = rw c.in-Some.is at c.in_ok-at.ensures.shorter in (
      omega (arith, shorter, c.loop-reading.invariant.0),
      c.in_ok-reading.ensures.counted,
      (
        c.loop-reading.invariant.2.0 ++ (c.in-Some.at, c.in-Some.lexeme) ∷ [],
        reads_on (length c.args.text.now) c.args.text.now c.loop-reading.invariant.2.0 c.loop-reading.rest.now c.in-Some.after.now c.in-Some.at c.in-Some.lexeme c.loop-reading.invariant.2.1 next,
        runs_on c.loop-reading.invariant.2.0 c.in-Some.at c.in-Some.lexeme (Awaiting []) (reading_state c.loop-reading.reading) (reading_state c.in_ok-reading.reading) c.loop-reading.invariant.2.2 c.in_ok-reading.ensures.state,
      ),
    )
