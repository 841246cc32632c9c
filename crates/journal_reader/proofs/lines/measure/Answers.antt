-- What the proof of `lines::measure` needs beside the tactics.
use Rattle.std.proofs.Common.{◌∙◌, ℕ, List, length, sym, ap, arith}
use Rattle.journal_reader.proofs.LineLemmas.{lines_cut, lines_whole}
use Rattle.journal_reader.proofs.lines.measure.Goals as goal

pub loop-after-preserved : goal.loop-after-preserved
loop-after-preserved c =
    let is = lines_cut c.loop-after.rest.now _ (sym c.in-Some.ensures.parts) in
    record {
      count = omega (arith, c.loop-after.invariant.count, ap (λ (y : List (List ℕ) × List ℕ). length y.0) is);
      tail = sym (ap (λ (y : List (List ℕ) × List ℕ). y.1) is) ∙ c.loop-after.invariant.tail;
      few = omega (arith, c.loop-after.invariant.few, c.in-Some.ensures.shorter);
    }

pub returns-clause-count : goal.returns-clause-count
returns-clause-count c =
    let is = lines_whole c.loop-after.rest.now (sym c.in_default.ensures.parts) in
    omega (arith, c.loop-after.invariant.count, ap (λ (y : List (List ℕ) × List ℕ). length y.0) is)

pub returns-clause-tail : goal.returns-clause-tail
returns-clause-tail c =
    let is = lines_whole c.loop-after.rest.now (sym c.in_default.ensures.parts) in
    sym (ap (λ (y : List (List ℕ) × List ℕ). y.1) is) ∙ c.loop-after.invariant.tail
