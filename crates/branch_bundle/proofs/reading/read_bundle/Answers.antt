-- What the proof of `reading::read_bundle` needs beside the tactics.
use Rattle.std.proofs.Common.{inl, ap, Err, rules}
use Rattle.branch_bundle.specs.Bundle.{IsFirstWrong}
use Rattle.branch_bundle.specs.declared.fault.BundleFault.TheVariants.{BadBundle}
use Rattle.branch_bundle.proofs.FillLemmas.{Each-from_reads}
use Rattle.branch_bundle.proofs.ExactLemmas.{one_place}
use Rattle.branch_bundle.proofs.reading.read_bundle.Goals as goal

pub returns-in-None-clause-first : goal.returns-in-None-clause-first
returns-in-None-clause-first c = λ at is.
    let here : IsFirstWrong c.args.bytes.now c.first_wrong.result = record { inside = c.first_wrong.ensures.inside; none = is.none; before = c.first_wrong.ensures.before; wrong = c.first_wrong.ensures.wrong } in
    inl (ap (λ p. Err (BadBundle p)) (one_place c.args.bytes.now c.first_wrong.result at (Each-from_reads c.args.bytes.now (λ i. search rules)) here is))
