-- What the proof of `place::is_before_fill` needs beside the tactics.
use Rattle.std.proofs.Common.{◌∙◌, ap, sym, rules}
use Rattle.std.specs.Bool.{nat_lt}
use Rattle.branch_bundle.proofs.FillLemmas.{fill_test, Each-from_reads}
use Rattle.branch_bundle.proofs.place.is_before_fill.Goals as goal

pub returns : goal.returns
returns c = ap (λ n. nat_lt n c.args.count) c.greatest_bytes.ensures ∙ sym (fill_test c.args.text.now c.args.count (Each-from_reads c.args.text.now (λ i. search rules)))
