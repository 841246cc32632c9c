-- What the proof of `stamp::Stamp::parse` needs beside the tactics.
use Rattle.std.proofs.Common.{◌≡◌, ℕ, Ok, Some, None, sym, ap, ◌∙◌}
use Rattle.std.proofs.lemmas.Option.{same_Some}
use Rattle.annex_base.proofs.StampLemmas.{stamp_takes, stamp_again}
use Rattle.annex_base.proofs.stamp.Stamp.parse.Goals as goal

pub returns-in-Some-clause-found : goal.returns-in-Some-clause-found
returns-in-Some-clause-found c = stamp_takes c.args.text.now c.in-Some.nanos (sym c.in-Some.ensures.exact)

pub returns-in-Some-clause-only : goal.returns-in-Some-clause-only
returns-in-Some-clause-only c = λ n is.
    ap (λ (m : ℕ). Ok m) (same_Some c.in-Some.nanos n (c.in-Some.ensures.exact ∙ stamp_again c.args.text.now n is))

pub returns-in-None-clause-only : goal.returns-in-None-clause-only
returns-in-None-clause-only c = λ n is.
    let none : None ≡ Some n = c.in-None.ensures.exact ∙ stamp_again c.args.text.now n is in absurd cc
