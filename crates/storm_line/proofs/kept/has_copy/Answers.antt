-- What the proof of `kept::has_copy` needs beside the tactics.
use Rattle.std.proofs.Common.{List, ℕ, ◌∙◌, ap, length}
use Rattle.std.specs.Prelude.{nat_le}
use Rattle.storm_line.proofs.FirstKeys.{some_are}
use Rattle.storm_line.proofs.kept.has_copy.Goals as goal

pub returns : goal.returns
returns c = λ place stands.
    ap (λ (xs : List ℕ). nat_le 1 (length xs)) c.as_slice.ensures.value ∙ some_are c.args.run.now place c.args.key.now _ (c.in_ok-numbers.ensures place stands)
