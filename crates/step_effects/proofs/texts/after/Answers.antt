-- What the proof of `texts::after` needs beside the tactics.
use Rattle.std.proofs.lemmas.Bool.Decides.{Decides-eqb}
use Rattle.std.proofs.lemmas.Slice.Eq.{strip_prefix_is}
use Rattle.step_effects.proofs.TextLemmas.{left_after}
use Rattle.step_effects.proofs.texts.after.Goals as goal

pub returns : goal.returns
returns c =
    left_after c.args.front.now c.args.text.now c.strip_prefix.result
    (strip_prefix_is Decides-eqb c.args.text.now c.args.front.now c.strip_prefix.result c.strip_prefix.ensures.cases)
