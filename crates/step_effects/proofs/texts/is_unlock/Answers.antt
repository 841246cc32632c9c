-- What the proof of `texts::is_unlock` needs beside the tactics.
use Rattle.std.proofs.Common.{ℕ, List, ap, ◌∙◌}
use Rattle.std.specs.Prelude.{bytes_eq, codes}
use Rattle.p2p_wire.specs.Messages.{◌⊳◌}
use Rattle.step_effects.proofs.texts.is_unlock.Goals as goal

pub returns : goal.returns
returns c = c.is_words.ensures ∙ ap (λ (key : List ℕ). bytes_eq (codes "UNLOCKCONTENT" ⊳ key) c.args.text.now) c.text.ensures.same
