-- What the proof of `texts::is_remove_before` needs beside the tactics.
use Rattle.std.proofs.Common.{ℕ, List, Option, sym, ap, ◌∙◌}
use Rattle.std.specs.Borrow.{Bor}
use Rattle.std.specs.Option.{option_copied}
use Rattle.std.specs.Fmt.{decimal}
use Rattle.p2p_wire.specs.Messages.{◌⊳◌}
use Rattle.step_effects.specs.Texts.{is_rest}
use Rattle.step_effects.proofs.texts.is_remove_before.Goals as goal

pub returns-in-None : goal.returns-in-None
returns-in-None c =
    let rest = decimal c.args.before ⊳ c.args.key.now in
    sym (c.after_word.ensures rest ∙ ap (λ (left : Option (Bor (List ℕ))). is_rest rest (option_copied left)) c.in-None.is)
