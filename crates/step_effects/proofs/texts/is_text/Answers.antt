-- What the proof of `texts::is_text` needs beside the tactics.
use Rattle.std.proofs.Common.{ℕ, List, sym, ap, ◌∙◌}
use Rattle.std.specs.Prelude.{bytes_eq, codes}
use Rattle.p2p_wire.specs.Messages.{◌⊳◌, text_of}
use Rattle.p2p_wire.specs.declared.message.Message.{Message}
use Rattle.step_effects.proofs.texts.is_text.Goals as goal

pub returns-in-CheckPresent : goal.returns-in-CheckPresent
returns-in-CheckPresent c =
    c.is_words-in-CheckPresent.ensures ∙ ap (λ (key : List ℕ). bytes_eq (codes "CHECKPRESENT" ⊳ key) c.args.text.now) c.text.ensures.same
    ∙ ap (λ (m : Message). bytes_eq (text_of m) c.args.text.now) (sym c.in-CheckPresent.is)

pub returns-in-LockContent : goal.returns-in-LockContent
returns-in-LockContent c =
    c.is_words-in-LockContent.ensures ∙ ap (λ (key : List ℕ). bytes_eq (codes "LOCKCONTENT" ⊳ key) c.args.text.now) c.text-in-LockContent.ensures.same
    ∙ ap (λ (m : Message). bytes_eq (text_of m) c.args.text.now) (sym c.in-LockContent.is)
