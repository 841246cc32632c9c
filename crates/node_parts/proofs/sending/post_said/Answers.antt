-- A message is sent.
use Rattle.std.proofs.Common.{List, ℕ, sym, subst}
use Rattle.run_data.specs.declared.entry.FrameText.TheVariants as texts
use Rattle.node_ends.specs.Ends.{name_of}
use Rattle.node_parts.specs.Sending.{IsFrame}
use Rattle.node_parts.proofs.sending.post_said.Goals as goal

pub returns-clause-posted : goal.returns-clause-posted
returns-clause-posted c = c.post.ensures.posted

pub returns-clause-well : goal.returns-clause-well
returns-clause-well c = λ was taken f before quiet of place.
    c.post.ensures.well was taken f before quiet (subst (λ (line : List ℕ). IsFrame (name_of c.args.id) (texts.Line line) f) (sym c.into_lines-line.ensures.0) of) place
