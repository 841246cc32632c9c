-- What the proof of `state::RepoState::wall` needs beside the tactics.
use Rattle.std.proofs.Common.{ℕ, ◌+◌, ap, sym, ◌∙◌}
use Rattle.step_state.proofs.state.RepoState.wall.Goals as goal

pub returns-clause-value : goal.returns-clause-value
returns-clause-value c = λ s st is. (λ i. is.parts.wall i c.args.time) ∙ ap (λ (n : ℕ). c.args.time + n) is.parts.place.offset ∙ sym c.wall.ensures.value
