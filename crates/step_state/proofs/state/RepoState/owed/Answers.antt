-- What the proof of `state::RepoState::owed` needs beside the tactics.
use Rattle.step_state.proofs.state.RepoState.owed.Goals as goal

pub returns-clause-within : goal.returns-clause-within
returns-clause-within c = λ well. well.within.owed
