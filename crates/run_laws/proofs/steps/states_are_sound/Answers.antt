-- What the proof of `steps::states_are_sound` needs beside the tactics.
use Rattle.run_laws.proofs.SoundStates.{own_seated, own_sound}
use Rattle.run_laws.proofs.steps.states_are_sound.Goals as goal

pub returns-clause-sound : goal.returns-clause-sound
returns-clause-sound c = own_sound

pub returns-clause-seated : goal.returns-clause-seated
returns-clause-seated c = own_seated
