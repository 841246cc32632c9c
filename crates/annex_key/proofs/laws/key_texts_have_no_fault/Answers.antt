-- What the proof of `laws::key_texts_have_no_fault` needs beside the tactics.
use Rattle.annex_key.proofs.LineLemmas.{key_line, sound_text}
use Rattle.annex_key.proofs.laws.key_texts_have_no_fault.Goals as goal

pub returns-clause-sound : goal.returns-clause-sound
returns-clause-sound c = sound_text

pub returns-clause-line : goal.returns-clause-line
returns-clause-line c = key_line
