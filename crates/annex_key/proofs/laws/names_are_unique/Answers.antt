-- What the proof of `laws::names_are_unique` needs beside the tactics.
use Rattle.annex_key.proofs.KeyLemmas.{one_key}
use Rattle.annex_key.proofs.FileLemmas.{one_text}
use Rattle.annex_key.proofs.laws.names_are_unique.Goals as goal

pub returns-clause-texts : goal.returns-clause-texts
returns-clause-texts c = one_key

pub returns-clause-files : goal.returns-clause-files
returns-clause-files c = one_text
