-- What the proof of `laws::new_records_stand_first` needs beside the tactics.
use Rattle.object_store.proofs.RecordLemmas.{new_first}
use Rattle.object_store.proofs.laws.new_records_stand_first.Goals as goal

pub returns : goal.returns
returns c = new_first
