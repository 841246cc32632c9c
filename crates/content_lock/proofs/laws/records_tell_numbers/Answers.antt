-- Numbers that are greater than those of the records.
use Rattle.content_lock.proofs.StoredLemmas.{numbers_told}
use Rattle.content_lock.proofs.laws.records_tell_numbers.Goals as goal

pub returns : goal.returns
returns c = numbers_told
