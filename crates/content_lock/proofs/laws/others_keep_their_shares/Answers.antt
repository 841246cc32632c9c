-- What the entries of one owner leave of another's share.
use Rattle.content_lock.proofs.OwnerLemmas.{others_keep}
use Rattle.content_lock.proofs.laws.others_keep_their_shares.Goals as goal

pub returns : goal.returns
returns c = others_keep
