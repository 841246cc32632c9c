-- The step is walked through; its ends alone read words.
use Rattle.driver_model.proofs.WordsAside.{words_aside}
use Rattle.driver_model.proofs.turns.words_where_unseen.Goals as goal

pub returns : goal.returns
returns c = words_aside
