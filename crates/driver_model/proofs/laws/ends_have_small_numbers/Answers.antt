-- The numbers of ends, by the entries of the run.
use Rattle.driver_model.proofs.Premises.{EntryLaws}
use Rattle.driver_model.proofs.SmallNumbers.{small_ends}
use Rattle.driver_model.proofs.laws.ends_have_small_numbers.Goals as goal

pub returns-clause-sent : goal.returns-clause-sent
returns-clause-sent c g d r a sound =
    let laws : EntryLaws = record {
      finds = c.steps_find_their_cause.ensures;
      takes = c.own_entries_suit_their_ends.ensures.takes;
      sends = c.own_entries_suit_their_ends.ensures.sends;
    } in
    (small_ends laws g d r a sound).sent

pub returns-clause-epoch : goal.returns-clause-epoch
returns-clause-epoch c g d r a sound =
    let laws : EntryLaws = record {
      finds = c.steps_find_their_cause.ensures;
      takes = c.own_entries_suit_their_ends.ensures.takes;
      sends = c.own_entries_suit_their_ends.ensures.sends;
    } in
    (small_ends laws g d r a sound).epoch
