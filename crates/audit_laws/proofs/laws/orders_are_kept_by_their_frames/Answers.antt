-- What the proof of `laws::orders_are_kept_by_their_frames` needs beside the tactics.
use Rattle.driver_model.proofs.Premises.{EntryLaws}
use Rattle.audit_laws.proofs.Frames.{order_framed}
use Rattle.audit_laws.proofs.laws.orders_are_kept_by_their_frames.Goals as goal

pub returns : goal.returns
returns c = λ run e a j target deadline need key h step repo kind.
    let laws : EntryLaws = record {
      finds = c.steps_find_their_cause.ensures;
      takes = c.own_entries_suit_their_ends.ensures.takes;
      sends = c.own_entries_suit_their_ends.ensures.sends;
    } in
    order_framed c.sent_messages_are_read.ensures.read run h e step laws a j target deadline need key repo kind
