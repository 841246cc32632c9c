-- What holds at each turn of the loop of `frame::sent_copy`.
use Rattle.std.proofs.Common.{◌≡◌, take}
use Rattle.entry_copies.proofs.frame.sent_copy.Given as goal

abbrev pub invariant-loop-frame : goal.invariant-loop-frame
invariant-loop-frame l = l.copies ≡ take l.frame-index l.sent
