-- What holds at each turn of the loops of `ends::send_all`.
use Rattle.std.proofs.Common.{◌≡◌, ◌-◌, length, take}
use Rattle.node_model.specs.Ends.{EndName, sent_at}
use Rattle.state_ends.specs.Ends.{HasRoom, end_of}
use Rattle.state_ends.proofs.EndLemmas.{sends_all}
use Rattle.state_ends.proofs.ends.send_all.Given as goal

abbrev pub invariant-loop-frame : goal.invariant-loop-frame
invariant-loop-frame l = record {
  room : HasRoom (length l.frames - l.frame-index) l.ends;
  ends : (a : EndName) → end_of l.ends a ≡ sends_all (end_of l.initial.ends a) (sent_at a (take l.frame-index l.frames));
}
