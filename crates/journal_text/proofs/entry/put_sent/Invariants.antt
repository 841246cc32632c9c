-- What holds at each turn of the loops of `entry::put_sent`.
use Rattle.std.proofs.Common.{◌≡◌, ◌++◌, take}
use Rattle.std.specs.List.{flat_map}
use Rattle.journal_text.specs.Journal.{sent_text}
use Rattle.journal_text.proofs.entry.put_sent.Given as goal

abbrev pub invariant-loop-frame : goal.invariant-loop-frame
invariant-loop-frame l = l.out.items ≡ l.fn.out.items ++ flat_map (sent_text l.repos) (take l.frame-index l.sent)
