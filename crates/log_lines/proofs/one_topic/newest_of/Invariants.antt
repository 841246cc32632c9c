-- What holds at each turn of the loops of `one_topic::newest_of`.
use Rattle.std.proofs.Common.{◌≡◌, take}
use Rattle.log_lines.specs.Newest.{newest_of}
use Rattle.log_lines.proofs.one_topic.newest_of.Given as goal

-- the newest entry of the topic among the lines so far
abbrev pub invariant-loop-line : goal.invariant-loop-line
invariant-loop-line l = l.known ≡ newest_of l.kind (take l.line-index l.lines) l.topic
