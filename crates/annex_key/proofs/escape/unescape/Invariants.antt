-- What holds at each turn of the loops of `escape::unescape`.
use Rattle.std.proofs.Common.{◌≡◌, ◌++◌, length}
use Rattle.annex_key.specs.KeyFile.{file_text}
use Rattle.annex_key.proofs.escape.unescape.Given as goal

-- what was read is spelled so, and the rest is left
abbrev pub invariant-loop-rest : goal.invariant-loop-rest
invariant-loop-rest l = l.file ≡ file_text l.text.items ++ l.rest

abbrev pub decreases-loop-rest : goal.decreases-loop-rest
decreases-loop-rest l = length l.rest
