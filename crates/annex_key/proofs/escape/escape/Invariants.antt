-- What holds at each turn of the loops of `escape::escape`.
use Rattle.std.proofs.Common.{◌≡◌, take}
use Rattle.annex_key.specs.KeyFile.{file_text}
use Rattle.annex_key.proofs.escape.escape.Given as goal

abbrev pub invariant-loop-byte : goal.invariant-loop-byte
invariant-loop-byte l = l.file.items ≡ file_text (take l.byte-index l.text)
