-- What holds at each turn of the loop of `texts::put_keys`.
use Rattle.std.proofs.Common.{◌≡◌, ◌++◌, take}
use Rattle.std.specs.List.{flat_map}
use Rattle.audit_answers.specs.Texts.{key_line}
use Rattle.audit_answers.proofs.texts.put_keys.Given as goal

-- the lines of the keys so far stand behind what stood there
abbrev pub invariant-loop-key : goal.invariant-loop-key
invariant-loop-key l = l.out.items ≡ l.fn.out.items ++ flat_map key_line (take l.key-index l.keys)
