-- What holds at each turn of the loops of `write::put_groups`.
use Rattle.std.proofs.Common.{◌≡◌, ◌∷◌, ◌++◌, flat_map, take}
use Rattle.annex_base.specs.Lines.{space}
use Rattle.log_grammar.proofs.write.put_groups.Given as goal

-- the groups so far, each with its space
abbrev pub invariant-loop-name : goal.invariant-loop-name
invariant-loop-name l = l.out.items ≡ l.fn.out.items ++ flat_map (λ g. space ∷ g) (take l.name-index l.names)
