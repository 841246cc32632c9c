-- What holds at each turn of the loops of `script::put_haves`.
use Rattle.std.proofs.Common.{◌≡◌, ◌++◌, ◌-◌}
use Rattle.storm_script.specs.Storm.{haves}
use Rattle.storm_text.proofs.script.put_haves.Given as goal

abbrev pub invariant-loop-count : goal.invariant-loop-count
invariant-loop-count l =
    (l.fn.out.items ++ (haves l.contents 0 l.fn.draws.state).text ≡ l.out.items ++ (haves (l.contents - l.count) l.count l.draws.state).text)
    × ((haves l.contents 0 l.fn.draws.state).state ≡ (haves (l.contents - l.count) l.count l.draws.state).state)
