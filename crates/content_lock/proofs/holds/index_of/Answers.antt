-- What the proof of `holds::index_of` needs beside the tactics.
use Rattle.std.proofs.Common.{◌≡◌, ◌∷◌, ◌++◌, List, append-nil, ap, sym, ◌∙◌, rules}
use Rattle.std.specs.Map.{values_of}
use Rattle.run_data.specs.declared.row.Hold.{Hold}
use Rattle.content_lock.specs.Indexed.{listed_at}
use Rattle.content_lock.proofs.IndexedLemmas.{numbers_on}
use Rattle.content_lock.proofs.RecoveredLemmas.{listed_more}
use Rattle.content_lock.proofs.holds.index_of.Goals as goal

pub loop-hold-preserved : goal.loop-hold-preserved
loop-hold-preserved c = λ key.
    let was = listed_at c.loop-hold.numbers.entries key in
    let left : c.loop-hold.hold-iterator ≡ c.in-Some.hold.now ∷ c.next.new.self = search rules in
    listed_more key c.in-Some.hold.now c.next.new.self (values_of c.args.by_number.now.entries) was (listed_at c.enlist.new.numbers.entries key) (c.in_ok-enlist.ensures.ok key)
    (ap (λ (l : List Hold). was ++ numbers_on key l) (sym left) ∙ c.loop-hold.invariant key)

pub returns : goal.returns
returns c = λ key.
    let listed = listed_at c.loop-hold.numbers.entries key in
    sym (append-nil listed) ∙ ap (λ (l : List Hold). listed ++ numbers_on key l) (sym c.in-None.ensures.steps.0) ∙ c.loop-hold.invariant key
