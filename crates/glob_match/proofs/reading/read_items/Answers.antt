-- What the proof of `reading::read_items` needs beside the tactics.
use Rattle.std.proofs.Common.{rules, ◌≡◌, ◌++◌, ◌∷◌, [], Some, ◌∙◌, ap, length, arith, List, ℕ, flat_map}
use Rattle.glob_match.specs.Glob.{item_text}
use Rattle.glob_match.specs.Walk.{item_at}
use Rattle.glob_match.proofs.ReadingLemmas.{item_shortens, read_on}
use Rattle.glob_match.proofs.reading.read_items.Goals as goal

pub loop-first-smaller : goal.loop-first-smaller
loop-first-smaller c =
    let e : Some (c.in-Some-2.item, c.in-Some-2.next.now) ≡ item_at c.in-Some.first.now c.in-Some.after.now = rw c.in-Some-2.is at c.in_ok-item.ensures in
    omega (arith, item_shortens c.in-Some-2.item c.in-Some.first.now c.in-Some.after.now c.in-Some-2.next.now e, ap length c.in-Some.ensures.cases.0)

pub loop-first-preserved : goal.loop-first-preserved
loop-first-preserved c =
    let e : Some (c.in-Some-2.item, c.in-Some-2.next.now) ≡ item_at c.in-Some.first.now c.in-Some.after.now = rw c.in-Some-2.is at c.in_ok-item.ensures in
    let pushed : c.push.new.self.items ≡ c.loop-first.items.items ++ c.in-Some-2.item ∷ [] = search rules in
    let spelled : c.args.pattern.now ≡ flat_map item_text c.loop-first.items.items ++ c.in-Some.first.now ∷ c.in-Some.after.now = c.loop-first.invariant.1 ∙ ap (λ (w : List ℕ). flat_map item_text c.loop-first.items.items ++ w) c.in-Some.ensures.cases.0 in
    rw pushed (read_on c.loop-first.items.items c.in-Some-2.item c.in-Some.first.now c.in-Some.after.now c.in-Some-2.next.now c.args.pattern.now c.loop-first.invariant.0 spelled e)
