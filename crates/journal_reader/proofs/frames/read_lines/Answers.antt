-- What the proof of `frames::read_lines` needs beside the tactics.
use Rattle.std.proofs.Common.{◌≡◌, ◌-◌, ◌∙◌, ℕ, List, Option, suc, None, Some, sym, ap, arith}
use Rattle.journal_reading.specs.Reading.{added_in, next_added}
use Rattle.journal_reader.specs.Steps.{lines_in, last_of}
use Rattle.journal_reader.proofs.PushLemmas.{behind_these, behind_none}
use Rattle.journal_reader.proofs.AddedLemmas.{added_more, added_stops}
use Rattle.journal_reader.proofs.frames.read_lines.Goals as goal

pub loop-left-init : goal.loop-left-init
loop-left-init c = rw c.new-added.ensures (behind_none (added_in c.args.count None (lines_in c.args.text.now)))

pub loop-left-preserved : goal.loop-left-preserved
loop-left-preserved c =
    let left : c.loop-left.left ≡ suc (c.loop-left.left - 1) = omega arith in
    let last = c.last.ensures.value ∙ ap (λ (ls : List (List ℕ)). last_of ls) c.as_slice.ensures in
    let next : Some c.in-Some-2.next ≡ next_added (last_of c.loop-left.added) c.in-Some.line.now = (rw c.in-Some-2.is at c.in_ok-next.ensures) ∙ ap (λ (o : Option (List ℕ)). next_added o c.in-Some.line.now) last in
    let so_far = c.loop-left.invariant ∙ ap (λ (ls : List (List ℕ)). behind_these c.loop-left.added (added_in c.loop-left.left (last_of c.loop-left.added) ls)) c.in-Some.ensures.lines in
    rw c.in_ok-push.ensures.ok
    (added_more c.loop-left.added (added_in c.args.count None (lines_in c.args.text.now)) c.loop-left.left (c.loop-left.left - 1) c.in-Some.line.now (lines_in c.in-Some.after.now) c.in-Some-2.next left so_far (sym next))

pub returns-in_default-2 : goal.returns-in_default-2
returns-in_default-2 c =
    let left : c.loop-left.left ≡ suc (c.loop-left.left - 1) = omega arith in
    let last = c.last.ensures.value ∙ ap (λ (ls : List (List ℕ)). last_of ls) c.as_slice.ensures in
    let none : None ≡ next_added (last_of c.loop-left.added) c.in-Some.line.now = (rw c.in_default-2.is at c.in_ok-next.ensures) ∙ ap (λ (o : Option (List ℕ)). next_added o c.in-Some.line.now) last in
    added_stops c.loop-left.added (added_in c.args.count None (lines_in c.args.text.now)) c.loop-left.left (c.loop-left.left - 1) (lines_in c.loop-left.rest.now) c.in-Some.line.now (lines_in c.in-Some.after.now)
    left c.in-Some.ensures.lines c.loop-left.invariant (sym none)
