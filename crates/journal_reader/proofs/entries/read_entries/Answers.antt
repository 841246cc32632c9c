-- What the proof of `entries::read_entries` needs beside the tactics.
use Rattle.std.proofs.Common.{◌≡◌, ◌-◌, ◌∙◌, [], List, suc, None, Some, length, reverse, refl, sym, ap, arith}
use Rattle.std.proofs.lemmas.List.{length_push, length-reverse}
use Rattle.run_data.specs.declared.entry.Entry.{Entry}
use Rattle.journal_reading.specs.Lines.{tree_at, tree_from}
use Rattle.journal_reading.specs.Reading.{entries_in}
use Rattle.journal_reader.specs.Steps.{lines_in, said, entry_by}
use Rattle.journal_reader.proofs.PushLemmas.{reverse_push, behind_none}
use Rattle.journal_reader.proofs.EntryLemmas.{entries_more, entries_bad}
use Rattle.journal_reader.proofs.entries.read_entries.Goals as goal

pub loop-left-init : goal.loop-left-init
loop-left-init c = rw c.new-entries.ensures (record {
  begun = c.new-begun.ensures;
  tree = λ n later. rw c.in_ok-tree.ensures refl;
  entries = behind_none (entries_in c.args.count c.args.repos.now c.args.marks.now [] (lines_in c.args.text.now));
})

pub loop-left-preserved : goal.loop-left-preserved
loop-left-preserved c =
    let entries = c.loop-left.entries in
    let past = reverse entries in
    let left : c.loop-left.left ≡ suc (c.loop-left.left - 1) = omega arith in
    let place : c.place_behind-place.result ≡ length entries = c.place_behind-place.ensures ∙ ap (λ (es : List Entry). length es) c.as_slice.ensures in
    let tree_is : c.follow.new.tree ≡ tree_at c.args.marks.now (length past) =
    c.in_ok-marks_behind.ensures.stands ∙ ap (λ n. tree_from c.loop-left.tree c.loop-left.later.now n) place
    ∙ sym (c.loop-left.invariant.tree (length entries) (omega arith)) ∙ ap (λ n. tree_at c.args.marks.now n) (sym (length-reverse entries)) in
    let read : said (Some c.in-Some.entry) (lines_in c.in_ok-entry.after.now) ≡ entry_by c.args.repos.now c.follow.new.tree past (lines_in c.loop-left.rest.now) = rw c.in-Some.is at (c.in_ok-entry.ensures past c.loop-left.invariant.begun) in
    rw c.in_ok-push.ensures.ok (record {
      begun = rw (reverse_push entries c.in-Some.entry) (c.in_ok-note.ensures past c.loop-left.invariant.begun);
      tree = λ n later. c.loop-left.invariant.tree n (omega (arith, later, length_push entries c.in-Some.entry)) ∙ c.in_ok-marks_behind.ensures.later n (omega (arith, later, place, length_push entries c.in-Some.entry));
      entries = entries_more c.args.repos.now c.args.marks.now c.follow.new.tree entries (entries_in c.args.count c.args.repos.now c.args.marks.now [] (lines_in c.args.text.now)) c.loop-left.left (c.loop-left.left - 1)
          (lines_in c.loop-left.rest.now) (lines_in c.in_ok-entry.after.now) c.in-Some.entry left c.loop-left.invariant.entries tree_is read;
    })

pub returns-in_default : goal.returns-in_default
returns-in_default c =
    let entries = c.loop-left.entries in
    let past = reverse entries in
    let left : c.loop-left.left ≡ suc (c.loop-left.left - 1) = omega arith in
    let place : c.place_behind-place.result ≡ length entries = c.place_behind-place.ensures ∙ ap (λ (es : List Entry). length es) c.as_slice.ensures in
    let tree_is : c.follow.new.tree ≡ tree_at c.args.marks.now (length past) =
    c.in_ok-marks_behind.ensures.stands ∙ ap (λ n. tree_from c.loop-left.tree c.loop-left.later.now n) place
    ∙ sym (c.loop-left.invariant.tree (length entries) (omega arith)) ∙ ap (λ n. tree_at c.args.marks.now n) (sym (length-reverse entries)) in
    let read : said None (lines_in c.in_ok-entry.after.now) ≡ entry_by c.args.repos.now c.follow.new.tree past (lines_in c.loop-left.rest.now) = rw c.in_default.is at (c.in_ok-entry.ensures past c.loop-left.invariant.begun) in
    sym (entries_bad c.args.repos.now c.args.marks.now c.follow.new.tree entries (entries_in c.args.count c.args.repos.now c.args.marks.now [] (lines_in c.args.text.now)) c.loop-left.left (c.loop-left.left - 1)
    (lines_in c.loop-left.rest.now) (lines_in c.in_ok-entry.after.now) left c.loop-left.invariant.entries tree_is read)
