-- What the proof of `lists::read_items` needs beside the tactics.
use Rattle.std.proofs.Common.{sym}
use Rattle.journal_reading.specs.Forms.{items_in, parts_of}
use Rattle.journal_fields.proofs.ListLemmas.{items_first, items_more, items_bad, items_last, items_last_bad}
use Rattle.journal_fields.proofs.lists.read_items.Goals as goal

pub loop-part-init : goal.loop-part-init
loop-part-init g c = rw c.new-items.ensures (items_first (g.R.ReadsItem.item_of c.args.reader.now) c.args.between c.args.word.now)

pub loop-part-preserved : goal.loop-part-preserved
loop-part-preserved g c =
    let read = g.R.ReadsItem.item_of c.args.reader.now in
    rw c.in_ok-push.ensures.ok
    (items_more read c.args.between c.loop-part.items (items_in read (parts_of c.args.between c.args.word.now)) c.loop-part.rest.now (c.in-Some.part.now, c.in-Some.after.now) c.in-Some-read.item
    c.loop-part.invariant (sym c.in-Some.ensures.parts) (sym c.in-Some-read.ensures))

pub returns-in_default-read : goal.returns-in_default-read
returns-in_default-read g c =
    let read = g.R.ReadsItem.item_of c.args.reader.now in
    sym (items_bad read c.args.between c.loop-part.items (items_in read (parts_of c.args.between c.args.word.now)) c.loop-part.rest.now (c.in-Some.part.now, c.in-Some.after.now)
    c.loop-part.invariant (sym c.in-Some.ensures.parts) (sym c.in_default-read.ensures))

pub returns-in_default-read-2 : goal.returns-in_default-read-2
returns-in_default-read-2 g c =
    let read = g.R.ReadsItem.item_of c.args.reader.now in
    sym (items_last_bad read c.args.between c.loop-part.items (items_in read (parts_of c.args.between c.args.word.now)) c.loop-part.rest.now
    c.loop-part.invariant (sym c.in_default.ensures.parts) (sym c.in_default-read-2.ensures))

pub returns : goal.returns
returns g c =
    let read = g.R.ReadsItem.item_of c.args.reader.now in
    rw c.in_ok-push-2.ensures.ok
    (sym (items_last read c.args.between c.loop-part.items (items_in read (parts_of c.args.between c.args.word.now)) c.loop-part.rest.now c.in-Some-read-2.last
    c.loop-part.invariant (sym c.in_default.ensures.parts) (sym c.in-Some-read-2.ensures)))
