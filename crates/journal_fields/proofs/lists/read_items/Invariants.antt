-- What holds at each turn of the loops of `lists::read_items`.
use Rattle.std.proofs.Common.{◌≡◌, length}
use Rattle.journal_reading.specs.Forms.{items_in, parts_of}
use Rattle.journal_fields.proofs.ListLemmas.{and_then}
use Rattle.journal_fields.proofs.lists.read_items.Given as goal

abbrev pub invariant-loop-part : goal.invariant-loop-part
invariant-loop-part g l =
    let read = g.R.ReadsItem.item_of l.reader in
    items_in read (parts_of l.between l.word) ≡ and_then l.items (items_in read (parts_of l.between l.rest))

abbrev pub decreases-loop-part : goal.decreases-loop-part
decreases-loop-part g l = length l.rest
