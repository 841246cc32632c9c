-- A call that goes over a list, by one change of the node for each element.
use Rattle.std.proofs.Common.{◌≡◌, ℕ, List, [], refl}
use Rattle.union_merge.specs.Branch.{Files}
use Rattle.branch_bundle.specs.Bundle.{IsBundle, IsFirstWrong}
use Rattle.node_past.specs.declared.refused.NodeRefused.{NodeRefused}
use Rattle.node_past.specs.declared.refused.NodeRefused.TheVariants as refusals
use Rattle.node_steps.specs.Nodes.{NodeView}
use Rattle.node_ledger.specs.Walks.{StopsAfter, merge_files}

-- a text that isn't read is the bundle of no branch, or memory ran out before its first file
pub unread_stops : {K : Type 0} (e : NodeRefused) (text : List ℕ) (n : NodeView K) (files : Files) → ((at : ℕ) → e ≡ refusals.BadBundle at → IsFirstWrong text at) → (e ≡ refusals.StoreFault → ⊥) → (e ≡ refusals.Full → ⊥)
    → IsBundle text files → StopsAfter (merge_files n) files e n
unread_stops refusals.Full text n files wrong fault full is = absurd (full refl)
unread_stops refusals.StoreFault text n files wrong fault full is = absurd (fault refl)
unread_stops (refusals.BadBundle at) text n files wrong fault full is = absurd ((wrong at refl).none files is)
unread_stops refusals.NoMemory text n files wrong fault full is = record { done = []; left = files; whole = refl; keeper = n.keeper; refused = refl }
