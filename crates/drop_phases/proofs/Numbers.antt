-- The numbers of holds that a step adds.
use Rattle.std.proofs.Common.{◌≡◌, ℕ, Result, Ok, Err, IfOk, List, [], length, ap, arith}
use Rattle.annex_base.specs.declared.memory.NoMemory.{NoMemory}
use Rattle.run_data.specs.declared.entry.EntryKind.{EntryKind}
use Rattle.run_data.specs.declared.entry.EntryKind.TheVariants.{Share}
use Rattle.run_data.specs.declared.row.Hold.{Hold}
use Rattle.node_model.specs.Rows.{holds_after}
use Rattle.content_lock.specs.Rows.{Rows}
use Rattle.drop_phases.specs.declared.turn.Output.{Output}
use Rattle.drop_phases.specs.Sides.{IsNumbered}

-- an entry that adds no hold
pub no_share : (n : ℕ) (kind : EntryKind) (hs : List Hold) → hs ≡ holds_after hs kind → IsNumbered n kind
no_share n (Share hold end owner key) hs same = absurd (omega (arith, ap length same))
no_share n kind hs same = tt

abbrev pub no_rows : Rows
no_rows = record { holds = []; bars = []; fills = [] }

-- of each number, and so of this one
pub each_number : (n : ℕ) (r : Result Output NoMemory) → IfOk r (λ out. (m : ℕ) → IsNumbered m out.kind) → IfOk r (λ out. IsNumbered n out.kind)
each_number n (Ok out) all = all n
each_number n (Err e) all = tt
