-- What an auditor tells of an entry before it takes it; for private contracts (own).
use Rattle.std.specs.Prelude.{ℕ, slice_get, Option, Some, None, option_map}
use Rattle.audit_laws.specs.Proofs.{proof_after}
use Rattle.run_data.specs.declared.entry.By.{By}
use Rattle.run_data.specs.declared.entry.By.TheVariants.{Job as by_job, Peer, Script}
use Rattle.run_data.specs.declared.entry.Entry.{Entry}
use Rattle.run_data.specs.declared.entry.EntryKind.{EntryKind}
use Rattle.run_data.specs.declared.entry.EntryKind.TheVariants.{Gone, Order}
use Rattle.run_data.specs.declared.entry.FrameView.{FrameView}
use Rattle.run_data.specs.declared.job.Proof.{Proof}
use Rattle.run_data.specs.declared.run.Run.{Run}
use Rattle.run_audit.specs.Orders.{name_sent, name_taken, proof_at}
use Rattle.run_audit.specs.declared.orders.Ordered.{Ordered}
use Rattle.run_audit.specs.declared.orders.Orders.{Orders}

-- an order by the first frame that r sends, if its job runs
abbrev pub ordered_on : ℕ → Option FrameView → Option Proof → Option Ordered
ordered_on r None proof = None
ordered_on r (Some f) proof = option_map (λ p. record { name = name_sent r f; proof = p }) proof

-- the order that r sends by an entry of this kind, if that is one
abbrev pub ordered_by : Run → ℕ → Entry → EntryKind → Option Ordered
ordered_by run r e (Order j target deadline need key) = ordered_on r (slice_get e.sent 0) (proof_after run r j)
ordered_by run r e kind = None

-- what is kept for the order that r takes
abbrev pub taken_proof : Orders → ℕ → Option FrameView → Option Proof
taken_proof x r None = None
taken_proof x r (Some f) = proof_at x (name_taken r f)

-- the need and the evidence of the drop by whom a key is removed
abbrev pub removed_for : Run → Orders → ℕ → Option FrameView → By → Option Proof
removed_for run x r taken (by_job j) = proof_after run r j
removed_for run x r taken (Peer p slot) = taken_proof x r taken
removed_for run x r taken Script = None

-- those of the drop whose removal an entry of this kind is, if it is one
abbrev pub removed_by : Run → Orders → ℕ → Entry → EntryKind → Option Proof
removed_by run x r e (Gone by key) = removed_for run x r e.taken by
removed_by run x r e kind = None
