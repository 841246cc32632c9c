-- The orders of removals that were sent, as data (own).
use Rattle.std.specs.Prelude.{◌≡◌, ℕ, ◌+◌, ◌==◌, ◌&&◌, Bool, true, List, if◌then◌else◌, slice_get, Option, Some, None}
use Rattle.std.specs.Map.{lookup}
use Rattle.audit_laws.specs.Proofs.{order_proof}
use Rattle.run_data.specs.declared.entry.Entry.{Entry}
use Rattle.run_data.specs.declared.entry.EntryKind.{EntryKind}
use Rattle.run_data.specs.declared.entry.EntryKind.TheVariants.{Order}
use Rattle.run_data.specs.declared.entry.FrameView.{FrameView}
use Rattle.run_data.specs.declared.job.Proof.{Proof}
use Rattle.run_data.specs.declared.run.RepoView.{RepoView}
use Rattle.run_model.specs.Frames.{FlyingFrame, Way, frames_sent}
use Rattle.run_audit.specs.declared.orders.OrderName.{OrderName}
use Rattle.run_audit.specs.declared.orders.Ordered.{Ordered}
use Rattle.run_audit.specs.declared.orders.Orders.{Orders}

-- ---- names

-- the frame of this number on a way
abbrev pub name_on : Way → ℕ → OrderName
name_on w n = record { client = w.client; server = w.server; slot = w.slot; epoch = w.epoch; seq = n }

-- a frame that r sends up
abbrev pub name_sent : ℕ → FrameView → OrderName
name_sent r f = record { client = r; server = f.peer; slot = f.slot; epoch = f.epoch; seq = f.seq }

-- a frame from a client that r takes
abbrev pub name_taken : ℕ → FrameView → OrderName
name_taken r f = record { client = f.peer; server = r; slot = f.slot; epoch = f.epoch; seq = f.seq }

abbrev pub same_name : OrderName → OrderName → Bool
same_name a b = (a.client == b.client) && ((a.server == b.server) && ((a.slot == b.slot) && ((a.epoch == b.epoch) && (a.seq == b.seq))))

-- ---- what is kept

-- for an order, if there is something
abbrev pub proof_at : Orders → OrderName → Option Proof
proof_at x name = lookup (same_name name) x.kept.entries

-- where it is an order of the sender, these are the need and the evidence that its drop had then
abbrev pub IsKeptOf : List RepoView → ℕ → List Entry → EntryKind → Option Proof → Type 0
IsKeptOf repos a before (Order j target deadline need key) p = p ≡ Some (order_proof repos before a j target need)
IsKeptOf repos a before kind p = Unit {0}

-- they are kept of each order among the frames that were sent up
abbrev pub AreOrdersOf : List RepoView → List Entry → Orders → Type 0
AreOrdersOf repos past x =
    (w : Way) (n : ℕ) (it : FlyingFrame) → w.up ≡ true → slice_get (frames_sent past w) n ≡ Some it → IsKeptOf repos w.client it.before it.entry.kind (proof_at x (name_on w (n + 1)))

-- what is kept under a name after an order is, if there is one
abbrev pub after_order : Option Ordered → OrderName → Option Proof → Option Proof
after_order None name was = was
after_order (Some o) name was = if same_name o.name name then Some o.proof else was
