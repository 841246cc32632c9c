-- A transfer as a job of its repository: what its worker is (own).
use Rattle.std.specs.Prelude.{ℕ, Bool, Option}
use Rattle.run_data.specs.declared.entry.EntryKind.{EntryKind}
use Rattle.object_store.specs.Stores.{Parts}
use Rattle.node_model.specs.Jobs.{Work}
use Rattle.content_lock.specs.Rows.{Rows}
use Rattle.session_state.specs.declared.incoming.Incoming.{Incoming}
use Rattle.transfer_turns.specs.Turns.{Sight}
use Rattle.transfer_worker.specs.Workers as workers
pub use Rattle.transfer_worker.specs.Workers.{new_work_of}
use Rattle.node_transfers.specs.declared.job.TransferJob.{TransferJob}

-- the job's work
abbrev pub work_of : TransferJob → Work
work_of j = workers.work_of j.worker

-- its transfer is done, and its drop is to begin
abbrev pub is_done : TransferJob → Bool
is_done j = workers.is_done j.worker

abbrev pub CanStep : Sight → TransferJob → Type 0
CanStep x j = workers.CanStep x j.worker

-- the table gave the right to fill that it has, of its key
abbrev pub HasFill : Rows → TransferJob → Type 0
HasFill rows j = workers.HasFill rows j.worker

-- what it has taken of its part is the store's part
abbrev pub IsFed : Parts → TransferJob → Type 0
IsFed p j = workers.IsFed p j.worker

-- how it sees the part: its size, or at VALID whether it matches its key
abbrev pub SeesPart : Option Parts → TransferJob → Option Incoming → ℕ → Bool → Type 0
SeesPart known j i part right = workers.SeesPart known j.worker i part right

-- the parts after its step
abbrev pub parts_after : TransferJob → Option Incoming → EntryKind → Option Parts → Option Parts
parts_after j i kind known = workers.parts_after j.worker i kind known

-- a content comes only of a part whose sum is its key's, to a get
abbrev pub IsJudgedIn : EntryKind → TransferJob → Type 0
IsJudgedIn kind j = workers.IsJudgedIn kind j.worker
