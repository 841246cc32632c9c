-- What a refused call leaves of a repository (own).
use Rattle.std.specs.Prelude.{◌≡◌, length, []}
use Rattle.annex_base.specs.declared.kinds.Call.{Call}
use Rattle.run_data.specs.declared.entry.EntryKind.TheVariants.{Fault}
use Rattle.run_data.specs.declared.entry.By.{By}
use Rattle.run_data.specs.declared.entry.By.TheVariants.{Script}
use Rattle.run_data.specs.Histories.{most_entries}
use Rattle.node_past.specs.declared.refused.NodeRefused.{NodeRefused}
use Rattle.node_past.specs.declared.refused.NodeRefused.TheVariants as refusals
use Rattle.node_ledger.specs.Ledgers.{with_entry, Repository}

-- A refusal of a step, done for the script, a job or a peer, that makes this call of the store. A full history and want of memory
-- change nothing, but that the store was asked; a fault is an entry.
abbrev pub RefusesFor : {K P : Type 0} → By → NodeRefused → Call → Repository K P → Repository K P → Type 0
RefusesFor by refusals.Full call was now = (now ≡ record was { keeper = now.keeper }) × (length was.history ≡ most_entries)
RefusesFor by refusals.StoreFault call was now = now ≡ with_entry was now.keeper was.branch (Fault call by) []
RefusesFor by (refusals.BadBundle at) call was now = ⊥
RefusesFor by refusals.NoMemory call was now = now ≡ record was { keeper = now.keeper }

-- of a step of the script
abbrev pub RefusesSo : {K P : Type 0} → NodeRefused → Call → Repository K P → Repository K P → Type 0
RefusesSo e call was now = RefusesFor Script e call was now
