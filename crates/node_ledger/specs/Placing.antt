-- What the calls that place a content or a part make of a repository (own).
use Rattle.std.specs.Prelude.{◌≡◌, ℕ, true, List, []}
use Rattle.annex_base.specs.declared.kinds.Call.{Call}
use Rattle.run_data.specs.declared.entry.EntryKind.TheVariants.{Gain}
use Rattle.run_data.specs.declared.entry.By.TheVariants.{Script}
use Rattle.node_model.specs.AnyTime.{is_scripts}
use Rattle.node_ledger.specs.Ledgers.{with_entry, Repository}
use Rattle.node_ledger.specs.Refusals.{RefusesSo}
use Rattle.node_past.specs.declared.refused.NodeRefused.{NodeRefused}

-- the repository with the entry that the content has come from the script
abbrev pub with_gain : {K P : Type 0} → Repository K P → K → List ℕ → ℕ → Repository K P
with_gain n keeper key size = with_entry n keeper n.branch (Gain Script size key) []

-- a call of the store that a script's step makes was refused
pub record StopsBefore {K P : Type 0} (e : NodeRefused) (was now : Repository K P) : Type 0 where
  pub call : Call
  pub scripts : is_scripts call ≡ true
  pub refused : RefusesSo e call was now
