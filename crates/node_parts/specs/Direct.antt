-- Entries that move no part of a repository: those of the script, and of lines that are owed (own).
use Rattle.std.specs.Prelude.{◌≡◌, Bool, true, false, [], None}
use Rattle.annex_base.specs.declared.kinds.Call.{Call}
use Rattle.annex_base.specs.declared.kinds.Call.TheVariants.{PutFile}
use Rattle.run_data.specs.declared.entry.By.{By}
use Rattle.run_data.specs.declared.entry.By.TheVariants.{Script}
use Rattle.run_data.specs.declared.entry.Entry.{Entry}
use Rattle.run_data.specs.declared.entry.EntryKind.{EntryKind}
use Rattle.run_data.specs.declared.entry.EntryKind.TheVariants.{Gain, Log, Compact, Fault}
use Rattle.node_model.specs.AnyTime.{is_scripts}

-- the calls of the store that may fail in a step of the script, and where a line is written that is owed
abbrev pub may_fail : By → Call → Bool
may_fail Script call = is_scripts call
may_fail by PutFile = true
may_fail by call = false

-- what a script does to a repository beside its jobs, and the lines that are owed
abbrev pub IsDirect : EntryKind → Type 0
IsDirect (Gain Script size key) = Unit {0}
IsDirect (Log file) = Unit {0}
IsDirect (Compact file) = Unit {0}
IsDirect (Fault call by) = may_fail by call ≡ true
IsDirect _ = ⊥

-- the entry is such a one, and no frame comes or goes by it
pub record MovesNothing (e : Entry) : Type 0 where
  pub kind : IsDirect e.kind
  pub takes : e.taken ≡ None
  pub sends : e.sent ≡ []
