-- What is kept of one key of a run, as data (own).
use Rattle.std.specs.Prelude.{◌≡◌, ℕ, ◌<◌, List, length, Option, Some, None}
use Rattle.run_data.specs.declared.entry.Entry.{Entry}
use Rattle.run_data.specs.declared.run.RepoView.{RepoView}
use Rattle.step_judging.specs.Audits.{KeyAudit, audit, new_audit}
use Rattle.run_audit.specs.Holders.{holder_at, holder_of, no_holder}
use Rattle.run_audit.specs.declared.holders.Holder.{Holder}
use Rattle.run_audit.specs.declared.record.KeyRecord.{KeyRecord}

-- what an audit keeps of the key, by its record
abbrev pub audit_in : KeyRecord → KeyAudit
audit_in x = record { removals = x.removals; least = x.least; need = x.need }

abbrev pub audit_at : Option KeyRecord → KeyAudit
audit_at None = new_audit
audit_at (Some x) = audit_in x

-- it lists the repositories of the run; a key without a record has none
abbrev pub IsLong : ℕ → Option KeyRecord → Type 0
IsLong count None = Unit {0}
IsLong count (Some x) = length x.holders.each.items ≡ count

abbrev pub held_at : Option KeyRecord → ℕ → Holder
held_at None r = no_holder
held_at (Some x) r = holder_at x.holders.each.items r

-- Of these entries the record has the audit of the key, and for each repository whether it has a copy of it or a claim. A key without a
-- record has no removal, no copy and no claim.
pub record IsRecordOf (repos : List RepoView) (past : List Entry) (key : List ℕ) (x : Option KeyRecord) : Type 0 where
  pub audit_is : audit repos past key ≡ audit_at x
  pub long : IsLong (length repos) x
  pub holders : (r : ℕ) → r < length repos → held_at x r ≡ holder_of repos past key r
