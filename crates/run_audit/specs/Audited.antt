-- What an audit says of the keys of a run (own).
use Rattle.std.specs.Prelude.{◌≡◌, ◌≢◌, ℕ, List, length, map, reverse, Some}
use Rattle.annex_base.specs.ByteOrder.{IsInOrder}
use Rattle.annex_base.specs.Lists.{Each, Member}
use Rattle.run_data.specs.declared.run.Run.{Run}
use Rattle.step_judging.specs.Audits as audits
use Rattle.step_judging.specs.Audits.{audit}
use Rattle.step_rules.specs.States.{IsAfter, IsCarried}
use Rattle.run_audit.specs.Changes.{record_at}
use Rattle.run_audit.specs.Orders.{AreOrdersOf}
use Rattle.run_audit.specs.Records.{IsRecordOf}
use Rattle.run_audit.specs.declared.auditor.Auditor.{Auditor}
use Rattle.run_audit.specs.declared.key_audit.KeyAudit.{KeyAudit}

-- the audit of a key over all entries of a run
abbrev pub audit_of : Run → List ℕ → audits.KeyAudit
audit_of run key = audit run.repos (reverse run.entries) key

-- ---- what is told

-- a key with a removal, and what the audit says of it
pub record IsKeyOf (run : Run) (x : KeyAudit) : Type 0 where
  pub removed : x.removals ≢ 0
  pub audit_is : audit_of run x.key ≡ record { removals = x.removals; least = Some x.least; need = Some x.mincopies }

-- these are the keys with a removal, all of them, in byte order of their texts, and what the audit says of each
pub record AreKeysOf (run : Run) (xs : List KeyAudit) : Type 0 where
  pub each : Each (IsKeyOf run) xs
  pub in_order : IsInOrder (map (λ x. x.key) xs)
  pub all : (key : List ℕ) → (audit_of run key).removals ≢ 0 → Member key (map (λ x. x.key) xs)

-- ---- what is carried

-- it is the state of the run after all of its entries, each of which was permitted, with what they say of each key
pub record IsAuditorOf (x : Auditor) (run : Run) : Type 0 where
  pub after : IsAfter x.state run
  pub repos : run.repos ≡ x.repos.now
  pub count : x.records.repos ≡ length run.repos
  pub records : (key : List ℕ) → IsRecordOf run.repos (reverse run.entries) key (record_at x.records key)
  pub orders : AreOrdersOf run.repos (reverse run.entries) x.orders

-- it is the state of some run, and its numbers are within bounds
pub record IsAuditing (x : Auditor) : Type 0 where
  pub carried : IsCarried x.state
  pub run : Run
  pub of : IsAuditorOf x run
