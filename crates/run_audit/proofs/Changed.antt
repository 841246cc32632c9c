-- A record after a repository's copy, the claims of a drop and the count.
use Rattle.std.proofs.Common.{◌≡◌, ℕ, ◌<◌, ◌^◌, Bool, List, Option, length, sym, ap, subst, ◌∙◌, arith}
use Rattle.std.specs.Prelude.{◌==◌, ◌||◌, count_by, if◌then◌else◌}
use Rattle.run_data.specs.declared.job.Proof.{Proof}
use Rattle.step_judging.specs.Audits.{with_count}
use Rattle.run_audit.specs.Changes.{ClaimsHolders, IsChanged, claims_of, removed_by}
use Rattle.run_audit.specs.Holders.{holder_at, is_held}
use Rattle.run_audit.specs.Records.{audit_in}
use Rattle.run_audit.specs.declared.holders.Holder.{Holder}
use Rattle.run_audit.specs.declared.holders.Holders.{Holders}
use Rattle.run_audit.specs.declared.record.KeyRecord.{KeyRecord}

pub still_few : (was mid now : List Holder) → length was < 2 ^ 32 → length mid ≡ length was → length now ≡ length mid → length now < 2 ^ 32
still_few was mid now few first last = omega (arith, few, first, last)

pub changed : (repo : ℕ) (copy : Bool) (proof : Option Proof) (was : KeyRecord) (held : Holders) (removed now : KeyRecord) → length held.each.items ≡ length was.holders.each.items
    → ((r : ℕ) → r < length was.holders.each.items → holder_at held.each.items r ≡ record (holder_at was.holders.each.items r) { copy = if repo == r then copy else (holder_at was.holders.each.items r).copy })
    → ClaimsHolders (claims_of proof) held.each.items removed.holders.each.items → audit_in removed ≡ removed_by proof (audit_in was) → now.holders ≡ removed.holders
    → audit_in now ≡ with_count (count_by is_held removed.holders.each.items) (audit_in removed) → IsChanged repo copy proof was now
changed repo copy proof was held removed now all each claims audit same counted = record {
  all = ap (λ (h : Holders). length h.each.items) same ∙ claims.all ∙ all;
  each = λ r lt.
      ap (λ (h : Holders). holder_at h.each.items r) same
      ∙ claims.each r (subst (λ n. r < n) (sym all) lt)
      ∙ (λ i. record { copy = (each r lt i).copy; claim = (each r lt i).claim || claims_of proof r });
  audit_is = counted ∙ ap (with_count (count_by is_held removed.holders.each.items)) audit ∙ ap (λ (h : Holders). with_count (count_by is_held h.each.items) (removed_by proof (audit_in was))) (sym same);
}
