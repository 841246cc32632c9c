-- The record of a key after an entry is that of the entries with it.
use Rattle.std.proofs.Common.{◌≡◌, ℕ, ◌<◌, ◌≤◌, Bool, true, false, List, [], ◌∷◌, length, Option, Some, None, refl, sym, ap, subst, ◌∙◌, ◌⊎◌, inl, inr, arith}
use Rattle.std.specs.Prelude.{◌==◌, ◌&&◌, ◌||◌, count_by, not, if◌then◌else◌, option_map, bytes_eq}
use Rattle.std.specs.List.{list_any, range_with_len}
use Rattle.run_data.specs.declared.entry.By.{By}
use Rattle.run_data.specs.declared.entry.Entry.{Entry}
use Rattle.run_data.specs.declared.entry.EntryKind.{EntryKind}
use Rattle.run_data.specs.declared.entry.EntryKind.TheVariants.{Gain, Gone}
use Rattle.run_data.specs.declared.job.Proof.{Proof}
use Rattle.run_data.specs.declared.run.RepoView.{RepoView}
use Rattle.node_model.specs.Evidence.{is_trusted}
use Rattle.node_model.specs.Rows.{option_is, present_after}
use Rattle.run_model.specs.Past.{present}
use Rattle.run_model.specs.Safety.{Removal, add_removal, claim, count, removal, removal_by, removals, trusts}
use Rattle.step_judging.specs.Audits.{KeyAudit, audit, with_count, with_removal}
use Rattle.audit_laws.specs.Proofs.{removal_proof, removed_proof}
use Rattle.run_audit.specs.Changes.{IsAdded, IsChanged, IsChangedAt, IsChangedIf, IsNoted, claims_of, removed_by}
use Rattle.run_audit.specs.Holders.{holder_at, holder_of, is_held}
use Rattle.run_audit.specs.Records.{IsRecordOf, audit_in}
use Rattle.run_audit.specs.declared.record.KeyRecord.{KeyRecord}
use Rattle.run_audit.proofs.Counting.{any_range, counted, settled}

-- ---- an entry that leaves the key

module _ (repos : List RepoView) (past : List Entry) (key : List ℕ) (e : Entry) where
  same_holders : ((r : ℕ) → present (e ∷ past) r key ≡ present past r key) → removal repos past key e ≡ None → (r : ℕ) → holder_of repos (e ∷ past) key r ≡ holder_of repos past key r
  same_holders stays none r i = record { copy = stays r i; claim = list_any (trusts r) (add_removal (none i) (removals repos past key)) }

  same_count : ((r : ℕ) → present (e ∷ past) r key ≡ present past r key) → removal repos past key e ≡ None → count repos (e ∷ past) key ≡ count repos past key
  same_count stays none i = count_by (λ r. is_held (same_holders stays none r i)) (range_with_len 0 (length repos))

  pub left : ((r : ℕ) → present (e ∷ past) r key ≡ present past r key) → removal repos past key e ≡ None → (x : Option KeyRecord) → IsRecordOf repos past key x → IsRecordOf repos (e ∷ past) key x
  left stays none x is = record {
    audit_is = (λ i. with_count (same_count stays none i) (with_removal (none i) (audit repos past key))) ∙ settled repos past key ∙ is.audit_is;
    long = is.long;
    holders = λ r lt. is.holders r lt ∙ sym (same_holders stays none r);
  }

-- an entry of no repository leaves each key
pub waited : (repos : List RepoView) (past : List Entry) (key : List ℕ) (e : Entry) → e.repo ≡ None → (x : Option KeyRecord) → IsRecordOf repos past key x → IsRecordOf repos (e ∷ past) key x
waited repos past key e none = left repos past key e stays (ap (λ (o : Option ℕ). removal_by repos past key o e.taken e.kind) none)
  where
    stays : (r : ℕ) → present (e ∷ past) r key ≡ present past r key
    stays r = ap (λ (o : Option ℕ). if option_is o r then present_after key (present past r key) e.kind else present past r key) none

-- ---- an entry that changes it

-- the claims that the proof of a removal has are those of its items
claims_are : (repos : List RepoView) (x : Option Removal) (r : ℕ) → r < length repos → (was : Bool) (old : List Removal) → list_any (trusts r) old ≡ was
    → (was || claims_of (option_map (removal_proof repos) x) r) ≡ list_any (trusts r) (add_removal x old)
claims_are repos None r lt was old is = or_no was ∙ sym is
  where
    or_no : (b : Bool) → (b || false) ≡ b
    or_no true = refl
    or_no false = refl
claims_are repos (Some x) r lt was old is =
    ap (λ b. was || b) (any_range (λ q. list_any (λ i. (i.repo == q) && is_trusted i.kind) x.items) r (length repos) lt) ∙ swap was (trusts r x) ∙ ap (λ b. trusts r x || b) (sym is)
  where
    swap : (a b : Bool) → (a || b) ≡ (b || a)
    swap true true = refl
    swap true false = refl
    swap false true = refl
    swap false false = refl

removal_counted : (repos : List RepoView) (x : Option Removal) (a : KeyAudit) → removed_by (option_map (removal_proof repos) x) a ≡ with_removal x a
removal_counted repos None a = refl
removal_counted repos (Some x) a = refl

module _ (repos : List RepoView) (past : List Entry) (key : List ℕ) (e : Entry) (repo : ℕ) (copy : Bool) where
  changed : ((r : ℕ) → present (e ∷ past) r key ≡ (if repo == r then copy else present past r key)) → (was now : KeyRecord)
      → IsChanged repo copy (removed_proof repos past key e) was now → IsRecordOf repos past key (Some was) → IsRecordOf repos (e ∷ past) key (Some now)
  changed copies was now c is = record {
    audit_is = ap (λ n. with_count n (with_removal (removal repos past key e) (audit repos past key))) (sym (counted repos (e ∷ past) key now.holders.each.items long each))
        ∙ ap (λ a. with_count (count_by is_held now.holders.each.items) (with_removal (removal repos past key e) a)) is.audit_is
        ∙ ap (with_count (count_by is_held now.holders.each.items)) (sym (removal_counted repos (removal repos past key e) (audit_in was))) ∙ sym c.audit_is;
    long = long;
    holders = each;
  }
    where
      long : length now.holders.each.items ≡ length repos
      long = c.all ∙ is.long

      each : (r : ℕ) → r < length repos → holder_at now.holders.each.items r ≡ holder_of repos (e ∷ past) key r
      each r lt =
          c.each r (subst (λ n. r < n) (sym is.long) lt)
          ∙ (λ i. record { copy = if repo == r then copy else (is.holders r lt i).copy; claim = (is.holders r lt i).claim || claims_of (removed_proof repos past key e) r })
          ∙ (λ i. record { copy = sym (copies r) i; claim = claims_are repos (removal repos past key e) r lt (claim repos past r key) (removals repos past key) refl i })

  pub changed_at : ((r : ℕ) → present (e ∷ past) r key ≡ (if repo == r then copy else present past r key)) → (was now : Option KeyRecord)
      → IsChangedAt repo copy (removed_proof repos past key e) was now → IsRecordOf repos past key was → IsRecordOf repos (e ∷ past) key now
  changed_at copies (Some was) (Some now) c is = changed copies was now c is
  changed_at copies None now c is = absurd c
  changed_at copies (Some was) None c is = absurd c

-- ---- an entry of a repository

-- the proof that is told of an entry of this kind, as far as it is of the key
abbrev pub proof_for : List ℕ → EntryKind → Option Proof → Option Proof
proof_for key (Gone by k) proof = if bytes_eq k key then proof else None
proof_for key kind proof = None

module _ (repos : List RepoView) (past : List Entry) (key : List ℕ) (e : Entry) (repo : ℕ) (own : e.repo ≡ Some repo) where
  present_next : (kind : EntryKind) → e.kind ≡ kind → (r : ℕ) → present (e ∷ past) r key ≡ (if repo == r then present_after key (present past r key) kind else present past r key)
  present_next kind is r i = if option_is (own i) r then present_after key (present past r key) (is i) else present past r key

  removal_next : (kind : EntryKind) → e.kind ≡ kind → removal repos past key e ≡ removal_by repos past key (Some repo) e.taken kind
  removal_next kind is i = removal_by repos past key (own i) e.taken (is i)

  -- an entry whose kind leaves the key
  unchanged : (kind : EntryKind) → e.kind ≡ kind → ((b : Bool) → present_after key b kind ≡ b) → removal_by repos past key (Some repo) e.taken kind ≡ None
      → (was now : Option KeyRecord) → now ≡ was → IsRecordOf repos past key was → IsRecordOf repos (e ∷ past) key now
  unchanged kind is stays none was now same w =
      subst (IsRecordOf repos (e ∷ past) key) (sym same) (left repos past key e (λ r. present_next kind is r ∙ either (repo == r) (present past r key) (present_after key (present past r key) kind) (stays (present past r key)))
      (removal_next kind is ∙ none) was w)
    where
      either : (c b a : Bool) → a ≡ b → (if c then a else b) ≡ b
      either true b a i = i
      either false b a i = refl

  -- **what the note of an entry leaves**
  pub noted : (proof : Option Proof) → proof_for key e.kind proof ≡ removed_proof repos past key e → (was now : Option KeyRecord) → IsNoted repo e.kind proof key was now
      → IsRecordOf repos past key was → IsRecordOf repos (e ∷ past) key now
  noted proof told was now note w = go e.kind refl told note
    where
      or_off : (b : Bool) → (b || false) ≡ b
      or_off true = refl
      or_off false = refl

      or_on : (b : Bool) → (b || true) ≡ true
      or_on true = refl
      or_on false = refl

      and_off : (b : Bool) → (b && false) ≡ false
      and_off true = refl
      and_off false = refl

      and_on : (b : Bool) → (b && true) ≡ b
      and_on true = refl
      and_on false = refl

      gains : (by : By) (size : ℕ) (k : List ℕ) → e.kind ≡ Gain by size k → (b : Bool) → bytes_eq k key ≡ b → None ≡ removed_proof repos past key e → IsChangedIf b repo true None was now → IsRecordOf repos (e ∷ past) key now
      gains by size k is true same none n =
          changed_at repos past key e repo true (λ r. present_next (Gain by size k) is r ∙ ap (λ c. if repo == r then present past r key || c else present past r key) same ∙ ap (λ c. if repo == r then c else present past r key) (or_on (present past r key)))
          was now (subst (λ p. IsChangedAt repo true p was now) none n) w
      gains by size k is false same none n = unchanged (Gain by size k) is (λ b. ap (λ c. b || c) same ∙ or_off b) refl was now n w

      loses : (by : By) (k : List ℕ) → e.kind ≡ Gone by k → (b : Bool) → bytes_eq k key ≡ b → (if b then proof else None) ≡ removed_proof repos past key e → IsChangedIf b repo false proof was now → IsRecordOf repos (e ∷ past) key now
      loses by k is true same told n =
          changed_at repos past key e repo false (λ r. present_next (Gone by k) is r ∙ ap (λ c. if repo == r then present past r key && not c else present past r key) same ∙ ap (λ c. if repo == r then c else present past r key) (and_off (present past r key)))
          was now (subst (λ p. IsChangedAt repo false p was now) told n) w
      loses by k is false same told n =
          subst (IsRecordOf repos (e ∷ past) key) (sym n) (left repos past key e
          (λ r. present_next (Gone by k) is r ∙ ap (λ c. if repo == r then present past r key && not c else present past r key) same ∙ either (repo == r) (present past r key) (present past r key && true) (and_on (present past r key)))
          (gone_none (removal repos past key e) told) was w)
        where
          either : (c b a : Bool) → a ≡ b → (if c then a else b) ≡ b
          either true b a i = i
          either false b a i = refl

          gone_none : (x : Option Removal) → None ≡ option_map (removal_proof repos) x → x ≡ None
          gone_none None i = refl
          gone_none (Some x) i = absurd (cc)

      go : (kind : EntryKind) → e.kind ≡ kind → proof_for key kind proof ≡ removed_proof repos past key e → IsNoted repo kind proof key was now → IsRecordOf repos (e ∷ past) key now
      go (Gain by size k) is told n = gains by size k is (bytes_eq k key) refl told n
      go (Gone by k) is told n = loses by k is (bytes_eq k key) refl told n
      go kind is told n = unchanged kind is (λ b. refl) refl was now n w

-- ---- room

-- a record that is added has what no entry has changed
pub added : (repos : List RepoView) (past : List Entry) (key : List ℕ) (count : ℕ) → count ≡ length repos → (was now : Option KeyRecord) → (now ≡ was) ⊎ IsAdded count was now
    → IsRecordOf repos past key was → IsRecordOf repos past key now
added repos past key count is was now (inl same) w = subst (IsRecordOf repos past key) (sym same) w
added repos past key count is None (Some now) (inr n) w = record { audit_is = w.audit_is ∙ sym n.audit_is; long = n.holders.long ∙ is; holders = λ r lt. n.holders.none r ∙ w.holders r lt }
added repos past key count is None None (inr n) w = absurd n
added repos past key count is (Some was) now (inr n) w = absurd n

-- ---- bounds

-- there are no more removals than entries
pub removals_few : (repos : List RepoView) (past : List Entry) (key : List ℕ) → (audit repos past key).removals ≤ length past
removals_few repos [] key = omega arith
removals_few repos (e ∷ past) key = go (removal repos past key e) (removals_few repos past key)
  where
    kept : (c : ℕ) (a : KeyAudit) → (with_count c a).removals ≡ a.removals
    kept c a = either (a.removals == 0)
      where
        either : (b : Bool) → (if b then a else record { removals = a.removals; least = Some (Rattle.run_model.specs.Safety.smaller c a.least); need = a.need }).removals ≡ a.removals
        either true = refl
        either false = refl

    go : (x : Option Removal) → (audit repos past key).removals ≤ length past → (with_count (count repos (e ∷ past) key) (with_removal x (audit repos past key))).removals ≤ length (e ∷ past)
    go None few = let i = kept (count repos (e ∷ past) key) (audit repos past key) in omega (arith, i, few)
    go (Some x) few = let i = kept (count repos (e ∷ past) key) (with_removal (Some x) (audit repos past key)) in omega (arith, i, few)
