-- A key gets a place among the records, and its record there changes.
use Rattle.std.proofs.Common.{◌≡◌, ℕ, Bool, true, false, cond, List, Option, Some, None, Result, Ok, Err, refl, sym, ap, subst, ◌∙◌, ◌⊎◌, inl, inr}
use Rattle.std.specs.Prelude.{OnOk, bytes_eq}
use Rattle.std.proofs.lemmas.Map.Text.{is_eq-slice_cmp}
use Rattle.std.proofs.lemmas.Option.{same_Some}
use Rattle.std.specs.BTreeMap.{is_at}
use Rattle.annex_base.specs.ByteOrder.{text_cmp}
use Rattle.annex_base.proofs.Conditions.{bytes_eq-refl, bytes_eq-true}
use Rattle.run_data.specs.declared.entry.By.{By}
use Rattle.run_data.specs.declared.entry.EntryKind.{EntryKind}
use Rattle.run_data.specs.declared.entry.EntryKind.TheVariants.{Gain, Gone}
use Rattle.run_data.specs.declared.job.Proof.{Proof}
use Rattle.run_audit.specs.Changes.{AreNoted, HasPlace, HasPlaceFor, IsAdded, IsChangedAt, IsChangedIf, IsNew, StayEntries, changed_key, record_at, record_in}
use Rattle.run_audit.specs.declared.record.KeyRecord.{KeyRecord}
use Rattle.run_audit.specs.declared.records.Records.{Records}

abbrev Entries : Type 0
Entries = List (List ℕ × KeyRecord)

pub on_ok_weaker : {A E P Q : Type 0} (r : Result A E) → (P → Q) → OnOk r P → OnOk r Q
on_ok_weaker (Ok x) f p = f p
on_ok_weaker (Err e) f p = tt

-- ---- the key of an entry

pub place_for : (kind : EntryKind) (key : List ℕ) (entries : Entries) → Some key ≡ changed_key kind → HasPlace key entries → HasPlaceFor kind entries
place_for (Gain by size k) key entries is place = subst (λ q. HasPlace q entries) (same_Some key k is) place
place_for (Gone by k) key entries is place = subst (λ q. HasPlace q entries) (same_Some key k is) place
place_for kind key entries is place = tt

pub place_none : (kind : EntryKind) (entries : Entries) → None ≡ changed_key kind → HasPlaceFor kind entries
place_none (Gain by size k) entries is = absurd (cc)
place_none (Gone by k) entries is = absurd (cc)
place_none kind entries is = tt

-- ---- a place

pub stay_same : (count : ℕ) (entries : Entries) → StayEntries count entries entries
stay_same count entries key = inl refl

pub stay_equal : (count : ℕ) (was now : Entries) → now ≡ was → StayEntries count was now
stay_equal count was now same key = inl (ap (λ entries. record_in entries key) same)

abbrev pub Sets : Entries → Entries → List ℕ → Option KeyRecord → Type 0
Sets was now key set = (q : List ℕ) → record_in now q ≡ cond (is_at (text_cmp key) q) set (record_in was q)

module _ (was now : Entries) (key : List ℕ) where
  pub set_here : (set : Option KeyRecord) → Sets was now key set → record_in now key ≡ set
  set_here set sets = sets key ∙ ap (λ b. cond b set (record_in was key)) (is_eq-slice_cmp key key ∙ bytes_eq-refl key)

  pub set_others : (set : Option KeyRecord) → Sets was now key set → (other : List ℕ) → bytes_eq key other ≡ false → record_in now other ≡ record_in was other
  set_others set sets other off = sets other ∙ ap (λ b. cond b set (record_in was other)) (is_eq-slice_cmp key other ∙ off)

  pub add_stays : (count : ℕ) (x : KeyRecord) → IsNew count x → record_in was key ≡ None → Sets was now key (Some x) → StayEntries count was now
  add_stays count x new none sets other = go (bytes_eq key other) refl
    where
      go : (b : Bool) → bytes_eq key other ≡ b → (record_in now other ≡ record_in was other) ⊎ IsAdded count (record_in was other) (record_in now other)
      go false off = inl (set_others (Some x) sets other off)
      go true same =
          let there : record_in was other ≡ None = ap (record_in was) (sym (bytes_eq-true key other same)) ∙ none in
          let here : record_in now other ≡ Some x = ap (record_in now) (sym (bytes_eq-true key other same)) ∙ set_here (Some x) sets in
          inr (subst (λ o. IsAdded count o (record_in now other)) (sym there) (subst (λ o. IsAdded count None o) (sym here) new))

-- ---- what an entry leaves

module _ (repo : ℕ) (x y : Records) (repos : y.repos ≡ x.repos) where
  changes : (copy : Bool) (proof : Option Proof) (k : List ℕ) → IsChangedAt repo copy proof (record_at x k) (record_at y k) → ((other : List ℕ) → bytes_eq k other ≡ false → record_at y other ≡ record_at x other)
      → (key : List ℕ) → IsChangedIf (bytes_eq k key) repo copy proof (record_at x key) (record_at y key)
  changes copy proof k here others key = go (bytes_eq k key) refl
    where
      go : (b : Bool) → bytes_eq k key ≡ b → IsChangedIf b repo copy proof (record_at x key) (record_at y key)
      go true same = subst (λ q. IsChangedAt repo copy proof (record_at x q) (record_at y q)) (bytes_eq-true k key same) here
      go false off = others key off

  pub note_gain : (kind : EntryKind) (proof : Option Proof) (by : By) (size : ℕ) (k : List ℕ) → kind ≡ Gain by size k → IsChangedAt repo true None (record_at x k) (record_at y k)
      → ((other : List ℕ) → bytes_eq k other ≡ false → record_at y other ≡ record_at x other) → AreNoted repo kind proof x y
  note_gain kind proof by size k is here others = subst (λ q. AreNoted repo q proof x y) (sym is) (record { repos = repos; each = changes true None k here others })

  pub note_gone : (kind : EntryKind) (proof : Option Proof) (by : By) (k : List ℕ) → kind ≡ Gone by k → IsChangedAt repo false proof (record_at x k) (record_at y k)
      → ((other : List ℕ) → bytes_eq k other ≡ false → record_at y other ≡ record_at x other) → AreNoted repo kind proof x y
  note_gone kind proof by k is here others = subst (λ q. AreNoted repo q proof x y) (sym is) (record { repos = repos; each = changes false proof k here others })

pub note_else : (repo : ℕ) (x : Records) (kind : EntryKind) (proof : Option Proof) → ((by : By) (size : ℕ) (k : List ℕ) → kind ≡ Gain by size k → ⊥) → ((by : By) (k : List ℕ) → kind ≡ Gone by k → ⊥)
    → AreNoted repo kind proof x x
note_else repo x (Gain by size k) proof gains gone = absurd (gains by size k refl)
note_else repo x (Gone by k) proof gains gone = absurd (gone by k refl)
note_else repo x kind proof gains gone = record { repos = refl; each = λ key. refl }
