-- How a table of clocks, bars and holds changes by an entry.
use Rattle.std.proofs.Common.{◌≡◌, ◌≢◌, ℕ, ◌+◌, ◌<◌, Bool, true, false, cond, if◌then◌else◌, not, ◌==◌, List, [], ◌∷◌, ◌++◌, length, set, slice_index_or, get_or, get_or-set_same, get_or-set_other, filter, Option, Some, None, inl, inr, refl, sym, ap, subst, ◌∙◌, arith}
use Rattle.std.specs.BTreeMap.{BTreeMap, Updates, get, is_at, keys}
use Rattle.std.specs.List.Sorted.{IsStrictlySortedBy}
use Rattle.std.specs.Map.{lookup}
use Rattle.std.specs.Str.{bytes_eq}
use Rattle.std.proofs.lemmas.Bool.{cases_lt}
use Rattle.std.proofs.lemmas.Bool.Decides.{eqb_tells}
use Rattle.std.proofs.lemmas.Cmp.{eq_by_cmp_equiv, nat_list_cmp_total}
use Rattle.std.proofs.lemmas.List.{get_or_append_left, get_or_default, get_or_push}
use Rattle.std.proofs.lemmas.Map.Entries.{lookup-filter-values, option_filter}
use Rattle.std.proofs.lemmas.Map.Keys.{IsDistinct-from_sorted}
use Rattle.std.proofs.lemmas.Map.Text.{is_eq-slice_cmp}
use Rattle.run_data.specs.declared.entry.Entry.{Entry}
use Rattle.run_data.specs.declared.run.RepoView.{RepoView}
use Rattle.run_data.specs.Repos.{offset_of}
use Rattle.node_model.specs.Rows.{bar_after, holds_after, option_is}
use Rattle.run_model.specs.Past.{is_of, set_after}
use Rattle.report_tables.specs.declared.rows.RepoRows.{RepoRows}
use Rattle.report_tables.specs.Contents.{key_cmp}
use Rattle.report_tables.specs.Rows.{HasRepo}
use Rattle.report_tables.specs.Scan.{set_of}
use Rattle.report_tables.proofs.RowLemmas.{offset_at}

-- ---- bars

-- the bar of one key is another now
pub barred : (was new : BTreeMap (List ℕ) ℕ) (k copy key : List ℕ) (job : Option ℕ) → copy ≡ k → Updates key_cmp was new copy job
    → get key_cmp new key ≡ (if bytes_eq k key then job else get key_cmp was key)
barred was new k copy key job same updates =
    updates.0 key ∙ ap (λ (b : Bool). cond b job (get key_cmp was key)) (is_eq-slice_cmp copy key ∙ ap (λ (x : List ℕ). bytes_eq x key) same)

-- those of a job that ends are off

ended_bar : (job : ℕ) (was : Option ℕ) → option_filter (λ j. not (j == job)) was ≡ (if option_is was job then None else was)
ended_bar job None = refl
ended_bar job (Some j) = elim (j == job) as (λ b. option_filter (λ _. not b) (Some j) ≡ (if b then None else Some j)) [
  | true ↦ refl
  | false ↦ refl
]

pub bars_ended : (was new : BTreeMap (List ℕ) ℕ) (job : ℕ) (key : List ℕ) → IsStrictlySortedBy key_cmp (keys was) → new.entries ≡ filter (λ e. not (e.1 == job)) was.entries
    → get key_cmp new key ≡ (if option_is (get key_cmp was key) job then None else get key_cmp was key)
bars_ended was new job key sorted kept =
    ap (λ (es : List (List ℕ × ℕ)). lookup (is_at (key_cmp key)) es) kept
    ∙ lookup-filter-values (eq_by_cmp_equiv nat_list_cmp_total) (λ (j : ℕ). not (j == job)) key was.entries (IsDistinct-from_sorted key_cmp (keys was) sorted)
    ∙ ended_bar job (get key_cmp was key)

-- ---- a repository

-- it made the entry
repo_noted : (was new : RepoRows) (repos : List RepoView) (past : List Entry) (e : Entry) (r : ℕ) → is_of r e ≡ true
    → set_of new.setting ≡ set_after e.time (set_of was.setting) e.kind
    → ((key : List ℕ) → get key_cmp new.bars key ≡ bar_after key (get key_cmp was.bars key) e.kind)
    → new.holds.items ≡ holds_after was.holds.items e.kind
    → HasRepo was repos past r → HasRepo new repos (e ∷ past) r
repo_noted was new repos past e r own setting bars holds has = record {
  setting = rw own (setting ∙ ap (λ set. set_after e.time set e.kind) has.setting);
  bars = λ key. rw own (bars key ∙ ap (λ (bar : Option ℕ). bar_after key bar e.kind) (has.bars key));
  holds = rw own (holds ∙ ap (λ hs. holds_after hs e.kind) has.holds);
}

-- it didn't
repo_kept : (rows : RepoRows) (repos : List RepoView) (past : List Entry) (e : Entry) (r : ℕ) → is_of r e ≡ false
    → HasRepo rows repos past r → HasRepo rows repos (e ∷ past) r
repo_kept rows repos past e r other has = record {
  setting = rw other has.setting;
  bars = λ key. rw other (has.bars key);
  holds = rw other has.holds;
}

-- ---- the table

-- before the first entry, with one more repository
pub rows_more : (rows : List RepoRows) (n : ℕ) (new : RepoRows) (repos : List RepoView) (d : RepoView) → length rows ≡ n → n < length repos → d ≡ get_or repos n d
    → set_of new.setting ≡ record { at = 0; to = d.offset } → new.bars.entries ≡ [] → new.holds.items ≡ []
    → ((r : ℕ) (none : RepoRows) → r < n → HasRepo (slice_index_or rows r none) repos [] r)
    → (r : ℕ) (none : RepoRows) → r < n + 1 → HasRepo (slice_index_or (rows ++ new ∷ []) r none) repos [] r
rows_more rows n new repos d long within at setting bars holds before r none below = elim (cases_lt r n) [
  | inl old ↦
      let old' : r < length rows = rw long old in
      subst (λ (x : RepoRows). HasRepo x repos [] r) (sym (get_or_append_left rows (new ∷ []) none r old')) (before r none old)
  | inr not_old ↦
      let last : r ≡ n = omega arith in
      let to : d.offset ≡ offset_of repos n = ap (λ (x : RepoView). x.offset) at ∙ offset_at repos n d within in
      let known : HasRepo new repos [] n = record {
        setting = setting ∙ ap (λ (to : ℕ). record { at = 0; to = to }) to;
        bars = λ key. ap (λ es. lookup (is_at (key_cmp key)) es) bars;
        holds = holds;
      } in
      subst (λ (q : ℕ). HasRepo (slice_index_or (rows ++ new ∷ []) q none) repos [] q) (sym last)
      (subst (λ (x : RepoRows). HasRepo x repos [] n) (sym (get_or_push rows new none n long)) known)
]

-- the rows of the entry's repository take note of it
pub rows_noted : (rows : List RepoRows) (i : ℕ) (was new : RepoRows) (repos : List RepoView) (past : List Entry) (e : Entry) (r : ℕ) (none : RepoRows)
    → e.repo ≡ Some i → i < length rows → was ≡ get_or rows i was
    → set_of new.setting ≡ set_after e.time (set_of was.setting) e.kind
    → ((key : List ℕ) → get key_cmp new.bars key ≡ bar_after key (get key_cmp was.bars key) e.kind)
    → new.holds.items ≡ holds_after was.holds.items e.kind
    → HasRepo (slice_index_or rows r none) repos past r → HasRepo (slice_index_or (set rows i new) r none) repos (e ∷ past) r
rows_noted rows i was new repos past e r none of_i within at setting bars holds known = elim (eqb_tells i r) [
  | inl same ↦
      let own : is_of r e ≡ true = rw of_i same.0 in
      let here : slice_index_or rows r none ≡ was = ap (λ (q : ℕ). slice_index_or rows q none) (sym same.1) ∙ sym (at ∙ get_or_default rows i was none within) in
      let now_here : slice_index_or (set rows i new) r none ≡ new = ap (λ (q : ℕ). slice_index_or (set rows i new) q none) (sym same.1) ∙ get_or-set_same rows i new none within in
      subst (λ (x : RepoRows). HasRepo x repos (e ∷ past) r) (sym now_here)
      (repo_noted was new repos past e r own setting bars holds (subst (λ (x : RepoRows). HasRepo x repos past r) here known))
  | inr apart ↦
      let other : is_of r e ≡ false = rw of_i apart.0 in
      let ne : r ≢ i = λ h. apart.1 (sym h) in
      subst (λ (x : RepoRows). HasRepo x repos (e ∷ past) r) (sym (get_or-set_other rows i r new none ne))
      (repo_kept (slice_index_or rows r none) repos past e r other known)
]
