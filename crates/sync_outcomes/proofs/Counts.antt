-- Outcomes that pass a test, counted entry by entry.
use Rattle.std.proofs.Common.{◌≡◌, ℕ, ◌+◌, Bool, true, false, cond, if◌then◌else◌, nat_lt, List, [], ◌∷◌, filter, length, count_by, refl, sym, ◌∙◌, ap, length-append}
use Rattle.std.specs.List.{flat_map, list_any}
use Rattle.std.proofs.lemmas.List.Elements.{filter-append}
use Rattle.std.proofs.lemmas.List.Sums.{sum_by-cons}
use Rattle.run_data.specs.declared.entry.Entry.{Entry}
use Rattle.run_data.specs.declared.entry.EntryKind.{EntryKind}
use Rattle.run_data.specs.declared.entry.EntryKind.TheVariants.{Begin, Gain, Share, Release, Check, Bar, Order, Gone, Log, Compact, Talk, Close, Crash, Wait, Fault, End}
use Rattle.run_data.specs.declared.job.Outcome.{Outcome}
use Rattle.run_data.specs.declared.run.Run.{Run}
use Rattle.run_model.specs.Past.{begun_count, is_of}
use Rattle.run_model.specs.Safety.{past_at}
use Rattle.run_model.specs.Syncs.{end_past, entries_between, is_drop, is_get, is_put, is_refused, outcome_past, outcomes_between, sync_numbers}

module _ (q : Outcome → Bool) where
  one_outcome : (o : Outcome) → length (filter q (o ∷ [])) ≡ cond (list_any q (o ∷ [])) 1 0
  one_outcome o = cases (q o) refl
    where
      cases : (b : Bool) → q o ≡ b → length (filter q (o ∷ [])) ≡ cond (list_any q (o ∷ [])) 1 0
      cases true is = rw is refl
      cases false is = rw is refl

  abbrev CountsOne : List Outcome → Type 0
  CountsOne os = length (filter q os) ≡ cond (list_any q os) 1 0

  one_if : (b : Bool) (o : Outcome) → CountsOne (if b then o ∷ [] else [])
  one_if true o = one_outcome o
  one_if false o = refl

  one_end : (n : ℕ) (kind : EntryKind) → CountsOne (end_past n kind)
  one_end n (End j outcome) = one_if (nat_lt n j) outcome
  one_end n (Begin job what) = refl
  one_end n (Gain source size key) = refl
  one_end n (Share hold end owner key) = refl
  one_end n (Release hold key) = refl
  one_end n (Check found key) = refl
  one_end n (Bar job need key) = refl
  one_end n (Order job target deadline need key) = refl
  one_end n (Gone source key) = refl
  one_end n (Log file) = refl
  one_end n (Compact file) = refl
  one_end n (Talk job) = refl
  one_end n (Close peer slot client) = refl
  one_end n (Crash clock) = refl
  one_end n (Wait milliseconds) = refl
  one_end n (Fault call owner) = refl

  one_of : (b : Bool) (n : ℕ) (kind : EntryKind) → CountsOne (if b then end_past n kind else [])
  one_of true n kind = one_end n kind
  one_of false n kind = refl

  -- each entry ends one job at most
  pub counted : (r n : ℕ) (es : List Entry) → length (filter q (flat_map (outcome_past r n) es)) ≡ count_by (λ e. list_any q (outcome_past r n e)) es
  counted r n [] = refl
  counted r n (e ∷ es) =
      ap length (filter-append q (outcome_past r n e) (flat_map (outcome_past r n) es))
      ∙ length-append (filter q (outcome_past r n e)) (filter q (flat_map (outcome_past r n) es))
      ∙ ap (λ (k : ℕ). k + length (filter q (flat_map (outcome_past r n) es))) (one_of (is_of r e) n e.kind)
      ∙ ap (λ (k : ℕ). cond (list_any q (outcome_past r n e)) 1 0 + k) (counted r n es)
      ∙ sym (sum_by-cons (λ (x : Entry). cond (list_any q (outcome_past r n x)) 1 0) e es)

-- the numbers of a sync, each counted over its entries
module _ (run : Run) (r from upto past : ℕ) (es : List Entry) (past_is : past ≡ begun_count (past_at run from) r) (es_are : es ≡ entries_between run from upto) where
  of_sync : (q : Outcome → Bool) (k : ℕ) → k ≡ count_by (λ e. list_any q (outcome_past r past e)) es → k ≡ length (filter q (outcomes_between run r from upto))
  of_sync q k is =
      is ∙ ap (λ (n : ℕ). count_by (λ e. list_any q (outcome_past r n e)) es) past_is
      ∙ ap (λ (xs : List Entry). count_by (λ e. list_any q (outcome_past r (begun_count (past_at run from) r) e)) xs) es_are
      ∙ sym (counted q r (begun_count (past_at run from) r) (entries_between run from upto))

  pub numbers_are : (gets puts drops refusals : ℕ) → gets ≡ count_by (λ e. list_any is_get (outcome_past r past e)) es
      → puts ≡ count_by (λ e. list_any is_put (outcome_past r past e)) es → drops ≡ count_by (λ e. list_any is_drop (outcome_past r past e)) es
      → refusals ≡ count_by (λ e. list_any is_refused (outcome_past r past e)) es
      → record { get = gets; put = puts; drop = drops; refused = refusals } ≡ sync_numbers run r from upto
  numbers_are gets puts drops refusals gets_are puts_are drops_are refusals_are =
      rw (of_sync is_get gets gets_are, of_sync is_put puts puts_are, of_sync is_drop drops drops_are, of_sync is_refused refusals refusals_are) refl
