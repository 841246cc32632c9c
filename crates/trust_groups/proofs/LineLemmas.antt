-- What holds of each line of a file, and of each entry that its lines leave, while lines are added.
use Rattle.std.proofs.Common.{◌≡◌, inl, inr, ℕ, ◌+◌, ◌<◌, ◌≤◌, Bool, true, false, if◌then◌else◌, List, [], ◌∷◌, ◌++◌, length, fold, get_or, take, Option, Some, None, refl, sym, subst}
use Rattle.std.specs.declared.cmp.Ordering.TheVariants.{Less, Equal, Greater}
use Rattle.std.specs.Ordering.{is_lt, match_ordering}
use Rattle.std.proofs.lemmas.List.{take_all, take_more}
use Rattle.annex_base.specs.Lists.{Each, Member}
use Rattle.annex_base.proofs.Lists.{Member-append_cases}
use Rattle.log_lines.specs.declared.entry.Entry.{Entry}
use Rattle.log_lines.specs.declared.entry.LogKind.{LogKind}
use Rattle.log_lines.specs.Newest.{entry_cmp, newer, topic_cmp, with_entry, with_entry_if}
use Rattle.log_lines.specs.Reading.{entry_of}

abbrev pub AllLines : (List ℕ → Type 0) → List (List ℕ) → Type 0
AllLines P lines = (line : List ℕ) → Member line lines → P line

pub lines_if : (P : List ℕ → Type 0) (b : Bool) (xs ys : List (List ℕ)) → (b ≡ true → AllLines P xs) → (b ≡ false → AllLines P ys) → AllLines P (if b then xs else ys)
lines_if P true xs ys own other = own refl
lines_if P false xs ys own other = other refl

pub lines_both : (P : List ℕ → Type 0) (xs ys : List (List ℕ)) → AllLines P xs → AllLines P ys → AllLines P (xs ++ ys)
lines_both P xs ys have more line among = elim (Member-append_cases xs ys line among) [
  | inl a ↦ have line a
  | inr a ↦ more line a
]

pub one_line : (P : List ℕ → Type 0) (line : List ℕ) → P line → AllLines P (line ∷ [])
one_line P line has other among = elim among [
  | inl one ↦ subst P (sym one) has
  | inr none ↦ absurd none
]

-- one line of several more
pub next_line : (P : List ℕ → Type 0) (lines : List (List ℕ)) (i : ℕ) (line : List ℕ) → i < length lines → line ≡ get_or lines i line → AllLines P (take i lines) → P line → AllLines P (take (i + 1) lines)
next_line P lines i line within is have has =
    subst (AllLines P) (sym (take_more lines i line within)) (lines_both P (take i lines) (get_or lines i line ∷ []) have (one_line P (get_or lines i line) (subst P is has)))

pub all_taken : (P : List ℕ → Type 0) (lines : List (List ℕ)) (i : ℕ) → length lines ≤ i → AllLines P (take i lines) → AllLines P lines
all_taken P lines i past have = subst (AllLines P) (take_all i lines past) have

-- ---- the entries that lines leave, of which the same holds as of what the lines say

newer_holds : (P : Entry → Type 0) (x e : Entry) → P x → P e → P (newer x e)
newer_holds P x e was has = elim (is_lt (entry_cmp x e)) as (λ b. P (if b then e else x)) [
  | true ↦ has
  | false ↦ was
]

with_one : (P : Entry → Type 0) (es : List Entry) (e : Entry) → Each P es → P e → Each P (with_entry es e)
with_one P [] e have has = (has, tt)
with_one P (x ∷ xs) e have has =
    elim (topic_cmp e.topic x.topic) as (λ o. Each P (match_ordering o (e ∷ x ∷ xs) (newer x e ∷ xs) (x ∷ with_entry xs e))) [
      | Less ↦ (has, have)
      | Equal ↦ (newer_holds P x e have.0 has, have.1)
      | Greater ↦ (have.0, with_one P xs e have.1 has)
    ]

with_line : (P : Option Entry → Type 0) (es : List Entry) (o : Option Entry) → Each (λ e. P (Some e)) es → P o → Each (λ e. P (Some e)) (with_entry_if es o)
with_line P es None have has = have
with_line P es (Some e) have has = with_one (λ (x : Entry). P (Some x)) es e have has

pub newest_hold : (P : Option Entry → Type 0) (kind : LogKind) (lines : List (List ℕ)) (es : List Entry) → Each (λ e. P (Some e)) es → AllLines (λ line. P (entry_of kind line)) lines
    → Each (λ e. P (Some e)) (fold (λ so_far line. with_entry_if so_far (entry_of kind line)) es lines)
newest_hold P kind [] es have said = have
newest_hold P kind (line ∷ lines) es have said =
    newest_hold P kind lines (with_entry_if es (entry_of kind line)) (with_line P es (entry_of kind line) have (said line (inl refl))) (λ other among. said other (inr among))
