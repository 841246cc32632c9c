-- How rows change by an entry.
use Rattle.std.proofs.Common.{◌≡◌, ℕ, Bool, true, false, cond, not, ◌||◌, ◌&&◌, ◌==◌, if◌then◌else◌, List, [], ◌∷◌, ◌++◌, filter, map, Option, Some, None, is_some, refl, sym, ap, ◌∙◌, append-nil}
use Rattle.std.specs.Prelude.{reverse}
use Rattle.std.specs.List.{IsDistinct}
use Rattle.std.specs.Map.{keys_of}
use Rattle.std.specs.Str.{bytes_eq}
use Rattle.std.proofs.lemmas.Cmp.{nat_list_eq_equiv}
use Rattle.std.proofs.lemmas.List.{map-append, reverse-append}
use Rattle.std.proofs.lemmas.List.Elements.{filter-append}
use Rattle.std.proofs.lemmas.Map.Entries.{lookup-filter-values, option_filter}
use Rattle.annex_base.specs.declared.kinds.Call.{Call}
use Rattle.annex_base.specs.declared.kinds.Call.TheVariants.{Unhold}
use Rattle.run_data.specs.declared.entry.EntryKind.{EntryKind}
use Rattle.run_data.specs.declared.entry.EntryKind.TheVariants.{Gain, Share, Gone, Close, Fault}
use Rattle.run_data.specs.declared.entry.By.{By}
use Rattle.run_data.specs.declared.entry.By.TheVariants.{Job as by_job, Peer}
use Rattle.run_data.specs.declared.row.Hold.{Hold}
use Rattle.node_model.specs.Rows.{content_after, holds_after, keep_of, option_is, present_after}
use Rattle.state_rows.specs.Changes.{holds_after_end, new_hold, number_at, outlives}

-- ---- contents

gained_is : (b : Bool) (size : ℕ) (o : Option ℕ) → is_some (if b then Some size else o) ≡ (is_some o || b)
gained_is true size None = refl
gained_is true size (Some n) = refl
gained_is false size None = refl
gained_is false size (Some n) = refl

gone_is : (b : Bool) (o : Option ℕ) → is_some {T = ℕ} (if b then None else o) ≡ (is_some o && not b)
gone_is true None = refl
gone_is true (Some n) = refl
gone_is false None = refl
gone_is false (Some n) = refl

-- a content is there where it has a size
pub present_is : (key : List ℕ) (o : Option ℕ) (kind : EntryKind) → is_some (content_after key o kind) ≡ present_after key (is_some o) kind
present_is key o (Gain source size k) = gained_is (bytes_eq k key) size o
present_is key o (Gone source k) = gone_is (bytes_eq k key) o
present_is key o kind = refl

-- ---- bars

ended_bar : (job : ℕ) (was : Option ℕ) → option_filter (λ j. not (j == job)) was ≡ (if option_is was job then None else was)
ended_bar job None = refl
ended_bar job (Some j) = elim (j == job) as (λ b. option_filter (λ _. not b) (Some j) ≡ (if b then None else Some j)) [
  | true ↦ refl
  | false ↦ refl
]

-- those of a job that ends are off
pub bars_ended : (was new : List (List ℕ × ℕ)) (job : ℕ) (key : List ℕ) → IsDistinct bytes_eq (keys_of was) → new ≡ filter (λ e. not (e.1 == job)) was
    → number_at new key ≡ (if option_is (number_at was key) job then None else number_at was key)
bars_ended was new job key distinct kept =
    ap (λ (es : List (List ℕ × ℕ)). number_at es key) kept
    ∙ lookup-filter-values nat_list_eq_equiv (λ (j : ℕ). not (j == job)) key was distinct
    ∙ ended_bar job (number_at was key)

-- ---- holds, the other way round

pub reverse_push : {X : Type 0} (xs : List X) (x : X) → reverse (xs ++ x ∷ []) ≡ x ∷ reverse xs
reverse_push xs x = reverse-append xs (x ∷ [])

reverse_cons : {X : Type 0} (x : X) (xs : List X) → reverse (x ∷ xs) ≡ reverse xs ++ x ∷ []
reverse_cons x xs = reverse-append (x ∷ []) xs

pub reverse_filter : {X : Type 0} (p : X → Bool) (xs : List X) → reverse (filter p xs) ≡ filter p (reverse xs)
reverse_filter p [] = refl
reverse_filter {X} p (x ∷ xs) =
    go (p x) (reverse_filter p xs) ∙ sym (filter-append p (reverse xs) (x ∷ [])) ∙ ap (filter p) (sym (reverse_cons x xs))
  where
    go : (b : Bool) → reverse (filter p xs) ≡ filter p (reverse xs) → reverse (cond b (x ∷ filter p xs) (filter p xs)) ≡ filter p (reverse xs) ++ cond b (x ∷ []) []
    go true more = reverse_cons x (filter p xs) ∙ ap (λ (ys : List X). ys ++ x ∷ []) more
    go false more = more ∙ sym (append-nil (filter p (reverse xs)))

pub reverse_map : {X Y : Type 0} (f : X → Y) (xs : List X) → reverse (map f xs) ≡ map f (reverse xs)
reverse_map f [] = refl
reverse_map {X} {Y} f (x ∷ xs) =
    reverse_cons (f x) (map f xs) ∙ ap (λ (ys : List Y). ys ++ f x ∷ []) (reverse_map f xs) ∙ sym (map-append f (reverse xs) (x ∷ [])) ∙ ap (map f) (sym (reverse_cons x xs))

pub closed_reversed : (xs : List Hold) (peer slot : ℕ) (client : Bool) → reverse (holds_after xs (Close peer slot client)) ≡ holds_after (reverse xs) (Close peer slot client)
closed_reversed xs peer slot true = refl
closed_reversed xs peer slot false = reverse_map (keep_of (Peer peer slot)) xs

pub failed_reversed : (xs : List Hold) (call : Call) (owner : By) → reverse (holds_after xs (Fault call owner)) ≡ holds_after (reverse xs) (Fault call owner)
failed_reversed xs Unhold owner = reverse_map (keep_of owner) xs
failed_reversed xs call owner = refl

pub ended_reversed : (xs : List Hold) (job : ℕ) (lost : Bool) → reverse (holds_after_end job lost xs) ≡ holds_after_end job lost (reverse xs)
ended_reversed xs job true = reverse_map (keep_of (by_job job)) xs
ended_reversed xs job false = reverse_filter (outlives job) xs

-- an entry that takes a hold adds it
pub with_new : (kind : EntryKind) (new : Option Hold) (h : Hold) → new ≡ new_hold kind → new ≡ Some h → (xs : List Hold) → holds_after xs kind ≡ h ∷ xs
with_new (Share number end owner k) new h is some xs = let same : Some (record { number = number; key = k; end = end; kept = false; owner = owner }) ≡ Some h = sym is ∙ some in cc
with_new kind new h is some xs = absurd cc
