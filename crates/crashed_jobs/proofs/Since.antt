-- The jobs after a crash.
use Rattle.std.proofs.Common.{◌≡◌, ℕ, List, [], ◌∷◌, ◌++◌, length, drop, reverse, refl, sym, ◌∙◌, ap, append_assoc}
use Rattle.std.proofs.lemmas.List.{reverse-append}
use Rattle.run_data.specs.declared.entry.Entry.{Entry}
use Rattle.run_model.specs.Past.{jobs}

-- the rest of a list behind its front
drop_front : {X : Type 0} (xs ys : List X) → drop (length xs) (xs ++ ys) ≡ ys
drop_front [] ys = refl
drop_front (x ∷ xs) ys = drop_front xs ys

front_and_rest : {X : Type 0} (xs front rest : List X) → xs ≡ front ++ rest → xs ≡ front ++ drop (length front) xs
front_and_rest {X = X} xs front rest is = is ∙ ap (λ (l : List X). front ++ l) (sym (ap (drop (length front)) is ∙ drop_front front rest))

-- a front with one element fewer
pub shorter_front : {X : Type 0} (xs front earlier : List X) (last : X) → xs ≡ front ++ drop (length front) xs → front ≡ earlier ++ last ∷ []
    → xs ≡ earlier ++ drop (length earlier) xs
shorter_front {X = X} xs front earlier last split is =
    front_and_rest xs earlier (last ∷ drop (length front) xs)
    (split ∙ ap (λ (l : List X). l ++ drop (length front) xs) is ∙ append_assoc earlier (last ∷ []) (drop (length front) xs))

-- entries after a past with no running job
jobs_after_none : (since past : List Entry) (r : ℕ) → jobs past r ≡ [] → jobs (since ++ past) r ≡ jobs since r
jobs_after_none [] past r none = none
jobs_after_none (e ∷ since) past r none = rw (jobs_after_none since past r none) refl

-- the jobs that run are those of the entries since then
pub jobs_since : (entries front earlier : List Entry) (last : Entry) (r : ℕ) → entries ≡ front ++ drop (length front) entries → front ≡ earlier ++ last ∷ []
    → jobs (last ∷ reverse earlier) r ≡ [] → jobs (reverse (drop (length front) entries)) r ≡ jobs (reverse entries) r
jobs_since entries front earlier last r split is none =
    let past : reverse front ≡ last ∷ reverse earlier = ap reverse is ∙ reverse-append earlier (last ∷ []) in
    let whole : reverse entries ≡ reverse (drop (length front) entries) ++ (last ∷ reverse earlier) =
    ap reverse split ∙ reverse-append front (drop (length front) entries) ∙ ap (λ (l : List Entry). reverse (drop (length front) entries) ++ l) past in
    sym (ap (λ (l : List Entry). jobs l r) whole ∙ jobs_after_none (reverse (drop (length front) entries)) (last ∷ reverse earlier) r none)
