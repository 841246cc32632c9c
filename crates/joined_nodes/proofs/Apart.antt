-- No two of the repositories have one identifier.
use Rattle.std.proofs.Common.{◌≡◌, ◌≢◌, ◌<◌, ◌≤◌, ◌+◌, inl, inr, arith, ℕ, suc, Bool, true, false, not, ◌&&◌, List, [], ◌∷◌, length, get_or, drop, AllPairs, refl, sym, ap, ◌∙◌}
use Rattle.std.specs.Prelude.{bytes_eq}
use Rattle.std.proofs.lemmas.Bool.{and_parts, cases_Bool, not-true, true≢false}
use Rattle.std.proofs.lemmas.List.{drop_all, drop_more}
use Rattle.std.proofs.lemmas.List.Kept.{AllPairs-cons}
use Rattle.annex_base.specs.Lists.{Each}
use Rattle.annex_base.proofs.Conditions.{bytes_eq-refl, bytes_eq-true}
use Rattle.annex_base.proofs.Lists.{All-from_Each, Each-map, Member-map, Contains-from_Member, list_any_found, list_any_nowhere, Each-weaker}
use Rattle.run_data.specs.declared.run.RepoView.{RepoView}
use Rattle.joined_nodes.specs.Apart.{are_apart, is_among}
use Rattle.joined_nodes.specs.Joined.{ids_of}

-- ---- as it is found

next_is : (repos : List RepoView) (i : ℕ) (x : RepoView) → i < length repos → x ≡ get_or repos i x → drop i repos ≡ x ∷ drop (i + 1) repos
next_is repos i x within read = drop_more repos i x within ∙ ap (λ (y : RepoView). y ∷ drop (i + 1) repos) (sym read)

-- one more was passed
pub one_passed : (repos : List RepoView) (i : ℕ) (x : RepoView) (others : List RepoView) (found : Bool) → i < length repos → x ≡ get_or repos i x → others ≡ drop (i + 1) repos → found ≡ is_among x.id others → found ≡ false → are_apart repos ≡ are_apart (drop i repos)
    → are_apart repos ≡ are_apart (drop (i + 1) repos)
one_passed repos i x others found within read rest tells none was =
    was ∙ (ap are_apart (next_is repos i x within read) ∙ ap (λ b. not b && are_apart (drop (i + 1) repos)) (sym (ap (is_among x.id) rest) ∙ (sym tells ∙ none)))

-- one is there again
pub one_again : (repos : List RepoView) (i : ℕ) (x : RepoView) (others : List RepoView) (found : Bool) → i < length repos → x ≡ get_or repos i x → others ≡ drop (i + 1) repos → found ≡ is_among x.id others → found ≡ true → are_apart repos ≡ are_apart (drop i repos)
    → false ≡ are_apart repos
one_again repos i x others found within read rest tells is was =
    sym (was ∙ (ap are_apart (next_is repos i x within read) ∙ ap (λ b. not b && are_apart (drop (i + 1) repos)) (sym (ap (is_among x.id) rest) ∙ (sym tells ∙ is))))

-- all were passed
pub all_passed : (repos : List RepoView) (i : ℕ) → length repos ≤ i → are_apart repos ≡ are_apart (drop i repos) → true ≡ are_apart repos
all_passed repos i past was = sym (was ∙ ap are_apart (drop_all i repos past))

-- ---- what it says

other_ids : (x : RepoView) (xs : List RepoView) → is_among x.id xs ≡ false → Each (λ (b : List ℕ). x.id ≢ b) (ids_of xs)
other_ids x xs none = Each-map (λ (b : List ℕ). x.id ≢ b) (λ (repo : RepoView). repo.id) xs
    (Each-weaker (λ (repo : RepoView). bytes_eq repo.id x.id ≡ false) (λ (repo : RepoView). x.id ≢ repo.id)
    (λ y is e. true≢false (sym (bytes_eq-refl y.id) ∙ (ap (bytes_eq y.id) (sym e) ∙ is))) xs (list_any_nowhere (λ (repo : RepoView). bytes_eq repo.id x.id) xs none))

pub apart_pairs : (repos : List RepoView) → are_apart repos ≡ true → AllPairs (λ a b. a ≢ b) (ids_of repos)
apart_pairs [] is = λ i j d before within. absurd (omega (arith, within))
apart_pairs (x ∷ xs) is =
    let parts = and_parts (not (is_among x.id xs)) (are_apart xs) is in
    AllPairs-cons (λ (a b : List ℕ). a ≢ b) x.id (ids_of xs) (All-from_Each (λ (b : List ℕ). x.id ≢ b) (ids_of xs) (other_ids x xs (not-true (is_among x.id xs) parts.0))) (apart_pairs xs parts.1)

rest_apart : (x : List ℕ) (xs : List (List ℕ)) → AllPairs (λ a b. a ≢ b) (x ∷ xs) → AllPairs (λ a b. a ≢ b) xs
rest_apart x xs all = λ i j d before within. all (suc i) (suc j) d (omega (arith, before)) (omega (arith, within))

none_again : (x : RepoView) (xs : List RepoView) → AllPairs (λ a b. a ≢ b) (ids_of (x ∷ xs)) → is_among x.id xs ≡ false
none_again x xs all = elim (cases_Bool (is_among x.id xs)) [
  | inl is ↦
      let found = list_any_found (λ (repo : RepoView). bytes_eq repo.id x.id) xs is in
      let at = Contains-from_Member (ids_of xs) found.0.id (Member-map (λ (repo : RepoView). repo.id) xs found.0 found.1) in
      absurd (all 0 (suc at.0) found.0.id (omega arith) (omega (arith, at.1)) (sym (bytes_eq-true found.0.id x.id found.2) ∙ sym at.2))
  | inr isn't ↦ isn't
]

pub pairs_apart : (repos : List RepoView) → AllPairs (λ a b. a ≢ b) (ids_of repos) → are_apart repos ≡ true
pairs_apart [] all = refl
pairs_apart (x ∷ xs) all = rw (none_again x xs all) (pairs_apart xs (rest_apart x.id (ids_of xs) all))
