-- Plans peer by peer and key by key.
use Rattle.std.proofs.Common.{◌≡◌, ℕ, zero, suc, ◌+◌, ◌<◌, ◌==◌, Bool, true, false, not, ◌&&◌, ◌||◌, List, [], ◌∷◌, ◌++◌, length, filter, flat_map, get_or, map, take, Option, Some, None, refl, sym, ap, ◌∙◌, append_assoc, bytes_eq, arith}
use Rattle.std.specs.Prelude.{is_some, option_map}
use Rattle.std.specs.List.{list_any, range_with_len}
use Rattle.std.proofs.lemmas.Bool.{false≢true}
use Rattle.std.proofs.lemmas.Grind.{flat_map-append}
use Rattle.std.proofs.lemmas.List.{append-nil, map-append, take_more}
use Rattle.std.proofs.lemmas.List.Elements.{filter-append}
use Rattle.annex_base.specs.Settings.{Settings}
use Rattle.annex_base.proofs.Numbers.{range_more}
use Rattle.trust_groups.specs.Reads.{Indices}
use Rattle.trust_groups.specs.View.{settings_of}
use Rattle.wanted_expr.specs.Wanted.{is_required, wants}
use Rattle.wanted_rules.specs.declared.action.Action.{Action}
use Rattle.wanted_rules.specs.Plan.{has_key, lacks, repo_at, spares}
use Rattle.wanted_rules.specs.Reads.{Wishing}
use Rattle.sync_core.specs.Placement.{IsLookedUp, peers_among, wishes_of}

-- ---- peers

-- the actions for those peers of a list that pass a test
abbrev actions_for : (ℕ → Action) → (ℕ → Bool) → ℕ → List ℕ → List Action
actions_for action passes here numbers = map action (filter passes (peers_among here numbers))

actions_append : (action : ℕ → Action) (passes : ℕ → Bool) (here : ℕ) (xs ys : List ℕ)
    → actions_for action passes here (xs ++ ys) ≡ actions_for action passes here xs ++ actions_for action passes here ys
actions_append action passes here xs ys =
    ap (λ (ns : List ℕ). map action (filter passes ns)) (filter-append (λ n. not (n == here)) xs ys)
    ∙ ap (map action) (filter-append passes (peers_among here xs) (peers_among here ys))
    ∙ map-append action (filter passes (peers_among here xs)) (filter passes (peers_among here ys))

-- one more peer
pub more_peers : (action : ℕ → Action) (passes : ℕ → Bool) (here n : ℕ) (before was new : List Action) → was ≡ before ++ map action (filter passes (peers_among here (range_with_len 0 n)))
    → new ≡ was ++ map action (filter passes (peers_among here (n ∷ []))) → new ≡ before ++ map action (filter passes (peers_among here (range_with_len 0 (n + 1))))
more_peers action passes here n before was new so_far is =
    is
    ∙ ap (λ (xs : List Action). xs ++ actions_for action passes here (n ∷ [])) so_far
    ∙ append_assoc before (actions_for action passes here (range_with_len 0 n)) (actions_for action passes here (n ∷ []))
    ∙ ap (λ (xs : List Action). before ++ xs) (sym (actions_append action passes here (range_with_len 0 n) (n ∷ [])) ∙ ap (actions_for action passes here) (sym (range_more n)))

-- ---- keys

-- one more key
pub more_keys : (plan_for : List ℕ → List Action) (keys : List (List ℕ)) (i : ℕ) (key : List ℕ) (actions new : List Action) → i < length keys → key ≡ get_or keys i key
    → actions ≡ flat_map plan_for (take i keys) → new ≡ actions ++ plan_for key → new ≡ flat_map plan_for (take (i + 1) keys)
more_keys plan_for keys i key actions new within at so_far is =
    is
    ∙ ap (λ (xs : List Action). xs ++ plan_for key) so_far
    ∙ ap (λ (xs : List Action). flat_map plan_for (take i keys) ++ xs) (sym (append-nil (plan_for key)))
    ∙ sym (flat_map-append plan_for (take i keys) (key ∷ []))
    ∙ ap (flat_map plan_for) (ap (λ (k : List ℕ). take i keys ++ k ∷ []) at ∙ sym (take_more keys i key within))

-- ---- repositories

-- one more repository's wishes
pub more_wishes : (indices : Indices) (repos : List (List ℕ)) (i : ℕ) (repo : List ℕ) (wishes new : List Wishing) (wishing : Wishing) → i < length repos → repo ≡ get_or repos i repo
    → wishes ≡ wishes_of indices (take i repos) → new ≡ wishes ++ wishing ∷ [] → wishing ≡ record { indices = indices; repo = repo } → new ≡ wishes_of indices (take (i + 1) repos)
more_wishes indices repos i repo wishes new wishing within at so_far is wished =
    is
    ∙ ap (λ (w : Wishing). wishes ++ w ∷ []) wished
    ∙ ap (λ (ws : List Wishing). ws ++ wishes_of indices (repo ∷ [])) so_far
    ∙ sym (map-append (λ (r : List ℕ). let w : Wishing = record { indices = indices; repo = r } in w) (take i repos) (repo ∷ []))
    ∙ ap (wishes_of indices) (ap (λ (r : List ℕ). take i repos ++ r ∷ []) at ∙ sym (take_more repos i repo within))

-- the repository at a place
pub repo_is : (repos : List (List ℕ)) (n : ℕ) (d : List ℕ) → n < length repos → get_or repos n d ≡ repo_at repos n
repo_is [] n d within = absurd (omega (arith, within))
repo_is (x ∷ xs) zero d within = refl
repo_is (x ∷ xs) (suc n) d within = repo_is xs n d (omega (arith, within))

-- and its wishes
wishing_is : (indices : Indices) (repos : List (List ℕ)) (n : ℕ) (d : Wishing) → n < length repos → get_or (wishes_of indices repos) n d ≡ record { indices = indices; repo = repo_at repos n }
wishing_is indices [] n d within = absurd (omega (arith, within))
wishing_is indices (x ∷ xs) zero d within = refl
wishing_is indices (x ∷ xs) (suc n) d within = wishing_is indices xs n d (omega (arith, within))

-- ---- what was looked up of a key

module _ (indices : Indices) (repos : List (List ℕ)) (wishes : List Wishing) (key : List ℕ) (claimed : List (List ℕ)) (looked : IsLookedUp indices repos wishes key claimed) (n : ℕ) (within : n < length repos) where
  -- whether the repository of a number is claimed to have the key
  pub claimed_is : (d : List ℕ) (items : List (List ℕ)) → items ≡ claimed → list_any (bytes_eq (get_or repos n d)) items ≡ has_key (settings_of indices) key (repo_at repos n)
  claimed_is d items same =
      ap (λ (r : List ℕ). list_any (bytes_eq r) items) (repo_is repos n d within) ∙ ap (list_any (bytes_eq (repo_at repos n))) (same ∙ looked.are_claimed)

  -- its wishes
  pub wishes_are : (d : Wishing) → get_or wishes n d ≡ record { indices = indices; repo = repo_at repos n }
  wishes_are d = ap (λ (ws : List Wishing). get_or ws n d) looked.are_wishes ∙ wishing_is indices repos n d within

-- where it isn't claimed to have it, it lacks it where it wants it
pub lacks_wanted : (s : Settings) (key : List ℕ) (paths : List (List ℕ)) (repo : List ℕ) → has_key s key repo ≡ false → wants s repo key paths false ≡ lacks s key paths repo
lacks_wanted s key paths repo absent = ap (λ (has : Bool). not has && wants s repo key paths false) (sym absent)

-- where it is, it spares none that it wants with its copy gone
pub spares_none : (s : Settings) (key : List ℕ) (paths : List (List ℕ)) (repo : List ℕ) → has_key s key repo ≡ true → wants s repo key paths true ≡ true → false ≡ spares s key paths repo
spares_none s key paths repo there wanted = sym (ap (λ (has : Bool). has && not (wants s repo key paths true || is_required s repo key paths)) there ∙ ap (λ (w : Bool). not (w || is_required s repo key paths)) wanted)

-- and one that it doesn't want so, unless it requires it
pub spares_unrequired : (s : Settings) (key : List ℕ) (paths : List (List ℕ)) (repo : List ℕ) → has_key s key repo ≡ true → wants s repo key paths true ≡ false → not (is_required s repo key paths) ≡ spares s key paths repo
spares_unrequired s key paths repo there unwanted =
    sym (ap (λ (has : Bool). has && not (wants s repo key paths true || is_required s repo key paths)) there ∙ ap (λ (w : Bool). not (w || is_required s repo key paths)) unwanted)

-- nothing is required, as it lies in memory and as clauses see it
pub none_required : {X Y : Type 0} (f : X → Y) (o : Option X) (none : Bool) → is_some o ≡ not none → none ≡ not (is_some (option_map f o))
none_required f None true e = refl
none_required f None false e = absurd (false≢true e)
none_required f (Some x) true e = absurd (false≢true (sym e))
none_required f (Some x) false e = refl
