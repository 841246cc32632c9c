-- Each action of a plan is a job that the repository may begin.
use Rattle.std.proofs.Common.{◌≡◌, ◌≢◌, ℕ, ◌<◌, Bool, true, false, List, [], ◌∷◌, refl, ap, ◌∙◌, arith}
use Rattle.std.specs.Prelude.{if◌then◌else◌, ◌==◌, not, nat_le, filter, length, map}
use Rattle.std.specs.List.{All, fold}
use Rattle.std.specs.Map.{values_of}
use Rattle.std.proofs.lemmas.List.{length-map}
use Rattle.std.proofs.lemmas.Map.Views.{All-values-insert_entry}
use Rattle.annex_base.specs.ByteOrder.{text_cmp}
use Rattle.annex_base.specs.Lists.{Each}
use Rattle.annex_base.specs.Settings.{Settings}
use Rattle.annex_base.proofs.Conditions.{eqb_refl}
use Rattle.annex_base.proofs.Lists.{Each-append, Each-both, Each-filter, Each-flat_map, Each-from_All, Each-map, Each-passes, Each-weaker, All-from_Each}
use Rattle.annex_key.specs.KeyText.{IsKeyText}
use Rattle.annex_key.specs.Tree.{Entries, distinct_keys, each_once, paths_of, with_key}
use Rattle.run_data.specs.declared.run.TreeMark.{TreeMark}
use Rattle.run_model.specs.Logs.{settings_of}
use Rattle.run_model.specs.Run.{tree_at}
use Rattle.wanted_rules.specs.declared.action.Action.{Action}
use Rattle.wanted_rules.specs.declared.action.Action.TheVariants.{Get, Put, DropHere, DropFrom}
use Rattle.wanted_rules.specs.Plan.{lacks, only_if, peers, plan, plan_of, repo_at, spares}
use Rattle.driver_model.specs.Driver.{Driver, DriverInput}
use Rattle.driver_model.specs.Scripts.{IsJob}
use Rattle.driver_model.specs.Syncs.{job_for, plan_at}
use Rattle.driver_model.proofs.Numbers.{below_len}
use Rattle.driver_model.proofs.Premises.{Laws}

-- ---- the keys of the tree

-- each path of the tree names a key
abbrev pub HasKeys : List TreeMark → Type 0
HasKeys marks = Each (λ (m : TreeMark). IsKeyText m.key) marks

keys_from : (place : ℕ) (marks : List TreeMark) (tree : Entries) → HasKeys marks → All IsKeyText (values_of tree)
    → All IsKeyText (values_of (fold (λ (tree : Entries) (m : TreeMark). if nat_le m.place place then with_key tree m.path m.key else tree) tree marks))
keys_from place [] tree keys all = all
keys_from place (m ∷ marks) tree keys all = keys_from place marks (if nat_le m.place place then with_key tree m.path m.key else tree) keys.1 (go (nat_le m.place place))
  where
    go : (b : Bool) → All IsKeyText (values_of (if b then with_key tree m.path m.key else tree))
    go true = All-values-insert_entry text_cmp m.path m.key IsKeyText tree all keys.0
    go false = all

once_each : (P : List ℕ → Type 0) (xs : List (List ℕ)) → Each P xs → Each P (each_once xs)
once_each P [] all = tt
once_each P (x ∷ xs) all = (all.0, Each-filter P _ (each_once xs) (once_each P xs all.1))

tree_keys : (marks : List TreeMark) (place : ℕ) → HasKeys marks → Each IsKeyText (distinct_keys (tree_at marks place))
tree_keys marks place keys = once_each IsKeyText (values_of (tree_at marks place)) (Each-from_All IsKeyText _ (keys_from place marks [] keys (All-from_Each IsKeyText [] tt)))

-- ---- the actions

apart_from : (n here : ℕ) → not (n == here) ≡ true → n ≢ here
apart_from n here i e = let same = ap (λ (k : ℕ). not (k == here)) e ∙ ap not (eqb_refl here) in absurd (cc)

module _ (laws : Laws) (g : DriverInput) (r : ℕ) where
  abbrev pub IsBegun : Action → Type 0
  IsBegun action = IsJob g r (job_for action)

  abbrev IsPeerOf : ℕ → Type 0
  IsPeerOf n = (n < length g.repos) × (n ≢ r)

  peers_are : (ids : List (List ℕ)) → length ids ≡ length g.repos → Each IsPeerOf (peers ids r)
  peers_are ids same = Each-both (λ (n : ℕ). n < length g.repos) (λ (n : ℕ). not (n == r) ≡ true) IsPeerOf (λ n i j. (i, apart_from n r j)) (peers ids r)
      (Each-filter (λ (n : ℕ). n < length g.repos) (λ (n : ℕ). not (n == r)) _ (below_len 0 (length ids) (length g.repos) (omega (arith, same))))
      (Each-passes (λ (n : ℕ). not (n == r)) _)

  module _ (s : Settings) (ids : List (List ℕ)) (same : length ids ≡ length g.repos) where
    only_begun : (b : Bool) (action : Action) → IsBegun action → Each IsBegun (only_if b action)
    only_begun true action x = (x, tt)
    only_begun false action x = tt

    to_peers : (to : ℕ → Action) (test : ℕ → Bool) → ((peer : ℕ) → IsPeerOf peer → IsBegun (to peer)) → Each IsBegun (map to (filter test (peers ids r)))
    to_peers to test may = Each-map IsBegun to (filter test (peers ids r)) (Each-weaker IsPeerOf (λ (peer : ℕ). IsBegun (to peer)) may (filter test (peers ids r)) (Each-filter IsPeerOf test (peers ids r) (peers_are ids same)))

    key_begun : (key : List ℕ) (paths : List (List ℕ)) → IsKeyText key → Each IsBegun (plan_of s ids r key paths)
    key_begun key paths text =
        let valid = (laws.key_text key).1 text in
        Each-append IsBegun _ (map (λ (peer : ℕ). DropFrom key peer) (filter (λ (peer : ℕ). spares s key paths (repo_at ids peer)) (peers ids r)))
        (Each-append IsBegun _ (only_if (spares s key paths (repo_at ids r)) (DropHere key))
        (Each-append IsBegun (only_if (lacks s key paths (repo_at ids r)) (Get key)) (map (λ (peer : ℕ). Put key peer) (filter (λ (peer : ℕ). lacks s key paths (repo_at ids peer)) (peers ids r)))
        (only_begun (lacks s key paths (repo_at ids r)) (Get key) (record { peer = refl; valid = valid }))
        (to_peers (λ (peer : ℕ). Put key peer) (λ (peer : ℕ). lacks s key paths (repo_at ids peer)) (λ peer x. record { peer = x; valid = valid })))
        (only_begun (spares s key paths (repo_at ids r)) (DropHere key) (record { peer = refl; valid = valid })))
        (to_peers (λ (peer : ℕ). DropFrom key peer) (λ (peer : ℕ). spares s key paths (repo_at ids peer)) (λ peer x. record { peer = x; valid = valid }))

    all_begun : (tree : Entries) → Each IsKeyText (distinct_keys tree) → Each IsBegun (plan s tree r ids)
    unfolding plan
    all_begun tree keys = Each-flat_map IsBegun (λ (key : List ℕ). plan_of s ids r key (paths_of tree key)) (distinct_keys tree)
        (Each-weaker IsKeyText (λ (key : List ℕ). Each IsBegun (plan_of s ids r key (paths_of tree key))) (λ key text. key_begun key (paths_of tree key) text) (distinct_keys tree) keys)

  pub plan_begun : (d : Driver) → HasKeys d.tree → Each IsBegun (plan_at g r d)
  plan_begun d keys = all_begun (settings_of d.past r) (map (λ repo. repo.id) g.repos) (length-map g.repos (λ repo. repo.id)) (tree_at d.tree (length d.past)) (tree_keys d.tree (length d.past) keys)
