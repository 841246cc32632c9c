-- The lines of another's branch that a repository lacks, and its own outdated ones: file by file, in its node and in the driver.
use Rattle.std.proofs.Common.{◌≡◌, ℕ, Bool, true, false, List, [], ◌∷◌, map, Option, Some, None, refl, sym, ap, ◌∙◌, subst, arith}
use Rattle.std.specs.Prelude.{if◌then◌else◌, length, nat_lt, not}
use Rattle.std.specs.List.{fold, list_any}
use Rattle.std.proofs.lemmas.Bool.Decides.{nat_tests}
use Rattle.annex_base.specs.declared.kinds.Call.TheVariants as calls
use Rattle.run_data.specs.declared.entry.EntryKind.TheVariants as kinds
use Rattle.run_data.specs.declared.entry.LogFile.{LogFile}
use Rattle.run_data.specs.Files.{file_of, file_path, kind_of}
use Rattle.union_merge.specs.Branch.{Files, file_at, lines_at, merged_file, or_none, with_file}
use Rattle.union_merge.specs.LineSet.{difference}
use Rattle.node_model.specs.Files.{compact_lines}
use Rattle.run_model.specs.Logs as logs
use Rattle.run_model.specs.Logs.{branch_after}
use Rattle.driver_model.specs.Driver.{Driver, DriverInput, fails_at, notes}
use Rattle.driver_model.specs.ScriptSteps.{compacts_files, faults, is_nil, merges_files, news, shrinks}
use Rattle.joined_nodes.specs.Logs.{with_log}
use Rattle.joined_nodes.specs.Nodes.{NodeView, with_entry}
use Rattle.joined_nodes.specs.Walks.{compact_files, current, merge_file, merge_files}
use Rattle.joined_nodes.specs.Stored.{StoreView}
use Rattle.fleet_model.proofs.Noting.{IsRaised, noted}

-- one more entry of a node over the same store
pub noted_on : {K : Type 0} (tells : K → StoreView) (g : DriverInput) (d : Driver) (r : ℕ) (n : NodeView K) (files : Files) (kind : _) (lines : List (List ℕ))
    → IsRaised tells g d r n → files ≡ branch_after n.branch kind lines → IsRaised tells g (notes r kind lines d) r (with_entry n n.keeper files kind lines)
noted_on tells g d r n files kind lines raised file =
    noted tells g d d r n n.keeper files kind lines raised refl file (record { contents = raised.store.contents; parts = raised.store.parts; failing = raised.store.failing })

-- ---- merged

driver_merge : ℕ → List ℕ × List (List ℕ) → Files → Driver → List (List ℕ) → Driver
driver_merge r f files d new =
    if is_nil new then merges_files r files d
    else (if fails_at d r calls.PutFile then faults r calls.PutFile d else merges_files r files (notes r (kinds.Log (file_of f.0)) new d))

merge_one : {K : Type 0} (tells : K → StoreView) (g : DriverInput) (d : Driver) (r : ℕ) (n : NodeView K) (f : List ℕ × List (List ℕ)) (files : Files)
    → IsRaised tells g d r n → fails_at d r calls.PutFile ≡ false
    → ((d : Driver) (n : NodeView K) → IsRaised tells g d r n → fails_at d r calls.PutFile ≡ false → IsRaised tells g (merges_files r files d) r (merge_files n files))
    → (new : List (List ℕ)) → IsRaised tells g (driver_merge r f files d new) r (fold merge_file (with_log n n.keeper (file_of f.0) new) files)
unfolding driver_merge
merge_one tells g d r n f files raised calm rest [] = rest d n raised calm
merge_one tells g d r n f files raised calm rest (line ∷ lines) =
    rw calm (rest (notes r (kinds.Log (file_of f.0)) (line ∷ lines) d)
    (with_entry n n.keeper (merged_file n.branch (file_path (file_of f.0)) (line ∷ lines)) (kinds.Log (file_of f.0)) (line ∷ lines))
    (noted_on tells g d r n (merged_file n.branch (file_path (file_of f.0)) (line ∷ lines)) (kinds.Log (file_of f.0)) (line ∷ lines) raised refl) calm)

pub merged_calm : {K : Type 0} (tells : K → StoreView) (g : DriverInput) (r : ℕ) (files : Files) (d : Driver) (n : NodeView K)
    → IsRaised tells g d r n → fails_at d r calls.PutFile ≡ false → IsRaised tells g (merges_files r files d) r (merge_files n files)
unfolding driver_merge
merged_calm tells g r [] d n raised calm = raised
merged_calm tells g r (f ∷ files) d n raised calm =
    subst (λ (new : List (List ℕ)). IsRaised tells g (driver_merge r f files d new) r (merge_files n (f ∷ files)))
    (ap (λ (b : Files). difference f.1 (lines_at b (file_path (file_of f.0)))) raised.entries.branch)
    (merge_one tells g d r n f files raised calm (merged_calm tells g r files) (difference f.1 (lines_at n.branch (file_path (file_of f.0)))))

-- ---- compacted

-- a file of which lines go is there
shrunk : (b : Files) (path : List ℕ) (lines : List (List ℕ)) → nat_lt (length lines) (length (lines_at b path)) ≡ true → file_at b path ≡ Some (lines_at b path)
shrunk b path lines less = go (file_at b path) refl
  where
    go : (o : Option (List (List ℕ))) → file_at b path ≡ o → o ≡ Some (lines_at b path)
    go None e = absurd (none (subst (λ (o : Option (List (List ℕ))). nat_lt (length lines) (length (or_none o)) ≡ true) e less))
      where
        none : nat_lt (length lines) 0 ≡ true → ⊥
        none e = grind (arith, nat_tests)
    go (Some xs) e = ap Some (ap or_none (sym e))

compact_branch : (b : Files) (file : LogFile) → nat_lt (length (compact_lines (kind_of file) (lines_at b (file_path file)))) (length (lines_at b (file_path file))) ≡ true
    → with_file b (file_path file) (compact_lines (kind_of file) (lines_at b (file_path file))) ≡ branch_after b (kinds.Compact file) []
compact_branch b file less =
    sym (ap (logs.compact_file file b) (shrunk b (file_path file) (compact_lines (kind_of file) (lines_at b (file_path file))) less))

-- the node after the first file is compacted, if it is to be
abbrev pub compact_if : {K : Type 0} → NodeView K → LogFile → Bool → NodeView K
compact_if n file b = if b then with_entry n n.keeper (with_file n.branch (file_path file) (current n file)) (kinds.Compact file) [] else n

compact_one : {K : Type 0} (tells : K → StoreView) (g : DriverInput) (d : Driver) (r : ℕ) (n : NodeView K) (f : List ℕ × List (List ℕ)) (files : Files)
    → IsRaised tells g d r n → fails_at d r calls.PutFile ≡ false
    → ((d : Driver) (n : NodeView K) → IsRaised tells g d r n → fails_at d r calls.PutFile ≡ false → IsRaised tells g (compacts_files r files d) r (compact_files n (map (λ f. f.0) files)))
    → nat_lt (length (current n (file_of f.0))) (length (lines_at n.branch (file_path (file_of f.0)))) ≡ shrinks d r (file_of f.0)
    → (b : Bool) → shrinks d r (file_of f.0) ≡ b → IsRaised tells g (compacts_files r (f ∷ files) d) r (compact_files (compact_if n (file_of f.0) b) (map (λ f. f.0) files))
compact_one tells g d r n f files raised calm rest same false e = rw e (rest d n raised calm)
compact_one tells g d r n f files raised calm rest same true e =
    rw e (rw calm
    (rest (notes r (kinds.Compact (file_of f.0)) [] d) (compact_if n (file_of f.0) true)
    (noted_on tells g d r n (with_file n.branch (file_path (file_of f.0)) (current n (file_of f.0))) (kinds.Compact (file_of f.0)) [] raised (compact_branch n.branch (file_of f.0) (same ∙ e))) calm))

pub compacted_calm : {K : Type 0} (tells : K → StoreView) (g : DriverInput) (r : ℕ) (files : Files) (d : Driver) (n : NodeView K)
    → IsRaised tells g d r n → fails_at d r calls.PutFile ≡ false → IsRaised tells g (compacts_files r files d) r (compact_files n (map (λ f. f.0) files))
compacted_calm tells g r [] d n raised calm = raised
compacted_calm tells g r (f ∷ files) d n raised calm =
    subst (λ (b : Bool). IsRaised tells g (compacts_files r (f ∷ files) d) r (compact_files (compact_if n (file_of f.0) b) (map (λ f. f.0) files))) (sym same)
    (compact_one tells g d r n f files raised calm (compacted_calm tells g r files) same (shrinks d r (file_of f.0)) refl)
  where
    same : nat_lt (length (current n (file_of f.0))) (length (lines_at n.branch (file_path (file_of f.0)))) ≡ shrinks d r (file_of f.0)
    same = ap (λ (b : Files). nat_lt (length (compact_lines (kind_of (file_of f.0)) (lines_at b (file_path (file_of f.0))))) (length (lines_at b (file_path (file_of f.0))))) raised.entries.branch

-- ---- a walk that may fail

-- where a file is to be written and the call fails, the first one stops
pub merged_failing : (d : Driver) (r : ℕ) (files : Files) → fails_at d r calls.PutFile ≡ true → merges_files r files d ≡ (if list_any (λ f. not (is_nil (news d r f.0 f.1))) files then faults r calls.PutFile d else d)
merged_failing d r [] fails = refl
merged_failing d r (f ∷ files) fails = go (is_nil (news d r f.0 f.1)) refl (merged_failing d r files fails)
  where
    go : (b : Bool) → is_nil (news d r f.0 f.1) ≡ b → merges_files r files d ≡ (if list_any (λ f. not (is_nil (news d r f.0 f.1))) files then faults r calls.PutFile d else d)
        → merges_files r (f ∷ files) d ≡ (if list_any (λ f. not (is_nil (news d r f.0 f.1))) (f ∷ files) then faults r calls.PutFile d else d)
    go true e rest = rw e rest
    go false e rest = rw e (rw fails refl)

pub compacted_failing : (d : Driver) (r : ℕ) (files : Files) → fails_at d r calls.PutFile ≡ true → compacts_files r files d ≡ (if list_any (λ f. shrinks d r (file_of f.0)) files then faults r calls.PutFile d else d)
compacted_failing d r [] fails = refl
compacted_failing d r (f ∷ files) fails = go (shrinks d r (file_of f.0)) refl (compacted_failing d r files fails)
  where
    go : (b : Bool) → shrinks d r (file_of f.0) ≡ b → compacts_files r files d ≡ (if list_any (λ f. shrinks d r (file_of f.0)) files then faults r calls.PutFile d else d)
        → compacts_files r (f ∷ files) d ≡ (if list_any (λ f. shrinks d r (file_of f.0)) (f ∷ files) then faults r calls.PutFile d else d)
    go false e rest = rw e rest
    go true e rest = rw e (rw fails refl)
