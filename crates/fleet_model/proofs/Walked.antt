-- What a walk over the files of a branch leaves, in a node and in the driver, where it went through or the first write failed.
use Rattle.std.proofs.Common.{◌≡◌, ℕ, suc, Bool, true, false, List, [], ◌∷◌, map, length, Option, Some, None, refl, sym, ap, ◌∙◌, subst, arith}
use Rattle.std.specs.Prelude.{◌&&◌, ◌||◌, find, if◌then◌else◌, nat_lt, not}
use Rattle.std.specs.List.{fold, list_any}
use Rattle.std.specs.Map.{keys_of}
use Rattle.std.specs.Option.{option_map}
use Rattle.std.proofs.lemmas.Bool.Decides.{nat_tests}
use Rattle.annex_base.specs.declared.kinds.Call.{Call}
use Rattle.annex_base.proofs.Conditions.{or_first}
use Rattle.annex_base.specs.declared.kinds.Call.TheVariants as calls
use Rattle.run_data.specs.Files.{file_of, file_path, kind_of}
use Rattle.union_merge.specs.Branch.{Files, lines_at}
use Rattle.union_merge.specs.LineSet.{difference}
use Rattle.node_model.specs.Files.{compact_lines}
use Rattle.run_model.specs.Logs.{branch}
use Rattle.driver_model.specs.Driver.{Driver, DriverInput, fails_at}
use Rattle.driver_model.specs.ScriptSteps as script
use Rattle.driver_model.specs.ScriptSteps.{compacts, faults, is_nil, merges_files, news}
use Rattle.content_lock.specs.CallsMade.{MakesCalls, fewer}
use Rattle.joined_nodes.specs.Calls.{lacks_some, shrinks, to_compact, to_merge, to_write}
use Rattle.joined_nodes.specs.Logs.{with_log}
use Rattle.joined_nodes.specs.Nodes.{NodeView}
use Rattle.joined_nodes.specs.Refusals.{RefusesSo}
use Rattle.joined_nodes.specs.Walks.{compact_file, compact_files, merge_file, merge_files, over}
use Rattle.node_past.specs.declared.refused.NodeRefused.TheVariants as refusals
use Rattle.fleet_model.specs.Steps.{StaysStored}
use Rattle.fleet_model.specs.Stores.{IsStoreOf}
use Rattle.joined_nodes.specs.Stored.{StoreView}
use Rattle.fleet_model.proofs.Failing.{first_of_calls, positive}
use Rattle.fleet_model.proofs.Logging.{none_fewer, same_store}
use Rattle.fleet_model.proofs.Noting.{IsRaised, over_store}
use Rattle.fleet_model.proofs.Placing.{fault_noted}
use Rattle.fleet_model.proofs.Walking.{compact_if, compacted_calm, compacted_failing, merged_calm, merged_failing}

-- ---- the store that a walk leaves

log_keeper : {K : Type 0} (n : NodeView K) (file : _) (new : List (List ℕ)) → (with_log n n.keeper file new).keeper ≡ n.keeper
log_keeper n file [] = refl
log_keeper n file (line ∷ lines) = refl

merge_keeper : {K : Type 0} (n : NodeView K) (files : Files) → (merge_files n files).keeper ≡ n.keeper
merge_keeper n [] = refl
merge_keeper n (f ∷ files) = merge_keeper (merge_file n f) files ∙ log_keeper n (file_of f.0) (difference f.1 (lines_at n.branch (file_path (file_of f.0))))

compact_if_keeper : {K : Type 0} (n : NodeView K) (path : List ℕ) (b : Bool) → (compact_if n (file_of path) b).keeper ≡ n.keeper
compact_if_keeper n path true = refl
compact_if_keeper n path false = refl

compact_keeper : {K : Type 0} (n : NodeView K) (paths : List (List ℕ)) → (compact_files n paths).keeper ≡ n.keeper
compact_keeper n [] = refl
compact_keeper n (path ∷ paths) = compact_keeper (compact_file n (file_of path)) paths ∙ compact_if_keeper n path (shrinks n (file_of path))

-- ---- a walk that went through

-- a write that may fail is done, or fails first
write_found : (d : Driver) (r : ℕ) (b : Bool) → find (fails_at d r) (to_write b) ≡ (if b && fails_at d r calls.PutFile then Some calls.PutFile else None)
write_found d r false = refl
write_found d r true = refl

pub some_left : (xs : List (List ℕ)) → nat_lt 0 (length xs) ≡ not (is_nil xs)
some_left [] = refl
some_left (x ∷ xs) = positive (length xs)

any_alike : {X : Type 0} (p q : X → Bool) (xs : List X) → ((x : X) → p x ≡ q x) → list_any p xs ≡ list_any q xs
any_alike p q [] same = refl
any_alike p q (x ∷ xs) same = λ i. same x i || any_alike p q xs same i

lacking : {K : Type 0} (tells : K → StoreView) (g : DriverInput) (d : Driver) (r : ℕ) (n : NodeView K) (files : Files) → IsRaised tells g d r n
    → list_any (λ f. lacks_some n (file_of f.0) f.1) files ≡ list_any (λ f. not (is_nil (news d r f.0 f.1))) files
lacking tells g d r n files raised =
    any_alike (λ f. lacks_some n (file_of f.0) f.1) (λ f. not (is_nil (news d r f.0 f.1))) files
    (λ f. some_left (difference f.1 (lines_at n.branch (file_path (file_of f.0)))) ∙ ap (λ (b : Files). not (is_nil (difference f.1 (lines_at b (file_path (file_of f.0)))))) raised.entries.branch)

-- ---- merged

nothing_lacked : (xs : List (List ℕ)) → nat_lt 0 (length xs) ≡ false → xs ≡ []
nothing_lacked [] e = refl
nothing_lacked (x ∷ xs) e = absurd (never (length xs) e)
  where
    never : (n : ℕ) → nat_lt 0 (suc n) ≡ false → ⊥
    never n e = grind (arith, nat_tests)

or_right : (a b : Bool) → (a || b) ≡ false → b ≡ false
or_right true b e = absurd (cc)
or_right false b e = e

merged_nothing : {K : Type 0} (n : NodeView K) (files : Files) → list_any (λ f. lacks_some n (file_of f.0) f.1) files ≡ false → merge_files n files ≡ n
merged_nothing n [] e = refl
merged_nothing {K} n (f ∷ files) e =
    ap (λ (new : List (List ℕ)). fold merge_file (with_log n n.keeper (file_of f.0) new) files)
    (nothing_lacked (difference f.1 (lines_at n.branch (file_path (file_of f.0)))) (or_first (lacks_some n (file_of f.0) f.1) (list_any (λ f. lacks_some n (file_of f.0) f.1) files) e))
    ∙ merged_nothing n files (or_right (lacks_some n (file_of f.0) f.1) (list_any (λ f. lacks_some n (file_of f.0) f.1) files) e)

pub merged : {K : Type 0} (tells : K → StoreView) (g : DriverInput) (d : Driver) (r : ℕ) (n m : NodeView K) (files : Files) (failed : Option Call) → IsRaised tells g d r n
    → StaysStored (tells n.keeper) (tells m.keeper) → MakesCalls (to_merge n files) failed (tells n.keeper).failing (tells m.keeper).failing
    → (failed ≡ None → m ≡ over m.keeper (merge_files n files)) → ((call : Call) → failed ≡ Some call → RefusesSo refusals.StoreFault calls.PutFile n m)
    → IsRaised tells g (merges_files r files d) r m
merged {K} tells g d r n m files failed raised stays made well fails = go (fails_at d r calls.PutFile) refl
  where
    some : Bool
    some = list_any (λ f. lacks_some n (file_of f.0) f.1) files

    which : failed ≡ (if some && fails_at d r calls.PutFile then Some calls.PutFile else None)
    which = first_of_calls d r (to_merge n files) (tells n.keeper) failed (tells m.keeper).failing raised.store made ∙ write_found d r some

    left : failed ≡ None → (tells m.keeper).failing ≡ (tells n.keeper).failing
    left e = made.left ∙ (ap (λ (f : Option Call). option_map (fewer f) (tells n.keeper).failing) e ∙ none_fewer (tells n.keeper).failing)

    calm : (b : Bool) → (if b && false then Some calls.PutFile else None) ≡ None
    calm true = refl
    calm false = refl

    goes_through : fails_at d r calls.PutFile ≡ false → IsRaised tells g (merges_files r files d) r m
    goes_through e =
        let none : failed ≡ None = which ∙ (ap (λ (b : Bool). if some && b then Some calls.PutFile else None) e ∙ calm some) in
        let there : IsRaised tells g (merges_files r files d) r (merge_files n files) = merged_calm tells g r files d n raised e in
        subst (λ (x : NodeView K). IsRaised tells g (merges_files r files d) r x) (sym (well none))
        (over_store tells g (merges_files r files d) (merges_files r files d) r (merge_files n files) m.keeper there
        (same_store (merges_files r files d) r (tells n.keeper) (tells m.keeper) (subst (λ (k : K). IsStoreOf (merges_files r files d) r (tells k)) (merge_keeper n files) there.store) stays (left none)) refl)

    stops : (b : Bool) → some ≡ b → fails_at d r calls.PutFile ≡ true → IsRaised tells g (if b then faults r calls.PutFile d else d) r m
    stops true e f =
        let is : failed ≡ Some calls.PutFile = which ∙ (λ i. if e i && f i then Some calls.PutFile else None) in
        fault_noted tells g d d r n m calls.PutFile (tells m.keeper) (tells n.keeper).failing raised refl (fails calls.PutFile is) refl
        (made.left ∙ ap (λ (f : Option Call). option_map (fewer f) (tells n.keeper).failing) is)
        (record { contents = rw stays.contents raised.store.contents; parts = rw stays.parts raised.store.parts; failing = raised.store.failing })
    stops false e f =
        let none : failed ≡ None = which ∙ (λ i. if e i && f i then Some calls.PutFile else None) in
        subst (λ (x : NodeView K). IsRaised tells g d r x) (sym (well none ∙ ap (over m.keeper) (merged_nothing n files e)))
        (over_store tells g d d r n m.keeper raised (same_store d r (tells n.keeper) (tells m.keeper) raised.store stays (left none)) refl)

    go : (b : Bool) → fails_at d r calls.PutFile ≡ b → IsRaised tells g (merges_files r files d) r m
    go false e = goes_through e
    go true e =
        subst (λ (x : Driver). IsRaised tells g x r m)
        (sym (merged_failing d r files e ∙ ap (λ (b : Bool). if b then faults r calls.PutFile d else d) (sym (lacking tells g d r n files raised))))
        (stops some refl e)

-- ---- compacted

pub any_map : {X Y : Type 0} (p : Y → Bool) (f : X → Y) (xs : List X) → list_any p (map f xs) ≡ list_any (λ x. p (f x)) xs
any_map p f [] = refl
any_map p f (x ∷ xs) = ap (λ (b : Bool). p (f x) || b) (any_map p f xs)

shrinking : {K : Type 0} (tells : K → StoreView) (g : DriverInput) (d : Driver) (r : ℕ) (n : NodeView K) → IsRaised tells g d r n
    → list_any (λ path. shrinks n (file_of path)) (keys_of n.branch) ≡ list_any (λ f. script.shrinks d r (file_of f.0)) (branch d.past r)
shrinking tells g d r n raised =
    any_map (λ path. shrinks n (file_of path)) (λ f. f.0) n.branch
    ∙ (any_alike (λ f. shrinks n (file_of f.0)) (λ f. script.shrinks d r (file_of f.0)) n.branch
    (λ f. ap (λ (b : Files). nat_lt (length (compact_lines (kind_of (file_of f.0)) (lines_at b (file_path (file_of f.0))))) (length (lines_at b (file_path (file_of f.0))))) raised.entries.branch)
    ∙ ap (list_any (λ f. script.shrinks d r (file_of f.0))) raised.entries.branch)

pub compacted_nothing : {K : Type 0} (n : NodeView K) (paths : List (List ℕ)) → list_any (λ path. shrinks n (file_of path)) paths ≡ false → compact_files n paths ≡ n
compacted_nothing n [] e = refl
compacted_nothing {K} n (path ∷ paths) e =
    ap (λ (b : Bool). compact_files (compact_if n (file_of path) b) paths) (or_first (shrinks n (file_of path)) (list_any (λ path. shrinks n (file_of path)) paths) e)
    ∙ compacted_nothing n paths (or_right (shrinks n (file_of path)) (list_any (λ path. shrinks n (file_of path)) paths) e)

pub compacted : {K : Type 0} (tells : K → StoreView) (g : DriverInput) (d : Driver) (r : ℕ) (n m : NodeView K) (failed : Option Call) → IsRaised tells g d r n
    → StaysStored (tells n.keeper) (tells m.keeper) → MakesCalls (to_compact n) failed (tells n.keeper).failing (tells m.keeper).failing
    → (failed ≡ None → m ≡ over m.keeper (compact_files n (keys_of n.branch))) → ((call : Call) → failed ≡ Some call → RefusesSo refusals.StoreFault calls.PutFile n m)
    → IsRaised tells g (compacts r d) r m
compacted {K} tells g d r n m failed raised stays made well fails = go (fails_at d r calls.PutFile) refl
  where
    some : Bool
    some = list_any (λ path. shrinks n (file_of path)) (keys_of n.branch)

    which : failed ≡ (if some && fails_at d r calls.PutFile then Some calls.PutFile else None)
    which = first_of_calls d r (to_compact n) (tells n.keeper) failed (tells m.keeper).failing raised.store made ∙ write_found d r some

    left : failed ≡ None → (tells m.keeper).failing ≡ (tells n.keeper).failing
    left e = made.left ∙ (ap (λ (f : Option Call). option_map (fewer f) (tells n.keeper).failing) e ∙ none_fewer (tells n.keeper).failing)

    calm : (b : Bool) → (if b && false then Some calls.PutFile else None) ≡ None
    calm true = refl
    calm false = refl

    there : fails_at d r calls.PutFile ≡ false → IsRaised tells g (compacts r d) r (compact_files n (keys_of n.branch))
    there e =
        subst (λ (files : Files). IsRaised tells g (compacts r d) r (compact_files n (map (λ f. f.0) files))) (sym raised.entries.branch)
        (compacted_calm tells g r (branch d.past r) d n raised e)

    goes_through : fails_at d r calls.PutFile ≡ false → IsRaised tells g (compacts r d) r m
    goes_through e =
        let none : failed ≡ None = which ∙ (ap (λ (b : Bool). if some && b then Some calls.PutFile else None) e ∙ calm some) in
        subst (λ (x : NodeView K). IsRaised tells g (compacts r d) r x) (sym (well none))
        (over_store tells g (compacts r d) (compacts r d) r (compact_files n (keys_of n.branch)) m.keeper (there e)
        (same_store (compacts r d) r (tells n.keeper) (tells m.keeper) (subst (λ (k : K). IsStoreOf (compacts r d) r (tells k)) (compact_keeper n (keys_of n.branch)) (there e).store) stays (left none)) refl)

    stops : (b : Bool) → some ≡ b → fails_at d r calls.PutFile ≡ true → IsRaised tells g (if b then faults r calls.PutFile d else d) r m
    stops true e f =
        let is : failed ≡ Some calls.PutFile = which ∙ (λ i. if e i && f i then Some calls.PutFile else None) in
        fault_noted tells g d d r n m calls.PutFile (tells m.keeper) (tells n.keeper).failing raised refl (fails calls.PutFile is) refl
        (made.left ∙ ap (λ (f : Option Call). option_map (fewer f) (tells n.keeper).failing) is)
        (record { contents = rw stays.contents raised.store.contents; parts = rw stays.parts raised.store.parts; failing = raised.store.failing })
    stops false e f =
        let none : failed ≡ None = which ∙ (λ i. if e i && f i then Some calls.PutFile else None) in
        subst (λ (x : NodeView K). IsRaised tells g d r x) (sym (well none ∙ ap (over m.keeper) (compacted_nothing n (keys_of n.branch) e)))
        (over_store tells g d d r n m.keeper raised (same_store d r (tells n.keeper) (tells m.keeper) raised.store stays (left none)) refl)

    go : (b : Bool) → fails_at d r calls.PutFile ≡ b → IsRaised tells g (compacts r d) r m
    go false e = goes_through e
    go true e =
        subst (λ (x : Driver). IsRaised tells g x r m)
        (sym (compacted_failing d r (branch d.past r) e ∙ ap (λ (b : Bool). if b then faults r calls.PutFile d else d) (sym (shrinking tells g d r n raised))))
        (stops some refl e)
