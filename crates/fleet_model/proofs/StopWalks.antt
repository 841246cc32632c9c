-- A fleet whose node's history is full within a merge or a compaction stops where the driver's own walk comes to the next file.
use Rattle.std.proofs.Common.{◌≡◌, ℕ, ◌<◌, ◌≤◌, ◌^◌, Bool, true, false, List, [], ◌∷◌, ◌++◌, map, length, Option, Some, None, refl, sym, ap, ◌∙◌, subst}
use Rattle.std.specs.Prelude.{◌&&◌, ◌||◌, find, if◌then◌else◌, nat_lt, not, slice_get}
use Rattle.std.specs.List.{list_any}
use Rattle.std.specs.Map.{keys_of}
use Rattle.std.proofs.lemmas.Bool.{and_right, not-true, not_from_false}
use Rattle.std.proofs.lemmas.Option.{none-some}
use Rattle.annex_base.proofs.Lists.{cons_first, cons_nil, cons_rest}
use Rattle.annex_base.specs.declared.kinds.Call.{Call}
use Rattle.annex_base.specs.declared.kinds.Call.TheVariants as calls
use Rattle.run_data.specs.Files.{file_of, file_path, kind_of}
use Rattle.run_data.specs.declared.entry.EntryKind.TheVariants as kinds
use Rattle.run_model.specs.Logs.{branch}
use Rattle.union_merge.specs.Branch.{Files, lines_at}
use Rattle.union_merge.specs.LineSet.{difference}
use Rattle.content_lock.specs.CallsMade.{MakesCalls}
use Rattle.node_model.specs.Files.{compact_lines}
use Rattle.driver_model.specs.Driver.{Driver, DriverInput, fails_at, notes}
use Rattle.driver_model.specs.Limits.{StopsAtFull}
use Rattle.driver_model.specs.ScriptSteps as script
use Rattle.driver_model.specs.ScriptSteps.{compacts, compacts_files, faults, is_nil, merges, merges_files, news}
use Rattle.joined_nodes.specs.Calls.{MeetsFull, lacks_of, shrinks_at, to_write}
use Rattle.joined_nodes.specs.Nodes.{NodeView}
use Rattle.joined_nodes.specs.Stored.{StoreView}
use Rattle.joined_nodes.specs.Walks.{compact_files, merge_files, over}
use Rattle.fleet_model.specs.Fleets.{FleetView, HasCome}
use Rattle.fleet_model.specs.Steps.{OneGoesOn, with_newest}
use Rattle.fleet_model.specs.Stopping.{OthersAreFew}
use Rattle.fleet_model.specs.Stores.{IsStoreOf}
use Rattle.fleet_model.proofs.Failing.{first_of_calls}
use Rattle.fleet_model.proofs.Logging.{none_fewer}
use Rattle.fleet_model.proofs.Noting.{HasEntriesOf, IsRaised}
use Rattle.fleet_model.proofs.Raising.{raised_is}
use Rattle.fleet_model.proofs.StopLaws.{StopLaws}
use Rattle.fleet_model.proofs.StopPasts.{ComesTo, comes_failing, comes_if, comes_noting, comes_then, is_known, stops_there}
use Rattle.fleet_model.proofs.Walked.{any_map, compacted_nothing, merged, some_left}
use Rattle.fleet_model.proofs.Walking.{compacted_calm, compacted_failing}
use Rattle.fleet_model.proofs.ScriptGoing.{goes_merges_files, goes_compacts_files}

-- ---- files that are to be written

-- none is to be written, or the write is not to fail
rest_calm : (a b c : Bool) → ((a || b) && c) ≡ false → (b && c) ≡ false
rest_calm false b c e = e
rest_calm true false c e = refl
rest_calm true true c e = e

call_calm : (a b c : Bool) → a ≡ true → ((a || b) && c) ≡ false → c ≡ false
call_calm true b c is e = e
call_calm false b c is e = absurd (cc)

-- so it is where the calls went well
walk_is_calm : (d : Driver) (r : ℕ) (some : Bool) (v : StoreView) (after : Option (Call → ℕ)) → IsStoreOf d r v → MakesCalls (to_write some) None v.failing after → (some && fails_at d r calls.PutFile) ≡ false
walk_is_calm d r some v after is made = go some (fails_at d r calls.PutFile) refl (first_of_calls d r (to_write some) v None after is made)
  where
    never : None ≡ Some calls.PutFile → ⊥
    never e = cc

    go : (a b : Bool) → fails_at d r calls.PutFile ≡ b → None ≡ find (fails_at d r) (to_write a) → (a && b) ≡ false
    go false b e none = refl
    go true false e none = refl
    go true true e none = absurd (never (none ∙ ap (λ (b : Bool). if b then Some calls.PutFile else None) e))

-- ---- the driver's walk, cut in two

abbrev has_news : Driver → ℕ → List ℕ × List (List ℕ) → Bool
has_news d r f = not (is_nil (news d r f.0 f.1))

merges_cut : (r : ℕ) (done rest : Files) (d : Driver) → (list_any (has_news d r) done && fails_at d r calls.PutFile) ≡ false → merges_files r (done ++ rest) d ≡ merges_files r rest (merges_files r done d)
merges_cut r [] rest d calm = refl
merges_cut r (f ∷ done) rest d calm = go (merges_cut r done rest) (is_nil (news d r f.0 f.1)) refl
  where
    go : ((d : Driver) → (list_any (has_news d r) done && fails_at d r calls.PutFile) ≡ false → merges_files r (done ++ rest) d ≡ merges_files r rest (merges_files r done d))
        → (b : Bool) → is_nil (news d r f.0 f.1) ≡ b → merges_files r ((f ∷ done) ++ rest) d ≡ merges_files r rest (merges_files r (f ∷ done) d)
    go more true e = rw e (more d (rest_calm (has_news d r f) (list_any (has_news d r) done) (fails_at d r calls.PutFile) calm))
    go more false e =
        let written : Driver = notes r (kinds.Log (file_of f.0)) (news d r f.0 f.1) d in
        let well : fails_at d r calls.PutFile ≡ false = call_calm (has_news d r f) (list_any (has_news d r) done) (fails_at d r calls.PutFile) (not_from_false (is_nil (news d r f.0 f.1)) e) calm in
        rw e (rw well (more written (and_right (list_any (has_news written r) done) (fails_at d r calls.PutFile) well)))

compacts_cut : (r : ℕ) (done rest : Files) (d : Driver) → (list_any (λ f. script.shrinks d r (file_of f.0)) done && fails_at d r calls.PutFile) ≡ false
    → compacts_files r (done ++ rest) d ≡ compacts_files r rest (compacts_files r done d)
compacts_cut r [] rest d calm = refl
compacts_cut r (f ∷ done) rest d calm = go (compacts_cut r done rest) (script.shrinks d r (file_of f.0)) refl
  where
    go : ((d : Driver) → (list_any (λ f. script.shrinks d r (file_of f.0)) done && fails_at d r calls.PutFile) ≡ false → compacts_files r (done ++ rest) d ≡ compacts_files r rest (compacts_files r done d))
        → (b : Bool) → script.shrinks d r (file_of f.0) ≡ b → compacts_files r ((f ∷ done) ++ rest) d ≡ compacts_files r rest (compacts_files r (f ∷ done) d)
    go more false e = rw e (more d (rest_calm (script.shrinks d r (file_of f.0)) (list_any (λ f. script.shrinks d r (file_of f.0)) done) (fails_at d r calls.PutFile) calm))
    go more true e =
        let written : Driver = notes r (kinds.Compact (file_of f.0)) [] d in
        let well : fails_at d r calls.PutFile ≡ false = call_calm (script.shrinks d r (file_of f.0)) (list_any (λ f. script.shrinks d r (file_of f.0)) done) (fails_at d r calls.PutFile) e calm in
        rw e (rw well (more written (and_right (list_any (λ f. script.shrinks written r (file_of f.0)) done) (fails_at d r calls.PutFile) well)))

-- ---- the next file

comes_merging : StopLaws → (r : ℕ) (f : List ℕ × List (List ℕ)) (left : Files) (d : Driver) → has_news d r f ≡ true → ComesTo r d (merges_files r (f ∷ left) d)
comes_merging laws r f left d some =
    let written : Driver = notes r (kinds.Log (file_of f.0)) (news d r f.0 f.1) d in
    rw (not-true (is_nil (news d r f.0 f.1)) some)
    (comes_if r (fails_at d r calls.PutFile) d (faults r calls.PutFile d) (merges_files r left written) (comes_failing r calls.PutFile d)
    (comes_then r d written (merges_files r left written) (comes_noting r (kinds.Log (file_of f.0)) (news d r f.0 f.1) d) (laws.merges_add r left written)))

comes_compacting : StopLaws → (r : ℕ) (f : List ℕ × List (List ℕ)) (left : Files) (d : Driver) → script.shrinks d r (file_of f.0) ≡ true → ComesTo r d (compacts_files r (f ∷ left) d)
comes_compacting laws r f left d some =
    let written : Driver = notes r (kinds.Compact (file_of f.0)) [] d in
    rw some
    (comes_if r (fails_at d r calls.PutFile) d (faults r calls.PutFile d) (compacts_files r left written) (comes_failing r calls.PutFile d)
    (comes_then r d written (compacts_files r left written) (comes_noting r (kinds.Compact (file_of f.0)) [] d) (laws.compacts_add r left written)))

-- ---- the node's walk

-- the entries of a node are the same over another store
entries_over : {K : Type 0} (g : DriverInput) (d : Driver) (r : ℕ) (n m : NodeView K) → HasEntriesOf g d r n → m ≡ over m.keeper n → HasEntriesOf g d r m
entries_over {K} g d r n m is node =
    subst (HasEntriesOf g d r) (sym node)
    (record {
      setup = record { number = is.setup.number; ids = is.setup.ids; offset = is.setup.offset; version = is.setup.version; locks = is.setup.locks };
      history = is.history;
      branch = is.branch;
      time = is.time;
      count = is.count;
    })

lacking_alike : {K : Type 0} (g : DriverInput) (d : Driver) (r : ℕ) (n : NodeView K) (f : List ℕ × List (List ℕ)) → HasEntriesOf g d r n → lacks_of n f ≡ has_news d r f
lacking_alike g d r n f is =
    some_left (difference f.1 (lines_at n.branch (file_path (file_of f.0)))) ∙ ap (λ (b : Files). not (is_nil (difference f.1 (lines_at b (file_path (file_of f.0)))))) is.branch

shrinking_alike : {K : Type 0} (g : DriverInput) (d : Driver) (r : ℕ) (n : NodeView K) (path : List ℕ) → HasEntriesOf g d r n → shrinks_at n path ≡ script.shrinks d r (file_of path)
shrinking_alike g d r n path is =
    ap (λ (b : Files). nat_lt (length (compact_lines (kind_of (file_of path)) (lines_at b (file_path (file_of path))))) (length (lines_at b (file_path (file_of path))))) is.branch

-- the front of a merge, over the store that was there before
merged_front : {K : Type 0} (tells : K → StoreView) (g : DriverInput) (d : Driver) (r : ℕ) (n : NodeView K) (done : Files) (after : Option (Call → ℕ)) → IsRaised tells g d r n
    → MakesCalls (to_write (list_any (lacks_of n) done)) None (tells n.keeper).failing after → HasEntriesOf g (merges_files r done d) r (over n.keeper (merge_files n done))
merged_front {K} tells g d r n done after with_newest made =
    (merged tells g d r n (over n.keeper (merge_files n done)) done None with_newest (record { contents = refl; parts = refl })
    (record { first = made.first; left = sym (none_fewer (tells n.keeper).failing) }) (λ e. refl) (λ call e. absurd (none-some call e))).entries

compacted_front : {K : Type 0} (tells : K → StoreView) (g : DriverInput) (d : Driver) (r : ℕ) (n : NodeView K) (done : Files) → IsRaised tells g d r n
    → (list_any (shrinks_at n) (map (λ f. f.0) done) && fails_at d r calls.PutFile) ≡ false → IsRaised tells g (compacts_files r done d) r (compact_files n (map (λ f. f.0) done))
compacted_front {K} tells g d r n done with_newest calm = go (fails_at d r calls.PutFile) refl
  where
    some : Bool
    some = list_any (shrinks_at n) (map (λ f. f.0) done)

    none : (b : Bool) → (b && true) ≡ false → b ≡ false
    none false e = refl
    none true e = e

    alike : some ≡ list_any (λ f. script.shrinks d r (file_of f.0)) done
    alike = any_map (shrinks_at n) (λ f. f.0) done ∙ (λ i. list_any (λ f. shrinking_alike g d r n f.0 with_newest.entries i) done)

    go : (b : Bool) → fails_at d r calls.PutFile ≡ b → IsRaised tells g (compacts_files r done d) r (compact_files n (map (λ f. f.0) done))
    go false e = compacted_calm tells g r done d n with_newest e
    go true e =
        let nothing : some ≡ false = none some (ap (λ (b : Bool). some && b) (sym e) ∙ calm) in
        subst (λ (x : Driver). IsRaised tells g x r (compact_files n (map (λ f. f.0) done)))
        (sym (compacted_failing d r done e ∙ ap (λ (b : Bool). if b then faults r calls.PutFile d else d) (sym alike ∙ nothing)))
        (subst (λ (x : NodeView K). IsRaised tells g d r x) (sym (compacted_nothing n (map (λ f. f.0) done) nothing)) with_newest)

-- ---- merges

pub merge_stops : {K : Type 0} → StopLaws → (tells : K → StoreView) (g : DriverInput) (d : Driver) (r : ℕ) (n m : NodeView K) (was after : FleetView K) → HasCome tells g d was → OneGoesOn r n m was after → OthersAreFew r was.nodes
    → m.time ≤ 1000000000000 → m.count < 2 ^ 62 → (other : ℕ) (o : NodeView K) → slice_get was.nodes other ≡ Some o
    → MeetsFull (merge_files (with_newest d n)) lacks_of o.branch (tells n.keeper).failing (tells m.keeper).failing (with_newest d n) m → StopsAtFull g r (merges r other d) after.run
merge_stops {K} laws tells g d r n m was after h step few early counted other o there met =
    subst (λ (x : Driver). StopsAtFull g r x after.run) (sym cut)
    (stops_there tells g d mid (merges_files r (met.next ∷ met.left) mid) r n m was after h step few (goes_merges_files r met.done d).on entries met.full early counted
    (laws.merges_start g r other met.done (met.next ∷ met.left) d (is_known tells g d r n was h step.before) whole)
    (comes_merging laws r met.next met.left mid (sym (lacking_alike g mid r m met.next entries) ∙ met.writes)))
  where
    mid : Driver
    mid = merges_files r met.done d

    own : IsRaised tells g d r (with_newest d n)
    own = raised_is tells g d r n (h.each r n step.before)

    whole : branch d.past other ≡ met.done ++ met.next ∷ met.left
    whole = sym (h.each other o there).branch ∙ met.whole

    alike : list_any (lacks_of (with_newest d n)) met.done ≡ list_any (has_news d r) met.done
    alike = λ i. list_any (λ f. lacking_alike g d r (with_newest d n) f own.entries i) met.done

    calm : (list_any (has_news d r) met.done && fails_at d r calls.PutFile) ≡ false
    calm = subst (λ (b : Bool). (b && fails_at d r calls.PutFile) ≡ false) alike
        (walk_is_calm d r (list_any (lacks_of (with_newest d n)) met.done) (tells n.keeper) (tells m.keeper).failing own.store met.calls)

    cut : merges r other d ≡ merges_files r (met.next ∷ met.left) mid
    cut = ap (λ (files : Files). merges_files r files d) whole ∙ merges_cut r met.done (met.next ∷ met.left) d calm

    entries : HasEntriesOf g mid r m
    entries = entries_over g mid r (over n.keeper (merge_files (with_newest d n) met.done)) m (merged_front tells g d r (with_newest d n) met.done (tells m.keeper).failing own met.calls) met.node

-- ---- compactions

-- where the keys of a branch are cut, so are its files
record CutAt (files : Files) (done : List (List ℕ)) (next : List ℕ) : Type 0 where
  front : Files
  file : List ℕ × List (List ℕ)
  rest : Files
  whole : files ≡ front ++ file ∷ rest
  keys : map (λ (f : List ℕ × List (List ℕ)). f.0) front ≡ done
  key : file.0 ≡ next

cut_at : (files : Files) (done : List (List ℕ)) (next : List ℕ) (left : List (List ℕ)) → map (λ (f : List ℕ × List (List ℕ)). f.0) files ≡ done ++ next ∷ left → CutAt files done next
cut_at [] [] next left e = absurd (cons_nil next left (sym e))
cut_at [] (path ∷ done) next left e = absurd (cons_nil path (done ++ next ∷ left) (sym e))
cut_at (f ∷ files) [] next left e = record { front = []; file = f; rest = files; whole = refl; keys = refl; key = cons_first f.0 next (map (λ f. f.0) files) left e }
cut_at (f ∷ files) (path ∷ done) next left e =
    let more = cut_at files done next left (cons_rest f.0 path (map (λ f. f.0) files) (done ++ next ∷ left) e) in
    let first : f.0 ≡ path = cons_first f.0 path (map (λ f. f.0) files) (done ++ next ∷ left) e in
    record { front = f ∷ more.front; file = more.file; rest = more.rest; whole = ap (λ (xs : Files). f ∷ xs) more.whole; keys = λ i. first i ∷ more.keys i; key = more.key }

pub compact_stops : {K : Type 0} → StopLaws → (tells : K → StoreView) (g : DriverInput) (d : Driver) (r : ℕ) (n m : NodeView K) (was after : FleetView K) → HasCome tells g d was → OneGoesOn r n m was after → OthersAreFew r was.nodes
    → m.time ≤ 1000000000000 → m.count < 2 ^ 62
    → MeetsFull (compact_files (with_newest d n)) shrinks_at (keys_of n.branch) (tells n.keeper).failing (tells m.keeper).failing (with_newest d n) m → StopsAtFull g r (compacts r d) after.run
compact_stops {K} laws tells g d r n m was after h step few early counted met =
    subst (λ (x : Driver). StopsAtFull g r x after.run) (sym cut)
    (stops_there tells g d mid (compacts_files r (at.file ∷ at.rest) mid) r n m was after h step few (goes_compacts_files r at.front d).on entries met.full early counted
    (laws.compacts_start g r at.front (at.file ∷ at.rest) d (is_known tells g d r n was h step.before) whole)
    (comes_compacting laws r at.file at.rest mid (sym (shrinking_alike g mid r m at.file.0 entries) ∙ (ap (shrinks_at m) at.key ∙ met.writes))))
  where
    own : IsRaised tells g d r (with_newest d n)
    own = raised_is tells g d r n (h.each r n step.before)

    at : CutAt n.branch met.done met.next
    at = cut_at n.branch met.done met.next met.left met.whole

    mid : Driver
    mid = compacts_files r at.front d

    whole : branch d.past r ≡ at.front ++ at.file ∷ at.rest
    whole = sym own.entries.branch ∙ at.whole

    node_calm : (list_any (shrinks_at (with_newest d n)) (map (λ f. f.0) at.front) && fails_at d r calls.PutFile) ≡ false
    node_calm = subst (λ (paths : List (List ℕ)). (list_any (shrinks_at (with_newest d n)) paths && fails_at d r calls.PutFile) ≡ false) (sym at.keys)
        (walk_is_calm d r (list_any (shrinks_at (with_newest d n)) met.done) (tells n.keeper) (tells m.keeper).failing own.store met.calls)

    alike : list_any (shrinks_at (with_newest d n)) (map (λ f. f.0) at.front) ≡ list_any (λ f. script.shrinks d r (file_of f.0)) at.front
    alike = any_map (shrinks_at (with_newest d n)) (λ f. f.0) at.front ∙ (λ i. list_any (λ f. shrinking_alike g d r (with_newest d n) f.0 own.entries i) at.front)

    calm : (list_any (λ f. script.shrinks d r (file_of f.0)) at.front && fails_at d r calls.PutFile) ≡ false
    calm = subst (λ (b : Bool). (b && fails_at d r calls.PutFile) ≡ false) alike node_calm

    cut : compacts r d ≡ compacts_files r (at.file ∷ at.rest) mid
    cut = ap (λ (files : Files). compacts_files r files d) whole ∙ compacts_cut r at.front (at.file ∷ at.rest) d calm

    entries : HasEntriesOf g mid r m
    entries = entries_over g mid r (compact_files (with_newest d n) (map (λ f. f.0) at.front)) m (compacted_front tells g d r (with_newest d n) at.front own node_calm).entries
        (met.node ∙ ap (λ (paths : List (List ℕ)). over m.keeper (compact_files (with_newest d n) paths)) (sym at.keys))
