-- Lines that the script adds to a file of a repository.
use Rattle.std.proofs.Common.{◌≡◌, ℕ, Bool, true, false, List, [], ◌∷◌, length, Option, Some, None, refl, sym, ap, ◌∙◌, subst}
use Rattle.std.specs.Prelude.{if◌then◌else◌, nat_lt}
use Rattle.std.specs.Option.{option_map}
use Rattle.annex_base.specs.declared.kinds.Call.{Call}
use Rattle.annex_base.specs.declared.kinds.Call.TheVariants as calls
use Rattle.object_store.specs.Calls.{one_fewer}
use Rattle.run_data.specs.declared.entry.By.TheVariants.{Script}
use Rattle.run_data.specs.declared.entry.EntryKind.{EntryKind}
use Rattle.run_data.specs.declared.entry.EntryKind.TheVariants as kinds
use Rattle.run_data.specs.declared.entry.LogFile.{LogFile}
use Rattle.run_data.specs.Files.{file_path}
use Rattle.union_merge.specs.Branch.{Files, lines_at, merged_file}
use Rattle.union_merge.specs.LineSet.{difference}
use Rattle.driver_model.specs.Driver.{Driver, DriverInput, answers, fails_at, notes}
use Rattle.driver_model.specs.ScriptSteps.{faults, logs, logs_some, unknown_lines}
use Rattle.joined_nodes.specs.Calls.{to_log, to_write}
use Rattle.joined_nodes.specs.Logs.{with_log}
use Rattle.joined_nodes.specs.Nodes.{NodeView, with_entry}
use Rattle.content_lock.specs.CallsMade.{MakesCalls, fewer}
use Rattle.fleet_model.specs.Steps.{HasLogged, StaysStored, with_newest}
use Rattle.fleet_model.specs.Stores.{IsStoreOf}
use Rattle.joined_nodes.specs.Stored.{StoreView}
use Rattle.joined_nodes.specs.Refusals.{RefusesSo}
use Rattle.node_past.specs.declared.refused.NodeRefused.TheVariants as refusals
use Rattle.fleet_model.proofs.Failing.{answered, first_fails, first_of_calls, positive}
use Rattle.fleet_model.proofs.Noting.{IsRaised, noted}

-- a store in which nothing has changed that the driver knows
pub same_store : (d : Driver) (r : ℕ) (v w : StoreView) → IsStoreOf d r v → StaysStored v w → w.failing ≡ v.failing → IsStoreOf d r w
same_store d r v w is stays failing = record { contents = rw stays.contents is.contents; parts = rw stays.parts is.parts; failing = rw failing is.failing }

-- so after one more entry
store_noted : (d : Driver) (r : ℕ) (kind : EntryKind) (lines : List (List ℕ)) (v : StoreView) → IsStoreOf d r v → IsStoreOf (notes r kind lines d) r v
store_noted d r kind lines v is = record { contents = is.contents; parts = is.parts; failing = is.failing }

pub none_fewer : (o : Option (Call → ℕ)) → option_map (fewer None) o ≡ o
none_fewer None = refl
none_fewer (Some n) = refl

-- new lines, of which the node knows that they are new
add_some : {K : Type 0} (tells : K → StoreView) (g : DriverInput) (d : Driver) (r : ℕ) (n m : NodeView K) (file : LogFile) (line : List ℕ) (lines : List (List ℕ)) (failed : Option Call)
    → IsRaised tells g d r n
    → StaysStored (tells n.keeper) (tells m.keeper) → MakesCalls (calls.PutFile ∷ []) failed (tells n.keeper).failing (tells m.keeper).failing
    → (failed ≡ None → m ≡ with_entry n m.keeper (merged_file n.branch (file_path file) (line ∷ lines)) (kinds.Log file) (line ∷ lines))
    → ((call : Call) → failed ≡ Some call → m ≡ with_entry n m.keeper n.branch (kinds.Fault call Script) [])
    → IsRaised tells g (logs r file (line ∷ lines) d) r m
add_some {K} tells g d r n m file line lines failed is stays made well fails = go (fails_at d r calls.PutFile) refl
  where
    which : failed ≡ (if fails_at d r calls.PutFile then Some calls.PutFile else None)
    which = first_fails d r calls.PutFile (tells n.keeper) failed (tells m.keeper).failing is.store made

    done : Driver
    done = notes r (kinds.Log file) (line ∷ lines) d

    go : (b : Bool) → fails_at d r calls.PutFile ≡ b → IsRaised tells g (if b then faults r calls.PutFile d else done) r m
    go false e =
        let none : failed ≡ None = which ∙ ap (λ (b : Bool). if b then Some calls.PutFile else None) e in
        let left : (tells m.keeper).failing ≡ (tells n.keeper).failing = made.left ∙ (ap (λ (f : Option Call). option_map (fewer f) (tells n.keeper).failing) none ∙ none_fewer (tells n.keeper).failing) in
        subst (λ (x : NodeView K). IsRaised tells g done r x) (sym (well none))
        (noted tells g d d r n m.keeper (merged_file n.branch (file_path file) (line ∷ lines)) (kinds.Log file) (line ∷ lines) is refl refl
        (store_noted d r (kinds.Log file) (line ∷ lines) (tells m.keeper) (same_store d r (tells n.keeper) (tells m.keeper) is.store stays left)))
    go true e =
        let some : failed ≡ Some calls.PutFile = which ∙ ap (λ (b : Bool). if b then Some calls.PutFile else None) e in
        let left : (tells m.keeper).failing ≡ option_map (one_fewer calls.PutFile) (tells n.keeper).failing = made.left ∙ ap (λ (f : Option Call). option_map (fewer f) (tells n.keeper).failing) some in
        subst (λ (x : NodeView K). IsRaised tells g (faults r calls.PutFile d) r x) (sym (fails calls.PutFile some))
        (noted tells g d (answers r calls.PutFile d) r n m.keeper n.branch (kinds.Fault calls.PutFile Script) [] is refl refl
        (store_noted (answers r calls.PutFile d) r (kinds.Fault calls.PutFile Script) [] (tells m.keeper) (answered d r calls.PutFile (tells n.keeper) (tells m.keeper) is.store stays.contents stays.parts left)))

-- these lines, of which those that the file lacks are these
log_new : {K : Type 0} (tells : K → StoreView) (g : DriverInput) (d : Driver) (r : ℕ) (n m : NodeView K) (file : LogFile) (failed : Option Call) → IsRaised tells g d r n
    → StaysStored (tells n.keeper) (tells m.keeper) → (new : List (List ℕ)) → MakesCalls (to_write (nat_lt 0 (length new))) failed (tells n.keeper).failing (tells m.keeper).failing
    → (failed ≡ None → m ≡ with_log n m.keeper file new) → ((call : Call) → failed ≡ Some call → RefusesSo refusals.StoreFault call n m) → IsRaised tells g (logs_some r file new d) r m
log_new {K} tells g d r n m file failed with_newest stays [] made well fails =
    subst (λ (x : NodeView K). IsRaised tells g d r x) (sym (well (first_of_calls d r [] (tells n.keeper) failed (tells m.keeper).failing with_newest.store made))) with_newest
log_new tells g d r n m file failed with_newest stays (line ∷ lines) made well fails =
    add_some tells g d r n m file line lines failed with_newest stays
    (subst (λ (b : Bool). MakesCalls (to_write b) failed (tells n.keeper).failing (tells m.keeper).failing) (positive (length lines)) made) well fails

pub logged : {K : Type 0} (tells : K → StoreView) (g : DriverInput) (d : Driver) (r : ℕ) (n m : NodeView K) (file : LogFile) (lines : List (List ℕ)) (failed : Option Call) → IsRaised tells g d r n
    → StaysStored (tells n.keeper) (tells m.keeper) → MakesCalls (to_log n file lines) failed (tells n.keeper).failing (tells m.keeper).failing → HasLogged file lines failed n m
    → IsRaised tells g (logs_some r file (unknown_lines d r file lines) d) r m
logged {K} tells g d r n m file lines failed with_newest stays made is =
    subst (λ (new : List (List ℕ)). IsRaised tells g (logs_some r file new d) r m) (ap (λ (b : Files). difference lines (lines_at b (file_path file))) with_newest.entries.branch)
    (log_new tells g d r n m file failed with_newest stays (difference lines (lines_at n.branch (file_path file))) made
    (λ e. subst (λ (f : Option Call). HasLogged file lines f n m) e is) (λ call e. subst (λ (f : Option Call). HasLogged file lines f n m) e is))
