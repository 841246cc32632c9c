-- A fleet whose node merged another's branch or compacted its own has come to where the driver is.
use Rattle.std.proofs.Common.{◌≡◌, ℕ, ◌<◌, ◌≤◌, ◌^◌, Bool, true, false, List, [], ◌∷◌, Option, Some, None, refl, ap, ◌∙◌, subst}
use Rattle.std.specs.Prelude.{slice_get}
use Rattle.std.specs.Map.{keys_of}
use Rattle.annex_base.specs.declared.kinds.Call.{Call}
use Rattle.annex_base.specs.declared.kinds.Call.TheVariants as calls
use Rattle.run_data.specs.Files.{file_of, file_path}
use Rattle.union_merge.specs.Branch.{Files, lines_at}
use Rattle.union_merge.specs.LineSet.{difference}
use Rattle.driver_model.specs.Driver.{Driver, DriverInput}
use Rattle.driver_model.specs.ScriptSteps.{compacts, merges, merges_files}
use Rattle.driver_model.specs.Sound.{StaysSound}
use Rattle.content_lock.specs.CallsMade.{MakesCalls}
use Rattle.joined_nodes.specs.Calls.{shrinks, to_compact, to_merge}
use Rattle.joined_nodes.specs.Nodes.{NodeView}
use Rattle.joined_nodes.specs.Refusals.{RefusesSo}
use Rattle.joined_nodes.specs.Stored.{StoreView}
use Rattle.joined_nodes.specs.Walks.{compact_file, compact_files, merge_file, merge_files, over}
use Rattle.node_past.specs.declared.refused.NodeRefused.TheVariants as refusals
use Rattle.fleet_model.specs.Fleets.{FleetView, HasCome}
use Rattle.fleet_model.specs.Steps.{OneGoesOn, StaysStored, with_newest}
use Rattle.fleet_model.proofs.Directs.{comes_directly, log_parts}
use Rattle.fleet_model.proofs.Hearing.{WordLaws}
use Rattle.fleet_model.proofs.Noting.{IsRaised}
use Rattle.fleet_model.proofs.Raising.{raised_is}
use Rattle.fleet_model.proofs.ScriptGoing.{goes_compacts, goes_merges}
use Rattle.fleet_model.proofs.Walked.{compacted, merged}
use Rattle.fleet_model.proofs.Walking.{compact_if}

-- ---- walks leave rows, ends, sessions and jobs

merge_parts : {K : Type 0} (n : NodeView K) (files : Files) → (merge_files n files).parts ≡ n.parts
merge_parts n [] = refl
merge_parts n (f ∷ files) = merge_parts (merge_file n f) files ∙ log_parts n n.keeper (file_of f.0) (difference f.1 (lines_at n.branch (file_path (file_of f.0))))

compact_if_parts : {K : Type 0} (n : NodeView K) (path : List ℕ) (b : Bool) → (compact_if n (file_of path) b).parts ≡ n.parts
compact_if_parts n path true = refl
compact_if_parts n path false = refl

compact_parts : {K : Type 0} (n : NodeView K) (paths : List (List ℕ)) → (compact_files n paths).parts ≡ n.parts
compact_parts n [] = refl
compact_parts n (path ∷ paths) = compact_parts (compact_file n (file_of path)) paths ∙ compact_if_parts n path (shrinks n (file_of path))

walked_parts : {K : Type 0} (n m whole : NodeView K) (failed : Option Call) → whole.parts ≡ n.parts → (failed ≡ None → m ≡ over m.keeper whole)
    → ((call : Call) → failed ≡ Some call → RefusesSo refusals.StoreFault calls.PutFile n m) → m.parts ≡ n.parts
walked_parts n m whole None same well fails = ap (λ (x : NodeView _). x.parts) (well refl) ∙ same
walked_parts n m whole (Some call) same well fails = ap (λ (x : NodeView _). x.parts) (fails call refl)

-- ---- merged

pub merge_comes : {K : Type 0} → WordLaws → (tells : K → StoreView) (g : DriverInput) (d : Driver) (r other : ℕ) (n m o : NodeView K) (was after : FleetView K) (failed : Option Call)
    → HasCome tells g d was → OneGoesOn r n m was after → slice_get was.nodes other ≡ Some o → StaysStored (tells n.keeper) (tells m.keeper)
    → MakesCalls (to_merge n o.branch) failed (tells n.keeper).failing (tells m.keeper).failing
    → (failed ≡ None → m ≡ over m.keeper (merge_files (with_newest d n) o.branch)) → ((call : Call) → failed ≡ Some call → RefusesSo refusals.StoreFault calls.PutFile (with_newest d n) m)
    → m.time ≤ 1000000000000 → m.count < 2 ^ 62 → StaysSound g d (merges r other d) → HasCome tells g (merges r other d) after
merge_comes {K} laws tells g d r other n m o was after failed h step there stays made well fails early few sound =
    comes_directly laws tells g d (merges r other d) r n m was after h step (goes_merges r other d)
    (subst (λ (files : Files). IsRaised tells g (merges_files r files d) r m) (h.each other o there).branch
    (merged tells g d r (with_newest d n) m o.branch failed (raised_is tells g d r n (h.each r n step.before)) stays made well fails))
    (walked_parts (with_newest d n) m (merge_files (with_newest d n) o.branch) failed (merge_parts (with_newest d n) o.branch) well fails) early few sound

-- ---- compacted

pub compact_comes : {K : Type 0} → WordLaws → (tells : K → StoreView) (g : DriverInput) (d : Driver) (r : ℕ) (n m : NodeView K) (was after : FleetView K) (failed : Option Call)
    → HasCome tells g d was → OneGoesOn r n m was after → StaysStored (tells n.keeper) (tells m.keeper)
    → MakesCalls (to_compact n) failed (tells n.keeper).failing (tells m.keeper).failing
    → (failed ≡ None → m ≡ over m.keeper (compact_files (with_newest d n) (keys_of n.branch))) → ((call : Call) → failed ≡ Some call → RefusesSo refusals.StoreFault calls.PutFile (with_newest d n) m)
    → m.time ≤ 1000000000000 → m.count < 2 ^ 62 → StaysSound g d (compacts r d) → HasCome tells g (compacts r d) after
compact_comes {K} laws tells g d r n m was after failed h step stays made well fails early few sound =
    comes_directly laws tells g d (compacts r d) r n m was after h step (goes_compacts r d)
    (compacted tells g d r (with_newest d n) m failed (raised_is tells g d r n (h.each r n step.before)) stays made well fails)
    (walked_parts (with_newest d n) m (compact_files (with_newest d n) (keys_of n.branch)) failed (compact_parts (with_newest d n) (keys_of n.branch)) well fails) early few sound
