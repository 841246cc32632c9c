-- A call that writes files met a full history: the driver's step comes to an entry of that node.
use Rattle.std.proofs.Common.{◌≡◌, ℕ, ◌<◌, ◌≤◌, ◌^◌, true, List, [], ◌∷◌, Some, None, Err, length, sym, ap, subst}
use Rattle.std.specs.Prelude.{IfErr, IsErrOf, slice_get}
use Rattle.std.specs.Map.{keys_of}
use Rattle.annex_base.proofs.Lists.{slice_get-within}
use Rattle.log_lines.specs.declared.entry.LogKind.{LogKind}
use Rattle.log_lines.specs.declared.entry.Topic.{Topic}
use Rattle.log_lines.specs.declared.entry.Value.{Value}
use Rattle.log_lines.specs.LineText.{line_text}
use Rattle.run_data.specs.Histories.{most_entries}
use Rattle.run_data.specs.declared.entry.LogFile.{LogFile}
use Rattle.run_data.specs.declared.entry.LogFile.TheVariants.{Of}
use Rattle.run_data.specs.declared.run.Run.{Run}
use Rattle.union_merge.specs.Branch.{Files}
use Rattle.driver_model.specs.Driver.{Driver, DriverInput}
use Rattle.driver_model.specs.Limits.{StopsAtFull}
use Rattle.driver_model.specs.ScriptSteps.{compacts, merges, sets, writes}
use Rattle.fleet_entries.specs.Calls.{MeetsFull, lacks_of, lacks_some, shrinks_at}
use Rattle.fleet_entries.specs.Logs.{stamped_by}
use Rattle.fleet_entries.specs.Nodes.{NodeView}
use Rattle.fleet_entries.specs.Refusals.{RefusesSo}
use Rattle.fleet_entries.specs.Stored.{StoreView}
use Rattle.fleet_entries.specs.Walks.{compact_files, merge_files}
use Rattle.fleet_entries.specs.Fleets.{FleetView, HasCome}
use Rattle.fleet_entries.specs.Stopping.{OthersAreFew}
use Rattle.fleet_entries.specs.Steps.{OneGoesOn, with_newest}
use Rattle.fleet_entries.specs.AtDriver.{EndsAtFull}
use Rattle.fleet_entries.specs.Telling.{AreFew}
use Rattle.annex_base.specs.declared.kinds.Call.TheVariants as calls
use Rattle.fleet_entries.specs.declared.NodeRefused.TheVariants as refusals
use Rattle.fleet_entries.proofs.Ended.{Answer}
use Rattle.fleet_entries.proofs.Called.{IsCalled, branch_stays}
use Rattle.fleet_entries.proofs.Full.{ends_at, run_stays}

-- ---- one file

-- what a call that adds these lines to a file makes of a node that meets a full history
pub record RefusesLines {K : Type 0} (file : LogFile) (lines : List (List ℕ)) (n m : NodeView K) : Type 0 where
  pub node : m ≡ record n { keeper = m.keeper }
  pub full : length n.history ≡ most_entries
  pub lacks : lacks_some n file lines ≡ true

pub refuses_lines : {K : Type 0} (done : Answer) (n m : NodeView K) (file : LogFile) (lines : List (List ℕ)) → done ≡ Err refusals.Full → IfErr done (λ e. RefusesSo e calls.PutFile n m)
    → (IsErrOf done refusals.Full → lacks_some n file lines ≡ true) → RefusesLines file lines n m
refuses_lines done n m file lines is err full =
    let so : RefusesSo refusals.Full calls.PutFile n m = subst (λ (a : Answer). IfErr a (λ e. RefusesSo e calls.PutFile n m)) is err in
    record { node = so.0; full = so.1; lacks = full is }

-- the law of a line
abbrev pub LineStops : {K : Type 0} → (K → StoreView) → Type 0
LineStops {K} tells = (g : DriverInput) (d : Driver) (r : ℕ) (n : NodeView K) (was : FleetView K) → HasCome tells g d was → slice_get was.nodes r ≡ Some n → OthersAreFew r was.nodes
    → (file : LogFile) (line : List ℕ) → length n.history ≡ most_entries → lacks_some n file (line ∷ []) ≡ true → StopsAtFull g r (writes r file line d) was.run

-- the law of a setting
abbrev pub SettingStops : {K : Type 0} → (K → StoreView) → Type 0
SettingStops {K} tells = (g : DriverInput) (d : Driver) (r : ℕ) (n : NodeView K) (was : FleetView K) → HasCome tells g d was → slice_get was.nodes r ≡ Some n → OthersAreFew r was.nodes
    → (kind : LogKind) (topic : Topic) (value : Value) → length n.history ≡ most_entries → lacks_some n (Of kind) (line_text kind (stamped_by (with_newest d n) kind None (record { topic = topic; stamp = None; value = value })) ∷ []) ≡ true → StopsAtFull g r (sets g r kind topic value d) was.run

pub writes_end : {K : Type 0} (tells : K → StoreView) (r : ℕ) (was up after : FleetView K) (file : LogFile) (line : List ℕ) → LineStops tells → r < length was.nodes
    → IsCalled tells r was up after (RefusesLines file (line ∷ [])) → AreFew after.nodes → EndsAtFull tells r (λ g d. writes r file line d) was after
writes_end {K} tells r was up after file line law there call few =
    ends_at tells (λ g d. writes r file line d) r was up after (RefusesLines file (line ∷ [])) there call few
    (λ g d come others s.
    subst (λ (run : Run). StopsAtFull g r (writes r file line d) run) (sym (run_stays s.before s.left was after s.goes.run (ap (λ (x : NodeView K). x.history) s.holds.node)))
    (law g d r s.before was come s.goes.before others file line s.holds.full s.holds.lacks))

-- the same, where the call was made of a file and a line that are these
pub writes_end_so : {K : Type 0} (tells : K → StoreView) (r : ℕ) (was up after : FleetView K) (file file' : LogFile) (line line' : List ℕ) → file' ≡ file → line' ≡ line → LineStops tells → r < length was.nodes
    → IsCalled tells r was up after (RefusesLines file' (line' ∷ [])) → AreFew after.nodes → EndsAtFull tells r (λ g d. writes r file line d) was after
writes_end_so {K} tells r was up after file file' line line' same_file same_line law there call few =
    writes_end tells r was up after file line law there
    (subst (λ (f : LogFile). IsCalled tells r was up after (RefusesLines f (line ∷ []))) same_file
    (subst (λ (l : List ℕ). IsCalled tells r was up after (RefusesLines file' (l ∷ []))) same_line call))
    few

pub sets_end : {K : Type 0} (tells : K → StoreView) (r : ℕ) (was up after : FleetView K) (kind : LogKind) (topic : Topic) (value : Value) → SettingStops tells → r < length was.nodes
    → IsCalled tells r was up after (λ n m. RefusesLines (Of kind) (line_text kind (stamped_by n kind None (record { topic = topic; stamp = None; value = value })) ∷ []) n m)
    → AreFew after.nodes → EndsAtFull tells r (λ g d. sets g r kind topic value d) was after
sets_end {K} tells r was up after kind topic value law there call few =
    ends_at tells (λ g d. sets g r kind topic value d) r was up after (λ n m. RefusesLines (Of kind) (line_text kind (stamped_by n kind None (record { topic = topic; stamp = None; value = value })) ∷ []) n m) there call few
    (λ g d come others s.
    subst (λ (run : Run). StopsAtFull g r (sets g r kind topic value d) run) (sym (run_stays s.before s.left was after s.goes.run (ap (λ (x : NodeView K). x.history) s.holds.node)))
    (law g d r s.before was come s.goes.before others kind topic value s.holds.full s.holds.lacks))

-- ---- file by file

-- the law of a merge
abbrev pub MergeStops : {K : Type 0} → (K → StoreView) → Type 0
MergeStops {K} tells = (g : DriverInput) (d : Driver) (r : ℕ) (n m : NodeView K) (was after : FleetView K) → HasCome tells g d was → OneGoesOn r n m was after → OthersAreFew r was.nodes
    → m.time ≤ 1000000000000 → m.count < 2 ^ 62 → (other : ℕ) (o : NodeView K) → slice_get was.nodes other ≡ Some o
    → MeetsFull (merge_files (with_newest d n)) lacks_of o.branch (tells n.keeper).failing (tells m.keeper).failing (with_newest d n) m → StopsAtFull g r (merges r other d) after.run

-- the law of a compaction
abbrev pub CompactStops : {K : Type 0} → (K → StoreView) → Type 0
CompactStops {K} tells = (g : DriverInput) (d : Driver) (r : ℕ) (n m : NodeView K) (was after : FleetView K) → HasCome tells g d was → OneGoesOn r n m was after → OthersAreFew r was.nodes
    → m.time ≤ 1000000000000 → m.count < 2 ^ 62
    → MeetsFull (compact_files (with_newest d n)) shrinks_at (keys_of n.branch) (tells n.keeper).failing (tells m.keeper).failing (with_newest d n) m → StopsAtFull g r (compacts r d) after.run

-- how far a merge of these files came at a node
abbrev pub MergeMeets : {K : Type 0} → (K → StoreView) → Files → NodeView K → NodeView K → Type 0
MergeMeets tells files n m = MeetsFull (merge_files n) lacks_of files (tells n.keeper).failing (tells m.keeper).failing n m

-- how far a compaction came at a node
abbrev pub CompactMeets : {K : Type 0} → (K → StoreView) → NodeView K → NodeView K → Type 0
CompactMeets tells n m = MeetsFull (compact_files n) shrinks_at (keys_of n.branch) (tells n.keeper).failing (tells m.keeper).failing n m

pub merges_end : {K : Type 0} (tells : K → StoreView) (r other : ℕ) (was up after : FleetView K) → MergeStops tells → r < length was.nodes → other < length was.nodes
    → IsCalled tells r was up after (λ n m. (o : NodeView K) → slice_get up.nodes other ≡ Some o → MergeMeets tells o.branch n m)
    → AreFew after.nodes → EndsAtFull tells r (λ g d. merges r other d) was after
merges_end {K} tells r other was up after law there there_too call few =
    ends_at tells (λ g d. merges r other d) r was up after (λ n m. (o : NodeView K) → slice_get up.nodes other ≡ Some o → MergeMeets tells o.branch n m) there call few
    (λ g d come others s.
    let found : (o : NodeView K) × (slice_get was.nodes other ≡ Some o) = slice_get-within was.nodes other there_too in
    let up_too : (p : NodeView K) × (slice_get up.nodes other ≡ Some p) × (p.branch ≡ found.0.branch) = branch_stays tells r call.had other was up found.0 call.raises found.1 in
    law g d r s.before s.left was after come s.goes others s.early s.counted other found.0 found.1
    (subst (λ (files : Files). MergeMeets tells files (with_newest d s.before) s.left) up_too.2 (s.holds up_too.0 up_too.1)))

pub compacts_end : {K : Type 0} (tells : K → StoreView) (r : ℕ) (was up after : FleetView K) → CompactStops tells → r < length was.nodes → IsCalled tells r was up after (CompactMeets tells)
    → AreFew after.nodes → EndsAtFull tells r (λ g d. compacts r d) was after
compacts_end {K} tells r was up after law there call few =
    ends_at tells (λ g d. compacts r d) r was up after (CompactMeets tells) there call few
    (λ g d come others s. law g d r s.before s.left was after come s.goes others s.early s.counted s.holds)
