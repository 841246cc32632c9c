-- Lines that a node writes into its logs: a fleet goes on as the driver does.
use Rattle.std.proofs.Common.{◌≡◌, ℕ, ◌<◌, ◌≤◌, ◌^◌, List, [], ◌∷◌, Option, Some, None, inl, inr, refl, subst}
use Rattle.std.specs.Prelude.{IfErr, IsErrOf, OnOk, slice_get, length}
use Rattle.std.specs.Map.{keys_of}
use Rattle.std.specs.Option.{ForSome}
use Rattle.std.proofs.lemmas.Option.{same_Some}
use Rattle.annex_base.specs.declared.kinds.Call.{Call}
use Rattle.annex_base.proofs.Lists.{slice_get-within}
use Rattle.log_lines.specs.declared.entry.LogKind.{LogKind}
use Rattle.log_lines.specs.declared.entry.Topic.{Topic}
use Rattle.log_lines.specs.declared.entry.Value.{Value}
use Rattle.log_lines.specs.LineText.{line_text}
use Rattle.run_data.specs.declared.entry.LogFile.{LogFile}
use Rattle.run_data.specs.declared.entry.LogFile.TheVariants.{Of}
use Rattle.driver_model.specs.Driver.{Driver, DriverInput}
use Rattle.driver_model.specs.Scripts.{IsKnown}
use Rattle.driver_model.specs.ScriptSteps.{compacts, merges, sets, writes}
use Rattle.driver_model.specs.Sound.{StaysSound}
use Rattle.content_lock.specs.CallsMade.{MakesCalls}
use Rattle.fleet_entries.specs.Calls.{Makes, to_compact, to_log, to_merge}
use Rattle.fleet_entries.specs.Logs.{stamped_by, with_lines}
use Rattle.fleet_entries.specs.Nodes.{NodeView}
use Rattle.fleet_entries.specs.Refusals.{RefusesSo}
use Rattle.fleet_entries.specs.Stored.{StoreView}
use Rattle.fleet_entries.specs.Walks.{compact_files, merge_files, over}
use Rattle.fleet_entries.specs.Fleets.{FleetView, HasCome}
use Rattle.fleet_entries.specs.Steps.{HasLogged, OneGoesOn, StaysStored, with_newest}
use Rattle.fleet_entries.specs.Stores.{IsTold}
use Rattle.fleet_entries.specs.AtDriver.{GoesOn}
use Rattle.annex_base.specs.declared.kinds.Call.TheVariants as calls
use Rattle.fleet_entries.specs.declared.NodeRefused.TheVariants as refusals
use Rattle.fleet_entries.proofs.Ended.{Answer, IsEnded}
use Rattle.fleet_entries.proofs.Called.{IsCalled, branch_stays, goes_on}

-- What a call of a node that makes these calls of its store makes of it, where it answers so: all that is done, or else a refusal.
pub record WritesFiles {K : Type 0} (tells : K → StoreView) (made : NodeView K → List Call) (Done : NodeView K → NodeView K → Type 0) (done : Answer) (n m : NodeView K) : Type 0 where
  pub ok : OnOk done (Done n m)
  pub fault : IsErrOf done refusals.StoreFault → ForSome (tells n.keeper).failing (λ failing. RefusesSo refusals.StoreFault calls.PutFile n m)
  pub contents : (tells m.keeper).contents ≡ (tells n.keeper).contents
  pub parts : (tells m.keeper).parts ≡ (tells n.keeper).parts
  pub calls : Makes (made n) calls.PutFile done (tells n.keeper).failing (tells m.keeper).failing

-- the refusal of a call that writes one file
pub one_fault : {K : Type 0} (known : Option (Call → ℕ)) (done : Answer) (n m : NodeView K) → IfErr done (λ e. RefusesSo e calls.PutFile n m)
    → IsErrOf done refusals.StoreFault → ForSome known (λ failing. RefusesSo refusals.StoreFault calls.PutFile n m)
one_fault known done n m refuses e failing is = subst (λ (d : Answer). IfErr d (λ e. RefusesSo e calls.PutFile n m)) e refuses

-- the same, as the laws of lines have it
pub record Wrote {K : Type 0} (tells : K → StoreView) (made : List Call) (Done : Type 0) (n m : NodeView K) : Type 0 where
  pub failed : Option Call
  pub stored : StaysStored (tells n.keeper) (tells m.keeper)
  pub asked : MakesCalls made failed (tells n.keeper).failing (tells m.keeper).failing
  pub done : failed ≡ None → Done
  pub refused : (call : Call) → failed ≡ Some call → RefusesSo refusals.StoreFault call n m
  pub fault : (call : Call) → failed ≡ Some call → RefusesSo refusals.StoreFault calls.PutFile n m

told : {X : Type 0} (o : Option X) (P : X → Type 0) (Q : Type 0) → IsTold o P → ForSome o (λ x. Q) → Q
told None P Q t q = absurd t
told (Some x) P Q t q = q x refl

pub wrote : {K : Type 0} (tells : K → StoreView) (made : NodeView K → List Call) (Done : NodeView K → NodeView K → Type 0) (done : Answer) (n m : NodeView K) (P : (Call → ℕ) → Type 0) → IsTold (tells n.keeper).failing P
    → IsEnded done → WritesFiles tells made Done done n m → Wrote tells (made n) (Done n m) n m
wrote tells made Done done n m P is_told (inl e) w = record {
  failed = None;
  stored = record { contents = w.contents; parts = w.parts };
  asked = subst (λ (d : Answer). Makes (made n) calls.PutFile d (tells n.keeper).failing (tells m.keeper).failing) e w.calls;
  done = λ none. subst (λ (d : Answer). OnOk d (Done n m)) e w.ok;
  refused = λ call some. absurd (cc);
  fault = λ call some. absurd (cc);
}
wrote tells made Done done n m P is_told (inr e) w = record {
  failed = Some calls.PutFile;
  stored = record { contents = w.contents; parts = w.parts };
  asked = subst (λ (d : Answer). Makes (made n) calls.PutFile d (tells n.keeper).failing (tells m.keeper).failing) e w.calls;
  done = λ none. absurd (cc);
  refused = λ call some. subst (λ (c : Call). RefusesSo refusals.StoreFault c n m) (same_Some calls.PutFile call some) (told (tells n.keeper).failing P (RefusesSo refusals.StoreFault calls.PutFile n m) is_told (w.fault e));
  fault = λ call some. told (tells n.keeper).failing P (RefusesSo refusals.StoreFault calls.PutFile n m) is_told (w.fault e);
}

-- ---- one file

-- the law of a line that is written
abbrev pub LineLaw : {K : Type 0} → (K → StoreView) → Type 0
LineLaw {K} tells = (g : DriverInput) (d : Driver) (r : ℕ) (n m : NodeView K) (was after : FleetView K) (file : LogFile) (line : List ℕ) (failed : Option Call)
    → HasCome tells g d was → OneGoesOn r n m was after → StaysStored (tells n.keeper) (tells m.keeper)
    → MakesCalls (to_log n file (line ∷ [])) failed (tells n.keeper).failing (tells m.keeper).failing → HasLogged file (line ∷ []) failed (with_newest d n) m
    → m.time ≤ 1000000000000 → m.count < 2 ^ 62 → StaysSound g d (writes r file line d) → HasCome tells g (writes r file line d) after

-- the law of a setting
abbrev pub SettingLaw : {K : Type 0} → (K → StoreView) → Type 0
SettingLaw {K} tells = (g : DriverInput) (d : Driver) (r : ℕ) (n m : NodeView K) (was after : FleetView K) (kind : LogKind) (topic : Topic) (value : Value) (failed : Option Call)
    → HasCome tells g d was → OneGoesOn r n m was after → StaysStored (tells n.keeper) (tells m.keeper)
    → MakesCalls (to_log n (Of kind) (line_text kind (stamped_by (with_newest d n) kind None (record { topic = topic; stamp = None; value = value })) ∷ [])) failed (tells n.keeper).failing (tells m.keeper).failing
    → HasLogged (Of kind) (line_text kind (stamped_by (with_newest d n) kind None (record { topic = topic; stamp = None; value = value })) ∷ []) failed (with_newest d n) m
    → m.time ≤ 1000000000000 → m.count < 2 ^ 62 → StaysSound g d (sets g r kind topic value d) → HasCome tells g (sets g r kind topic value d) after

-- the lines stand, or the call failed
has_logged : {K : Type 0} (file : LogFile) (lines : List (List ℕ)) (failed : Option Call) (n m : NodeView K) → (failed ≡ None → m ≡ with_lines n m.keeper file lines)
    → ((call : Call) → failed ≡ Some call → RefusesSo refusals.StoreFault call n m) → HasLogged file lines failed n m
has_logged file lines None n m done refused = done refl
has_logged file lines (Some call) n m done refused = refused call refl

pub writes_go : {K : Type 0} (tells : K → StoreView) (r : ℕ) (was up after : FleetView K) (file : LogFile) (line : List ℕ) (done : Answer) → LineLaw tells → r < length was.nodes
    → IsCalled tells r was up after (WritesFiles tells (λ n. to_log n file (line ∷ [])) (λ n m. m ≡ with_lines n m.keeper file (line ∷ [])) done)
    → IsEnded done → ((g : DriverInput) (d : Driver) → IsKnown g r → StaysSound g d (writes r file line d)) → GoesOn tells (λ g d. writes r file line d) was after
writes_go {K} tells r was up after file line done law there call ended sound =
    goes_on tells (λ g d. writes r file line d) r was up after (WritesFiles tells (λ n. to_log n file (line ∷ [])) (λ n m. m ≡ with_lines n m.keeper file (line ∷ [])) done) there call
    (λ g d come known s.
    let n : NodeView K = s.before in
    let m : NodeView K = s.left in
    let w = wrote tells (λ n. to_log n file (line ∷ [])) (λ n m. m ≡ with_lines n m.keeper file (line ∷ [])) done (with_newest d n) m _ (come.each r n s.goes.before).store.failing ended s.holds in
    law g d r n m was after file line w.failed come s.goes w.stored w.asked (has_logged file (line ∷ []) w.failed (with_newest d n) m w.done w.refused) s.early s.counted (sound g d known))

-- the same, where the call was made of a file and a line that are these
pub writes_go_so : {K : Type 0} (tells : K → StoreView) (r : ℕ) (was up after : FleetView K) (file file' : LogFile) (line line' : List ℕ) (done : Answer) → file' ≡ file → line' ≡ line → LineLaw tells → r < length was.nodes
    → IsCalled tells r was up after (WritesFiles tells (λ n. to_log n file' (line' ∷ [])) (λ n m. m ≡ with_lines n m.keeper file' (line' ∷ [])) done)
    → IsEnded done → ((g : DriverInput) (d : Driver) → IsKnown g r → StaysSound g d (writes r file line d)) → GoesOn tells (λ g d. writes r file line d) was after
writes_go_so {K} tells r was up after file file' line line' done same_file same_line law there call ended sound =
    writes_go tells r was up after file line done law there
    (subst (λ (f : LogFile). IsCalled tells r was up after (WritesFiles tells (λ n. to_log n f (line ∷ [])) (λ n m. m ≡ with_lines n m.keeper f (line ∷ [])) done)) same_file
    (subst (λ (l : List ℕ). IsCalled tells r was up after (WritesFiles tells (λ n. to_log n file' (l ∷ [])) (λ n m. m ≡ with_lines n m.keeper file' (l ∷ [])) done)) same_line call))
    ended sound

pub sets_go : {K : Type 0} (tells : K → StoreView) (r : ℕ) (was up after : FleetView K) (kind : LogKind) (topic : Topic) (value : Value) (done : Answer) → SettingLaw tells → r < length was.nodes
    → IsCalled tells r was up after (WritesFiles tells (λ n. to_log n (Of kind) (line_text kind (stamped_by n kind None (record { topic = topic; stamp = None; value = value })) ∷ []))
    (λ n m. m ≡ with_lines n m.keeper (Of kind) (line_text kind (stamped_by n kind None (record { topic = topic; stamp = None; value = value })) ∷ [])) done)
    → IsEnded done → ((g : DriverInput) (d : Driver) → IsKnown g r → StaysSound g d (sets g r kind topic value d)) → GoesOn tells (λ g d. sets g r kind topic value d) was after
sets_go {K} tells r was up after kind topic value done law there call ended sound =
    goes_on tells (λ g d. sets g r kind topic value d) r was up after _ there call
    (λ g d come known s.
    let n : NodeView K = s.before in
    let m : NodeView K = s.left in
    let lines : List (List ℕ) = line_text kind (stamped_by (with_newest d n) kind None (record { topic = topic; stamp = None; value = value })) ∷ [] in
    let w : Wrote tells (to_log n (Of kind) lines) (m ≡ with_lines (with_newest d n) m.keeper (Of kind) lines) (with_newest d n) m = wrote tells _ _ done (with_newest d n) m _ (come.each r n s.goes.before).store.failing ended s.holds in
    law g d r n m was after kind topic value w.failed come s.goes w.stored w.asked (has_logged (Of kind) lines w.failed (with_newest d n) m w.done w.refused) s.early s.counted (sound g d known))

-- ---- file by file

-- the law of a merge
abbrev pub MergeLaw : {K : Type 0} → (K → StoreView) → Type 0
MergeLaw {K} tells = (g : DriverInput) (d : Driver) (r other : ℕ) (n m o : NodeView K) (was after : FleetView K) (failed : Option Call)
    → HasCome tells g d was → OneGoesOn r n m was after → slice_get was.nodes other ≡ Some o → StaysStored (tells n.keeper) (tells m.keeper)
    → MakesCalls (to_merge n o.branch) failed (tells n.keeper).failing (tells m.keeper).failing
    → (failed ≡ None → m ≡ over m.keeper (merge_files (with_newest d n) o.branch)) → ((call : Call) → failed ≡ Some call → RefusesSo refusals.StoreFault calls.PutFile (with_newest d n) m)
    → m.time ≤ 1000000000000 → m.count < 2 ^ 62 → StaysSound g d (merges r other d) → HasCome tells g (merges r other d) after

-- the law of a compaction
abbrev pub CompactLaw : {K : Type 0} → (K → StoreView) → Type 0
CompactLaw {K} tells = (g : DriverInput) (d : Driver) (r : ℕ) (n m : NodeView K) (was after : FleetView K) (failed : Option Call)
    → HasCome tells g d was → OneGoesOn r n m was after → StaysStored (tells n.keeper) (tells m.keeper)
    → MakesCalls (to_compact n) failed (tells n.keeper).failing (tells m.keeper).failing
    → (failed ≡ None → m ≡ over m.keeper (compact_files (with_newest d n) (keys_of n.branch))) → ((call : Call) → failed ≡ Some call → RefusesSo refusals.StoreFault calls.PutFile (with_newest d n) m)
    → m.time ≤ 1000000000000 → m.count < 2 ^ 62 → StaysSound g d (compacts r d) → HasCome tells g (compacts r d) after

-- what a merge of the node of another number, as it is after the raising, makes of a node
abbrev pub MergesFrom : {K : Type 0} → (K → StoreView) → ℕ → FleetView K → Answer → NodeView K → NodeView K → Type 0
MergesFrom {K} tells other up done n m = (o : NodeView K) → slice_get up.nodes other ≡ Some o
    → WritesFiles tells (λ n. to_merge n o.branch) (λ n m. m ≡ over m.keeper (merge_files n o.branch)) done n m

pub merges_go : {K : Type 0} (tells : K → StoreView) (r other : ℕ) (was up after : FleetView K) (done : Answer) → MergeLaw tells → r < length was.nodes → other < length was.nodes
    → IsCalled tells r was up after (MergesFrom tells other up done)
    → IsEnded done → ((g : DriverInput) (d : Driver) → IsKnown g r → StaysSound g d (merges r other d)) → GoesOn tells (λ g d. merges r other d) was after
merges_go {K} tells r other was up after done law there there_too call ended sound =
    goes_on tells (λ g d. merges r other d) r was up after (MergesFrom tells other up done) there call
    (λ g d come known s.
    let n : NodeView K = s.before in
    let m : NodeView K = s.left in
    let found : (o : NodeView K) × (slice_get was.nodes other ≡ Some o) = slice_get-within was.nodes other there_too in
    let o : NodeView K = found.0 in
    let up_too : (p : NodeView K) × (slice_get up.nodes other ≡ Some p) × (p.branch ≡ o.branch) = branch_stays tells r call.had other was up o call.raises found.1 in
    let made : WritesFiles tells (λ n. to_merge n o.branch) (λ n m. m ≡ over m.keeper (merge_files n o.branch)) done (with_newest d n) m
    = subst (λ files. WritesFiles tells (λ n. to_merge n files) (λ n m. m ≡ over m.keeper (merge_files n files)) done (with_newest d n) m) up_too.2 (s.holds up_too.0 up_too.1) in
    let w : Wrote tells (to_merge n o.branch) (m ≡ over m.keeper (merge_files (with_newest d n) o.branch)) (with_newest d n) m
    = wrote tells (λ n. to_merge n o.branch) (λ n m. m ≡ over m.keeper (merge_files n o.branch)) done (with_newest d n) m _ (come.each r n s.goes.before).store.failing ended made in
    law g d r other n m o was after w.failed come s.goes found.1 w.stored w.asked w.done (λ call some. w.fault call some) s.early s.counted (sound g d known))

pub compacts_go : {K : Type 0} (tells : K → StoreView) (r : ℕ) (was up after : FleetView K) (done : Answer) → CompactLaw tells → r < length was.nodes
    → IsCalled tells r was up after (WritesFiles tells (λ n. to_compact n) (λ n m. m ≡ over m.keeper (compact_files n (keys_of n.branch))) done)
    → IsEnded done → ((g : DriverInput) (d : Driver) → IsKnown g r → StaysSound g d (compacts r d)) → GoesOn tells (λ g d. compacts r d) was after
compacts_go {K} tells r was up after done law there call ended sound =
    goes_on tells (λ g d. compacts r d) r was up after _ there call
    (λ g d come known s.
    let n : NodeView K = s.before in
    let m : NodeView K = s.left in
    let w : Wrote tells (to_compact n) (m ≡ over m.keeper (compact_files (with_newest d n) (keys_of n.branch))) (with_newest d n) m
    = wrote tells (λ n. to_compact n) (λ n m. m ≡ over m.keeper (compact_files n (keys_of n.branch))) done (with_newest d n) m _ (come.each r n s.goes.before).store.failing ended s.holds in
    law g d r n m was after w.failed come s.goes w.stored w.asked w.done (λ call some. w.fault call some) s.early s.counted (sound g d known))
