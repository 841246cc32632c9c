-- A fleet whose node did what a line of the script says has come to where the driver is.
use Rattle.std.proofs.Common.{◌≡◌, ℕ, ◌+◌, ◌<◌, ◌≤◌, ◌^◌, List, [], ◌∷◌, ◌++◌, Option, Some, None, refl, sym, ap, ◌∙◌, subst}
use Rattle.annex_base.specs.Lists.{Each}
use Rattle.annex_base.specs.declared.kinds.Call.{Call}
use Rattle.annex_base.proofs.Lists.{Each-weaker}
use Rattle.log_lines.specs.declared.entry.LogKind.{LogKind}
use Rattle.log_lines.specs.declared.entry.Topic.{Topic}
use Rattle.log_lines.specs.declared.entry.Value.{Value}
use Rattle.log_lines.specs.LineText.{line_text}
use Rattle.log_lines.specs.Newest.{newest_stamp, next_stamp}
use Rattle.run_data.specs.declared.entry.Entry.{Entry}
use Rattle.run_data.specs.declared.entry.LogFile.{LogFile}
use Rattle.run_data.specs.declared.entry.LogFile.TheVariants.{Of}
use Rattle.run_data.specs.Files.{file_path}
use Rattle.union_merge.specs.Branch.{lines_at}
use Rattle.union_merge.specs.LineSet.{difference}
use Rattle.node_model.specs.OwedLines.{stamp_at}
use Rattle.joined_nodes.specs.Parts.{PartsView}
use Rattle.joined_nodes.specs.Running.{given_of, words_at}
use Rattle.link_flights.specs.Heard.{HeardSo}
use Rattle.driver_model.specs.Driver.{Driver, DriverInput}
use Rattle.driver_model.specs.ScriptSteps.{setting_line, sets, wall_of, writes}
use Rattle.driver_model.specs.Sound.{StaysSound}
use Rattle.content_lock.specs.CallsMade.{MakesCalls}
use Rattle.joined_nodes.specs.Calls.{to_log}
use Rattle.joined_nodes.specs.Logs.{stamped_by, with_log}
use Rattle.joined_nodes.specs.Nodes.{NodeView}
use Rattle.joined_nodes.specs.Stored.{StoreView}
use Rattle.fleet_model.specs.Fleets.{FleetView, HasCome, HasGiven}
use Rattle.fleet_model.specs.Steps.{HasLogged, OneGoesOn, StaysStored, with_newest}
use Rattle.fleet_model.proofs.Coming.{came}
use Rattle.fleet_model.proofs.Going.{GoesOnQuietly}
use Rattle.fleet_model.proofs.Hearing.{WordLaws, own_hears}
use Rattle.fleet_model.proofs.Logging.{logged}
use Rattle.fleet_model.proofs.Noting.{IsRaised}
use Rattle.fleet_model.proofs.Pathing.{given_on}
use Rattle.fleet_model.proofs.Raising.{raised_is}
use Rattle.fleet_model.proofs.ScriptGoing.{goes_writes}

-- a node that goes on without a change of its rows, ends, sessions and jobs
pub comes_directly : {K : Type 0} → WordLaws → (tells : K → StoreView) (g : DriverInput) (d d' : Driver) (r : ℕ) (n m : NodeView K) (was after : FleetView K)
    → HasCome tells g d was → OneGoesOn r n m was after → GoesOnQuietly r d d' → IsRaised tells g d' r m → m.parts ≡ n.parts → m.time ≤ 1000000000000 → m.count < 2 ^ 62 → StaysSound g d d'
    → HasCome tells g d' after
comes_directly {K} laws tells g d d' r n m was after h step on own same early few sound =
    came laws tells g d d' r n m was after h step on own (ap (λ (p : PartsView). p.links) same)
    (subst (λ (past : List Entry). HeardSo past r (words_at m.parts.jobs.running)) (sym on.on.past)
    (subst (λ (p : PartsView). HeardSo (on.on.more ++ d.past) r (words_at p.jobs.running)) (sym same)
    (own_hears laws r (words_at n.parts.jobs.running) on.on.more d.past on.on.own on.quiet (h.each r n step.before).heard)))
    (λ sound'. subst (λ (p : PartsView). Each (λ j. HasGiven d' r (given_of j)) p.jobs.running) (sym same)
    (Each-weaker (λ j. HasGiven d r (given_of j)) (λ j. HasGiven d' r (given_of j)) (λ j. given_on laws g d d' r on.on.more sound' on.on.past on.on.tree (given_of j)) n.parts.jobs.running (h.each r n step.before).paths))
    early few sound

-- ---- lines

pub log_parts : {K : Type 0} (n : NodeView K) (keeper : K) (file : LogFile) (new : List (List ℕ)) → (with_log n keeper file new).parts ≡ n.parts
log_parts n keeper file [] = refl
log_parts n keeper file (line ∷ lines) = refl

pub logged_parts : {K : Type 0} (n m : NodeView K) (file : LogFile) (lines : List (List ℕ)) (failed : Option Call) → HasLogged file lines failed n m → m.parts ≡ n.parts
logged_parts n m file lines None is = ap (λ (x : NodeView _). x.parts) is ∙ log_parts n m.keeper file (difference lines (lines_at n.branch (file_path file)))
logged_parts n m file lines (Some call) is = ap (λ (x : NodeView _). x.parts) is

pub line_comes : {K : Type 0} → WordLaws → (tells : K → StoreView) (g : DriverInput) (d : Driver) (r : ℕ) (n m : NodeView K) (was after : FleetView K) (file : LogFile) (line : List ℕ) (failed : Option Call)
    → HasCome tells g d was → OneGoesOn r n m was after → StaysStored (tells n.keeper) (tells m.keeper)
    → MakesCalls (to_log n file (line ∷ [])) failed (tells n.keeper).failing (tells m.keeper).failing → HasLogged file (line ∷ []) failed (with_newest d n) m
    → m.time ≤ 1000000000000 → m.count < 2 ^ 62 → StaysSound g d (writes r file line d) → HasCome tells g (writes r file line d) after
line_comes {K} laws tells g d r n m was after file line failed h step stays made is early few sound =
    comes_directly laws tells g d (writes r file line d) r n m was after h step (goes_writes r file line d)
    (logged tells g d r (with_newest d n) m file (line ∷ []) failed (raised_is tells g d r n (h.each r n step.before)) stays made is)
    (logged_parts (with_newest d n) m file (line ∷ []) failed is) early few sound

-- the line of a setting is that of the driver
pub setting_is : {K : Type 0} (tells : K → StoreView) (g : DriverInput) (d : Driver) (r : ℕ) (n : NodeView K) (kind : LogKind) (topic : Topic) (value : Value) → IsRaised tells g d r n
    → line_text kind (stamped_by n kind None (record { topic = topic; stamp = None; value = value })) ≡ setting_line g d r kind topic value
setting_is {K} tells g d r n kind topic value own =
    λ i. line_text kind (record { topic = topic; stamp = Some (next_stamp (newest_stamp kind (lines_at (own.entries.branch i) (file_path (Of kind))) topic) (stamp_at (wall_is i))); value = value })
  where
    wall_is : n.time + n.setup.offset ≡ wall_of g d r
    wall_is = λ i. own.entries.time i + sym own.entries.setup.offset i

pub setting_comes : {K : Type 0} → WordLaws → (tells : K → StoreView) (g : DriverInput) (d : Driver) (r : ℕ) (n m : NodeView K) (was after : FleetView K) (kind : LogKind) (topic : Topic) (value : Value) (failed : Option Call)
    → HasCome tells g d was → OneGoesOn r n m was after → StaysStored (tells n.keeper) (tells m.keeper)
    → MakesCalls (to_log n (Of kind) (line_text kind (stamped_by (with_newest d n) kind None (record { topic = topic; stamp = None; value = value })) ∷ [])) failed (tells n.keeper).failing (tells m.keeper).failing
    → HasLogged (Of kind) (line_text kind (stamped_by (with_newest d n) kind None (record { topic = topic; stamp = None; value = value })) ∷ []) failed (with_newest d n) m
    → m.time ≤ 1000000000000 → m.count < 2 ^ 62 → StaysSound g d (sets g r kind topic value d) → HasCome tells g (sets g r kind topic value d) after
setting_comes {K} laws tells g d r n m was after kind topic value failed h step stays made is early few sound =
    line_comes laws tells g d r n m was after (Of kind) (setting_line g d r kind topic value) failed h step stays
    (subst (λ (line : List ℕ). MakesCalls (to_log n (Of kind) (line ∷ [])) failed (tells n.keeper).failing (tells m.keeper).failing) same made)
    (subst (λ (line : List ℕ). HasLogged (Of kind) (line ∷ []) failed (with_newest d n) m) same is) early few sound
  where
    same : line_text kind (stamped_by (with_newest d n) kind None (record { topic = topic; stamp = None; value = value })) ≡ setting_line g d r kind topic value
    same = setting_is tells g d r (with_newest d n) kind topic value (raised_is tells g d r n (h.each r n step.before))
