-- A fleet whose node's history is full stops where the driver's turn, its line, or the job that it begins comes to one entry more.
use Rattle.std.proofs.Common.{◌≡◌, ℕ, ◌+◌, ◌<◌, Bool, true, List, [], ◌∷◌, length, Option, Some, None, refl, sym, ap, ◌∙◌, subst, arith}
use Rattle.std.specs.Prelude.{flat_map, if◌then◌else◌, is_some, nat_lt, slice_get}
use Rattle.std.specs.Option.{option_to_list}
use Rattle.std.proofs.lemmas.Bool.Decides.{nat_tests}
use Rattle.annex_base.specs.declared.kinds.Call.TheVariants as calls
use Rattle.log_lines.specs.LineText.{line_text}
use Rattle.log_lines.specs.declared.entry.LogKind.{LogKind}
use Rattle.log_lines.specs.declared.entry.Topic.{Topic}
use Rattle.log_lines.specs.declared.entry.Value.{Value}
use Rattle.run_data.specs.Files.{file_path}
use Rattle.run_data.specs.Histories.{most_entries}
use Rattle.run_data.specs.declared.entry.EntryKind.TheVariants as kinds
use Rattle.run_data.specs.declared.entry.LogFile.{LogFile}
use Rattle.run_data.specs.declared.entry.LogFile.TheVariants.{Of}
use Rattle.run_data.specs.declared.job.Job.{Job}
use Rattle.run_model.specs.Past.{begun_count}
use Rattle.union_merge.specs.Branch.{Files, lines_at}
use Rattle.union_merge.specs.LineSet.{difference}
use Rattle.node_ends.specs.Ends.{hand_at, room_at}
use Rattle.node_model.specs.AnyTime.{all_ends, closes_all}
use Rattle.node_model.specs.Look.{Look, Effect}
use Rattle.node_model.specs.SetUp.{SetUp}
use Rattle.node_model.specs.Step.{step}
use Rattle.joined_nodes.specs.Parts.{AreParts}
use Rattle.driver_model.specs.Driver.{Driver, DriverInput, frames_to, notes, set_up_of, state_at}
use Rattle.driver_model.specs.Finding.{driver_at_turn}
use Rattle.driver_model.specs.Limits.{AddsOwn, StopsAtFull, count_of, within_limit}
use Rattle.driver_model.specs.ScriptSteps.{begins, crashes, has, logs_some, sets, sets_part, setting_line, unknown_lines, writes}
use Rattle.driver_model.specs.Turning.{at_hand, plain_look, turn}
use Rattle.joined_nodes.specs.Calls.{lacks_some}
use Rattle.joined_nodes.specs.Logs.{stamped_by}
use Rattle.joined_nodes.specs.Nodes as nodes
use Rattle.joined_nodes.specs.Nodes.{NodeView}
use Rattle.joined_nodes.specs.Stored.{StoreView}
use Rattle.joined_nodes.specs.Turning.{HasStep, Looks}
use Rattle.fleet_model.specs.Fleets.{FleetView, HasCome}
use Rattle.fleet_model.specs.Steps.{with_newest}
use Rattle.fleet_model.specs.Stopping.{OthersAreFew}
use Rattle.fleet_model.specs.Turns.{StandsWell}
use Rattle.fleet_model.proofs.Beginning.{has_slot}
use Rattle.fleet_model.proofs.Noting.{IsRaised}
use Rattle.fleet_model.proofs.Pathing.{had_there}
use Rattle.fleet_model.proofs.Raising.{raised_is}
use Rattle.fleet_model.proofs.States.{Carried, state_is, step_is}
use Rattle.fleet_model.proofs.StopLaws.{StopLaws}
use Rattle.fleet_model.proofs.StopPasts.{ComesTo, all_are_few, comes_adding, comes_calling, comes_noting, comes_sending, count_is, is_known, others_are_few, stops_at_once}
use Rattle.fleet_model.proofs.TurnComes.{TurnLaws, ends_stand, own_ends, rooms_agree}
use Rattle.fleet_model.proofs.Directs.{setting_is}

-- ---- turns

-- the driver's plain look is one of the node's
looks_plainly : {K : Type 0} → TurnLaws → (tells : K → StoreView) (g : DriverInput) (d : Driver) (r : ℕ) (n : NodeView K) (was : FleetView K) → HasCome tells g d was → slice_get was.nodes r ≡ Some n → StandsWell g d r n
    → Looks (with_newest d n) (set_up_of g d r) (plain_look (set_up_of g d r) (driver_at_turn g r d))
looks_plainly {K} laws tells g d r n was h at well = record {
  ends = record { at_hand = sym hand; room = rooms_agree laws tells g d r n was h at well };
  time = sym own.entries.time;
  count = ap (λ (x : ℕ). x + 1) (sym own.entries.count);
  paths = had_there g d r n.parts.jobs.running (h.each r n at).paths;
} where
  s : SetUp
  s = set_up_of g d r

  own : IsRaised tells g d r (with_newest d n)
  own = raised_is tells g d r n (h.each r n at)

  hand : flat_map (λ a. option_to_list (hand_at n.parts.links a)) (all_ends s) ≡ at_hand s (frames_to r (driver_at_turn g r d).flights)
  hand = laws.looks.hand n.parts.links s (state_at g d r) d
      (record (plain_look s (driver_at_turn g r d)) { at_hand = flat_map (λ a. option_to_list (hand_at n.parts.links a)) (all_ends s); room = room_at n.parts.links })
      (ends_stand laws tells g d r n was h at well) (own_ends laws tells g d r n was h at well) (record { at_hand = refl; room = λ a there. refl })

none_is_some : (o : Option Effect) → o ≡ None → is_some o ≡ true → ⊥
none_is_some None e some = cc
none_is_some (Some m) e some = cc

-- a ready step adds an entry
turn_grows : {K : Type 0} → TurnLaws → StopLaws → (tells : K → StoreView) (g : DriverInput) (d : Driver) (r : ℕ) (n : NodeView K) (was : FleetView K) → HasCome tells g d was → slice_get was.nodes r ≡ Some n → StandsWell g d r n
    → HasStep (with_newest d n) (set_up_of g d r) → length (turn g r d).past ≡ length d.past → ⊥
turn_grows {K} laws stop tells g d r n was h at well ready same =
    none_is_some (step s (nodes.state_of s n.history) k) (sym (step_is laws.looks.carried g d r n k h.sound (h.each r n at).history) ∙ stop.idle g r d same)
    (ready k (looks_plainly laws tells g d r n was h at well))
  where
    s : SetUp
    s = set_up_of g d r

    k : Look
    k = plain_look s (driver_at_turn g r d)

pub turn_stops : {K : Type 0} → TurnLaws → StopLaws → (tells : K → StoreView) (g : DriverInput) (d : Driver) (r : ℕ) (n : NodeView K) (was : FleetView K) → HasCome tells g d was → slice_get was.nodes r ≡ Some n → OthersAreFew r was.nodes
    → StandsWell g d r n → length n.history ≡ most_entries → HasStep (with_newest d n) (set_up_of g d r) → StopsAtFull g r (turn g r d) was.run
turn_stops laws stop tells g d r n was h at few well full ready =
    stops_at_once tells g d (turn g r d) r n was h at few full (comes_adding r d (turn g r d) (stop.turn_adds g r d) (turn_grows laws stop tells g d r n was h at well ready))

-- ---- jobs

pub job_stops : {K : Type 0} → Carried → (tells : K → StoreView) (g : DriverInput) (d : Driver) (r : ℕ) (n : NodeView K) (was : FleetView K) → HasCome tells g d was → slice_get was.nodes r ≡ Some n → OthersAreFew r was.nodes
    → (job : Job) → AreParts (set_up_of g d r) (nodes.state_of (set_up_of g d r) n.history) n.parts → length n.history ≡ most_entries → length n.parts.jobs.running < 4 → StopsAtFull g r (begins r job d) was.run
job_stops laws tells g d r n was h at few job parts full free =
    stops_at_once tells g d (begins r job d) r n was h at few full
    (subst (λ (b : Bool). ComesTo r d (if b then notes r (kinds.Begin (begun_count d.past r + 1) job) [] d else d))
    (sym (has_slot g d r n.history n.parts.jobs (state_is laws g d r n h.sound (h.each r n at).history) parts.works free))
    (comes_noting r (kinds.Begin (begun_count d.past r + 1) job) [] d))

-- ---- crashes

pub crash_stops : {K : Type 0} (tells : K → StoreView) (g : DriverInput) (d : Driver) (r : ℕ) (n : NodeView K) (was : FleetView K) → HasCome tells g d was → slice_get was.nodes r ≡ Some n → OthersAreFew r was.nodes
    → (clock : ℕ) → length n.history ≡ most_entries → StopsAtFull g r (crashes g r clock d) was.run
crash_stops tells g d r n was h at few clock full =
    stops_at_once tells g d (crashes g r clock d) r n was h at few full (comes_sending g r (kinds.Crash clock) (closes_all (set_up_of g d r) (state_at g d r)) d)

-- ---- lines

never : nat_lt 0 0 ≡ true → ⊥
never e = grind (arith, nat_tests)

comes_logging : (r : ℕ) (file : LogFile) (d : Driver) (new : List (List ℕ)) → nat_lt 0 (length new) ≡ true → ComesTo r d (logs_some r file new d)
comes_logging r file d [] some = absurd (never some)
comes_logging r file d (line ∷ lines) some = comes_calling r calls.PutFile d (notes r (kinds.Log file) (line ∷ lines) d) (comes_noting r (kinds.Log file) (line ∷ lines) d)

pub line_stops : {K : Type 0} (tells : K → StoreView) (g : DriverInput) (d : Driver) (r : ℕ) (n : NodeView K) (was : FleetView K) → HasCome tells g d was → slice_get was.nodes r ≡ Some n → OthersAreFew r was.nodes
    → (file : LogFile) (line : List ℕ) → length n.history ≡ most_entries → lacks_some n file (line ∷ []) ≡ true → StopsAtFull g r (writes r file line d) was.run
line_stops tells g d r n was h at few file line full lacks =
    stops_at_once tells g d (writes r file line d) r n was h at few full
    (comes_logging r file d (unknown_lines d r file (line ∷ []))
    (subst (λ (b : Files). nat_lt 0 (length (difference (line ∷ []) (lines_at b (file_path file)))) ≡ true) (h.each r n at).branch lacks))

pub setting_stops : {K : Type 0} (tells : K → StoreView) (g : DriverInput) (d : Driver) (r : ℕ) (n : NodeView K) (was : FleetView K) → HasCome tells g d was → slice_get was.nodes r ≡ Some n → OthersAreFew r was.nodes
    → (kind : LogKind) (topic : Topic) (value : Value) → length n.history ≡ most_entries
    → lacks_some n (Of kind) (line_text kind (stamped_by (with_newest d n) kind None (record { topic = topic; stamp = None; value = value })) ∷ []) ≡ true → StopsAtFull g r (sets g r kind topic value d) was.run
setting_stops tells g d r n was h at few kind topic value full lacks =
    line_stops tells g d r n was h at few (Of kind) (setting_line g d r kind topic value) full
    (subst (λ (line : List ℕ). lacks_some n (Of kind) (line ∷ []) ≡ true) (setting_is tells g d r (with_newest d n) kind topic value (raised_is tells g d r n (h.each r n at))) lacks)

-- ---- contents and parts that the store is asked for first

asked : {K : Type 0} → StopLaws → (tells : K → StoreView) (g : DriverInput) (d after : Driver) (r : ℕ) (n : NodeView K) (was : FleetView K) → HasCome tells g d was → slice_get was.nodes r ≡ Some n → OthersAreFew r was.nodes
    → AddsOwn r d after → length n.history ≡ most_entries → (count_of d.past r ≡ most_entries) × (within_limit g after.past ≡ d.past)
asked stop tells g d after r n was h at few adds full =
    let counted : count_of d.past r ≡ most_entries = count_is d.past n.history r (h.each r n at).history ∙ full in
    (counted, stop.asks g r d after (is_known tells g d r n was h at) adds counted (all_are_few r d.past counted (others_are_few tells g d r was h few)))

pub content_asked : {K : Type 0} → StopLaws → (tells : K → StoreView) (g : DriverInput) (d : Driver) (r : ℕ) (n : NodeView K) (was : FleetView K) → HasCome tells g d was → slice_get was.nodes r ≡ Some n → OthersAreFew r was.nodes
    → (key bytes : List ℕ) → length n.history ≡ most_entries → (count_of d.past r ≡ most_entries) × (within_limit g (has g r key bytes d).past ≡ d.past)
content_asked stop tells g d r n was h at few key bytes full = asked stop tells g d (has g r key bytes d) r n was h at few (stop.content_adds g r key bytes d) full

pub part_asked : {K : Type 0} → StopLaws → (tells : K → StoreView) (g : DriverInput) (d : Driver) (r : ℕ) (n : NodeView K) (was : FleetView K) → HasCome tells g d was → slice_get was.nodes r ≡ Some n → OthersAreFew r was.nodes
    → (key bytes : List ℕ) → length n.history ≡ most_entries → (count_of d.past r ≡ most_entries) × (within_limit g (sets_part g r key bytes d).past ≡ d.past)
part_asked stop tells g d r n was h at few key bytes full = asked stop tells g d (sets_part g r key bytes d) r n was h at few (stop.part_adds g r key bytes d) full
