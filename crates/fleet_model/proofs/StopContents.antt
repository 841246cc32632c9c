-- A fleet whose node's history is full behind a content that came stops where the driver comes to the line that says so.
use Rattle.std.proofs.Common.{◌≡◌, inl, ℕ, ◌<◌, ◌≤◌, ◌^◌, true, false, List, [], ◌∷◌, length, None, refl, sym, subst}
use Rattle.std.specs.Prelude.{find}
use Rattle.annex_base.specs.declared.kinds.Call.TheVariants as calls
use Rattle.run_data.specs.Repos.{id_of}
use Rattle.run_data.specs.declared.entry.By.TheVariants.{Script}
use Rattle.run_data.specs.declared.entry.EntryKind.TheVariants as kinds
use Rattle.run_data.specs.declared.entry.LogFile.TheVariants.{Location}
use Rattle.node_model.specs.OwedLines.{if_new, status_line}
use Rattle.driver_model.specs.Driver.{Driver, DriverInput, commits, drops_part, fails_at, notes, part_at, puts_part, set_up_of}
use Rattle.driver_model.specs.Limits.{StopsAtFull}
use Rattle.driver_model.specs.Scripts.{IsContent}
use Rattle.driver_model.specs.ScriptSteps.{gets_content, has, is_busy, lines_of, logs_status, wall_of}
use Rattle.joined_nodes.specs.Calls.{MeetsFullBehind}
use Rattle.joined_nodes.specs.Nodes as nodes
use Rattle.joined_nodes.specs.Nodes.{NodeView}
use Rattle.joined_nodes.specs.Stored.{StoreView}
use Rattle.fleet_model.specs.Fleets.{FleetView, HasCome}
use Rattle.fleet_model.specs.Steps.{OneGoesOn, with_newest}
use Rattle.fleet_model.specs.Stopping.{OthersAreFew}
use Rattle.fleet_model.specs.Stores.{content_in}
use Rattle.fleet_model.proofs.Busy.{taken_is_busy}
use Rattle.fleet_model.proofs.DirectContents.{StandsTold, stands_told}
use Rattle.fleet_model.proofs.Failing.{first_of_calls}
use Rattle.fleet_model.proofs.Going.{GoesOnQuietly, goes_noting, goes_then}
use Rattle.fleet_model.proofs.Noting.{HasEntriesOf, IsRaised, noted_entry}
use Rattle.fleet_model.proofs.Placing.{none_first}
use Rattle.fleet_model.proofs.Raising.{raised_is}
use Rattle.fleet_model.proofs.States.{Carried, state_is}
use Rattle.fleet_model.proofs.StopLaws.{StopLaws}
use Rattle.fleet_model.proofs.StopPasts.{ComesTo, comes_calling, comes_noting, is_known, stops_there}
use Rattle.fleet_model.proofs.ScriptGoing.{goes_dropping, goes_putting, goes_committing}

-- the driver that has placed the content, and has yet to log it
abbrev come_by : ℕ → List ℕ → List ℕ → Driver → Driver
come_by r key bytes d = commits r key (puts_part r key bytes (drops_part r key d))

-- where the content isn't there nor being filled, and the calls go well, the driver has it and goes on to its log
has_gained : (g : DriverInput) (d : Driver) (r : ℕ) (key bytes : List ℕ) → is_busy g d r key ≡ false → None ≡ find (fails_at d r) (calls.Has ∷ calls.DropPart ∷ calls.Append ∷ calls.Commit ∷ [])
    → has g r key bytes d ≡ logs_status g r key (gets_content r key bytes (puts_part r key bytes (drops_part r key d)))
has_gained g d r key bytes free none =
    let c1 = none_first (fails_at d r) calls.Has (calls.DropPart ∷ calls.Append ∷ calls.Commit ∷ []) none in
    let c2 = none_first (fails_at d r) calls.DropPart (calls.Append ∷ calls.Commit ∷ []) c1.1 in
    let c3 = none_first (fails_at d r) calls.Append (calls.Commit ∷ []) c2.1 in
    let c4 = none_first (fails_at d r) calls.Commit [] c3.1 in
    rw c1.0 (rw free (rw c2.0 (rw c3.0 (rw c4.0 refl))))

comes_to_log : (g : DriverInput) (r : ℕ) (key : List ℕ) (d : Driver) → ComesTo r d (logs_status g r key d)
comes_to_log g r key d = comes_calling r calls.PutFile d (notes r (kinds.Log (Location key)) new d) (comes_noting r (kinds.Log (Location key)) new d)
  where
    new : List (List ℕ)
    new = if_new (lines_of d r (Location key)) (status_line (lines_of d r (Location key)) (id_of g.repos r) true (wall_of g d r))

pub content_stops_behind : {K : Type 0} → StopLaws → Carried → (tells : K → StoreView) (g : DriverInput) (d : Driver) (r : ℕ) (n m : NodeView K) (was after : FleetView K) → HasCome tells g d was → OneGoesOn r n m was after
    → OthersAreFew r was.nodes → m.time ≤ 1000000000000 → m.count < 2 ^ 62 → (key bytes : List ℕ) → IsContent key bytes
    → nodes.IsState (set_up_of g d r) n.parts n.branch n.owed (nodes.told_of (tells n.keeper).contents (tells n.keeper).parts) (nodes.state_of (set_up_of g d r) n.history)
    → MeetsFullBehind key bytes (tells n.keeper).contents (tells n.keeper).failing (tells m.keeper).failing (with_newest d n) m → length bytes < 2 ^ 62 → StopsAtFull g r (has g r key bytes d) after.run
content_stops_behind {K} laws carried tells g d r n m was after h step few early counted key bytes content state met small =
    subst (λ (x : Driver). StopsAtFull g r x after.run) (sym (has_gained g d r key bytes free calm))
    (stops_there tells g d gained (logs_status g r key gained) r n m was after h step few on.on entries met.full early counted
    (laws.content_start g r key bytes d (is_known tells g d r n was h step.before) content free) (comes_to_log g r key gained))
  where
    own : IsRaised tells g d r (with_newest d n)
    own = raised_is tells g d r n (h.each r n step.before)

    gained : Driver
    gained = gets_content r key bytes (puts_part r key bytes (drops_part r key d))

    on : GoesOnQuietly r d gained
    on = goes_then r d (come_by r key bytes d) gained (goes_then r d (puts_part r key bytes (drops_part r key d)) (come_by r key bytes d) (goes_then r d (drops_part r key d) (puts_part r key bytes (drops_part r key d)) (goes_dropping r key d) (goes_putting r key bytes (drops_part r key d) small)) (goes_committing r key (puts_part r key bytes (drops_part r key d)))) (goes_noting r (kinds.Gain Script (length bytes) key) [] (come_by r key bytes d) small (inl refl))

    told : StandsTold (set_up_of g d r) n.parts n.owed (tells n.keeper).contents (nodes.state_of (set_up_of g d r) n.history)
    told = stands_told (set_up_of g d r) n.parts n.branch n.owed (tells n.keeper).contents (tells n.keeper).parts (nodes.state_of (set_up_of g d r) n.history) (content_in d r) (part_at d r) own.store.contents own.store.parts state

    free : is_busy g d r key ≡ false
    free = sym (taken_is_busy g d r n told.contents (tells n.keeper).contents key false (state_is carried g d r n h.sound (h.each r n step.before).history) told.stands told.is met.free)

    calm : None ≡ find (fails_at d r) (calls.Has ∷ calls.DropPart ∷ calls.Append ∷ calls.Commit ∷ [])
    calm = first_of_calls d r (calls.Has ∷ calls.DropPart ∷ calls.Append ∷ calls.Commit ∷ []) (tells n.keeper) None (tells m.keeper).failing own.store met.calls

    entries : HasEntriesOf g gained r m
    entries = subst (HasEntriesOf g gained r) (sym met.node) (noted_entry g d (come_by r key bytes d) r (with_newest d n) m.keeper n.branch (kinds.Gain Script (length bytes) key) [] own.entries refl refl)
