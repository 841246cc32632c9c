-- Time that passes: a fleet goes on as the driver does.
use Rattle.std.proofs.Common.{◌≡◌, ℕ, ◌+◌, ◌<◌, ◌≤◌, ◌^◌, List, [], ◌∷◌, ◌++◌, None, ap, ◌∙◌, subst}
use Rattle.std.specs.Prelude.{reverse}
use Rattle.run_data.specs.declared.entry.Entry.{Entry}
use Rattle.run_data.specs.declared.entry.FrameView.{FrameView}
use Rattle.run_data.specs.declared.run.Run.{Run}
use Rattle.run_model.specs.Past.{now}
use Rattle.driver_model.specs.Driver.{Driver, DriverInput, newest_count}
use Rattle.driver_model.specs.ScriptSteps.{waits}
use Rattle.driver_model.specs.Sound.{StaysSound}
use Rattle.fleet_entries.specs.Nodes.{NodeView}
use Rattle.fleet_entries.specs.Stored.{StoreView}
use Rattle.fleet_entries.specs.Fleets.{FleetView, HasCome}
use Rattle.fleet_entries.specs.AtDriver.{GoesOn}
use Rattle.run_data.specs.declared.entry.EntryKind.TheVariants as kinds
use Rattle.fleet_entries.proofs.Called.{past_of}

abbrev pub WaitLaw : {K : Type 0} → (K → StoreView) → Type 0
WaitLaw {K} tells = (g : DriverInput) (d : Driver) (milliseconds : ℕ) (f f' : FleetView K) → f'.nodes ≡ f.nodes
    → f'.run ≡ record f.run { entries = f.run.entries ++ record { time = now d.past + milliseconds; count = newest_count d.past + 1; repo = None; kind = kinds.Wait milliseconds; taken = None; sent = []; lines = [] } ∷ [] }
    → now d.past + milliseconds ≤ 1000000000000 → newest_count d.past + 1 < 2 ^ 62 → StaysSound g d (waits milliseconds d) → HasCome tells g d f → HasCome tells g (waits milliseconds d) f'

-- the entry that says so
abbrev pub wait_entry : ℕ → List Entry → Entry
wait_entry milliseconds past = record { time = now past + milliseconds; count = newest_count past + 1; repo = None; kind = kinds.Wait milliseconds; taken = None; sent = []; lines = [] }

abbrev with_entries : Run → List Entry → Run
with_entries run entries = record run { entries = entries }

pub waits_go : {K : Type 0} (tells : K → StoreView) (milliseconds : ℕ) (was after : FleetView K) → WaitLaw tells → after.nodes ≡ was.nodes
    → after.run ≡ record was.run { entries = was.run.entries ++ wait_entry milliseconds (reverse was.run.entries) ∷ [] }
    → now (reverse was.run.entries) + milliseconds ≤ 1000000000000 → newest_count (reverse was.run.entries) + 1 < 2 ^ 62
    → ((g : DriverInput) (d : Driver) → StaysSound g d (waits milliseconds d)) → GoesOn tells (λ g d. waits milliseconds d) was after
waits_go tells milliseconds was after law nodes run early few sound g d stands =
    let past : reverse was.run.entries ≡ d.past = past_of tells g d was stands.come in
    record {
      come = law g d milliseconds was after nodes
          (run ∙ ap (λ (past : List Entry). record was.run { entries = was.run.entries ++ wait_entry milliseconds past ∷ [] }) past)
          (subst (λ (past : List Entry). now past + milliseconds ≤ 1000000000000) past early)
          (subst (λ (past : List Entry). newest_count past + 1 < 2 ^ 62) past few)
          (sound g d) stands.come;
      decides = stands.decides;
    }

-- the same, of a fleet as a function sees it
pub waits_go_so : {K : Type 0} (tells : K → StoreView) (milliseconds : ℕ) (was : FleetView K) (nodes : List (NodeView K)) (run : Run) (entries : List Entry) (time count : ℕ) (sent : List FrameView) (lines : List (List ℕ))
    → record { nodes = nodes; run = run } ≡ was → WaitLaw tells
    → entries ≡ run.entries ++ record { time = time + milliseconds; count = count + 1; repo = None; kind = kinds.Wait milliseconds; taken = None; sent = sent; lines = lines } ∷ []
    → time ≡ now (reverse was.run.entries) → count ≡ newest_count (reverse was.run.entries) → sent ≡ [] → lines ≡ []
    → now (reverse was.run.entries) + milliseconds ≤ 1000000000000 → count + 1 < 2 ^ 62
    → ((g : DriverInput) (d : Driver) → StaysSound g d (waits milliseconds d)) → GoesOn tells (λ g d. waits milliseconds d) was (record { nodes = nodes; run = record run { entries = entries } })
waits_go_so {K} tells milliseconds was nodes run entries time count sent lines is law more is_time is_count no_frames no_lines early few sound =
    let entry : Entry = record { time = time + milliseconds; count = count + 1; repo = None; kind = kinds.Wait milliseconds; taken = None; sent = sent; lines = lines } in
    let same : entry ≡ wait_entry milliseconds (reverse was.run.entries)
    = λ i. record { time = is_time i + milliseconds; count = is_count i + 1; repo = None; kind = kinds.Wait milliseconds; taken = None; sent = no_frames i; lines = no_lines i } in
    waits_go tells milliseconds was (record { nodes = nodes; run = record run { entries = entries } }) law (ap (λ (f : FleetView K). f.nodes) is)
    (ap (λ (es : List Entry). with_entries run es) more
    ∙ (ap (λ (e : Entry). with_entries run (run.entries ++ e ∷ [])) same
    ∙ ap (λ (f : FleetView K). with_entries f.run (f.run.entries ++ wait_entry milliseconds (reverse was.run.entries) ∷ [])) is))
    early (subst (λ (k : ℕ). k + 1 < 2 ^ 62) is_count few) sound
