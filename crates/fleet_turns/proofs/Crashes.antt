-- A node of a fleet crashes, and frames are carried after it: the driver's crash follows.
use Rattle.std.proofs.Common.{◌≡◌, ◌⊎◌, ℕ, ◌+◌, ◌<◌, ◌≤◌, ◌^◌, true, List, Option, Some, Ok, Err, length, refl, sym, ap, ◌∙◌, subst, arith}
use Rattle.std.specs.Prelude.{IfErr, IsErrOf, OnErr, OnOk, nat_le, slice_get}
use Rattle.std.proofs.lemmas.Bool.Decides.{nat_tests}
use Rattle.std.proofs.lemmas.List.{length-append}
use Rattle.annex_base.proofs.Lists.{slice_get-within}
use Rattle.object_store.specs.Stores.{Contents}
use Rattle.run_data.specs.Histories.{most_entries}
use Rattle.run_data.specs.declared.run.Run.{Run}
use Rattle.driver_model.specs.Driver.{Driver, DriverInput}
use Rattle.driver_model.specs.Limits.{StopsAtFull}
use Rattle.driver_model.specs.Scripts.{IsKnown}
use Rattle.driver_model.specs.ScriptSteps.{crashes}
use Rattle.driver_model.specs.Sound.{StaysSound}
use Rattle.fleet_entries.specs.Crashing.{Crashes}
use Rattle.fleet_entries.specs.Joined.{AtNode}
use Rattle.fleet_entries.specs.Joined as joined
use Rattle.fleet_entries.specs.Nodes.{NodeView, told_of}
use Rattle.fleet_entries.specs.Stored.{StoreView}
use Rattle.fleet_entries.specs.declared.NodeRefused.TheVariants as refusals
use Rattle.fleet_entries.specs.AtDriver.{EndsAtFull, GoesOn}
use Rattle.fleet_entries.specs.Fleets.{FleetView, HasCome}
use Rattle.fleet_entries.specs.Steps.{OneTurns, with_newest}
use Rattle.fleet_entries.specs.Stopping.{OthersAreFew}
use Rattle.fleet_entries.specs.Telling.{AreFew, Raises}
use Rattle.fleet_entries.specs.Turns.{StandsWell}
use Rattle.fleet_entries.proofs.Ended.{Answer, IsEnded}
use Rattle.fleet_entries.proofs.Full.{each_at, few_others, run_stays}
use Rattle.fleet_turns.proofs.Carrying.{IsCarriedOn}
use Rattle.fleet_turns.proofs.Closes.{no_fault}
use Rattle.fleet_turns.proofs.Standing.{IsThere, is_there}

-- what a call that lets a node crash makes of it
pub record CrashesNode {K : Type 0} (tells : K → StoreView) (clock : ℕ) (done : Answer) (n m : NodeView K) : Type 0 where
  pub ok : OnOk done (Crashes (told_of (tells n.keeper).contents (tells n.keeper).parts) clock n m)
  pub full : IsErrOf done refusals.Full → nat_le most_entries (length n.history) ≡ true
  pub err : OnErr done (m ≡ n)

-- the call, and the frames that were carried after it
pub record IsCrashed {K : Type 0} (tells : K → StoreView) (r clock had : ℕ) (done : Answer) (was up : FleetView K) (turned carried : List (NodeView K)) (after : FleetView K) : Type 0 where
  pub call : IsCarriedOn tells r had was up turned carried after
  pub holds : AtNode r up.nodes turned (CrashesNode tells clock done)
  pub few : AreFew was.nodes
  pub near : clock ≤ 100000000000

-- the laws of a crash
pub record CrashLaws {K : Type 0} (tells : K → StoreView) : Type 0 where
  pub comes : (g : DriverInput) (d : Driver) (r clock : ℕ) (n m : NodeView K) (was after : FleetView K) → HasCome tells g d was → OneTurns r n m was after → StandsWell g d r n
      → Crashes (told_of (tells n.keeper).contents (tells n.keeper).parts) clock (with_newest d n) m → clock ≤ 100000000000
      → m.time ≤ 1000000000000 → m.count < 2 ^ 62 → StaysSound g d (crashes g r clock d) → HasCome tells g (crashes g r clock d) after
  pub full : (g : DriverInput) (d : Driver) (r : ℕ) (n : NodeView K) (was : FleetView K) → HasCome tells g d was → slice_get was.nodes r ≡ Some n → OthersAreFew r was.nodes
      → (clock : ℕ) → length n.history ≡ most_entries → StopsAtFull g r (crashes g r clock d) was.run

-- ---- it only grows

entry_more : {K : Type 0} (told : Option Contents) (clock : ℕ) (n m : NodeView K) → Crashes told clock n m → length n.history ≤ length m.history
entry_more told clock n m c = more (length n.history) (length m.history) (ap (λ (x : NodeView _). length x.history) c.node ∙ length-append n.history _)
  where
    more : (k l : ℕ) → l ≡ k + 1 → k ≤ l
    more k l e = omega (arith, e)

crash_grows : {K : Type 0} (tells : K → StoreView) (clock : ℕ) (done : Answer) (n m : NodeView K) → OnOk done (Crashes (told_of (tells n.keeper).contents (tells n.keeper).parts) clock n m) → OnErr done (m ≡ n)
    → length n.history ≤ length m.history
crash_grows tells clock (Ok x) n m ok err = entry_more (told_of (tells n.keeper).contents (tells n.keeper).parts) clock n m ok
crash_grows tells clock (Err e) n m ok err = same (length n.history) (length m.history) (ap (λ (x : NodeView _). length x.history) err)
  where
    same : (k l : ℕ) → l ≡ k → k ≤ l
    same k l e = omega (arith, e)

-- the node has no fewer entries after the call and the carrying of frames
pub crashed_within : {K : Type 0} (tells : K → StoreView) (r clock had : ℕ) (done : Answer) (was up : FleetView K) (turned carried : List (NodeView K)) → Raises tells r had was up → r < length was.nodes
    → AtNode r up.nodes turned (λ n m. OnOk done (Crashes (told_of (tells n.keeper).contents (tells n.keeper).parts) clock n m)) → AtNode r up.nodes turned (λ n m. OnErr done (m ≡ n))
    → length turned ≡ length up.nodes → AtNode r turned carried (λ n m. m ≡ joined.with_links n m.parts.links) → (x : NodeView K) → slice_get carried r ≡ Some x → had ≤ length x.history
crashed_within {K} tells r clock had done was up turned carried raises there ok err count rest x at_x =
    let first : (n : NodeView K) × (slice_get was.nodes r ≡ Some n) = slice_get-within was.nodes r there in
    let second : (p : NodeView K) × (slice_get up.nodes r ≡ Some p) = slice_get-within up.nodes r (subst (λ (c : ℕ). r < c) (sym raises.count) there) in
    let third : (m : NodeView K) × (slice_get turned r ≡ Some m) = slice_get-within turned r (subst (λ (c : ℕ). r < c) (sym (count ∙ raises.count)) there) in
    let had_is : had ≡ length second.0.history = raises.entries first.0 second.0 first.1 second.1 ∙ ap (λ (y : NodeView K). length y.history) (sym (raises.node first.0 second.0 first.1 second.1)) in
    subst (λ (k : ℕ). k ≤ length x.history) (sym had_is)
    (subst (λ (k : ℕ). length second.0.history ≤ k) (ap (λ (y : NodeView K). length y.history) (sym (rest third.0 x third.1 at_x)))
    (crash_grows tells clock done second.0 third.0 (ok second.0 third.0 second.1 third.1) (err second.0 third.0 second.1 third.1)))

-- ---- the driver's crash

-- a history with no fewer entries than it may have, and no more, is full
just_full : (most k : ℕ) → nat_le most k ≡ true → k ≤ most → k ≡ most
just_full most k full few = grind (arith, nat_tests)

module _ {K : Type 0} (tells : K → StoreView) (laws : CrashLaws tells) (r clock had : ℕ) (done : Answer) (was up : FleetView K) (turned carried : List (NodeView K)) (after : FleetView K) (there : r < length was.nodes) (crashed : IsCrashed tells r clock had done was up turned carried after) where
  -- the node before the call and after it
  around : (g : DriverInput) (d : Driver) → HasCome tells g d was → IsThere r (CrashesNode tells clock done) was after g d
  around g d come = is_there tells r had (CrashesNode tells clock done) was up turned carried after there crashed.call crashed.holds g d come

  pub crashes_on : IsEnded done → IfErr done (λ e. (e ≡ refusals.Full) ⊎ (e ≡ refusals.NoMemory)) → ((g : DriverInput) (d : Driver) → IsKnown g r → StaysSound g d (crashes g r clock d))
      → GoesOn tells (λ g d. crashes g r clock d) was after
  crashes_on ended refused sound g d stands =
      let t = around g d stands.come in
      record {
        come = laws.comes g d r clock t.before t.left was after stands.come t.one t.well
            (subst (λ (a : Answer). OnOk a (Crashes (told_of (tells t.before.keeper).contents (tells t.before.keeper).parts) clock (with_newest d t.before) t.left)) (no_fault done refused ended) t.holds.ok)
            crashed.near t.early t.few (sound g d t.well.known);
        decides = stands.decides;
      }

  -- ---- the history is full

  pub crash_ends : done ≡ Err refusals.Full → EndsAtFull tells r (λ g d. crashes g r clock d) was after
  crash_ends full g d stands =
      let t = around g d stands.come in
      let same : t.left ≡ with_newest d t.before = subst (λ (a : Answer). OnErr a (t.left ≡ with_newest d t.before)) full t.holds.err in
      let whole : length t.before.history ≡ most_entries = just_full most_entries (length t.before.history) (t.holds.full full) (each_at (λ (n : NodeView K). length n.history ≤ most_entries) was.nodes r t.before crashed.few t.at) in
      subst (λ (run : Run). StopsAtFull g r (crashes g r clock d) run) (sym (run_stays t.before t.left was after t.one.run (ap (λ (y : NodeView K). y.history) same)))
      (laws.full g d r t.before was stands.come t.at (few_others r was was crashed.few (λ q other. refl)) clock whole)
