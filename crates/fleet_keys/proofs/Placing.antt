-- A content that a node places: a fleet goes on as the driver does.
use Rattle.std.proofs.Common.{◌≡◌, ℕ, ◌<◌, ◌≤◌, ◌^◌, List, [], inl, inr, length, subst, true, Option, Some, None, refl, arith}
use Rattle.std.specs.Prelude.{IfErr, OnOk, IfSome}
use Rattle.driver_model.specs.Driver.{Driver, DriverInput, set_up_of}
use Rattle.driver_model.specs.Scripts.{IsKnown}
use Rattle.driver_model.specs.ScriptSteps.{has}
use Rattle.driver_model.specs.Sound.{StaysSound}
use Rattle.fleet_entries.specs.Calls.{IsDoneBy, StopsAt, to_place}
use Rattle.fleet_entries.specs.Nodes.{IsState, NodeView, state_of, told_of}
use Rattle.fleet_entries.specs.Placing.{IsPlaced}
use Rattle.fleet_entries.specs.Stored.{StoreView}
use Rattle.fleet_entries.specs.Fleets.{FleetView, HasCome}
use Rattle.fleet_entries.specs.Steps.{OneGoesOn, with_newest}
use Rattle.fleet_entries.specs.AtDriver.{GoesOn}
use Rattle.std.proofs.lemmas.Bool.Decides.{nat_tests}
use Rattle.annex_key.specs.View.{size_part}
use Rattle.key_verify.specs.Matching.{MatchesKey}
use Rattle.run_data.specs.Repos.{fits_size}
use Rattle.fleet_entries.specs.declared.NodeRefused.TheVariants as refusals
use Rattle.fleet_entries.proofs.Ended.{Answer, IsEnded}
use Rattle.fleet_entries.proofs.Called.{IsCalled, goes_on}

-- the law of a content that was placed
abbrev pub ContentLaw : {K : Type 0} → (K → StoreView) → Type 0
ContentLaw {K} tells = (g : DriverInput) (d : Driver) (r : ℕ) (n m : NodeView K) (was after : FleetView K) (key bytes : List ℕ) → HasCome tells g d was → OneGoesOn r n m was after
    → IsState (set_up_of g d r) n.parts n.branch n.owed (told_of (tells n.keeper).contents (tells n.keeper).parts) (state_of (set_up_of g d r) n.history)
    → IsPlaced key bytes (tells n.keeper).contents (tells n.keeper).parts (tells m.keeper).contents (with_newest d n) m
    → IsDoneBy to_place key [] n.parts.table (tells n.keeper).contents (tells n.keeper).parts (tells m.keeper).parts (tells n.keeper).failing (tells m.keeper).failing
    → length bytes < 2 ^ 62 → m.time ≤ 1000000000000 → m.count < 2 ^ 62 → StaysSound g d (has g r key bytes d) → HasCome tells g (has g r key bytes d) after

-- the law of one that stopped at a call of the store
abbrev pub StopLaw : {K : Type 0} → (K → StoreView) → Type 0
StopLaw {K} tells = (g : DriverInput) (d : Driver) (r : ℕ) (n m : NodeView K) (was after : FleetView K) (key bytes : List ℕ) → HasCome tells g d was → OneGoesOn r n m was after
    → IsState (set_up_of g d r) n.parts n.branch n.owed (told_of (tells n.keeper).contents (tells n.keeper).parts) (state_of (set_up_of g d r) n.history)
    → StopsAt to_place key bytes (tells n.keeper).contents (tells m.keeper).contents (tells n.keeper).parts (tells m.keeper).parts (tells n.keeper).failing (tells m.keeper).failing refusals.StoreFault (with_newest d n) m
    → length bytes < 2 ^ 62 → m.time ≤ 1000000000000 → m.count < 2 ^ 62 → StaysSound g d (has g r key bytes d) → HasCome tells g (has g r key bytes d) after

-- what a call of a node that places a content makes of it, where it answers so
pub record PlacesContent {K : Type 0} (tells : K → StoreView) (key bytes : List ℕ) (done : Answer) (n m : NodeView K) : Type 0 where
  pub placed : OnOk done (IsPlaced key bytes (tells n.keeper).contents (tells n.keeper).parts (tells m.keeper).contents n m)
  pub by : OnOk done (IsDoneBy to_place key [] n.parts.table (tells n.keeper).contents (tells n.keeper).parts (tells m.keeper).parts (tells n.keeper).failing (tells m.keeper).failing)
  pub stops : IfErr done (λ e. StopsAt to_place key bytes (tells n.keeper).contents (tells m.keeper).contents (tells n.keeper).parts (tells m.keeper).parts (tells n.keeper).failing (tells m.keeper).failing e n m)

pub has_goes : {K : Type 0} (tells : K → StoreView) (r : ℕ) (was up after : FleetView K) (key bytes : List ℕ) (done : Answer) → ContentLaw tells → StopLaw tells → r < length was.nodes
    → IsCalled tells r was up after (PlacesContent tells key bytes done) → length bytes < 2 ^ 62
    → IsEnded done → ((g : DriverInput) (d : Driver) → IsKnown g r → StaysSound g d (has g r key bytes d)) → GoesOn tells (λ g d. has g r key bytes d) was after
has_goes tells r was up after key bytes done law stop there call small (inl e) sound =
    goes_on tells (λ g d. has g r key bytes d) r was up after (PlacesContent tells key bytes done) there call
    (λ g d come known s.
    law g d r s.before s.left was after key bytes come s.goes (s.whole.state (set_up_of g d r) (come.each r s.before s.goes.before).setup)
    (subst (λ (a : Answer). OnOk a (IsPlaced key bytes (tells s.before.keeper).contents (tells s.before.keeper).parts (tells s.left.keeper).contents (with_newest d s.before) s.left)) e s.holds.placed)
    (subst (λ (a : Answer). OnOk a (IsDoneBy to_place key [] s.before.parts.table (tells s.before.keeper).contents (tells s.before.keeper).parts (tells s.left.keeper).parts (tells s.before.keeper).failing (tells s.left.keeper).failing)) e s.holds.by)
    small s.early s.counted (sound g d known))
has_goes tells r was up after key bytes done law stop there call small (inr e) sound =
    goes_on tells (λ g d. has g r key bytes d) r was up after (PlacesContent tells key bytes done) there call
    (λ g d come known s.
    stop g d r s.before s.left was after key bytes come s.goes (s.whole.state (set_up_of g d r) (come.each r s.before s.goes.before).setup)
    (subst (λ (a : Answer). IfErr a (λ x. StopsAt to_place key bytes (tells s.before.keeper).contents (tells s.left.keeper).contents (tells s.before.keeper).parts (tells s.left.keeper).parts (tells s.before.keeper).failing (tells s.left.keeper).failing x (with_newest d s.before) s.left)) e s.holds.stops)
    small s.early s.counted (sound g d known))

-- the same, where the node was given a copy of the bytes
pub has_goes_so : {K : Type 0} (tells : K → StoreView) (r : ℕ) (was up after : FleetView K) (key bytes bytes' : List ℕ) (done : Answer) → bytes' ≡ bytes → ContentLaw tells → StopLaw tells → r < length was.nodes
    → IsCalled tells r was up after (PlacesContent tells key bytes' done) → length bytes < 2 ^ 62
    → IsEnded done → ((g : DriverInput) (d : Driver) → IsKnown g r → StaysSound g d (has g r key bytes d)) → GoesOn tells (λ g d. has g r key bytes d) was after
has_goes_so {K} tells r was up after key bytes bytes' done same law stop there call small ended sound =
    has_goes tells r was up after key bytes done law stop there (subst (λ (b : List ℕ). IsCalled tells r was up after (PlacesContent tells key b done)) same call) small ended sound

-- the content of a key has its size
fits : (o : Option ℕ) (n : ℕ) → IfSome o (λ size. size ≡ n) → fits_size o n ≡ true
fits None n is = refl
fits (Some size) n is = grind (arith, nat_tests)

pub content_fits : (key bytes : List ℕ) → MatchesKey key bytes → fits_size (size_part key) (length bytes) ≡ true
content_fits key bytes right = fits (size_part key) (length bytes) right.size
