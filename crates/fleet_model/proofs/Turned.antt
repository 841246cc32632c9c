-- A fleet whose node made a turn has come to where the driver is after its own.
use Rattle.std.proofs.Common.{◌≡◌, ◌≢◌, ℕ, ◌<◌, ◌≤◌, ◌^◌, Bool, true, false, List, [], ◌∷◌, ◌++◌, Some, length, refl, sym, ap, ◌∙◌, subst, le_refl, le-add_right}
use Rattle.std.specs.Prelude.{◌==◌, drop, reverse, slice_get}
use Rattle.std.proofs.lemmas.Bool.{eqb-false, eqb-true}
use Rattle.annex_base.specs.Lists.{Each}
use Rattle.annex_base.proofs.Conditions.{eqb_refl}
use Rattle.link_ring.specs.Ends.{EndView}
use Rattle.run_data.specs.declared.entry.Entry.{Entry}
use Rattle.run_model.specs.Past.{now}
use Rattle.run_model.specs.Run.{IsSmall}
use Rattle.node_model.specs.Look.{Effect, entry_of}
use Rattle.link_flights.specs.Fleets.{AreEndsIn}
use Rattle.driver_model.specs.Driver.{Driver, Flight, DriverInput, adds, newest_count, set_up_of, state_at}
use Rattle.driver_model.specs.Finding.{after_step, driver_at_turn}
use Rattle.driver_model.specs.Scripts.{HasBoundedPast}
use Rattle.driver_model.specs.Sound.{IsSound, StaysSound}
use Rattle.driver_model.specs.Turning.{bytes_taken, plain_look, turn}
use Rattle.joined_nodes.specs.Nodes.{NodeView}
use Rattle.joined_nodes.specs.Stored.{StoreView}
use Rattle.link_flights.specs.Heard.{HeardSo}
use Rattle.link_flights.specs.Words.{AreAllWorded}
use Rattle.joined_nodes.specs.Running.{given_of, words_at}
use Rattle.fleet_model.specs.Fleets.{AreUnused, FleetView, HasCome, HasGiven, IsNodeOf, links_at}
use Rattle.fleet_model.specs.Steps.{OneTurns, with_links}
use Rattle.fleet_model.proofs.Going.{GoesOn, entries_go_on, goes_within, others_are}
use Rattle.fleet_model.proofs.Hearing.{WordLaws, others_hear}
use Rattle.fleet_model.proofs.Noting.{IsRaised, is_node}
use Rattle.fleet_model.proofs.Pathing.{given_on}
use Rattle.fleet_model.proofs.TurnStore.{ChangesStore, store_changes}

-- a node is what the driver says of it, whatever its ends are
pub linked : {K : Type 0} (tells : K → StoreView) (g : DriverInput) (d : Driver) (r : ℕ) (n : NodeView K) (links : List EndView) → IsNodeOf tells g d r n → IsNodeOf tells g d r (with_links n links)
linked tells g d r n links is = record { setup = is.setup; history = is.history; branch = is.branch; store = is.store; time = is.time; count = is.count; heard = is.heard; paths = is.paths }

-- what holds of the node that made a turn and of each other one, whatever their ends are, holds of each
pub each_turned : {K : Type 0} (P : ℕ → NodeView K → Type 0) (r : ℕ) (n m : NodeView K) (was after : FleetView K) → OneTurns r n m was after → ((links : List EndView) → P r (with_links m links))
    → ((q : ℕ) (x : NodeView K) (links : List EndView) → q ≢ r → slice_get was.nodes q ≡ Some x → P q (with_links x links)) → (q : ℕ) (x : NodeView K) → slice_get after.nodes q ≡ Some x → P q x
each_turned {K} P r n m was after step own others q x at = go (q == r) refl
  where
    go : (b : Bool) → (q == r) ≡ b → P q x
    go true e =
        let here : q ≡ r = eqb-true q r e in
        let node : x ≡ with_links m x.parts.links = step.there x (ap (slice_get after.nodes) (sym here) ∙ at) in
        subst (λ (p : ℕ). P p x) (sym here) (subst (P r) (sym node) (own x.parts.links))
    go false e =
        let apart : q ≢ r = eqb-false q r e in
        let y = step.others q x apart at in
        subst (P q) (sym y.2) (others q y.0 x.parts.links apart y.1)

-- by its step r alone goes on
pub turn_goes : (g : DriverInput) (d : Driver) (r : ℕ) (m : Effect) → IsSmall m.kind → (d.largest < 2 ^ 62 → (after_step g r d m).largest < 2 ^ 62) → GoesOn r d (after_step g r d m)
turn_goes g d r m small large = record {
  more = e ∷ [];
  past = change.past;
  own = (eqb_refl r, tt);
  tree = change.tree;
  marks = change.marks;
  stores = λ q v apart is. change.stores q v apart (record { contents = is.contents; parts = is.parts; failing = is.failing });
  at = ap now change.past;
  counted = subst (λ (past : List Entry). newest_count d.past ≤ newest_count past) (sym change.past) (le-add_right (newest_count d.past) 1);
  bounds = (record { time_is = refl; counted = subst (λ (past : List Entry). e.count ≤ newest_count past) (sym change.past) (le_refl e.count); small = small }, tt);
  large = large;
} where
  e : Entry
  e = entry_of r (plain_look (set_up_of g d r) (driver_at_turn g r d)) m

  d1 : Driver
  d1 = adds (state_at g d r) r e (driver_at_turn g r d)

  change : ChangesStore r d1 (after_step g r d m)
  change = store_changes (state_at g d r) r m (bytes_taken r m.taken (driver_at_turn g r d)) m.kind d1

pub turned : {K : Type 0} → WordLaws → (tells : K → StoreView) (g : DriverInput) (d : Driver) (r : ℕ) (n m : NodeView K) (made : Effect) (was after : FleetView K)
    → HasCome tells g d was → OneTurns r n m was after → turn g r d ≡ after_step g r d made → IsRaised tells g (after_step g r d made) r m
    → AreEndsIn (adds (state_at g d r) r (entry_of r (plain_look (set_up_of g d r) (driver_at_turn g r d)) made) (driver_at_turn g r d)).flights (length g.repos) (links_at after.nodes)
    → AreAllWorded (after_step g r d made).past (length g.repos) (links_at after.nodes) → HeardSo (after_step g r d made).past r (words_at m.parts.jobs.running) → Each (λ j. HasGiven (after_step g r d made) r (given_of j)) m.parts.jobs.running
    → AreUnused (links_at after.nodes) → IsSmall made.kind → (d.largest < 2 ^ 62 → (after_step g r d made).largest < 2 ^ 62) → m.time ≤ 1000000000000 → m.count < 2 ^ 62 → StaysSound g d (turn g r d)
    → HasCome tells g (turn g r d) after
turned {K} laws tells g d r n m made was after h step is own ends words heard paths selves small large early few sound =
    subst (λ (x : Driver). HasCome tells g x after) (sym is)
    (record {
      run = step.run ∙ ((λ i. record (h.run i) { entries = (h.run i).entries ++ drop (length n.history) m.history })
          ∙ (λ i. record { repos = g.repos; entries = sym entries i; tree = sym on.tree i; marks = sym on.marks i }));
      sound = sound_after;
      fits = fits;
      count = step.count ∙ h.count;
      each = each_turned (λ q x. IsNodeOf tells g d' q x) r n m was after step (λ links. linked tells g d' r m links (is_node tells g d' r m own heard paths))
          (λ q x links apart at. linked tells g d' q x links (others_are tells g d d' r q x apart on (h.each q x at)
          (subst (λ (past : List Entry). HeardSo past q (words_at x.parts.jobs.running)) (sym on.past) (others_hear laws r q (words_at x.parts.jobs.running) on.more d.past apart on.own (h.each q x at).heard)) (given_on laws g d d' q on.more sound_after on.past on.tree)));
      ends = subst (λ (xs : List Flight). AreEndsIn xs (length g.repos) (links_at after.nodes)) (sym change.flights) ends;
      words = words;
      selves = selves;
    })
  where
    d' : Driver
    d' = after_step g r d made

    on : GoesOn r d d'
    on = turn_goes g d r made small large

    change : ChangesStore r (adds (state_at g d r) r (entry_of r (plain_look (set_up_of g d r) (driver_at_turn g r d)) made) (driver_at_turn g r d)) d'
    change = store_changes (state_at g d r) r made (bytes_taken r made.taken (driver_at_turn g r d)) made.kind
        (adds (state_at g d r) r (entry_of r (plain_look (set_up_of g d r) (driver_at_turn g r d)) made) (driver_at_turn g r d))

    fits : HasBoundedPast d'
    fits = goes_within r d d' h.fits on (subst (λ (t : ℕ). t ≤ 1000000000000) own.entries.time early) (subst (λ (c : ℕ). c < 2 ^ 62) own.entries.count few)

    sound_after : IsSound g d'
    sound_after = subst (StaysSound g d) is sound h.sound fits

    entries : reverse d'.past ≡ reverse d.past ++ drop (length n.history) m.history
    entries = entries_go_on r d d' n.history m.history on (h.each r n step.before).history own.entries.history
