-- A fleet goes on where the driver does.
use Rattle.std.proofs.Common.{◌≡◌, ◌≢◌, ℕ, ◌<◌, ◌≤◌, ◌^◌, Bool, true, false, List, [], Option, Some, length, refl, sym, ap, ◌∙◌, subst}
use Rattle.std.specs.Prelude.{◌==◌, ◌++◌, drop, reverse, slice_get}
use Rattle.std.specs.Option.{option_map_or}
use Rattle.std.proofs.lemmas.Option.{same_Some}
use Rattle.std.proofs.lemmas.Bool.{eqb-false, eqb-true}
use Rattle.annex_base.specs.Lists.{Each}
use Rattle.link_ring.specs.Ends.{EndView}
use Rattle.run_data.specs.declared.entry.Entry.{Entry}
use Rattle.node_model.specs.Ends.{EndName}
use Rattle.node_ends.specs.Ends.{link_at}
use Rattle.driver_model.specs.Driver.{Driver, DriverInput}
use Rattle.driver_model.specs.Scripts.{HasBoundedPast}
use Rattle.driver_model.specs.Sound.{IsSound, StaysSound}
use Rattle.link_flights.specs.Flights.{IsEndIn}
use Rattle.link_flights.specs.Heard.{HeardSo}
use Rattle.link_flights.specs.Words.{AreWorded}
use Rattle.joined_nodes.specs.Running.{given_of, words_at}
use Rattle.joined_nodes.specs.Nodes.{NodeView}
use Rattle.fleet_model.specs.Fleets.{FleetView, HasCome, HasGiven, IsNodeOf, links_at}
use Rattle.fleet_model.specs.Steps.{OneGoesOn}
use Rattle.joined_nodes.specs.Stored.{StoreView}
use Rattle.fleet_model.proofs.Going.{GoesOnQuietly, entries_go_on, goes_within, others_are}
use Rattle.fleet_model.proofs.Hearing.{WordLaws, others_hear, words_stay}
use Rattle.fleet_model.proofs.Noting.{IsRaised, is_node}
use Rattle.fleet_model.proofs.Pathing.{given_on}

-- what holds of the node of r and of each other one holds of each
pub by_number : {X : Type 0} (P : ℕ → X → Type 0) (xs : List X) (r : ℕ) (m : X) → slice_get xs r ≡ Some m → P r m → ((q : ℕ) (x : X) → q ≢ r → slice_get xs q ≡ Some x → P q x)
    → (q : ℕ) (x : X) → slice_get xs q ≡ Some x → P q x
by_number {X} P xs r m there own others q x at = go (q == r) refl
  where
    go : (b : Bool) → (q == r) ≡ b → P q x
    go true e =
        let is : q ≡ r = eqb-true q r e in
        let node : m ≡ x = same_Some m x (sym there ∙ (ap (slice_get xs) (sym is) ∙ at)) in
        subst (λ (p : ℕ). P p x) (sym is) (subst (P r) node own)
    go false e = others q x (eqb-false q r e) at

abbrev pub ends_in : {K : Type 0} → Option (NodeView K) → List EndView
ends_in {K} o = option_map_or (λ (n : NodeView K). n.parts.links) o []

-- the ends of each are as they were
pub links_stay : {K : Type 0} (r q : ℕ) (n m : NodeView K) (was after : FleetView K) → OneGoesOn r n m was after → m.parts.links ≡ n.parts.links → links_at after.nodes q ≡ links_at was.nodes q
links_stay {K} r q n m was after step links = go (q == r) refl
  where
    go : (b : Bool) → (q == r) ≡ b → links_at after.nodes q ≡ links_at was.nodes q
    go true e =
        let is : q ≡ r = eqb-true q r e in
        subst (λ (p : ℕ). links_at after.nodes p ≡ links_at was.nodes p) (sym is) (ap ends_in step.there ∙ (links ∙ sym (ap ends_in step.before)))
    go false e = ap ends_in (step.others q (eqb-false q r e))

pub stood_before : {K : Type 0} (r q : ℕ) (n m : NodeView K) (was after : FleetView K) → OneGoesOn r n m was after → m.parts.links ≡ n.parts.links
    → (a : EndName) (v : EndView) → link_at (links_at after.nodes q) a ≡ Some v → link_at (links_at was.nodes q) a ≡ Some v
stood_before r q n m was after step links a v at = ap (λ (xs : List EndView). link_at xs a) (sym (links_stay r q n m was after step links)) ∙ at

pub came : {K : Type 0} → WordLaws → (tells : K → StoreView) (g : DriverInput) (d d' : Driver) (r : ℕ) (n m : NodeView K) (was after : FleetView K)
    → HasCome tells g d was → OneGoesOn r n m was after → GoesOnQuietly r d d' → IsRaised tells g d' r m → m.parts.links ≡ n.parts.links → HeardSo d'.past r (words_at m.parts.jobs.running)
    → (IsSound g d' → Each (λ j. HasGiven d' r (given_of j)) m.parts.jobs.running) → m.time ≤ 1000000000000 → m.count < 2 ^ 62 → StaysSound g d d'
    → HasCome tells g d' after
came {K} laws tells g d d' r n m was after h step on own links heard paths early few sound = record {
  run = step.run ∙ ((λ i. record (h.run i) { entries = (h.run i).entries ++ drop (length n.history) m.history })
      ∙ (λ i. record { repos = g.repos; entries = sym entries i; tree = sym on.on.tree i; marks = sym on.on.marks i }));
  sound = sound h.sound fits;
  fits = fits;
  count = step.count ∙ h.count;
  each = by_number (λ q x. IsNodeOf tells g d' q x) after.nodes r m step.there (is_node tells g d' r m own heard (paths (sound h.sound fits)))
      (λ q x apart at. others_are tells g d d' r q x apart on.on (h.each q x (sym (step.others q apart) ∙ at))
      (subst (λ (past : List Entry). HeardSo past q (words_at x.parts.jobs.running)) (sym on.on.past) (others_hear laws r q (words_at x.parts.jobs.running) on.on.more d.past apart on.on.own (h.each q x (sym (step.others q apart) ∙ at)).heard)) (given_on laws g d d' q on.on.more (sound h.sound fits) on.on.past on.on.tree));
  ends = λ q a v q_in a_in apart at.
      subst (λ (xs : List _). IsEndIn xs q a v) (sym on.flights)
      (h.ends q a v q_in a_in apart (stood_before r q n m was after step links a v at));
  words = λ q a v q_in a_in apart client at.
      subst (λ (past : List Entry). AreWorded past q a v.at_hand) (sym on.on.past)
      (words_stay laws (length g.repos) (links_at was.nodes) on.on.more d.past on.quiet h.words q a v q_in a_in apart client (stood_before r q n m was after step links a v at));
  selves = λ q a v at_self at. h.selves q a v at_self (stood_before r q n m was after step links a v at);
} where
  entries : reverse d'.past ≡ reverse d.past ++ drop (length n.history) m.history
  entries = entries_go_on r d d' n.history m.history on.on (h.each r n step.before).history own.entries.history

  fits : HasBoundedPast d'
  fits = goes_within r d d' h.fits on.on (subst (λ (t : ℕ). t ≤ 1000000000000) own.entries.time early) (subst (λ (c : ℕ). c < 2 ^ 62) own.entries.count few)
