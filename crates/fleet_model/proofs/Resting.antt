-- A fleet whose node had no step ready, and no frame to drop, has come to where the driver is without any frame being carried.
use Rattle.std.proofs.Common.{◌≡◌, ◌≢◌, ℕ, ◌<◌, Bool, true, false, not, List, Option, Some, None, length, map, refl, sym, ap, ◌∙◌, subst}
use Rattle.std.specs.Prelude.{slice_get}
use Rattle.std.proofs.lemmas.Option.{same_Some, slice_get_within}
use Rattle.annex_base.proofs.Lists.{slice_get-within}
use Rattle.link_ring.specs.Ends.{EndView, after_carry, after_drop}
use Rattle.node_model.specs.Ends.{EndName}
use Rattle.node_ends.specs.Ends.{link_at}
use Rattle.node_ends.specs.Joined.{BothPaired, end_with, link_carried}
use Rattle.driver_model.specs.Driver.{Driver, DriverInput, set_up_of}
use Rattle.driver_model.specs.Turning.{turn}
use Rattle.driver_model.specs.Ways.{other_end}
use Rattle.link_flights.specs.Fleets.{AreAllCarried}
use Rattle.link_flights.specs.Flights.{IsEndIn}
use Rattle.joined_nodes.specs.Nodes.{NodeView}
use Rattle.joined_nodes.specs.Stored.{StoreView}
use Rattle.joined_nodes.specs.Turning.{IsIdle}
use Rattle.joined_nodes.specs.Joined.{AreNodes}
use Rattle.fleet_model.specs.Fleets.{FleetView, HasCome, links_at}
use Rattle.fleet_model.specs.Steps.{OneGoesOn, OneTurns, with_newest, with_links}
use Rattle.fleet_model.specs.Turns.{StandsWell}
use Rattle.fleet_model.proofs.Coming.{ends_in, links_stay}

-- ---- the laws

-- carrying changes no end that is as the flights tell
abbrev pub StaysCarried : Type 0
StaysCarried = (d : Driver) (r : ℕ) (a : EndName) (v w : EndView) → IsEndIn d.flights r a v → IsEndIn d.flights a.peer (other_end r a) w → after_carry v w ≡ v

-- an idle turn after which frames are carried
abbrev pub TurnsIdly : Type 0 → Type 0
TurnsIdly K = (tells : K → StoreView) (g : DriverInput) (d : Driver) (r : ℕ) (n m : NodeView K) (was after : FleetView K)
    → HasCome tells g d was → OneTurns r n m was after → StandsWell g d r n
    → m ≡ with_links (with_newest d n) (map after_drop n.parts.links) → IsIdle (with_newest d n) (set_up_of g d r) → HasCome tells g (turn g r d) after

-- ---- two ends

carried_already : (o p : Option EndView) → BothPaired o p → ((v w : EndView) → o ≡ Some v → p ≡ Some w → after_carry v w ≡ v) → o ≡ link_carried o p
carried_already None p both stays = absurd both
carried_already (Some v) None both stays = absurd both
carried_already (Some v) (Some w) both stays = ap (λ (x : EndView). Some x) (sym (stays v w refl refl))

other_is : (q p slot : ℕ) (client : Bool) → end_with q slot (not client) ≡ other_end q (end_with p slot client)
other_is q p slot true = refl
other_is q p slot false = refl

-- ---- all ends of a fleet that has come to where the driver is

module _ {K : Type 0} (law : StaysCarried) (tells : K → StoreView) (g : DriverInput) (d : Driver) (was : FleetView K) (h : HasCome tells g d was) (joined : AreNodes was.nodes) where
  two_carried : (q p slot : ℕ) (client : Bool) → q < length was.nodes → p < length was.nodes → p ≢ q → slot < 4
      → link_at (links_at was.nodes q) (end_with p slot client) ≡ link_carried (link_at (links_at was.nodes q) (end_with p slot client)) (link_at (links_at was.nodes p) (end_with q slot (not client)))
  two_carried q p slot client known other apart low =
      carried_already (link_at (links_at was.nodes q) here) (link_at (links_at was.nodes p) there) both (λ v w at_v at_w. law d q here v w
      (h.ends q here v (counted q known) (counted p other) apart at_v)
      (subst (λ (b : EndName). IsEndIn d.flights p b w) (other_is q p slot client) (h.ends p there w (counted p other) (counted q known) (λ e. apart (sym e)) at_w)))
    where
      here : EndName
      here = end_with p slot client

      there : EndName
      there = end_with q slot (not client)

      counted : (i : ℕ) → i < length was.nodes → i < length g.repos
      counted i less = subst (λ (count : ℕ). i < count) h.count less

      x : (n : NodeView K) × (slice_get was.nodes q ≡ Some n)
      x = slice_get-within was.nodes q known

      y : (n : NodeView K) × (slice_get was.nodes p ≡ Some n)
      y = slice_get-within was.nodes p other

      both : BothPaired (link_at (links_at was.nodes q) here) (link_at (links_at was.nodes p) there)
      both = subst (λ (links : List EndView). BothPaired (link_at links here) (link_at (links_at was.nodes p) there)) (sym (ap ends_in x.1))
          (subst (λ (links : List EndView). BothPaired (link_at x.0.parts.links here) (link_at links there)) (sym (ap ends_in y.1))
          (joined.joined q p x.0 y.0 (λ e. apart (sym e)) x.1 y.1 slot client low))

  all_carried : (r : ℕ) → r < length was.nodes → AreAllCarried (length was.nodes) r (links_at was.nodes r) (links_at was.nodes) (links_at was.nodes)
  all_carried r known = record {
    own = λ q slot client within other low. two_carried r q slot client known within other low;
    theirs = λ q slot client within other low. two_carried q r slot client within known (λ e. other (sym e)) low;
    others = λ q b within other apart. refl;
  }

-- ---- a turn without

pub rested : {K : Type 0} → StaysCarried → TurnsIdly K → (tells : K → StoreView) (g : DriverInput) (d : Driver) (r : ℕ) (n m : NodeView K) (was after : FleetView K)
    → HasCome tells g d was → OneGoesOn r n m was after → AreNodes was.nodes → StandsWell g d r n → map after_drop n.parts.links ≡ n.parts.links
    → m ≡ with_newest d n → IsIdle (with_newest d n) (set_up_of g d r) → HasCome tells g (turn g r d) after
rested {K} law idly tells g d r n m was after h on joined well kept but idle = idly tells g d r n m was after h one well (but ∙ links_kept) idle
  where
    links_kept : with_newest d n ≡ with_links (with_newest d n) (map after_drop n.parts.links)
    links_kept = ap (with_links (with_newest d n)) (sym kept)

    mine : m.parts.links ≡ links_at was.nodes r
    mine = ap (λ (x : NodeView K). x.parts.links) but ∙ sym (ap ends_in on.before)

    now : (q : ℕ) → links_at after.nodes q ≡ links_at was.nodes q
    now q = links_stay r q n m was after on (ap (λ (x : NodeView K). x.parts.links) but)

    carried : AreAllCarried (length was.nodes) r m.parts.links (links_at was.nodes) (links_at after.nodes)
    carried = subst (λ (ends : ℕ → List EndView). AreAllCarried (length was.nodes) r m.parts.links (links_at was.nodes) ends) (λ i q. sym (now q) i)
        (subst (λ (links : List EndView). AreAllCarried (length was.nodes) r links (links_at was.nodes) (links_at was.nodes)) (sym mine)
        (all_carried law tells g d was h joined r (slice_get_within was.nodes r n on.before)))

    node_there : (x : NodeView K) → slice_get after.nodes r ≡ Some x → x ≡ with_links m x.parts.links
    node_there x at = let e : x ≡ m = same_Some x m (sym at ∙ on.there) in e ∙ ap (λ (y : NodeView K). with_links m y.parts.links) (sym e)

    one : OneTurns r n m was after
    one = record {
      before = on.before;
      there = node_there;
      others = λ q x other at. (x, sym (on.others q other) ∙ at, refl);
      count = on.count;
      carried = carried;
      own = λ a own. ap (λ (links : List EndView). link_at links a) (now r ∙ sym mine);
      run = on.run;
    }
