-- A fleet whose node had no step ready has come to where the driver is after its own turn.
use Rattle.std.proofs.Common.{◌≡◌, ℕ, ◌+◌, true, [], ◌++◌, None, length, refl, sym, ap, ◌∙◌, subst, le_refl}
use Rattle.std.specs.Prelude.{drop, flat_map, is_some, reverse}
use Rattle.std.specs.Option.{option_to_list}
use Rattle.annex_base.specs.Lists.{Each}
use Rattle.node_model.specs.After.{AgreesAtDrops}
use Rattle.node_model.specs.AnyTime.{all_ends}
use Rattle.node_model.specs.Ends.{EndName}
use Rattle.node_model.specs.Look.{Look}
use Rattle.node_model.specs.SetUp.{SetUp}
use Rattle.node_model.specs.State.{State}
use Rattle.node_model.specs.Step.{step}
use Rattle.node_ends.specs.Ends.{hand_at, link_at, room_at}
use Rattle.joined_nodes.specs.Parts.{AreParts}
use Rattle.driver_model.specs.Driver.{Driver, DriverInput, frames_to, has_room, newest_count, set_up_of, state_at}
use Rattle.driver_model.specs.Finding.{driver_at_turn}
use Rattle.driver_model.specs.Sound.{IsSound, StaysSound}
use Rattle.driver_model.specs.Turning.{at_hand, plain_look, turn}
use Rattle.link_flights.specs.Fleets.{AreEndsIn, AreOwnEndsIn}
use Rattle.joined_nodes.specs.Nodes as nodes
use Rattle.joined_nodes.specs.Nodes.{NodeView}
use Rattle.joined_nodes.specs.Stored.{StoreView}
use Rattle.joined_nodes.specs.Turning.{IsIdle}
use Rattle.link_flights.specs.Heard.{HeardSo}
use Rattle.link_flights.specs.Words.{AreAllWorded}
use Rattle.joined_nodes.specs.Running.{HadPathsOf, given_of, words_at}
use Rattle.fleet_model.specs.Fleets.{AreUnused, FleetView, HasCome, HasGiven, IsNodeOf, links_at}
use Rattle.fleet_model.specs.Steps.{OneTurns}
use Rattle.fleet_model.proofs.Going.{GoesOn, entries_go_on, others_are}
use Rattle.fleet_model.proofs.Looking.{LookLaws}
use Rattle.fleet_model.proofs.Noting.{IsRaised, is_node}
use Rattle.fleet_model.proofs.States.{state_is, step_is}
use Rattle.fleet_model.proofs.Turned.{each_turned, linked}

-- a node that finds no step ready stands where the driver finds none
pub none_ready : {K : Type 0} → LookLaws → (tells : K → StoreView) (g : DriverInput) (d : Driver) (r : ℕ) (n : NodeView K) → IsSound g d → IsRaised tells g d r n
    → AreParts (set_up_of g d r) (nodes.state_of (set_up_of g d r) n.history) n.parts → AreOwnEndsIn d.flights (set_up_of g d r) n.parts.links
    → ((a : EndName) → is_some (link_at n.parts.links a) ≡ true → has_room r (driver_at_turn g r d).flights a ≡ room_at n.parts.links a) → Each (HadPathsOf (set_up_of g d r)) n.parts.jobs.running
    → IsIdle n (set_up_of g d r) → step (set_up_of g d r) (state_at g d r) (plain_look (set_up_of g d r) (driver_at_turn g r d)) ≡ None
none_ready {K} laws tells g d r n sound raised parts own rooms had idle =
    step_is laws.carried g d r n k sound raised.entries.history
    ∙ idle k (record { ends = record { at_hand = sym node_hand; room = λ a there. rooms a there }; time = sym raised.entries.time; count = ap (λ (x : ℕ). x + 1) (sym raised.entries.count); paths = had })
  where
    s : SetUp
    s = set_up_of g d r

    st : State
    st = state_at g d r

    k : Look
    k = plain_look s (driver_at_turn g r d)

    agrees : AgreesAtDrops st (nodes.state_of s n.history)
    agrees = state_is laws.carried g d r n sound raised.entries.history

    node_hand : flat_map (λ a. option_to_list (hand_at n.parts.links a)) (all_ends s) ≡ at_hand s (frames_to r (driver_at_turn g r d).flights)
    node_hand = laws.hand n.parts.links s st d (record k { at_hand = flat_map (λ a. option_to_list (hand_at n.parts.links a)) (all_ends s); room = room_at n.parts.links })
        (record { count = parts.ends.count; ends = λ a among. ap (λ (x : State). x.ends a) agrees.same ∙ parts.ends.ends a among }) own (record { at_hand = refl; room = λ a there. refl })

-- it drops what is old, and nothing else changes
dropping_goes : (g : DriverInput) (d : Driver) (r : ℕ) → GoesOn r d (driver_at_turn g r d)
dropping_goes g d r = record {
  more = [];
  past = refl;
  own = tt;
  tree = refl;
  marks = refl;
  stores = λ q v apart is. record { contents = is.contents; parts = is.parts; failing = is.failing };
  at = refl;
  counted = le_refl (newest_count d.past);
  bounds = tt;
  large = λ e. e;
}

pub turned_idly : {K : Type 0} (tells : K → StoreView) (g : DriverInput) (d : Driver) (r : ℕ) (n m : NodeView K) (was after : FleetView K)
    → HasCome tells g d was → OneTurns r n m was after → turn g r d ≡ driver_at_turn g r d → IsRaised tells g d r m
    → AreEndsIn (driver_at_turn g r d).flights (length g.repos) (links_at after.nodes) → AreAllWorded d.past (length g.repos) (links_at after.nodes) → HeardSo d.past r (words_at m.parts.jobs.running) → Each (λ j. HasGiven d r (given_of j)) m.parts.jobs.running → AreUnused (links_at after.nodes)
    → StaysSound g d (turn g r d) → HasCome tells g (turn g r d) after
turned_idly {K} tells g d r n m was after h step is own ends words heard paths selves sound =
    subst (λ (x : Driver). HasCome tells g x after) (sym is)
    (record {
      run = step.run ∙ ((λ i. record (h.run i) { entries = (h.run i).entries ++ drop (length n.history) m.history })
          ∙ (λ i. record { repos = g.repos; entries = sym entries i; tree = d.tree; marks = d.marks }));
      sound = subst (StaysSound g d) is sound h.sound h.fits;
      fits = h.fits;
      count = step.count ∙ h.count;
      each = each_turned (λ q x. IsNodeOf tells g d' q x) r n m was after step (λ links. linked tells g d' r m links (as_before (is_node tells g d r m own heard paths)))
          (λ q x links apart at. linked tells g d' q x links (others_are tells g d d' r q x apart on (h.each q x at) (h.each q x at).heard (λ y has. has)));
      ends = ends;
      words = words;
      selves = selves;
    })
  where
    d' : Driver
    d' = driver_at_turn g r d

    on : GoesOn r d d'
    on = dropping_goes g d r

    entries : reverse d'.past ≡ reverse d.past ++ drop (length n.history) m.history
    entries = entries_go_on r d d' n.history m.history on (h.each r n step.before).history own.entries.history

    as_before : IsNodeOf tells g d r m → IsNodeOf tells g d' r m
    as_before is = record {
      setup = record { number = is.setup.number; ids = is.setup.ids; offset = is.setup.offset; version = is.setup.version; locks = is.setup.locks };
      history = is.history;
      branch = is.branch;
      store = record { contents = is.store.contents; parts = is.store.parts; failing = is.store.failing };
      time = is.time;
      count = is.count;
      heard = is.heard;
      paths = is.paths;
    }
