-- A turn of a node of a fleet, and the frames that are carried after it: the driver's turn follows.
use Rattle.std.proofs.Common.{◌≡◌, ◌≢◌, ℕ, ◌+◌, ◌<◌, ◌≤◌, ◌^◌, List, [], ◌∷◌, Option, Some, None, ◌⊎◌, inl, inr, length, map, refl, sym, ap, ◌∙◌, subst, arith}
use Rattle.std.specs.Prelude.{slice_get}
use Rattle.std.specs.Option.{ForSome}
use Rattle.std.proofs.lemmas.List.{length-append, length-reverse}
use Rattle.std.proofs.lemmas.Option.{slice_get_within}
use Rattle.annex_base.proofs.Lists.{slice_get-within}
use Rattle.link_ring.specs.Ends.{after_drop}
use Rattle.object_store.specs.Stores.{AreSmallParts, Contents, Parts}
use Rattle.node_model.specs.SetUp.{SetUp}
use Rattle.node_model.specs.Step.{step}
use Rattle.node_ends.specs.Joined.{AreCarried}
use Rattle.fleet_entries.specs.Parts.{AreParts}
use Rattle.fleet_entries.specs.Nodes.{NodeView, told_of}
use Rattle.fleet_entries.specs.Stored.{StoreView}
use Rattle.fleet_entries.specs.Turning.{Adds, IsIdle, StepsBy}
use Rattle.fleet_entries.specs.declared.Turn.{Turn}
use Rattle.driver_model.specs.Driver.{Driver, DriverInput, part_at, set_up_of}
use Rattle.driver_model.specs.Turning.{turn}
use Rattle.fleet_entries.specs.Joined.{AtNode}
use Rattle.fleet_entries.specs.Fleets.{FleetView, HasCome}
use Rattle.fleet_entries.specs.Matches.{DecidesMatches}
use Rattle.fleet_entries.specs.Steps.{OneTurns, with_newest, with_links}
use Rattle.fleet_entries.specs.Stores.{IsStoreOf, IsTold, content_in}
use Rattle.fleet_entries.specs.Turns.{IsWhole, StandsWell}
use Rattle.fleet_entries.specs.AtDriver.{GoesOn}
use Rattle.fleet_entries.specs.Telling.{Raises, Tells}
use Rattle.fleet_entries.specs.Nodes as nodes
use Rattle.fleet_entries.specs.declared.Turn.TheVariants as turns
use Rattle.fleet_entries.specs.Joined as joined
use Rattle.fleet_entries.proofs.Called.{past_of, raised_is}
use Rattle.fleet_turns.proofs.Carrying.{one_carried}

-- The fleet was raised, and a turn of its node of r came to this.
pub record TakesTurn {K : Type 0} (tells : K → StoreView) (r had : ℕ) (t : Turn) (was up : FleetView K) (turned : List (NodeView K)) : Type 0 where
  pub raises : Raises tells r had was up
  pub moved : AtNode r up.nodes turned (λ n m. t ≡ turns.Moved → Adds (map after_drop n.parts.links) (tells n.keeper) (tells m.keeper) n m)
  pub steps : AtNode r up.nodes turned (λ n m. t ≡ turns.Moved → ForSome (told_of (tells n.keeper).contents (tells n.keeper).parts) (λ c. StepsBy step (tells n.keeper) (tells m.keeper) n m))
  pub idle : AtNode r up.nodes turned (λ n m. t ≡ turns.Idle → ForSome (told_of (tells n.keeper).contents (tells n.keeper).parts) (λ c. (s : SetUp) → nodes.MatchesSetup n.setup s → IsIdle n s))
  pub stays : AtNode r up.nodes turned (λ n m. t ≢ turns.Moved → m ≡ record n { keeper = m.keeper; parts = record n.parts { links = map after_drop n.parts.links } })
  pub unasked : AtNode r up.nodes turned (λ n m. t ≢ turns.Moved → t ≢ turns.NoMemory → m.keeper ≡ n.keeper)
  pub small : AtNode r up.nodes turned (λ n m. AreSmallParts (tells n.keeper).parts → AreSmallParts (tells m.keeper).parts)
  pub others : (q : ℕ) → q ≢ r → slice_get turned q ≡ slice_get up.nodes q
  pub count : length turned ≡ length up.nodes

-- Then frames were carried between that node and all others; and then it was told.
pub record IsTurned {K : Type 0} (tells : K → StoreView) (r had : ℕ) (t : Turn) (was up : FleetView K) (turned carried : List (NodeView K)) (after : FleetView K) : Type 0 where
  pub turn : TakesTurn tells r had t was up turned
  pub whole : (m : NodeView K) → slice_get turned r ≡ Some m → IsWhole tells m
  pub rest : AtNode r turned carried (λ n m. m ≡ joined.with_links n m.parts.links)
  pub links : AtNode r turned carried (λ n m. joined.AreAllCarried r turned n.parts.links m.parts.links)
  pub others_rest : (q : ℕ) → q ≢ r → AtNode q turned carried (λ n m. m ≡ joined.with_links n m.parts.links)
  pub others_links : (q : ℕ) (node : NodeView K) → q ≢ r → slice_get turned r ≡ Some node → AtNode q turned carried (λ n m. AreCarried q r n.parts.links m.parts.links node.parts.links)
  pub carried_count : length carried ≡ length turned
  pub told : Tells tells r had (record { nodes = carried; run = up.run }) after

-- the laws of a turn
pub record TurnLaws (K : Type 0) : Type 0 where
  pub moved : (tells : K → StoreView) (g : DriverInput) (d : Driver) (r : ℕ) (n m : NodeView K) (was after : FleetView K)
      → DecidesMatches g → HasCome tells g d was → OneTurns r n m was after → StandsWell g d r n
      → Adds (map after_drop n.parts.links) (tells n.keeper) (tells m.keeper) (with_newest d n) m → StepsBy step (tells n.keeper) (tells m.keeper) (with_newest d n) m
      → (AreSmallParts (tells n.keeper).parts → AreSmallParts (tells m.keeper).parts) → IsWhole tells m → m.time ≤ 1000000000000 → m.count < 2 ^ 62 → HasCome tells g (turn g r d) after
  pub idle : (tells : K → StoreView) (g : DriverInput) (d : Driver) (r : ℕ) (n m : NodeView K) (was after : FleetView K)
      → HasCome tells g d was → OneTurns r n m was after → StandsWell g d r n
      → m ≡ with_links (with_newest d n) (map after_drop n.parts.links) → IsIdle (with_newest d n) (set_up_of g d r) → HasCome tells g (turn g r d) after

-- ---- where the driver was

few_past : {K : Type 0} (tells : K → StoreView) (g : DriverInput) (d : Driver) (f : FleetView K) → HasCome tells g d f → length f.run.entries < 2 ^ 30 → length d.past < 2 ^ 30
few_past tells g d f come few = subst (λ (n : ℕ). n < 2 ^ 30) (sym (length-reverse f.run.entries) ∙ ap length (past_of tells g d f come)) few

-- where a store tells, so does what is said of it
pub where_told : (d : Driver) (r : ℕ) (v : StoreView) (P : Type 0) → IsStoreOf d r v → ForSome (told_of v.contents v.parts) (λ c. P) → P
where_told d r v P store holds = go v.contents v.parts store.contents store.parts holds
  where
    go : (o : Option Contents) (q : Option Parts) → IsTold o (λ c. (key : List ℕ) → c key ≡ content_in d r key) → IsTold q (λ p. (key : List ℕ) → p key ≡ part_at d r key) → ForSome (told_of o q) (λ c. P) → P
    go None q told more holds = absurd told
    go (Some c) None told more holds = absurd more
    go (Some c) (Some p) told more holds = holds c refl

parts_told : {K : Type 0} (tells : K → StoreView) (d : Driver) (r : ℕ) (s : SetUp) (n : NodeView K) → IsStoreOf d r (tells n.keeper)
    → nodes.IsState s n.parts n.branch n.owed (told_of (tells n.keeper).contents (tells n.keeper).parts) (nodes.state_of s n.history) → AreParts s (nodes.state_of s n.history) n.parts
parts_told tells d r s n store state = where_told d r (tells n.keeper) (AreParts s (nodes.state_of s n.history) n.parts) store (parts_in (told_of (tells n.keeper).contents (tells n.keeper).parts) state.stands)
  where
    parts_in : (o : Option Contents) → ForSome o (λ c. nodes.IsStateOfParts s n.parts n.owed c (nodes.state_of s n.history)) → ForSome o (λ c. AreParts s (nodes.state_of s n.history) n.parts)
    parts_in o stands c is = (stands c is).parts_are

pub stands_well : {K : Type 0} (tells : K → StoreView) (g : DriverInput) (d : Driver) (r had : ℕ) (was up : FleetView K) (n p : NodeView K) → HasCome tells g d was → Raises tells r had was up
    → slice_get was.nodes r ≡ Some n → slice_get up.nodes r ≡ Some p → StandsWell g d r n
stands_well {K} tells g d r had was up n p come raises at_n at_p =
    let own = come.each r n at_n in
    let whole : IsWhole tells (with_newest d n) = subst (IsWhole tells) (raised_is tells g d r had was up n p come raises at_n at_p) (raises.whole n p at_n at_p) in
    record {
      known = subst (λ (c : ℕ). r < c) come.count (slice_get_within was.nodes r n at_n);
      few = few_past tells g d was come raises.few;
      parts = parts_told tells d r (set_up_of g d r) n own.store (whole.state (set_up_of g d r) own.setup);
      sound = whole.sound;
    }

-- ---- the turn, and the frames that were carried

pub one_turns : {K : Type 0} (tells : K → StoreView) (r had : ℕ) (t : Turn) (was up : FleetView K) (turned carried : List (NodeView K)) (after : FleetView K) (n p m x : NodeView K)
    → IsTurned tells r had t was up turned carried after → slice_get was.nodes r ≡ Some n → slice_get up.nodes r ≡ Some p → slice_get turned r ≡ Some m → slice_get carried r ≡ Some x → OneTurns r n m was after
one_turns tells r had t was up turned carried after n p m x call at_n at_p at_m at_x = one_carried tells r had was up turned carried after n p m x
    (record {
      raises = call.turn.raises;
      others = call.turn.others;
      count = call.turn.count;
      rest = call.rest;
      links = call.links;
      others_rest = call.others_rest;
      others_links = call.others_links;
      carried_count = call.carried_count;
      told = call.told;
    })
    at_n at_p at_m at_x

-- ---- the driver's turn

-- the node over this store, once old frames were dropped
abbrev pub dropped_with : {K : Type 0} → NodeView K → K → NodeView K
dropped_with n keeper = record n { keeper = keeper; parts = record n.parts { links = map after_drop n.parts.links } }

pub turns_on : {K : Type 0} → TurnLaws K → (tells : K → StoreView) (r had : ℕ) (t : Turn) (was up : FleetView K) (turned carried : List (NodeView K)) (after : FleetView K)
    → r < length was.nodes → IsTurned tells r had t was up turned carried after → (t ≡ turns.Moved) ⊎ (t ≡ turns.Idle) → GoesOn tells (λ g d. turn g r d) was after
turns_on {K} laws tells r had t was up turned carried after there call came g d stands = record {
  come = by_turn came;
  decides = stands.decides;
}
  where
    come : HasCome tells g d was
    come = stands.come

    first : (n : NodeView K) × (slice_get was.nodes r ≡ Some n)
    first = slice_get-within was.nodes r there

    n : NodeView K
    n = first.0

    second : (p : NodeView K) × (slice_get up.nodes r ≡ Some p)
    second = slice_get-within up.nodes r (subst (λ (c : ℕ). r < c) (sym call.turn.raises.count) there)

    third : (m : NodeView K) × (slice_get turned r ≡ Some m)
    third = slice_get-within turned r (subst (λ (c : ℕ). r < c) (sym (call.turn.count ∙ call.turn.raises.count)) there)

    m : NodeView K
    m = third.0

    fourth : (x : NodeView K) × (slice_get carried r ≡ Some x)
    fourth = slice_get-within carried r (subst (λ (c : ℕ). r < c) (sym (call.carried_count ∙ (call.turn.count ∙ call.turn.raises.count))) there)

    up_is : second.0 ≡ with_newest d n
    up_is = raised_is tells g d r had was up n second.0 come call.turn.raises first.1 second.1

    one : OneTurns r n m was after
    one = one_turns tells r had t was up turned carried after n second.0 m fourth.0 call first.1 second.1 third.1 fourth.1

    well : StandsWell g d r n
    well = stands_well tells g d r had was up n second.0 come call.turn.raises first.1 second.1

    left_is : fourth.0 ≡ joined.with_links m fourth.0.parts.links
    left_is = call.rest m fourth.0 third.1 fourth.1

    early : m.time ≤ 1000000000000
    early = subst (λ (y : NodeView K). y.time ≤ 1000000000000) left_is (call.told.node fourth.0 fourth.1).time

    few : m.count < 2 ^ 62
    few = subst (λ (y : NodeView K). y.count < 2 ^ 62) left_is (call.told.node fourth.0 fourth.1).counted

    store : IsStoreOf d r (tells n.keeper)
    store = (come.each r n first.1).store

    by_turn : (t ≡ turns.Moved) ⊎ (t ≡ turns.Idle) → HasCome tells g (turn g r d) after
    by_turn (inl moved) =
        laws.moved tells g d r n m was after stands.decides come one well
        (subst (λ (y : NodeView K). Adds (map after_drop y.parts.links) (tells y.keeper) (tells m.keeper) y m) up_is (call.turn.moved second.0 m second.1 third.1 moved))
        (where_told d r (tells n.keeper) (StepsBy step (tells n.keeper) (tells m.keeper) (with_newest d n) m) store
        (subst (λ (y : NodeView K). ForSome (told_of (tells y.keeper).contents (tells y.keeper).parts) (λ c. StepsBy step (tells y.keeper) (tells m.keeper) y m)) up_is (call.turn.steps second.0 m second.1 third.1 moved)))
        (subst (λ (y : NodeView K). AreSmallParts (tells y.keeper).parts → AreSmallParts (tells m.keeper).parts) up_is (call.turn.small second.0 m second.1 third.1))
        (call.whole m third.1) early few
    by_turn (inr idle) =
        laws.idle tells g d r n m was after come one well
        (subst (λ (y : NodeView K). m ≡ with_links y (map after_drop y.parts.links)) up_is kept)
        (where_told d r (tells n.keeper) ((s : SetUp) → nodes.MatchesSetup n.setup s → IsIdle (with_newest d n) s) store
        (subst (λ (y : NodeView K). ForSome (told_of (tells y.keeper).contents (tells y.keeper).parts) (λ c. (s : SetUp) → nodes.MatchesSetup y.setup s → IsIdle y s)) up_is (call.turn.idle second.0 m second.1 third.1 idle))
        (set_up_of g d r) (come.each r n first.1).setup)
      where
        not_moved : t ≢ turns.Moved
        not_moved moved = clash (sym idle ∙ moved)
          where
            clash : turns.Idle ≡ turns.Moved → ⊥
            clash e = absurd (cc)

        not_short : t ≢ turns.NoMemory
        not_short short = clash (sym idle ∙ short)
          where
            clash : turns.Idle ≡ turns.NoMemory → ⊥
            clash e = absurd (cc)

        kept : m ≡ with_links second.0 (map after_drop second.0.parts.links)
        kept = call.turn.stays second.0 m second.1 third.1 not_moved
            ∙ ap (dropped_with second.0) (call.turn.unasked second.0 m second.1 third.1 not_moved not_short)

-- ---- it only grows

-- a turn takes no entry of the node away
pub turn_grows : {K : Type 0} (tells : K → StoreView) (t : Turn) (n m : NodeView K) → (t ≡ turns.Moved → Adds (map after_drop n.parts.links) (tells n.keeper) (tells m.keeper) n m)
    → (t ≢ turns.Moved → m ≡ record n { keeper = m.keeper; parts = record n.parts { links = map after_drop n.parts.links } }) → length n.history ≤ length m.history
turn_grows {K} tells t n m moved stays = go t refl
  where
    more : (k l : ℕ) → l ≡ k + 1 → k ≤ l
    more k l e = omega (arith, e)

    none : (k l : ℕ) → l ≡ k → k ≤ l
    none k l e = omega (arith, e)

    same : t ≢ turns.Moved → length n.history ≤ length m.history
    same other = none (length n.history) (length m.history) (ap (λ (y : NodeView K). length y.history) (stays other))

    go : (u : Turn) → t ≡ u → length n.history ≤ length m.history
    go turns.Moved is = let adds = moved is in more (length n.history) (length m.history) (ap length adds.history ∙ length-append n.history (adds.entry ∷ []))
    go turns.Idle is = same (λ e. clash (sym is ∙ e))
      where
        clash : turns.Idle ≡ turns.Moved → ⊥
        clash e = absurd (cc)
    go turns.Full is = same (λ e. clash (sym is ∙ e))
      where
        clash : turns.Full ≡ turns.Moved → ⊥
        clash e = absurd (cc)
    go turns.NoMemory is = same (λ e. clash (sym is ∙ e))
      where
        clash : turns.NoMemory ≡ turns.Moved → ⊥
        clash e = absurd (cc)

-- the node has no fewer entries after a turn and the carrying of frames
pub had_within : {K : Type 0} (tells : K → StoreView) (r had : ℕ) (t : Turn) (was up : FleetView K) (turned carried : List (NodeView K)) → Raises tells r had was up → r < length was.nodes
    → AtNode r up.nodes turned (λ n m. t ≡ turns.Moved → Adds (map after_drop n.parts.links) (tells n.keeper) (tells m.keeper) n m)
    → AtNode r up.nodes turned (λ n m. t ≢ turns.Moved → m ≡ record n { keeper = m.keeper; parts = record n.parts { links = map after_drop n.parts.links } })
    → length turned ≡ length up.nodes → AtNode r turned carried (λ n m. m ≡ joined.with_links n m.parts.links) → (x : NodeView K) → slice_get carried r ≡ Some x → had ≤ length x.history
had_within {K} tells r had t was up turned carried raises there moved stays count rest x at_x =
    subst (λ (k : ℕ). k ≤ length x.history) (sym had_is) (subst (λ (k : ℕ). length second.0.history ≤ k) (ap (λ (y : NodeView K). length y.history) (sym (rest third.0 x third.1 at_x))) grows)
  where
    first : (n : NodeView K) × (slice_get was.nodes r ≡ Some n)
    first = slice_get-within was.nodes r there

    second : (p : NodeView K) × (slice_get up.nodes r ≡ Some p)
    second = slice_get-within up.nodes r (subst (λ (c : ℕ). r < c) (sym raises.count) there)

    third : (m : NodeView K) × (slice_get turned r ≡ Some m)
    third = slice_get-within turned r (subst (λ (c : ℕ). r < c) (sym (count ∙ raises.count)) there)

    had_is : had ≡ length second.0.history
    had_is = raises.entries first.0 second.0 first.1 second.1 ∙ ap (λ (y : NodeView K). length y.history) (sym (raises.node first.0 second.0 first.1 second.1))

    grows : length second.0.history ≤ length third.0.history
    grows = turn_grows tells t second.0 third.0 (moved second.0 third.0 second.1 third.1) (stays second.0 third.0 second.1 third.1)
