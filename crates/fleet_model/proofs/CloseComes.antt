-- A fleet whose node closed its ends of the connections with another has come to where the driver is after the close.
use Rattle.std.proofs.Common.{◌≡◌, ◌≢◌, ℕ, ◌+◌, ◌<◌, ◌≤◌, ◌^◌, Bool, true, false, List, [], ◌∷◌, ◌++◌, Option, Some, None, length, refl, sym, ap, ◌∙◌, subst, arith}
use Rattle.std.specs.Prelude.{◌==◌, cond, drop, filter, if◌then◌else◌, nat_lt, reverse, slice_get}
use Rattle.std.proofs.lemmas.Bool.{eqb-false, eqb-true}
use Rattle.std.proofs.lemmas.Bool.Decides.{nat_tests}
use Rattle.std.proofs.lemmas.List.{length-reverse}
use Rattle.annex_base.specs.Lists.{Each, Member}
use Rattle.annex_base.proofs.Lists.{Each-weaker, slice_get-within}
use Rattle.link_ring.specs.Ends.{EndView}
use Rattle.link_ring.specs.Places.{end_place}
use Rattle.object_store.specs.Stores.{Contents, Parts}
use Rattle.run_data.specs.Histories.{most_entries}
use Rattle.run_data.specs.declared.entry.Entry.{Entry}
use Rattle.run_model.specs.Past.{is_of}
use Rattle.run_model.specs.States as runs
use Rattle.node_model.specs.AnyTime.{all_ends}
use Rattle.node_model.specs.Ends.{EndName}
use Rattle.node_model.specs.SetUp.{SetUp}
use Rattle.node_model.specs.State.{State}
use Rattle.node_ends.specs.Ends.{IsEndOf, end_at, link_at}
use Rattle.node_ends.specs.Joined.{BothPaired, end_with}
use Rattle.joined_nodes.specs.Closing as closings
use Rattle.joined_nodes.specs.Closing.{ClosesEach, ends_to}
use Rattle.joined_nodes.specs.Joined.{AreNodes}
use Rattle.joined_nodes.specs.Nodes.{NodeView, state_of, told_of}
use Rattle.joined_nodes.specs.Parts.{AreParts}
use Rattle.joined_nodes.specs.Running.{Jobs, given_of, words_at}
use Rattle.joined_nodes.specs.Stored.{StoreView}
use Rattle.driver_model.specs.Driver.{Driver, DriverInput, part_at, set_up_of}
use Rattle.driver_model.specs.Scripts.{HasBoundedPast, IsOther}
use Rattle.driver_model.specs.ScriptSteps.{closes, closes_each, lacks_places}
use Rattle.driver_model.specs.Sound.{IsSound, StaysSound}
use Rattle.link_flights.specs.Fleets.{AreAllCarried, AreEndsIn}
use Rattle.link_flights.specs.Heard.{HeardSo}
use Rattle.link_flights.specs.Words.{AreAllWorded}
use Rattle.fleet_model.specs.Fleets.{AreUnused, FleetView, HasCome, HasGiven, IsNodeOf, links_at}
use Rattle.fleet_model.specs.Steps.{OneTurns, with_newest}
use Rattle.fleet_model.specs.Stores.{IsStoreOf, IsTold, content_in}
use Rattle.fleet_model.specs.Turns.{StandsWell}
use Rattle.fleet_model.proofs.CloseEnds.{BothThere, IsThere, all_carried, there_is}
use Rattle.fleet_model.proofs.Closes.{CloseLaws, IsAway, IsClosing, OthersThere, closed_each}
use Rattle.fleet_model.proofs.ClosingGoes.{ClosesOn, closes_on, heard_jobless}
use Rattle.fleet_model.proofs.Coming.{ends_in}
use Rattle.fleet_model.proofs.Going.{GoesOn, entries_go_on, goes_within, others_are}
use Rattle.fleet_model.proofs.Hearing.{WordLaws, others_hear}
use Rattle.fleet_model.proofs.Noting.{IsRaised, is_node}
use Rattle.fleet_model.proofs.Pathing.{given_on}
use Rattle.fleet_model.proofs.Raising.{raised_is}
use Rattle.fleet_model.proofs.States.{Carried, state_is}
use Rattle.fleet_model.proofs.Turned.{each_turned, linked}
use Rattle.fleet_model.proofs.Unused.{turn_unused}

-- all ends of a repository are listed
abbrev pub AreListed : Type 0
AreListed = (s : SetUp) (a : EndName) → IsEndOf s a → Member a (all_ends s)

-- ---- one node went on, and frames were carried

-- where one repository alone goes on, and its node's ends and those of the others are as the driver's flights, the fleet comes there
pub carried_on : {K : Type 0} → WordLaws → (tells : K → StoreView) (g : DriverInput) (d d' : Driver) (r : ℕ) (n m : NodeView K) (was after : FleetView K)
    → HasCome tells g d was → OneTurns r n m was after → GoesOn r d d' → IsRaised tells g d' r m → AreEndsIn d'.flights (length g.repos) (links_at after.nodes) → AreAllWorded d'.past (length g.repos) (links_at after.nodes)
    → HeardSo d'.past r (words_at m.parts.jobs.running) → (IsSound g d' → Each (λ j. HasGiven d' r (given_of j)) m.parts.jobs.running) → AreUnused (links_at after.nodes) → m.time ≤ 1000000000000 → m.count < 2 ^ 62 → StaysSound g d d'
    → HasCome tells g d' after
carried_on {K} laws tells g d d' r n m was after h step on own ends words heard paths selves early few sound = record {
  run = step.run ∙ ((λ i. record (h.run i) { entries = (h.run i).entries ++ drop (length n.history) m.history })
      ∙ (λ i. record { repos = g.repos; entries = sym entries i; tree = sym on.tree i; marks = sym on.marks i }));
  sound = sound_after;
  fits = fits;
  count = step.count ∙ h.count;
  each = each_turned (λ q x. IsNodeOf tells g d' q x) r n m was after step (λ links. linked tells g d' r m links (is_node tells g d' r m own heard (paths sound_after)))
      (λ q x links apart at. linked tells g d' q x links (others_are tells g d d' r q x apart on (h.each q x at)
      (subst (λ (past : List Entry). HeardSo past q (words_at x.parts.jobs.running)) (sym on.past) (others_hear laws r q (words_at x.parts.jobs.running) on.more d.past apart on.own (h.each q x at).heard)) (given_on laws g d d' q on.more sound_after on.past on.tree)));
  ends = ends;
  words = words;
  selves = selves;
}
  where
    fits : HasBoundedPast d'
    fits = goes_within r d d' h.fits on (subst (λ (t : ℕ). t ≤ 1000000000000) own.entries.time early) (subst (λ (c : ℕ). c < 2 ^ 62) own.entries.count few)

    sound_after : IsSound g d'
    sound_after = sound h.sound fits

    entries : reverse d'.past ≡ reverse d.past ++ drop (length n.history) m.history
    entries = entries_go_on r d d' n.history m.history on (h.each r n step.before).history own.entries.history

-- ---- carried ends are one

-- ends that came of the same ends are the same
carried_once : (count r : ℕ) (mine : List EndView) (base first second : ℕ → List EndView) → AreAllCarried count r mine base first → AreAllCarried count r mine base second → (q : ℕ) (a : EndName) → q < count → a.peer < count → a.peer ≢ q
    → link_at (first q) a ≡ link_at (second q) a
carried_once count r mine base first second x y q a q_in a_in apart = by_slot (nat_lt a.slot 4) refl
  where
    four : (s : ℕ) → nat_lt s 4 ≡ true → s < 4
    four s e = grind (arith, nat_tests)

    by_end : (t u : Bool) → (q == r) ≡ t → (a.peer == r) ≡ u → a.slot < 4 → link_at (first q) a ≡ link_at (second q) a
    by_end true u e f low =
        let is : q ≡ r = eqb-true q r e in
        let other : a.peer ≢ r = λ (same : a.peer ≡ r). apart (same ∙ sym is) in
        subst (λ (k : ℕ). link_at (first k) a ≡ link_at (second k) a) (sym is) (x.own a.peer a.slot a.client a_in other low ∙ sym (y.own a.peer a.slot a.client a_in other low))
    by_end false true e f low =
        let is : a.peer ≡ r = eqb-true a.peer r f in
        let other : q ≢ r = eqb-false q r e in
        let name : a ≡ end_with r a.slot a.client = λ i. record { peer = is i; slot = a.slot; client = a.client } in
        subst (λ (k : EndName). link_at (first q) k ≡ link_at (second q) k) (sym name) (x.theirs q a.slot a.client q_in other low ∙ sym (y.theirs q a.slot a.client q_in other low))
    by_end false false e f low = x.others q a q_in (eqb-false q r e) (eqb-false a.peer r f) ∙ sym (y.others q a q_in (eqb-false q r e) (eqb-false a.peer r f))

    by_slot : (t : Bool) → nat_lt a.slot 4 ≡ t → link_at (first q) a ≡ link_at (second q) a
    by_slot true e = by_end (q == r) (a.peer == r) refl refl (four a.slot e)
    by_slot false e =
        ap (λ (t : Bool). if t then slice_get (first q) (end_place a.peer a.slot a.client) else None) e
        ∙ sym (ap (λ (t : Bool). if t then slice_get (second q) (end_place a.peer a.slot a.client) else None) e)

-- ---- before the close

-- the ends that are to be closed
pub to_close : (g : DriverInput) (r other : ℕ) → IsOther g r other → Each (IsAway (length g.repos) r) (ends_to other)
to_close g r other is = (one 0 true low0, (one 1 true low1, (one 2 true low2, (one 3 true low3, (one 0 false low0, (one 1 false low1, (one 2 false low2, (one 3 false low3, tt))))))))
  where
    one : (slot : ℕ) (client : Bool) → slot < 4 → IsAway (length g.repos) r (end_with other slot client)
    one slot client low = record { peer = is.0; other = is.1; slot = low }

    low0 : 0 < 4
    low0 = omega arith

    low1 : 1 < 4
    low1 = omega arith

    low2 : 2 < 4
    low2 = omega arith

    low3 : 3 < 4
    low3 = omega arith

-- its ends stand as the driver says
states_are : {K : Type 0} → Carried → AreListed → (tells : K → StoreView) (g : DriverInput) (d : Driver) (r : ℕ) (n : NodeView K) (was : FleetView K) → HasCome tells g d was → slice_get was.nodes r ≡ Some n
    → AreParts (set_up_of g d r) (state_of (set_up_of g d r) n.history) n.parts → (a : EndName) → IsAway (length g.repos) r a → runs.end_at d.past r a ≡ end_at n.parts.links a
states_are carried listed tells g d r n was h at parts a away =
    ap (λ (x : State). x.ends a) (state_is carried g d r n h.sound (h.each r n at).history).same ∙ parts.ends.ends a (listed (set_up_of g d r) a (record { peer = away.peer; other = away.other; slot = away.slot }))

-- as many of these as of those
many_as : (p q : EndName → Bool) (count r : ℕ) (ends : List EndName) → ((a : EndName) → IsAway count r a → p a ≡ q a) → Each (IsAway count r) ends → filter p ends ≡ filter q ends
many_as p q count r [] same away = refl
many_as p q count r (a ∷ ends) same away = λ i. cond (same a away.0 i) (a ∷ many_as p q count r ends same away.1 i) (many_as p q count r ends same away.1 i)

-- the node lacks places where the driver says so
pub places_are : {K : Type 0} → Carried → AreListed → (tells : K → StoreView) (g : DriverInput) (d : Driver) (r other : ℕ) (n : NodeView K) (was : FleetView K) → HasCome tells g d was → slice_get was.nodes r ≡ Some n
    → AreParts (set_up_of g d r) (state_of (set_up_of g d r) n.history) n.parts → IsOther g r other → lacks_places d.past r other ≡ closings.lacks_places n other
places_are carried listed tells g d r other n was h at parts is =
    λ i. nat_lt most_entries (made i + length (same_open i))
  where
    made : length (filter (is_of r) d.past) ≡ length n.history
    made = sym (ap length (h.each r n at).history ∙ length-reverse (filter (is_of r) d.past))

    same_open : filter (λ a. (runs.end_at d.past r a).opened) (ends_to other) ≡ filter (λ a. (end_at n.parts.links a).opened) (ends_to other)
    same_open = many_as (λ a. (runs.end_at d.past r a).opened) (λ a. (end_at n.parts.links a).opened) (length g.repos) r (ends_to other)
        (λ a away. ap (λ c. c.opened) (states_are carried listed tells g d r n was h at parts a away)) (to_close g r other is)

-- the store tells
pub told_there : {K : Type 0} (tells : K → StoreView) (d : Driver) (r : ℕ) (n : NodeView K) → IsStoreOf d r (tells n.keeper) → IsThere (told_of (tells n.keeper).contents (tells n.keeper).parts)
told_there tells d r n store = go (tells n.keeper).contents (tells n.keeper).parts store.contents store.parts
  where
    go : (o : Option Contents) (q : Option Parts) → IsTold o (λ c. (key : List ℕ) → c key ≡ content_in d r key) → IsTold q (λ p. (key : List ℕ) → p key ≡ part_at d r key) → IsThere (told_of o q)
    go None q told more = absurd told
    go (Some c) None told more = absurd more
    go (Some c) (Some p) told more = (c, refl)

-- the ends of two that are joined are there
paired_there : (o p : Option EndView) → BothPaired o p → IsThere o
paired_there None p both = absurd both
paired_there (Some v) p both = (v, refl)

others_there : {K : Type 0} (g : DriverInput) (r : ℕ) (n : NodeView K) (was : FleetView K) → length was.nodes ≡ length g.repos → slice_get was.nodes r ≡ Some n → AreNodes was.nodes → OthersThere (length g.repos) r (links_at was.nodes)
others_there {K} g r n was count at joined q slot client within other low =
    let x : (y : NodeView K) × (slice_get was.nodes q ≡ Some y) = slice_get-within was.nodes q (subst (λ (k : ℕ). q < k) (sym count) within) in
    subst (λ (links : List EndView). IsThere (link_at links (end_with r slot client))) (sym (ap ends_in x.1))
    (paired_there _ _ (joined.joined q r x.0 n other x.1 at slot client low))

-- ---- the close

pub close_comes : {K : Type 0} → CloseLaws → WordLaws → Carried → AreListed → (tells : K → StoreView) (g : DriverInput) (d : Driver) (r other : ℕ) (n m : NodeView K) (was after : FleetView K)
    → HasCome tells g d was → OneTurns r n m was after → AreNodes was.nodes → StandsWell g d r n → IsOther g r other → closings.lacks_places n other ≡ false
    → ClosesEach (told_of (tells n.keeper).contents (tells n.keeper).parts) (ends_to other) (with_newest d n) m
    → m.time ≤ 1000000000000 → m.count < 2 ^ 62 → StaysSound g d (closes g r other d) → HasCome tells g (closes g r other d) after
close_comes {K} laws words carried listed tells g d r other n m was after h one joined well is places closes_them early few sound =
    subst (λ (x : Driver). HasCome tells g x after) (sym all)
    (carried_on words tells g d d' r n m was after h one on.on last.raised ends_after words_after heard_after paths_after unused_after early few (subst (StaysSound g d) all sound))
  where
    d' : Driver
    d' = closes_each g r (ends_to other) d

    all : closes g r other d ≡ closes_each g r (ends_to other) d
    all = ap (λ (t : Bool). if t then d else closes_each g r (ends_to other) d) (places_are carried listed tells g d r other n was h one.before well.parts is ∙ places)

    on : ClosesOn r d d'
    on = closes_on g r (ends_to other) d

    base : ℕ → List EndView
    base = links_at was.nodes

    links_are : links_at was.nodes r ≡ n.parts.links
    links_are = ap ends_in one.before

    others : OthersThere (length g.repos) r base
    others = others_there g r n was h.count one.before joined

    own : (q slot : ℕ) (client : Bool) → q < length g.repos → q ≢ r → slot < 4 → IsThere (link_at (base r) (end_with q slot client))
    own q slot client within away low = there_is _ (laws.there (base r) (length g.repos) (end_with q slot client) (ap length links_are ∙ well.parts.ends.count) within low)

    both : BothThere (length g.repos) r base
    both = record { own = own; theirs = others }

    first : IsClosing tells g r n base d (with_newest d n)
    first = record {
      raised = raised_is tells g d r n (h.each r n one.before);
      jobs = refl;
      long = well.parts.ends.count;
      states = states_are carried listed tells g d r n was h one.before well.parts;
      selves = λ a self. refl;
      ends = base;
      ends_long = ap length links_are ∙ well.parts.ends.count;
      carried = subst (λ (links : List EndView). AreAllCarried (length g.repos) r links base base) links_are (all_carried laws.stays d (length g.repos) r base well.known h.ends both);
      flights = h.ends;
      words = h.words;
    }

    last : IsClosing tells g r n base d' m
    last = closed_each laws tells g r n base well.known others (told_of (tells n.keeper).contents (tells n.keeper).parts) (told_there tells d r n (h.each r n one.before).store) (ends_to other) d (with_newest d n) m
        (to_close g r other is) first closes_them

    carried_after : AreAllCarried (length g.repos) r m.parts.links base (links_at after.nodes)
    carried_after = subst (λ (count : ℕ). AreAllCarried count r m.parts.links base (links_at after.nodes)) h.count one.carried

    same : (q : ℕ) (a : EndName) → q < length g.repos → a.peer < length g.repos → a.peer ≢ q → link_at (last.ends q) a ≡ link_at (links_at after.nodes q) a
    same q a q_in a_in apart = carried_once (length g.repos) r m.parts.links base last.ends (links_at after.nodes) last.carried carried_after q a q_in a_in apart

    ends_after : AreEndsIn d'.flights (length g.repos) (links_at after.nodes)
    ends_after q a v q_in a_in apart at = last.flights q a v q_in a_in apart (same q a q_in a_in apart ∙ at)

    words_after : AreAllWorded d'.past (length g.repos) (links_at after.nodes)
    words_after q a v q_in a_in apart client at = last.words q a v q_in a_in apart client (same q a q_in a_in apart ∙ at)

    heard_after : HeardSo d'.past r (words_at m.parts.jobs.running)
    heard_after = subst (λ (past : List Entry). HeardSo past r (words_at m.parts.jobs.running)) (sym on.on.past)
        (subst (λ (jobs : Jobs). HeardSo (on.on.more ++ d.past) r (words_at jobs.running)) (sym last.jobs)
        (heard_jobless words r (words_at n.parts.jobs.running) on.on.more d.past on.on.own on.jobless (h.each r n one.before).heard))

    paths_after : IsSound g d' → Each (λ j. HasGiven d' r (given_of j)) m.parts.jobs.running
    paths_after sound_after = subst (λ (jobs : Jobs). Each (λ j. HasGiven d' r (given_of j)) jobs.running) (sym last.jobs)
        (Each-weaker (λ j. HasGiven d r (given_of j)) (λ j. HasGiven d' r (given_of j)) (λ j. given_on words g d d' r on.on.more sound_after on.on.past on.on.tree (given_of j)) n.parts.jobs.running (h.each r n one.before).paths)

    unused_after : AreUnused (links_at after.nodes)
    unused_after = turn_unused r n m was after one h.selves (λ a v self at. h.selves r a v self (ap (λ (links : List EndView). link_at links a) links_are ∙ (sym (last.selves a self) ∙ at)))

-- ---- no places are left

-- the driver then closes none
pub none_closed : {K : Type 0} → Carried → AreListed → (tells : K → StoreView) (g : DriverInput) (d : Driver) (r other : ℕ) (n : NodeView K) (was : FleetView K) → HasCome tells g d was → slice_get was.nodes r ≡ Some n
    → AreParts (set_up_of g d r) (state_of (set_up_of g d r) n.history) n.parts → IsOther g r other → closings.lacks_places n other ≡ true → (lacks_places d.past r other ≡ true) × (closes g r other d ≡ d)
none_closed carried listed tells g d r other n was h at parts is full =
    let lacks : lacks_places d.past r other ≡ true = places_are carried listed tells g d r other n was h at parts is ∙ full in
    (lacks, ap (λ (t : Bool). if t then d else closes_each g r (ends_to other) d) lacks)
