-- A fleet that ends where a history is full, within a turn, turns or rounds.
use Rattle.std.proofs.Common.{◌≡◌, ◌≢◌, ℕ, zero, suc, ◌+◌, ◌-◌, ◌<◌, ◌≤◌, Bool, true, false, List, Some, length, refl, sym, ap, ◌∙◌, subst, arith}
use Rattle.std.specs.Prelude.{if◌then◌else◌, slice_get}
use Rattle.std.specs.List.{range_with_len}
use Rattle.std.specs.Option.{ForSome}
use Rattle.std.proofs.lemmas.Option.{same_Some, slice_get_within}
use Rattle.annex_base.proofs.Lists.{slice_get-within}
use Rattle.run_data.specs.Histories.{most_entries}
use Rattle.run_data.specs.declared.run.Run.{Run}
use Rattle.node_model.specs.SetUp.{SetUp}
use Rattle.driver_model.specs.Driver.{Driver, DriverInput, set_up_of}
use Rattle.driver_model.specs.Driving.{turns}
use Rattle.driver_model.specs.Limits.{StopsAtFull}
use Rattle.driver_model.specs.Rounds.{AfterRounds, after_round, is_settled, most_rounds, round, settles, turns_of}
use Rattle.driver_model.specs.Sound.{OnlyAdds}
use Rattle.driver_model.specs.Turning.{turn}
use Rattle.fleet_entries.specs.Nodes.{NodeView, told_of}
use Rattle.fleet_entries.specs.Stored.{StoreView}
use Rattle.fleet_entries.specs.Turning.{HasStep}
use Rattle.fleet_entries.specs.declared.Turn.{Turn}
use Rattle.fleet_entries.specs.Joined.{AtNode}
use Rattle.fleet_entries.specs.Fleets.{FleetView, HasCome}
use Rattle.fleet_entries.specs.Settling.{goes_rounds, power, before_rounds}
use Rattle.fleet_entries.specs.Steps.{OneTurns, with_newest, with_links}
use Rattle.fleet_entries.specs.Stopping.{OthersAreFew}
use Rattle.fleet_entries.specs.Turns.{StandsWell}
use Rattle.fleet_entries.specs.AtDriver.{EndsAtFull, GoesOn}
use Rattle.fleet_entries.specs.Telling.{AreFew}
use Rattle.fleet_entries.specs.Nodes as nodes
use Rattle.fleet_entries.specs.declared.Turn.TheVariants as turnings
use Rattle.fleet_entries.proofs.Ending.{Ends, LaterLaw}
use Rattle.fleet_turns.proofs.Rounds.{HasGone, below}
use Rattle.fleet_turns.proofs.Turning.{IsTurned, one_turns, stands_well, where_told}
use Rattle.fleet_entries.proofs.Full.{each_at, run_stays}
use Rattle.fleet_entries.proofs.Called.{raised_is}

-- ---- a turn

-- the law of a turn
abbrev pub TurnStops : {K : Type 0} → (K → StoreView) → Type 0
TurnStops {K} tells = (g : DriverInput) (d : Driver) (r : ℕ) (n : NodeView K) (was : FleetView K) → HasCome tells g d was → slice_get was.nodes r ≡ Some n → OthersAreFew r was.nodes
    → StandsWell g d r n → length n.history ≡ most_entries → HasStep (with_newest d n) (set_up_of g d r) → StopsAtFull g r (turn g r d) was.run

-- the turn of a node whose history is full found a step
pub record IsReady {K : Type 0} (tells : K → StoreView) (n m : NodeView K) : Type 0 where
  pub full : length n.history ≡ most_entries
  pub ready : ForSome (told_of (tells n.keeper).contents (tells n.keeper).parts) (λ c. (s : SetUp) → nodes.MatchesSetup n.setup s → HasStep n s)

pub turn_ends : {K : Type 0} (tells : K → StoreView) (r had : ℕ) (t : Turn) (was up : FleetView K) (turned carried : List (NodeView K)) (after : FleetView K) → TurnStops tells
    → r < length was.nodes → IsTurned tells r had t was up turned carried after → t ≡ turnings.Full → AtNode r up.nodes turned (IsReady tells) → AreFew after.nodes → EndsAtFull tells r (λ g d. turn g r d) was after
turn_ends {K} tells r had t was up turned carried after law there call full ready few g d stands =
    subst (λ (run : Run). StopsAtFull g r (turn g r d) run) (sym same_run)
    (law g d r n was come first.1 others (stands_well tells g d r had was up n second.0 come call.turn.raises first.1 second.1)
    (subst (λ (y : NodeView K). length y.history ≡ most_entries) up_is (ready second.0 m second.1 third.1).full)
    (where_told d r (tells n.keeper) ((s : SetUp) → nodes.MatchesSetup n.setup s → HasStep (with_newest d n) s) (come.each r n first.1).store
    (subst (λ (y : NodeView K). ForSome (told_of (tells y.keeper).contents (tells y.keeper).parts) (λ c. (s : SetUp) → nodes.MatchesSetup y.setup s → HasStep y s)) up_is (ready second.0 m second.1 third.1).ready)
    (set_up_of g d r) (come.each r n first.1).setup))
  where
    come : HasCome tells g d was
    come = stands.come

    first : (n : NodeView K) × (slice_get was.nodes r ≡ Some n)
    first = slice_get-within was.nodes r there

    n : NodeView K
    n = first.0

    second : (p : NodeView K) × (slice_get up.nodes r ≡ Some p)
    second = slice_get-within up.nodes r (subst (λ (c : ℕ). r < c) (sym call.turn.raises.count) there)

    third : (m : NodeView K) × (slice_get turned r ≡ Some m)
    third = slice_get-within turned r (subst (λ (c : ℕ). r < c) (sym (call.turn.count ∙ call.turn.raises.count)) there)

    m : NodeView K
    m = third.0

    fourth : (x : NodeView K) × (slice_get carried r ≡ Some x)
    fourth = slice_get-within carried r (subst (λ (c : ℕ). r < c) (sym (call.carried_count ∙ (call.turn.count ∙ call.turn.raises.count))) there)

    one : OneTurns r n m was after
    one = one_turns tells r had t was up turned carried after n second.0 m fourth.0 call first.1 second.1 third.1 fourth.1

    up_is : second.0 ≡ with_newest d n
    up_is = raised_is tells g d r had was up n second.0 come call.turn.raises first.1 second.1

    not_moved : t ≢ turnings.Moved
    not_moved moved = clash (sym full ∙ moved)
      where
        clash : turnings.Full ≡ turnings.Moved → ⊥
        clash e = absurd (cc)

    same_history : m.history ≡ n.history
    same_history = ap (λ (y : NodeView K). y.history) (call.turn.stays second.0 m second.1 third.1 not_moved) ∙ ap (λ (y : NodeView K). y.history) up_is

    same_run : after.run ≡ was.run
    same_run = run_stays n m was after one.run same_history

    others : OthersAreFew r was.nodes
    others q x other at =
        let now : (y : NodeView K) × (slice_get after.nodes q ≡ Some y) = slice_get-within after.nodes q (subst (λ (c : ℕ). q < c) (sym one.count) (slice_get_within was.nodes q x at)) in
        let before : (y : NodeView K) × (slice_get was.nodes q ≡ Some y) × (now.0 ≡ with_links y now.0.parts.links) = one.others q now.0 other now.1 in
        let same : now.0.history ≡ x.history = ap (λ (y : NodeView K). y.history) before.2 ∙ ap (λ (y : NodeView K). y.history) (same_Some before.0 x (sym before.1 ∙ at)) in
        subst (λ k. k ≤ most_entries) (ap length same) (each_at (λ (y : NodeView K). length y.history ≤ most_entries) after.nodes q now.0 few now.1)

-- what holds after so many steps, and is kept by each, holds after more
still : (Holds : ℕ → Type 0) (a : ℕ) → ((n : ℕ) → Holds n → Holds (suc n)) → Holds a → (b n : ℕ) → n ≡ a + b → Holds n
still Holds a next holds zero n e = subst Holds (sym (at_once a n e)) holds
  where
    at_once : (a n : ℕ) → n ≡ a + zero → n ≡ a
    at_once a n e = omega (arith, e)
still Holds a next holds (suc b) n e = subst Holds (sym (one_more a b n e)) (next (a + b) (still Holds a next holds b (a + b) refl))
  where
    one_more : (a b n : ℕ) → n ≡ a + suc b → n ≡ suc (a + b)
    one_more a b n e = omega (arith, e)

pub still_then : (Holds : ℕ → Type 0) (a n : ℕ) → ((k : ℕ) → Holds k → Holds (suc k)) → a ≤ n → Holds a → Holds n
still_then Holds a n next few holds = still Holds a next holds (n - a) n (apart a n few)
  where
    apart : (a n : ℕ) → a ≤ n → n ≡ a + (n - a)
    apart a n few = omega (arith, few)

-- ---- turns

pub turns_end : {K : Type 0} (tells : K → StoreView) (P : DriverInput → Driver → Run → Type 0) (r k n : ℕ) (was between after : FleetView K) → LaterLaw P → ((g : DriverInput) (r : ℕ) (d : Driver) → OnlyAdds d (turn g r d))
    → ((g : DriverInput) (r n : ℕ) (d : Driver) → turns g r (suc n) d ≡ turn g r (turns g r n d)) → k < n → GoesOn tells (λ g d. turns g r k d) was between → Ends tells P (λ g d. turn g r d) between after
    → Ends tells P (λ g d. turns g r n d) was after
turns_end tells P r k n was between after later adds law less so_far ends g d stands =
    still_then (λ m. P g (turns g r m d) after.run) (suc k) n
    (λ m stops. subst (λ (x : Driver). P g x after.run) (sym (law g r m d)) (later g (turns g r m d) (turn g r (turns g r m d)) after.run stops (adds g r (turns g r m d)))) (next k n less)
    (subst (λ (x : Driver). P g x after.run) (sym (law g r k d)) (ends g (turns g r k d) (so_far g d stands)))
  where
    next : (k n : ℕ) → k < n → suc k ≤ n
    next k n less = omega (arith, less)

-- those of a round
pub round_ends : {K : Type 0} (tells : K → StoreView) (P : DriverInput → Driver → Run → Type 0) (k n : ℕ) (was between after : FleetView K) → LaterLaw P → ((g : DriverInput) (r : ℕ) (d : Driver) → OnlyAdds d (turn g r d))
    → ((g : DriverInput) (n : ℕ) (d : Driver) → turns_of g (range_with_len 0 (suc n)) d ≡ turn g n (turns_of g (range_with_len 0 n) d)) → n ≡ length was.nodes → k < n
    → GoesOn tells (λ g d. turns_of g (range_with_len 0 k) d) was between → Ends tells P (λ g d. turn g k d) between after → Ends tells P (λ g d. round g d) was after
round_ends tells P k n was between after later adds law all less so_far ends g d stands =
    subst (λ (m : ℕ). P g (turns_of g (range_with_len 0 m) d) after.run) (all ∙ stands.come.count)
    (still_then (λ m. P g (turns_of g (range_with_len 0 m) d) after.run) (suc k) n
    (λ m stops. subst (λ (x : Driver). P g x after.run) (sym (law g m d)) (later g (turns_of g (range_with_len 0 m) d) (turn g m (turns_of g (range_with_len 0 m) d)) after.run stops (adds g m (turns_of g (range_with_len 0 m) d)))) (next k n less)
    (subst (λ (x : Driver). P g x after.run) (sym (law g k d)) (ends g (turns_of g (range_with_len 0 k) d) (so_far g d stands))))
  where
    next : (k n : ℕ) → k < n → suc k ≤ n
    next k n less = omega (arith, less)

-- ---- rounds

pub settles_end : {K : Type 0} (tells : K → StoreView) (P : DriverInput → Driver → Run → Type 0) (n idle : ℕ) (was between after : FleetView K) → LaterLaw P → ((g : DriverInput) (d : Driver) → OnlyAdds d (round g d))
    → ((g : DriverInput) (n : ℕ) (x : AfterRounds) → is_settled (goes_rounds g n x) ≡ false → goes_rounds g (suc n) x ≡ after_round (goes_rounds g n x) (round g (goes_rounds g n x).driver))
    → ((g : DriverInput) (d : Driver) → settles g d ≡ (goes_rounds g (power most_rounds) (before_rounds d)).driver) → idle < 2 → suc n ≤ power most_rounds
    → HasGone tells n idle was between → Ends tells P (λ g d. round g d) between after → Ends tells P (λ g d. settles g d) was after
settles_end {K} tells P n idle was between after later adds law most low few gone ends g d stands =
    subst (λ (x : Driver). P g x after.run) (sym (most g d))
    (still_then Stops (suc n) (power most_rounds) next few
    (subst (λ (x : AfterRounds). P g x.driver after.run) (sym (law g n (before_rounds d) (ap (Rattle.std.specs.Prelude.nat_le 2) (gone.idle_is g d stands) ∙ below idle low)))
    (ends g (goes_rounds g n (before_rounds d)).driver (gone.stands g d stands))))
  where
    Stops : ℕ → Type 0
    Stops m = P g (goes_rounds g m (before_rounds d)).driver after.run

    goes : (b : Bool) (x : AfterRounds) → P g x.driver after.run → P g (if b then x else after_round x (round g x.driver)).driver after.run
    goes true x stops = stops
    goes false x stops = later g x.driver (round g x.driver) after.run stops (adds g x.driver)

    next : (m : ℕ) → Stops m → Stops (suc m)
    next m stops = goes (is_settled (goes_rounds g m (before_rounds d))) (goes_rounds g m (before_rounds d)) stops

-- so many rounds are fewer than there may be at most
pub one_more_may_be : (n : ℕ) → n < 4194304 → suc n ≤ power most_rounds
one_more_may_be n less = at_most n less
  where
    at_most : (k : ℕ) → k < 4194304 → suc k ≤ 4194304
    at_most k less = omega (arith, less)
