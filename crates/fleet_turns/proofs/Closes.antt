-- A node of a fleet closes ends, and frames are carried after it: the driver's close follows.
use Rattle.std.proofs.Common.{◌≡◌, ◌≢◌, ◌⊎◌, inl, inr, ℕ, ◌+◌, ◌<◌, ◌≤◌, ◌^◌, Bool, true, false, List, [], ◌∷◌, Option, Some, Ok, Err, length, refl, sym, ap, ◌∙◌, subst, arith}
use Rattle.std.specs.Prelude.{IfErr, IsErrOf, OnErr, OnOk, if◌then◌else◌, slice_get}
use Rattle.std.proofs.lemmas.List.{length-append}
use Rattle.annex_base.proofs.Lists.{slice_get-within}
use Rattle.object_store.specs.Stores.{Contents}
use Rattle.run_data.specs.Histories.{most_entries}
use Rattle.run_data.specs.declared.entry.Entry.{Entry}
use Rattle.node_model.specs.Ends.{EndName}
use Rattle.driver_model.specs.Driver.{Driver, DriverInput, set_up_of}
use Rattle.driver_model.specs.Limits.{count_of, is_too_long, within_limit}
use Rattle.driver_model.specs.Scripts.{IsKnown, IsOther}
use Rattle.driver_model.specs.ScriptSteps as steps
use Rattle.driver_model.specs.ScriptSteps.{closes}
use Rattle.driver_model.specs.Sound.{StaysSound}
use Rattle.fleet_entries.specs.Closing.{Closes, ClosesEach, LeavesShut, ends_to, lacks_places}
use Rattle.fleet_entries.specs.Joined.{AreNodes, AtNode}
use Rattle.fleet_entries.specs.Joined as joined
use Rattle.fleet_entries.specs.Nodes.{NodeView, state_of, told_of}
use Rattle.fleet_entries.specs.Parts.{AreParts}
use Rattle.fleet_entries.specs.Stored.{StoreView}
use Rattle.fleet_entries.specs.declared.NodeRefused.TheVariants as refusals
use Rattle.fleet_entries.specs.AtDriver.{ClosesNone, GoesOn, HasPlaces}
use Rattle.fleet_entries.specs.Fleets.{FleetView, HasCome}
use Rattle.fleet_entries.specs.Steps.{OneTurns, with_newest}
use Rattle.fleet_entries.specs.Telling.{AreFew, Raises}
use Rattle.fleet_entries.specs.Turns.{StandsWell}
use Rattle.fleet_entries.proofs.Ended.{Answer, IsEnded}
use Rattle.fleet_entries.proofs.Full.{counted, each_at, run_stays}
use Rattle.fleet_turns.proofs.Carrying.{IsCarriedOn, one_carried}
use Rattle.fleet_turns.proofs.Standing.{IsThere, is_there}

-- what a call that closes ends makes of its node
pub record ClosesEnds {K : Type 0} (tells : K → StoreView) (other : ℕ) (done : Answer) (n m : NodeView K) : Type 0 where
  pub ok : OnOk done (ClosesEach (told_of (tells n.keeper).contents (tells n.keeper).parts) (ends_to other) n m)
  pub full : IsErrOf done refusals.Full → lacks_places n other ≡ true
  pub lacks : lacks_places n other ≡ true → done ≡ Err refusals.Full
  pub err : OnErr done (m ≡ n)

-- the call, and the frames that were carried after it
pub record IsClosed {K : Type 0} (tells : K → StoreView) (r other had : ℕ) (done : Answer) (was up : FleetView K) (turned carried : List (NodeView K)) (after : FleetView K) : Type 0 where
  pub call : IsCarriedOn tells r had was up turned carried after
  pub holds : AtNode r up.nodes turned (ClosesEnds tells other done)
  pub joined : AreNodes was.nodes
  pub few : AreFew was.nodes

-- the laws of a close
pub record ClosingLaws {K : Type 0} (tells : K → StoreView) : Type 0 where
  pub closes : (g : DriverInput) (d : Driver) (r other : ℕ) (n m : NodeView K) (was after : FleetView K)
      → HasCome tells g d was → OneTurns r n m was after → AreNodes was.nodes → StandsWell g d r n → IsOther g r other → lacks_places n other ≡ false
      → ClosesEach (told_of (tells n.keeper).contents (tells n.keeper).parts) (ends_to other) (with_newest d n) m
      → m.time ≤ 1000000000000 → m.count < 2 ^ 62 → StaysSound g d (closes g r other d) → HasCome tells g (closes g r other d) after
  pub places : (g : DriverInput) (d : Driver) (r other : ℕ) (n : NodeView K) (was : FleetView K) → HasCome tells g d was → slice_get was.nodes r ≡ Some n
      → AreParts (set_up_of g d r) (state_of (set_up_of g d r) n.history) n.parts → IsOther g r other → steps.lacks_places d.past r other ≡ lacks_places n other
  pub none : (g : DriverInput) (d : Driver) (r other : ℕ) (n : NodeView K) (was : FleetView K) → HasCome tells g d was → slice_get was.nodes r ≡ Some n
      → AreParts (set_up_of g d r) (state_of (set_up_of g d r) n.history) n.parts → IsOther g r other → lacks_places n other ≡ true → (steps.lacks_places d.past r other ≡ true) × (steps.closes g r other d ≡ d)
  pub few : (g : DriverInput) (past : List Entry) → ((q : ℕ) → q < length g.repos → count_of past q ≤ most_entries) → is_too_long g past ≡ false

-- ---- the node may be called

pub may_close : {K : Type 0} (tells : K → StoreView) (r other had : ℕ) (was up : FleetView K) → AreNodes was.nodes → Raises tells r had was up → r < length was.nodes → other < length was.nodes → other ≢ r
    → (n : NodeView K) → slice_get up.nodes r ≡ Some n → (other < length n.setup.repos) × (other ≢ n.setup.number)
may_close {K} tells r other had was up are raises there known apart n at =
    let first : (b : NodeView K) × (slice_get was.nodes r ≡ Some b) = slice_get-within was.nodes r there in
    let is = raises.node first.0 n first.1 at in (
      subst (λ (x : NodeView K). other < length x.setup.repos) (sym is) (subst (λ (k : ℕ). other < k) (sym (are.counts r first.0 first.1)) known),
      subst (λ (x : NodeView K). other ≢ x.setup.number) (sym is) (λ (same : other ≡ first.0.setup.number). apart (same ∙ are.numbers r first.0 first.1)),
    )

-- no answer of such a call says that a text is no bundle
pub no_bundle : (done : Answer) → IfErr done (λ e. (e ≡ refusals.Full) ⊎ (e ≡ refusals.NoMemory)) → (at : ℕ) → done ≡ Err (refusals.BadBundle at) → ⊥
no_bundle done refused at e = go (subst (λ (a : Answer). IfErr a (λ x. (x ≡ refusals.Full) ⊎ (x ≡ refusals.NoMemory))) e refused)
  where
    go : (refusals.BadBundle at ≡ refusals.Full) ⊎ (refusals.BadBundle at ≡ refusals.NoMemory) → ⊥
    go (inl is) = absurd (cc)
    go (inr is) = absurd (cc)

-- nor that its store failed
pub no_fault : (done : Answer) → IfErr done (λ e. (e ≡ refusals.Full) ⊎ (e ≡ refusals.NoMemory)) → IsEnded done → done ≡ Ok tt
no_fault done refused (inl ok) = ok
no_fault done refused (inr e) = absurd (go (subst (λ (a : Answer). IfErr a (λ x. (x ≡ refusals.Full) ⊎ (x ≡ refusals.NoMemory))) e refused))
  where
    go : (refusals.StoreFault ≡ refusals.Full) ⊎ (refusals.StoreFault ≡ refusals.NoMemory) → ⊥
    go (inl is) = absurd (cc)
    go (inr is) = absurd (cc)

-- ---- it only grows

each_grows : {K : Type 0} (told : Option Contents) (ends : List EndName) (n m : NodeView K) → ClosesEach told ends n m → length n.history ≤ length m.history
each_grows told [] n m c = same (length n.history) (length m.history) (ap (λ (x : NodeView _). length x.history) c)
  where
    same : (k l : ℕ) → l ≡ k → k ≤ l
    same k l e = omega (arith, e)
each_grows told (a ∷ ends) n m c = both (length n.history) (length c.0.history) (length m.history) (one c.1) (each_grows told ends c.0 m c.2)
  where
    both : (k l j : ℕ) → k ≤ l → l ≤ j → k ≤ j
    both k l j x y = omega (arith, x, y)

    more : (k l : ℕ) → l ≡ k + 1 → k ≤ l
    more k l e = omega (arith, e)

    same : (k l : ℕ) → l ≡ k → k ≤ l
    same k l e = omega (arith, e)

    one : Closes a n c.0 ⊎ LeavesShut told a n c.0 → length n.history ≤ length c.0.history
    one (inl closes) = more (length n.history) (length c.0.history) (ap (λ (x : NodeView _). length x.history) closes.node ∙ length-append n.history _)
    one (inr leaves) = same (length n.history) (length c.0.history) (ap (λ (x : NodeView _). length x.history) leaves.node)

close_grows : {K : Type 0} (tells : K → StoreView) (other : ℕ) (done : Answer) (n m : NodeView K) → OnOk done (ClosesEach (told_of (tells n.keeper).contents (tells n.keeper).parts) (ends_to other) n m) → OnErr done (m ≡ n)
    → length n.history ≤ length m.history
close_grows tells other (Ok x) n m ok err = each_grows (told_of (tells n.keeper).contents (tells n.keeper).parts) (ends_to other) n m ok
close_grows tells other (Err e) n m ok err = same (length n.history) (length m.history) (ap (λ (x : NodeView _). length x.history) err)
  where
    same : (k l : ℕ) → l ≡ k → k ≤ l
    same k l e = omega (arith, e)

-- the node has no fewer entries after the call and the carrying of frames
pub closed_within : {K : Type 0} (tells : K → StoreView) (r other had : ℕ) (done : Answer) (was up : FleetView K) (turned carried : List (NodeView K)) → Raises tells r had was up → r < length was.nodes
    → AtNode r up.nodes turned (λ n m. OnOk done (ClosesEach (told_of (tells n.keeper).contents (tells n.keeper).parts) (ends_to other) n m)) → AtNode r up.nodes turned (λ n m. OnErr done (m ≡ n))
    → length turned ≡ length up.nodes → AtNode r turned carried (λ n m. m ≡ joined.with_links n m.parts.links) → (x : NodeView K) → slice_get carried r ≡ Some x → had ≤ length x.history
closed_within {K} tells r other had done was up turned carried raises there ok err count rest x at_x =
    let first : (n : NodeView K) × (slice_get was.nodes r ≡ Some n) = slice_get-within was.nodes r there in
    let second : (p : NodeView K) × (slice_get up.nodes r ≡ Some p) = slice_get-within up.nodes r (subst (λ (c : ℕ). r < c) (sym raises.count) there) in
    let third : (m : NodeView K) × (slice_get turned r ≡ Some m) = slice_get-within turned r (subst (λ (c : ℕ). r < c) (sym (count ∙ raises.count)) there) in
    let had_is : had ≡ length second.0.history = raises.entries first.0 second.0 first.1 second.1 ∙ ap (λ (y : NodeView K). length y.history) (sym (raises.node first.0 second.0 first.1 second.1)) in
    subst (λ (k : ℕ). k ≤ length x.history) (sym had_is)
    (subst (λ (k : ℕ). length second.0.history ≤ k) (ap (λ (y : NodeView K). length y.history) (sym (rest third.0 x third.1 at_x)))
    (close_grows tells other done second.0 third.0 (ok second.0 third.0 second.1 third.1) (err second.0 third.0 second.1 third.1)))

-- ---- the driver's close

-- a past that isn't too long is within the limit
whole_past : (g : DriverInput) (past : List Entry) → is_too_long g past ≡ false → within_limit g past ≡ past
whole_past g [] short = refl
whole_past g (e ∷ past) short = ap (λ (b : Bool). if b then within_limit g past else e ∷ past) short

module _ {K : Type 0} (tells : K → StoreView) (laws : ClosingLaws tells) (r other had : ℕ) (done : Answer) (was up : FleetView K) (turned carried : List (NodeView K)) (after : FleetView K) (there : r < length was.nodes) (known : other < length was.nodes) (apart : other ≢ r) (closed : IsClosed tells r other had done was up turned carried after) where
  -- the node before the call and after it
  around : (g : DriverInput) (d : Driver) → HasCome tells g d was → IsThere r (ClosesEnds tells other done) was after g d
  around g d come = is_there tells r had (ClosesEnds tells other done) was up turned carried after there closed.call closed.holds g d come

  is_other : (g : DriverInput) (d : Driver) → HasCome tells g d was → IsOther g r other
  is_other g d come = (subst (λ (c : ℕ). other < c) come.count known, apart)

  -- a call that was done had places
  had_places : (g : DriverInput) (d : Driver) (t : IsThere r (ClosesEnds tells other done) was after g d) → done ≡ Ok tt → lacks_places t.before other ≡ false
  had_places g d t ok = go (lacks_places t.before other) refl
    where
      go : (b : Bool) → lacks_places t.before other ≡ b → b ≡ false
      go false e = refl
      go true e = absurd (clash (sym ok ∙ t.holds.lacks e))
        where
          ended : Answer
          ended = Ok tt

          clash : ended ≡ Err refusals.Full → ⊥
          clash e = absurd (cc)

  pub has_places : IsEnded done → IfErr done (λ e. (e ≡ refusals.Full) ⊎ (e ≡ refusals.NoMemory)) → HasPlaces tells r other was
  has_places ended refused g d stands =
      let t = around g d stands.come in
      laws.places g d r other t.before was stands.come t.at t.well.parts (is_other g d stands.come) ∙ had_places g d t (no_fault done refused ended)

  pub closes_on : IsEnded done → IfErr done (λ e. (e ≡ refusals.Full) ⊎ (e ≡ refusals.NoMemory)) → ((g : DriverInput) (d : Driver) → IsKnown g r → IsOther g r other → StaysSound g d (closes g r other d))
      → GoesOn tells (λ g d. closes g r other d) was after
  closes_on ended refused sound g d stands =
      let t = around g d stands.come in
      let ok = no_fault done refused ended in
      record {
        come = laws.closes g d r other t.before t.left was after stands.come t.one closed.joined t.well (is_other g d stands.come) (had_places g d t ok)
            (subst (λ (a : Answer). OnOk a (ClosesEach (told_of (tells t.before.keeper).contents (tells t.before.keeper).parts) (ends_to other) (with_newest d t.before) t.left)) ok t.holds.ok)
            t.early t.few (sound g d t.well.known (is_other g d stands.come));
        decides = stands.decides;
      }

  -- ---- it lacked places

  -- the driver then closes none
  none_closed_at : done ≡ Err refusals.Full → (g : DriverInput) (d : Driver) → HasCome tells g d was → (steps.lacks_places d.past r other ≡ true) × (closes g r other d ≡ d)
  none_closed_at full g d come = let t = around g d come in laws.none g d r other t.before was come t.at t.well.parts (is_other g d come) (t.holds.full full)

  -- and its past isn't too long
  not_long : (g : DriverInput) (d : Driver) → HasCome tells g d was → is_too_long g d.past ≡ false
  not_long g d come = laws.few g d.past made
    where
      made : (q : ℕ) → q < length g.repos → count_of d.past q ≤ most_entries
      made q within =
          let found : (n : NodeView K) × (slice_get was.nodes q ≡ Some n) = slice_get-within was.nodes q (subst (λ (c : ℕ). q < c) (sym come.count) within) in
          subst (λ (k : ℕ). k ≤ most_entries) (sym (counted tells g d q found.0 (come.each q found.0 found.1)))
          (each_at (λ (n : NodeView K). length n.history ≤ most_entries) was.nodes q found.0 closed.few found.1)

  pub closes_none : (q : ℕ) → q ≡ r → done ≡ Err refusals.Full → (q ≡ r) × ClosesNone tells r other was after
  closes_none q is full = (
    is,
    record {
      lacks = λ g d stands. (none_closed_at full g d stands.come).0;
      past = λ g d stands. ap (λ (x : Driver). within_limit g x.past) (none_closed_at full g d stands.come).1 ∙ whole_past g d.past (not_long g d stands.come);
      run = same_run;
    },
  )
    where
      first : (n : NodeView K) × (slice_get was.nodes r ≡ Some n)
      first = slice_get-within was.nodes r there

      second : (p : NodeView K) × (slice_get up.nodes r ≡ Some p)
      second = slice_get-within up.nodes r (subst (λ (c : ℕ). r < c) (sym closed.call.raises.count) there)

      third : (m : NodeView K) × (slice_get turned r ≡ Some m)
      third = slice_get-within turned r (subst (λ (c : ℕ). r < c) (sym (closed.call.count ∙ closed.call.raises.count)) there)

      fourth : (x : NodeView K) × (slice_get carried r ≡ Some x)
      fourth = slice_get-within carried r (subst (λ (c : ℕ). r < c) (sym (closed.call.carried_count ∙ (closed.call.count ∙ closed.call.raises.count))) there)

      same_run : after.run ≡ was.run
      same_run = run_stays first.0 third.0 was after
          (one_carried tells r had was up turned carried after first.0 second.0 third.0 fourth.0 closed.call first.1 second.1 third.1 fourth.1).run
          (ap (λ (y : NodeView K). y.history) (subst (λ (a : Answer). OnErr a (third.0 ≡ second.0)) full (closed.holds second.0 third.0 second.1 third.1).err)
          ∙ ap (λ (y : NodeView K). y.history) (closed.call.raises.node first.0 second.0 first.1 second.1))
