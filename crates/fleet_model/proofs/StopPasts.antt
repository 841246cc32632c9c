-- How many entries each repository has made, and the next entry, for which a full history has no room.
use Rattle.std.proofs.Common.{◌≡◌, ◌≢◌, inl, inr, ℕ, ◌<◌, ◌≤◌, ◌^◌, Bool, true, false, List, [], ◌∷◌, ◌++◌, length, Option, Some, None, refl, sym, ap, ◌∙◌, subst, arith, le_of_eq}
use Rattle.std.specs.Prelude.{◌==◌, drop, filter, if◌then◌else◌, reverse, slice_get}
use Rattle.std.proofs.lemmas.List.{append_assoc, length-reverse, reverse-reverse}
use Rattle.std.proofs.lemmas.List.Elements.{filter-append}
use Rattle.std.proofs.lemmas.Option.{slice_get_cases, slice_get_within}
use Rattle.std.proofs.lemmas.Bool.{eqb-false, eqb-true}
use Rattle.annex_base.specs.Lists.{Each}
use Rattle.annex_base.proofs.Lists.{Each-weaker, filter_none}
use Rattle.annex_base.specs.declared.kinds.Call.{Call}
use Rattle.annex_base.proofs.Conditions.{eqb_refl}
use Rattle.run_data.specs.Histories.{most_entries}
use Rattle.run_data.specs.declared.entry.By.TheVariants.{Script}
use Rattle.run_data.specs.declared.entry.Entry.{Entry}
use Rattle.run_data.specs.declared.entry.EntryKind.{EntryKind}
use Rattle.run_data.specs.declared.entry.EntryKind.TheVariants as kinds
use Rattle.run_data.specs.declared.entry.FrameView.{FrameView}
use Rattle.run_data.specs.declared.run.Run.{Run}
use Rattle.run_model.specs.Past.{is_of}
use Rattle.run_model.specs.Run.{IsRun, MayBe, RunPast, set_up}
use Rattle.node_model.specs.Rows.{option_is}
use Rattle.node_model.specs.SetUp.{SetUp}
use Rattle.driver_model.specs.Driver.{Driver, DriverInput, answers, entry, fails_at, notes}
use Rattle.driver_model.specs.Driving.{run_with}
use Rattle.driver_model.specs.Limits.{AddsOwn, StopsAtFull, count_of}
use Rattle.driver_model.specs.Scripts.{HasBoundedPast}
use Rattle.driver_model.specs.ScriptSteps.{faults, sends, unless_fails}
use Rattle.driver_model.specs.Sound.{IsSound, StaysSound}
use Rattle.joined_nodes.specs.Nodes.{NodeView}
use Rattle.joined_nodes.specs.Stored.{StoreView}
use Rattle.fleet_model.specs.Fleets.{FleetView, HasCome}
use Rattle.fleet_model.specs.Steps.{OneGoesOn}
use Rattle.fleet_model.specs.Stopping.{OthersAreFew}
use Rattle.fleet_model.proofs.Going.{GoesOn, all_others, entries_go_on, goes_within}
use Rattle.fleet_model.proofs.Noting.{HasEntriesOf}

-- ---- how many entries each has made

pub count_is : (past history : List Entry) (r : ℕ) → history ≡ reverse (filter (is_of r) past) → count_of past r ≡ length history
count_is past history r is = sym (ap length is ∙ length-reverse (filter (is_of r) past))

-- entries of r are none of another's
count_elsewhere : (r q : ℕ) (d after : Driver) → q ≢ r → AddsOwn r d after → count_of after.past q ≡ count_of d.past q
count_elsewhere r q d after apart adds =
    ap (λ (past : List Entry). count_of past q) adds.adds
    ∙ ap length (filter-append (is_of q) adds.more d.past ∙ ap (λ (xs : List Entry). xs ++ filter (is_of q) d.past) none)
  where
    none : filter (is_of q) adds.more ≡ []
    none = filter_none (is_of q) adds.more (Each-weaker (λ e. is_of r e ≡ true) (λ e. is_of q e ≡ false) (all_others r q adds.more d.past apart adds.own) adds.more adds.own)

-- no entry of a run is of a number that is no repository's
no_strangers : (s : ℕ → SetUp) (q : ℕ) (past : List Entry) → ((s q).number < length (s q).repos → ⊥) → RunPast s past → Each (λ e. is_of q e ≡ false) past
no_strangers s q [] never run = tt
no_strangers s q (e ∷ past) never run = (by_repo e.repo run.0.may, no_strangers s q past never run.1)
  where
    by_repo : (o : Option ℕ) → MayBe s past e o → option_is o q ≡ false
    by_repo None may = refl
    by_repo (Some p) may = go (p == q) refl
      where
        go : (b : Bool) → (p == q) ≡ b → b ≡ false
        go false i = refl
        go true i = absurd (never (subst (λ (x : ℕ). (s x).number < length (s x).repos) (eqb-true p q i) may.1.known))

strangers_count : (g : DriverInput) (d : Driver) (q : ℕ) → IsSound g d → length g.repos ≤ q → count_of d.past q ≡ 0
strangers_count g d q sound past_all =
    ap length (filter_none (is_of q) d.past (no_strangers (set_up (run_with g d)) q d.past (λ less. never q (length g.repos) less past_all)
    (subst (RunPast (set_up (run_with g d))) (reverse-reverse d.past) sound.run.steps)))
  where
    never : (a b : ℕ) → a < b → b ≤ a → ⊥
    never a b less more = grind arith

-- ---- a fleet's

at_least_none : (most n : ℕ) → n ≡ 0 → n ≤ most
at_least_none most n e = grind arith

pub is_known : {K : Type 0} (tells : K → StoreView) (g : DriverInput) (d : Driver) (r : ℕ) (n : NodeView K) (was : FleetView K) → HasCome tells g d was → slice_get was.nodes r ≡ Some n → r < length g.repos
is_known tells g d r n was h at = subst (λ (count : ℕ). r < count) h.count (slice_get_within was.nodes r n at)

pub others_are_few : {K : Type 0} (tells : K → StoreView) (g : DriverInput) (d : Driver) (r : ℕ) (was : FleetView K) → HasCome tells g d was → OthersAreFew r was.nodes → (q : ℕ) → q ≢ r → count_of d.past q ≤ most_entries
others_are_few tells g d r was h few q apart = elim ((slice_get_cases was.nodes q).1) [
  | inl x ↦ subst (λ (count : ℕ). count ≤ most_entries) (sym (count_is d.past x.0.history q (h.each q x.0 x.2).history)) (few q x.0 apart x.2)
  | inr x ↦ at_least_none most_entries (count_of d.past q) (strangers_count g d q h.sound (subst (λ (count : ℕ). count ≤ q) h.count x.0))
]

-- and so are all, where r has just so many
pub all_are_few : (r : ℕ) (past : List Entry) → count_of past r ≡ most_entries → ((q : ℕ) → q ≢ r → count_of past q ≤ most_entries) → (q : ℕ) → count_of past q ≤ most_entries
all_are_few r past full few q = go (q == r) refl
  where
    go : (b : Bool) → (q == r) ≡ b → count_of past q ≤ most_entries
    go true e = le_of_eq (ap (count_of past) (eqb-true q r e) ∙ full)
    go false e = few q (eqb-false q r e)

-- ---- the entry that comes next

-- the step leads from the one driver to the other by an entry of r, and maybe more behind it
pub record ComesTo (r : ℕ) (d after : Driver) : Type 0 where
  pub more : List Entry
  pub next : Entry
  pub own : is_of r next ≡ true
  pub goes_on : after.past ≡ more ++ next ∷ d.past

-- of entries that were added to any past, the first
record FirstOf (r : ℕ) (added : List Entry) : Type 0 where
  more : List Entry
  next : Entry
  own : is_of r next ≡ true
  added_are : (past : List Entry) → added ++ past ≡ more ++ next ∷ past

first_of : (r : ℕ) (e : Entry) (added : List Entry) → Each (λ e. is_of r e ≡ true) (e ∷ added) → FirstOf r (e ∷ added)
first_of r e [] own = record { more = []; next = e; own = own.0; added_are = λ past. refl }
first_of r e (f ∷ added) own =
    let first = first_of r f added own.1 in
    record { more = e ∷ first.more; next = first.next; own = first.own; added_are = λ past. ap (λ (xs : List Entry). e ∷ xs) (first.added_are past) }

-- a step that adds entries of r comes to one, unless it adds none
pub comes_adding : (r : ℕ) (d after : Driver) → AddsOwn r d after → (length after.past ≡ length d.past → ⊥) → ComesTo r d after
comes_adding r d after adds grows = go adds.more adds.own adds.adds
  where
    go : (more : List Entry) → Each (λ e. is_of r e ≡ true) more → after.past ≡ more ++ d.past → ComesTo r d after
    go [] own is = absurd (grows (ap length is))
    go (e ∷ more) own is = let first = first_of r e more own in record { more = first.more; next = first.next; own = first.own; goes_on = is ∙ first.added_are d.past }

pub comes_noting : (r : ℕ) (kind : EntryKind) (lines : List (List ℕ)) (d : Driver) → ComesTo r d (notes r kind lines d)
comes_noting r kind lines d = record { more = []; next = entry d r kind lines; own = eqb_refl r; goes_on = refl }

pub comes_sending : (g : DriverInput) (r : ℕ) (kind : EntryKind) (sent : List FrameView) (d : Driver) → ComesTo r d (sends g r kind sent d)
comes_sending g r kind sent d = record { more = []; next = record (entry d r kind []) { sent = sent }; own = eqb_refl r; goes_on = refl }

pub comes_failing : (r : ℕ) (call : Call) (d : Driver) → ComesTo r d (faults r call d)
comes_failing r call d = record { more = []; next = entry (answers r call d) r (kinds.Fault call Script) []; own = eqb_refl r; goes_on = refl }

pub comes_if : (r : ℕ) (b : Bool) (d x y : Driver) → ComesTo r d x → ComesTo r d y → ComesTo r d (if b then x else y)
comes_if r true d x y there other = there
comes_if r false d x y there other = other

pub comes_calling : (r : ℕ) (call : Call) (d done : Driver) → ComesTo r d done → ComesTo r d (unless_fails r call d done)
comes_calling r call d done there = comes_if r (fails_at d r call) d (faults r call d) done (comes_failing r call d) there

pub comes_then : (r : ℕ) (d mid after : Driver) → ComesTo r d mid → AddsOwn r mid after → ComesTo r d after
comes_then r d mid after there adds = record {
  more = adds.more ++ there.more;
  next = there.next;
  own = there.own;
  goes_on = adds.adds ∙ (ap (λ (past : List Entry). adds.more ++ past) there.goes_on ∙ sym (append_assoc adds.more there.more (there.next ∷ d.past)));
}

-- ---- the run ends there

-- r came from the one driver to the other, whose run this is; and then the step would make an entry of r, whose history is full
stops : (g : DriverInput) (r : ℕ) (d mid after : Driver) (run : Run) → r < length g.repos → run ≡ run_with g mid → IsSound g mid → AddsOwn r d mid → count_of mid.past r ≡ most_entries
    → ((q : ℕ) → q ≢ r → count_of d.past q ≤ most_entries) → ComesTo r mid after → StopsAtFull g r after run
stops g r d mid after run known is sound adds full few there = record {
  known = known;
  past = mid.past;
  entries = ap (λ (x : Run). x.entries) is;
  lawful = subst IsRun (sym is) sound.run;
  full = full;
  few = all_are_few r mid.past full (λ q apart. subst (λ (count : ℕ). count ≤ most_entries) (sym (count_elsewhere r q d mid apart adds)) (few q apart));
  more = there.more;
  next = there.next;
  own = there.own;
  goes_on = there.goes_on;
}

-- the history was full before the step
pub stops_at_once : {K : Type 0} (tells : K → StoreView) (g : DriverInput) (d after : Driver) (r : ℕ) (n : NodeView K) (was : FleetView K) → HasCome tells g d was → slice_get was.nodes r ≡ Some n → OthersAreFew r was.nodes
    → length n.history ≡ most_entries → ComesTo r d after → StopsAtFull g r after was.run
stops_at_once tells g d after r n was h at few full there =
    stops g r d d after was.run (is_known tells g d r n was h at) h.run h.sound (record { more = []; adds = refl; own = tt }) (count_is d.past n.history r (h.each r n at).history ∙ full)
    (others_are_few tells g d r was h few) there

-- the history is full where the step has come to this driver
pub stops_there : {K : Type 0} (tells : K → StoreView) (g : DriverInput) (d mid after : Driver) (r : ℕ) (n m : NodeView K) (was now : FleetView K) → HasCome tells g d was → OneGoesOn r n m was now → OthersAreFew r was.nodes
    → GoesOn r d mid → HasEntriesOf g mid r m → length m.history ≡ most_entries → m.time ≤ 1000000000000 → m.count < 2 ^ 62 → StaysSound g d mid → ComesTo r mid after → StopsAtFull g r after now.run
stops_there {K} tells g d mid after r n m was now h step few on own full early counted sound there =
    stops g r d mid after now.run (is_known tells g d r n was h step.before) run_is (sound h.sound fits) (record { more = on.more; adds = on.past; own = on.own })
    (count_is mid.past m.history r own.history ∙ full) (others_are_few tells g d r was h few) there
  where
    entries : reverse mid.past ≡ reverse d.past ++ drop (length n.history) m.history
    entries = entries_go_on r d mid n.history m.history on (h.each r n step.before).history own.history

    run_is : now.run ≡ run_with g mid
    run_is = step.run ∙ ((λ i. record (h.run i) { entries = (h.run i).entries ++ drop (length n.history) m.history })
        ∙ (λ i. record { repos = g.repos; entries = sym entries i; tree = sym on.tree i; marks = sym on.marks i }))

    fits : HasBoundedPast mid
    fits = goes_within r d mid h.fits on (subst (λ (t : ℕ). t ≤ 1000000000000) own.time early) (subst (λ (c : ℕ). c < 2 ^ 62) own.count counted)
