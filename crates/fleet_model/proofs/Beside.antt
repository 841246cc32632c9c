-- What a script does that makes no entry of a repository: waiting, paths, marks, and calls that are to fail.
use Rattle.std.proofs.Common.{◌≡◌, ◌≢◌, ℕ, ◌+◌, ◌<◌, ◌≤◌, ◌^◌, Bool, true, false, List, [], ◌∷◌, ◌++◌, Option, Some, None, length, refl, sym, ap, ◌∙◌, subst, arith}
use Rattle.std.specs.Prelude.{◌&&◌, cond, filter, if◌then◌else◌, reverse, slice_get}
use Rattle.std.specs.Option.{option_map}
use Rattle.std.proofs.lemmas.Grind.{reverse_onto}
use Rattle.std.proofs.lemmas.List.{length-append, length-reverse}
use Rattle.std.proofs.lemmas.List.Elements.{filter-append}
use Rattle.annex_base.specs.Calls.{same_call}
use Rattle.annex_base.specs.declared.kinds.Call.{Call}
use Rattle.annex_base.proofs.Conditions.{eqb_other, eqb_refl}
use Rattle.annex_base.proofs.Lists.{Each-weaker}
use Rattle.object_store.specs.Calls.{one_more}
use Rattle.run_data.specs.declared.entry.Entry.{Entry}
use Rattle.run_data.specs.declared.entry.EntryKind.TheVariants as kinds
use Rattle.run_data.specs.declared.run.Run.{Run}
use Rattle.run_model.specs.Past.{now}
use Rattle.driver_model.specs.Driver.{Driver, FailLine, DriverInput, is_failing, newest_count}
use Rattle.driver_model.specs.Driving.{with_mark}
use Rattle.driver_model.specs.Scripts.{HasBoundedPast}
use Rattle.driver_model.specs.ScriptSteps.{enters, waits, will_fail}
use Rattle.driver_model.specs.Sound.{StaysSound}
use Rattle.link_flights.specs.Flights.{IsEndIn}
use Rattle.link_flights.specs.Words.{AreWorded}
use Rattle.joined_nodes.specs.Running.{given_of, words_at}
use Rattle.node_ends.specs.Ends.{link_at}
use Rattle.joined_nodes.specs.Nodes.{NodeView}
use Rattle.fleet_model.specs.Fleets.{FleetView, HasCome, HasGiven, IsNodeOf, links_at}
use Rattle.fleet_model.specs.Stores.{IsTold, waiting_fails}
use Rattle.joined_nodes.specs.Stored.{StoreView}
use Rattle.fleet_model.proofs.Hearing.{WordLaws}
use Rattle.fleet_model.proofs.Pathing.{given_entered}

-- ---- a driver that differs in what no node has

-- the nodes stay the driver's
beside : {K : Type 0} (tells : K → StoreView) (g : DriverInput) (d d' : Driver) (r : ℕ) (n : NodeView K) → d' ≡ record d { tree = d'.tree; marks = d'.marks } → ((x : ℕ × Option (List (List ℕ))) → HasGiven d r x → HasGiven d' r x) → IsNodeOf tells g d r n → IsNodeOf tells g d' r n
beside {K} tells g d d' r n but given is =
    subst (λ (x : Driver). IsNodeOf tells g x r n) (sym but)
    (record {
      setup = record { number = is.setup.number; ids = is.setup.ids; offset = is.setup.offset; version = is.setup.version; locks = is.setup.locks };
      history = is.history;
      branch = is.branch;
      store = record { contents = is.store.contents; parts = is.store.parts; failing = is.store.failing };
      time = is.time;
      count = is.count;
      heard = is.heard;
      paths = Each-weaker (λ j. HasGiven d r (given_of j)) (λ j. HasGiven (record d { tree = d'.tree; marks = d'.marks }) r (given_of j))
          (λ j h. subst (λ (x : Driver). HasGiven x r (given_of j)) but (given (given_of j) h)) n.parts.jobs.running is.paths;
    })

come_beside : {K : Type 0} (tells : K → StoreView) (g : DriverInput) (d d' : Driver) (f f' : FleetView K) → d' ≡ record d { tree = d'.tree; marks = d'.marks } → ((r : ℕ) (x : ℕ × Option (List (List ℕ))) → HasGiven d r x → HasGiven d' r x) → f'.nodes ≡ f.nodes
    → f'.run ≡ record f.run { tree = d'.tree; marks = d'.marks } → StaysSound g d d' → HasCome tells g d f → HasCome tells g d' f'
come_beside {K} tells g d d' f f' but given same run sound h = record {
  run = run ∙ ((λ i. record (h.run i) { tree = d'.tree; marks = d'.marks }) ∙ (λ i. record { repos = g.repos; entries = reverse (sym (ap (λ (x : Driver). x.past) but) i); tree = d'.tree; marks = d'.marks }));
  sound = sound h.sound fits;
  fits = fits;
  count = ap length same ∙ h.count;
  each = λ q n at. beside tells g d d' q n but (given q) (h.each q n (sym (ap (λ (ns : List (NodeView K)). slice_get ns q) same) ∙ at));
  ends = λ q a v q_in a_in apart at.
      subst (λ (x : Driver). IsEndIn x.flights q a v) (sym but)
      (h.ends q a v q_in a_in apart (subst (λ (ns : List (NodeView K)). link_at (links_at ns q) a ≡ Some v) same at));
  words = λ q a v q_in a_in apart client at.
      subst (λ (x : Driver). AreWorded x.past q a v.at_hand) (sym but)
      (h.words q a v q_in a_in apart client (subst (λ (ns : List (NodeView K)). link_at (links_at ns q) a ≡ Some v) same at));
  selves = λ q a v at_self at. h.selves q a v at_self (subst (λ (ns : List (NodeView K)). link_at (links_at ns q) a ≡ Some v) same at);
} where
  fits : HasBoundedPast d'
  fits = subst HasBoundedPast (sym but) h.fits

-- a path names a key
pub entered : {K : Type 0} → WordLaws → (tells : K → StoreView) (g : DriverInput) (d : Driver) (path key : List ℕ) (f f' : FleetView K) → f'.nodes ≡ f.nodes
    → f'.run ≡ record f.run { tree = f.run.tree ++ record { place = length f.run.entries; path = path; key = key } ∷ [] } → StaysSound g d (enters path key d) → HasCome tells g d f → HasCome tells g (enters path key d) f'
entered {K} laws tells g d path key f f' same run sound h = come_beside tells g d (enters path key d) f f' refl (λ r. given_entered laws d r path key) same (run ∙ there) sound h
  where
    place : length f.run.entries ≡ length d.past
    place = ap (λ (x : Run). length x.entries) h.run ∙ length-reverse d.past

    there : record f.run { tree = f.run.tree ++ record { place = length f.run.entries; path = path; key = key } ∷ [] } ≡ record f.run { tree = (enters path key d).tree; marks = (enters path key d).marks }
    there = λ i. record f.run { tree = (h.run i).tree ++ record { place = place i; path = path; key = key } ∷ []; marks = (h.run i).marks }

-- a line is done
pub marked : {K : Type 0} (tells : K → StoreView) (g : DriverInput) (d : Driver) (f f' : FleetView K) → f'.nodes ≡ f.nodes → f'.run ≡ record f.run { marks = f.run.marks ++ length f.run.entries ∷ [] }
    → StaysSound g d (with_mark d) → HasCome tells g d f → HasCome tells g (with_mark d) f'
marked {K} tells g d f f' same run sound h = come_beside tells g d (with_mark d) f f' refl (λ r x has. has) same (run ∙ there) sound h
  where
    place : length f.run.entries ≡ length d.past
    place = ap (λ (x : Run). length x.entries) h.run ∙ length-reverse d.past

    there : record f.run { marks = f.run.marks ++ length f.run.entries ∷ [] } ≡ record f.run { tree = (with_mark d).tree; marks = (with_mark d).marks }
    there = λ i. record f.run { tree = (h.run i).tree; marks = (h.run i).marks ++ place i ∷ [] }

-- ---- time passes

later : (a b c : ℕ) → a ≤ b → a ≤ b + c
later a b c less = grind arith

-- the entry of a wait
abbrev waited_entry : Driver → ℕ → Entry
waited_entry d milliseconds = record { time = now d.past + milliseconds; count = newest_count d.past + 1; repo = None; kind = kinds.Wait milliseconds; taken = None; sent = []; lines = [] }

waited_node : {K : Type 0} → WordLaws → (tells : K → StoreView) (g : DriverInput) (d : Driver) (milliseconds r : ℕ) (n : NodeView K) → IsNodeOf tells g d r n → IsNodeOf tells g (waits milliseconds d) r n
waited_node laws tells g d milliseconds r n is = record {
  setup = record { number = is.setup.number; ids = is.setup.ids; offset = is.setup.offset; version = is.setup.version; locks = is.setup.locks };
  history = is.history;
  branch = is.branch;
  store = record { contents = is.store.contents; parts = is.store.parts; failing = is.store.failing };
  time = later n.time (now d.past) milliseconds is.time;
  count = later n.count (newest_count d.past) 1 is.count;
  heard = laws.other d.past (waited_entry d milliseconds) r (words_at n.parts.jobs.running) refl is.heard;
  paths = is.paths;
}

pub waited : {K : Type 0} → WordLaws → (tells : K → StoreView) (g : DriverInput) (d : Driver) (milliseconds : ℕ) (f f' : FleetView K) → f'.nodes ≡ f.nodes
    → f'.run ≡ record f.run { entries = f.run.entries ++ record { time = now d.past + milliseconds; count = newest_count d.past + 1; repo = None; kind = kinds.Wait milliseconds; taken = None; sent = []; lines = [] } ∷ [] }
    → now d.past + milliseconds ≤ 1000000000000 → newest_count d.past + 1 < 2 ^ 62 → StaysSound g d (waits milliseconds d) → HasCome tells g d f → HasCome tells g (waits milliseconds d) f'
waited {K} laws tells g d milliseconds f f' same run early few sound h = record {
  run = run ∙ ((λ i. record (h.run i) { entries = (h.run i).entries ++ e ∷ [] }) ∙ (λ i. record { repos = g.repos; entries = sym (reverse_onto d.past e []) i; tree = d.tree; marks = d.marks }));
  sound = sound h.sound fits;
  fits = fits;
  count = ap length same ∙ h.count;
  each = λ q n at. waited_node laws tells g d milliseconds q n (h.each q n (sym (ap (λ (ns : List (NodeView K)). slice_get ns q) same) ∙ at));
  ends = λ q a v q_in a_in apart at. h.ends q a v q_in a_in apart (subst (λ (ns : List (NodeView K)). link_at (links_at ns q) a ≡ Some v) same at);
  words = λ q a v q_in a_in apart client at.
      laws.quiet d.past (length g.repos) (links_at f.nodes) e refl refl h.words q a v q_in a_in apart client (subst (λ (ns : List (NodeView K)). link_at (links_at ns q) a ≡ Some v) same at);
  selves = λ q a v at_self at. h.selves q a v at_self (subst (λ (ns : List (NodeView K)). link_at (links_at ns q) a ≡ Some v) same at);
} where
  e : Entry
  e = record { time = now d.past + milliseconds; count = newest_count d.past + 1; repo = None; kind = kinds.Wait milliseconds; taken = None; sent = []; lines = [] }

  fits : HasBoundedPast (waits milliseconds d)
  fits = ((record { in_time = early; counted = few; small = tt }, h.fits.0), h.fits.1)

-- ---- a call is to fail

abbrev fail_line : ℕ → Call → FailLine
fail_line r call = record { repo = r; call = call }

waits_too : (d : Driver) (r q : ℕ) (call c : Call) (b : Bool) → is_failing q c (fail_line r call) ≡ b → waiting_fails (will_fail r call d) q c ≡ (if b then waiting_fails d q c + 1 else waiting_fails d q c)
waits_too d r q call c b e =
    ap length (filter-append (is_failing q c) d.fails (fail_line r call ∷ [])) ∙ (length-append (filter (is_failing q c) d.fails) (filter (is_failing q c) (fail_line r call ∷ [])) ∙ go b e)
  where
    none : (n : ℕ) → n + 0 ≡ n
    none n = grind arith

    go : (b : Bool) → is_failing q c (fail_line r call) ≡ b
        → waiting_fails d q c + length (filter (is_failing q c) (fail_line r call ∷ [])) ≡ (if b then waiting_fails d q c + 1 else waiting_fails d q c)
    go true e = ap (λ (b : Bool). waiting_fails d q c + length (cond b (fail_line r call ∷ []) [])) e
    go false e = ap (λ (b : Bool). waiting_fails d q c + length (cond b (fail_line r call ∷ []) [])) e ∙ none (waiting_fails d q c)

own_fails : (r : ℕ) (call c : Call) → is_failing r c (fail_line r call) ≡ same_call call c
own_fails r call c = ap (λ (b : Bool). b && same_call call c) (eqb_refl r)

others_fail : (r q : ℕ) (call c : Call) → q ≢ r → is_failing q c (fail_line r call) ≡ false
others_fail r q call c apart = ap (λ (b : Bool). b && same_call call c) (eqb_other r q apart)

more_told : (d : Driver) (r : ℕ) (call : Call) (o o' : Option (Call → ℕ)) → o' ≡ option_map (one_more call) o → IsTold o (λ n. (c : Call) → n c ≡ waiting_fails d r c) → IsTold o' (λ n. (c : Call) → n c ≡ waiting_fails (will_fail r call d) r c)
more_told d r call None o' is told = absurd told
more_told d r call (Some n) o' is told =
    subst (λ (o : Option (Call → ℕ)). IsTold o (λ n. (c : Call) → n c ≡ waiting_fails (will_fail r call d) r c)) (sym is)
    (λ c. ap (λ (m : ℕ). if same_call call c then m + 1 else m) (told c) ∙ sym (waits_too d r r call c (same_call call c) (own_fails r call c)))

same_told : (d : Driver) (r q : ℕ) (call : Call) (o : Option (Call → ℕ)) → q ≢ r → IsTold o (λ n. (c : Call) → n c ≡ waiting_fails d q c) → IsTold o (λ n. (c : Call) → n c ≡ waiting_fails (will_fail r call d) q c)
same_told d r q call None apart told = told
same_told d r q call (Some n) apart told = λ c. told c ∙ sym (waits_too d r q call c false (others_fail r q call c apart))

pub failing_node : {K : Type 0} (tells : K → StoreView) (g : DriverInput) (d : Driver) (r : ℕ) (call : Call) (n m : NodeView K) → IsNodeOf tells g d r n → m ≡ record n { keeper = m.keeper }
    → (tells m.keeper).contents ≡ (tells n.keeper).contents → (tells m.keeper).parts ≡ (tells n.keeper).parts → (tells m.keeper).failing ≡ option_map (one_more call) (tells n.keeper).failing
    → IsNodeOf tells g (will_fail r call d) r m
failing_node {K} tells g d r call n m is but contents parts failing =
    subst (λ (x : NodeView K). IsNodeOf tells g (will_fail r call d) r x) (sym but)
    (record {
      setup = record { number = is.setup.number; ids = is.setup.ids; offset = is.setup.offset; version = is.setup.version; locks = is.setup.locks };
      history = is.history;
      branch = is.branch;
      store = record {
        contents = rw contents is.store.contents;
        parts = rw parts is.store.parts;
        failing = more_told d r call (tells n.keeper).failing (tells m.keeper).failing failing is.store.failing;
      };
      time = is.time;
      count = is.count;
      heard = is.heard;
      paths = is.paths;
    })

pub other_failing : {K : Type 0} (tells : K → StoreView) (g : DriverInput) (d : Driver) (r q : ℕ) (call : Call) (n : NodeView K) → q ≢ r → IsNodeOf tells g d q n → IsNodeOf tells g (will_fail r call d) q n
other_failing tells g d r q call n apart is = record {
  setup = record { number = is.setup.number; ids = is.setup.ids; offset = is.setup.offset; version = is.setup.version; locks = is.setup.locks };
  history = is.history;
  branch = is.branch;
  store = record { contents = is.store.contents; parts = is.store.parts; failing = same_told d r q call (tells n.keeper).failing apart is.store.failing };
  time = is.time;
  count = is.count;
  heard = is.heard;
  paths = is.paths;
}
