-- A step of the driver by which one repository alone goes on, without a frame.
use Rattle.std.proofs.Common.{◌≡◌, ◌≢◌, ◌⊎◌, inl, ℕ, ◌+◌, ◌<◌, ◌≤◌, ◌^◌, Bool, true, false, List, [], ◌∷◌, ◌++◌, Option, Some, None, length, refl, sym, ap, ◌∙◌, subst, arith, le_refl, le_trans, le-add_right}
use Rattle.std.specs.Prelude.{cond, drop, filter, if◌then◌else◌, reverse}
use Rattle.std.proofs.lemmas.Bool.Decides.{nat_tests}
use Rattle.std.proofs.lemmas.List.{append_assoc, reverse-append}
use Rattle.std.proofs.Math.Seq.{drop-append_seam}
use Rattle.annex_base.specs.Lists.{Each}
use Rattle.annex_base.proofs.Lists.{Each-append, Each-weaker}
use Rattle.annex_base.specs.declared.kinds.Call.{Call}
use Rattle.annex_base.proofs.Conditions.{eqb_refl}
use Rattle.run_data.specs.declared.entry.Entry.{Entry}
use Rattle.run_data.specs.declared.entry.By.TheVariants.{Script}
use Rattle.run_data.specs.declared.entry.EntryKind.{EntryKind}
use Rattle.run_data.specs.declared.entry.EntryKind.TheVariants as kinds
use Rattle.run_data.specs.declared.job.Job.{Job}
use Rattle.node_model.specs.Rows.{option_is}
use Rattle.node_model.specs.Slots.{job_of}
use Rattle.joined_nodes.specs.Running.{given_of, words_at}
use Rattle.link_flights.specs.Heard.{HeardSo}
use Rattle.run_model.specs.Logs.{branch, branch_after}
use Rattle.run_model.specs.Past.{Always, is_of, now}
use Rattle.run_model.specs.Run.{IsSmall}
use Rattle.driver_model.specs.Driver.{Driver, DriverInput, answers, entry, fails_at, newest_count, notes}
use Rattle.driver_model.specs.Scripts.{IsWithinBounds, HasBoundedPast}
use Rattle.driver_model.specs.ScriptSteps.{unless_fails, faults}
use Rattle.fleet_model.specs.Fleets.{HasGiven, IsNodeOf}
use Rattle.fleet_model.specs.Stores.{IsStoreOf}
use Rattle.joined_nodes.specs.Stored.{StoreView}
use Rattle.fleet_model.proofs.Failing.{unanswered}
use Rattle.fleet_model.proofs.Noting.{others_stay}

-- an entry of this time, with no greater count than this, that isn't too large
pub record IsWithin (time most : ℕ) (e : Entry) : Type 0 where
  pub time_is : e.time ≡ time
  pub counted : e.count ≤ most
  pub small : IsSmall e.kind

-- the entries that were added are of r; tree, marks, and the stores of others are as they were
pub record GoesOn (r : ℕ) (d d' : Driver) : Type 0 where
  pub more : List Entry
  pub past : d'.past ≡ more ++ d.past
  pub own : Each (λ e. is_of r e ≡ true) more
  pub tree : d'.tree ≡ d.tree
  pub marks : d'.marks ≡ d.marks
  pub stores : (q : ℕ) (v : StoreView) → q ≢ r → IsStoreOf d q v → IsStoreOf d' q v
  pub at : now d'.past ≡ now d.past
  pub counted : newest_count d.past ≤ newest_count d'.past
  pub bounds : Each (IsWithin (now d.past) (newest_count d'.past)) more
  pub large : d.largest < 2 ^ 62 → d'.largest < 2 ^ 62

-- an entry that takes and sends nothing, and that no job makes, or begins one
pub record IsQuiet (e : Entry) : Type 0 where
  pub takes_none : e.taken ≡ None
  pub sends_none : e.sent ≡ []
  pub jobless : (job_of e.kind ≡ None) ⊎ ((job : ℕ) × (what : Job) × (e.kind ≡ kinds.Begin job what))

-- so it goes on without a frame
pub record GoesOnQuietly (r : ℕ) (d d' : Driver) : Type 0 where
  pub on : GoesOn r d d'
  pub flights : d'.flights ≡ d.flights
  pub quiet : Each IsQuiet on.more

-- ---- how such steps are put together

pub goes_nowhere : (r : ℕ) (d : Driver) → GoesOnQuietly r d d
goes_nowhere r d = record {
  on = record {
    more = [];
    past = refl;
    own = tt;
    tree = refl;
    marks = refl;
    stores = λ q v apart is. is;
    at = refl;
    counted = le_refl (newest_count d.past);
    bounds = tt;
    large = λ e. e;
  };
  flights = refl;
  quiet = tt;
}

pub goes_then : (r : ℕ) (a b c : Driver) → GoesOnQuietly r a b → GoesOnQuietly r b c → GoesOnQuietly r a c
goes_then r a b c x y = record {
  on = record {
    more = y.on.more ++ x.on.more;
    past = y.on.past ∙ (ap (λ (p : List Entry). y.on.more ++ p) x.on.past ∙ sym (append_assoc y.on.more x.on.more a.past));
    own = Each-append (λ e. is_of r e ≡ true) y.on.more x.on.more y.on.own x.on.own;
    tree = y.on.tree ∙ x.on.tree;
    marks = y.on.marks ∙ x.on.marks;
    stores = λ q v apart is. y.on.stores q v apart (x.on.stores q v apart is);
    at = y.on.at ∙ x.on.at;
    counted = le_trans x.on.counted y.on.counted;
    bounds = Each-append (IsWithin (now a.past) (newest_count c.past)) y.on.more x.on.more
        (subst (λ (t : ℕ). Each (IsWithin t (newest_count c.past)) y.on.more) x.on.at y.on.bounds)
        (Each-weaker (IsWithin (now a.past) (newest_count b.past)) (IsWithin (now a.past) (newest_count c.past))
        (λ e w. record { time_is = w.time_is; counted = le_trans w.counted y.on.counted; small = w.small }) x.on.more x.on.bounds);
    large = λ e. y.on.large (x.on.large e);
  };
  flights = y.flights ∙ x.flights;
  quiet = Each-append IsQuiet y.on.more x.on.more y.quiet x.quiet;
}

pub goes_noting : (r : ℕ) (kind : EntryKind) (lines : List (List ℕ)) (d : Driver) → IsSmall kind → (job_of kind ≡ None) ⊎ ((job : ℕ) × (what : Job) × (kind ≡ kinds.Begin job what)) → GoesOnQuietly r d (notes r kind lines d)
goes_noting r kind lines d small jobless = record {
  on = record {
    more = entry d r kind lines ∷ [];
    past = refl;
    own = (eqb_refl r, tt);
    tree = refl;
    marks = refl;
    stores = λ q v apart is. record { contents = is.contents; parts = is.parts; failing = is.failing };
    at = refl;
    counted = le-add_right (newest_count d.past) 1;
    bounds = (record { time_is = refl; counted = le_refl (newest_count d.past + 1); small = small }, tt);
    large = λ e. e;
  };
  flights = refl;
  quiet = (record { takes_none = refl; sends_none = refl; jobless = jobless }, tt);
}

pub goes_answered : (r : ℕ) (call : Call) (d : Driver) → GoesOnQuietly r d (answers r call d)
goes_answered r call d = record {
  on = record {
    more = [];
    past = refl;
    own = tt;
    tree = refl;
    marks = refl;
    stores = λ q v apart is. unanswered d r q call v apart is;
    at = refl;
    counted = le_refl (newest_count d.past);
    bounds = tt;
    large = λ e. e;
  };
  flights = refl;
  quiet = tt;
}

pub goes_failing : (r : ℕ) (call : Call) (d : Driver) → GoesOnQuietly r d (faults r call d)
goes_failing r call d = goes_then r d (answers r call d) (faults r call d) (goes_answered r call d) (goes_noting r (kinds.Fault call Script) [] (answers r call d) tt (inl refl))

pub goes_if : (r : ℕ) (b : Bool) (d x y : Driver) → GoesOnQuietly r d x → GoesOnQuietly r d y → GoesOnQuietly r d (if b then x else y)
goes_if r true d x y there other = there
goes_if r false d x y there other = other

pub goes_calling : (r : ℕ) (call : Call) (d done : Driver) → GoesOnQuietly r d done → GoesOnQuietly r d (unless_fails r call d done)
goes_calling r call d done on = goes_if r (fails_at d r call) d (faults r call d) done (goes_failing r call d) on

-- ---- what others have

pub all_others : (r q : ℕ) (more past : List Entry) → q ≢ r → Each (λ e. is_of r e ≡ true) more → (e : Entry) → is_of r e ≡ true → is_of q e ≡ false
all_others r q more past apart own e is = go e.repo is
  where
    go : (o : Option ℕ) → option_is o r ≡ true → option_is o q ≡ false
    go None i = refl
    go (Some m) i = grind (arith, nat_tests)

others_past : (r q : ℕ) (more past : List Entry) → q ≢ r → Each (λ e. is_of r e ≡ true) more → filter (is_of q) (more ++ past) ≡ filter (is_of q) past
others_past r q [] past apart own = refl
others_past r q (e ∷ more) past apart own =
    others_stay q e (more ++ past) (all_others r q more past apart own.1 e own.0) ∙ others_past r q more past apart own.1

others_branch : (r q : ℕ) (more past : List Entry) → q ≢ r → Each (λ e. is_of r e ≡ true) more → branch (more ++ past) q ≡ branch past q
others_branch r q [] past apart own = refl
others_branch r q (e ∷ more) past apart own =
    ap (λ (b : Bool). if b then branch_after (branch (more ++ past) q) e.kind e.lines else branch (more ++ past) q) (all_others r q more past apart own.1 e own.0)
    ∙ others_branch r q more past apart own.1

-- another repository's node stays its node
pub others_are : {K : Type 0} (tells : K → StoreView) (g : DriverInput) (d d' : Driver) (r q : ℕ) (m : _) → q ≢ r → GoesOn r d d' → IsNodeOf {K = K} tells g d q m → HeardSo d'.past q (words_at m.parts.jobs.running)
    → ((x : ℕ × Option (List (List ℕ))) → HasGiven d q x → HasGiven d' q x) → IsNodeOf tells g d' q m
others_are tells g d d' r q m apart on is heard given = record {
  setup = record { number = is.setup.number; ids = is.setup.ids; offset = is.setup.offset; version = is.setup.version; locks = is.setup.locks };
  history = is.history ∙ ap reverse (sym (ap (filter (is_of q)) on.past ∙ others_past r q on.more d.past apart on.own));
  branch = is.branch ∙ sym (ap (λ (p : List Entry). branch p q) on.past ∙ others_branch r q on.more d.past apart on.own);
  store = on.stores q (tells m.keeper) apart is.store;
  time = subst (λ (t : ℕ). m.time ≤ t) (sym on.at) is.time;
  count = le_trans is.count on.counted;
  heard = heard;
  paths = Each-weaker (λ j. HasGiven d q (given_of j)) (λ j. HasGiven d' q (given_of j)) (λ j. given (given_of j)) m.parts.jobs.running is.paths;
}

-- ---- the run

own_all : (r : ℕ) (more past : List Entry) → Each (λ e. is_of r e ≡ true) more → filter (is_of r) (more ++ past) ≡ more ++ filter (is_of r) past
own_all r [] past own = refl
own_all r (e ∷ more) past own = ap (λ (b : Bool). cond b (e ∷ filter (is_of r) (more ++ past)) (filter (is_of r) (more ++ past))) own.0 ∙ ap (λ (xs : List Entry). e ∷ xs) (own_all r more past own.1)

-- its new entries are the run's
pub entries_go_on : (r : ℕ) (d d' : Driver) (was after : List Entry) → GoesOn r d d' → was ≡ reverse (filter (is_of r) d.past) → after ≡ reverse (filter (is_of r) d'.past)
    → reverse d'.past ≡ reverse d.past ++ drop (length was) after
entries_go_on r d d' was after on before now_is =
    ap reverse on.past ∙ (reverse-append on.more d.past ∙ ap (λ (xs : List Entry). reverse d.past ++ xs) (sym news))
  where
    whole : after ≡ was ++ reverse on.more
    whole = now_is ∙ (ap (λ (p : List Entry). reverse (filter (is_of r) p)) on.past
        ∙ (ap reverse (own_all r on.more d.past on.own) ∙ (reverse-append on.more (filter (is_of r) d.past) ∙ ap (λ (xs : List Entry). xs ++ reverse on.more) (sym before))))

    news : drop (length was) after ≡ reverse on.more
    news = ap (drop (length was)) whole ∙ drop-append_seam was (reverse on.more)

-- ---- bounds

all_within : (time most : ℕ) (more past : List Entry) → Each (IsWithin time most) more → time ≤ 1000000000000 → most < 2 ^ 62 → Always IsWithinBounds past → Always IsWithinBounds (more ++ past)
all_within time most [] past within early few fits = fits
all_within time most (e ∷ more) past within early few fits = (
  record { in_time = subst (λ (t : ℕ). t ≤ 1000000000000) (sym within.0.time_is) early; counted = below e.count most within.0.counted few; small = within.0.small },
  all_within time most more past within.1 early few fits,
)
  where
    below : (a b : ℕ) → a ≤ b → b < 2 ^ 62 → a < 2 ^ 62
    below a b x y = grind arith

pub goes_within : (r : ℕ) (d d' : Driver) → HasBoundedPast d → GoesOn r d d' → now d'.past ≤ 1000000000000 → newest_count d'.past < 2 ^ 62 → HasBoundedPast d'
goes_within r d d' fits on early few =
    (subst (Always IsWithinBounds) (sym on.past) (all_within (now d.past) (newest_count d'.past) on.more d.past on.bounds (subst (λ (t : ℕ). t ≤ 1000000000000) on.at early) few fits.0), on.large fits.1)
