-- What a run's state is after an entry, and that it stays one of a run.
use Rattle.std.proofs.Common.{◌≡◌, ℕ, ◌+◌, ◌<◌, ◌≤◌, ◌^◌, true, false, List, [], length, Option, Some, None, refl, sym, ap, subst, ◌∙◌, arith, inl, inr}
use Rattle.std.specs.Prelude.{◌==◌, reverse, slice_get}
use Rattle.std.proofs.lemmas.Bool.{cases_Bool, eq-eqb, eqb-true}
use Rattle.annex_base.specs.Lists.{Each}
use Rattle.annex_base.specs.declared.kinds.Word.{Word}
use Rattle.annex_base.proofs.Lists.{Each-weaker, slice_get-within}
use Rattle.run_data.specs.Repos.{IsSetUp}
use Rattle.run_data.specs.declared.entry.Entry.{Entry}
use Rattle.run_data.specs.declared.entry.EntryKind.{EntryKind}
use Rattle.run_data.specs.declared.run.RepoView.{RepoView}
use Rattle.run_data.specs.declared.run.Run.{Run}
use Rattle.run_data.specs.declared.run.TreeMark.{TreeMark}
use Rattle.node_model.specs.After.{first_state, state_after}
use Rattle.node_model.specs.SetUp.{SetUp}
use Rattle.node_model.specs.State.{State}
use Rattle.run_model.specs.Frames.{Way}
use Rattle.run_model.specs.Run.{IsRun, set_up}
use Rattle.state_checks.specs.Moments.{moment_of}
use Rattle.state_flights.specs.Flights.{AreNone, StaySame, flight_on}
use Rattle.state_flights.specs.declared.flights.Flights.{Flights}
use Rattle.step_judging.specs.Carried.{Flight, flight_after, judge_of}
use Rattle.step_rules.specs.Members as members
use Rattle.step_rules.specs.Members.{BeginsWith, IsBounded, IsMemberOf}
use Rattle.step_judging.specs.Rules.{broken_rule}
use Rattle.step_rules.specs.Runs.{start_of, with_entry}
use Rattle.step_rules.specs.States.{ChangesMember, HasBegun, HearsBy, IsAfter, IsAllowed, IsCarried}
use Rattle.step_rules.specs.Trees.{IsTreeBefore}
use Rattle.step_rules.specs.declared.member.Member.{Member}
use Rattle.step_rules.specs.declared.run_state.RunState.{RunState}
use Rattle.step_rules.specs.declared.trees.Trees.{Trees}
use Rattle.step_rules.specs.declared.words.Hears.{Hears}
use Rattle.step_rules.proofs.Accepting.{EntryGrows, begins_here, known_here, lawful_more, stays, wait_flight}
use Rattle.step_rules.proofs.After.{Follows, made, waited}
use Rattle.step_rules.proofs.Alone.{StatesAgree}
use Rattle.step_rules.proofs.Carrying.{PathsKept}
use Rattle.step_rules.proofs.Places.{place_in}
use Rattle.step_rules.proofs.Starts.{NextLaw}

-- ---- states of the same run

-- it is the state of the runs that the other is of
pub record SameRun (x y : RunState) : Type 0 where
  pub repos : y.repos.now ≡ x.repos.now
  pub tree : y.trees.marks.now ≡ x.trees.marks.now
  pub newest : y.newest ≡ x.newest
  pub taken : y.taken ≡ x.taken
  pub count : length y.members.items ≡ length x.members.items
  pub members : (r : ℕ) (m : Member) → slice_get y.members.items r ≡ Some m → (n : Member) × (slice_get x.members.items r ≡ Some n) × ((s : SetUp) (st : State) (words : ℕ → ℕ → Option Word) → IsMemberOf n s st words → IsMemberOf m s st words)
  pub flights : (w : Way) → flight_on y.flights w ≡ flight_on x.flights w

pub same_after : (x y : RunState) → SameRun x y → (run : Run) → IsAfter x run → IsAfter y run
same_after x y same run after = record {
  repos = after.repos ∙ sym same.repos;
  tree = after.tree ∙ sym same.tree;
  taken = after.taken ∙ sym same.taken;
  lawful = after.lawful;
  judge = record {
    newest = after.judge.newest ∙ sym same.newest;
    members = λ r m at.
        let j = judge_of (set_up run) (reverse run.entries) in
        let was = same.members r m at in was.2 (set_up run r) (j.states r) (j.words r) (after.judge.members r was.0 was.1);
    others = λ r far. after.judge.others r (let count = same.count in omega (arith, far, count));
    flights = λ w. after.judge.flights w ∙ sym (same.flights w);
  };
}

-- ---- what is carried

pub tree_later : (place : ℕ) (x : Trees) → IsTreeBefore place x → IsTreeBefore (place + 1) x
tree_later place x is = record {
  in_order = is.in_order;
  few = is.few;
  before = Each-weaker (λ m. m.place ≤ place) (λ m. m.place ≤ place + 1) (λ m low. omega (arith, low)) _ is.before;
  index = is.index;
}

pub bounded_later : (count taken : ℕ) (ms : List Member) → Each (IsBounded count taken) ms → Each (IsBounded count (taken + 1)) ms
bounded_later count taken ms is = Each-weaker (IsBounded count taken) (IsBounded count (taken + 1)) (λ m b. record { well = b.well; repos = b.repos; few = (let low = b.few in omega (arith, low)) }) ms is

-- ---- an entry of no repository

abbrev pub counted : RunState → Entry → RunState
counted x e = record x { newest = Some (moment_of e); taken = x.taken + 1 }

module _ (next : NextLaw) (grow : EntryGrows) (keep : PathsKept) (agree : StatesAgree) where
  pub wait_after : (x : RunState) (e : Entry) → e.repo ≡ None → IsAllowed x e → (run : Run) → IsAfter x run → IsAfter (counted x e) (with_entry run e)
  wait_after x e none allowed run after =
      waited run e x (counted x e) after (record { repos = refl; tree = refl; taken = refl; newest = refl })
      (lawful_more next grow x e run after (allowed run after)) (stays next grow x e run after (allowed run after) keep agree) none refl (λ w. sym (wait_flight w (flight_on x.flights w) e none))

  pub wait_carried : (x : RunState) (e : Entry) → e.repo ≡ None → IsAllowed x e → IsCarried x → IsCarried (counted x e)
  wait_carried x e none allowed c = record {
    many = c.many;
    set_up = c.set_up;
    count = c.count;
    members = bounded_later (length x.repos.now) x.taken x.members.items c.members;
    tree = tree_later x.taken x.trees c.tree;
    run = with_entry c.run e;
    after = wait_after x e none allowed c.run c.after;
  }

  -- ---- an entry of a repository

  module _ (x y : RunState) (e : Entry) (r : ℕ) (own : e.repo ≡ Some r) (count : length x.members.items ≡ length x.repos.now) (follows : Follows x y e)
      (begun : List (List ℕ)) (has : HasBegun x.trees.marks.now x.taken e.kind begun) (hears : Option Hears)
      (hear : (m : Member) (s : SetUp) (st : State) (words : ℕ → ℕ → Option Word) → slice_get x.members.items r ≡ Some m → IsMemberOf m s st words → HearsBy st (flight_on x.flights) r e hears)
      (changes : ChangesMember r (λ m n. (s : SetUp) (st : State) (words : ℕ → ℕ → Option Word) → BeginsWith s e.kind begun → IsMemberOf m s st words
      → IsMemberOf n s (state_after s st e) (members.words_after words hears)) x.members.items y.members.items)
      (flights : (w : Way) → flight_on y.flights w ≡ flight_after w (flight_on x.flights w) e) where
    pub own_after : (run : Run) → IsAfter x run → broken_rule (set_up run) (reverse run.entries) e ≡ None → IsAfter y (with_entry run e)
    own_after run after may =
        let j = judge_of (set_up run) (reverse run.entries) in
        let low = known_here next grow x e run after may r own in
        let known : r < length x.members.items = omega (arith, low, count) in
        let there = slice_get-within x.members.items r known in
        let same : j.flights ≡ flight_on x.flights = λ i. λ w. after.judge.flights w i in
        made run e x y after follows (lawful_more next grow x e run after may) (stays next grow x e run after may keep agree) r own known begun hears
        (begins_here next grow x e run after may r own begun has)
        (subst (λ (f : Way → Flight). HearsBy (j.states r) f r e hears) (sym same) (hear there.0 (set_up run r) (j.states r) (j.words r) there.1 (after.judge.members r there.0 there.1)))
        changes flights

    pub own_carried : (c : IsCarried x) (run : Run) → IsAfter x run → broken_rule (set_up run) (reverse run.entries) e ≡ None → y.trees ≡ x.trees
        → Each (IsBounded (length x.repos.now) (x.taken + 1)) y.members.items → IsCarried y
    own_carried c run after may trees bounded = record {
      many = subst (λ (repos : List RepoView). length repos < 2 ^ 32) (sym follows.repos) c.many;
      set_up = subst (Each IsSetUp) (sym follows.repos) c.set_up;
      count = changes.count ∙ c.count ∙ sym (ap length follows.repos);
      members = subst (λ (n : ℕ). Each (IsBounded (length y.repos.now) n) y.members.items) (sym follows.taken)
          (subst (λ (repos : List RepoView). Each (IsBounded (length repos) (x.taken + 1)) y.members.items) (sym follows.repos) bounded);
      tree = subst (λ (n : ℕ). IsTreeBefore n y.trees) (sym follows.taken) (subst (IsTreeBefore (x.taken + 1)) (sym trees) (tree_later x.taken x.trees c.tree));
      run = with_entry run e;
      after = own_after run after may;
    }

  -- the repository is one of the run
  pub member_here : (x : RunState) (e : Entry) (r : ℕ) → e.repo ≡ Some r → length x.members.items ≡ length x.repos.now → (run : Run) → IsAfter x run → broken_rule (set_up run) (reverse run.entries) e ≡ None
      → (m : Member) × (slice_get x.members.items r ≡ Some m)
  member_here x e r own count run after may =
      let low = known_here next grow x e run after may r own in slice_get-within x.members.items r (omega (arith, low, count))

-- ---- before an entry is taken

-- its tree was asked for paths
pub begun_same : (x y : RunState) → y ≡ record x { trees = y.trees } → y.trees.marks ≡ x.trees.marks → SameRun x y
begun_same x y rest marks = record {
  repos = ap (λ (z : RunState). z.repos.now) rest;
  tree = ap (λ m. m.now) marks;
  newest = ap (λ (z : RunState). z.newest) rest;
  taken = ap (λ (z : RunState). z.taken) rest;
  count = ap (λ (z : RunState). length z.members.items) rest;
  members = λ r m at. (m, sym (ap (λ (z : RunState). slice_get z.members.items r) rest) ∙ at, λ s st words is. is);
  flights = λ w. ap (λ (z : RunState). flight_on z.flights w) rest;
}

-- it has more room for frames
pub with_room : (x y z : RunState) → SameRun x y → z.repos.now ≡ y.repos.now → z.trees.marks.now ≡ y.trees.marks.now → z.newest ≡ y.newest → z.taken ≡ y.taken → z.members.items ≡ y.members.items
    → ((w : Way) → flight_on z.flights w ≡ flight_on y.flights w) → SameRun x z
with_room x y z same repos tree newest taken ms flights = record {
  repos = repos ∙ same.repos;
  tree = tree ∙ same.tree;
  newest = newest ∙ same.newest;
  taken = taken ∙ same.taken;
  count = ap length ms ∙ same.count;
  members = λ r m at. same.members r m (sym (ap (λ (items : List Member). slice_get items r) ms) ∙ at);
  flights = λ w. flights w ∙ same.flights w;
}

-- one repository has more room
pub with_stay : (x y z : RunState) (r : ℕ) → SameRun x y → z.repos.now ≡ y.repos.now → z.trees.marks.now ≡ y.trees.marks.now → z.newest ≡ y.newest → z.taken ≡ y.taken
    → ((w : Way) → flight_on z.flights w ≡ flight_on y.flights w)
    → ChangesMember r (λ m n. (s : SetUp) (st : State) (words : ℕ → ℕ → Option Word) → IsMemberOf m s st words → IsMemberOf n s st words) y.members.items z.members.items → SameRun x z
with_stay x y z r same repos tree newest taken flights changes = record {
  repos = repos ∙ same.repos;
  tree = tree ∙ same.tree;
  newest = newest ∙ same.newest;
  taken = taken ∙ same.taken;
  count = changes.count ∙ same.count;
  members = λ q m at. elim (cases_Bool (q == r)) [
    | inl is ↦ (let here : q ≡ r = eqb-true q r is in
        let low = place_in z.members.items q m at in
        let long = changes.count in
        let was = slice_get-within y.members.items q (omega (arith, low, long)) in
        let n = same.members q was.0 was.1 in (
          n.0,
          n.1,
          λ s st words of.
              changes.here was.0 m (subst (λ (k : ℕ). slice_get y.members.items k ≡ Some was.0) here was.1) (subst (λ (k : ℕ). slice_get z.members.items k ≡ Some m) here at) s st words (n.2 s st words of),
        ))
    | inr is ↦ same.members q m (sym (changes.others q (λ here. absurd (let both : false ≡ true = sym is ∙ eq-eqb q r here in cc))) ∙ at)
  ];
  flights = λ w. flights w ∙ same.flights w;
}

pub same_carried : (x y : RunState) → SameRun x y → IsCarried x → Each (IsBounded (length x.repos.now) x.taken) y.members.items → IsTreeBefore x.taken y.trees → IsCarried y
same_carried x y same c bounded tree = record {
  many = subst (λ (repos : List RepoView). length repos < 2 ^ 32) (sym same.repos) c.many;
  set_up = subst (Each IsSetUp) (sym same.repos) c.set_up;
  count = same.count ∙ c.count ∙ sym (ap length same.repos);
  members = subst (λ (n : ℕ). Each (IsBounded (length y.repos.now) n) y.members.items) (sym same.taken)
      (subst (λ (repos : List RepoView). Each (IsBounded (length repos) x.taken) y.members.items) (sym same.repos) bounded);
  tree = subst (λ (n : ℕ). IsTreeBefore n y.trees) (sym same.taken) tree;
  run = c.run;
  after = same_after x y same c.run c.after;
}

pub has_same : (x y : RunState) (kind : EntryKind) (begun : List (List ℕ)) → SameRun x y → HasBegun x.trees.marks.now x.taken kind begun → HasBegun y.trees.marks.now y.taken kind begun
has_same x y kind begun same has =
    subst (λ (n : ℕ). HasBegun y.trees.marks.now n kind begun) (sym same.taken) (subst (λ (marks : List TreeMark). HasBegun marks x.taken kind begun) (sym same.tree) has)

-- ---- an entry's room

module _ (x y : RunState) (rest : y ≡ record x { trees = y.trees }) (marks : y.trees.marks ≡ x.trees.marks) where
  pub begun_bounded : IsCarried x → Each (IsBounded (length x.repos.now) x.taken) y.members.items
  begun_bounded c = subst (λ (z : RunState). Each (IsBounded (length x.repos.now) x.taken) z.members.items) (sym rest) c.members

  pub begun_carried : IsCarried x → IsTreeBefore x.taken y.trees → IsCarried y
  begun_carried c tree = same_carried x y (begun_same x y rest marks) c (begun_bounded c) tree

  pub room_same : (f : Flights) → StaySame y.flights f → SameRun x (record y { flights = f })
  room_same f stay = with_room x y (record y { flights = f }) (begun_same x y rest marks) refl refl refl refl refl stay

  pub room_carried : (f : Flights) → StaySame y.flights f → IsCarried x → IsTreeBefore x.taken y.trees → IsCarried (record y { flights = f })
  room_carried f stay c tree = same_carried x (record y { flights = f }) (room_same f stay) c (begun_bounded c) tree

-- ---- before the first entry

abbrev pub FirstRuns : Type 0
FirstRuns = (run : Run) → Each IsSetUp run.repos → run.entries ≡ [] → IsRun run

pub start_after : FirstRuns → (x : RunState) (run : Run) → x.repos.now ≡ run.repos → x.trees.marks.now ≡ run.tree → x.newest ≡ None → x.taken ≡ 0 → Each IsSetUp run.repos
    → ((r : ℕ) (m : Member) → slice_get x.members.items r ≡ Some m → (s : SetUp) → s.repos ≡ run.repos → s.number ≡ r → IsMemberOf m s (first_state s) (λ job c. None)) → AreNone x.flights → IsAfter x (start_of run 0)
start_after first x run repos tree newest taken set_ups ms none = record {
  repos = sym repos;
  tree = sym tree;
  taken = sym taken;
  lawful = first (start_of run 0) set_ups refl;
  judge = record {
    newest = sym newest;
    members = λ r m at. ms r m at (set_up (start_of run 0) r) refl refl;
    others = λ r far. refl;
    flights = λ w. sym (none w);
  };
}
