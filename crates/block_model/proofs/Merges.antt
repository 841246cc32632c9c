-- Merged histories are a block, where the stores serve their entries and each repository has kept to its agenda.
use Rattle.std.proofs.Common.{◌≡◌, ◌⊎◌, ℕ, zero, suc, ◌+◌, ◌<◌, ◌≤◌, Bool, true, false, List, [], ◌∷◌, ◌++◌, Option, Some, inl, inr, refl, sym, ap, ◌∙◌, subst, append_assoc, arith}
use Rattle.std.specs.Prelude.{if◌then◌else◌, filter, length, reverse}
use Rattle.std.proofs.lemmas.List.{reverse-append, reverse-reverse}
use Rattle.annex_base.specs.Lists.{Each}
use Rattle.annex_base.proofs.Lists.{Each-both, Each-reverse, Each-right}
use Rattle.run_data.specs.declared.entry.Entry.{Entry}
use Rattle.run_data.specs.declared.entry.EntryKind.{EntryKind}
use Rattle.run_data.specs.declared.entry.EntryKind.TheVariants.{Gain, Gone, Talk, Fault}
use Rattle.run_data.specs.declared.entry.FrameView.{FrameView}
use Rattle.run_data.specs.declared.entry.FrameText.{FrameText}
use Rattle.run_data.specs.declared.entry.FrameText.TheVariants.{Bytes, Line}
use Rattle.run_data.specs.declared.run.Run.{Run}
use Rattle.run_model.specs.Frames.{Way}
use Rattle.run_model.specs.Past.{Always, begun_count, is_of, now}
use Rattle.run_model.specs.Run.{IsRun, MayBe, RunPast, RunStep, paths_at, repo_number, set_up}
use Rattle.node_model.specs.Look.{Effect}
use Rattle.node_model.specs.Sessions.{line_in, message_said}
use Rattle.node_model.specs.SetUp.{SetUp}
use Rattle.node_model.specs.State.{State}
use Rattle.growth_laws.specs.Merged.{IsMerge, Letter, MayMerge, StandInOrder, history, merge_all, merged_run, new_of}
use Rattle.growth_laws.proofs.MergedLists.{IsNews, is_merge}
use Rattle.growth_laws.proofs.MergedOrder.{IsNew, follow_new, follow_rises, reverse_cons}
use Rattle.driver_model.specs.Driver.{Driver, DriverInput, FailLine, drops_part, set_up_of, state_at, without_old_flights}
use Rattle.driver_model.specs.Driving.{run_with}
use Rattle.script_commands.specs.declared.command.Agendum.{Agendum}
use Rattle.driver_model.specs.Rounds.{numbers}
use Rattle.driver_model.specs.Turning.{asked_key, is_failure, is_valid, store_after, takes_frame, takes_into}
use Rattle.driver_model.proofs.Settles.{store_past}
use Rattle.block_model.specs.Blocks.{HasBegun, HasDone, IsBlock, left_after, with_fails}
use Rattle.block_model.specs.Doings.{DoesSo, can_go_on}
use Rattle.block_model.specs.Following.{IsChosenStep, IsOfLine, MayAllFollow, MayFollow, after_entries, after_entry, bytes_next, effect_of, stands, without_old_of}
use Rattle.block_model.specs.Rest.{AreAllAtRest}
use Rattle.block_model.specs.Merging.{AreAllServed, HasWorked, IsServed, IsToldStep}

-- ---- what the driver keeps as entries follow

-- the tree and the marks of the one are those of the other
abbrev pub Same : Driver → Driver → Type 0
Same d after = (after.tree ≡ d.tree) × (after.marks ≡ d.marks)

into_same : (r : ℕ) (key bytes : List ℕ) (body : FrameText) (sent : List FrameView) (d : Driver) → Same d (takes_into r key bytes body sent d)
into_same r key bytes (Bytes n) [] d = (refl, refl)
into_same r key bytes (Line text) sent d = go (is_valid (line_in (Line text))) (is_failure (message_said sent))
  where
    go : (b c : Bool) → Same d (if b then (if c then drops_part r key d else d) else d)
    go true true = (refl, refl)
    go true false = (refl, refl)
    go false c = (refl, refl)
into_same r key bytes body sent d = (refl, refl)

frame_same : (r : ℕ) (bytes : List ℕ) (key : Option (List ℕ)) (taken : Option FrameView) (sent : List FrameView) (d : Driver) → Same d (takes_frame r bytes key taken sent d)
frame_same r bytes (Some key) (Some f) sent d = into_same r key bytes f.body sent d
frame_same r bytes key taken sent d = (refl, refl)

pub store_same : (st : State) (r : ℕ) (m : Effect) (bytes : List ℕ) (kind : EntryKind) (d : Driver) → Same d (store_after st r m bytes kind d)
store_same st r m bytes (Gain by size key) d = (refl, refl)
store_same st r m bytes (Gone by key) d = (refl, refl)
store_same st r m bytes (Talk job) d = frame_same r bytes (asked_key st m) m.taken m.sent d
store_same st r m bytes (Fault call by) d = (refl, refl)
store_same st r m bytes kind d = (refl, refl)

pub entry_past : (g : DriverInput) (r : ℕ) (e : Entry) (d : Driver) → (after_entry g r e d).past ≡ e ∷ d.past
entry_past g r e d = store_past (state_at g d r) r (effect_of e) (bytes_next r e.taken d.flights) e.kind (stands (state_at g d r) r e d)

pub entry_same : (g : DriverInput) (r : ℕ) (e : Entry) (d : Driver) → Same d (after_entry g r e d)
entry_same g r e d = store_same (state_at g d r) r (effect_of e) (bytes_next r e.taken d.flights) e.kind (stands (state_at g d r) r e d)

entries_past : (g : DriverInput) (es : List Entry) (d : Driver) → (after_entries g es d).past ≡ reverse es ++ d.past
entries_past g [] d = refl
entries_past g (e ∷ es) d = entries_past g es (after_entry g (repo_number e.repo) e d) ∙ ap (λ zs. reverse es ++ zs) (entry_past g (repo_number e.repo) e d)
    ∙ sym (ap (λ zs. zs ++ d.past) (reverse_cons e es) ∙ append_assoc (reverse es) (e ∷ []) d.past)

entries_same : (g : DriverInput) (es : List Entry) (d : Driver) → Same d (after_entries g es d)
entries_same g [] d = (refl, refl)
entries_same g (e ∷ es) d =
    let x = entries_same g es (after_entry g (repo_number e.repo) e d) in
    let y = entry_same g (repo_number e.repo) e d in
    (x.0 ∙ y.0, x.1 ∙ y.1)

pub old_past : (g : DriverInput) (rs : List ℕ) (d : Driver) → (without_old_of g rs d).past ≡ d.past
old_past g [] d = refl
old_past g (r ∷ rs) d = old_past g rs (without_old_flights (state_at g d r) r d)

old_same : (g : DriverInput) (rs : List ℕ) (d : Driver) → Same d (without_old_of g rs d)
old_same g [] d = (refl, refl)
old_same g (r ∷ rs) d = old_same g rs (without_old_flights (state_at g d r) r d)

pub left_past : (g : DriverInput) (es : List Entry) (fails : List FailLine) (d : Driver) → (left_after g es fails d).past ≡ reverse es ++ d.past
left_past g es fails d = old_past g (numbers g) (after_entries g es (with_fails fails d)) ∙ entries_past g es (with_fails fails d)

pub left_same : (g : DriverInput) (es : List Entry) (fails : List FailLine) (d : Driver) → Same d (left_after g es fails d)
left_same g es fails d =
    let x = old_same g (numbers g) (after_entries g es (with_fails fails d)) in
    let y = entries_same g es (with_fails fails d) in
    (x.0 ∙ y.0, x.1 ∙ y.1)

-- ---- the merged entries are those of each repository, in order

none_new : (news : List (List Entry)) (r : ℕ) → length news ≤ r → new_of news r ≡ []
none_new [] r l = refl
none_new (es ∷ ess) zero l = absurd (omega (arith, l))
none_new (es ∷ ess) (suc r) l = none_new ess r (omega (arith, l))

always_each : (P : List Entry → Entry → Type 0) (Q : Entry → Type 0) → ((past : List Entry) (e : Entry) → P past e → Q e) → (past : List Entry) → Always P past → Each Q past
always_each P Q f [] h = tt
always_each P Q f (e ∷ past) h = (f past e h.0, always_each P Q f past h.1)

reversed_each : (P : Entry → Type 0) (es : List Entry) → Each P (reverse es) → Each P es
reversed_each P es h = subst (Each P) (reverse-reverse es) (Each-reverse P (reverse es) h)

module _ (run : Run) (news : List (List Entry)) (got : ℕ → Way → List Letter) (may : MayMerge run news got) where
  new_repo : (r : ℕ) → r < length run.repos → Each (λ e. e.repo ≡ Some r) (new_of news r)
  new_repo r l = Each-right _ (filter (is_of r) run.entries) (new_of news r)
      (reversed_each _ (filter (is_of r) run.entries ++ new_of news r) (always_each _ _ (λ p e k. k.own) (history run news r) (may.kept r l)))

  new_own : (r : ℕ) → r < length run.repos → Each (IsNew (reverse run.entries) (length run.repos)) (new_of news r)
  new_own r l = reversed_each _ (new_of news r) (follow_new (reverse run.entries) (length run.repos) r (reverse (new_of news r)) l (may.follow r l) (Each-reverse _ (new_of news r) (new_repo r l)))

  each_news : (n : ℕ) (ess : List (List Entry)) → ((r k : ℕ) → r ≡ n + k → new_of news r ≡ new_of ess k) → n + length ess ≡ length news → IsNews (now (reverse run.entries)) n ess
  each_news n [] same l = tt
  each_news n (es ∷ ess) same l =
      let m : n < length run.repos = (let k = may.number in omega (arith, l, k)) in
      let here : new_of news n ≡ es = same n 0 (omega arith) in (
        subst (Each _) here (Each-both _ _ (λ e. (e.repo ≡ Some n) × (e.time ≡ now (reverse run.entries))) (λ e x y. (x, y.at)) (new_of news n) (new_repo n m) (new_own n m)),
        subst StandInOrder here (follow_rises (reverse run.entries) (new_of news n) (may.follow n m)),
        each_news (suc n) ess (λ r k is. same r (suc k) (omega (arith, is))) (omega (arith, l)),
      )

  pub merge_is : IsMerge news (merge_all news)
  merge_is = is_merge (now (reverse run.entries)) news (each_news 0 news (λ r k is. ap (new_of news) (omega (arith, is))) (omega arith))

-- ---- each may follow

pub run_suffix : (s : ℕ → SetUp) (more past : List Entry) → RunPast s (more ++ past) → RunPast s past
run_suffix s [] past h = h
run_suffix s (e ∷ more) past h = run_suffix s more past h.1

-- one of a run that is served
follow_one : (g : DriverInput) (s : ℕ → SetUp) (d : Driver) (e : Entry) → RunStep s d.past e → IsServed g d e → MayFollow g d e
follow_one g s d e h x = record {
  r = x.r;
  repo_is = x.repo_is;
  known = x.known;
  order = h.order;
  does = does x.does;
  answers = x.answers;
}
  where
    may : MayBe s d.past e (Some x.r)
    may = subst (λ (o : Option ℕ). MayBe s d.past e o) x.repo_is h.may

    does : IsToldStep g d x.r e ⊎ IsOfLine g d x.r e → IsChosenStep g d x.r e ⊎ IsOfLine g d x.r e
    does (inl y) = inl (record { look = y.look; made = y.made; makes = y.makes; is = y.is; part_is = y.part_is; right_is = y.right_is; frames = record { takes = may.2.takes; tells = y.tells } })
    does (inr y) = inr y

pub follow_all : (g : DriverInput) (s : ℕ → SetUp) (es : List Entry) (d : Driver) → RunPast s (reverse es ++ d.past) → AreAllServed g d es → MayAllFollow g d es
follow_all g s [] d h all = tt
follow_all g s (e ∷ es) d h all = (follow_one g s d e here all.0, follow_all g s es (after_entry g (repo_number e.repo) e d) later all.1)
  where
    turned : RunPast s (reverse es ++ e ∷ d.past)
    turned = subst (RunPast s) (ap (λ zs. zs ++ d.past) (reverse_cons e es) ∙ append_assoc (reverse es) (e ∷ []) d.past) h

    here : RunStep s d.past e
    here = (run_suffix s (reverse es) (e ∷ d.past) turned).0

    later : RunPast s (reverse es ++ (after_entry g (repo_number e.repo) e d).past)
    later = subst (λ zs. RunPast s (reverse es ++ zs)) (sym (entry_past g (repo_number e.repo) e d)) turned

-- ---- the block

module _ (g : DriverInput) (xs : List Agendum) (d : Driver) (news : List (List Entry)) (got : ℕ → Way → List Letter) (fails : List FailLine) (may : MayMerge (run_with g d) news got)
    (merged : IsRun (merged_run (run_with g d) news)) where
  abbrev after : Driver
  after = left_after g (merge_all news) fails d

  after_past : reverse (reverse d.past ++ merge_all news) ≡ (left_after g (merge_all news) fails d).past
  after_past = reverse-append (reverse d.past) (merge_all news) ∙ ap (λ zs. reverse (merge_all news) ++ zs) (reverse-reverse d.past) ∙ sym (left_past g (merge_all news) fails d)

  set_up_same : (r : ℕ) → set_up (merged_run (run_with g d) news) r ≡ set_up_of g (left_after g (merge_all news) fails d) r
  set_up_same r i = record { number = r; repos = g.repos; paths = λ j. paths_at (sym (left_same g (merge_all news) fails d).0 i) (after_past i) r j }

  pub merged_follow : AreAllServed g (with_fails fails d) (merge_all news) → MayAllFollow g (with_fails fails d) (merge_all news)
  merged_follow all = follow_all g (set_up (merged_run (run_with g d) news)) (merge_all news) (with_fails fails d)
      (subst (RunPast (set_up (merged_run (run_with g d) news))) (reverse-append (reverse d.past) (merge_all news) ∙ ap (λ zs. reverse (merge_all news) ++ zs) (reverse-reverse d.past)) merged.steps) all

  has_done : (r : ℕ) → HasWorked g xs d news fails r → HasDone g xs d (left_after g (merge_all news) fails d) (merge_all news) fails r
  has_done r w = record {
    doings = w.doings;
    left = w.left;
    agenda_is = w.agenda_is;
    entries_are = (merge_is (run_with g d) news got may).own r ∙ w.entries_are;
    fails_are = w.fails_are;
    so = subst (λ (s : SetUp). DoesSo s (begun_count d.past r) (filter (is_of r) d.past) w.doings) (set_up_same r) w.so;
  }

  pub has_begun : Each (λ x. x.repo < length g.repos) fails → AreAllServed g (with_fails fails d) (merge_all news) → ((r : ℕ) → r < length g.repos → HasWorked g xs d news fails r) → HasBegun g xs d (left_after g (merge_all news) fails d)
  has_begun known all works = record {
    entries = merge_all news;
    fails = fails;
    known = known;
    follow = merged_follow all;
    after_is = refl;
    does = λ r known. has_done r (works r known);
  }

  pub is_block : Each (λ x. x.repo < length g.repos) fails → AreAllServed g (with_fails fails d) (merge_all news) → (works : (r : ℕ) → r < length g.repos → HasWorked g xs d news fails r)
      → ((r : ℕ) (known : r < length g.repos) → can_go_on (begun_count d.past r) (state_at g (left_after g (merge_all news) fails d) r) (works r known).left ≡ false)
      → AreAllAtRest g (left_after g (merge_all news) fails d) → IsBlock g xs d (left_after g (merge_all news) fails d)
  unfolding has_begun has_done
  is_block known all works done rest = record { begun = has_begun known all works; done = done; rest = rest }

-- its run is the one before it, and then the merged entries
pub run_is : (g : DriverInput) (d : Driver) (es : List Entry) (fails : List FailLine) → run_with g (left_after g es fails d) ≡ record (run_with g d) { entries = (run_with g d).entries ++ es }
run_is g d es fails i = record { repos = g.repos; entries = entries i; tree = (left_same g es fails d).0 i; marks = (left_same g es fails d).1 i }
  where
    entries : reverse (left_after g es fails d).past ≡ reverse d.past ++ es
    entries = ap reverse (left_past g es fails d) ∙ reverse-append (reverse es) d.past ∙ ap (λ zs. reverse d.past ++ zs) (reverse-reverse es)
