-- How a job parts from its peers.
use Rattle.std.proofs.Common.{◌≡◌, ◌≢◌, ℕ, ◌+◌, ◌-◌, ◌<◌, suc, Bool, true, false, cond, not, ◌&&◌, ◌||◌, ◌==◌, if◌then◌else◌, List, [], ◌∷◌, ◌++◌, Option, Some, find, filter, length, map, refl, sym, ap, ◌∙◌, arith}
use Rattle.std.specs.Prelude.{flat_map, option_map, reverse}
use Rattle.std.specs.List.{list_any, range_with_len}
use Rattle.std.proofs.lemmas.Bool.Decides.{nat_tests}
use Rattle.run_data.specs.declared.entry.FrameView.{FrameView}
use Rattle.node_model.specs.Ends.{frames}
use Rattle.node_model.specs.Evidence.{but}
use Rattle.node_model.specs.Jobs as jobs
use Rattle.node_model.specs.Jobs.{job_end}
use Rattle.node_model.specs.JobStep as steps
use Rattle.node_model.specs.JobStep.{end_with, farewell, has_lock, key_of, locked_peers, me}
use Rattle.node_model.specs.SetUp.{SetUp}
use Rattle.node_model.specs.State.{State}
use Rattle.state_jobs.specs.Phases.{heard_of}
use Rattle.state_jobs.specs.Works.{work_of}
use Rattle.state_jobs.specs.declared.phase.Heard.{Heard}
use Rattle.state_jobs.specs.declared.work.Work.{Work}
use Rattle.step_effects.specs.Sendings.{rest_told}
use Rattle.step_judging.specs.Rules.{is_nil}
use Rattle.step_judging.specs.Same.{same_frames}
use Rattle.job_makes.specs.Partings.{closing, owes_in, parting}
use Rattle.job_makes.specs.Turns.{turn_in}
use Rattle.job_makes.specs.declared.turn.Turn.{Turn}

-- ---- what was heard

found_seen : (repo : ℕ) (hs : List (ℕ × Heard)) → option_map (λ (x : ℕ × jobs.Heard). x.1) (find (λ (x : ℕ × jobs.Heard). x.0 == repo) (map (λ (h : ℕ × Heard). (h.0, heard_of h.1)) hs)) ≡ option_map heard_of (option_map (λ (x : ℕ × Heard). x.1) (find (λ (x : ℕ × Heard). x.0 == repo) hs))
found_seen repo [] = refl
found_seen repo (h ∷ hs) = go (h.0 == repo) (found_seen repo hs)
  where
    go : (b : Bool) → option_map (λ (x : ℕ × jobs.Heard). x.1) (find (λ (x : ℕ × jobs.Heard). x.0 == repo) (map (λ (g : ℕ × Heard). (g.0, heard_of g.1)) hs)) ≡ option_map heard_of (option_map (λ (x : ℕ × Heard). x.1) (find (λ (x : ℕ × Heard). x.0 == repo) hs))
        → option_map (λ (x : ℕ × jobs.Heard). x.1) (cond b (Some (h.0, heard_of h.1)) (find (λ (x : ℕ × jobs.Heard). x.0 == repo) (map (λ (g : ℕ × Heard). (g.0, heard_of g.1)) hs))) ≡ option_map heard_of (option_map (λ (x : ℕ × Heard). x.1) (cond b (Some h) (find (λ (x : ℕ × Heard). x.0 == repo) hs)))
    go true more = refl
    go false more = more

pub heard_seen : (w : Work) (repo : ℕ) → option_map heard_of (option_map (λ (x : ℕ × Heard). x.1) (find (λ (x : ℕ × Heard). x.0 == repo) (reverse w.heard.items))) ≡ jobs.heard_of (work_of w) repo
heard_seen w repo = sym (found_seen repo (reverse w.heard.items))

-- ---- the frames

parted : (t : steps.Turn) (lost : Bool) (xs : List ℕ) → flat_map (λ peer. frames (job_end t.w peer) (end_with t peer) (farewell t lost peer (end_with t peer).opened)) (but (me t) xs) ≡ flat_map (parting t lost) xs
parted t lost [] = refl
parted t lost (x ∷ xs) = go (x == me t) (parted t lost xs)
  where
    said : ℕ → List FrameView
    said peer = frames (job_end t.w peer) (end_with t peer) (farewell t lost peer (end_with t peer).opened)

    go : (b : Bool) → flat_map said (but (me t) xs) ≡ flat_map (parting t lost) xs
        → flat_map said (cond (not b) (x ∷ but (me t) xs) (but (me t) xs)) ≡ cond b [] (said x) ++ flat_map (parting t lost) xs
    go true more = more
    go false more = ap (λ (fs : List FrameView). said x ++ fs) more

pub farewells_are : (t : steps.Turn) (lost : Bool) → steps.farewells t lost ≡ flat_map (parting t lost) (range_with_len 0 t.read.count)
farewells_are t lost = parted t lost (range_with_len 0 t.read.count)

-- the first of those that are left
pub range_at : (a n : ℕ) → a < n → range_with_len a (n - a) ≡ a ∷ range_with_len (a + 1) (n - (a + 1))
range_at a n below = let more : n - a ≡ suc (n - (a + 1)) = omega (arith, below) in ap (range_with_len a) more

-- the frames of those that are left, behind those of the first
pub past_first : (f : ℕ → List FrameView) (a n : ℕ) (sent : List FrameView) (found : Option (List FrameView)) → ((more : List FrameView) → same_frames (f a ++ more) sent ≡ rest_told more found)
    → (found' : Option (List FrameView)) → found ≡ found' → a < n
    → same_frames (flat_map f (range_with_len a (n - a))) sent ≡ rest_told (flat_map f (range_with_len (a + 1) (n - (a + 1)))) found'
past_first f a n sent found past found' is below =
    ap (λ (xs : List ℕ). same_frames (flat_map f xs) sent) (range_at a n below) ∙ past (flat_map f (range_with_len (a + 1) (n - (a + 1))))
    ∙ ap (rest_told (flat_map f (range_with_len (a + 1) (n - (a + 1))))) is

pub parting_shut : (t : steps.Turn) (lost : Bool) (peer : ℕ) → (end_with t peer).opened ≡ false → parting t lost peer ≡ []
parting_shut t lost peer shut =
    ap (λ (b : Bool). if peer == me t then [] else frames (job_end t.w peer) (end_with t peer) (farewell t lost peer b)) shut ∙ either (peer == me t) []
  where
    either : (b : Bool) (fs : List FrameView) → (if b then fs else fs) ≡ fs
    either true fs = refl
    either false fs = refl

pub parting_open : (t : steps.Turn) (lost : Bool) (peer : ℕ) → peer ≢ me t → (end_with t peer).opened ≡ true
    → parting t lost peer ≡ frames (job_end t.w peer) (end_with t peer) (closing (has_lock t peer && not lost) (key_of t))
parting_open t lost peer other live =
    let own : (peer == me t) ≡ false = grind (arith, nat_tests, other) in
    λ i. if own i then [] else frames (job_end t.w peer) (end_with t peer) (farewell t lost peer (live i))

-- ---- the locks

nil_chosen : (p q : ℕ → Bool) (xs : List ℕ) → is_nil (filter p (filter q xs)) ≡ not (list_any (λ x. q x && p x) xs)
nil_chosen p q [] = refl
nil_chosen p q (x ∷ xs) = go (q x) (nil_chosen p q xs)
  where
    taken : (b : Bool) → is_nil (filter p (filter q xs)) ≡ not (list_any (λ y. q y && p y) xs)
        → is_nil (cond b (x ∷ filter p (filter q xs)) (filter p (filter q xs))) ≡ not (b || list_any (λ y. q y && p y) xs)
    taken true same = refl
    taken false same = same

    go : (b : Bool) → is_nil (filter p (filter q xs)) ≡ not (list_any (λ y. q y && p y) xs)
        → is_nil (filter p (cond b (x ∷ filter q xs) (filter q xs))) ≡ not ((b && p x) || list_any (λ y. q y && p y) xs)
    go true same = taken (p x) same
    go false same = same

pub nil_owed : (x : Turn) (s : SetUp) (st : State) → is_nil (locked_peers (turn_in x s st)) ≡ not (list_any (owes_in x) (range_with_len 0 (length x.repos.now)))
nil_owed x s st = nil_chosen (λ peer. has_lock (turn_in x s st) peer && (end_with (turn_in x s st) peer).opened) (λ peer. not (peer == x.repo)) (range_with_len 0 (length x.repos.now))
