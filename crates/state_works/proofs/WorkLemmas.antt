-- How a list of running jobs changes by an entry.
use Rattle.std.proofs.Common.{◌≡◌, ℕ, zero, suc, ◌≤◌, ◌<◌, Bool, true, false, cond, not, ◌||◌, ◌==◌, List, [], ◌∷◌, Option, Some, find, filter, map, length, get_or, set, refl, sym, ap, subst, ◌∙◌, arith}
use Rattle.std.specs.List.{list_any}
use Rattle.std.specs.Option.{option_map}
use Rattle.annex_base.specs.Lists.{Each}
use Rattle.run_data.specs.declared.entry.Entry.{Entry}
use Rattle.run_data.specs.declared.entry.EntryKind.{EntryKind}
use Rattle.run_data.specs.declared.entry.EntryKind.TheVariants.{Begin, Crash, End as ends_job}
use Rattle.run_data.specs.declared.job.Job.{Job}
use Rattle.run_data.specs.declared.job.Outcome.{Outcome}
use Rattle.node_model.specs.Jobs as jobs
use Rattle.node_model.specs.Jobs.{RowsAndEnds, new_work, running_job, work_after, works_after}
use Rattle.node_model.specs.Slots.{uses}
use Rattle.state_jobs.specs.Phases.{IsBelow, phase_of}
use Rattle.state_jobs.specs.Works.{work_of}
use Rattle.state_jobs.specs.declared.phase.Phase.{Phase}
use Rattle.state_jobs.specs.declared.phase.Phase.TheVariants.{GetsBytes, PutsBytes}
use Rattle.state_jobs.specs.declared.work.Work.{Work}
use Rattle.state_works.specs.Jobs.{StaySame, begun_in, works_of}
use Rattle.state_works.specs.declared.jobs.Jobs.{Jobs}

-- ---- what the jobs are seen as

-- an element that is seen as before
pub map_set_same : {X Y : Type 0} (f : X → Y) (xs : List X) (i : ℕ) (x d : X) → i < length xs → f x ≡ f (get_or xs i d) → map f (set xs i x) ≡ map f xs
map_set_same f [] i x d within same = absurd (omega (arith, within))
map_set_same {X} {Y} f (y ∷ xs) zero x d within same = ap (λ (z : Y). z ∷ map f xs) same
map_set_same {X} {Y} f (y ∷ xs) (suc i) x d within same = ap (λ (zs : List Y). f y ∷ zs) (map_set_same f xs i x d (omega (arith, within)) same)

-- a fact of what the elements are seen as
pub Each_seen : {X Y : Type 0} (P : Y → Type 0) (f : X → Y) (xs ys : List X) → map f ys ≡ map f xs → Each (λ x. P (f x)) xs → Each (λ x. P (f x)) ys
Each_seen P f [] [] same all = tt
Each_seen P f [] (y ∷ ys) same all = absurd cc
Each_seen P f (x ∷ xs) [] same all = absurd cc
Each_seen {X} {Y} P f (x ∷ xs) (y ∷ ys) same all =
    let first : f y ≡ f x = cc in
    let rest : map f ys ≡ map f xs = cc in
    (subst P (sym first) all.0, Each_seen P f xs ys rest all.1)

pub uses_is : (ws : List Work) (slot : ℕ) → list_any (λ (w : Work). w.slot == slot) ws ≡ uses (map running_job (map work_of ws)) slot
uses_is [] slot = refl
uses_is (w ∷ ws) slot = ap (λ (b : Bool). (w.slot == slot) || b) (uses_is ws slot)

pub others_of : (job : ℕ) (ws : List Work) → map work_of (filter (λ w. not (w.number == job)) ws) ≡ filter (λ w. not (w.number == job)) (map work_of ws)
others_of job [] = refl
others_of job (w ∷ ws) = go (not (w.number == job)) (others_of job ws)
  where
    go : (b : Bool) → map work_of (filter (λ w. not (w.number == job)) ws) ≡ filter (λ w. not (w.number == job)) (map work_of ws)
        → map work_of (cond b (w ∷ filter (λ w. not (w.number == job)) ws) (filter (λ w. not (w.number == job)) ws)) ≡ cond b (work_of w ∷ filter (λ w. not (w.number == job)) (map work_of ws)) (filter (λ w. not (w.number == job)) (map work_of ws))
    go true more = ap (λ (zs : List jobs.Work). work_of w ∷ zs) more
    go false more = more

-- the first of this number
pub found_seen : (number : ℕ) (ws : List Work) → option_map work_of (find (λ (w : Work). w.number == number) ws) ≡ find (λ (w : jobs.Work). w.number == number) (map work_of ws)
found_seen number [] = refl
found_seen number (w ∷ ws) = go (w.number == number) (found_seen number ws)
  where
    go : (b : Bool) → option_map work_of (find (λ (v : Work). v.number == number) ws) ≡ find (λ (v : jobs.Work). v.number == number) (map work_of ws)
        → option_map work_of (cond b (Some w) (find (λ (v : Work). v.number == number) ws)) ≡ cond b (Some (work_of w)) (find (λ (v : jobs.Work). v.number == number) (map work_of ws))
    go true more = refl
    go false more = more

-- they stay, where they are those that stayed
pub stays : (was now : Jobs) (mid : List Work) → map work_of mid ≡ works_of was → ((limit : ℕ) → Each (λ (w : Work). IsBelow limit w.phase) was.running.items → Each (λ (w : Work). IsBelow limit w.phase) mid) → now.running.items ≡ mid → StaySame was now
stays was now mid same below is = record {
  works = ap (map work_of) is ∙ same;
  below = λ limit all. subst (Each (λ (w : Work). IsBelow limit w.phase)) (sym is) (below limit all);
}

-- ---- how far they have come in a content

pub below_more : (limit more : ℕ) (phase : Phase) → limit ≤ more → IsBelow limit phase → IsBelow more phase
below_more limit more (GetsBytes peer start size left) le below = omega (arith, below)
below_more limit more (PutsBytes peer start at left) le below = omega (arith, below)
below_more limit more phase le below = omega (arith, below)

fresh_below : (limit : ℕ) (phase : Phase) → 0 < limit → phase_of phase ≡ jobs.Fresh → IsBelow limit phase
fresh_below limit (GetsBytes peer start size left) lt is = absurd cc
fresh_below limit (PutsBytes peer start at left) lt is = absurd cc
fresh_below limit phase lt is = lt

-- a job that begins has come nowhere
pub begun_below : (was : List jobs.Work) (kind : EntryKind) (job : ℕ) (what : Job) (begun : Option Work) (w : Work) (limit : ℕ) → option_map work_of begun ≡ begun_in was kind → kind ≡ Begin job what → begun ≡ Some w → 0 < limit → IsBelow limit w.phase
begun_below was kind job what begun w limit same is some lt =
    let seen : Some (work_of w) ≡ Some (new_work was job what) = ap (option_map work_of) (sym some) ∙ same ∙ ap (begun_in was) is in
    let new : work_of w ≡ new_work was job what = cc in
    fresh_below limit w.phase lt (ap (λ (v : jobs.Work). v.phase) new)

-- ---- an entry that moves them

-- any but one that begins or ends a job, or that is a crash
pub all_moved : (x : RowsAndEnds) (r : ℕ) (was : List jobs.Work) (e : Entry) (kind : EntryKind) → ((job : ℕ) (what : Job) → kind ≡ Begin job what → ⊥) → ((job : ℕ) (outcome : Outcome) → kind ≡ ends_job job outcome → ⊥) → ((clock : ℕ) → kind ≡ Crash clock → ⊥)
    → works_after x r was e kind ≡ map (work_after x r e) was
all_moved x r was e (Begin job what) begins ends crashes = absurd (begins job what refl)
all_moved x r was e (ends_job job outcome) begins ends crashes = absurd (ends job outcome refl)
all_moved x r was e (Crash clock) begins ends crashes = absurd (crashes clock refl)
all_moved x r was e kind begins ends crashes = refl
