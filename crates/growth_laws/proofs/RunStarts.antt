-- A run begins without entries, and each start of a run is a run.
use Rattle.std.proofs.Common.{◌≡◌, ℕ, zero, suc, ◌+◌, ◌≤◌, Bool, true, false, List, [], ◌∷◌, length, take, Some, ◌⊎◌, inl, inr, refl, sym, ap, ◌∙◌, subst, arith, add-one}
use Rattle.std.specs.Prelude.{◌==◌, reverse, slice_get}
use Rattle.std.proofs.lemmas.List.{take_all}
use Rattle.annex_base.specs.Lists.{Each}
use Rattle.annex_base.proofs.Pasts.{past_end}
use Rattle.run_data.specs.declared.entry.Entry.{Entry}
use Rattle.run_data.specs.declared.entry.EntryKind.{EntryKind}
use Rattle.run_data.specs.declared.entry.EntryKind.TheVariants.{Begin}
use Rattle.run_data.specs.declared.run.Run.{Run}
use Rattle.run_model.specs.Past.{begun_count, is_of}
use Rattle.run_model.specs.Safety.{past_at}
use Rattle.run_data.specs.Repos.{IsSetUp}
use Rattle.run_model.specs.Run.{IsRun, RunPast, job_paths, paths_at, paths_begun, set_up}
use Rattle.step_facts.proofs.JobNumbers.{begins_next}
use Rattle.growth_laws.proofs.HistoriesGrow.{SamePaths}
use Rattle.growth_laws.proofs.RunsGrow.{run_paths}
use Rattle.past_facts.proofs.EntryPlaces.{past_next, below_or_last, there_or_end, grows}
use Rattle.past_facts.proofs.PlaceParts.{begun_more, part_at, steps_at}

pub begins : (run : Run) → Each IsSetUp run.repos → run.entries ≡ [] → IsRun run
begins run repos none = record { repos = repos; steps = subst (λ (es : List Entry). RunPast (set_up run) (reverse es)) (sym none) tt }

-- ---- the start of a run

-- an entry gives no other paths to a job that has begun
paths_step : (run : Run) (place r j : ℕ) (e : Entry) → IsRun run → slice_get run.entries place ≡ Some e → j ≤ begun_count (past_at run place) r → paths_at run.tree (e ∷ past_at run place) r j ≡ paths_at run.tree (past_at run place) r j
paths_step run place r j e h at l = go (is_of r e) refl
  where
    not_begun : is_of r e ≡ true → (was : List (List ℕ)) (kind : EntryKind) → e.kind ≡ kind → paths_begun run.tree (length (past_at run place)) j was kind ≡ was
    not_begun is was (Begin job what) k =
        let p = part_at run place r e h at is in
        let next : job ≡ begun_count (past_at run place) r + 1 = begins_next (set_up run r) (past_at run place) p.words e p.own job what k in
        let other : (job == j) ≡ false = grind arith in
        rw other refl
    not_begun is was kind k = refl

    go : (b : Bool) → is_of r e ≡ b → paths_at run.tree (e ∷ past_at run place) r j ≡ paths_at run.tree (past_at run place) r j
    go true is = rw is (not_begun is (paths_at run.tree (past_at run place) r j) e.kind refl)
    go false is = rw is refl

paths_later : (run : Run) (a b r j : ℕ) → IsRun run → a ≤ b → j ≤ begun_count (past_at run a) r → paths_at run.tree (past_at run b) r j ≡ paths_at run.tree (past_at run a) r j
paths_later run a zero r j h le l = let same : a ≡ zero = omega (arith, le) in ap (λ n. paths_at run.tree (past_at run n) r j) (sym same)
paths_later run a (suc b) r j h le l = go (λ k. paths_later run a b r j h k l) (below_or_last a b le)
  where
    step : a ≤ b → paths_at run.tree (past_at run (b + 1)) r j ≡ paths_at run.tree (past_at run b) r j
    step k = elim (there_or_end run.entries b) [
      | inl t ↦ ap (λ past. paths_at run.tree past r j) (past_next run b t.0 t.1) ∙ paths_step run b r j t.0 h t.1 (omega (arith, l, grows (λ past. begun_count past r) (λ e past. begun_more e past r) run a b k))
      | inr t ↦ ap (λ past. paths_at run.tree past r j) (past_end run.entries b t)
    ]

    go : (a ≤ b → paths_at run.tree (past_at run b) r j ≡ paths_at run.tree (past_at run a) r j) → (a ≤ b) ⊎ (a ≡ suc b) → paths_at run.tree (past_at run (suc b)) r j ≡ paths_at run.tree (past_at run a) r j
    go ih (inl k) = ap (λ n. paths_at run.tree (past_at run n) r j) (sym (add-one b)) ∙ step k ∙ ih k
    go ih (inr k) = ap (λ n. paths_at run.tree (past_at run n) r j) (sym k)

-- the paths of a job that has begun are the run's
pub paths_kept : (run : Run) (place r j : ℕ) → IsRun run → place ≤ length run.entries → j ≤ begun_count (past_at run place) r → job_paths run r j ≡ paths_at run.tree (past_at run place) r j
paths_kept run place r j h within l =
    sym (ap (λ es. paths_at run.tree (reverse es) r j) (take_all (length run.entries) run.entries (omega arith))) ∙ paths_later run place (length run.entries) r j h within l

-- **the first entries of a run are a run**
pub start_is_run : (run : Run) (place : ℕ) → place ≤ length run.entries → IsRun run → IsRun (record run { entries = take place run.entries })
start_is_run run place within h = record { repos = h.repos; steps = run_paths run h p (past_at run place) (steps_at run place h) same }
  where
    p : ℕ → ℕ → List (List ℕ)
    p r = paths_at run.tree (past_at run place) r

    same : (r : ℕ) → SamePaths (set_up run r) (p r) (past_at run place)
    same r j l = sym (paths_kept run place r j h within l)
