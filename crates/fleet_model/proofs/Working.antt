-- The works of a node's jobs: which of them makes an entry, and how it stands.
use Rattle.std.proofs.Common.{◌≡◌, ℕ, Bool, true, false, cond, List, [], ◌∷◌, Option, Some, None, map, refl, sym, ap, ◌∙◌}
use Rattle.std.specs.Prelude.{◌==◌, find}
use Rattle.std.specs.Option.{option_and_then, option_map}
use Rattle.annex_base.specs.Lists.{Member}
use Rattle.annex_base.proofs.Conditions.{eqb_refl}
use Rattle.annex_base.proofs.Lists.{Each-member, find_member, find_nowhere}
use Rattle.std.proofs.lemmas.Bool.{eqb-true}
use Rattle.run_data.specs.declared.entry.EntryKind.{EntryKind}
use Rattle.run_laws.specs.Jobs.{AreJobs}
use Rattle.node_model.specs.Jobs.{Gets, GetsWord, Phase, Work}
use Rattle.node_model.specs.Slots.{job_of}
use Rattle.node_model.specs.State.{State}
use Rattle.joined_nodes.specs.Task.{Task}
use Rattle.joined_nodes.specs.Tasks.{number_of, work_now}
use Rattle.joined_nodes.specs.Running.{job_at}
use Rattle.joined_nodes.specs.Parts.{PartsView}
use Rattle.joined_nodes.specs.Steps.{job_acting}
use Rattle.fleet_model.specs.StepStored.{work_making}

-- ---- how a work stands

-- the phase of a get that awaits the verdict
abbrev pub is_judging : Phase → Bool
is_judging (GetsWord peer start size) = true
is_judging phase = false

-- only a get stands so
abbrev pub IsFit : Work → Type 0
IsFit w = is_judging w.phase ≡ true → w.part ≡ Gets

-- ---- the first work of a number

pub task_of_work : (ts : List Task) (job : ℕ) → find (λ w. w.number == job) (map work_now ts) ≡ option_map work_now (job_at ts job)
task_of_work [] job = refl
task_of_work (t ∷ ts) job = go (number_of t == job) (task_of_work ts job)
  where
    go : (b : Bool) → find (λ w. w.number == job) (map work_now ts) ≡ option_map work_now (job_at ts job)
        → cond b (Some (work_now t)) (find (λ w. w.number == job) (map work_now ts)) ≡ option_map work_now (cond b (Some t) (job_at ts job))
    go true rest = refl
    go false rest = rest

-- numbers are the works' own
pub found_by_number : (ws : List Work) (w : Work) → AreJobs ws → Member w ws → find (λ v. v.number == w.number) ws ≡ Some w
found_by_number ws w jobs among = go (find (λ v. v.number == w.number) ws) refl
  where
    go : (o : Option Work) → find (λ v. v.number == w.number) ws ≡ o → o ≡ Some w
    go None none =
        let other : (w.number == w.number) ≡ false = Each-member (λ (v : Work). (v.number == w.number) ≡ false) ws w (find_nowhere (λ v. v.number == w.number) ws none) among in
        absurd (let clash : true ≡ false = sym (eqb_refl w.number) ∙ other in cc)
    go (Some v) at =
        let was = find_member (λ v. v.number == w.number) ws v at in
        ap (λ (x : Work). Some x) (jobs.apart v w was.0 among (eqb-true v.number w.number was.1))

-- ---- the one that makes an entry

-- the work of the acting job is the one that makes the entry
pub work_of_acting : (st : State) (p : PartsView) (kind : EntryKind) → st.works ≡ map work_now p.jobs.running → option_map work_now (job_acting p kind) ≡ work_making st kind
work_of_acting st p kind are = go (job_of kind)
  where
    go : (o : Option ℕ) → option_map work_now (option_and_then (job_at p.jobs.running) o) ≡ option_and_then (λ (job : ℕ). find (λ (w : Work). w.number == job) st.works) o
    go None = refl
    go (Some job) = sym (task_of_work p.jobs.running job) ∙ ap (find (λ (w : Work). w.number == job)) (sym are)

pub making_is : (st : State) (kind : EntryKind) (w : Work) → AreJobs st.works → Member w st.works → job_of kind ≡ Some w.number → work_making st kind ≡ Some w
making_is st kind w jobs among made = ap (option_and_then (λ (job : ℕ). find (λ (v : Work). v.number == job) st.works)) made ∙ found_by_number st.works w jobs among
