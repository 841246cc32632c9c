-- What the state of a run tells of a job of one of its repositories.
use Rattle.std.proofs.Common.{◌≡◌, ℕ, zero, suc, ◌+◌, ◌<◌, ◌≤◌, ◌^◌, Bool, List, [], ◌∷◌, length, Option, Some, None, refl, sym, ap, subst, ◌∙◌, arith}
use Rattle.std.specs.Prelude.{◌==◌, find, option_map, reverse, slice_get}
use Rattle.std.proofs.lemmas.Bool.{eqb-true}
use Rattle.annex_base.specs.Lists.{Each}
use Rattle.annex_base.proofs.Lists.{Each-member, find_member}
use Rattle.node_model.specs.Jobs as jobs
use Rattle.node_model.specs.SetUp.{SetUp}
use Rattle.node_model.specs.State.{State}
use Rattle.run_data.specs.declared.job.Proof.{Proof}
use Rattle.run_data.specs.declared.run.Run.{Run}
use Rattle.run_model.specs.Run.{set_up}
use Rattle.state_reads.specs.Reads.{IsOnly}
use Rattle.step_makes.specs.Numbers.{AreAlone}
use Rattle.step_state.specs.States.{IsStateOf, made_of}
use Rattle.step_state.specs.declared.state.RepoState.{RepoState}
use Rattle.step_rules.proofs.Alone.{StatesAgree, works_alone}
use Rattle.step_rules.specs.Members.{IsBounded, paths_at}
use Rattle.step_rules.specs.States.{IsAfter, IsCarried, job_paths_at, paths_in, repo_at, taken_by}
use Rattle.step_rules.specs.declared.member.Member as members
use Rattle.step_rules.specs.declared.run_state.RunState.{RunState}
use Rattle.audit_laws.specs.Proofs.{carried_state, proof_after, proof_in}
use Rattle.run_audit.specs.Audited.{IsAuditing}
use Rattle.run_audit.specs.declared.auditor.Auditor.{Auditor}

pub found_only : (ws : List jobs.Work) (p : jobs.Work → Bool) (w : jobs.Work) → AreAlone ws → find p ws ≡ Some w → IsOnly ws w
found_only ws p w alone found = Each-member (IsOnly ws) ws w alone (find_member p ws w found).0

-- ---- the repository

-- the one of this number
record IsHere (x : RunState) (r : ℕ) (st : RepoState) : Type 0 where
  m : members.Member
  at : slice_get x.members.items r ≡ Some m
  state_is : m.state ≡ st

here : (x : RunState) (r : ℕ) (st : RepoState) → repo_at x r ≡ Some st → IsHere x r st
here x r st is = go (slice_get x.members.items r) refl is
  where
    go : (o : Option members.Member) → slice_get x.members.items r ≡ o → option_map (λ m. m.state) o ≡ Some st → IsHere x r st
    go None at has = absurd (cc)
    go (Some m) at has = record { m = m; at = at; state_is = (let same : m.state ≡ st = cc in same) }

each_at : (P : members.Member → Type 0) (xs : List members.Member) (r : ℕ) (m : members.Member) → Each P xs → slice_get xs r ≡ Some m → P m
each_at P [] r m all at = absurd (cc)
each_at P (x ∷ xs) zero m all at = let same : x ≡ m = cc in subst P same all.0
each_at P (x ∷ xs) (suc r) m all at = each_at P xs r m all.1 at

-- it has made few entries
pub few_made : (x : RunState) → IsCarried x → taken_by x + 1 < 2 ^ 32 → (r : ℕ) (st : RepoState) → repo_at x r ≡ Some st → made_of st + 1 < 2 ^ 56
few_made x carried less r st is =
    let h = here x r st is in
    let low = (each_at (IsBounded (length x.repos.now) x.taken) x.members.items r h.m carried.members h.at).few in
    let same = ap made_of h.state_is in
    below (made_of h.m.state) (made_of st) x.taken low same less
  where
    below : (a b c : ℕ) → a ≤ c → a ≡ b → c + 1 < 2 ^ 32 → b + 1 < 2 ^ 56
    below a b c i j k = omega (arith, i, j, k)

pub many_repos : (x : Auditor) → IsAuditing x → length x.repos.now < 2 ^ 32
many_repos x auditing =
    let own = ap length auditing.of.repos in
    let held = ap length auditing.of.after.repos in
    let many = auditing.carried.many in
    go (length auditing.run.repos) (length x.repos.now) (length x.state.repos.now) own held many
  where
    go : (a b c : ℕ) → a ≡ b → a ≡ c → c < 2 ^ 32 → b < 2 ^ 32
    go a b c i j k = omega (arith, i, j, k)

-- ---- its job

-- where it is a repository of the run
pub told_there : StatesAgree → (x : RunState) (run : Run) → IsAfter x run → (r job : ℕ) (st : RepoState) → repo_at x r ≡ Some st → (paths : List (List ℕ)) → paths ≡ job_paths_at x r job → (p : Option Proof)
    → ((s : SetUp) (state : State) → s.repos ≡ run.repos → IsStateOf st s state → AreAlone state.works → ((w : jobs.Work) → find (λ v. v.number == job) state.works ≡ Some w → s.paths w.number ≡ paths) → p ≡ proof_in s state job)
    → p ≡ proof_after run r job
told_there agree x run after r job st is paths paths_are p told =
    let h = here x r st is in
    let member = after.judge.members r h.m h.at in
    told (set_up run r) (carried_state run r) refl (subst (λ z. IsStateOf z (set_up run r) (carried_state run r)) h.state_is member.state) (works_alone agree run after.lawful.repos (reverse run.entries) after.lawful.steps r)
    (λ w found.
    let of = find_member (λ (v : jobs.Work). v.number == job) (carried_state run r).works w found in
    member.paths w of.0 ∙ (λ i. paths_at h.m.paths (eqb-true w.number job of.1 i)) ∙ sym (paths_are ∙ ap (λ o. paths_in o job) h.at))

-- where it isn't, it has none
pub told_nowhere : (x : RunState) (run : Run) → IsAfter x run → (r job : ℕ) → repo_at x r ≡ None → None ≡ proof_after run r job
told_nowhere x run after r job none = sym (ap (λ (st : State). proof_in (set_up run r) st job) (after.judge.others r (past x.members.items r gone)))
  where
    gone : slice_get x.members.items r ≡ None
    gone = go (slice_get x.members.items r) refl none
      where
        go : (o : Option members.Member) → slice_get x.members.items r ≡ o → option_map (λ m. m.state) o ≡ None → slice_get x.members.items r ≡ None
        go None at has = at
        go (Some m) at has = absurd (cc)

    past : (xs : List members.Member) (r : ℕ) → slice_get xs r ≡ None → length xs ≤ r
    past [] r none = omega arith
    past (x ∷ xs) zero none = absurd (cc)
    past (x ∷ xs) (suc r) none = let more = past xs r none in omega (arith, more)
