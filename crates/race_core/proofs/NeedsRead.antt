-- What the drop of each removal read of the logs, local and remote: its need, and the key of its job.
use Rattle.std.proofs.Common.{◌≡◌, ℕ, ◌≤◌, true, List, [], ◌∷◌, Some, None, inl, inr, refl, sym, ap, ◌∙◌, subst, arith}
use Rattle.std.specs.Prelude.{slice_get}
use Rattle.std.proofs.lemmas.Option.{same_Some}
use Rattle.annex_base.specs.Lists.{Member}
use Rattle.step_facts.proofs.Below.{SentAreRead}
use Rattle.drop_proof.specs.declared.rule.Need.{Need}
use Rattle.run_data.specs.declared.entry.By.TheVariants.{Job as by_job}
use Rattle.run_data.specs.declared.entry.Entry.{Entry}
use Rattle.run_data.specs.declared.entry.EntryKind.TheVariants.{Gone}
use Rattle.run_data.specs.declared.run.Run.{Run}
use Rattle.run_model.specs.Safety.{Removal, least_need, past_at}
use Rattle.run_data.specs.Repos.{id_of}
use Rattle.run_model.specs.Past.{is_of}
use Rattle.run_model.specs.Run.{IsRun, job_paths}
use Rattle.wanted_expr.specs.Wanted.{required}
use Rattle.race_core.specs.Places.{count_at, removal_at, removals_at}
use Rattle.race_core.specs.Readings.{Judge, judge_at, key_read, need_of_judge, settings_read}
use Rattle.race_core.specs.Removals.{IsAt, IsReadBefore, IsRemovalBefore}
use Rattle.past_facts.proofs.Changes.{Obeys, Removes, removal_was, repo_of}
use Rattle.race_core.proofs.Dropped.{dropped, judged_by}
use Rattle.race_core.proofs.AtPlaces.{enough_least}
use Rattle.race_core.proofs.ClaimSources.{least_of_all, least_removal, removal_counts}
use Rattle.race_core.proofs.JobBegins.{orderer_read, remover_read}
use Rattle.race_core.proofs.OneDrop.{order_obeyed}

-- a removal has the need that its judge read
pub need_judged : SentAreRead → (run : Run) (key : List ℕ) (place : ℕ) (e : Entry) (x : Removal) (judge : Judge) → IsRun run → slice_get run.entries place ≡ Some e → removal_at run key place e ≡ Some x → judge_at run place e ≡ Some judge
    → x.need ≡ need_of_judge run judge
need_judged reads_back run key place e x judge h at is judge_is = (dropped reads_back run key place e x judge h at is judge_is).need_is

-- and is of the key of the judge's job
pub key_judged : SentAreRead → (run : Run) (key : List ℕ) (place : ℕ) (e : Entry) (x : Removal) (judge : Judge) → IsRun run → slice_get run.entries place ≡ Some e → removal_at run key place e ≡ Some x → judge_at run place e ≡ Some judge
    → key_read judge ≡ key
key_judged reads_back run key place e x judge h at is judge_is = elim (removal_was run.repos e (past_at run place) key x is) [ inl t ↦ by_own t | inr t ↦ by_order t ]
  where
    is_read : (y : Judge) → judge_at run place e ≡ Some y → key_read y ≡ key → key_read judge ≡ key
    is_read y y_is k = subst (λ z. key_read z ≡ key) (same_Some y judge (sym y_is ∙ judge_is)) k

    by_own : Removes run.repos e (past_at run place) key x → key_read judge ≡ key
    by_own t =
        let there : IsAt run place t.r (Gone (by_job t.j) key) = record { entry = e; entry_is = at; repo_is = t.repo_is; kind_is = t.kind_is } in
        is_read (record { repo = t.r; job = t.j; past = past_at run place }) (rw (repo_of e t.r t.repo_is, t.kind_is) refl) (remover_read run place t.r t.j key h there)

    by_order : Obeys run.repos e (past_at run place) key x → key_read judge ≡ key
    by_order t =
        let o = order_obeyed reads_back run place t.r t.a t.slot key h (record { entry = e; entry_is = at; repo_is = t.repo_is; kind_is = t.kind_is }) in
        let same : o.taken.entry ≡ e = same_Some o.taken.entry e (sym o.taken.entry_is ∙ at) in
        is_read (record { repo = t.a; job = o.j; past = past_at run o.at }) (subst (λ y. judge_at run place y ≡ Some (record { repo = t.a; job = o.j; past = past_at run o.at })) same o.judge_is)
        (orderer_read run o.at t.a o.j t.r o.deadline o.need key h o.order)

-- its target doesn't require the content, by what the judge read
pub not_required : SentAreRead → (run : Run) (key : List ℕ) (place : ℕ) (e : Entry) (x : Removal) (judge : Judge) (r : ℕ) → IsRun run → slice_get run.entries place ≡ Some e → removal_at run key place e ≡ Some x → judge_at run place e ≡ Some judge
    → is_of r e ≡ true → required (settings_read judge) (id_of run.repos r) key (job_paths run judge.repo judge.job) ≡ None
not_required reads_back run key place e x judge r h at is judge_is own =
    let d = dropped reads_back run key place e x judge h at is judge_is in
    let same : d.r ≡ r = same_Some d.r r (sym (repo_of e d.r d.repo_is) ∙ repo_of e r own) in
    subst (λ n. required (settings_read judge) (id_of run.repos n) key (job_paths run judge.repo judge.job) ≡ None) same d.spared

-- ---- the least need

-- what the drop of a removal before read
read_before : SentAreRead → (run : Run) (key : List ℕ) (place m : ℕ) (x : Removal) → IsRun run → IsRemovalBefore run key place x → x.need.m ≡ m → IsReadBefore run key place m
read_before reads_back run key place m x h w need =
    let t = judged_by reads_back run key w.at w.entry x h w.entry_is w.removal_is in
    record { removal = x; before = w; judge = t.0; judge_is = t.1; read = ap (λ (n : Need). n.m) (sym t.2.need_is) ∙ need }

-- the removal needed what its drop read
needs_read : SentAreRead → (run : Run) (key : List ℕ) (place m : ℕ) → IsRun run → (w : IsReadBefore run key place m) → w.removal.need.m ≡ m
needs_read reads_back run key place m h w =
    ap (λ (n : Need). n.m) (need_judged reads_back run key w.before.at w.before.entry w.removal w.judge h w.before.entry_is w.before.removal_is w.judge_is) ∙ w.read

pub least_read : SentAreRead → (run : Run) (key : List ℕ) (place least : ℕ) → IsRun run → least_need (removals_at run key place) ≡ Some least → IsReadBefore run key place least
least_read reads_back run key place least h is = let t = least_removal run key place least is in read_before reads_back run key place least t.0 h t.1 t.2

pub least_below : SentAreRead → (run : Run) (key : List ℕ) (place least m : ℕ) → IsRun run → least_need (removals_at run key place) ≡ Some least → IsReadBefore run key place m → least ≤ m
least_below reads_back run key place least m h is w = subst (λ n. least ≤ n) (needs_read reads_back run key place m h w) (least_of_all run key place least w.removal is w.before)

-- where there is a removal, there is a least need
pub some_least : (xs : List Removal) (x : Removal) → Member x xs → (least : ℕ) × (least_need xs ≡ Some least)
some_least [] x m = absurd m
some_least (y ∷ xs) x m = (_, refl)

-- the copies and claims are no fewer than the least that was read
pub read_counts : SentAreRead → (run : Run) (key : List ℕ) (place least : ℕ) → IsRun run → IsReadBefore run key place least → ((m : ℕ) → IsReadBefore run key place m → least ≤ m) → least ≤ count_at run key place
read_counts reads_back run key place least h w least_is =
    let t = some_least (removals_at run key place) w.removal (removal_counts run key place w.removal w.before) in
    omega (arith, least_is t.0 (least_read reads_back run key place t.0 h t.1), enough_least reads_back run key place t.0 h t.1)
