-- Each job of a run begins at one place; and the job by which a removal, or an order, is made is a drop, or a move, of the key.
use Rattle.std.proofs.Common.{◌≡◌, ℕ, ◌+◌, ◌<◌, ◌≤◌, true, false, ◌||◌, List, [], ◌∷◌, Option, Some, ◌⊎◌, inl, inr, refl, sym, ap, ◌∙◌, subst, arith}
use Rattle.std.specs.Prelude.{◌==◌}
use Rattle.std.proofs.lemmas.Bool.{eqb-true}
use Rattle.std.proofs.lemmas.Option.{same_Some}
use Rattle.annex_base.specs.Lists.{Member}
use Rattle.annex_base.proofs.Conditions.{eqb_refl, if_is}
use Rattle.step_facts.proofs.Below.{SentAreRead}
use Rattle.drop_proof.specs.declared.rule.Need.{Need}
use Rattle.drop_proof.specs.declared.rule.Side.{Side}
use Rattle.drop_proof.specs.declared.rule.Side.TheVariants.{Local, Remote}
use Rattle.run_data.specs.declared.entry.By.TheVariants.{Job as by_job}
use Rattle.run_data.specs.declared.entry.Entry.{Entry}
use Rattle.run_data.specs.declared.entry.EntryKind.{EntryKind}
use Rattle.run_data.specs.declared.entry.EntryKind.TheVariants.{Begin, Gone, Order}
use Rattle.run_data.specs.declared.entry.FrameView.{FrameView}
use Rattle.run_data.specs.declared.job.Job.{Job}
use Rattle.run_data.specs.declared.job.JobKind.{JobKind}
use Rattle.run_data.specs.declared.job.JobKind.TheVariants as kinds
use Rattle.run_data.specs.declared.run.Run.{Run}
use Rattle.run_model.specs.Past.{Occurs, begun_count, begun_job, begun_job_after, is_of}
use Rattle.run_model.specs.Logs.{is_drop, read_at}
use Rattle.run_model.specs.Drops.{key_in}
use Rattle.run_model.specs.Safety.{past_at}
use Rattle.node_model.specs.Jobs.{Drops, Work, is_move, or_own, side_of}
use Rattle.run_model.specs.States.{works}
use Rattle.run_model.specs.Run.{IsRun, set_up}
use Rattle.job_facts.proofs.Aims.{aims, can_drop}
use Rattle.step_facts.proofs.JobNumbers.{begins_next}
use Rattle.step_facts.proofs.JobSteps.{stepped_runs}
use Rattle.run_laws.proofs.Decisions.{kind_of, order_stands_on, runs_begun, stepped_of}
use Rattle.run_laws.proofs.ReadKeys.{key_read}
use Rattle.race_core.specs.Removals.{HasJob, IsAt}
use Rattle.past_facts.proofs.EntryPlaces.{at_occurs, occurs_at, same_place}
use Rattle.past_facts.proofs.PlaceParts.{own_at, part_at, begun_more}

-- ---- beginnings

-- the job that began with a number began by an entry
begun_by : (past : List Entry) (r j : ℕ) (what : Job) → begun_job past r j ≡ Some what → (e : Entry) × (before : List Entry) × (Occurs past e before) × (is_of r e ≡ true) × (e.kind ≡ Begin j what)
begun_by [] r j what h = absurd (cc)
begun_by (e ∷ past) r j what h = go (λ k. begun_by past r j what k) (if_is (is_of r e) (begun_job_after j (begun_job past r j) e.kind) (begun_job past r j) (Some what) h)
  where
    begins : (was : Option Job) (kind : EntryKind) → begun_job_after j was kind ≡ Some what → (was ≡ Some what) ⊎ (kind ≡ Begin j what)
    begins was (Begin job w) k = elim (if_is (job == j) (Some w) was (Some what) k) [
      | inl t ↦ (let number : job ≡ j = eqb-true job j t.0 in let same : w ≡ what = same_Some w what t.1 in inr (λ i. Begin (number i) (same i)))
      | inr t ↦ inl t.1
    ]
    begins was kind k = inl k

    older : (x : Entry) × (before : List Entry) × (Occurs past x before) × (is_of r x ≡ true) × (x.kind ≡ Begin j what) → (x : Entry) × (before : List Entry) × (Occurs (e ∷ past) x before) × (is_of r x ≡ true) × (x.kind ≡ Begin j what)
    older t = (t.0, t.1, inr t.2, t.3, t.4)

    go : (begun_job past r j ≡ Some what → (x : Entry) × (before : List Entry) × (Occurs past x before) × (is_of r x ≡ true) × (x.kind ≡ Begin j what))
        → ((is_of r e ≡ true) × (begun_job_after j (begun_job past r j) e.kind ≡ Some what)) ⊎ ((is_of r e ≡ false) × (begun_job past r j ≡ Some what))
        → (x : Entry) × (before : List Entry) × (Occurs (e ∷ past) x before) × (is_of r x ≡ true) × (x.kind ≡ Begin j what)
    go ih (inl t) = elim (begins (begun_job past r j) e.kind t.1) [ inl k ↦ older (ih k) | inr k ↦ (e, past, inl (refl, refl), t.0, k) ]
    go ih (inr t) = older (ih t.1)

begun_later : (past : List Entry) (x : Entry) (p : List Entry) (r j : ℕ) (what : Job) → Occurs past x p → is_of r x ≡ true → x.kind ≡ Begin j what → begun_count p r + 1 ≤ begun_count past r
begun_later [] x p r j what o is kind = absurd o
begun_later (e ∷ past) x p r j what (inl o) is kind = subst (λ (y : Entry). begun_count p r + 1 ≤ begun_count (y ∷ past) r) o.0 (subst (λ (q : List Entry). begun_count p r + 1 ≤ begun_count (x ∷ q) r) o.1 here)
  where
    here : begun_count p r + 1 ≤ begun_count (x ∷ p) r
    here = rw (is, kind) (omega arith)
begun_later (e ∷ past) x p r j what (inr o) is kind = omega (arith, begun_later past x p r j what o is kind, begun_more e past r)

-- no job begins twice
begins_once : (run : Run) (a b r j : ℕ) (what also : Job) → IsRun run → IsAt run a r (Begin j what) → IsAt run b r (Begin j also) → a < b → ⊥
begins_once run a b r j what also h x y lt =
    let p = part_at run a r x.entry h x.entry_is x.repo_is in
    let q = part_at run b r y.entry h y.entry_is y.repo_is in
    let first = begins_next (set_up run r) (past_at run a) p.words x.entry p.own j what x.kind_is in
    let second = begins_next (set_up run r) (past_at run b) q.words y.entry q.own j also y.kind_is in
    let more = begun_later (past_at run b) x.entry (past_at run a) r j what (at_occurs run b a x.entry lt x.entry_is) x.repo_is x.kind_is in
    omega (arith, first, second, more)

drop_or_move : (kind : JobKind) → can_drop kind ≡ true → (is_drop kind || is_move kind) ≡ true
drop_or_move kinds.Drop e = refl
drop_or_move kinds.MoveTo e = refl
drop_or_move kinds.MoveFrom e = refl
drop_or_move kinds.Get e = absurd (cc)
drop_or_move kinds.Copy e = absurd (cc)

-- the running job that removes or orders is a drop or a move of the key
work_begun : (run : Run) (place r j : ℕ) (key : List ℕ) (side : Side) (target : ℕ) → IsRun run → (w : Work) → Member w (works (past_at run place) r) → w.number ≡ j → w.part ≡ Drops → side_of w ≡ side → w.what.key ≡ key
    → or_own r side w.what.peer ≡ target → HasJob run place r j key side target
work_begun run place r j key side target h w m number part is_side is_key is_target =
    let own = own_at run place r h in
    let begun_is : begun_job (past_at run place) r j ≡ Some w.what = subst (λ n. begun_job (past_at run place) r n ≡ Some w.what) number (runs_begun (set_up run r) (past_at run place) own.run w m) in
    let t = begun_by (past_at run place) r j w.what begun_is in
    let at = occurs_at run place t.0 t.1 t.2 in
    let begins : IsAt run at.at r (Begin j w.what) = record { entry = t.0; entry_is = at.entry_is; repo_is = t.3; kind_is = t.4 } in
    record {
      at = at.at;
      earlier = at.earlier;
      what = w.what;
      begins = begins;
      drops = drop_or_move w.what.kind ((aims (set_up run r) (past_at run place) own.run w m).1 part);
      side_is = is_side;
      target_is = is_target;
      key_is = is_key;
      only = λ other also x. same_place other at.at (λ lt. begins_once run other at.at r j also w.what h x begins lt) (λ lt. begins_once run at.at other r j w.what also h begins x lt);
    }

-- and the key of the job, as it read the logs, is this key
work_read : (run : Run) (place r j : ℕ) (key : List ℕ) → IsRun run → (w : Work) → Member w (works (past_at run place) r) → w.number ≡ j → w.what.key ≡ key
    → key_in (begun_job (read_at (past_at run place) r j) r j) ≡ key
work_read run place r j key h w m number is_key =
    subst (λ n. key_in (begun_job (read_at (past_at run place) r n) r n) ≡ key) number (key_read (set_up run r) (past_at run place) (own_at run place r h).run w m ∙ is_key)

-- ---- who removes, and who orders

-- the running job that made the entry, of this number and on this key
record Works (run : Run) (place r j : ℕ) (key : List ℕ) (side : Side) (target : ℕ) : Type 0 where
  w : Work
  runs : Member w (works (past_at run place) r)
  number_is : w.number ≡ j
  part_is : w.part ≡ Drops
  side_is : side_of w ≡ side
  target_is : or_own r side w.what.peer ≡ target
  key_is : w.what.key ≡ key

remover_works : (run : Run) (place r j : ℕ) (key : List ℕ) → IsRun run → IsAt run place r (Gone (by_job j) key) → Works run place r j key Local r
remover_works run place r j key h x =
    let p = part_at run place r x.entry h x.entry_is x.repo_is in
    let s = set_up run r in
    let past = past_at run place in
    let by = stepped_of s past p.words x.entry p.own j (Gone (by_job j) key) x.kind_is (eqb_refl j) in
    let f = kind_of s past x.entry by (Gone (by_job j) key) x.kind_is in
    let both : by_job j ≡ by_job by.w.number = f.by_is in
    let number : by.w.number ≡ j = cc in
    record { w = by.w; runs = stepped_runs s past x.entry by; number_is = number; part_is = f.part_is; side_is = f.side; target_is = refl; key_is = sym f.key_is }

orderer_works : (run : Run) (place a j target : ℕ) (deadline : Option ℕ) (need : Need) (key : List ℕ) → IsRun run → IsAt run place a (Order j target deadline need key) → Works run place a j key Remote target
orderer_works run place a j target deadline need key h x =
    let p = part_at run place a x.entry h x.entry_is x.repo_is in
    let s = set_up run a in
    let past = past_at run place in
    let by = stepped_of s past p.words x.entry p.own j (Order j target deadline need key) x.kind_is (eqb_refl j) in
    let f = kind_of s past x.entry by (Order j target deadline need key) x.kind_is in
    record { w = by.w; runs = stepped_runs s past x.entry by; number_is = sym f.number_is; part_is = f.part_is; side_is = f.side; target_is = subst (λ side. or_own a side by.w.what.peer ≡ target) f.side (sym f.target_is); key_is = sym f.key_is }

pub remover : (run : Run) (place r j : ℕ) (key : List ℕ) → IsRun run → IsAt run place r (Gone (by_job j) key) → HasJob run place r j key Local r
remover run place r j key h x = let y = remover_works run place r j key h x in work_begun run place r j key Local r h y.w y.runs y.number_is y.part_is y.side_is y.key_is y.target_is

pub remover_read : (run : Run) (place r j : ℕ) (key : List ℕ) → IsRun run → IsAt run place r (Gone (by_job j) key) → key_in (begun_job (read_at (past_at run place) r j) r j) ≡ key
remover_read run place r j key h x = let y = remover_works run place r j key h x in work_read run place r j key h y.w y.runs y.number_is y.key_is

pub orderer : (run : Run) (place a j target : ℕ) (deadline : Option ℕ) (need : Need) (key : List ℕ) → IsRun run → IsAt run place a (Order j target deadline need key) → HasJob run place a j key Remote target
orderer run place a j target deadline need key h x =
    let y = orderer_works run place a j target deadline need key h x in work_begun run place a j key Remote target h y.w y.runs y.number_is y.part_is y.side_is y.key_is y.target_is

pub orderer_read : (run : Run) (place a j target : ℕ) (deadline : Option ℕ) (need : Need) (key : List ℕ) → IsRun run → IsAt run place a (Order j target deadline need key)
    → key_in (begun_job (read_at (past_at run place) a j) a j) ≡ key
orderer_read run place a j target deadline need key h x = let y = orderer_works run place a j target deadline need key h x in work_read run place a j key h y.w y.runs y.number_is y.key_is

-- an order is all that its entry sends
pub order_alone : SentAreRead → (run : Run) (place a j target : ℕ) (deadline : Option ℕ) (need : Need) (key : List ℕ) → IsRun run → (x : IsAt run place a (Order j target deadline need key)) → (g : FrameView) × (x.entry.sent ≡ g ∷ [])
order_alone reads_back run place a j target deadline need key h x =
    let p = part_at run place a x.entry h x.entry_is x.repo_is in
    let o = order_stands_on reads_back (set_up run a) (past_at run place) p.words x.entry (own_at run place a h) p.own j target deadline need key x.kind_is in
    (_, ap (λ (e : Entry). e.sent) o.by.is ∙ o.sent_is)
