-- Where a drop's list has a candidate as closed, the candidate or an entry here closed the connection.
use Rattle.std.proofs.Common.{◌≡◌, ℕ, Bool, true, false, List, [], ◌∷◌, Option, Some, None, inl, inr, refl, sym, ap, ◌∙◌, subst}
use Rattle.std.specs.Prelude.{◌==◌, find, if◌then◌else◌, option_map}
use Rattle.std.proofs.lemmas.Bool.{eqb-true}
use Rattle.std.proofs.lemmas.Option.{same_Some}
use Rattle.annex_base.specs.Lists.{Each, Member}
use Rattle.run_data.specs.declared.entry.Entry.{Entry}
use Rattle.run_data.specs.declared.entry.EntryKind.{EntryKind}
use Rattle.run_data.specs.declared.entry.EntryKind.TheVariants.{Fault, Talk}
use Rattle.run_data.specs.declared.job.Cause.TheVariants as causes
use Rattle.run_model.specs.Causes.{ClosedWith}
use Rattle.run_model.specs.Drops.{cause_own}
use Rattle.run_model.specs.Past.{is_of}
use Rattle.run_model.specs.Run.{OwnRun}
use Rattle.run_model.specs.States.{rows_at, works}
use Rattle.node_model.specs.SetUp.{SetUp}
use Rattle.node_model.specs.Slots.{RunningJob}
use Rattle.node_model.specs.Jobs.{Drops, Heard, Held, Lacks, Puts, RowsAndEnds, Seen, Unseen, Work, running_job, work_kind}
use Rattle.step_facts.proofs.JobSteps.{Origin, Steps, invariant, turn_at}
use Rattle.job_facts.proofs.HeardLists.{Changed, kind_changed, share_or, talker_is}
use Rattle.job_facts.proofs.WorkFits.{step_kind, step_running, step_runs, step_sent}
use Rattle.dialogue_facts.proofs.OwnCauses.{own_value}
use Rattle.cause_laws.proofs.ClosedCauses.{ShutTold, ShutsTold, closed_grows}

abbrev pub ClosedHeard : ℕ → List Entry → RunningJob → List (ℕ × Heard) → Type 0
ClosedHeard r past j xs = Each (λ x. x.1 ≡ Lacks causes.Closed → ClosedWith past r j.number x.0) xs

closed_grow : (r : ℕ) (e : Entry) (past : List Entry) (j : RunningJob) (xs : List (ℕ × Heard)) → ClosedHeard r past j xs → ClosedHeard r (e ∷ past) j xs
closed_grow r e past j [] a = tt
closed_grow r e past j (x ∷ xs) a = ((λ is. closed_grows r e past j x.0 (a.0 is)), closed_grow r e past j xs a.1)

-- the own repository is never told so
not_own : (barred : Option ℕ) (kind : EntryKind) → cause_own barred kind ≡ Some causes.Closed → ⊥
not_own None (Talk job) e = cc
not_own (Some i) (Talk job) e = cc
not_own barred (Fault call by) e = cc
not_own barred kind e = cc

module _ (s : SetUp) (p : List Entry) (e : Entry) (x : Work) (b : Steps s p e x) (told : ShutTold s p e) where
  abbrev v : Work
  v = b.by.w

  abbrev rows : RowsAndEnds
  rows = rows_at p s.number

  abbrev y : Work
  y = work_kind rows s.number v e e.kind

  abbrev Heads : List (ℕ × Heard) → Type 0
  Heads = ClosedHeard s.number (e ∷ p) (running_job v)

  -- one more that isn't closed
  other : (c : ℕ) (h : Heard) (list : List (ℕ × Heard)) → list ≡ (c, h) ∷ v.heard → (h ≡ Lacks causes.Closed → ⊥) → Heads v.heard → Heads list
  other c h list is apart was = subst Heads (sym is) ((λ closed. absurd (apart closed)), was)

  by_changed : Heads v.heard → Changed rows s.number v e y → Heads y.heard
  by_changed was (inl same) = subst Heads (sym same) was
  by_changed was (inr (inl o)) = other s.number (Lacks o.cause) y.heard o.list
      (λ closed. not_own (rows.bar v.what.key) e.kind (own_value (turn_at s p e b.by) b.by.made rows s.number e e.kind (step_kind s p e x b) (sym (step_sent s p e x b)) b.goes_on o ∙ ap Some (of_lacks closed))) was
    where
      of_lacks : Lacks o.cause ≡ Lacks causes.Closed → o.cause ≡ causes.Closed
      of_lacks closed = cc
  by_changed was (inr (inr (inl k))) = subst Heads (sym k.list) ((λ closed. with_peer), was)
    where
      with_peer : ClosedWith (e ∷ p) s.number v.number k.peer
      with_peer = elim (told x b (record { peer = k.peer; on = k.on; closed = k.shut })) [
        | inl closed ↦ closed
        | inr z ↦ absurd (let both : Puts ≡ Drops = sym z.0 ∙ k.part_is in cc)
      ]
  by_changed was (inr (inr (inr z))) = elim (z.told) [
    | inl q ↦ other q.peer (Held q.since) y.heard q.list (λ closed. (cc)) was
    | inr q ↦ elim (q.told) [
      | inl g ↦ other q.peer Seen y.heard g.1 (λ closed. (cc)) was
      | inr g ↦ other q.peer Unseen y.heard g.1 (λ closed. (cc)) was
    ]
  ]

  closed_now : Heads v.heard → Heads y.heard
  closed_now was = elim (share_or e.kind) [
    | inl k ↦ other s.number (Held e.time) y.heard (ap (λ kind. (work_kind rows s.number v e kind).heard) k.4) (λ closed. (cc)) was
    | inr apart ↦ by_changed was (kind_changed rows s.number v e (talker_is (turn_at s p e b.by) e.taken) e.kind apart)
  ]

-- **each candidate that a drop's list has as closed**
pub closed_heard : (s : SetUp) (past : List Entry) → OwnRun s past → ShutsTold s past → (w : Work) → Member w (works past s.number) → ClosedHeard s.number past (running_job w) w.heard
closed_heard s past run told w m = invariant s (λ p x. ShutsTold s p → ClosedHeard s.number p (running_job x) x.heard) (λ p e is x n was told. closed_grow s.number e p (running_job x) x.heard (was told.1)) own past run w m told
  where
    own : (p : List Entry) (e : Entry) → OwnRun s (e ∷ p) → is_of s.number e ≡ true → ((x : Work) → Member x (works p s.number) → ShutsTold s p → ClosedHeard s.number p (running_job x) x.heard)
        → (x : Work) → Origin s p e x → ShutsTold s (e ∷ p) → ClosedHeard s.number (e ∷ p) (running_job x) x.heard
    own p e run is was x (inl b) told = subst (λ (y : Work). ClosedHeard s.number (e ∷ p) (running_job y) y.heard) (sym b.work_is) tt
    own p e run is was x (inr (inl b)) told = closed_grow s.number e p (running_job x) x.heard (was x b.ran told.1)
    own p e run is was x (inr (inr b)) told =
        let v = b.by.w in
        let new = closed_now s p e x b told.0 (closed_grow s.number e p (running_job v) v.heard (was v (step_runs s p e x b) told.1)) in
        subst (λ (j : RunningJob). ClosedHeard s.number (e ∷ p) j x.heard) (sym (step_running s p e x b)) (subst (λ (z : Work). ClosedHeard s.number (e ∷ p) (running_job v) z.heard) (sym b.work_is) new)

pub heard_closed : (r : ℕ) (past : List Entry) (j : RunningJob) (xs : List (ℕ × Heard)) (c : ℕ) → ClosedHeard r past j xs → option_map (λ x. x.1) (find (λ x. x.0 == c) xs) ≡ Some (Lacks causes.Closed) → ClosedWith past r j.number c
heard_closed r past j [] c all is = absurd (cc)
heard_closed r past j (x ∷ xs) c all is = go (x.0 == c) refl is (heard_closed r past j xs c all.1)
  where
    go : (b : Bool) → (x.0 == c) ≡ b → option_map (λ x. x.1) (if b then Some x else find (λ x. x.0 == c) xs) ≡ Some (Lacks causes.Closed)
        → (option_map (λ x. x.1) (find (λ x. x.0 == c) xs) ≡ Some (Lacks causes.Closed) → ClosedWith past r j.number c) → ClosedWith past r j.number c
    go true same is rest = subst (ClosedWith past r j.number) (eqb-true x.0 c same) (all.0 (same_Some x.1 (Lacks causes.Closed) is))
    go false apart is rest = rest is
