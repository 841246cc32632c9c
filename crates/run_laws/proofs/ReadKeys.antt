-- A running job has the key with which it was begun as it read the logs, and its decision states the need that it read.
use Rattle.std.proofs.Common.{◌≡◌, ℕ, ◌<◌, Bool, true, false, List, [], ◌∷◌, Option, Some, None, ◌⊎◌, inl, inr, refl, sym, ap, ◌∙◌, subst}
use Rattle.std.specs.Prelude.{if◌then◌else◌, ◌&&◌, length}
use Rattle.std.specs.Option.{unwrap_or}
use Rattle.std.proofs.lemmas.Option.{same_Some}
use Rattle.annex_base.specs.Lists.{Member}
use Rattle.annex_base.specs.Settings.{Settings}
use Rattle.annex_base.proofs.Conditions.{eqb_refl}
use Rattle.annex_base.proofs.Options.{option_or-was}
use Rattle.step_facts.proofs.Below.{SentAreRead}
use Rattle.drop_proof.specs.declared.rule.Need.{Need}
use Rattle.run_data.specs.declared.entry.Entry.{Entry}
use Rattle.run_data.specs.declared.entry.EntryKind.{EntryKind}
use Rattle.run_data.specs.declared.entry.EntryKind.TheVariants.{Bar}
use Rattle.run_model.specs.Past.{Decision, begun_count, begun_job, decision, decided_after, is_of}
use Rattle.node_model.specs.Slots.{RunningJob}
use Rattle.run_model.specs.Logs.{before_step, in_drop, is_step, need_read, read_at, settings_of}
use Rattle.run_model.specs.Drops.{key_in}
use Rattle.node_model.specs.SetUp.{SetUp}
use Rattle.run_model.specs.States.{state_of, rows_at, works}
use Rattle.node_model.specs.Jobs.{Work, running_job}
use Rattle.node_model.specs.Knows.{need_by, need_of}
use Rattle.run_model.specs.Run.{OwnPast, OwnRun}
use Rattle.node_model.specs.Found.{IsJobEntry}
use Rattle.step_facts.proofs.JobKept.{kind_kept}
use Rattle.step_facts.proofs.JobSteps.{Origin, Steps, invariant, stepped_runs, turn_at}
use Rattle.job_facts.proofs.WorkFits.{step_kind, step_number, step_runs}
use Rattle.job_facts.proofs.Untouched.{begin_still, begins_later, begun_before, future, not_yet}
use Rattle.step_facts.proofs.BySteps.{earlier}
use Rattle.job_facts.proofs.DropReads.{read_kept, stays_read, step_read}
use Rattle.run_laws.proofs.AtTargets.{at_targets}
use Rattle.run_laws.proofs.Decisions.{runs_begun}

-- ---- when it read

-- the first step of the drop stood before, or is this entry
read_was : (past : List Entry) (e : Entry) (r j : ℕ) (b : List Entry) → before_step (e ∷ past) r j ≡ Some b → (before_step past r j ≡ Some b) ⊎ ((is_step j e.kind ≡ true) × (is_of r e ≡ true) × (past ≡ b))
read_was past e r j b h = elim (option_or-was (before_step past r j) (if is_of r e && (is_step j e.kind && in_drop past r j) then Some past else None) b h) [
  | inl old ↦ inl old
  | inr now' ↦ inr (go (is_of r e) (is_step j e.kind) (in_drop past r j) now')
]
  where
    go : (p q d : Bool) → (if p && (q && d) then Some past else None) ≡ Some b → (q ≡ true) × (p ≡ true) × (past ≡ b)
    go true true true k = (refl, refl, same_Some past b k)
    go true true false k = absurd (cc)
    go true false d k = absurd (cc)
    go false q d k = absurd (cc)

-- a job that hasn't begun has read nothing
future_unread : (s : SetUp) (past : List Entry) → OwnRun s past → (j : ℕ) → begun_count past s.number < j → (b : List Entry) → before_step past s.number j ≡ Some b → ⊥
future_unread s [] run j later b h = let bad : None ≡ Some b = h in cc
future_unread s (e ∷ past) run j later b h =
    let before = begun_before past e s.number j later in
    elim (read_was past e s.number j b h) [
      | inl old ↦ future_unread s past run.1 j before b old
      | inr now' ↦ (let own = run.0 now'.1 in let still = not_yet s past own.0 e run.1 own.1 j before in let bad : true ≡ false = sym now'.0 ∙ still in cc)
    ]

abbrev ReadBegun : ℕ → List Entry → RunningJob → Type 0
ReadBegun r past j = (b : List Entry) → before_step past r j.number ≡ Some b → begun_job b r j.number ≡ Some j.what

still_read : (past : List Entry) (e : Entry) (r : ℕ) (j : RunningJob) → (is_step j.number e.kind ≡ true → is_of r e ≡ true → ⊥) → ReadBegun r past j → ReadBegun r (e ∷ past) j
still_read past e r j still was b h = elim (read_was past e r j.number b h) [ inl old ↦ was b old | inr now' ↦ absurd (still now'.0 now'.1) ]

read_begun : (s : SetUp) (past : List Entry) → OwnRun s past → (w : Work) → Member w (works past s.number) → ReadBegun s.number past (running_job w)
read_begun s past run w m = invariant s (λ p x. ReadBegun s.number p (running_job x)) (λ p e is x n was. still_read p e s.number (running_job x) (λ step of. let bad : true ≡ false = sym of ∙ is in cc) was) own past run w m
  where
    own : (p : List Entry) (e : Entry) → OwnRun s (e ∷ p) → is_of s.number e ≡ true → ((x : Work) → Member x (works p s.number) → ReadBegun s.number p (running_job x))
        → (x : Work) → Origin s p e x → ReadBegun s.number (e ∷ p) (running_job x)
    own p e r is was x (inl b) = still_read p e s.number (running_job x) (λ step of. let bad : true ≡ false = sym step ∙ begin_still s p e x b in cc)
        (λ q h. absurd (future_unread s p r.1 x.number (begins_later s p e r is x b) q h))
    own p e r is was x (inr (inl b)) = still_read p e s.number (running_job x) (λ step of. let bad : true ≡ false = sym step ∙ b.still in cc) (was x b.ran)
    own p e r is was x (inr (inr b)) =
        let v = b.by.w in
        let same : running_job x ≡ running_job v = ap running_job b.work_is ∙ kind_kept (rows_at p s.number) s.number v e e.kind in
        subst (ReadBegun s.number (e ∷ p)) (sym same) (λ q h. elim (read_was p e s.number v.number q h) [
          | inl old ↦ was v (stepped_runs s p e b.by) q old
          | inr now' ↦ subst (λ z. begun_job z s.number v.number ≡ Some v.what) now'.2 (runs_begun s p r.1 v (stepped_runs s p e b.by))
        ])

-- **the key of a running job, as it read the logs**
pub key_read : (s : SetUp) (past : List Entry) → OwnRun s past → (w : Work) → Member w (works past s.number) → key_in (begun_job (read_at past s.number w.number) s.number w.number) ≡ w.what.key
key_read s past run w m = ap key_in (go (before_step past s.number w.number) refl)
  where
    go : (o : Option (List Entry)) → before_step past s.number w.number ≡ o → begun_job (unwrap_or o past) s.number w.number ≡ Some w.what
    go None h = runs_begun s past run w m
    go (Some b) h = read_begun s past run w m b h

-- ---- what it decided

-- the decision's need is what was read, once and for all
abbrev Decides : SetUp → List Entry → ℕ → Type 0
Decides s past j = (d : Decision) → decision past s.number j ≡ Some d → ((b : List Entry) × (before_step past s.number j ≡ Some b)) × (d.need ≡ need_read (s.paths j) past s.number j)

need_stays : (paths : List (List ℕ)) (past : List Entry) (e : Entry) (r j : ℕ) → (b : List Entry) × (before_step past r j ≡ Some b) → need_read paths (e ∷ past) r j ≡ need_read paths past r j
need_stays paths past e r j x = ap (λ (z : Settings). need_by z paths) (stays_read past e r j x)

decides_kept : (s : SetUp) (past : List Entry) (e : Entry) (j : ℕ) → decision (e ∷ past) s.number j ≡ decision past s.number j → Decides s past j → Decides s (e ∷ past) j
decides_kept s past e j same was d h = let x = was d (sym same ∙ h) in (read_kept past e s.number j x.0, x.1 ∙ sym (need_stays (s.paths j) past e s.number j x.0))

still_bar : (place j : ℕ) (was : Option Decision) (kind : EntryKind) → is_step j kind ≡ false → decided_after place j was kind ≡ was
still_bar place j was (Bar job need key) still = rw still refl
still_bar place j was kind still = refl

bar_or : (kind : EntryKind) → ((job : ℕ) × (need : Need) × (key : List ℕ) × (kind ≡ Bar job need key)) ⊎ ((place j : ℕ) (was : Option Decision) → decided_after place j was kind ≡ was)
bar_or (Bar job need key) = inl (job, need, key, refl)
bar_or kind = inr (λ place j was. refl)

own_decided : (past : List Entry) (e : Entry) (r j : ℕ) → is_of r e ≡ true → ((place : ℕ) (was : Option Decision) → decided_after place j was e.kind ≡ was) → decision (e ∷ past) r j ≡ decision past r j
own_decided past e r j is same = rw is (same (length past) (decision past r j))

-- **a running job's decision states the need that it read**
pub decided_read : SentAreRead → (s : SetUp) (past : List Entry) → OwnPast s past → (w : Work) → Member w (works past s.number) → (d : Decision) → decision past s.number w.number ≡ Some d
    → d.need ≡ need_of s (state_of s past) w
decided_read reads_back s past h w m d k = let x = all d k in x.1
  where
    -- a bar is put by the first step of the drop, and states what is read then
    bars : (p : List Entry) (e : Entry) → OwnPast s p → is_of s.number e ≡ true → (x : Work) (b : Steps s p e x) → (job : ℕ) (need : Need) (key : List ℕ) → e.kind ≡ Bar job need key → Decides s (e ∷ p) b.by.w.number
    bars p e h is x b job need key kind c k =
        let v = b.by.w in
        let f = subst (IsJobEntry (turn_at s p e b.by) b.by.made) kind (step_kind s p e x b) in
        let read = step_read p e s.number v.number is b.step ((at_targets reads_back s p h v (step_runs s p e x b)).0 f.part_is) in
        let made : Decision = record { place = length p; key = key; need = need } in
        let puts : decision (e ∷ p) s.number v.number ≡ Some made = rw is (ap (decided_after (length p) v.number (decision p s.number v.number)) kind
        ∙ subst (λ n. decided_after (length p) v.number (decision p s.number v.number) (Bar n need key) ≡ Some made) (sym f.number_is) (rw (eqb_refl v.number) refl)) in
        let same : c ≡ made = same_Some c made (sym k ∙ puts) in
        (read.0, ap (λ (z : Decision). z.need) same ∙ (f.need_is ∙ ap (λ q. need_by (settings_of q s.number) (s.paths v.number)) (sym read.1)))

    own : (p : List Entry) (e : Entry) → OwnPast s (e ∷ p) → is_of s.number e ≡ true → ((x : Work) → Member x (works p s.number) → Decides s p x.number) → (x : Work) → Origin s p e x → Decides s (e ∷ p) x.number
    own p e h is was x (inl b) = decides_kept s p e x.number (own_decided p e s.number x.number is (λ place o. still_bar place x.number o e.kind (begin_still s p e x b)))
        (λ c k. let none = (future s p h.run.1 x.number (begins_later s p e h.run is x b)).nothing.undecided in absurd (let bad : None ≡ Some c = sym none ∙ k in cc))
    own p e h is was x (inr (inl b)) = decides_kept s p e x.number (own_decided p e s.number x.number is (λ place o. still_bar place x.number o e.kind b.still)) (was x b.ran)
    own p e h is was x (inr (inr b)) =
        let v = b.by.w in
        subst (Decides s (e ∷ p)) (sym (step_number s p e x b)) (elim (bar_or e.kind) [
          | inr other ↦ decides_kept s p e v.number (own_decided p e s.number v.number is (λ place o. other place v.number o)) (was v (step_runs s p e x b))
          | inl k ↦ bars p e (earlier s p e h) is x b k.0 k.1 k.2 k.3
        ])

    all : Decides s past w.number
    all = invariant s (λ p x. OwnPast s p → Decides s p x.number) (λ p e is x n was k. decides_kept s p e x.number (rw is refl) (was (earlier s p e k)))
        (λ p e run is was x o k. own p e k is (λ y n. was y n (earlier s p e k)) x o) past h.run w m h
