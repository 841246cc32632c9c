-- The bar of a local drop that is under way stands on its key until it removes the content or ends.
use Rattle.std.proofs.Common.{◌≡◌, ◌≢◌, ℕ, true, false, List, ◌∷◌, Option, Some, None, ◌⊎◌, inl, inr, refl, sym, ap, ◌∙◌, subst, arith}
use Rattle.std.specs.Prelude.{◌==◌, bytes_eq}
use Rattle.std.proofs.lemmas.Bool.Decides.{nat_tests}
use Rattle.std.proofs.lemmas.Bool.{eqb-false}
use Rattle.annex_base.specs.Lists.{Member}
use Rattle.annex_base.specs.declared.kinds.Call.{Call}
use Rattle.annex_base.specs.declared.kinds.Call.TheVariants.{PutFile, Unhold}
use Rattle.annex_base.specs.declared.kinds.Word.{Word}
use Rattle.annex_base.proofs.Lists.{find_member}
use Rattle.annex_base.proofs.Conditions.{if_either, bytes_eq-true, bytes_eq-refl}
use Rattle.drop_proof.specs.declared.rule.Need.{Need}
use Rattle.drop_proof.specs.declared.rule.Side.{Side}
use Rattle.drop_proof.specs.declared.rule.Side.TheVariants.{Local, Remote}
use Rattle.run_data.specs.declared.entry.By.{By}
use Rattle.run_data.specs.declared.entry.By.TheVariants.{Job as by_job}
use Rattle.run_data.specs.declared.entry.Entry.{Entry}
use Rattle.run_data.specs.declared.entry.EntryKind.{EntryKind}
use Rattle.run_data.specs.declared.entry.EntryKind.TheVariants.{Gain, Share, Bar, Gone, Order, Talk, Crash, Fault, End as ends_job}
use Rattle.run_data.specs.declared.job.Job.{Job}
use Rattle.run_data.specs.declared.job.Outcome.{Outcome}
use Rattle.node_model.specs.Slots.{RunningJob}
use Rattle.run_model.specs.Past.{bar, is_of}
use Rattle.node_model.specs.Rows.{bar_after}
use Rattle.run_model.specs.Logs.{is_step}
use Rattle.node_model.specs.SetUp.{SetUp}
use Rattle.run_model.specs.States.{state_of, rows_at, works}
use Rattle.node_model.specs.AnyTime.{MayCome}
use Rattle.node_model.specs.Jobs
use Rattle.node_model.specs.Jobs.{Puts, AsksTime, Drops, Fresh, Gets, Part, Phase, RowsAndEnds, Work, fault_of, fault_phase, running_job, side_of, after_failed_release, work_kind}
use Rattle.node_model.specs.Look.{Effect}
use Rattle.node_model.specs.JobStep.{Turn, key_of}
use Rattle.run_model.specs.Run.{IsStep, OwnPart, OwnRun}
use Rattle.node_model.specs.Found.{IsJobEntry}
use Rattle.step_facts.proofs.JobKept.{kind_kept}
use Rattle.step_facts.proofs.StepFacts.{bar_found, kind_found, removes_found}
use Rattle.job_facts.proofs.TalkFacts.{Fits, TalkKind, under_way}
use Rattle.job_facts.proofs.PhaseFacts.{GoodTo, only_word}
use Rattle.step_facts.proofs.JobSteps.{Origin, Stays, invariant, turn_at}
use Rattle.job_facts.proofs.WorkFits.{step_kind, step_runs, step_talk, steps_good, works_fit}

-- a local drop that is under way has its bar
abbrev pub Barring : ℕ → List Entry → Work → Type 0
Barring r past w = w.part ≡ Drops → side_of w ≡ Local → under_way w.phase ≡ true → bar past r w.what.key ≡ Some w.number

local_not_remote : (side : Side) → side ≡ Local → side ≡ Remote → ⊥
local_not_remote side l r = let no_side : Local ≡ Remote = sym l ∙ r in cc

-- ---- its own steps

-- the step puts the job's bar; or the job was under way, and no bar changes
abbrev BarsOr : Turn → EntryKind → Type 0
BarsOr t kind = ((need : Need) × (kind ≡ Bar t.w.number need (key_of t))) ⊎ ((under_way t.w.phase ≡ true) × ((key : List ℕ) (was : Option ℕ) → bar_after key was kind ≡ was))

unreleased_under : (w : Work) (time : ℕ) (phase : Phase) → under_way (after_failed_release w time phase).phase ≡ true → under_way w.phase ≡ true
unreleased_under w time AsksTime u = absurd (cc)
unreleased_under w time phase u = u

phase_under : (r : ℕ) (w : Work) (part : Part) (side : Side) (phase : Phase) → side ≡ Local → under_way (fault_phase r w part side phase).phase ≡ true → ⊥
phase_under r w Drops Remote Fresh local u = absurd (cc)
phase_under r w part side phase local u = absurd (cc)

fault_under : (r : ℕ) (w : Work) (time : ℕ) (call : Call) → side_of w ≡ Local → under_way (fault_of r w time call).phase ≡ true → under_way w.phase ≡ true
fault_under r w time PutFile local u = u
fault_under r w time Unhold local u = unreleased_under w time w.phase u
fault_under r w time call local u = absurd (phase_under r w w.part (side_of w) w.phase local u)

bars_or : (t : Turn) (m : Effect) (rows : RowsAndEnds) (r : ℕ) (e : Entry) (kind : EntryKind) → IsJobEntry t m kind → TalkKind t m kind → Fits t.w.part t.w.phase → t.w.part ≡ Drops → side_of t.w ≡ Local
    → under_way (work_kind rows r t.w e kind).phase ≡ true → ((j : ℕ) (outcome : Outcome) → kind ≢ ends_job j outcome) → BarsOr t kind
bars_or t m rows r e (Share hold end by key) x y fits part local under goes_on = absurd (local_not_remote (side_of t.w) local x.side)
bars_or t m rows r e (Bar j need key) x y fits part local under goes_on = inl (need, λ i. Bar (x.number_is i) need (x.key_is i))
bars_or t m rows r e (Gone by key) x y fits part local under goes_on = absurd (cc)
bars_or t m rows r e (Order j peer deadline need key) x y fits part local under goes_on = absurd (local_not_remote (side_of t.w) local x.side)
bars_or t m rows r e (Gain by size key) x y fits part local under goes_on =
    let gets : t.w.part ≡ Gets = only_word t.w.part x.peer x.start size (subst (Fits t.w.part) x.phase_is fits) in
    absurd (let no_part : Gets ≡ Drops = sym gets ∙ part in cc)
bars_or t m rows r e (ends_job j outcome) x y fits part local under goes_on = absurd (goes_on j outcome refl)
bars_or t m rows r e (Talk (Some j)) x y fits part local under goes_on = elim (y.under part) [
  | inl fresh ↦ absurd (local_not_remote (side_of t.w) local (y.first part fresh).side)
  | inr u ↦ inr (u, λ key was. refl)
]
bars_or t m rows r e (Fault call by) x y fits part local under goes_on = inr (fault_under r t.w e.time call local under, λ key was. refl)
bars_or t m rows r e kind x y fits part local under goes_on = absurd x

-- a drop that is under way was one
under_drop : (part : Part) (old : Phase) (to : Part) (phase : Phase) → GoodTo part old to phase → to ≡ Drops → under_way phase ≡ true → part ≡ Drops
under_drop Drops old to phase g is under = refl
under_drop Gets old Drops phase g is under = absurd (let no_way : under_way Fresh ≡ true = subst (λ p. under_way p ≡ true) g under in cc)
under_drop Puts old Drops phase g is under = absurd (let no_way : under_way Fresh ≡ true = subst (λ p. under_way p ≡ true) g under in cc)
under_drop Gets old Gets phase g is under = absurd (cc)
under_drop Gets old Puts phase g is under = absurd (cc)
under_drop Puts old Gets phase g is under = absurd (cc)
under_drop Puts old Puts phase g is under = absurd (cc)

-- ---- the entries of others of its repository

bar_free : (s : SetUp) (past : List Entry) (words : ℕ → Option Word) (e : Entry) → OwnPart s past words e → (j : ℕ) (need : Need) (key : List ℕ) → e.kind ≡ Bar j need key → bar past s.number key ≡ None
bar_free s past words e own j need key is = elim (own.does) [
  | inl x ↦ (let y = bar_found s (state_of s past) x.look x.made x.makes j need key (sym (ap (λ (z : Entry). z.kind) x.is) ∙ is) in subst (λ k. bar past s.number k ≡ None) (sym y.found.key_is) y.found.free)
  | inr x ↦ absurd (subst (MayCome s (state_of s past) e.lines e.sent) is x.may)
]

-- a removal finds no bar, or is by the drop whose bar it is
gone_bar : (s : SetUp) (past : List Entry) (words : ℕ → Option Word) (e : Entry) → OwnPart s past words e → ((w : Work) → Member w (works past s.number) → Barring s.number past w)
    → (by : By) (key : List ℕ) → e.kind ≡ Gone by key → (bar past s.number key ≡ None) ⊎ ((j : ℕ) × (by ≡ by_job j) × (bar past s.number key ≡ Some j))
gone_bar s past words e own barring by key is = elim (own.does) [
  | inl x ↦ step x
  | inr x ↦ absurd (come by (subst (MayCome s (state_of s past) e.lines e.sent) is x.may))
]
  where
    come : (by : By) → MayCome s (state_of s past) e.lines e.sent (Gone by key) → ⊥
    come by x = x

    step : IsStep s past words e → (bar past s.number key ≡ None) ⊎ ((j : ℕ) × (by ≡ by_job j) × (bar past s.number key ≡ Some j))
    step x = elim (kind_found s (state_of s past) x.look x.made (Gone by key) x.makes (sym (ap (λ (z : Entry). z.kind) x.is) ∙ is) (λ h. h)) [
      | inl y ↦ inl y.found.free
      | inr y ↦ (let w = y.by.w in
          let runs = (find_member (λ v. v.slot == y.by.slot) (works past s.number) w y.by.runs).0 in
          let bars : bar past s.number w.what.key ≡ Some w.number = barring w runs y.found.part_is y.found.side (subst (λ p. under_way p ≡ true) (sym y.found.next) refl) in
          inr (w.number, y.found.by_is, subst (λ k. bar past s.number k ≡ Some w.number) (sym y.found.key_is) bars))
    ]

stays_bar : (s : SetUp) (past : List Entry) (words : ℕ → Option Word) (e : Entry) → OwnPart s past words e → ((w : Work) → Member w (works past s.number) → Barring s.number past w)
    → (w : Work) → Stays s past e w → bar past s.number w.what.key ≡ Some w.number → (kind : EntryKind) → e.kind ≡ kind → bar_after w.what.key (Some w.number) kind ≡ Some w.number
stays_bar s past words e own barring w stays bars (Bar j need key) is =
    if_either (λ (b : Option ℕ). b ≡ Some w.number) (bytes_eq key w.what.key) (Some j) (Some w.number)
    (λ same. let none : bar past s.number w.what.key ≡ None = subst (λ k. bar past s.number k ≡ None) (bytes_eq-true key w.what.key same) (bar_free s past words e own j need key is) in
    let both : Some w.number ≡ None = sym bars ∙ none in absurd (cc))
    (λ same. refl)
stays_bar s past words e own barring w stays bars (Gone by key) is =
    if_either (λ (b : Option ℕ). b ≡ Some w.number) (bytes_eq key w.what.key) None (Some w.number)
    (λ same. absurd (go (bytes_eq-true key w.what.key same) (gone_bar s past words e own barring by key is)))
    (λ same. refl)
  where
    go : key ≡ w.what.key → (bar past s.number key ≡ None) ⊎ ((j : ℕ) × (by ≡ by_job j) × (bar past s.number key ≡ Some j)) → ⊥
    go same (inl none) = let both : Some w.number ≡ None = sym bars ∙ ap (bar past s.number) (sym same) ∙ none in cc
    go same (inr mine) =
        let both : Some w.number ≡ Some mine.0 = sym bars ∙ ap (bar past s.number) (sym same) ∙ mine.2 in
        let number : mine.0 ≡ w.number = cc in
        let still : is_step w.number (Gone by key) ≡ false = subst (λ k. is_step w.number k ≡ false) is stays.still in
        eqb-false mine.0 w.number (subst (λ b. is_step w.number (Gone b key) ≡ false) mine.1 still) number
stays_bar s past words e own barring w stays bars (ends_job job outcome) is =
    if_either (λ (b : Option ℕ). b ≡ Some w.number) (w.number == job) None (Some w.number)
    (λ same. let number : w.number ≡ job = grind (arith, nat_tests) in absurd (stays.goes_on outcome (is ∙ ap (λ n. ends_job n outcome) (sym number))))
    (λ same. refl)
stays_bar s past words e own barring w stays bars (Crash clock) is = absurd (stays.no_crash clock is)
stays_bar s past words e own barring w stays bars kind is = refl

-- ---- the invariant

-- a local drop that is under way has its bar, on its key
pub bars_stand : (s : SetUp) (past : List Entry) → OwnRun s past → (w : Work) → Member w (works past s.number) → Barring s.number past w
bars_stand s past run w m =
    invariant s (Barring s.number) (λ p e is x n was part local under. rw is (was part local under)) own past run w m
  where
    own : (p : List Entry) (e : Entry) → OwnRun s (e ∷ p) → is_of s.number e ≡ true → ((x : Work) → Member x (works p s.number) → Barring s.number p x)
        → (x : Work) → Origin s p e x → Barring s.number (e ∷ p) x
    own p e r is was x (inl b) part local under = absurd (let no_way : under_way Fresh ≡ true = subst (λ (y : Work). under_way y.phase ≡ true) b.work_is under in cc)
    own p e r is was x (inr (inl b)) part local under =
        let mine = r.0 is in
        let bars = was x b.ran part local under in
        rw is (ap (λ o. bar_after x.what.key o e.kind) bars ∙ stays_bar s p mine.0 e mine.1 was x b bars e.kind refl)
    own p e r is was x (inr (inr b)) part local under =
        let v = b.by.w in
        let fits = works_fit s p r.1 v (step_runs s p e x b) in
        let v_part : v.part ≡ Drops = under_drop v.part v.phase x.part x.phase (steps_good s p e x b fits) part under in
        let same : running_job x ≡ running_job v = ap running_job b.work_is ∙ kind_kept (rows_at p s.number) s.number v e e.kind in
        let what : x.what ≡ v.what = ap (λ (j : RunningJob). j.what) same in
        let number : x.number ≡ v.number = ap (λ (j : RunningJob). j.number) same in
        let v_local : side_of v ≡ Local = subst (λ (q : Job). Jobs.drop_side q.kind q.peer ≡ Local) what local in
        let after : under_way (work_kind (rows_at p s.number) s.number v e e.kind).phase ≡ true = subst (λ (y : Work). under_way y.phase ≡ true) b.work_is under in
        let ways = bars_or (turn_at s p e b.by) b.by.made (rows_at p s.number) s.number e e.kind (step_kind s p e x b) (step_talk s p e x b fits) fits v_part v_local after b.goes_on in
        let stands : bar_after v.what.key (bar p s.number v.what.key) e.kind ≡ Some v.number = bar_by p e v ways (λ u. was v (step_runs s p e x b) v_part v_local u) in
        rw is (subst (λ (q : Job). bar_after q.key (bar p s.number q.key) e.kind ≡ Some x.number) (sym what) (subst (λ n. bar_after v.what.key (bar p s.number v.what.key) e.kind ≡ Some n) (sym number) stands))
      where
        bar_by : (p : List Entry) (e : Entry) (v : Work)
            → ((need : Need) × (e.kind ≡ Bar v.number need v.what.key)) ⊎ ((under_way v.phase ≡ true) × ((key : List ℕ) (was : Option ℕ) → bar_after key was e.kind ≡ was))
            → (under_way v.phase ≡ true → bar p s.number v.what.key ≡ Some v.number) → bar_after v.what.key (bar p s.number v.what.key) e.kind ≡ Some v.number
        bar_by p e v (inl puts) was = ap (bar_after v.what.key (bar p s.number v.what.key)) puts.1 ∙ rw (bytes_eq-refl v.what.key) refl
        bar_by p e v (inr keeps) was = keeps.1 v.what.key (bar p s.number v.what.key) ∙ was keeps.0

-- a removal by a job stands under the job's bar
pub removal_barred : (s : SetUp) (past : List Entry) (words : ℕ → Option Word) (e : Entry) → OwnRun s past → OwnPart s past words e → (j : ℕ) (key : List ℕ) → e.kind ≡ Gone (by_job j) key
    → bar past s.number key ≡ Some j
removal_barred s past words e run own j key is = elim (own.does) [
  | inl x ↦ step x
  | inr x ↦ absurd (subst (MayCome s (state_of s past) e.lines e.sent) is x.may)
]
  where
    step : IsStep s past words e → bar past s.number key ≡ Some j
    step x =
        let y = removes_found s (state_of s past) x.look x.made x.makes j key (sym (ap (λ (z : Entry). z.kind) x.is) ∙ is) in
        let w = y.by.w in
        let runs = (find_member (λ v. v.slot == y.by.slot) (works past s.number) w y.by.runs).0 in
        let bars : bar past s.number w.what.key ≡ Some w.number = bars_stand s past run w runs y.found.part_is y.found.side (subst (λ p. under_way p ≡ true) (sym y.found.next) refl) in
        let both : by_job j ≡ by_job w.number = y.found.by_is in
        let number : w.number ≡ j = cc in
        subst (λ k. bar past s.number k ≡ Some j) (sym y.found.key_is) (bars ∙ ap Some number)
