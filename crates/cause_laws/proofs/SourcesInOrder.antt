-- A get has the causes of the first of its sources, in order.
use Rattle.std.proofs.Common.{◌≡◌, ℕ, true, List, [], ◌∷◌, Option, Some, None, inl, inr, refl, sym, ap, ◌∙◌, subst, ◌++◌}
use Rattle.std.specs.Prelude.{length, map, slice_get, take}
use Rattle.annex_base.specs.Lists.{Member}
use Rattle.run_data.specs.declared.entry.Entry.{Entry}
use Rattle.run_model.specs.Past.{is_of}
use Rattle.node_model.specs.SetUp.{SetUp}
use Rattle.node_model.specs.Jobs.{Drops, Gets, Part, Phase, Puts, Work, partner, work_kind}
use Rattle.run_model.specs.States.{rows_at, works}
use Rattle.run_model.specs.Run.{OwnPast, OwnRun}
use Rattle.run_model.specs.Causes.{sources_of}
use Rattle.cause_laws.proofs.ClosedFound.{SourcesInOrder, sources_same}
use Rattle.job_facts.proofs.PhaseFacts.{Good, GoodTo}
use Rattle.step_facts.proofs.JobKept.{kind_kept}
use Rattle.step_facts.proofs.JobSteps.{Origin, Steps, invariant, turn_at}
use Rattle.job_facts.proofs.WorkFits.{step_runs, works_fit, steps_good}
use Rattle.run_data.specs.declared.job.SourceFailure.{SourceFailure}
use Rattle.node_model.specs.Slots.{RunningJob}
use Rattle.job_facts.proofs.TalkFacts.{Fits}
use Rattle.dialogue_facts.proofs.JobMoves.{Moves, kind_moves}
use Rattle.dialogue_facts.proofs.TransfersSpeak.{Place, Transfers, transfers_tell}

-- ---- the first of its sources, in order

abbrev head_or : ℕ → List ℕ → ℕ
head_or d [] = d
head_or d (x ∷ xs) = x

abbrev tail_of : List ℕ → List ℕ
tail_of [] = []
tail_of (x ∷ xs) = xs

one_more : (all : List ℕ) (xs : List SourceFailure) (x : SourceFailure) → map (λ (y : SourceFailure). y.repo) xs ≡ take (length xs) all → slice_get all (length xs) ≡ Some x.repo
    → map (λ (y : SourceFailure). y.repo) (xs ++ x ∷ []) ≡ take (length (xs ++ x ∷ [])) all
one_more [] [] x is at = absurd (cc)
one_more (a ∷ all) [] x is at = let same : a ≡ x.repo = cc in ap (λ n. n ∷ []) (sym same)
one_more [] (y ∷ ys) x is at = absurd (cc)
one_more (a ∷ all) (y ∷ ys) x is at =
    let same : y.repo ≡ a = ap (head_or 0) is in
    let rest = one_more all ys x (ap tail_of is) at in
    (λ i. same i ∷ rest i)

abbrev All : SetUp → Option ℕ → List ℕ
All s target = sources_of s.number (length s.repos) target

pub record InOrder (s : SetUp) (target : Option ℕ) (part : Part) (phase : Phase) (causes : List SourceFailure) : Type 0 where
  pub listed : map (λ (x : SourceFailure). x.repo) causes ≡ take (length causes) (All s target)
  pub asked : part ≡ Gets → (p : ℕ) → partner target phase ≡ Some p → slice_get (All s target) (length causes) ≡ Some p

abbrev InOrderOf : SetUp → Work → Type 0
InOrderOf s w = InOrder s w.what.peer w.part w.phase w.causes

gets_was : (part : Part) (old phase : Phase) → GoodTo part old Gets phase → (part ≡ Gets) × Fits Gets phase
gets_was Gets old phase g = (refl, g.0)
gets_was Puts old phase g = absurd g
gets_was Drops old phase g = absurd g

module _ (s : SetUp) (past : List Entry) (e : Entry) (run : OwnRun s past) (x : Work) (b : Steps s past e x) (was : InOrderOf s b.by.w) where
  abbrev v : Work
  v = b.by.w

  abbrev y : Work
  y = work_kind (rows_at past s.number) s.number b.by.w e e.kind

  fit : Fits v.part v.phase
  fit = works_fit s past run v (step_runs s past e x b)

  moves : Moves v.what.peer v e.sent y
  moves = kind_moves (rows_at past s.number) s.number v e fit e.kind

  good : GoodTo v.part v.phase y.part y.phase
  good = subst (Good v) b.work_is (steps_good s past e x b fit)

  now_listed : map (λ (z : SourceFailure). z.repo) y.causes ≡ take (length y.causes) (All s v.what.peer)
  now_listed = elim (moves.causes) [
    | inl same ↦ subst (λ (cs : List SourceFailure). map (λ (z : SourceFailure). z.repo) cs ≡ take (length cs) (All s v.what.peer)) (sym same) was.listed
    | inr g ↦ subst (λ (cs : List SourceFailure). map (λ (z : SourceFailure). z.repo) cs ≡ take (length cs) (All s v.what.peer)) (sym g.list)
        (one_more (All s v.what.peer) v.causes (record { repo = g.peer; cause = g.cause }) was.listed (was.asked g.part_is g.peer g.on))
  ]

  at_place : v.part ≡ Gets → (p : ℕ) → Place (turn_at s past e b.by) p → slice_get (All s v.what.peer) (length v.causes) ≡ Some p
  at_place part p (inl on) = was.asked part p on
  at_place part p (inr (inl next)) = ap (λ xs. slice_get xs (length v.causes)) (sym (sources_same (turn_at s past e b.by) v.what.peer)) ∙ next
  at_place part p (inr (inr copy)) = absurd (let both : Gets ≡ Puts = sym part ∙ copy.0 in cc)

  now_asked : y.part ≡ Gets → (p : ℕ) → partner v.what.peer y.phase ≡ Some p → slice_get (All s v.what.peer) (length y.causes) ≡ Some p
  now_asked part p on = elim (moves.causes) [
    | inl same ↦ ap (λ (cs : List SourceFailure). slice_get (All s v.what.peer) (length cs)) same ∙ old
    | inr g ↦ absurd (let bad : None ≡ Some p = sym (ap (partner v.what.peer) g.next) ∙ on in cc)
  ]
    where
      g' : (v.part ≡ Gets) × Fits Gets y.phase
      g' = gets_was v.part v.phase y.phase (subst (λ q. GoodTo v.part v.phase q y.phase) part good)

      old : slice_get (All s v.what.peer) (length v.causes) ≡ Some p
      old = elim (moves.place (inl g'.1) p on) [
        | inl o ↦ was.asked g'.0 p o
        | inr z ↦ at_place g'.0 p (subst (Place (turn_at s past e b.by)) z.2 (transfers_tell s past e b.by (subst Transfers (sym g'.0) tt) b.goes_on z.0 z.1))
      ]

  step_in_order : InOrderOf s x
  step_in_order = subst (InOrderOf s) (sym b.work_is) (subst (λ (j : RunningJob). InOrder s j.what.peer y.part y.phase y.causes) (sym (kind_kept (rows_at past s.number) s.number v e e.kind)) (record { listed = now_listed; asked = now_asked }))

in_order : (s : SetUp) (past : List Entry) → OwnRun s past → (w : Work) → Member w (works past s.number) → InOrderOf s w
in_order s past run w m = invariant s (λ p x. InOrderOf s x) (λ p e is x n was. was) own past run w m
  where
    own : (p : List Entry) (e : Entry) → OwnRun s (e ∷ p) → is_of s.number e ≡ true → ((x : Work) → Member x (works p s.number) → InOrderOf s x) → (x : Work) → Origin s p e x → InOrderOf s x
    own p e r is was x (inl b) = subst (InOrderOf s) (sym b.work_is) (record { listed = refl; asked = λ part q on. absurd (let bad : None ≡ Some q = on in cc) })
    own p e r is was x (inr (inl b)) = was x b.ran
    own p e r is was x (inr (inr b)) = step_in_order s p e r.1 x b (was b.by.w (step_runs s p e x b))

-- **SourcesInOrder**, by own parts alone
pub sources_in_order : (s : SetUp) (past : List Entry) → OwnPast s past → SourcesInOrder s past
sources_in_order s past h w m at = (in_order s past h.run w m).listed
