-- A copy stands on its own peer's connection alone.
use Rattle.std.proofs.Common.{◌≡◌, ℕ, true, List, [], ◌∷◌, Option, Some, None, inl, inr, refl, sym, ap, ◌∙◌, subst, zero, suc}
use Rattle.std.specs.Prelude.{length, slice_get}
use Rattle.annex_base.specs.Lists.{Member}
use Rattle.run_data.specs.declared.entry.Entry.{Entry}
use Rattle.run_data.specs.declared.job.JobKind.{JobKind}
use Rattle.run_data.specs.declared.job.JobKind.TheVariants as kinds
use Rattle.run_model.specs.Causes.{is_put}
use Rattle.run_model.specs.Past.{is_of}
use Rattle.run_model.specs.Run.{OwnRun}
use Rattle.run_model.specs.States.{rows_at, works}
use Rattle.node_model.specs.AnyTime.{IsPeer}
use Rattle.node_model.specs.Jobs.{Drops, Gets, Part, Phase, Puts, Work, partner, work_kind}
use Rattle.node_model.specs.SetUp.{SetUp}
use Rattle.node_model.specs.Slots.{RunningJob}
use Rattle.node_model.specs.TransferStep.{sources}
use Rattle.job_facts.proofs.Aims.{aims}
use Rattle.dialogue_facts.proofs.FreshSteps.{of_kind}
use Rattle.step_facts.proofs.JobKept.{kind_kept}
use Rattle.dialogue_facts.proofs.JobMoves.{Moves, kind_moves}
use Rattle.step_facts.proofs.JobSteps.{Origin, Steps, invariant, turn_at}
use Rattle.job_facts.proofs.PhaseFacts.{Good, GoodTo}
use Rattle.job_facts.proofs.TalkFacts.{Fits}
use Rattle.dialogue_facts.proofs.TransfersSpeak.{Place, Transfers, transfers_tell}
use Rattle.job_facts.proofs.WorkFits.{step_runs, steps_good, works_fit}

-- the peer on whose connection a copy stands is the one that it was begun with
abbrev InPlace : Part → Option ℕ → Phase → Type 0
InPlace part peer phase = part ≡ Puts → (p : ℕ) → partner peer phase ≡ Some p → peer ≡ Some p

puts_good : (part : Part) (old phase : Phase) → GoodTo part old Puts phase → (part ≡ Puts) × Fits Puts phase
puts_good Puts old phase g = (refl, g.0)
puts_good Gets old phase g = absurd g
puts_good Drops old phase g = absurd g

-- a copy has a peer
copy_peer : (s : SetUp) (kind : JobKind) (peer : Option ℕ) → IsPeer s kind peer → is_put kind ≡ true → (p : ℕ) × (peer ≡ Some p)
copy_peer s kind (Some p) is copies = (p, refl)
copy_peer s kinds.Copy None is copies = absurd (cc)
copy_peer s kinds.MoveTo None is copies = absurd (cc)
copy_peer s kinds.Get None is copies = absurd (cc)
copy_peer s kinds.MoveFrom None is copies = absurd (cc)
copy_peer s kinds.Drop None is copies = absurd (cc)

-- the only one of one
only_one : (peer n p : ℕ) → slice_get (peer ∷ []) n ≡ Some p → Some peer ≡ Some p
only_one peer zero p at = at
only_one peer (suc n) p at = absurd (cc)

module _ (s : SetUp) (past : List Entry) (e : Entry) (run : OwnRun s past) (x : Work) (b : Steps s past e x) (was : InPlace b.by.w.part b.by.w.what.peer b.by.w.phase) where
  abbrev v : Work
  v = b.by.w

  abbrev y : Work
  y = work_kind (rows_at past s.number) s.number b.by.w e e.kind

  at_place : v.part ≡ Puts → (p : ℕ) → Place (turn_at s past e b.by) p → v.what.peer ≡ Some p
  at_place part p (inl on) = was part p on
  at_place part p (inr (inl next)) =
      let q = copy_peer s v.what.kind v.what.peer (aims s past run v (step_runs s past e x b)).0 ((of_kind s past run v (step_runs s past e x b)).1 part) in
      q.1 ∙ only_one q.0 (length v.causes) p (ap (λ o. slice_get (sources (turn_at s past e b.by) o) (length v.causes)) (sym q.1) ∙ next)
  at_place part p (inr (inr copy)) = copy.1

  now_in_place : InPlace y.part v.what.peer y.phase
  now_in_place part p on =
      let good : GoodTo v.part v.phase y.part y.phase = subst (Good v) b.work_is (steps_good s past e x b (works_fit s past run v (step_runs s past e x b))) in
      let copy = puts_good v.part v.phase y.phase (subst (λ q. GoodTo v.part v.phase q y.phase) part good) in
      let moves : Moves v.what.peer v e.sent y = kind_moves (rows_at past s.number) s.number v e (works_fit s past run v (step_runs s past e x b)) e.kind in
      elim (moves.place (inr copy.1) p on) [
        | inl o ↦ was copy.0 p o
        | inr z ↦ at_place copy.0 p (subst (Place (turn_at s past e b.by)) z.2 (transfers_tell s past e b.by (subst Transfers (sym copy.0) tt) b.goes_on z.0 z.1))
      ]

  step_in_place : InPlace x.part x.what.peer x.phase
  step_in_place = subst (λ (z : Work). InPlace z.part z.what.peer z.phase) (sym b.work_is) (subst (λ (j : RunningJob). InPlace y.part j.what.peer y.phase) (sym (kind_kept (rows_at past s.number) s.number v e e.kind)) now_in_place)

-- **a copy stands on its own peer's connection**
pub copies_in_place : (s : SetUp) (past : List Entry) → OwnRun s past → (w : Work) → Member w (works past s.number) → w.part ≡ Puts → (p : ℕ) → partner w.what.peer w.phase ≡ Some p → w.what.peer ≡ Some p
copies_in_place s past run w m = invariant s (λ p x. InPlace x.part x.what.peer x.phase) (λ p e is x n was. was) own past run w m
  where
    own : (p : List Entry) (e : Entry) → OwnRun s (e ∷ p) → is_of s.number e ≡ true → ((x : Work) → Member x (works p s.number) → InPlace x.part x.what.peer x.phase) → (x : Work) → Origin s p e x → InPlace x.part x.what.peer x.phase
    own p e r is was x (inl b) = λ part q on. absurd (let bad : None ≡ Some q = sym (ap (λ (y : Work). partner y.what.peer y.phase) b.work_is) ∙ on in cc)
    own p e r is was x (inr (inl b)) = was x b.ran
    own p e r is was x (inr (inr b)) = step_in_place s p e r.1 x b (was b.by.w (step_runs s p e x b))
