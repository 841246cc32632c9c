-- Where a job needs room.
use Rattle.std.proofs.Common.{◌≡◌, ◌≢◌, ℕ, Bool, true, false, [], ◌∷◌, Option, Some, None, refl}
use Rattle.std.specs.Prelude.{if◌then◌else◌, option_to_list}
use Rattle.annex_base.specs.declared.kinds.Word.{Word}
use Rattle.annex_base.specs.declared.kinds.Word.TheVariants.{Absent}
use Rattle.drop_proof.specs.declared.rule.Side.{Side}
use Rattle.drop_proof.specs.declared.rule.Side.TheVariants.{Local, Remote}
use Rattle.run_data.specs.declared.job.Proof.{Proof}
use Rattle.node_model.specs.DropStep.{expiry, first_end, removal_outcome, target}
use Rattle.node_model.specs.JobStep.{Turn, end_needs, locked_peers}
use Rattle.node_model.specs.Jobs.{side_of}
use Rattle.node_model.specs.Knows.{obeyed_outcome, proof_by}
use Rattle.node_model.specs.Rows.{is_lost_ordered}
use Rattle.node_model.specs.Turns.{judge_needs, needs, next_needs, outcome_of, peer_needs}
use Rattle.step_judging.specs.Rules.{is_nil}
use Rattle.state_jobs.specs.Phases.{part_of, phase_of}
use Rattle.state_jobs.specs.declared.phase.Ending.{Ending}
use Rattle.state_jobs.specs.declared.phase.Part.{Part}
use Rattle.state_jobs.specs.declared.phase.Part.TheVariants as parts
use Rattle.state_jobs.specs.declared.phase.Phase.{Phase}
use Rattle.state_jobs.specs.declared.phase.Phase.TheVariants as phases

-- one peer or none
pub nil_if : (b : Bool) (p : ℕ) → b ≡ is_nil (if b then [] else p ∷ [])
nil_if true p = refl
nil_if false p = refl

-- a drop that lacks evidence asks its next candidate, or ends
pub lacking_needs : (t : Turn) (next : Option ℕ) (side : Side) → (if is_nil (option_to_list next) then is_nil (locked_peers t) else false) ≡ is_nil (judge_needs t false next side)
lacking_needs t None side = refl
lacking_needs t (Some p) side = refl

-- a get or a copy goes on where its first step goes
pub transfer_needs : (t : Turn) (p : Part) → p ≢ parts.Drops → peer_needs t (part_of p) ≡ next_needs t (part_of p)
transfer_needs t parts.Gets other = refl
transfer_needs t parts.Puts other = refl
transfer_needs t parts.Drops other = absurd (other refl)

pub ending_needs : (t : Turn) (p : Phase) → (p ≡ phases.Fresh → ⊥) → (p ≡ phases.Next → ⊥) → ((peer start at left : ℕ) → p ≡ phases.PutsBytes peer start at left → ⊥) → ((peer start : ℕ) → p ≡ phases.PutsWord peer start → ⊥)
    → end_needs t (outcome_of t (phase_of p)) ≡ needs t (phase_of p)
ending_needs t phases.Fresh a b c d = absurd (a refl)
ending_needs t phases.Next a b c d = absurd (b refl)
ending_needs t (phases.PutsBytes peer start at left) a b c d = absurd (c peer start at left refl)
ending_needs t (phases.PutsWord peer start) a b c d = absurd (d peer start refl)
ending_needs t p a b c d = refl

-- ---- no other end has lost the answer to an order

obeyed_kept : (w : Option Word) (p : Proof) → false ≡ is_lost_ordered (obeyed_outcome w p)
obeyed_kept (Some Absent) p = refl
obeyed_kept w p = refl

removal_kept : (t : Turn) (side : Side) → false ≡ is_lost_ordered (removal_outcome side t)
removal_kept t Local = obeyed_kept None (proof_by t.read t.w)
removal_kept t Remote = obeyed_kept (t.look.words (target t)) (proof_by t.read t.w)

expiry_kept : (clock : ℕ) (end : Option ℕ) → false ≡ is_lost_ordered (expiry clock end)
expiry_kept clock None = refl
expiry_kept clock (Some end) = refl

pub end_kept : (t : Turn) (p : Phase) → ((e : Ending) → p ≡ phases.Ends e → ⊥) → false ≡ is_lost_ordered (outcome_of t (phase_of p))
end_kept t phases.Removed other = removal_kept t (side_of t.w)
end_kept t (phases.Late time) other = expiry_kept (t.clock time) (first_end t)
end_kept t (phases.Ends e) other = absurd (other e refl)
end_kept t p other = refl
