-- The ends on which a job's step may send more than a Close are the same for any two looks of one time.
use Rattle.std.proofs.Common.{◌≡◌, ℕ, Bool, false, [], Option, Some, refl, sym, ap, ◌∙◌}
use Rattle.std.specs.Prelude.{if◌then◌else◌}
use Rattle.annex_base.specs.declared.kinds.Call.{Call}
use Rattle.annex_base.specs.declared.kinds.Word.{Word}
use Rattle.annex_base.specs.declared.kinds.Word.TheVariants as words
use Rattle.drop_proof.specs.declared.rule.Side.{Side}
use Rattle.drop_proof.specs.declared.rule.Side.TheVariants.{Local, Remote}
use Rattle.run_data.specs.declared.job.Proof.{Proof}
use Rattle.node_model.specs.DropStep.{removal_outcome, target}
use Rattle.node_model.specs.Jobs.{Drops, Gets, Next, Part, Phase, Puts, Removed, Work, side_of}
use Rattle.node_model.specs.JobStep.{Turn, locked_peers, turn_of}
use Rattle.node_model.specs.Knows.{obeyed_outcome, proof_by}
use Rattle.node_model.specs.Look.{Look}
use Rattle.node_model.specs.Rows.{is_lost_ordered}
use Rattle.node_model.specs.SetUp.{SetUp}
use Rattle.node_model.specs.State.{State}
use Rattle.node_model.specs.Turns.{needs, next_needs}

obeyed_found : (o : Option Word) (proof : Proof) → is_lost_ordered (obeyed_outcome o proof) ≡ false
obeyed_found (Some words.Absent) proof = refl
obeyed_found o proof = refl

-- an order that was answered isn't lost, whatever the word beside it
pub removed_found : (t : Turn) (side : Side) → is_lost_ordered (removal_outcome side t) ≡ false
removed_found t Local = refl
removed_found t Remote = obeyed_found (t.look.words (target t)) (proof_by t.read t.w)

module _ (s : SetUp) (st : State) (k : Look) (fails : Option Call) (part : ℕ) (right : Bool) (others : ℕ → Option Word) (w : Work) where
  abbrev t0 : Turn
  t0 = turn_of s st k w

  abbrev t1 : Turn
  t1 = turn_of s st (record k { fails = fails; part = part; right = right; words = others }) w

  next_needed : (part : Part) → next_needs t0 part ≡ next_needs t1 part
  next_needed Drops = refl
  next_needed Gets = refl
  next_needed Puts = refl

  pub needed : (phase : Phase) → needs t0 phase ≡ needs t1 phase
  needed Removed = ap (λ (b : Bool). if b then [] else locked_peers t0) (removed_found t0 (side_of w) ∙ sym (removed_found t1 (side_of w)))
  needed Next = next_needed w.part
  needed phase = refl
