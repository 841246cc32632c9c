-- What the ends of a local drop state: its evidence, and why candidates gave none.
use Rattle.std.proofs.Common.{◌≡◌, List, [], None, Result, ap}
use Rattle.annex_base.specs.declared.memory.NoMemory.{NoMemory}
use Rattle.drop_proof.specs.declared.evidence.Evidence.{Evidence}
use Rattle.drop_proof.specs.declared.rule.Side.TheVariants.{Local}
use Rattle.run_data.specs.declared.job.CandidateCause.{CandidateCause}
use Rattle.run_data.specs.declared.job.DropRefusal.TheVariants as refusals
use Rattle.run_data.specs.declared.job.Outcome.{Outcome}
use Rattle.run_data.specs.declared.job.Outcome.TheVariants.{Dropped, Refused}
use Rattle.run_data.specs.declared.job.Proof.{Proof}
use Rattle.node_model.specs.Evidence.{failures, proof_of}
use Rattle.node_model.specs.Jobs.{drop_side}
use Rattle.node_model.specs.JobStep.{ends}
use Rattle.node_model.specs.DropStep.{lacking_outcome}
use Rattle.node_model.specs.Look.{failed_in}
use Rattle.content_lock.specs.Rows.{Rows}
use Rattle.drop_phases.specs.declared.phase.Phase.TheVariants as phases
use Rattle.drop_phases.specs.declared.turn.Output.{Output}
use Rattle.drop_phases.specs.Worker.{Worker}
use Rattle.drop_phases.specs.Working.{Sight, present_in, turn_in}
use Rattle.drop_judging.specs.Judging.{cause_at, evidence_of, offer_of, others_in}
use Rattle.drop_phases.specs.Leaving.{ActsOver, Did, GoesSo, Store}
use Rattle.drop_phases.proofs.Doings.{does_as}
use Rattle.drop_judging.proofs.Evidences.{dropped_is, lacks_is}
use Rattle.drop_phases.proofs.Leavings.{did_as, goes_did}

module _ (x : Sight) (rows rows' : Rows) (k : Store) (w w' : Worker) (r : Result Output NoMemory) (items : List Evidence) (proof : Proof) (local : drop_side w.job.kind w.job.peer ≡ Local)
    (is : items ≡ evidence_of Local x.read w (others_in x.read) []) (proves : proof ≡ proof_of x.read.count x.read.need items) where
  pub lacks_did : (causes : List CandidateCause) → causes ≡ failures (offer_of x.read w) (cause_at x.read w) (others_in x.read)
      → Did rows rows' k k w w' (ActsOver x k.contents rows rows' w w' (λ t. ends t None (Refused (refusals.Lacking proof causes)))) r
      → Did rows rows' k k w w' (ActsOver x k.contents rows rows' w w' (λ t. ends t None (lacking_outcome t))) r
  lacks_did causes told d =
      did_as rows rows' k k w w' (ActsOver x k.contents rows rows' w w' (λ t. ends t None (Refused (refusals.Lacking proof causes)))) (ActsOver x k.contents rows rows' w w' (λ t. ends t None (lacking_outcome t))) r d
      (λ out acts c here. does_as x rows rows' (present_in c) w w' None (λ t. ends t None (Refused (refusals.Lacking proof causes))) (λ t. ends t None (lacking_outcome t)) out (acts c here)
      (λ rest. ap (λ (o : Outcome). ends (turn_in x rows (present_in c) (failed_in out.kind) rest w) None o) (lacks_is x rows (present_in c) (failed_in out.kind) rest w items local is proof proves causes told)))

  pub dropped_did : w.phase ≡ phases.Removed → Did rows rows' k k w w' (ActsOver x k.contents rows rows' w w' (λ t. ends t None (Dropped proof))) r → Did rows rows' k k w w' (GoesSo x k.contents rows rows' w w') r
  dropped_did at d =
      goes_did x rows rows' k k w w' phases.Removed (λ t. ends t None (Dropped proof)) r at
      (λ p fails rest. ap (λ (o : Outcome). ends (turn_in x rows p fails rest w) None o) (dropped_is x rows p fails rest w items local is proof proves)) d
