-- What a step of a remote drop does from where the job stands.
use Rattle.std.proofs.Common.{◌≡◌, ℕ, Bool, true, false, List, Option, Some, None, Result, Ok, Err, refl, sym, ap, ◌∙◌}
use Rattle.std.specs.Prelude.{find, IfOk, OnErr}
use Rattle.annex_base.specs.declared.kinds.Call.{Call}
use Rattle.annex_base.specs.declared.memory.NoMemory.{NoMemory}
use Rattle.drop_proof.specs.declared.evidence.Evidence.{Evidence}
use Rattle.drop_proof.specs.declared.rule.Need.{Need}
use Rattle.drop_proof.specs.declared.rule.Side.TheVariants.{Remote}
use Rattle.drop_proof.specs.Judging.{is_enough}
use Rattle.run_data.specs.declared.job.DropRefusal.TheVariants as refusals
use Rattle.run_data.specs.declared.job.Outcome.{Outcome}
use Rattle.run_data.specs.declared.job.Outcome.TheVariants.{Refused}
use Rattle.node_model.specs.DropStep.{first_drop, first_remote, lacking_outcome}
use Rattle.node_model.specs.Ends.{End, EndName}
use Rattle.node_model.specs.JobStep.{Turn, ends}
use Rattle.node_model.specs.Knows.{Reading}
use Rattle.node_model.specs.Requests.{goes_to}
use Rattle.node_model.specs.Turns.{goes, outcome_of}
use Rattle.node_model.specs.Look.{failed_in}
use Rattle.content_lock.specs.Rows.{Rows}
use Rattle.content_lock.specs.Stored.{Agrees}
use Rattle.drop_phases.specs.declared.phase.Phase.{Phase}
use Rattle.drop_phases.specs.declared.phase.Phase.TheVariants as phases
use Rattle.drop_phases.specs.declared.turn.Output.{Output}
use Rattle.drop_phases.specs.Worker.{Worker}
use Rattle.drop_phases.specs.Working.{Rest, Sight, phase_as, present_in, sight, turn_in}
use Rattle.drop_phases.specs.Doing.{Acts, HasToken}
use Rattle.drop_judging.specs.Judging.{asks_of}
use Rattle.drop_phases.specs.Leaving.{GoesSo, Store}
use Rattle.drop_phases.specs.Feeding.{HasNoBar}
use Rattle.remote_requests.specs.Remote.{DidRemote, EndsSo, IsRemote, Speaks, known_remotely, remote_candidates}
use Rattle.drop_phases.specs.Begun.{IsToEnd}
use Rattle.drop_phases.proofs.Doings.{does_as}
use Rattle.remote_requests.proofs.RemoteLeavings.{remote_did_as, spoken_did}
use Rattle.remote_requests.proofs.RemoteVerdicts.{asks_next, lacks_next, orders_by}

-- a job that is to end goes on to its end
pub ending_goes : (t : Turn) (ph : Phase) → IsToEnd ph → ends t None (outcome_of t (phase_as ph)) ≡ goes t (phase_as ph)
ending_goes t phases.Removed to = refl
ending_goes t phases.Denied to = refl
ending_goes t (phases.Late time) to = refl
ending_goes t (phases.Ends why) to = refl
ending_goes t phases.Fresh to = absurd to
ending_goes t phases.Next to = absurd to
ending_goes t (phases.Opens peer) to = absurd to
ending_goes t (phases.Greets peer) to = absurd to
ending_goes t (phases.AsksLock peer since) to = absurd to
ending_goes t (phases.AsksLook peer) to = absurd to
ending_goes t phases.AsksTime to = absurd to
ending_goes t phases.Orders to = absurd to

-- a job whose target requires the content ends at its first step
pub required_goes : (x : Sight) (rows : Rows) (p : List ℕ → Bool) (fails : Option Call) (rest : Rest) (w : Worker) (target : ℕ) (text : List ℕ) → IsRemote target w → w.phase ≡ phases.Fresh → x.read.requires ≡ Some text
    → ends (turn_in x rows p fails rest w) None (Refused (refusals.Required text)) ≡ goes (turn_in x rows p fails rest w) (phase_as w.phase)
required_goes x rows p fails rest w target text remote fresh needs =
    let t = turn_in x rows p fails rest w in
    sym (ap (λ (ph : Phase). goes t (phase_as ph)) fresh ∙ (ap (first_drop t) remote.side ∙ ap (first_remote t) needs))

module _ (read : Reading) (ends_at : EndName → End) (time number : ℕ) (w w' : Worker) where
  abbrev turn : Rows → (List ℕ → Bool) → Option Call → Rest → Turn
  turn rows p fails rest = turn_in (sight read ends_at time number) rows p fails rest w

  -- it goes to a peer
  went_did : (rows : Rows) (k : Store) (peer : ℕ) (r : Result Output NoMemory) → ((p : List ℕ → Bool) (fails : Option Call) (rest : Rest) → goes_to (turn rows p fails rest) peer ≡ goes (turn rows p fails rest) (phase_as w.phase))
      → IfOk r (λ out. (rs : Rows) → Acts read ends_at time rs rs w w' (λ t. goes_to t peer) out) → IfOk r (Speaks w w') → OnErr r (w' ≡ w) → HasNoBar w.token
      → HasToken w.number w.job.key w.token rows → Agrees k.records rows.holds → DidRemote rows rows k k w w' (GoesSo (sight read ends_at time number) k.contents rows rows w w') r
  went_did rows k peer r step does speaks err bare own agrees =
      spoken_did rows k w w' (GoesSo (sight read ends_at time number) k.contents rows rows w w') r (go r does) speaks err bare own agrees
    where
      go : (r : Result Output NoMemory) → IfOk r (λ out. (rs : Rows) → Acts read ends_at time rs rs w w' (λ t. goes_to t peer) out) → IfOk r (GoesSo (sight read ends_at time number) k.contents rows rows w w')
      go (Ok out) d = λ c told.
          does_as (sight read ends_at time number) rows rows (present_in c) w w' None (λ t. goes_to t peer) (λ t. goes t t.w.phase) out (d rows number (present_in c)) (λ rest. step (present_in c) (failed_in out.kind) rest)
      go (Err e) d = tt

  -- it ends so
  pub ended_goes : (rows rows' : Rows) (k k' : Store) (outcome : Outcome) (r : Result Output NoMemory) → ((p : List ℕ → Bool) (fails : Option Call) (rest : Rest) → ends (turn rows p fails rest) None outcome ≡ goes (turn rows p fails rest) (phase_as w.phase))
      → DidRemote rows rows' k k' w w' (EndsSo read ends_at time rows rows' w w' outcome) r → DidRemote rows rows' k k' w w' (GoesSo (sight read ends_at time number) k.contents rows rows' w w') r
  ended_goes rows rows' k k' outcome r step d =
      remote_did_as rows rows' k k' w w' (EndsSo read ends_at time rows rows' w w' outcome) (GoesSo (sight read ends_at time number) k.contents rows rows' w w') r d
      (λ out e c told. does_as (sight read ends_at time number) rows rows' (present_in c) w w' None (λ t. ends t None outcome) (λ t. goes t t.w.phase) out (e number (present_in c) None) (λ rest. step (present_in c) (failed_in out.kind) rest))

  -- it was to end
  pub outcome_goes : (rows rows' : Rows) (k k' : Store) (outcome : Outcome) (r : Result Output NoMemory) → IsToEnd w.phase
      → ((time number : ℕ) (rs : Rows) (p : List ℕ → Bool) (fails : Option Call) (rest : Rest) → outcome ≡ outcome_of (turn_in (sight read ends_at time number) rs p fails rest w) (phase_as w.phase))
      → DidRemote rows rows' k k' w w' (EndsSo read ends_at time rows rows' w w' outcome) r → DidRemote rows rows' k k' w w' (GoesSo (sight read ends_at time number) k.contents rows rows' w w') r
  outcome_goes rows rows' k k' outcome r to is d =
      ended_goes rows rows' k k' outcome r (λ p fails rest. ap (ends (turn rows p fails rest) None) (is time number rows p fails rest) ∙ ending_goes (turn rows p fails rest) w.phase to) d

  -- its target requires the content
  pub required_did : (rows rows' : Rows) (k k' : Store) (target : ℕ) (text : List ℕ) (r : Result Output NoMemory) → IsRemote target w → w.phase ≡ phases.Fresh → read.requires ≡ Some text
      → DidRemote rows rows' k k' w w' (EndsSo read ends_at time rows rows' w w' (Refused (refusals.Required text))) r → DidRemote rows rows' k k' w w' (GoesSo (sight read ends_at time number) k.contents rows rows' w w') r
  required_did rows rows' k k' target text r remote fresh needs d =
      ended_goes rows rows' k k' (Refused (refusals.Required text)) r (λ p fails rest. required_goes (sight read ends_at time number) rows p fails rest w target text remote fresh needs) d

  -- ---- by the judgement

  module _ (target : ℕ) (remote : IsRemote target w) (at : w.phase ≡ phases.Next) (need : Need) (items : List Evidence) (needs : need ≡ read.need) (is : items ≡ known_remotely read target w) where
    next_goes : (t : Turn) → goes t (phase_as phases.Next) ≡ goes t (phase_as w.phase)
    next_goes t = ap (λ (ph : Phase). goes t (phase_as ph)) (sym at)

    pub orders_did : (rows : Rows) (k : Store) (r : Result Output NoMemory) → is_enough Remote need items ≡ true
        → IfOk r (λ out. (rs : Rows) → Acts read ends_at time rs rs w w' (λ t. goes_to t target) out) → IfOk r (Speaks w w') → OnErr r (w' ≡ w) → HasNoBar w.token
        → HasToken w.number w.job.key w.token rows → Agrees k.records rows.holds → DidRemote rows rows k k w w' (GoesSo (sight read ends_at time number) k.contents rows rows w w') r
    orders_did rows k r enough =
        went_did rows k target r (λ p fails rest. orders_by (sight read ends_at time number) rows p fails rest w need items target remote needs is enough ∙ next_goes (turn rows p fails rest))

    pub asks_did : (rows : Rows) (k : Store) (peer : ℕ) (r : Result Output NoMemory) → is_enough Remote need items ≡ false → find (asks_of read w) (remote_candidates read target) ≡ Some peer
        → IfOk r (λ out. (rs : Rows) → Acts read ends_at time rs rs w w' (λ t. goes_to t peer) out) → IfOk r (Speaks w w') → OnErr r (w' ≡ w) → HasNoBar w.token
        → HasToken w.number w.job.key w.token rows → Agrees k.records rows.holds → DidRemote rows rows k k w w' (GoesSo (sight read ends_at time number) k.contents rows rows w w') r
    asks_did rows k peer r lacks found =
        went_did rows k peer r (λ p fails rest. asks_next (sight read ends_at time number) rows p fails rest w need items target remote needs is peer lacks found ∙ next_goes (turn rows p fails rest))

    pub lacks_did_remotely : (rows rows' : Rows) (k k' : Store) (outcome : Outcome) (r : Result Output NoMemory) → is_enough Remote need items ≡ false → find (asks_of read w) (remote_candidates read target) ≡ None
        → ((time number : ℕ) (rs : Rows) (p : List ℕ → Bool) (fails : Option Call) (rest : Rest) → outcome ≡ lacking_outcome (turn_in (sight read ends_at time number) rs p fails rest w))
        → DidRemote rows rows' k k' w w' (EndsSo read ends_at time rows rows' w w' outcome) r → DidRemote rows rows' k k' w w' (GoesSo (sight read ends_at time number) k.contents rows rows' w w') r
    lacks_did_remotely rows rows' k k' outcome r lacks none told d =
        ended_goes rows rows' k k' outcome r
        (λ p fails rest. ap (ends (turn rows p fails rest) None) (told time number rows p fails rest)
        ∙ (lacks_next (sight read ends_at time number) rows p fails rest w need items target remote needs is lacks none ∙ next_goes (turn rows p fails rest))) d
