-- The steps of a copy that take no frame.
use Rattle.std.proofs.Common.{◌≡◌, ℕ, Bool, true, false, List, [], ◌∷◌, Option, Some, None, refl, sym, subst}
use Rattle.std.specs.Prelude.{is_some}
use Rattle.annex_base.proofs.Conditions.{by_test}
use Rattle.std.specs.Option.{ForSome}
use Rattle.annex_base.specs.declared.kinds.Call.{Call}
use Rattle.annex_base.specs.declared.kinds.Call.TheVariants as calls
use Rattle.run_data.specs.declared.entry.By.TheVariants.{Job as by_job}
use Rattle.run_data.specs.declared.entry.EntryKind.TheVariants.{End, Fault}
use Rattle.run_data.specs.declared.entry.FrameText.TheVariants.{Opening}
use Rattle.run_data.specs.declared.job.Outcome.{Outcome}
use Rattle.run_data.specs.declared.job.Outcome.TheVariants.{TransferRefused}
use Rattle.run_data.specs.declared.job.TransferRefusal.TheVariants as failures
use Rattle.p2p_wire.specs.declared.message.Message.TheVariants as messages
use Rattle.object_store.specs.Calls.{FailsAsTold}
use Rattle.object_store.specs.Stores.{Contents}
use Rattle.node_model.specs.Jobs.{partner}
use Rattle.node_model.specs.JobStep.{Turn, attempts, ends, owns_share, says_to, sends_to, talk}
use Rattle.node_model.specs.Turns.{goes}
use Rattle.content_lock.specs.CallsMade.{MakesCalls}
use Rattle.content_lock.specs.Rows.{Rows}
use Rattle.session_state.proofs.Calling.{makes_failed, makes_none}
use Rattle.drop_phases.specs.Doing.{HasToken}
use Rattle.drop_phases.specs.declared.phase.Token.TheVariants as tokens
use Rattle.transfer_turns.specs.declared.parcels.Output.{Output}
use Rattle.transfer_turns.specs.declared.parcels.ParcelBody.TheVariants as bodies
use Rattle.transfer_turns.specs.Parcels.{SendsView, end_in}
use Rattle.transfer_turns.specs.Partners.{IsOther, StaysApart}
use Rattle.transfer_turns.specs.Steps.{LeavesBut, Seen}
use Rattle.transfer_turns.specs.Turns.{ArePartings, Sight, output_of, step_at, turn_in}
use Rattle.transfer_turns.proofs.Actings.{acts_ending, acts_failing, acts_sending}
use Rattle.transfer_turns.proofs.Makings.{end_calls, no_share}
use Rattle.transfer_turns.proofs.Partners.{apart_with}
use Rattle.transfer_turns.proofs.Pieces.{pieces_none}
use Rattle.transfer_turns.proofs.Works.{after_opening, after_request}
use Rattle.put_steps.specs.declared.phase.Ending.{Ending}
use Rattle.put_steps.specs.declared.phase.Ending.TheVariants as endings
use Rattle.put_steps.specs.declared.phase.Phase.{Phase}
use Rattle.put_steps.specs.declared.phase.Phase.TheVariants as phases
use Rattle.put_steps.specs.declared.putting.Putting.{Putting}
use Rattle.put_steps.specs.Puts.{outcome_of, phase_of, work_of}
use Rattle.put_steps.specs.Putting.{SeesNoPart}
use Rattle.put_steps.specs.Stepping.{GoesTo, Offers, Told, message_to}
use Rattle.put_steps.proofs.Keeping.{Did, at_phase, asks_so, ended_did, end_keeps, failed_did, fault_keeps, nothing, talk_keeps, told_did}

-- ---- the first step

-- it talks with the peer that its job names
to_peer : (x : Sight) (w : Putting) (peer : ℕ) → w.job.peer ≡ Some peer → (next : Phase) → partner w.job.peer (phase_of next) ≡ Some peer → StaysApart x (work_of w) (work_of (record w { phase = next }))
to_peer x w peer to next with_peer = apart_with x (work_of w) (work_of (record w { phase = next })) peer with_peer (λ named. subst (λ (o : Option ℕ). IsOther x o) to named)

pub offers_first : (x : Sight) (rows : Rows) (k k' : Seen) (w w' : Putting) (peer : ℕ) (out : Output) → w.phase ≡ phases.Fresh → w.job.peer ≡ Some peer → ForSome k.contents (λ c. true ≡ is_some (c w.job.key))
    → LeavesBut None k k' → MakesCalls (calls.Has ∷ []) None k.failing k'.failing → (x.ends (end_in w.slot peer)).opened ≡ true → Offers w w' peer out → Did x None rows k k' w w' out
offers_first x rows k k' w w' peer out is to here but made live offers =
    let v = at_phase w phases.Fresh in
    let t = λ (c : Contents) (part : ℕ) (right : Bool) (rest : Turn). turn_in x rows c part right None rest (work_of v) in
    told_did x None rows k k' w w' _ _ w.version out phases.Fresh is offers.told (
      acts_sending x rows k k' (work_of v) (work_of (record v { phase = phases.Offer peer })) SeesNoPart (refl {a = None}) peer (bodies.Message (messages.Put [] w.job.key)) false
          (λ c told part right z rest.
          let u = t c part right rest in
          asks_so k k' (step_at None None u) (attempts u (calls.Has ∷ []) None (says_to u (talk u) None peer (messages.Put [] w.job.key))) None (rw (← here c told, to, live) refl) made)
          (λ c part right rest. sym (after_request (t c part right rest) refl peer (messages.Put [] w.job.key) offers.line.0)),
      talk_keeps x rows k k' v (phases.Offer peer) w.version (message_to peer (messages.Put [] w.job.key)) false but refl (tt, tt) (to_peer x v peer to (phases.Offer peer) refl) (λ stays. refl),
    )

pub opens_first : (x : Sight) (rows : Rows) (k k' : Seen) (w w' : Putting) (peer : ℕ) (out : Output) → w.phase ≡ phases.Fresh → w.job.peer ≡ Some peer → ForSome k.contents (λ c. true ≡ is_some (c w.job.key))
    → LeavesBut None k k' → MakesCalls (calls.Has ∷ []) None k.failing k'.failing → (x.ends (end_in w.slot peer)).opened ≡ false
    → Told w w' (record { peer = peer; body = bodies.Open } ∷ []) (phases.Opens peer) w.version out → Did x None rows k k' w w' out
opens_first x rows k k' w w' peer out is to here but made shut told =
    let v = at_phase w phases.Fresh in
    let t = λ (c : Contents) (part : ℕ) (right : Bool) (rest : Turn). turn_in x rows c part right None rest (work_of v) in
    told_did x None rows k k' w w' _ _ w.version out phases.Fresh is told (
      acts_sending x rows k k' (work_of v) (work_of (record v { phase = phases.Opens peer })) SeesNoPart (refl {a = None}) peer bodies.Open false
          (λ c known part right z rest.
          let u = t c part right rest in
          asks_so k k' (step_at None None u) (attempts u (calls.Has ∷ []) None (sends_to u (talk u) None peer (Opening ∷ []))) None (rw (← here c known, to, shut) refl) made)
          (λ c part right rest. sym (after_opening (t c part right rest) refl peer)),
      talk_keeps x rows k k' v (phases.Opens peer) w.version (record { peer = peer; body = bodies.Open } ∷ []) false but refl (tt, tt) (to_peer x v peer to (phases.Opens peer) refl) (λ stays. refl),
    )

pub begins_to : (x : Sight) (rows : Rows) (k k' : Seen) (w w' : Putting) (peer : ℕ) (out : Output) → w.phase ≡ phases.Fresh → w.job.peer ≡ Some peer → ForSome k.contents (λ c. true ≡ is_some (c w.job.key))
    → LeavesBut None k k' → MakesCalls (calls.Has ∷ []) None k.failing k'.failing → GoesTo x peer w w' out → Did x None rows k k' w w' out
begins_to x rows k k' w w' peer out is to here but made goes =
    by_test (x.ends (end_in w.slot peer)).opened (λ live. offers_first x rows k k' w w' peer out is to here but made live (goes.0 live)) (λ shut. opens_first x rows k k' w w' peer out is to here but made shut (goes.1 shut))

-- it couldn't look
pub look_failed : (x : Sight) (rows : Rows) (k k' : Seen) (w w' : Putting) (out : Output) → w.phase ≡ phases.Fresh → FailsAsTold calls.Has k.failing k'.failing true → LeavesBut (Some calls.Has) k k'
    → out ≡ output_of (Fault calls.Has (by_job w.number)) [] false → w' ≡ record w { phase = phases.Ends endings.StoreFault } → Did x None rows k k' w w' out
look_failed x rows k k' w w' out is had but says next =
    let v = at_phase w phases.Fresh in
    failed_did x None rows k k' w w' calls.Has out phases.Fresh is says next (
      acts_failing x rows k k' (work_of v) (work_of (record v { phase = phases.Ends endings.StoreFault })) SeesNoPart (refl {a = None}) calls.Has false
          (λ c told part right z rest. record { told = refl; calls = makes_failed calls.Has _ k.failing k'.failing had }) tt (λ r time. refl) refl,
      fault_keeps x rows k k' v calls.Has but,
    )

-- ---- the end

-- a call that went well, and no more
ends_behind : (t : Turn) (outcome : Outcome) (call : Call) (k k' : Seen) → owns_share t ≡ false → MakesCalls (call ∷ []) None k.failing k'.failing → MakesCalls (call ∷ (ends t None outcome).calls) None k.failing k'.failing
ends_behind t outcome call k k' bare made = subst (λ (cs : List Call). MakesCalls (call ∷ cs) None k.failing k'.failing) (sym (end_calls t outcome bare)) made

pub not_here : (x : Sight) (rows : Rows) (k k' : Seen) (w : Putting) (sends : SendsView) → w.phase ≡ phases.Fresh → HasToken w.number w.job.key tokens.Nothing rows → ArePartings x w.slot sends.items
    → ForSome k.contents (λ c. false ≡ is_some (c w.job.key)) → LeavesBut None k k' → MakesCalls (calls.Has ∷ []) None k.failing k'.failing
    → Did x None rows k k' w w (record { kind = End w.number (TransferRefused failures.NotHere); sends = sends; ended = true })
not_here x rows k k' w sends is own sent absent but made =
    let v = at_phase w phases.Fresh in
    let t = λ (c : Contents) (part : ℕ) (right : Bool) (rest : Turn). turn_in x rows c part right None rest (work_of v) in
    ended_did x None rows k k' w (TransferRefused failures.NotHere) sends phases.Fresh is (
      acts_ending x rows k k' (work_of v) (work_of v) SeesNoPart (refl {a = None}) (TransferRefused failures.NotHere) sends own refl sent.frames
          (λ c told part right z rest.
          let u = t c part right rest in
          asks_so k k' (step_at None None u) (attempts u (calls.Has ∷ []) None (ends u None (TransferRefused failures.NotHere))) None (rw (← absent c told) refl)
          (ends_behind u (TransferRefused failures.NotHere) calls.Has k k' (no_share u rows refl own) made)),
      end_keeps x rows k k' v (TransferRefused failures.NotHere) sends but (pieces_none k.contents (work_of v) sends.items sent.pieces),
    )

pub ends_so : (x : Sight) (rows : Rows) (k : Seen) (w : Putting) (why : Ending) (sends : SendsView) → w.phase ≡ phases.Ends why → HasToken w.number w.job.key tokens.Nothing rows → ArePartings x w.slot sends.items
    → Did x None rows k k w w (record { kind = End w.number (outcome_of why); sends = sends; ended = true })
ends_so x rows k w why sends is own sent =
    let v = at_phase w (phases.Ends why) in
    let t = λ (c : Contents) (part : ℕ) (right : Bool) (rest : Turn). turn_in x rows c part right None rest (work_of v) in
    ended_did x None rows k k w (outcome_of why) sends (phases.Ends why) is (
      acts_ending x rows k k (work_of v) (work_of v) SeesNoPart (refl {a = None}) (outcome_of why) sends own refl sent.frames
          (λ c told part right z rest.
          let u = t c part right rest in
          asks_so k k (step_at None None u) (ends u None (outcome_of why)) None refl
          (subst (λ (cs : List Call). MakesCalls cs None k.failing k.failing) (sym (end_calls u (outcome_of why) (no_share u rows refl own))) (makes_none k.failing k.failing refl))),
      end_keeps x rows k k v (outcome_of why) sends (nothing k) (pieces_none k.contents (work_of v) sends.items sent.pieces),
    )
