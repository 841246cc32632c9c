-- The steps of a job that awaits a frame, by what it makes of the frame.
use Rattle.std.proofs.Common.{◌≡◌, ℕ, Bool, List, [], ◌∷◌, length, Option, Some, None, refl, sym, ap, subst, ◌∙◌}
use Rattle.std.specs.declared.alloc.Global.{Global}
use Rattle.std.specs.declared.vec.Vec.{Vec}
use Rattle.annex_base.specs.declared.kinds.Call.{Call}
use Rattle.run_data.specs.declared.entry.By.TheVariants.{Job as by_job}
use Rattle.run_data.specs.declared.entry.EntryKind.TheVariants.{Fault, Gain, Talk}
use Rattle.run_data.specs.declared.entry.FrameView.{FrameView}
use Rattle.run_data.specs.declared.job.Outcome.TheVariants.{TransferRefused}
use Rattle.run_data.specs.declared.job.TransferRefusal.TheVariants as failures
use Rattle.p2p_wire.specs.declared.message.Message.{Message}
use Rattle.p2p_wire.specs.Messages.{message_of, text_of}
use Rattle.object_store.specs.Stores.{Contents}
use Rattle.node_model.specs.Jobs
use Rattle.node_model.specs.Jobs.{Work, after_gain, after_line, closed_part, fault_of, fault_phase, gets_bytes, learns, partner, says, side_of, to_phase, version_said}
use Rattle.node_model.specs.JobStep.{Turn, by_me, hears, quietly, says_to, talk, wrong_message}
use Rattle.node_model.specs.Look.{Effect, as_told}
use Rattle.node_model.specs.Sessions.{line_in}
use Rattle.node_model.specs.TransferStep.{takes_bytes}
use Rattle.node_model.specs.Turns.{takes}
use Rattle.content_lock.specs.CallsMade.{MakesCalls}
use Rattle.content_lock.specs.Rows.{Rows}
use Rattle.session_state.specs.declared.incoming.Incoming.TheVariants as incoming
use Rattle.session_state.specs.Talking.{Brings}
use Rattle.session_state.proofs.Calling.{makes_none}
use Rattle.drop_phases.proofs.Takings.{Lined}
use Rattle.transfer_turns.specs.declared.parcels.ParcelBody.TheVariants as bodies
use Rattle.transfer_turns.specs.Steps.{Seen, StepsIn}
use Rattle.transfer_turns.specs.Turns.{Sight, awaited, output_of, turn_in}
use Rattle.transfer_turns.proofs.Frames.{Unread, bad_step, bytes_are, bytes_step, closing_is, closing_step, lined, message_step, opening_is, opening_step, unread}
use Rattle.transfer_turns.proofs.Makings.{asks_as, fault_makes, quiet_makes, sends_makes, steps_closed, steps_frame}
use Rattle.transfer_turns.proofs.Works.{IsTransfer, after_bytes_heard, after_closed_here, after_closing, after_fault, after_line_heard, after_line_said, after_wrong, learns_nothing}

-- this is asked, but for the calls that are made first, of which this one failed, if one did
pub record Asks (asked made : Effect) (failed : Option Call) (k k' : Seen) : Type 0 where
  pub told : as_told asked ≡ made
  pub calls : MakesCalls asked.calls failed k.failing k'.failing

-- no call is made
pub asks_only : (made : Effect) (k : Seen) → made.calls ≡ [] → Asks made (as_told made) None k k
asks_only made k none = record { told = refl; calls = subst (λ (cs : List Call). MakesCalls cs None k.failing k.failing) (sym none) (makes_none k.failing k.failing refl) }

module _ (x : Sight) (rows : Rows) (k k' : Seen) (v v' : Work) (sees : ℕ → Bool → Type 0) (peer : ℕ) (awaits : awaited v ≡ Some peer) (with_peer : partner v.what.peer v.phase ≡ Some peer) where
  abbrev turn : Option Call → Contents → ℕ → Bool → Turn → Turn
  turn fails c part right rest = turn_in x rows c part right fails rest v

  -- in each turn that has what the step reads, with each frame, this is asked
  abbrev EachAsks : Option Call → (Turn → FrameView → Effect) → (Turn → FrameView → Effect) → Type 0
  EachAsks failed asked made = (c : Contents) → k.contents ≡ Some c → (part : ℕ) (right : Bool) → sees part right → (rest : Turn) (f : FrameView) → Asks (asked (turn failed c part right rest) f) (made (turn failed c part right rest) f) failed k k'

  -- ---- a message

  module _ (m : Message) (n : ℕ) (learn : (f : FrameView) → Lined f.body m → learns v v.phase (Some f) ≡ record v { version = n }) where
    -- it is heard, and nothing is said
    pub heard_steps : (ended : Bool) → EachAsks None (λ t f. takes t f peer v.phase m) (λ t f. hears t f) → v' ≡ after_line (record v { version = n }) (Some m)
        → StepsIn x rows k k' v v' (Some (incoming.Message m)) sees (output_of (Talk (Some v.number)) [] ended)
    heard_steps ended is next =
        steps_frame x rows k k' v v' sees (output_of (Talk (Some v.number)) [] ended) peer (incoming.Message m) awaits
        (λ f at live brings c told part right rest s.
        let t = turn None c part right rest in
        let l : Lined f.body m = lined f.body m brings in
        let a = is c told part right s rest f in
        asks_as x k k' v v' (Some f) t _ _ (output_of (Talk (Some v.number)) [] ended) (message_step t f peer m brings)
        (quiet_makes t k k' v' (Some f) (takes t f peer v.phase m) ended a.told (next ∙ sym (after_line_heard t f peer n (learn f l) with_peer m l live)) a.calls))

    -- it is answered
    pub said_steps : (said : Message) (ended : Bool) → EachAsks None (λ t f. takes t f peer v.phase m) (λ t f. says_to t (talk t) (Some f) peer said) → message_of (text_of said) ≡ Some said
        → ((time : ℕ) → v' ≡ says (record v { version = n }) time peer (Some m) said)
        → StepsIn x rows k k' v v' (Some (incoming.Message m)) sees (output_of (Talk (Some v.number)) (record { peer = peer; body = bodies.Message said } ∷ []) ended)
    said_steps said ended is reads next =
        steps_frame x rows k k' v v' sees (output_of (Talk (Some v.number)) (record { peer = peer; body = bodies.Message said } ∷ []) ended) peer (incoming.Message m) awaits
        (λ f at live brings c told part right rest s.
        let t = turn None c part right rest in
        let l : Lined f.body m = lined f.body m brings in
        let a = is c told part right s rest f in
        asks_as x k k' v v' (Some f) t _ _ (output_of (Talk (Some v.number)) (record { peer = peer; body = bodies.Message said } ∷ []) ended) (message_step t f peer m brings)
        (sends_makes t k k' v' (Some f) (Talk (Some v.number)) peer (bodies.Message said) (takes t f peer v.phase m) ended a.told (next rest.look.time ∙ sym (after_line_said t f peer n (learn f l) with_peer m said l live reads)) a.calls))

    -- it isn't permitted, and closes the connection
    pub shut_steps : (ended : Bool) → EachAsks None (λ t f. takes t f peer v.phase m) (λ t f. wrong_message t f peer) → v' ≡ closed_part x.repo (record v { version = n }) peer v.part
        → StepsIn x rows k k' v v' (Some (incoming.Message m)) sees (output_of (Talk (Some v.number)) (record { peer = peer; body = bodies.Close } ∷ []) ended)
    shut_steps ended is next =
        steps_frame x rows k k' v v' sees (output_of (Talk (Some v.number)) (record { peer = peer; body = bodies.Close } ∷ []) ended) peer (incoming.Message m) awaits
        (λ f at live brings c told part right rest s.
        let t = turn None c part right rest in
        let l : Lined f.body m = lined f.body m brings in
        let a = is c told part right s rest f in
        asks_as x k k' v v' (Some f) t _ _ (output_of (Talk (Some v.number)) (record { peer = peer; body = bodies.Close } ∷ []) ended) (message_step t f peer m brings)
        (sends_makes t k k' v' (Some f) (Talk (Some v.number)) peer bodies.Close (takes t f peer v.phase m) ended a.told (next ∙ sym (after_wrong t f peer n (learn f l) with_peer)) a.calls))

  -- a call of the store fails
  pub failed_steps : (m : Message) (call : Call) (ended : Bool) → EachAsks (Some call) (λ t f. takes t f peer v.phase m) (λ t f. quietly (Fault call (by_me t)) (Some f)) → IsTransfer v.part
      → ((r time : ℕ) → fault_of r v time call ≡ fault_phase r v v.part (side_of v) v.phase) → v' ≡ to_phase v (Jobs.Ends (TransferRefused failures.StoreFault))
      → StepsIn x rows k k' v v' (Some (incoming.Message m)) sees (output_of (Fault call (by_job v.number)) [] ended)
  failed_steps m call ended is transfers moves next =
      steps_frame x rows k k' v v' sees (output_of (Fault call (by_job v.number)) [] ended) peer (incoming.Message m) awaits
      (λ f at live brings c told part right rest s.
      let t = turn (Some call) c part right rest in
      let a = is c told part right s rest f in
      asks_as x k k' v v' (Some f) t _ _ (output_of (Fault call (by_job v.number)) [] ended) (message_step t f peer m brings)
      (fault_makes t k k' v' (Some f) call (takes t f peer v.phase m) ended a.told (next ∙ sym (moves x.repo rest.look.time ∙ after_fault x.repo v transfers)) a.calls))

  -- the content has come, and the peer is told so
  pub gained_steps : (m said : Message) (size : ℕ) (key : List ℕ) (ended : Bool)
      → EachAsks None (λ t f. takes t f peer v.phase m) (λ t f. says_to t (Gain (by_me t) size key) (Some f) peer said) → v' ≡ after_gain v v.phase
      → StepsIn x rows k k' v v' (Some (incoming.Message m)) sees (output_of (Gain (by_job v.number) size key) (record { peer = peer; body = bodies.Message said } ∷ []) ended)
  gained_steps m said size key ended is next =
      steps_frame x rows k k' v v' sees (output_of (Gain (by_job v.number) size key) (record { peer = peer; body = bodies.Message said } ∷ []) ended) peer (incoming.Message m) awaits
      (λ f at live brings c told part right rest s.
      let t = turn None c part right rest in
      let a = is c told part right s rest f in
      asks_as x k k' v v' (Some f) t _ _ (output_of (Gain (by_job v.number) size key) (record { peer = peer; body = bodies.Message said } ∷ []) ended) (message_step t f peer m brings)
      (sends_makes t k k' v' (Some f) (Gain (by_job v.number) size key) peer (bodies.Message said) (takes t f peer v.phase m) ended a.told next a.calls))

  -- ---- bytes

  nothing_said : (f : FrameView) (bytes : Vec ℕ Global) → Brings f.body (incoming.Bytes bytes) → learns v v.phase (Some f) ≡ v
  nothing_said f bytes b = learns_nothing v v.phase f (ap (λ body. version_said v.version (line_in body)) (bytes_are f.body bytes b))

  -- they are taken
  pub taken_steps : (bytes : Vec ℕ Global) (ended : Bool) → EachAsks None (λ t f. takes_bytes t f peer (length bytes.items) v.phase) (λ t f. hears t f) → v' ≡ to_phase v (gets_bytes (length bytes.items) v.phase)
      → StepsIn x rows k k' v v' (Some (incoming.Bytes bytes)) sees (output_of (Talk (Some v.number)) [] ended)
  taken_steps bytes ended is next =
      steps_frame x rows k k' v v' sees (output_of (Talk (Some v.number)) [] ended) peer (incoming.Bytes bytes) awaits
      (λ f at live brings c told part right rest s.
      let t = turn None c part right rest in
      let a = is c told part right s rest f in
      asks_as x k k' v v' (Some f) t _ _ (output_of (Talk (Some v.number)) [] ended) (bytes_step t f peer bytes brings)
      (quiet_makes t k k' v' (Some f) (takes_bytes t f peer (length bytes.items) v.phase) ended a.told
      (next ∙ sym (after_bytes_heard t f peer v.version (nothing_said f bytes brings) with_peer (length bytes.items) (bytes_are f.body bytes brings) live)) a.calls))

  -- they aren't permitted
  pub bytes_shut_steps : (bytes : Vec ℕ Global) (ended : Bool) → EachAsks None (λ t f. takes_bytes t f peer (length bytes.items) v.phase) (λ t f. wrong_message t f peer) → v' ≡ closed_part x.repo v peer v.part
      → StepsIn x rows k k' v v' (Some (incoming.Bytes bytes)) sees (output_of (Talk (Some v.number)) (record { peer = peer; body = bodies.Close } ∷ []) ended)
  bytes_shut_steps bytes ended is next =
      steps_frame x rows k k' v v' sees (output_of (Talk (Some v.number)) (record { peer = peer; body = bodies.Close } ∷ []) ended) peer (incoming.Bytes bytes) awaits
      (λ f at live brings c told part right rest s.
      let t = turn None c part right rest in
      let a = is c told part right s rest f in
      asks_as x k k' v v' (Some f) t _ _ (output_of (Talk (Some v.number)) (record { peer = peer; body = bodies.Close } ∷ []) ended) (bytes_step t f peer bytes brings)
      (sends_makes t k k' v' (Some f) (Talk (Some v.number)) peer bodies.Close (takes_bytes t f peer (length bytes.items) v.phase) ended a.told
      (next ∙ sym (after_wrong t f peer v.version (nothing_said f bytes brings) with_peer)) a.calls))

  -- a call of the store fails
  pub bytes_failed_steps : (bytes : Vec ℕ Global) (call : Call) (ended : Bool) → EachAsks (Some call) (λ t f. takes_bytes t f peer (length bytes.items) v.phase) (λ t f. quietly (Fault call (by_me t)) (Some f)) → IsTransfer v.part
      → ((r time : ℕ) → fault_of r v time call ≡ fault_phase r v v.part (side_of v) v.phase) → v' ≡ to_phase v (Jobs.Ends (TransferRefused failures.StoreFault))
      → StepsIn x rows k k' v v' (Some (incoming.Bytes bytes)) sees (output_of (Fault call (by_job v.number)) [] ended)
  bytes_failed_steps bytes call ended is transfers moves next =
      steps_frame x rows k k' v v' sees (output_of (Fault call (by_job v.number)) [] ended) peer (incoming.Bytes bytes) awaits
      (λ f at live brings c told part right rest s.
      let t = turn (Some call) c part right rest in
      let a = is c told part right s rest f in
      asks_as x k k' v v' (Some f) t _ _ (output_of (Fault call (by_job v.number)) [] ended) (bytes_step t f peer bytes brings)
      (fault_makes t k k' v' (Some f) call (takes_bytes t f peer (length bytes.items) v.phase) ended a.told (next ∙ sym (moves x.repo rest.look.time ∙ after_fault x.repo v transfers)) a.calls))

-- ---- without a call of the store

module _ (x : Sight) (rows : Rows) (k : Seen) (v v' : Work) (sees : ℕ → Bool → Type 0) (peer : ℕ) (awaits : awaited v ≡ Some peer) (with_peer : partner v.what.peer v.phase ≡ Some peer) (next : v' ≡ closed_part x.repo v peer v.part) where
  -- an opening, or a line that is no message
  pub opening_steps : (ended : Bool) → StepsIn x rows k k v v' (Some incoming.Opening) sees (output_of (Talk (Some v.number)) (record { peer = peer; body = bodies.Close } ∷ []) ended)
  opening_steps ended =
      steps_frame x rows k k v v' sees (output_of (Talk (Some v.number)) (record { peer = peer; body = bodies.Close } ∷ []) ended) peer incoming.Opening awaits
      (λ f at live brings c told part right rest s.
      let t = turn_in x rows c part right None rest v in
      let learn : learns v v.phase (Some f) ≡ v = learns_nothing v v.phase f (ap (λ body. version_said v.version (line_in body)) (opening_is f.body brings)) in
      asks_as x k k v v' (Some f) t _ _ (output_of (Talk (Some v.number)) (record { peer = peer; body = bodies.Close } ∷ []) ended) (opening_step t f peer brings)
      (sends_makes t k k v' (Some f) (Talk (Some v.number)) peer bodies.Close (wrong_message t f peer) ended refl (next ∙ sym (after_wrong t f peer v.version learn with_peer)) (makes_none k.failing k.failing refl)))

  bad_learns : (f : FrameView) → Unread f.body → learns v v.phase (Some f) ≡ v
  bad_learns f u = learns_nothing v v.phase f (ap (λ body. version_said v.version (line_in body)) u.is ∙ ap (version_said v.version) u.reads)

  pub bad_steps : (ended : Bool) → StepsIn x rows k k v v' (Some incoming.Bad) sees (output_of (Talk (Some v.number)) (record { peer = peer; body = bodies.Close } ∷ []) ended)
  bad_steps ended =
      steps_frame x rows k k v v' sees (output_of (Talk (Some v.number)) (record { peer = peer; body = bodies.Close } ∷ []) ended) peer incoming.Bad awaits
      (λ f at live brings c told part right rest s.
      let t = turn_in x rows c part right None rest v in
      asks_as x k k v v' (Some f) t _ _ (output_of (Talk (Some v.number)) (record { peer = peer; body = bodies.Close } ∷ []) ended) (bad_step t f peer brings)
      (sends_makes t k k v' (Some f) (Talk (Some v.number)) peer bodies.Close (wrong_message t f peer) ended refl (next ∙ sym (after_wrong t f peer v.version (bad_learns f (unread f.body brings)) with_peer)) (makes_none k.failing k.failing refl)))

  -- the peer closes the connection
  pub closing_steps : (ended : Bool) → StepsIn x rows k k v v' (Some incoming.Closing) sees (output_of (Talk (Some v.number)) [] ended)
  closing_steps ended =
      steps_frame x rows k k v v' sees (output_of (Talk (Some v.number)) [] ended) peer incoming.Closing awaits
      (λ f at live brings c told part right rest s.
      let t = turn_in x rows c part right None rest v in
      let learn : learns v v.phase (Some f) ≡ v = learns_nothing v v.phase f (ap (λ body. version_said v.version (line_in body)) (closing_is f.body brings)) in
      asks_as x k k v v' (Some f) t _ _ (output_of (Talk (Some v.number)) [] ended) (closing_step t f peer brings)
      (quiet_makes t k k v' (Some f) (hears t f) ended refl (next ∙ sym (after_closing t f peer v.version learn with_peer at (closing_is f.body brings))) (makes_none k.failing k.failing refl)))

  -- it was closed here
  pub closed_steps : (ended : Bool) → StepsIn x rows k k v v' None sees (output_of (Talk (Some v.number)) [] ended)
  closed_steps ended =
      steps_closed x rows k k v v' sees (output_of (Talk (Some v.number)) [] ended) peer awaits
      (λ shut c told part right rest s.
      let t = turn_in x rows c part right None rest v in
      quiet_makes t k k v' None (quietly (talk t) None) ended refl (next ∙ sym (after_closed_here t peer with_peer shut)) (makes_none k.failing k.failing refl))
