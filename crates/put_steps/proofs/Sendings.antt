-- A copy that sends the bytes of a content, and VALID behind them.
use Rattle.std.proofs.Common.{◌≡◌, ℕ, ◌+◌, ◌-◌, Bool, true, false, min, List, [], ◌∷◌, drop, length, take, Some, None, Result, Ok, Err, IfOk, refl, sym, ap, subst, ◌∙◌, arith}
use Rattle.std.specs.Prelude.{OnErr, if◌then◌else◌}
use Rattle.std.specs.Option.{ForSome}
use Rattle.std.specs.declared.alloc.Global.{Global}
use Rattle.std.specs.declared.vec.Vec.{Vec}
use Rattle.annex_base.specs.declared.kinds.Call.TheVariants as calls
use Rattle.run_data.specs.declared.entry.By.TheVariants.{Job as by_job}
use Rattle.run_data.specs.declared.entry.EntryKind.TheVariants.{Fault, Talk}
use Rattle.run_data.specs.declared.entry.FrameText.TheVariants.{Bytes, Closing}
use Rattle.p2p_wire.specs.declared.message.Message.TheVariants as messages
use Rattle.p2p_wire.specs.Streams.{IsLine}
use Rattle.object_store.specs.Stores.{Contents, bytes_of}
use Rattle.node_model.specs.Jobs
use Rattle.node_model.specs.Jobs.{partner, puts_more}
use Rattle.node_model.specs.JobStep.{Turn, attempts, by_me, quietly, says_to, sends_to, talk}
use Rattle.node_model.specs.Look.{Effect}
use Rattle.node_model.specs.Sessions.{reaches}
use Rattle.node_model.specs.Turns.{goes}
use Rattle.content_lock.specs.CallsMade.{MakesCalls}
use Rattle.content_lock.specs.Rows.{Rows}
use Rattle.session_state.specs.Answers.{size_in}
use Rattle.transfer_turns.specs.declared.parcels.Output.{Output}
use Rattle.transfer_turns.specs.declared.parcels.ParcelBody.TheVariants as bodies
use Rattle.transfer_turns.specs.Parcels.{end_in}
use Rattle.transfer_turns.specs.Steps.{LeavesBut, Seen}
use Rattle.transfer_turns.specs.Turns.{Sight, output_of, step_at, turn_in}
use Rattle.transfer_turns.proofs.Actings.{acts_failing, acts_quiet, acts_sending}
use Rattle.transfer_turns.proofs.Partners.{apart_same, puts_with}
use Rattle.transfer_turns.proofs.Works.{after_closed_here, after_gone, after_piece, after_word}
use Rattle.put_steps.specs.declared.phase.Ending.TheVariants as endings
use Rattle.put_steps.specs.declared.phase.Phase.TheVariants as phases
use Rattle.put_steps.specs.declared.phase.Sending.{Sending}
use Rattle.put_steps.specs.declared.putting.Putting.{Putting}
use Rattle.put_steps.specs.declared.sending.Next.{Next}
use Rattle.put_steps.specs.declared.sending.Next.TheVariants as nexts
use Rattle.put_steps.specs.Puts.{is_done, phase_of, work_of}
use Rattle.put_steps.specs.Putting.{Does, SeesNoPart}
use Rattle.put_steps.specs.Stepping.{HasBytes, IsLong, IsNext, Told, close_to, failed_next, message_to}
use Rattle.put_steps.proofs.Keeping.{Did, asks_so, at_phase, but_all, failed_did, fault_keeps, nothing, only, stays_as, talk_keeps, told_did, work_goes}

-- the connection with this peer is open, or isn't
abbrev is_open : Sight → Putting → ℕ → Bool
is_open x w peer = (x.ends (end_in w.slot peer)).opened

-- it goes on, or finds the connection closed
abbrev on_way : Turn → Bool → Effect
on_way t b = if b then goes t t.w.phase else quietly (talk t) None

-- ---- the bytes

module _ (x : Sight) (rows : Rows) (k k' : Seen) (w : Putting) (s : Sending) where
  abbrev sending : Putting
  sending = at_phase w (phases.Bytes s)

  abbrev size : ℕ
  size = min 32768 s.left

  -- what is asked on an open connection
  abbrev asks_piece : Turn → Bool → ℕ → Effect
  asks_piece t reached n = attempts t (calls.Read ∷ []) None (sends_to t (talk t) None s.peer ((if reached then Bytes n else Closing) ∷ []))

  pub piece_did : (piece : Vec ℕ Global) (w' : Putting) → is_open x w s.peer ≡ true → ForSome k.contents (λ c. reaches (size_in c w.job.key) (s.at + size) ≡ true)
      → ForSome k.contents (λ c. piece.items ≡ take (length piece.items) (drop s.at (bytes_of c w.job.key))) → length piece.items ≡ size → LeavesBut None k k' → MakesCalls (calls.Read ∷ []) None k.failing k'.failing
      → phase_of w'.phase ≡ puts_more s.peer s.start (s.at + length piece.items) (s.left - length piece.items) → is_done w'.phase ≡ false
      → Did x None rows k k' sending (record sending { phase = w'.phase }) (output_of (Talk (Some w.number)) (record { peer = s.peer; body = bodies.Piece piece } ∷ []) false)
  piece_did piece w' live reached has long but made moves goes_on = (
    acts_sending x rows k k' (work_of sending) (work_of (record sending { phase = w'.phase })) SeesNoPart (refl {a = None}) s.peer (bodies.Piece piece) false
        (λ c told part right z rest.
        let t = turn_in x rows c part right None rest (work_of sending) in
        asks_so k k' (step_at None None t) (asks_piece t true (length piece.items)) None (ap (on_way t) live ∙ (λ i. asks_piece t (reached c told i) (sym long i))) made)
        (λ c part right rest. work_goes sending w'.phase _ goes_on moves ∙ sym (after_piece (turn_in x rows c part right None rest (work_of sending)) s.peer (length piece.items) refl live)),
    talk_keeps x rows k k' sending w'.phase w.version (record { peer = s.peer; body = bodies.Piece piece } ∷ []) false but (sym goes_on)
        ((has, omega (arith, long, s.some), omega (arith, long)), tt)
        (apart_same x (work_of sending) (work_of (record sending { phase = w'.phase })) (ap (λ (ph : Jobs.Phase). partner w.job.peer ph) moves ∙ puts_with w.job.peer s.peer s.start (s.at + length piece.items) (s.left - length piece.items)))
        (λ stays. goes_on),
  )

  -- the content is gone
  pub gone_did : is_open x w s.peer ≡ true → ForSome k.contents (λ c. reaches (size_in c w.job.key) (s.at + size) ≡ false) → LeavesBut None k k' → MakesCalls (calls.Read ∷ []) None k.failing k'.failing
      → Did x None rows k k' sending (record sending { phase = phases.Ends endings.Closed }) (output_of (Talk (Some w.number)) (close_to s.peer) false)
  gone_did live past but made = (
    acts_sending x rows k k' (work_of sending) (work_of (record sending { phase = phases.Ends endings.Closed })) SeesNoPart (refl {a = None}) s.peer bodies.Close false
        (λ c told part right z rest.
        let t = turn_in x rows c part right None rest (work_of sending) in
        asks_so k k' (step_at None None t) (asks_piece t false size) None (ap (on_way t) live ∙ (λ i. asks_piece t (past c told i) size)) made)
        (λ c part right rest. sym (after_gone (turn_in x rows c part right None rest (work_of sending)) s.peer refl)),
    talk_keeps x rows k k' sending (phases.Ends endings.Closed) w.version (close_to s.peer) false but refl (tt, tt) (λ named was. tt) (λ stays. refl),
  )

  -- it couldn't be read
  pub unread_did : is_open x w s.peer ≡ true → LeavesBut (Some calls.Read) k k' → MakesCalls (calls.Read ∷ []) (Some calls.Read) k.failing k'.failing
      → Did x None rows k k' sending (record sending { phase = phases.Ends endings.StoreFault }) (output_of (Fault calls.Read (by_job w.number)) [] false)
  unread_did live but made = (
    acts_failing x rows k k' (work_of sending) (work_of (record sending { phase = phases.Ends endings.StoreFault })) SeesNoPart (refl {a = None}) calls.Read false
        (λ c told part right z rest.
        let t = turn_in x rows c part right (Some calls.Read) rest (work_of sending) in
        asks_so k k' (step_at None None t) (record (quietly (Fault calls.Read (by_me t)) None) { calls = calls.Read ∷ [] }) (Some calls.Read) (ap (on_way t) live) made)
        tt (λ r time. refl) refl,
    fault_keeps x rows k k' sending calls.Read but,
  )

-- ---- as it was told

pub piece_sent : (x : Sight) (rows : Rows) (k k' : Seen) (w w' : Putting) (s : Sending) (piece : Vec ℕ Global) (out : Output) → w.phase ≡ phases.Bytes s → is_open x w s.peer ≡ true
    → ForSome k.contents (λ c. reaches (size_in c w.job.key) (s.at + min 32768 s.left) ≡ true) → ForSome k.contents (λ c. piece.items ≡ take (length piece.items) (drop s.at (bytes_of c w.job.key))) → length piece.items ≡ min 32768 s.left
    → LeavesBut None k k' → MakesCalls (calls.Read ∷ []) None k.failing k'.failing → phase_of w'.phase ≡ puts_more s.peer s.start (s.at + length piece.items) (s.left - length piece.items) → is_done w'.phase ≡ false
    → Told w w' (record { peer = s.peer; body = bodies.Piece piece } ∷ []) w'.phase w.version out → Did x None rows k k' w w' out
piece_sent x rows k k' w w' s piece out is live reached has long but made moves goes_on told =
    told_did x None rows k k' w w' _ _ w.version out (phases.Bytes s) is told (piece_did x rows k k' w s piece w' live reached has long but made moves goes_on)

pub gone_shut : (x : Sight) (rows : Rows) (k k' : Seen) (w w' : Putting) (s : Sending) (out : Output) → w.phase ≡ phases.Bytes s → is_open x w s.peer ≡ true → ForSome k.contents (λ c. reaches (size_in c w.job.key) (s.at + min 32768 s.left) ≡ false)
    → LeavesBut None k k' → MakesCalls (calls.Read ∷ []) None k.failing k'.failing → Told w w' (close_to s.peer) (phases.Ends endings.Closed) w.version out → Did x None rows k k' w w' out
gone_shut x rows k k' w w' s out is live past but made told = told_did x None rows k k' w w' _ _ w.version out (phases.Bytes s) is told (gone_did x rows k k' w s live past but made)

pub read_failed : (x : Sight) (rows : Rows) (k k' : Seen) (w w' : Putting) (s : Sending) (out : Output) → w.phase ≡ phases.Bytes s → is_open x w s.peer ≡ true → LeavesBut (Some calls.Read) k k'
    → MakesCalls (calls.Read ∷ []) (Some calls.Read) k.failing k'.failing → out ≡ output_of (Fault calls.Read (by_job w.number)) [] false → w' ≡ record w { phase = phases.Ends endings.StoreFault } → Did x None rows k k' w w' out
read_failed x rows k k' w w' s out is live but made says next = failed_did x None rows k k' w w' calls.Read out (phases.Bytes s) is says next (unread_did x rows k k' w s live but made)

-- by what the content has next
module _ (x : Sight) (rows : Rows) (k k' : Seen) (w w' : Putting) (s : Sending) (key : List ℕ) (n : Next) (is : w.phase ≡ phases.Bytes s) (live : is_open x w s.peer ≡ true) (own : key ≡ w.job.key)
    (next : ForSome k.contents (λ c. IsNext c key s n)) (bytes : ForSome k.contents (λ c. HasBytes c key s n)) (long : IsLong s n) (but : LeavesBut (failed_next n) k k') (made : MakesCalls (calls.Read ∷ []) (failed_next n) k.failing k'.failing) where
  next_at : (m : Next) → n ≡ m → (c : Contents) → k.contents ≡ Some c → IsNext c w.job.key s m
  next_at m same c told = subst (λ (q : List ℕ). IsNext c q s m) own (subst (λ (o : Next). IsNext c key s o) same (next c told))

  bytes_at : (m : Next) → n ≡ m → (c : Contents) → k.contents ≡ Some c → HasBytes c w.job.key s m
  bytes_at m same c told = subst (λ (q : List ℕ). HasBytes c q s m) own (subst (λ (o : Next). HasBytes c key s o) same (bytes c told))

  but_at : (m : Next) → n ≡ m → LeavesBut (failed_next m) k k'
  but_at m same = subst (λ (o : Next). LeavesBut (failed_next o) k k') same but

  made_at : (m : Next) → n ≡ m → MakesCalls (calls.Read ∷ []) (failed_next m) k.failing k'.failing
  made_at m same = subst (λ (o : Next). MakesCalls (calls.Read ∷ []) (failed_next o) k.failing k'.failing) same made

  pub sends_piece : {E : Type 0} (piece : Vec ℕ Global) (r : Result Output E) → n ≡ nexts.Piece piece → IfOk r (Told w w' (record { peer = s.peer; body = bodies.Piece piece } ∷ []) w'.phase w.version)
      → IfOk r (λ out. phase_of w'.phase ≡ puts_more s.peer s.start (s.at + length piece.items) (s.left - length piece.items)) → IfOk r (λ out. is_done w'.phase ≡ false) → OnErr r (w' ≡ w) → Does x None rows k k' w w' r
  sends_piece piece (Ok out) same told moves goes_on err =
      piece_sent x rows k k' w w' s piece out is live (next_at (nexts.Piece piece) same) (bytes_at (nexts.Piece piece) same) (subst (λ (m : Next). IsLong s m) same long) (but_at (nexts.Piece piece) same) (made_at (nexts.Piece piece) same) moves goes_on told
  sends_piece piece (Err e) same told moves goes_on err = stays_as k k' w w' err (but_all k k' (but_at (nexts.Piece piece) same))

  pub sends_none : {E : Type 0} (r : Result Output E) → n ≡ nexts.Gone → IfOk r (Told w w' (close_to s.peer) (phases.Ends endings.Closed) w.version) → OnErr r (w' ≡ w) → Does x None rows k k' w w' r
  sends_none (Ok out) same told err = gone_shut x rows k k' w w' s out is live (next_at nexts.Gone same) (but_at nexts.Gone same) (made_at nexts.Gone same) told
  sends_none (Err e) same told err = stays_as k k' w w' err (but_all k k' (but_at nexts.Gone same))

  pub sends_failed : (out : Output) → n ≡ nexts.Failed → out ≡ output_of (Fault calls.Read (by_job w.number)) [] false → w' ≡ record w { phase = phases.Ends endings.StoreFault } → Did x None rows k k' w w' out
  sends_failed out same says goes_on = read_failed x rows k k' w w' s out is live (but_at nexts.Failed same) (made_at nexts.Failed same) says goes_on

-- the connection was closed here
pub sending_closed : (x : Sight) (rows : Rows) (k : Seen) (w w' : Putting) (s : Sending) (out : Output) → w.phase ≡ phases.Bytes s → is_open x w s.peer ≡ false → Told w w' [] (phases.Ends endings.Closed) w.version out → Did x None rows k k w w' out
sending_closed x rows k w w' s out is shut told =
    let v = at_phase w (phases.Bytes s) in
    told_did x None rows k k w w' _ _ w.version out (phases.Bytes s) is told (
      acts_quiet x rows k k (work_of v) (work_of (record v { phase = phases.Ends endings.Closed })) SeesNoPart (refl {a = None}) false
          (λ c held part right z rest. let t = turn_in x rows c part right None rest (work_of v) in only k (step_at None None t) (quietly (talk t) None) (ap (on_way t) shut) refl)
          (λ c part right rest. sym (after_closed_here (turn_in x rows c part right None rest (work_of v)) s.peer refl shut)),
      talk_keeps x rows k k v (phases.Ends endings.Closed) w.version [] false (nothing k) refl tt (λ named was. tt) (λ stays. refl),
    )

-- ---- VALID

pub word_closed : (x : Sight) (rows : Rows) (k : Seen) (w w' : Putting) (peer start : ℕ) (out : Output) → w.phase ≡ phases.Word peer start → is_open x w peer ≡ false → Told w w' [] (phases.Ends endings.Closed) w.version out → Did x None rows k k w w' out
word_closed x rows k w w' peer start out is shut told =
    let v = at_phase w (phases.Word peer start) in
    told_did x None rows k k w w' _ _ w.version out (phases.Word peer start) is told (
      acts_quiet x rows k k (work_of v) (work_of (record v { phase = phases.Ends endings.Closed })) SeesNoPart (refl {a = None}) false
          (λ c held part right z rest. let t = turn_in x rows c part right None rest (work_of v) in only k (step_at None None t) (quietly (talk t) None) (ap (on_way t) shut) refl)
          (λ c part right rest. sym (after_closed_here (turn_in x rows c part right None rest (work_of v)) peer refl shut)),
      talk_keeps x rows k k v (phases.Ends endings.Closed) w.version [] false (nothing k) refl tt (λ named was. tt) (λ stays. refl),
    )

pub valid_told : (x : Sight) (rows : Rows) (k : Seen) (w : Putting) (peer start : ℕ) (out : Output) → w.phase ≡ phases.Word peer start → is_open x w peer ≡ true → IsLine messages.Valid
    → out ≡ output_of (Talk (Some w.number)) (message_to peer messages.Valid) false → Did x None rows k k w (record w { phase = phases.Answer peer start }) out
valid_told x rows k w peer start out is live line says =
    let v = at_phase w (phases.Word peer start) in
    told_did x None rows k k w (record w { phase = phases.Answer peer start }) (message_to peer messages.Valid) (phases.Answer peer start) w.version out (phases.Word peer start) is (record { says = says; worker = refl }) (
      acts_sending x rows k k (work_of v) (work_of (record v { phase = phases.Answer peer start })) SeesNoPart (refl {a = None}) peer (bodies.Message messages.Valid) false
          (λ c held part right z rest. let t = turn_in x rows c part right None rest (work_of v) in only k (step_at None None t) (says_to t (talk t) None peer messages.Valid) (ap (on_way t) live) refl)
          (λ c part right rest. sym (after_word (turn_in x rows c part right None rest (work_of v)) peer messages.Valid refl live line.0)),
      talk_keeps x rows k k v (phases.Answer peer start) w.version (message_to peer messages.Valid) false (nothing k) refl (tt, tt) (λ named was. was) (λ stays. refl),
    )
