-- The steps of a copy that take what came.
use Rattle.std.proofs.Common.{◌≡◌, ℕ, ◌<◌, ◌≤◌, Bool, true, false, List, [], ◌∷◌, length, Option, Some, None, Result, Ok, Err, IfOk, refl, sym, ap, ◌∙◌, arith}
use Rattle.std.specs.Prelude.{OnErr, bytes_eq, codes, if◌then◌else◌, nat_le}
use Rattle.std.proofs.lemmas.Bool.Decides.{nat_tests}
use Rattle.std.specs.Option.{ForSome, option_map}
use Rattle.annex_base.proofs.Conditions.{by_test}
use Rattle.annex_base.specs.declared.kinds.Call.{Call}
use Rattle.annex_base.specs.declared.kinds.Call.TheVariants as calls
use Rattle.run_data.specs.declared.entry.By.TheVariants.{Job as by_job}
use Rattle.run_data.specs.declared.entry.EntryKind.TheVariants.{Fault, Talk}
use Rattle.run_data.specs.declared.entry.FrameView.{FrameView}
use Rattle.run_data.specs.declared.job.Outcome.TheVariants.{Copied, TransferRefused}
use Rattle.run_data.specs.declared.job.TransferRefusal.TheVariants as failures
use Rattle.p2p_wire.specs.declared.message.Message.{Message}
use Rattle.p2p_wire.specs.declared.message.Message.TheVariants as messages
use Rattle.p2p_wire.specs.Streams.{IsLine}
use Rattle.object_store.specs.Stores.{Contents}
use Rattle.node_model.specs.Jobs
use Rattle.node_model.specs.Jobs.{Drops, Part, Puts, Work, after_line, after_transfer, is_move, learns, partner, puts_more, says}
use Rattle.node_model.specs.JobStep.{Turn, attempts, by_me, hears, key_of, quietly, says_to, talk, wrong_message}
use Rattle.node_model.specs.Look.{Effect, failing_call, unless}
use Rattle.node_model.specs.Rows.{option_is}
use Rattle.node_model.specs.Sessions.{reaches}
use Rattle.node_model.specs.SessionStep.{bytes_left}
use Rattle.node_model.specs.TransferStep.{content_of, puts_from, takes_put}
use Rattle.node_model.specs.Turns.{takes}
use Rattle.content_lock.specs.CallsMade.{MakesCalls}
use Rattle.content_lock.specs.Rows.{Rows}
use Rattle.session_state.specs.declared.incoming.Incoming.TheVariants as incoming
use Rattle.drop_phases.proofs.Greetings.{greets_high, learns_else, learns_version}
use Rattle.drop_phases.proofs.Takings.{Lined}
use Rattle.transfer_turns.specs.declared.parcels.Output.{Output}
use Rattle.transfer_turns.specs.Partners.{StaysApart}
use Rattle.transfer_turns.specs.Steps.{LeavesAll, LeavesBut, Seen}
use Rattle.transfer_turns.specs.Turns.{Sight, awaited, output_of, turn_in}
use Rattle.transfer_turns.proofs.Hearings.{failed_steps, heard_steps, said_steps, shut_steps}
use Rattle.transfer_turns.proofs.Leavings.{all_stays}
use Rattle.transfer_turns.proofs.Partners.{apart_same, puts_with}
use Rattle.put_steps.specs.declared.phase.Ending.TheVariants as endings
use Rattle.put_steps.specs.declared.phase.Phase.{Phase}
use Rattle.put_steps.specs.declared.phase.Phase.TheVariants as phases
use Rattle.put_steps.specs.declared.putting.Putting.{Putting}
use Rattle.put_steps.specs.Puts.{is_done, part_of, phase_of, work_of}
use Rattle.put_steps.specs.Putting.{Does, SeesNoPart}
use Rattle.put_steps.specs.Stepping.{Told, close_to, message_to}
use Rattle.put_steps.proofs.Keeping.{Did, asks_so, at_phase, did_from, failed_did, fault_keeps, hears_so, nothing, only, stays_as, talk_keeps, told_did, work_goes}
use Rattle.put_steps.proofs.Unexpected.{answer_else, greets_else, offer_else, opens_else}

-- ---- a message

module _ (x : Sight) (rows : Rows) (k : Seen) (w : Putting) (peer n : ℕ) (m : Message) (awaits : awaited (work_of w) ≡ Some peer) (with_peer : partner w.job.peer (phase_of w.phase) ≡ Some peer)
    (learn : (f : FrameView) → Lined f.body m → learns (work_of w) (phase_of w.phase) (Some f) ≡ record (work_of w) { version = n }) where
  abbrev turn : Contents → ℕ → Bool → Turn → Turn
  turn c part right rest = turn_in x rows c part right None rest (work_of w)

  abbrev Takes : (Turn → FrameView → Effect) → Type 0
  Takes made = (c : Contents) (part : ℕ) (right : Bool) (rest : Turn) (f : FrameView) → takes (turn c part right rest) f peer (phase_of w.phase) m ≡ made (turn c part right rest) f

  -- it isn't permitted
  pub shut_did : part_of w.phase ≡ Puts → Takes (λ t f. wrong_message t f peer) → Did x (Some (incoming.Message m)) rows k k w (record w { phase = phases.Ends endings.Closed; version = n }) (output_of (Talk (Some w.number)) (close_to peer) false)
  shut_did puts is = (
    shut_steps x rows k k (work_of w) (work_of (record w { phase = phases.Ends endings.Closed; version = n })) SeesNoPart peer awaits with_peer m n learn false
        (λ c told part right s rest f. only k (takes (turn c part right rest) f peer (phase_of w.phase) m) (wrong_message (turn c part right rest) f peer) (is c part right rest f) refl) moves,
    talk_keeps x rows k k w (phases.Ends endings.Closed) n (close_to peer) false (nothing k) refl (tt, tt) (λ named was. tt) (λ stays. refl),
  )
    where
      moves : work_of (record w { phase = phases.Ends endings.Closed; version = n }) ≡ Jobs.closed_part x.repo (record (work_of w) { version = n }) peer (part_of w.phase)
      moves = ap (λ (p : Part). record (work_of w) { part = p; phase = Jobs.Ends (TransferRefused failures.Closed); version = n }) (sym puts) ∙ ap (Jobs.closed_part x.repo (record (work_of w) { version = n }) peer) (sym puts)

  -- it is heard, and nothing is said
  pub heard_did : (next : Phase) (ended : Bool) → Takes (λ t f. hears t f) → work_of (record w { phase = next; version = n }) ≡ after_line (record (work_of w) { version = n }) (Some m) → ended ≡ is_done next
      → StaysApart x (work_of w) (work_of (record w { phase = next; version = n })) → (is_move w.job.kind ≡ false → is_done next ≡ false)
      → Did x (Some (incoming.Message m)) rows k k w (record w { phase = next; version = n }) (output_of (Talk (Some w.number)) [] ended)
  heard_did next ended is moves done apart undone = (
    heard_steps x rows k k (work_of w) (work_of (record w { phase = next; version = n })) SeesNoPart peer awaits with_peer m n learn ended
        (λ c told part right s rest f. only k (takes (turn c part right rest) f peer (phase_of w.phase) m) (hears (turn c part right rest) f) (is c part right rest f) refl) moves,
    talk_keeps x rows k k w next n [] ended (nothing k) done tt apart undone,
  )

  -- it is answered
  pub said_did : (said : Message) (next : Phase) → Takes (λ t f. says_to t (talk t) (Some f) peer said) → IsLine said
      → ((time : ℕ) → work_of (record w { phase = next; version = n }) ≡ says (record (work_of w) { version = n }) time peer (Some m) said) → is_done next ≡ false
      → StaysApart x (work_of w) (work_of (record w { phase = next; version = n }))
      → Did x (Some (incoming.Message m)) rows k k w (record w { phase = next; version = n }) (output_of (Talk (Some w.number)) (message_to peer said) false)
  said_did said next is line moves goes apart = (
    said_steps x rows k k (work_of w) (work_of (record w { phase = next; version = n })) SeesNoPart peer awaits with_peer m n learn said false
        (λ c told part right s rest f.
        let t = turn c part right rest in
        only k (takes t f peer (phase_of w.phase) m) (says_to t (talk t) (Some f) peer said) (is c part right rest f) refl)
        line.0 moves,
    talk_keeps x rows k k w next n (message_to peer said) false (nothing k) (sym goes) (tt, tt) apart (λ stays. goes),
  )

  -- the peer has the content: a copy is to end, and the drop of a move is to begin
  abbrev finished : Bool → Option ℕ → Phase
  finished moves start = if moves then phases.Done else phases.Ends (endings.Copied start)

  abbrev by_kind : Option ℕ → Bool → Work
  by_kind start c = if c then record (work_of w) { part = Drops; phase = Jobs.Fresh; fills = false; version = n } else record (work_of w) { phase = Jobs.Ends (Copied start); fills = false; version = n }

  finished_work : (start : Option ℕ) (b : Bool) → is_move w.job.kind ≡ b → part_of w.phase ≡ Puts → work_of (record w { phase = finished b start; version = n }) ≡ after_transfer (record (work_of w) { version = n }) (Copied start)
  finished_work start true moves puts = sym (ap (by_kind start) moves)
  finished_work start false moves puts = ap (λ (p : Part). record (work_of w) { part = p; phase = Jobs.Ends (Copied start); fills = false; version = n }) (sym puts) ∙ sym (ap (by_kind start) moves)

  pub finish_did : (start : Option ℕ) (b : Bool) → is_move w.job.kind ≡ b → part_of w.phase ≡ Puts → Takes (λ t f. hears t f) → after_line (record (work_of w) { version = n }) (Some m) ≡ after_transfer (record (work_of w) { version = n }) (Copied start)
      → Did x (Some (incoming.Message m)) rows k k w (record w { phase = finished b start; version = n }) (output_of (Talk (Some w.number)) [] b)
  finish_did start true moves puts is done = heard_did phases.Done true is (finished_work start true moves puts ∙ sym done) refl (λ named was. tt) (λ stays. sym moves ∙ stays)
  finish_did start false moves puts is done = heard_did (phases.Ends (endings.Copied start)) false is (finished_work start false moves puts ∙ sym done) refl (λ named was. tt) (λ stays. refl)

-- ---- the answer to an opening

pub opened_hears : (x : Sight) (rows : Rows) (k : Seen) (w : Putting) (peer : ℕ) (id : List ℕ) (out : Output) → w.phase ≡ phases.Opens peer → IsLine (messages.Version 3) → out ≡ output_of (Talk (Some w.number)) (message_to peer (messages.Version 3)) false
    → Did x (Some (incoming.Message (messages.AuthSuccess id))) rows k k w (record w { phase = phases.Greets peer }) out
opened_hears x rows k w peer id out is line says =
    let v = at_phase w (phases.Opens peer) in
    did_from x _ rows k k w (record w { phase = phases.Greets peer }) (Talk (Some w.number)) (message_to peer (messages.Version 3)) false (phases.Greets peer) w.version out (phases.Opens peer) is says refl
    (said_did x rows k v peer w.version (messages.AuthSuccess id) refl refl (λ f l. refl) (messages.Version 3) (phases.Greets peer) (λ c part right rest f. refl) line (λ time. refl) refl (λ named was. was))

pub opened_shut : {E : Type 0} (x : Sight) (rows : Rows) (k : Seen) (w w' : Putting) (peer : ℕ) (m : Message) (r : Result Output E) → w.phase ≡ phases.Opens peer → ((id : List ℕ) → m ≡ messages.AuthSuccess id → ⊥)
    → IfOk r (Told w w' (close_to peer) (phases.Ends endings.Closed) w.version) → OnErr r (w' ≡ w) → Does x (Some (incoming.Message m)) rows k k w w' r
opened_shut x rows k w w' peer m r is other ok err =
    let v = at_phase w (phases.Opens peer) in
    hears_so x _ rows k w w' r _ ok err
    (λ out told. told_did x _ rows k k w w' _ _ w.version out (phases.Opens peer) is told
    (shut_did x rows k v peer w.version m refl refl (λ f l. refl) refl
    (λ c part right rest f. opens_else (turn_in x rows c part right None rest (work_of v)) f peer peer m refl other)))

-- ---- the answer to VERSION

pub greeted_shut : {E : Type 0} (x : Sight) (rows : Rows) (k : Seen) (w w' : Putting) (peer : ℕ) (m : Message) (r : Result Output E) → w.phase ≡ phases.Greets peer → ((n : ℕ) → m ≡ messages.Version n → ⊥)
    → IfOk r (Told w w' (close_to peer) (phases.Ends endings.Closed) w.version) → OnErr r (w' ≡ w) → Does x (Some (incoming.Message m)) rows k k w w' r
greeted_shut x rows k w w' peer m r is other ok err =
    let v = at_phase w (phases.Greets peer) in
    hears_so x _ rows k w w' r _ ok err
    (λ out told. told_did x _ rows k k w w' _ _ w.version out (phases.Greets peer) is told
    (shut_did x rows k v peer w.version m refl refl (λ f l. learns_else (work_of v) f peer m l other) refl
    (λ c part right rest f. greets_else (turn_in x rows c part right None rest (work_of v)) f peer peer m refl other)))

-- it is none that was asked for
pub unknown_shut : {E : Type 0} (x : Sight) (rows : Rows) (k : Seen) (w w' : Putting) (peer version : ℕ) (r : Result Output E) → w.phase ≡ phases.Greets peer → 3 < version
    → IfOk r (Told w w' (close_to peer) (phases.Ends endings.Closed) (if option_is w.job.peer peer then version else w.version)) → OnErr r (w' ≡ w) → Does x (Some (incoming.Message (messages.Version version))) rows k k w w' r
unknown_shut x rows k w w' peer version r is high ok err =
    let v = at_phase w (phases.Greets peer) in
    let n : ℕ = (if option_is w.job.peer peer then version else w.version) in
    hears_so x _ rows k w w' r _ ok err
    (λ out told. told_did x _ rows k k w w' _ _ n out (phases.Greets peer) is told
    (shut_did x rows k v peer n (messages.Version version) refl refl (λ f l. learns_version (work_of v) f peer version l) refl
    (λ c part right rest f. sym (greets_high (turn_in x rows c part right None rest (work_of v)) f peer version high))))

-- it is, and the content is offered
greets_puts : (t : Turn) (f : FrameView) (peer version : ℕ) → version ≤ 3 → t.w.part ≡ Puts → takes t f peer (Jobs.Greets peer) (messages.Version version) ≡ says_to t (talk t) (Some f) peer (messages.Put [] (key_of t))
greets_puts t f peer version low puts = let e : nat_le version 3 ≡ true = grind (arith, nat_tests) in rw (e, puts) refl

pub known_offered : {E : Type 0} (x : Sight) (rows : Rows) (k : Seen) (w w' : Putting) (peer version : ℕ) (r : Result Output E) → w.phase ≡ phases.Greets peer → version ≤ 3
    → IfOk r (Told w w' (message_to peer (messages.Put [] w.job.key)) (phases.Offer peer) (if option_is w.job.peer peer then version else w.version)) → IfOk r (λ out. IsLine (messages.Put [] w.job.key)) → OnErr r (w' ≡ w)
    → Does x (Some (incoming.Message (messages.Version version))) rows k k w w' r
known_offered x rows k w w' peer version (Ok out) is low told line err =
    let v = at_phase w (phases.Greets peer) in
    let n : ℕ = (if option_is w.job.peer peer then version else w.version) in
    told_did x _ rows k k w w' _ _ n out (phases.Greets peer) is told
    (said_did x rows k v peer n (messages.Version version) refl refl (λ f l. learns_version (work_of v) f peer version l) (messages.Put [] w.job.key) (phases.Offer peer)
    (λ c part right rest f. greets_puts (turn_in x rows c part right None rest (work_of v)) f peer version low refl) line (λ time. refl) refl (λ named was. was))
known_offered x rows k w w' peer version (Err e) is low told line err = stays_as k k w w' err (all_stays k)

-- ---- the answers to PUT, and to the bytes

-- the peer has the content already
pub already_hears : (x : Sight) (rows : Rows) (k : Seen) (w w' : Putting) (peer : ℕ) (out : Output) → w.phase ≡ phases.Offer peer → out ≡ output_of (Talk (Some w.number)) [] (is_move w.job.kind)
    → w' ≡ record w { phase = (if is_move w.job.kind then phases.Done else phases.Ends (endings.Copied None)) } → Did x (Some (incoming.Message messages.AlreadyHave)) rows k k w w' out
already_hears x rows k w w' peer out is says next =
    did_from x _ rows k k w w' (Talk (Some w.number)) [] (is_move w.job.kind) (if is_move w.job.kind then phases.Done else phases.Ends (endings.Copied None)) w.version out (phases.Offer peer) is says next
    (finish_did x rows k (at_phase w (phases.Offer peer)) peer w.version messages.AlreadyHave refl refl (λ f l. refl) None (is_move w.job.kind) refl refl (λ c part right rest f. refl) refl)

-- it has it now
pub success_hears : (x : Sight) (rows : Rows) (k : Seen) (w w' : Putting) (peer start : ℕ) (out : Output) → w.phase ≡ phases.Answer peer start → out ≡ output_of (Talk (Some w.number)) [] (is_move w.job.kind)
    → w' ≡ record w { phase = (if is_move w.job.kind then phases.Done else phases.Ends (endings.Copied (Some start))) } → Did x (Some (incoming.Message messages.Success)) rows k k w w' out
success_hears x rows k w w' peer start out is says next =
    did_from x _ rows k k w w' (Talk (Some w.number)) [] (is_move w.job.kind) (if is_move w.job.kind then phases.Done else phases.Ends (endings.Copied (Some start))) w.version out (phases.Answer peer start) is says next
    (finish_did x rows k (at_phase w (phases.Answer peer start)) peer w.version messages.Success refl refl (λ f l. refl) (Some start) (is_move w.job.kind) refl refl (λ c part right rest f. refl) refl)

-- it refuses
pub offer_refused : (x : Sight) (rows : Rows) (k : Seen) (w w' : Putting) (peer : ℕ) (out : Output) → w.phase ≡ phases.Offer peer → Told w w' [] (phases.Ends endings.Rejected) w.version out → Did x (Some (incoming.Message messages.Failure)) rows k k w w' out
offer_refused x rows k w w' peer out is told =
    told_did x _ rows k k w w' [] (phases.Ends endings.Rejected) w.version out (phases.Offer peer) is told
    (heard_did x rows k (at_phase w (phases.Offer peer)) peer w.version messages.Failure refl refl (λ f l. refl) (phases.Ends endings.Rejected) false (λ c part right rest f. refl) refl refl (λ named was. tt) (λ stays. refl))

pub answer_refused : (x : Sight) (rows : Rows) (k : Seen) (w w' : Putting) (peer start : ℕ) (out : Output) → w.phase ≡ phases.Answer peer start → Told w w' [] (phases.Ends endings.Rejected) w.version out
    → Did x (Some (incoming.Message messages.Failure)) rows k k w w' out
answer_refused x rows k w w' peer start out is told =
    told_did x _ rows k k w w' [] (phases.Ends endings.Rejected) w.version out (phases.Answer peer start) is told
    (heard_did x rows k (at_phase w (phases.Answer peer start)) peer w.version messages.Failure refl refl (λ f l. refl) (phases.Ends endings.Rejected) false (λ c part right rest f. refl) refl refl (λ named was. tt) (λ stays. refl))

-- it answers by an error: another transfer of the key is on its way there, or what isn't permitted
pub busy_hears : (x : Sight) (rows : Rows) (k : Seen) (w w' : Putting) (peer : ℕ) (text : List ℕ) (out : Output) → w.phase ≡ phases.Offer peer → bytes_eq text (codes "busy") ≡ true → Told w w' [] (phases.Ends endings.Busy) w.version out
    → Did x (Some (incoming.Message (messages.Error text))) rows k k w w' out
busy_hears x rows k w w' peer text out is busy told =
    let v = at_phase w (phases.Offer peer) in
    told_did x _ rows k k w w' [] (phases.Ends endings.Busy) w.version out (phases.Offer peer) is told
    (heard_did x rows k v peer w.version (messages.Error text) refl refl (λ f l. refl) (phases.Ends endings.Busy) false
    (λ c part right rest f. let t = turn_in x rows c part right None rest (work_of v) in ap (λ (b : Bool). if b then hears t f else wrong_message t f peer) busy) refl refl (λ named was. tt) (λ stays. refl))

pub error_shut : {E : Type 0} (x : Sight) (rows : Rows) (k : Seen) (w w' : Putting) (peer : ℕ) (text : List ℕ) (r : Result Output E) → w.phase ≡ phases.Offer peer → bytes_eq text (codes "busy") ≡ false
    → IfOk r (Told w w' (close_to peer) (phases.Ends endings.Closed) w.version) → OnErr r (w' ≡ w) → Does x (Some (incoming.Message (messages.Error text))) rows k k w w' r
error_shut x rows k w w' peer text r is other ok err =
    let v = at_phase w (phases.Offer peer) in
    hears_so x _ rows k w w' r _ ok err
    (λ out told. told_did x _ rows k k w w' _ _ w.version out (phases.Offer peer) is told
    (shut_did x rows k v peer w.version (messages.Error text) refl refl (λ f l. refl) refl
    (λ c part right rest f. let t = turn_in x rows c part right None rest (work_of v) in ap (λ (b : Bool). if b then hears t f else wrong_message t f peer) other)))

pub offer_shut : {E : Type 0} (x : Sight) (rows : Rows) (k : Seen) (w w' : Putting) (peer : ℕ) (m : Message) (r : Result Output E) → w.phase ≡ phases.Offer peer
    → (m ≡ messages.AlreadyHave → ⊥) → (m ≡ messages.Failure → ⊥) → ((text : List ℕ) → m ≡ messages.Error text → ⊥) → ((n : ℕ) → m ≡ messages.PutFrom n → ⊥)
    → IfOk r (Told w w' (close_to peer) (phases.Ends endings.Closed) w.version) → OnErr r (w' ≡ w) → Does x (Some (incoming.Message m)) rows k k w w' r
offer_shut x rows k w w' peer m r is a b d e ok err =
    let v = at_phase w (phases.Offer peer) in
    hears_so x _ rows k w w' r _ ok err
    (λ out told. told_did x _ rows k k w w' _ _ w.version out (phases.Offer peer) is told
    (shut_did x rows k v peer w.version m refl refl (λ f l. refl) refl
    (λ c part right rest f. let t = turn_in x rows c part right None rest (work_of v) in offer_takes t f peer m refl ∙ offer_else t f peer peer m a b d e)))
  where
    offer_takes : (t : Turn) (f : FrameView) (peer : ℕ) (m : Message) → t.w.part ≡ Puts → takes t f peer (Jobs.PutsOffer peer) m ≡ takes_put t f peer (Jobs.PutsOffer peer) m
    offer_takes t f peer m puts = rw puts refl

pub answer_shut : {E : Type 0} (x : Sight) (rows : Rows) (k : Seen) (w w' : Putting) (peer start : ℕ) (m : Message) (r : Result Output E) → w.phase ≡ phases.Answer peer start
    → (m ≡ messages.Success → ⊥) → (m ≡ messages.Failure → ⊥) → IfOk r (Told w w' (close_to peer) (phases.Ends endings.Closed) w.version) → OnErr r (w' ≡ w) → Does x (Some (incoming.Message m)) rows k k w w' r
answer_shut x rows k w w' peer start m r is a b ok err =
    let v = at_phase w (phases.Answer peer start) in
    hears_so x _ rows k w w' r _ ok err
    (λ out told. told_did x _ rows k k w w' _ _ w.version out (phases.Answer peer start) is told
    (shut_did x rows k v peer w.version m refl refl (λ f l. refl) refl (λ c part right rest f. answer_else (turn_in x rows c part right None rest (work_of v)) f peer peer start m a b)))

-- ---- the answer to PUT-FROM

-- what is asked of a content of this size
asks_from : (t : Turn) (f : FrameView) (peer start : ℕ) (size : Option ℕ) (reached : Bool) → size ≡ content_of t → reaches size start ≡ reached
    → puts_from t f peer start ≡ attempts t (calls.Size ∷ []) (Some f) (if reached then says_to t (talk t) (Some f) peer (messages.Data (bytes_left size start)) else wrong_message t f peer)
asks_from t f peer start size reached is reach =
    ap (λ (o : Option ℕ). attempts t (calls.Size ∷ []) (Some f) (if reaches o start then says_to t (talk t) (Some f) peer (messages.Data (bytes_left o start)) else wrong_message t f peer)) (sym is)
    ∙ ap (λ (b : Bool). attempts t (calls.Size ∷ []) (Some f) (if b then says_to t (talk t) (Some f) peer (messages.Data (bytes_left size start)) else wrong_message t f peer)) reach

pub size_told : (x : Sight) (rows : Rows) (k k' : Seen) (w w' : Putting) (peer start : ℕ) (size : Option ℕ) (out : Output) → w.phase ≡ phases.Offer peer → ForSome k.contents (λ c. size ≡ option_map length (c w.job.key))
    → reaches size start ≡ true → LeavesBut None k k' → MakesCalls (calls.Size ∷ []) None k.failing k'.failing → IsLine (messages.Data (bytes_left size start))
    → phase_of w'.phase ≡ puts_more peer start start (bytes_left size start) → is_done w'.phase ≡ false
    → Told w w' (message_to peer (messages.Data (bytes_left size start))) w'.phase w.version out → Did x (Some (incoming.Message (messages.PutFrom start))) rows k k' w w' out
size_told x rows k k' w w' peer start size out is known reach but made line moves goes told =
    let v = at_phase w (phases.Offer peer) in
    let m = messages.Data (bytes_left size start) in
    told_did x _ rows k k' w w' _ _ w.version out (phases.Offer peer) is told (
      said_steps x rows k k' (work_of v) (work_of (record v { phase = w'.phase })) SeesNoPart peer refl refl (messages.PutFrom start) w.version (λ f l. refl) m false
          (λ c held part right z rest f.
          let t = turn_in x rows c part right None rest (work_of v) in
          asks_so k k' (puts_from t f peer start) (attempts t (calls.Size ∷ []) (Some f) (says_to t (talk t) (Some f) peer m)) None (asks_from t f peer start size true (known c held) reach) made)
          line.0 (λ time. work_goes v w'.phase _ goes moves),
      talk_keeps x rows k k' v w'.phase w.version (message_to peer m) false but (sym goes) (tt, tt)
          (apart_same x (work_of v) (work_of (record v { phase = w'.phase })) (ap (λ (ph : Jobs.Phase). partner w.job.peer ph) moves ∙ puts_with w.job.peer peer start start (bytes_left size start))) (λ stays. goes),
    )

pub size_past : (x : Sight) (rows : Rows) (k k' : Seen) (w w' : Putting) (peer start : ℕ) (size : Option ℕ) (out : Output) → w.phase ≡ phases.Offer peer → ForSome k.contents (λ c. size ≡ option_map length (c w.job.key))
    → reaches size start ≡ false → LeavesBut None k k' → MakesCalls (calls.Size ∷ []) None k.failing k'.failing
    → Told w w' (close_to peer) (phases.Ends endings.Closed) w.version out → Did x (Some (incoming.Message (messages.PutFrom start))) rows k k' w w' out
size_past x rows k k' w w' peer start size out is known reach but made told =
    let v = at_phase w (phases.Offer peer) in
    told_did x _ rows k k' w w' _ _ w.version out (phases.Offer peer) is told (
      shut_steps x rows k k' (work_of v) (work_of (record v { phase = phases.Ends endings.Closed })) SeesNoPart peer refl refl (messages.PutFrom start) w.version (λ f l. refl) false
          (λ c held part right z rest f.
          let t = turn_in x rows c part right None rest (work_of v) in
          asks_so k k' (puts_from t f peer start) (attempts t (calls.Size ∷ []) (Some f) (wrong_message t f peer)) None (asks_from t f peer start size false (known c held) reach) made)
          refl,
      talk_keeps x rows k k' v (phases.Ends endings.Closed) w.version (close_to peer) false but refl (tt, tt) (λ named was. tt) (λ stays. refl),
    )

pub answered : {E : Type 0} (x : Sight) (rows : Rows) (k k' : Seen) (w w' : Putting) (peer start : ℕ) (size : Option ℕ) (r : Result Output E) → w.phase ≡ phases.Offer peer → ForSome k.contents (λ c. size ≡ option_map length (c w.job.key))
    → LeavesBut None k k' → LeavesAll k k' → MakesCalls (calls.Size ∷ []) None k.failing k'.failing
    → (reaches size start ≡ true → IfOk r (Told w w' (message_to peer (messages.Data (bytes_left size start))) w'.phase w.version))
    → (reaches size start ≡ true → IfOk r (λ out. phase_of w'.phase ≡ puts_more peer start start (bytes_left size start)))
    → (reaches size start ≡ true → IfOk r (λ out. is_done w'.phase ≡ false)) → (reaches size start ≡ true → IfOk r (λ out. IsLine (messages.Data (bytes_left size start))))
    → (reaches size start ≡ false → IfOk r (Told w w' (close_to peer) (phases.Ends endings.Closed) w.version)) → OnErr r (w' ≡ w) → Does x (Some (incoming.Message (messages.PutFrom start))) rows k k' w w' r
answered x rows k k' w w' peer start size (Ok out) is known but all made told moves goes line shut err =
    by_test (reaches size start) (λ on. size_told x rows k k' w w' peer start size out is known on but made (line on) (moves on) (goes on) (told on)) (λ off. size_past x rows k k' w w' peer start size out is known off but made (shut off))
answered x rows k k' w w' peer start size (Err e) is known but all made told moves goes line shut err = stays_as k k' w w' err all

-- the size couldn't be told
size_fails : (t : Turn) (f : FrameView) (peer : ℕ) (m : Message) (b : Bool) → t.look.fails ≡ Some calls.Size
    → attempts t (calls.Size ∷ []) (Some f) (if b then says_to t (talk t) (Some f) peer m else wrong_message t f peer) ≡ record (quietly (Fault calls.Size (by_me t)) (Some f)) { calls = calls.Size ∷ [] }
size_fails t f peer m true fails = ap (λ (o : Option Call). record (unless (failing_call o (calls.Size ∷ [])) (λ call. quietly (Fault call (by_me t)) (Some f)) (says_to t (talk t) (Some f) peer m)) { calls = calls.Size ∷ [] }) fails
size_fails t f peer m false fails = ap (λ (o : Option Call). record (unless (failing_call o (calls.Size ∷ [])) (λ call. quietly (Fault call (by_me t)) (Some f)) (wrong_message t f peer)) { calls = calls.Size ∷ [] }) fails

pub size_failed : (x : Sight) (rows : Rows) (k k' : Seen) (w w' : Putting) (peer start : ℕ) (out : Output) → w.phase ≡ phases.Offer peer → LeavesBut (Some calls.Size) k k' → MakesCalls (calls.Size ∷ []) (Some calls.Size) k.failing k'.failing
    → out ≡ output_of (Fault calls.Size (by_job w.number)) [] false → w' ≡ record w { phase = phases.Ends endings.StoreFault } → Did x (Some (incoming.Message (messages.PutFrom start))) rows k k' w w' out
size_failed x rows k k' w w' peer start out is but made says next =
    let v = at_phase w (phases.Offer peer) in
    failed_did x _ rows k k' w w' calls.Size out (phases.Offer peer) is says next (
      failed_steps x rows k k' (work_of v) (work_of (record v { phase = phases.Ends endings.StoreFault })) SeesNoPart peer refl refl (messages.PutFrom start) calls.Size false
          (λ c held part right z rest f.
          let t = turn_in x rows c part right (Some calls.Size) rest (work_of v) in
          asks_so k k' (puts_from t f peer start) (record (quietly (Fault calls.Size (by_me t)) (Some f)) { calls = calls.Size ∷ [] }) (Some calls.Size)
          (size_fails t f peer (messages.Data (bytes_left (content_of t) start)) (reaches (content_of t) start) refl) made)
          tt (λ r time. refl) refl,
      fault_keeps x rows k k' v calls.Size but,
    )
