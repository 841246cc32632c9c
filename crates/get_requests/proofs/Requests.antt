-- A get that begins or goes on approaches a peer.
use Rattle.std.proofs.Common.{◌≡◌, ℕ, Bool, true, false, List, [], ◌∷◌, ◌++◌, Option, Some, None, refl, sym, ap, subst, ◌∙◌}
use Rattle.std.specs.Prelude.{◌==◌, ◌||◌, IfSome, if◌then◌else◌, length}
use Rattle.std.specs.Option.{ForSome}
use Rattle.std.proofs.lemmas.List.{append-nil}
use Rattle.annex_base.specs.declared.kinds.Call.{Call}
use Rattle.annex_base.specs.declared.kinds.Call.TheVariants as calls
use Rattle.run_data.specs.declared.entry.By.TheVariants.{Job as by_job}
use Rattle.run_data.specs.declared.entry.EntryKind.TheVariants.{Fault, Talk}
use Rattle.run_data.specs.declared.entry.FrameText.TheVariants.{Opening}
use Rattle.run_data.specs.declared.entry.FrameView.{FrameView}
use Rattle.run_data.specs.declared.job.Outcome.TheVariants.{TransferRefused}
use Rattle.run_data.specs.declared.job.TransferRefusal.TheVariants as failures
use Rattle.p2p_wire.specs.declared.message.Message.{Message}
use Rattle.p2p_wire.specs.declared.message.Message.TheVariants.{Get}
use Rattle.p2p_wire.specs.Messages.{message_of, text_of}
use Rattle.object_store.specs.Stores.{Contents, Parts}
use Rattle.node_model.specs.Around.{around_in}
use Rattle.node_model.specs.Calls.{to_read, to_resume}
use Rattle.node_model.specs.Jobs.{Ends, Gets, GetsData, Opens, Part, Work, partner, says_some, talks, to_phase}
use Rattle.node_model.specs.JobStep.{Turn, by_me, me, quietly, says_to, sends_to, talk}
use Rattle.node_model.specs.Look.{Effect, entry_of, failed_in, failing_call, unless}
use Rattle.node_model.specs.Requests.{asks, goes_to}
use Rattle.content_lock.specs.CallsMade.{MakesCalls}
use Rattle.content_lock.specs.Rows.{Rows, is_filling}
use Rattle.session_state.specs.Talking.{IsFedBy, Tells}
use Rattle.session_state.proofs.Calling.{makes_none}
use Rattle.part_filling.proofs.PartCalls.{is_some_left, told_part}
use Rattle.drop_phases.specs.Doing.{next_work}
use Rattle.transfer_turns.specs.declared.parcels.Output.{Output}
use Rattle.transfer_turns.specs.declared.parcels.Parcel.{Parcel}
use Rattle.transfer_turns.specs.declared.parcels.ParcelBody.TheVariants as bodies
use Rattle.transfer_turns.specs.Parcels.{AreNoPieces}
use Rattle.transfer_turns.specs.Partners.{NamesOther, StaysApart}
use Rattle.transfer_turns.specs.Steps.{FillsSo, LeavesAll, LeavesBut, Makes, Seen, is_end}
use Rattle.transfer_turns.specs.Turns.{Sight, output_of, turn_in}
use Rattle.get_phases.specs.declared.getting.Ending.TheVariants as endings
use Rattle.get_phases.specs.declared.getting.Getting.{Getting}
use Rattle.get_phases.specs.declared.getting.Phase.{Phase}
use Rattle.get_phases.specs.declared.getting.Phase.TheVariants as phases
use Rattle.get_phases.specs.declared.sent.Asked.{Asked}
use Rattle.get_phases.specs.declared.sent.Asked.TheVariants as asked
use Rattle.get_phases.specs.declared.sent.Sent.{Sent}
use Rattle.get_phases.specs.Asking.{AsksPeer, FollowsAsked, IsAsked, IsFailing, IsGet, IsOfAsking, WaitsForData, failed_asking}
use Rattle.get_phases.specs.Getting.{Keeps}
use Rattle.get_phases.specs.Gets.{HasFill, IsFed, fill_in, is_done, phase_of, work_of}
use Rattle.get_phases.proofs.Following.{moved}
use Rattle.get_requests.specs.Requesting.{Approaches, GoesOn, IsTalk, is_open}
use Rattle.transfer_turns.proofs.Leavings.{but_none}
use Rattle.transfer_turns.proofs.Partners.{apart_none, apart_with}
use Rattle.get_phases.proofs.Keeping.{IsPlain}
use Rattle.get_phases.proofs.Leaving.{leaves_all, leaves_then}
use Rattle.get_requests.proofs.Keeping.{keeps}

-- a phase of a get in which it approaches peers: what it says moves it so, of which it fills its key from now on; and a failed call ends it
pub record IsApproach (x : Sight) (rows : Rows) (w : Getting) : Type 0 where
  pub gets : (work_of w).part ≡ Gets
  pub talked : (c : Contents) (part : ℕ) (right : Bool) (rest : Turn) (sent : List FrameView)
      → let t = turn_in x rows c part right None rest (work_of w) in
      let m : Effect = record { kind = Talk (Some w.number); taken = None; sent = sent; lines = []; calls = [] } in
      next_work t m ≡ talks (around_in t) (me t) (record (work_of w) { fills = true }) (entry_of (me t) t.look m) sent
  pub failed : (c : Contents) (part : ℕ) (right : Bool) (rest : Turn) (call : Call) (size : ℕ) → IsOfAsking size call
      → let t = turn_in x rows c part right (Some call) rest (work_of w) in
      next_work t (quietly (Fault call (by_me t)) None) ≡ to_phase (work_of w) (Ends (TransferRefused failures.StoreFault))

-- of a part of which the size is told
asking_of : (known : Option Parts) (key : List ℕ) (part : ℕ) (call : Call) → Tells known (λ p. part ≡ length (p key)) → ForSome known (λ p. IsOfAsking (length (p key)) call) → IsOfAsking part call
asking_of None key part call tells is = absurd tells
asking_of (Some p) key part call tells is = subst (λ (n : ℕ). IsOfAsking n call) (sym tells) (is p refl)

apart_call : (part : ℕ) (call : Call) → IsOfAsking part call → failing_call (Some call) (calls.Has ∷ []) ≡ None
apart_call part calls.PartSize is = refl
apart_call part calls.ReadPart is = refl
apart_call part call is = absurd is

module _ (x : Sight) (rows : Rows) (c : Contents) (part : ℕ) (right : Bool) (rest : Turn) (w : Getting) (at : IsApproach x rows w) where
  abbrev turn : Option Call → Turn
  turn fails = turn_in x rows c part right fails rest (work_of w)

  abbrev pub request : Option Call → ℕ → Effect
  request fails peer = asks (turn fails) w.version None peer Gets

  -- ---- on an open connection

  sent_next : (peer : ℕ) (s : Sent) (ph : Phase) → s.size ≡ part → message_of (text_of (Get part [] w.job.key)) ≡ Some (Get part [] w.job.key) → WaitsForData w.job.key peer s ph
      → work_of (record w { phase = ph }) ≡ says_some (record (work_of w) { fills = true }) rest.look.time peer None (message_of (text_of (Get part [] w.job.key)))
  sent_next peer s (phases.Data p wanting) size reads waits =
      let now : Work = record (work_of w) { fills = true } in
      (λ i. record now { part = sym at.gets i; phase = GetsData (waits.0 i) ((waits.2 ∙ size) i) }) ∙ sym (ap (λ (o : Option Message). says_some now rest.look.time peer None o) reads)
  sent_next peer s ph size reads waits = absurd waits

  get_made : (k k' : Seen) (peer : ℕ) (s : Sent) (ph : Phase) → IsGet w.number w.job.key peer s.size s.output → s.size ≡ part → WaitsForData w.job.key peer s ph → MakesCalls (to_resume part) None k.failing k'.failing
      → Makes x k k' (work_of w) (work_of (record w { phase = ph })) None (turn (failed_in s.output.kind)) (request (failed_in s.output.kind) peer) s.output
  get_made k k' peer s ph is size waits made =
      let m : Message = Get part [] w.job.key in
      let says : IsGet w.number w.job.key peer part s.output = subst (λ (n : ℕ). IsGet w.number w.job.key peer n s.output) size is in
      subst (λ (o : Output). Makes x k k' (work_of w) (work_of (record w { phase = ph })) None (turn (failed_in o.kind)) (request (failed_in o.kind) peer) o) (sym says.is)
      (record {
        effect = refl;
        next = λ e. sent_next peer s ph size says.line.0 waits ∙ sym (at.talked c part right rest (request None peer).sent);
        calls = subst (λ (l : List Call). MakesCalls l None k.failing k'.failing) (sym (append-nil (to_resume part))) made;
      })

  fails_so : (call : Call) → IsOfAsking part call → failing_call (Some call) (to_resume part) ≡ Some call
  fails_so calls.PartSize is = refl
  fails_so calls.ReadPart is = ap (λ (b : Bool). failing_call (Some calls.ReadPart) (calls.PartSize ∷ to_read b)) (sym (is_some_left part is))
  fails_so call is = absurd is

  fail_made : (k k' : Seen) (peer : ℕ) (call : Call) (out : Output) → IsFailing w.number call out → IsOfAsking part call → MakesCalls (to_resume part) (Some call) k.failing k'.failing
      → Makes x k k' (work_of w) (work_of (record w { phase = phases.Ends (endings.StoreFault (fill_in w.phase)) })) None (turn (failed_in out.kind)) (request (failed_in out.kind) peer) out
  fail_made k k' peer call out is asking made =
      let t = turn (Some call) in
      let faulty : Effect = record (quietly (Fault call (by_me t)) None) { calls = to_resume part ++ [] } in
      let fails : faulty ≡ request (Some call) peer =
      λ i. record (unless (sym (fails_so call asking) i) (λ gone. quietly (Fault gone (by_me t)) None) (says_to t (talk t) None peer (Get part [] w.job.key))) { calls = to_resume part ++ [] } in
      subst (λ (o : Output). Makes x k k' (work_of w) (work_of (record w { phase = phases.Ends (endings.StoreFault (fill_in w.phase)) })) None (turn (failed_in o.kind)) (request (failed_in o.kind) peer) o)
      (sym is)
      (subst (λ (m : Effect). Makes x k k' (work_of w) (work_of (record w { phase = phases.Ends (endings.StoreFault (fill_in w.phase)) })) None t m (output_of (Fault call (by_job w.number)) [] false)) fails (record {
        effect = refl;
        next = λ e. (λ i. record (work_of w) { part = sym at.gets i; phase = Ends (TransferRefused failures.StoreFault) }) ∙ sym (at.failed c part right rest call part asking);
        calls = subst (λ (l : List Call). MakesCalls l (Some call) k.failing k'.failing) (sym (append-nil (to_resume part))) made;
      }))

  asks_by : (k k' : Seen) (peer : ℕ) (w' : Getting) (out : Output) (what : Asked) → IsAsked w.number w.job.key peer k.parts what → MakesCalls (to_resume part) (failed_asking what) k.failing k'.failing → FollowsAsked peer w w' out what
      → Tells k.parts (λ p. part ≡ length (p w.job.key)) → Makes x k k' (work_of w) (work_of w') None (turn (failed_in out.kind)) (request (failed_in out.kind) peer) out
  asks_by k k' peer w' out (asked.Sent s) is made next tells =
      subst (λ (u : Getting). Makes x k k' (work_of w) (work_of u) None (turn (failed_in out.kind)) (request (failed_in out.kind) peer) out) (sym next.1)
      (subst (λ (o : Output). Makes x k k' (work_of w) (work_of (record w { phase = w'.phase })) None (turn (failed_in o.kind)) (request (failed_in o.kind) peer) o) (sym next.0)
      (get_made k k' peer s w'.phase is.get (told_part k.parts part s.size w.job.key tells is.size) next.2 made))
  asks_by k k' peer w' out (asked.Failed call) is made next tells =
      subst (λ (u : Getting). Makes x k k' (work_of w) (work_of u) None (turn (failed_in out.kind)) (request (failed_in out.kind) peer) out) (sym next.1)
      (fail_made k k' peer call out next.0 (asking_of k.parts w.job.key part call tells is) made)

  asks_made : (k k' : Seen) (peer : ℕ) (w' : Getting) (out : Output) → AsksPeer peer k k' w w' out → Tells k.parts (λ p. part ≡ length (p w.job.key))
      → Makes x k k' (work_of w) (work_of w') None (turn (failed_in out.kind)) (request (failed_in out.kind) peer) out
  asks_made k k' peer w' out a tells = asks_by k k' peer w' out a.what a.is (a.calls part tells) a.next tells

  -- ---- on one that is opened

  opens_made : (k k' : Seen) (peer : ℕ) (out : Output) → IsTalk w.number (record { peer = peer; body = bodies.Open } ∷ []) out → k'.failing ≡ k.failing
      → Makes x k k' (work_of w) (work_of (record w { phase = phases.Opens peer w.job.key })) None (turn (failed_in out.kind)) (sends_to (turn (failed_in out.kind)) (talk (turn (failed_in out.kind))) None peer (Opening ∷ [])) out
  opens_made k k' peer out is same =
      let now : Work = record (work_of w) { fills = true } in
      subst (λ (o : Output). Makes x k k' (work_of w) (work_of (record w { phase = phases.Opens peer w.job.key })) None (turn (failed_in o.kind)) (sends_to (turn (failed_in o.kind)) (talk (turn (failed_in o.kind))) None peer (Opening ∷ [])) o)
      (sym is)
      (record {
        effect = refl;
        next = λ e. (λ i. record now { part = sym at.gets i; phase = Opens peer }) ∙ sym (at.talked c part right rest (sends_to (turn None) (talk (turn None)) None peer (Opening ∷ [])).sent);
        calls = makes_none k.failing k'.failing same;
      })

  -- ---- on either

  approach_by : (k k' : Seen) (peer : ℕ) (w' : Getting) (out : Output) (b : Bool) → Approaches b peer k k' w w' out → Tells k.parts (λ p. part ≡ length (p w.job.key))
      → Makes x k k' (work_of w) (work_of w') None (turn (failed_in out.kind))
      (if b then asks (turn (failed_in out.kind)) w.version None peer (work_of w).part else sends_to (turn (failed_in out.kind)) (talk (turn (failed_in out.kind))) None peer (Opening ∷ [])) out
  approach_by k k' peer w' out true a tells =
      subst (λ (p : Part). Makes x k k' (work_of w) (work_of w') None (turn (failed_in out.kind)) (asks (turn (failed_in out.kind)) w.version None peer p) out) (sym at.gets) (asks_made k k' peer w' out a tells)
  approach_by k k' peer w' out false g tells =
      subst (λ (u : Getting). Makes x k k' (work_of w) (work_of u) None (turn (failed_in out.kind)) (sends_to (turn (failed_in out.kind)) (talk (turn (failed_in out.kind))) None peer (Opening ∷ [])) out) (sym g.next)
      (opens_made k k' peer out g.talk g.leaves.failing)

  pub approach_made : (k k' : Seen) (peer : ℕ) (w' : Getting) (out : Output) → Approaches (is_open x w peer) peer k k' w w' out → Tells k.parts (λ p. part ≡ length (p w.job.key))
      → Makes x k k' (work_of w) (work_of w') None (turn (failed_in out.kind)) (goes_to (turn (failed_in out.kind)) peer) out
  approach_made k k' peer w' out a tells = approach_by k k' peer w' out (is_open x w peer) a tells

-- ---- what it leaves

-- the call that failed, if one did, is none that looks whether the content is there
apart_asked : (what : Asked) (known : Option Parts) (number : ℕ) (key : List ℕ) (peer part : ℕ) (w w' : Getting) (out : Output) → IsAsked number key peer known what → FollowsAsked peer w w' out what → Tells known (λ p. part ≡ length (p key))
    → failing_call (failed_in out.kind) (calls.Has ∷ []) ≡ None
apart_asked (asked.Sent s) known number key peer part w w' out is next tells = ap (λ (o : Output). failing_call (failed_in o.kind) (calls.Has ∷ [])) (next.0 ∙ is.get.is)
apart_asked (asked.Failed call) known number key peer part w w' out is next tells = ap (λ (o : Output). failing_call (failed_in o.kind) (calls.Has ∷ [])) next.0 ∙ apart_call part call (asking_of known key part call tells is)

pub apart : (b : Bool) (peer part : ℕ) (k k' : Seen) (w w' : Getting) (out : Output) → Approaches b peer k k' w w' out → Tells k.parts (λ p. part ≡ length (p w.job.key)) → failing_call (failed_in out.kind) (calls.Has ∷ []) ≡ None
apart true peer part k k' w w' out a tells = apart_asked a.what k.parts w.number w.job.key peer part w w' out a.is a.next tells
apart false peer part k k' w w' out g tells = ap (λ (o : Output). failing_call (failed_in o.kind) (calls.Has ∷ [])) g.talk

-- it awaits DATA

fed_waiting : (key : List ℕ) (peer : ℕ) (s : Sent) (p : Parts) (ph : Phase) → WaitsForData key peer s ph → IsFedBy s.digester key (p key) → IsFed p ph
fed_waiting key peer s p (phases.Data q wanting) waits fed =
    subst (λ d. IsFedBy d wanting.fill (p wanting.fill)) (sym waits.3) (subst (λ (k : List ℕ). IsFedBy s.digester k (p k)) (sym waits.1) fed)
fed_waiting key peer s p ph waits fed = absurd waits

undone_waiting : (key : List ℕ) (peer : ℕ) (s : Sent) (ph : Phase) → WaitsForData key peer s ph → is_done ph ≡ false
undone_waiting key peer s (phases.Data q wanting) waits = refl
undone_waiting key peer s ph waits = absurd waits

own_waiting : (key : List ℕ) (peer : ℕ) (s : Sent) (ph : Phase) → WaitsForData key peer s ph → IfSome (fill_in ph) (λ (k : List ℕ). k ≡ key)
own_waiting key peer s (phases.Data q wanting) waits = waits.1
own_waiting key peer s ph waits = absurd waits

fill_waiting : (key : List ℕ) (peer : ℕ) (s : Sent) (ph : Phase) → WaitsForData key peer s ph → fill_in ph ≡ Some key
fill_waiting key peer s (phases.Data q wanting) waits = ap (λ (k : List ℕ). Some k) waits.1
fill_waiting key peer s ph waits = absurd waits

with_waiting : (target : Option ℕ) (key : List ℕ) (peer : ℕ) (s : Sent) (ph : Phase) → WaitsForData key peer s ph → partner target (phase_of ph) ≡ Some peer
with_waiting target key peer s (phases.Data q wanting) waits = ap (λ (n : ℕ). Some n) waits.0
with_waiting target key peer s ph waits = absurd waits

-- what follows what was asked is of this job
asked_plain : (what : Asked) (known : Option Parts) (peer : ℕ) (w w' : Getting) (out : Output) → IsAsked w.number w.job.key peer known what → FollowsAsked peer w w' out what → IsPlain w.number out.kind
asked_plain (asked.Sent s) known peer w w' out is next = subst (λ (o : Output). IsPlain w.number o.kind) (sym (next.0 ∙ is.get.is)) refl
asked_plain (asked.Failed call) known peer w w' out is next = subst (λ (o : Output). IsPlain w.number o.kind) (sym next.0) refl

asked_failed : (what : Asked) (known : Option Parts) (peer : ℕ) (w w' : Getting) (out : Output) → IsAsked w.number w.job.key peer known what → FollowsAsked peer w w' out what → failed_asking what ≡ failed_in out.kind
asked_failed (asked.Sent s) known peer w w' out is next = sym (ap (λ (o : Output). failed_in o.kind) (next.0 ∙ is.get.is))
asked_failed (asked.Failed call) known peer w w' out is next = sym (ap (λ (o : Output). failed_in o.kind) next.0)

asked_next : (what : Asked) (peer : ℕ) (w w' : Getting) (out : Output) → FollowsAsked peer w w' out what → w' ≡ record w { phase = w'.phase }
asked_next (asked.Sent s) peer w w' out next = next.1
asked_next (asked.Failed call) peer w w' out next = moved w w' (phases.Ends (endings.StoreFault (fill_in w.phase))) next.1

asked_fed : (what : Asked) (known : Option Parts) (peer : ℕ) (w w' : Getting) (out : Output) → IsAsked w.number w.job.key peer known what → FollowsAsked peer w w' out what → ForSome known (λ p. IsFed p w'.phase)
asked_fed (asked.Sent s) known peer w w' out is next = λ p told. fed_waiting w.job.key peer s p w'.phase next.2 (is.fed p told)
asked_fed (asked.Failed call) known peer w w' out is next = λ p told. subst (λ (u : Getting). IsFed p u.phase) (sym next.1) tt

asked_ended : (what : Asked) (known : Option Parts) (peer : ℕ) (w w' : Getting) (out : Output) → IsAsked w.number w.job.key peer known what → FollowsAsked peer w w' out what → out.ended ≡ (is_end out.kind || is_done w'.phase)
asked_ended (asked.Sent s) known peer w w' out is next =
    let e : out ≡ output_of (Talk (Some w.number)) (record { peer = peer; body = bodies.Message (Get s.size [] w.job.key) } ∷ []) false = next.0 ∙ is.get.is in
    ap (λ (o : Output). o.ended) e ∙ sym ((λ i. is_end (e i).kind || is_done w'.phase) ∙ undone_waiting w.job.key peer s w'.phase next.2)
asked_ended (asked.Failed call) known peer w w' out is next = ap (λ (o : Output). o.ended) next.0 ∙ sym (λ i. is_end (next.0 i).kind || is_done (next.1 i).phase)

-- a message at most
asked_pieces : (what : Asked) (known : Option Parts) (peer : ℕ) (w w' : Getting) (out : Output) → IsAsked w.number w.job.key peer known what → FollowsAsked peer w w' out what → AreNoPieces out.sends.items
asked_pieces (asked.Sent s) known peer w w' out is next = subst (λ (o : Output). AreNoPieces o.sends.items) (sym (next.0 ∙ is.get.is)) (tt, tt)
asked_pieces (asked.Failed call) known peer w w' out is next = subst (λ (o : Output). AreNoPieces o.sends.items) (sym next.0) tt

-- it isn't done, and talks with this peer, if it talks with one
asked_undone : (what : Asked) (peer : ℕ) (w w' : Getting) (out : Output) → FollowsAsked peer w w' out what → is_done w'.phase ≡ false
asked_undone (asked.Sent s) peer w w' out next = undone_waiting w.job.key peer s w'.phase next.2
asked_undone (asked.Failed call) peer w w' out next = λ i. is_done (next.1 i).phase

asked_apart : (x : Sight) (what : Asked) (peer : ℕ) (w w' : Getting) (out : Output) → FollowsAsked peer w w' out what → (NamesOther x (work_of w) → (x.repo == peer) ≡ false) → StaysApart x (work_of w) (work_of w')
asked_apart x (asked.Sent s) peer w w' out next other = apart_with x (work_of w) (work_of w') peer (with_waiting w'.job.peer w.job.key peer s w'.phase next.2) other
asked_apart x (asked.Failed call) peer w w' out next other = apart_none x (work_of w) (work_of w') (λ i. partner (next.1 i).job.peer (phase_of (next.1 i).phase))

-- the key that it goes on to fill is its own
asked_own : (what : Asked) (peer : ℕ) (w w' : Getting) (out : Output) → IfSome (fill_in w.phase) (λ (key : List ℕ). key ≡ w.job.key) → FollowsAsked peer w w' out what → IfSome (fill_in w'.phase) (λ (key : List ℕ). key ≡ w'.job.key)
asked_own (asked.Sent s) peer w w' out own next =
    subst (λ (u : Getting). IfSome (fill_in u.phase) (λ (key : List ℕ). key ≡ u.job.key)) (sym next.1) (own_waiting w.job.key peer s w'.phase next.2)
asked_own (asked.Failed call) peer w w' out own next = subst (λ (u : Getting). IfSome (fill_in u.phase) (λ (key : List ℕ). key ≡ u.job.key)) (sym next.1) own

pub approach_own : (b : Bool) (peer : ℕ) (k k' : Seen) (w w' : Getting) (out : Output) → IfSome (fill_in w.phase) (λ (key : List ℕ). key ≡ w.job.key) → Approaches b peer k k' w w' out → IfSome (fill_in w'.phase) (λ (key : List ℕ). key ≡ w'.job.key)
approach_own true peer k k' w w' out own a = asked_own a.what peer w w' out own a.next
approach_own false peer k k' w w' out own g = subst (λ (u : Getting). IfSome (fill_in u.phase) (λ (key : List ℕ). key ≡ u.job.key)) (sym g.next) refl

-- it filled its key already, and fills it still
pub approach_still : (b : Bool) (peer : ℕ) (k k' : Seen) (w w' : Getting) (out : Output) → fill_in w.phase ≡ Some w.job.key → Approaches b peer k k' w w' out → fill_in w'.phase ≡ fill_in w.phase
approach_still true peer k k' w w' out fills a = still a.what a.next
  where
    still : (what : Asked) → FollowsAsked peer w w' out what → fill_in w'.phase ≡ fill_in w.phase
    still (asked.Sent s) next = fill_waiting w.job.key peer s w'.phase next.2 ∙ sym fills
    still (asked.Failed call) next = λ i. fill_in (next.1 i).phase
approach_still false peer k k' w w' out fills g = (λ i. fill_in (g.next i).phase) ∙ sym fills

pub approach_next : (b : Bool) (peer : ℕ) (k k' : Seen) (w w' : Getting) (out : Output) → Approaches b peer k k' w w' out → w' ≡ record w { phase = w'.phase }
approach_next true peer k k' w w' out a = asked_next a.what peer w w' out a.next
approach_next false peer k k' w w' out g = moved w w' (phases.Opens peer w.job.key) g.next

-- it says something, and goes on so
pub goes_kept : (x : Sight) (sent : List Parcel) (ph : Phase) (rows rows' : Rows) (k m k' : Seen) (w w' : Getting) (out : Output) → is_done ph ≡ false → ((p : Parts) → IsFed p ph) → AreNoPieces sent → GoesOn sent ph m k' w w' out → LeavesAll k m → rows'.holds ≡ rows.holds → rows'.bars ≡ rows.bars
    → FillsSo (work_of w) (work_of w') (is_filling rows) (is_filling rows') → HasFill rows' w' → StaysApart x (work_of w) (work_of w') → Keeps x None rows rows' k k' w w' out
goes_kept x sent ph rows rows' k m k' w w' out undone fed pieces g l holds bars filled has apart =
    keeps x rows rows' k k' w w' out (subst (λ (o : Output). IsPlain w.number o.kind) (sym g.talk) refl) (λ i. (g.next i).number) (λ i. (g.next i).slot) (λ i. (g.next i).job) holds bars filled
    (subst (λ (o : Output). LeavesBut (failed_in o.kind) k k') (sym g.talk) (but_none k k' (leaves_all k m k' l g.leaves))) has (λ p told _. subst (λ (u : Getting). IsFed p u.phase) (sym g.next) (fed p))
    (ap (λ (o : Output). o.ended) g.talk ∙ sym ((λ i. is_end (g.talk i).kind || is_done (g.next i).phase) ∙ undone)) (subst (λ (o : Output). AreNoPieces o.sends.items) (sym g.talk) pieces) apart (λ stays was. (λ i. is_done (g.next i).phase) ∙ undone)

pub approach_kept : (x : Sight) (b : Bool) (peer : ℕ) (rows rows' : Rows) (k m k' : Seen) (w w' : Getting) (out : Output) → Approaches b peer m k' w w' out → LeavesAll k m → rows'.holds ≡ rows.holds → rows'.bars ≡ rows.bars
    → FillsSo (work_of w) (work_of w') (is_filling rows) (is_filling rows') → HasFill rows' w' → (NamesOther x (work_of w) → (x.repo == peer) ≡ false) → Keeps x None rows rows' k k' w w' out
approach_kept x true peer rows rows' k m k' w w' out a l holds bars filled has other =
    let e = asked_next a.what peer w w' out a.next in
    keeps x rows rows' k k' w w' out (asked_plain a.what m.parts peer w w' out a.is a.next) (λ i. (e i).number) (λ i. (e i).slot) (λ i. (e i).job) holds bars filled
    (subst (λ (o : Option Call). LeavesBut o k k') (asked_failed a.what m.parts peer w w' out a.is a.next) (leaves_then (failed_asking a.what) k m k' l a.leaves)) has
    (λ p told _. asked_fed a.what m.parts peer w w' out a.is a.next p (l.parts ∙ told)) (asked_ended a.what m.parts peer w w' out a.is a.next) (asked_pieces a.what m.parts peer w w' out a.is a.next)
    (asked_apart x a.what peer w w' out a.next other) (λ stays was. asked_undone a.what peer w w' out a.next)
approach_kept x false peer rows rows' k m k' w w' out g l holds bars filled has other =
    goes_kept x (record { peer = peer; body = bodies.Open } ∷ []) (phases.Opens peer w.job.key) rows rows' k m k' w w' out refl (λ p. tt) (tt, tt) g l holds bars filled has
    (apart_with x (work_of w) (work_of w') peer (λ i. partner (g.next i).job.peer (phase_of (g.next i).phase)) other)
