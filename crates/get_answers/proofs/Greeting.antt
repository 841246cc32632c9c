-- A get whose connection opens: it says VERSION, and then GET.
use Rattle.std.proofs.Common.{◌≡◌, ℕ, ◌++◌, ◌≤◌, Bool, true, false, List, [], ◌∷◌, length, Option, Some, None, Ok, refl, sym, ap, subst, ◌∙◌, arith}
use Rattle.std.specs.Prelude.{if◌then◌else◌, nat_le}
use Rattle.std.specs.Option.{ForSome}
use Rattle.std.proofs.lemmas.Bool.Decides.{nat_tests}
use Rattle.std.proofs.lemmas.List.{append-nil}
use Rattle.std.proofs.lemmas.Option.{same_Some}
use Rattle.annex_base.specs.declared.kinds.Call.{Call}
use Rattle.annex_base.specs.declared.kinds.Call.TheVariants as calls
use Rattle.annex_base.specs.declared.memory.NoMemory.{NoMemory}
use Rattle.run_data.specs.declared.entry.By.TheVariants.{Job as by_job}
use Rattle.run_data.specs.declared.entry.EntryKind.TheVariants.{Fault, Talk}
use Rattle.run_data.specs.declared.entry.FrameView.{FrameView}
use Rattle.p2p_wire.specs.declared.message.Message.TheVariants.{AuthSuccess, Get, Version}
use Rattle.p2p_wire.specs.Streams.{IsLine}
use Rattle.key_verify.specs.declared.digester.Digester.{Digester}
use Rattle.object_store.specs.Stores.{Contents, Parts}
use Rattle.node_model.specs.Calls.{to_read, to_resume}
use Rattle.node_model.specs.Jobs as Jobs
use Rattle.node_model.specs.Jobs.{Gets, fault_of, fault_phase, side_of}
use Rattle.node_model.specs.JobStep.{Turn, attempts, by_me, key_of, quietly, says_to, talk}
use Rattle.node_model.specs.Look.{failing_call, unless}
use Rattle.node_model.specs.Rows.{option_is}
use Rattle.node_model.specs.Turns.{takes}
use Rattle.content_lock.specs.CallsMade.{MakesCalls}
use Rattle.content_lock.specs.Rows.{Rows}
use Rattle.session_state.proofs.Calling.{makes_none}
use Rattle.session_state.specs.declared.doing.Wanting.{Wanting}
use Rattle.session_state.specs.declared.incoming.Incoming.{Incoming}
use Rattle.session_state.specs.declared.incoming.Incoming.TheVariants as incoming
use Rattle.session_state.specs.Talking.{IsFedBy, Tells}
use Rattle.part_filling.proofs.PartCalls.{is_some_left, told_part}
use Rattle.transfer_turns.specs.declared.parcels.Output.{Output}
use Rattle.transfer_turns.specs.Steps.{LeavesBut, Seen, StepsIn}
use Rattle.transfer_turns.specs.Turns.{Sight, output_of, turn_in}
use Rattle.transfer_turns.proofs.Frames.{line_is}
use Rattle.transfer_turns.proofs.Hearings.{failed_steps, said_steps}
use Rattle.transfer_turns.proofs.Works.{learns_version}
use Rattle.get_phases.specs.declared.getting.Getting.{Getting}
use Rattle.get_phases.specs.declared.getting.Ending.TheVariants as endings
use Rattle.get_phases.specs.declared.getting.Phase.{Phase}
use Rattle.get_phases.specs.declared.getting.Phase.TheVariants as phases
use Rattle.get_phases.specs.declared.sent.Asked.{Asked}
use Rattle.get_phases.specs.declared.sent.Asked.TheVariants as asked
use Rattle.get_phases.specs.declared.sent.Sent.{Sent}
use Rattle.get_phases.specs.Asking.{IsAsked, IsOfAsking, IsSent, WaitsForData, failed_asking}
use Rattle.get_phases.specs.Getting.{Does}
use Rattle.get_phases.specs.Gets.{HasFill, SeesPart, fill_in, work_of}
use Rattle.get_phases.proofs.Keeping.{keeps_fault, keeps_still, nothing_left}
use Rattle.get_phases.proofs.Losses.{asks_so, at, from_phase, made_so, message_to}
use Rattle.transfer_turns.proofs.Partners.{apart_same}

-- ---- the answer to an opening

opened_at : (x : Sight) (rows : Rows) (k : Seen) (w : Getting) (peer : ℕ) (fill id : List ℕ) → IsLine (Version 3) → HasFill rows (at w (phases.Opens peer fill))
    → Does {E = NoMemory} x (Some (incoming.Message (AuthSuccess id))) rows rows k k (at w (phases.Opens peer fill)) (at w (phases.Greets peer fill)) (Ok (output_of (Talk (Some w.number)) (message_to peer (Version 3)) false))
opened_at x rows k w peer fill id line has = (
  said_steps x rows k k (work_of (at w (phases.Opens peer fill))) (work_of (at w (phases.Greets peer fill))) (SeesPart k.parts w.job.key (phases.Opens peer fill) (Some (incoming.Message (AuthSuccess id)))) peer refl refl
      (AuthSuccess id) w.version (λ f l. refl) (Version 3) false
      (λ c told part right s rest f.
      let t = turn_in x rows c part right None rest (work_of (at w (phases.Opens peer fill))) in
      asks_so (takes t f peer (Jobs.Opens peer) (AuthSuccess id)) (says_to t (talk t) (Some f) peer (Version 3)) [] None k k refl (makes_none k.failing k.failing refl))
      line.0 (λ time. refl),
  keeps_still x (Some (incoming.Message (AuthSuccess id))) rows k k (at w (phases.Opens peer fill)) (at w (phases.Greets peer fill)) (Talk (Some w.number)) (message_to peer (Version 3)) has refl refl refl refl refl refl refl (nothing_left k) refl
      (λ p is was. tt) (tt, tt) (λ named was. was),
)

-- the fill that it handed over is that of its key still
pub opened_does : (x : Sight) (rows : Rows) (k : Seen) (w bare w' : Getting) (peer : ℕ) (fill given id : List ℕ) (out : Output) → w.phase ≡ phases.Opens peer fill → fill_in w.phase ≡ Some given → bare ≡ at w phases.Fresh
    → w' ≡ at bare (phases.Greets peer given) → out ≡ output_of (Talk (Some w.number)) (message_to peer (Version 3)) false → IsLine (Version 3) → HasFill rows w → Does {E = NoMemory} x (Some (incoming.Message (AuthSuccess id))) rows rows k k w w' (Ok out)
opened_does x rows k w bare w' peer fill given id out stands had from next is line has =
    let own : given ≡ fill = same_Some given fill (sym had ∙ ap fill_in stands) in
    from_phase x (Some (incoming.Message (AuthSuccess id))) rows rows k k w w' (phases.Opens peer fill) (Ok out) stands
    (λ filled. made_so x (Some (incoming.Message (AuthSuccess id))) rows rows k k (at w (phases.Opens peer fill)) w' (at w (phases.Greets peer fill)) out (output_of (Talk (Some w.number)) (message_to peer (Version 3)) false)
    (next ∙ (λ i. at (from i) (phases.Greets peer (own i)))) is (opened_at x rows k w peer fill id line filled)) has

-- ---- the answer to VERSION

-- it is at most 3, and the bytes are asked for
greets_asks : (t : Turn) (f : FrameView) (peer version : ℕ) → version ≤ 3 → t.w.part ≡ Gets
    → takes t f peer (Jobs.Greets peer) (Version version) ≡ attempts t (to_resume t.look.part) (Some f) (says_to t (talk t) (Some f) peer (Get t.look.part [] (key_of t)))
greets_asks t f peer version low gets = let e : nat_le version 3 ≡ true = grind (arith, nat_tests) in rw (e, gets) refl

-- the version that is known then
abbrev pub knows : Getting → ℕ → ℕ → ℕ
knows w peer version = if option_is w.job.peer peer then version else w.version

module _ (x : Sight) (rows : Rows) (k k' : Seen) (w : Getting) (peer version : ℕ) (fill : List ℕ) (low : version ≤ 3) (has : HasFill rows (at w (phases.Greets peer fill))) where
  abbrev greeting : Getting
  greeting = at w (phases.Greets peer fill)

  abbrev turn : Option Call → Contents → ℕ → Bool → Turn → Turn
  turn fails c part right rest = turn_in x rows c part right fails rest (work_of greeting)

  abbrev told : Option Incoming
  told = Some (incoming.Message (Version version))

  abbrev waiting : Phase → Getting
  waiting ph = record w { version = knows w peer version; phase = ph }

  sent_asks : (s : Sent) (c : Contents) (part : ℕ) (right : Bool) (rest : Turn) (f : FrameView) → s.size ≡ part
      → takes (turn None c part right rest) f peer (Jobs.Greets peer) (Version version) ≡ record (says_to (turn None c part right rest) (talk (turn None c part right rest)) (Some f) peer (Get s.size [] w.job.key)) { calls = to_resume part ++ [] }
  sent_asks s c part right rest f size =
      let t = turn None c part right rest in
      greets_asks t f peer version low refl ∙ (λ i. record (says_to t (talk t) (Some f) peer (Get (sym size i) [] w.job.key)) { calls = to_resume part ++ [] })

  fed_of : (s : Sent) (wanting : Wanting) → wanting.fill ≡ fill → wanting.digester ≡ s.digester → ForSome k.parts (λ p. IsFedBy s.digester w.job.key (p w.job.key)) → (p : Parts) → k.parts ≡ Some p
      → IsFedBy wanting.digester wanting.fill (p wanting.fill)
  fed_of s wanting own same fed p is =
      subst (λ (d : Option Digester). IsFedBy d wanting.fill (p wanting.fill)) (sym same) (subst (λ (key : List ℕ). IsFedBy s.digester key (p key)) (sym (own ∙ has.0)) (fed p is))

  pub sent_at : (s : Sent) (ph : Phase) → WaitsForData fill peer s ph → IsSent w.number w.job.key peer k.parts s
      → ((part : ℕ) → Tells k.parts (λ p. part ≡ length (p w.job.key)) → MakesCalls (to_resume part) None k.failing k'.failing) → LeavesBut None k k'
      → Does {E = NoMemory} x told rows rows k k' greeting (waiting ph) (Ok (output_of (Talk (Some w.number)) (message_to peer (Get s.size [] w.job.key)) false))
  sent_at s (phases.Data p wanting) waits is made leaves = (
    said_steps x rows k k' (work_of greeting) (work_of (waiting (phases.Data p wanting))) (SeesPart k.parts w.job.key (phases.Greets peer fill) told) peer refl refl
        (Version version) (knows w peer version) (λ f l. learns_version (work_of greeting) peer version f (line_is f.body (Version version) l)) (Get s.size [] w.job.key) false
        (λ c there part right tells rest f.
        let t = turn None c part right rest in
        asks_so (takes t f peer (Jobs.Greets peer) (Version version)) (says_to t (talk t) (Some f) peer (Get s.size [] w.job.key)) (to_resume part ++ []) None k k'
        (sent_asks s c part right rest f (told_part k.parts part s.size w.job.key tells is.size))
        (subst (λ (l : List Call). MakesCalls l None k.failing k'.failing) (sym (append-nil (to_resume part))) (made part tells)))
        is.get.line.0 (λ time. λ i. record (work_of greeting) { version = knows w peer version; phase = Jobs.GetsData (waits.0 i) (waits.2 i) }),
    keeps_still x told rows k k' greeting (waiting (phases.Data p wanting)) (Talk (Some w.number)) (message_to peer (Get s.size [] w.job.key)) has refl refl refl refl refl refl (ap (λ (key : List ℕ). Some key) waits.1) leaves refl
        (λ parts there was. fed_of s wanting waits.1 waits.3 is.fed parts there) (tt, tt) (apart_same x (work_of greeting) (work_of (waiting (phases.Data p wanting))) (ap (λ (q : ℕ). Some q) waits.0)),
  )
  sent_at s ph waits is made leaves = absurd waits

  -- ---- or a call of the store failed

  fails_so : (part : ℕ) (call : Call) → IsOfAsking part call → failing_call (Some call) (to_resume part) ≡ Some call
  fails_so part calls.PartSize of = refl
  fails_so part calls.ReadPart of = ap (λ (b : Bool). failing_call (Some calls.ReadPart) (calls.PartSize ∷ to_read b)) (sym (is_some_left part of))
  fails_so part call of = absurd of

  moves_so : (part : ℕ) (call : Call) (r time : ℕ) → IsOfAsking part call → fault_of r (work_of greeting) time call ≡ fault_phase r (work_of greeting) Gets (side_of (work_of greeting)) (Jobs.Greets peer)
  moves_so part calls.PartSize r time of = refl
  moves_so part calls.ReadPart r time of = refl
  moves_so part call r time of = absurd of

  failed_asks : (c : Contents) (part : ℕ) (right : Bool) (rest : Turn) (f : FrameView) (call : Call) → IsOfAsking part call
      → takes (turn (Some call) c part right rest) f peer (Jobs.Greets peer) (Version version) ≡ record (quietly (Fault call (by_me (turn (Some call) c part right rest))) (Some f)) { calls = to_resume part ++ [] }
  failed_asks c part right rest f call of =
      let t = turn (Some call) c part right rest in
      greets_asks t f peer version low refl
      ∙ (λ i. record (unless (fails_so part call of i) (λ gone. quietly (Fault gone (by_me t)) (Some f)) (says_to t (talk t) (Some f) peer (Get part [] w.job.key))) { calls = to_resume part ++ [] })

  asking_of : (known : Option Parts) (part : ℕ) (call : Call) → Tells known (λ p. part ≡ length (p w.job.key)) → ForSome known (λ p. IsOfAsking (length (p w.job.key)) call) → IsOfAsking part call
  asking_of None part call tells is = absurd tells
  asking_of (Some p) part call tells is = subst (λ (n : ℕ). IsOfAsking n call) (sym tells) (is p refl)

  failed_so : (call : Call) (known : Option Parts) → k.parts ≡ known → ForSome known (λ p. IsOfAsking (length (p w.job.key)) call)
      → ((part : ℕ) → Tells k.parts (λ p. part ≡ length (p w.job.key)) → MakesCalls (to_resume part) (Some call) k.failing k'.failing)
      → StepsIn x rows k k' (work_of greeting) (work_of (at w (phases.Ends (endings.StoreFault (Some fill))))) told (SeesPart k.parts w.job.key (phases.Greets peer fill) told) (output_of (Fault call (by_job w.number)) [] false)
  failed_so call None untold is made = λ f comes c there part right rest tells. absurd (subst (λ (o : Option Parts). Tells o (λ p. part ≡ length (p w.job.key))) untold tells)
  failed_so call (Some p) known is made =
      failed_steps x rows k k' (work_of greeting) (work_of (at w (phases.Ends (endings.StoreFault (Some fill))))) (SeesPart k.parts w.job.key (phases.Greets peer fill) told) peer refl refl (Version version) call false
      (λ c there part right tells rest f.
      let t = turn (Some call) c part right rest in
      let of : IsOfAsking part call = asking_of (Some p) part call (subst (λ (o : Option Parts). Tells o (λ q. part ≡ length (q w.job.key))) known tells) is in
      asks_so (takes t f peer (Jobs.Greets peer) (Version version)) (quietly (Fault call (by_me t)) (Some f)) (to_resume part ++ []) (Some call) k k' (failed_asks c part right rest f call of)
      (subst (λ (l : List Call). MakesCalls l (Some call) k.failing k'.failing) (sym (append-nil (to_resume part))) (made part tells)))
      tt (λ r time. moves_so (length (p w.job.key)) call r time (is p refl)) refl

  pub failed_at : (call : Call) → ForSome k.parts (λ p. IsOfAsking (length (p w.job.key)) call)
      → ((part : ℕ) → Tells k.parts (λ p. part ≡ length (p w.job.key)) → MakesCalls (to_resume part) (Some call) k.failing k'.failing) → LeavesBut (Some call) k k'
      → Does {E = NoMemory} x told rows rows k k' greeting (at w (phases.Ends (endings.StoreFault (Some fill)))) (Ok (output_of (Fault call (by_job w.number)) [] false))
  failed_at call is made leaves = (failed_so call k.parts refl is made, keeps_fault x told rows k k' greeting (at w (phases.Ends (endings.StoreFault (Some fill)))) call has refl refl leaves refl)

-- so by what was asked
module _ (x : Sight) (rows : Rows) (k k' : Seen) (w w' : Getting) (peer version : ℕ) (fill : List ℕ) (out : Output) (what : Asked) (low : version ≤ 3) (stands : w.phase ≡ phases.Greets peer fill)
    (is : IsAsked w.number w.job.key peer k.parts what) (made : (part : ℕ) → Tells k.parts (λ p. part ≡ length (p w.job.key)) → MakesCalls (to_resume part) (failed_asking what) k.failing k'.failing) (leaves : LeavesBut (failed_asking what) k k')
    (has : HasFill rows w) where
  pub sent_does : (s : Sent) → what ≡ asked.Sent s → w' ≡ record w { version = knows w peer version; phase = w'.phase } → WaitsForData fill peer s w'.phase → out ≡ s.output
      → Does {E = NoMemory} x (Some (incoming.Message (Version version))) rows rows k k' w w' (Ok out)
  sent_does s sent next waits said =
      let sending : IsSent w.number w.job.key peer k.parts s = subst (λ (a : Asked). IsAsked w.number w.job.key peer k.parts a) sent is in
      from_phase x (Some (incoming.Message (Version version))) rows rows k k' w w' (phases.Greets peer fill) (Ok out) stands
      (λ given. made_so x (Some (incoming.Message (Version version))) rows rows k k' (at w (phases.Greets peer fill)) w' (record w { version = knows w peer version; phase = w'.phase }) out
      (output_of (Talk (Some w.number)) (message_to peer (Get s.size [] w.job.key)) false) next (said ∙ sending.get.is)
      (sent_at x rows k k' w peer version fill low given s w'.phase waits sending
      (subst (λ (a : Asked). (part : ℕ) → Tells k.parts (λ p. part ≡ length (p w.job.key)) → MakesCalls (to_resume part) (failed_asking a) k.failing k'.failing) sent made)
      (subst (λ (a : Asked). LeavesBut (failed_asking a) k k') sent leaves))) has

  pub unsent_does : (call : Call) → what ≡ asked.Failed call → w' ≡ at w (phases.Ends (endings.StoreFault (fill_in w.phase))) → out ≡ output_of (Fault call (by_job w'.number)) [] false
      → Does {E = NoMemory} x (Some (incoming.Message (Version version))) rows rows k k' w w' (Ok out)
  unsent_does call failed next said =
      from_phase x (Some (incoming.Message (Version version))) rows rows k k' w w' (phases.Greets peer fill) (Ok out) stands
      (λ given. made_so x (Some (incoming.Message (Version version))) rows rows k k' (at w (phases.Greets peer fill)) w' (at w (phases.Ends (endings.StoreFault (Some fill)))) out
      (output_of (Fault call (by_job w.number)) [] false) (next ∙ (λ i. at w (phases.Ends (endings.StoreFault (fill_in (stands i)))))) (said ∙ (λ i. output_of (Fault call (by_job (next i).number)) [] false))
      (failed_at x rows k k' w peer version fill low given call (subst (λ (a : Asked). IsAsked w.number w.job.key peer k.parts a) failed is)
      (subst (λ (a : Asked). (part : ℕ) → Tells k.parts (λ p. part ≡ length (p w.job.key)) → MakesCalls (to_resume part) (failed_asking a) k.failing k'.failing) failed made)
      (subst (λ (a : Asked). LeavesBut (failed_asking a) k k') failed leaves))) has
