-- A remote drop's request, in the words of the step.
use Rattle.std.proofs.Common.{◌≡◌, inl, ℕ, Bool, true, false, List, [], ◌∷◌, Option, Some, None, Result, Ok, Err, refl, sym, ap, ◌∙◌, subst}
use Rattle.std.specs.Prelude.{IfOk, ◌==◌, if◌then◌else◌, nat_lt}
use Rattle.std.proofs.lemmas.List.{append-nil}
use Rattle.std.proofs.lemmas.Bool.{eqb-true}
use Rattle.annex_base.specs.declared.kinds.Call.{Call}
use Rattle.annex_base.specs.declared.memory.NoMemory.{NoMemory}
use Rattle.drop_proof.specs.declared.rule.Need.{Need}
use Rattle.drop_proof.specs.Judging.{least_end}
use Rattle.run_data.specs.declared.entry.EntryKind.{EntryKind}
use Rattle.run_data.specs.declared.entry.EntryKind.TheVariants.{Order, Talk}
use Rattle.run_data.specs.declared.entry.FrameText.{FrameText}
use Rattle.run_data.specs.declared.entry.FrameText.TheVariants.{Line}
use Rattle.run_data.specs.declared.entry.FrameView.{FrameView}
use Rattle.run_data.specs.declared.job.DropRefusal.TheVariants as refusals
use Rattle.run_data.specs.declared.job.Outcome.TheVariants.{Refused}
use Rattle.p2p_wire.specs.declared.message.Message.{Message}
use Rattle.p2p_wire.specs.declared.message.Message.TheVariants.{GetTimestamp, LockContent, Remove}
use Rattle.p2p_wire.specs.Messages.{message_of, text_of}
use Rattle.node_model.specs.Ends.{EndName, End, frames}
use Rattle.node_model.specs.Jobs as Jobs
use Rattle.node_model.specs.Jobs.{Drops, job_end, to_phase}
use Rattle.node_model.specs.JobStep.{Turn, end_with, quietly, says_to, talk}
use Rattle.node_model.specs.DropStep.{asks_copy, asks_lock, asks_target, first_end, target as target_at}
use Rattle.node_model.specs.Knows.{Reading}
use Rattle.node_model.specs.Look.{Effect, as_told, failed_in}
use Rattle.node_model.specs.Requests.{asks, goes_to}
use Rattle.node_model.specs.Slots.{job_of}
use Rattle.object_store.specs.Stores.{Contents}
use Rattle.content_lock.specs.Rows.{AreAfter, Rows}
use Rattle.drop_phases.specs.declared.phase.Ending.TheVariants as endings
use Rattle.drop_phases.specs.declared.phase.Phase.{Phase}
use Rattle.drop_phases.specs.declared.phase.Phase.TheVariants as phases
use Rattle.drop_phases.specs.declared.phase.Token.{Token}
use Rattle.drop_phases.specs.declared.turn.Output.{Output}
use Rattle.drop_phases.specs.Worker.{Worker}
use Rattle.drop_phases.specs.Working.{Rest, Sight, end_in, frames_of, phase_as, sight, turn_in, work_of}
use Rattle.drop_phases.specs.Doing.{Acts, DoesAsAsked, contents_after, next_work}
use Rattle.drop_phases.specs.Feeding.{FitsRemote, HasNoBar}
use Rattle.remote_requests.specs.Remote.{IsRemote, AreRemoteProtocolLines, Request, Says, Speaks, first_request, known_remotely, said_parcels, target_request, time_request}
use Rattle.remote_requests.proofs.Losing.{target_is}
use Rattle.remote_requests.proofs.RemoteVerdicts.{end_is}

abbrev pub said_texts : Option Message → List FrameText
said_texts None = []
said_texts (Some m) = Line (text_of m) ∷ []

-- what a step makes that says this
abbrev pub request_made : Turn → Option FrameView → ℕ → Request → Effect
request_made t taken peer q = record { kind = q.kind; taken = taken; sent = frames (job_end t.w peer) (end_with t peer) (said_texts q.says); lines = []; calls = [] }

module _ (x : Sight) (rows : Rows) (p : List ℕ → Bool) (fails : Option Call) (rest : Rest) (w : Worker) (need : Need) (target : ℕ) (remote : IsRemote target w) (needs : need ≡ x.read.need) where
  abbrev turn : Turn
  turn = turn_in x rows p fails rest w

  at : target_at turn ≡ target
  at = target_is rest w target x.read.repo remote

  time_said : (version peer : ℕ) (taken : Option FrameView) → target ≡ peer
      → (if nat_lt version 3 then quietly (talk turn) taken else says_to turn (talk turn) taken (target_at turn) GetTimestamp) ≡ request_made turn taken peer (time_request w version)
  time_said version peer taken same = go (nat_lt version 3)
    where
      go : (b : Bool) → (if b then quietly (talk turn) taken else says_to turn (talk turn) taken (target_at turn) GetTimestamp)
          ≡ request_made turn taken peer (if b then record { kind = Talk (Some w.number); says = None; phase = phases.Ends (endings.OldProtocol version) } else record { kind = Talk (Some w.number); says = Some GetTimestamp; phase = phases.AsksTime })
      go true = refl
      go false = λ i. says_to turn (talk turn) taken ((at ∙ same) i) GetTimestamp

  target_said : (version peer : ℕ) (end : Option ℕ) (taken : Option FrameView) → target ≡ peer → asks_target turn version taken end ≡ request_made turn taken peer (target_request need w target version end)
  target_said version peer None taken same = λ i. says_to turn (Order w.number (at i) None (sym needs i) w.job.key) taken ((at ∙ same) i) (Remove w.job.key)
  target_said version peer (Some end) taken same = time_said version peer taken same

  pub asks_said : (time version peer : ℕ) (end : Option ℕ) (taken : Option FrameView) → end ≡ first_end turn
      → asks turn version taken peer Drops ≡ request_made turn taken peer (first_request need w target time peer version end)
  asks_said time version peer end taken ends =
      (λ i. asks_copy turn version taken peer (remote.side i)) ∙ ((λ i. if at i == peer then asks_target turn version taken (sym ends i) else asks_lock turn taken peer) ∙ go (target == peer) refl)
    where
      go : (b : Bool) → (target == peer) ≡ b → (if b then asks_target turn version taken end else asks_lock turn taken peer)
          ≡ request_made turn taken peer (if b then target_request need w target version end else record { kind = Talk (Some w.number); says = Some (LockContent w.job.key); phase = phases.AsksLock peer time })
      go true e = target_said version peer end taken (eqb-true target peer e)
      go false e = refl

-- ---- the work that follows, of a job that stood on no connection

next_lock : (t : Turn) (peer : ℕ) (key : List ℕ) → t.w.part ≡ Drops → t.w.phase ≡ Jobs.Next → message_of (text_of (LockContent key)) ≡ Some (LockContent key)
    → next_work t (says_to t (talk t) None peer (LockContent key)) ≡ to_phase t.w (Jobs.AsksLock peer t.look.time)
next_lock t peer key drops next reads = rw (drops, next, reads) refl

next_time : (t : Turn) (peer : ℕ) → t.w.part ≡ Drops → t.w.phase ≡ Jobs.Next → next_work t (says_to t (talk t) None peer GetTimestamp) ≡ to_phase t.w Jobs.AsksTime
next_time t peer drops next = rw (drops, next) refl

next_order : (t : Turn) (peer target : ℕ) (need : Need) (key : List ℕ) → t.w.part ≡ Drops → t.w.phase ≡ Jobs.Next → message_of (text_of (Remove key)) ≡ Some (Remove key)
    → next_work t (says_to t (Order t.w.number target None need key) None peer (Remove key)) ≡ to_phase t.w Jobs.Orders
next_order t peer target need key drops next reads = rw (drops, next, reads) refl

next_old : (t : Turn) → t.w.part ≡ Drops → t.w.phase ≡ Jobs.Next → next_work t (quietly (talk t) None) ≡ to_phase t.w (Jobs.Ends (Refused (refusals.OldProtocol t.w.version)))
next_old t drops next = rw (drops, next) refl

pub next_request : (x : Sight) (rows : Rows) (p : List ℕ → Bool) (fails : Option Call) (rest : Rest) (w : Worker) (need : Need) (target time peer : ℕ) (end : Option ℕ) → w.phase ≡ phases.Next → x.time ≡ time → AreRemoteProtocolLines w.job.key
    → work_of rest (record w { phase = (first_request need w target time peer w.version end).phase })
    ≡ next_work (turn_in x rows p fails rest w) (request_made (turn_in x rows p fails rest w) None peer (first_request need w target time peer w.version end))
next_request x rows p fails rest w need target time peer end at same reads = by_peer (target == peer) end
  where
    t : Turn
    t = turn_in x rows p fails rest w

    So : Request → Type 0
    So q = work_of rest (record w { phase = q.phase }) ≡ next_work t (request_made t None peer q)

    by_version : (b : Bool) → So (if b then record { kind = Talk (Some w.number); says = None; phase = phases.Ends (endings.OldProtocol w.version) } else record { kind = Talk (Some w.number); says = Some GetTimestamp; phase = phases.AsksTime })
    by_version true = sym (next_old t refl (ap phase_as at))
    by_version false = sym (next_time t peer refl (ap phase_as at))

    by_end : (e : Option ℕ) → So (target_request need w target w.version e)
    by_end None = sym (next_order t peer target need w.job.key refl (ap phase_as at) reads.order.0)
    by_end (Some e) = by_version (nat_lt w.version 3)

    by_peer : (b : Bool) (e : Option ℕ) → So (if b then target_request need w target w.version e else record { kind = Talk (Some w.number); says = Some (LockContent w.job.key); phase = phases.AsksLock peer time })
    by_peer true e = by_end e
    by_peer false e = ap (λ (n : ℕ). to_phase (work_of rest w) (Jobs.AsksLock peer n)) (sym same) ∙ sym (next_lock t peer w.job.key refl (ap phase_as at) reads.lock.0)

-- ---- a step that says it

parcels_said : (ends : EndName → End) (slot peer : ℕ) (o : Option Message) → frames_of ends slot (said_parcels peer o) ≡ frames (end_in slot peer) (ends (end_in slot peer)) (said_texts o)
parcels_said ends slot peer None = refl
parcels_said ends slot peer (Some m) = append-nil (frames (end_in slot peer) (ends (end_in slot peer)) (Line (text_of m) ∷ []))

pub said_does_as : (x : Sight) (rows : Rows) (p : List ℕ → Bool) (w w' u : Worker) (taken : Option FrameView) (asked : Turn → Effect) (q : Request) (peer : ℕ) (out : Output) → out.kind ≡ q.kind → out.sends.items ≡ said_parcels peer q.says → w' ≡ u
    → failed_in q.kind ≡ None → AreAfter q.kind rows rows → job_of q.kind ≡ Some w.number
    → ((rest : Rest) → asked (turn_in x rows p None rest w) ≡ request_made (turn_in x rows p None rest w) taken peer q)
    → ((rest : Rest) → work_of rest u ≡ next_work (turn_in x rows p None rest w) (request_made (turn_in x rows p None rest w) taken peer q))
    → DoesAsAsked x rows rows p w w' taken asked out
said_does_as x rows p w w' u taken asked q peer out kind sends is plain after whose asks moves =
    record {
      makes = λ rest. (λ i. record { kind = kind i; taken = taken; sent = (ap (frames_of x.ends w.slot) sends ∙ parcels_said x.ends w.slot peer q.says) i; lines = []; calls = [] })
          ∙ ap as_told (sym (asks rest) ∙ ap (λ (f : Option Call). asked (turn_in x rows p f rest w)) (sym faultless));
      next = λ going rest. ap (work_of rest) is ∙ (moves rest ∙ (ap (next_work (turn_in x rows p None rest w)) (sym (asks rest))
          ∙ ap (λ (f : Option Call). next_work (turn_in x rows p f rest w) (asked (turn_in x rows p f rest w))) (sym faultless)));
      after = subst (λ (e : EntryKind). AreAfter e rows rows) (sym kind) after;
      whose = ap job_of kind ∙ whose;
    }
  where
    faultless : failed_in out.kind ≡ None
    faultless = ap failed_in kind ∙ plain

pub said_does : (x : Sight) (rows : Rows) (p : List ℕ → Bool) (w w' : Worker) (taken : Option FrameView) (asked : Turn → Effect) (q : Request) (peer : ℕ) (out : Output) → Says q peer w w' out
    → failed_in q.kind ≡ None → AreAfter q.kind rows rows → job_of q.kind ≡ Some w.number
    → ((rest : Rest) → asked (turn_in x rows p None rest w) ≡ request_made (turn_in x rows p None rest w) taken peer q)
    → ((rest : Rest) → work_of rest (record w { phase = q.phase }) ≡ next_work (turn_in x rows p None rest w) (request_made (turn_in x rows p None rest w) taken peer q))
    → DoesAsAsked x rows rows p w w' taken asked out
said_does x rows p w w' taken asked q peer out s = said_does_as x rows p w w' (record w { phase = q.phase }) taken asked q peer out s.kind s.sends s.next

-- a request is an entry of the job that is no fault and changes no row
pub record IsPlain (kind : EntryKind) (number : ℕ) (rows : Rows) : Type 0 where
  pub faultless : failed_in kind ≡ None
  pub still : (known : Option Contents) → contents_after known kind ≡ known
  pub after : AreAfter kind rows rows
  pub whose : job_of kind ≡ Some number

pub request_plain : (need : Need) (w : Worker) (target time peer version : ℕ) (end : Option ℕ) (rows : Rows) → IsPlain (first_request need w target time peer version end).kind w.number rows
request_plain need w target time peer version end rows = by_peer (target == peer) end
  where
    kind_in : Request → EntryKind
    kind_in q = q.kind

    talks : IsPlain (Talk (Some w.number)) w.number rows
    talks = record { faultless = refl; still = λ known. refl; after = record { holds = refl; bars = λ k. refl; fills = refl }; whose = refl }

    by_version : (b : Bool) → IsPlain (kind_in (if b then record { kind = Talk (Some w.number); says = None; phase = phases.Ends (endings.OldProtocol version) } else record { kind = Talk (Some w.number); says = Some GetTimestamp; phase = phases.AsksTime })) w.number rows
    by_version true = talks
    by_version false = talks

    by_end : (e : Option ℕ) → IsPlain (target_request need w target version e).kind w.number rows
    by_end None = record { faultless = refl; still = λ known. refl; after = record { holds = refl; bars = λ k. refl; fills = refl }; whose = refl }
    by_end (Some e) = by_version (nat_lt version 3)

    by_peer : (b : Bool) (e : Option ℕ) → IsPlain (kind_in (if b then target_request need w target version e else record { kind = Talk (Some w.number); says = Some (LockContent w.job.key); phase = phases.AsksLock peer time })) w.number rows
    by_peer true e = by_end e
    by_peer false e = talks

-- ---- a request of a job that stood on no connection

fits_request : (need : Need) (w : Worker) (target time peer version : ℕ) (end : Option ℕ) (token : Token) → HasNoBar token → FitsRemote (first_request need w target time peer version end).phase token
fits_request need w target time peer version end token bare = by_peer (target == peer) end
  where
    phase_in : Request → Phase
    phase_in q = q.phase

    by_version : (b : Bool) → FitsRemote (phase_in (if b then record { kind = Talk (Some w.number); says = None; phase = phases.Ends (endings.OldProtocol version) } else record { kind = Talk (Some w.number); says = Some GetTimestamp; phase = phases.AsksTime })) token
    by_version true = bare
    by_version false = bare

    by_end : (e : Option ℕ) → FitsRemote (phase_in (target_request need w target version e)) token
    by_end None = bare
    by_end (Some e) = by_version (nat_lt version 3)

    by_peer : (b : Bool) (e : Option ℕ) → FitsRemote (phase_in (if b then target_request need w target version e else record { kind = Talk (Some w.number); says = Some (LockContent w.job.key); phase = phases.AsksLock peer time })) token
    by_peer true e = by_end e
    by_peer false e = bare

pub request_speaks : (need : Need) (w w' : Worker) (target time peer version : ℕ) (end : Option ℕ) (r : Result Output NoMemory)
    → IfOk r (Says (first_request need w target time peer version end) peer w w') → IfOk r (Speaks w w')
request_speaks need w w' target time peer version end (Err e) s = tt
request_speaks need w w' target time peer version end (Ok out) s =
    record {
      faultless = ap failed_in s.kind ∙ (request_plain need w target time peer version end (record { holds = []; bars = []; fills = [] })).faultless;
      still = λ known. ap (contents_after known) s.kind ∙ (request_plain need w target time peer version end (record { holds = []; bars = []; fills = [] })).still known;
      after = λ rows. subst (λ (e : EntryKind). AreAfter e rows rows) (sym s.kind) (request_plain need w target time peer version end rows).after;
      goes_on = s.goes_on;
      number = ap (λ (u : Worker). u.number) s.next;
      job = ap (λ (u : Worker). u.job) s.next;
      token = ap (λ (u : Worker). u.token) s.next;
      heard = inl (ap (λ (u : Worker). u.heard) s.next);
      fits = λ bare. subst (λ (u : Worker). FitsRemote u.phase u.token) (sym s.next) (fits_request need w target time peer version end w.token bare);
    }

going : (t : Turn) (peer : ℕ) → (end_with t peer).opened ≡ true → goes_to t peer ≡ asks t t.w.version None peer t.w.part
going t peer live = rw live refl

pub request_acts : (read : Reading) (ends_at : EndName → End) (time : ℕ) (w w' : Worker) (need : Need) (target peer version : ℕ) (end : Option ℕ) (r : Result Output NoMemory) → IsRemote target w → w.phase ≡ phases.Next
    → end ≡ least_end (known_remotely read target w) → need ≡ read.need → version ≡ w.version → (ends_at (end_in w.slot peer)).opened ≡ true → AreRemoteProtocolLines w.job.key
    → IfOk r (Says (first_request need w target time peer version end) peer w w') → IfOk r (λ out. (rows : Rows) → Acts read ends_at time rows rows w w' (λ t. goes_to t peer) out)
request_acts read ends_at time w w' need target peer version end (Err e) remote stands known needs same live reads s = tt
request_acts read ends_at time w w' need target peer version end (Ok out) remote stands known needs same live reads says = λ rows number p.
    let s : Says (first_request need w target time peer w.version end) peer w w' out = subst (λ (n : ℕ). Says (first_request need w target time peer n end) peer w w' out) same says in
    let plain = request_plain need w target time peer w.version end rows in
    said_does (sight read ends_at time number) rows p w w' None (λ t. goes_to t peer) (first_request need w target time peer w.version end) peer out s plain.faultless plain.after plain.whose
    (λ rest. going (turn_in (sight read ends_at time number) rows p None rest w) peer live
    ∙ asks_said (sight read ends_at time number) rows p None rest w need target remote needs time w.version peer end None
    (known ∙ end_is (sight read ends_at time number) rows p None rest w read.need (known_remotely read target w) target remote refl refl))
    (λ rest. next_request (sight read ends_at time number) rows p None rest w need target time peer end stands refl reads)
