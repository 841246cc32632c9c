-- A remote drop that answers a version with its first request.
use Rattle.std.proofs.Common.{◌≡◌, ℕ, Bool, true, false, List, Option, Some, None, Ok, refl, sym, ap, ◌∙◌, subst, arith}
use Rattle.std.specs.Prelude.{◌==◌, ◌≤◌, if◌then◌else◌, nat_le, nat_lt}
use Rattle.std.proofs.lemmas.Bool.Decides.{nat_tests}
use Rattle.drop_proof.specs.Judging.{least_end}
use Rattle.node_model.specs.Around.{around_in}
use Rattle.node_model.specs.Ends.{End, EndName}
use Rattle.node_model.specs.Knows.{Reading}
use Rattle.node_model.specs.Requests.{asks}
use Rattle.node_model.specs.Rows.{option_is}
use Rattle.node_model.specs.Turns.{takes, takes_frame}
use Rattle.drop_phases.specs.declared.phase.Phase.{Phase}
use Rattle.drop_phases.specs.declared.turn.Output.{Output}
use Rattle.drop_phases.specs.declared.turn.Taken.TheVariants as takens
use Rattle.drop_phases.proofs.Greetings.{learns_version}
use Rattle.remote_requests.proofs.RemoteVerdicts.{end_is}
use Rattle.drop_proof.specs.declared.rule.Need.{Need}
use Rattle.run_data.specs.declared.entry.EntryKind.TheVariants.{Order, Talk}
use Rattle.run_data.specs.declared.entry.FrameView.{FrameView}
use Rattle.p2p_wire.specs.declared.message.Message.{Message}
use Rattle.p2p_wire.specs.declared.message.Message.TheVariants.{GetTimestamp, LockContent, Remove, Version}
use Rattle.p2p_wire.specs.Messages.{message_of, text_of}
use Rattle.node_model.specs.Jobs as Jobs
use Rattle.node_model.specs.Jobs.{Drops, Part, Work, claims, job_end, learns, partner, says, taken_message, talks_on}
use Rattle.node_model.specs.JobStep.{Turn, end_with, me, says_to}
use Rattle.node_model.specs.Look.{Effect, entry_of}
use Rattle.content_lock.specs.Rows.{Rows}
use Rattle.drop_phases.specs.declared.phase.Ending.TheVariants as endings
use Rattle.drop_phases.specs.declared.phase.Phase.TheVariants as phases
use Rattle.drop_phases.specs.Worker.{Worker}
use Rattle.drop_phases.specs.Working.{Rest, Sight, end_in, with_version, phase_as, sight, turn_in, work_of}
use Rattle.drop_phases.specs.Doing.{next_work}
use Rattle.remote_requests.specs.Remote.{IsRemote, AreRemoteProtocolLines, Request, Says, Speaks, TakesRemote, first_request, known_remotely, target_request}
use Rattle.drop_phases.proofs.Takings.{Lined, line_takes, lined, moved_heard, moved_said}
use Rattle.drop_phases.proofs.Talks.{on_said, open_line}
use Rattle.remote_requests.proofs.Requesting.{asks_said, request_made, request_plain, request_speaks, said_does_as}

-- n is the version that the work has learnt, or had
module _ (t : Turn) (f : FrameView) (peer : ℕ) (took : Message) (n : ℕ) (drops : t.w.part ≡ Drops) (learn : learns t.w t.w.phase (Some f) ≡ record t.w { version = n }) (with_peer : partner t.w.what.peer t.w.phase ≡ Some peer)
    (l : Lined f.body took) (live : (end_with t peer).opened ≡ true) where
  abbrev now_work : Work
  now_work = record t.w { version = n }

  told : taken_message (Some f) ≡ Some took
  told = rw (l.is, l.reads) refl

  -- an order
  pub moved_order : (job target : ℕ) (deadline : Option ℕ) (need : Need) (key : List ℕ) (m : Message) → message_of (text_of m) ≡ Some m
      → next_work t (says_to t (Order job target deadline need key) (Some f) peer m) ≡ says now_work t.look.time peer (Some took) m
  moved_order job target deadline need key m reads =
      let rows : Jobs.RowsAndEnds = around_in t in
      let made : Effect = says_to t (Order job target deadline need key) (Some f) peer m in
      (λ i. talks_on rows (me t) ((ap (λ (part : Part). learns (claims t.w part t.w.phase) t.w.phase (Some f)) drops ∙ learn) i) (entry_of (me t) t.look made) (with_peer i))
      ∙ (on_said rows (me t) now_work (entry_of (me t) t.look made) peer m refl (open_line (job_end t.w peer) (end_with t peer) f l.text l.is live) reads
      ∙ ap (λ (o : Option Message). says now_work t.look.time peer o m) told)

greets_asks : (t : Turn) (f : FrameView) (peer version : ℕ) → version ≤ 3 → t.w.part ≡ Drops → takes t f peer (Jobs.Greets peer) (Version version) ≡ asks t version (Some f) peer Drops
greets_asks t f peer version small drops = let e : nat_le version 3 ≡ true = grind (arith, nat_tests) in rw (e, drops) refl

-- a request after the version of the peer
pub greet_request : (x : Sight) (rows : Rows) (p : List ℕ → Bool) (rest : Rest) (w : Worker) (f : FrameView) (need : Need) (target time peer version n : ℕ) (end : Option ℕ)
    → learns (work_of rest w) (phase_as w.phase) (Some f) ≡ record (work_of rest w) { version = n } → w.phase ≡ phases.Greets peer → Lined f.body (Version version) → (x.ends (end_in w.slot peer)).opened ≡ true
    → x.time ≡ time → AreRemoteProtocolLines w.job.key
    → work_of rest (record w { phase = (first_request need w target time peer version end).phase; version = n })
    ≡ next_work (turn_in x rows p None rest w) (request_made (turn_in x rows p None rest w) (Some f) peer (first_request need w target time peer version end))
greet_request x rows p rest w f need target time peer version n end learn stands l live same reads = by_peer (target == peer) end
  where
    t : Turn
    t = turn_in x rows p None rest w

    So : Request → Type 0
    So q = work_of rest (record w { phase = q.phase; version = n }) ≡ next_work t (request_made t (Some f) peer q)

    with_peer : partner w.job.peer (phase_as w.phase) ≡ Some peer
    with_peer = rw stands refl

    old : So (record { kind = Talk (Some w.number); says = None; phase = phases.Ends (endings.OldProtocol version) })
    old = rw stands refl ∙ sym (moved_heard t f peer (Version version) n refl learn with_peer l live)

    by_version : (b : Bool) → So (if b then record { kind = Talk (Some w.number); says = None; phase = phases.Ends (endings.OldProtocol version) } else record { kind = Talk (Some w.number); says = Some GetTimestamp; phase = phases.AsksTime })
    by_version true = old
    by_version false = sym (moved_said t f peer (Version version) n refl learn with_peer l live GetTimestamp reads.time.0)

    by_end : (e : Option ℕ) → So (target_request need w target version e)
    by_end None = sym (moved_order t f peer (Version version) n refl learn with_peer l live w.number target None need w.job.key (Remove w.job.key) reads.order.0)
    by_end (Some e) = by_version (nat_lt version 3)

    by_peer : (b : Bool) (e : Option ℕ) → So (if b then target_request need w target version e else record { kind = Talk (Some w.number); says = Some (LockContent w.job.key); phase = phases.AsksLock peer time })
    by_peer true e = by_end e
    by_peer false e = ap (λ (m : ℕ). record (work_of rest w) { phase = Jobs.AsksLock peer m; version = n }) (sym same) ∙ sym (moved_said t f peer (Version version) n refl learn with_peer l live (LockContent w.job.key) reads.lock.0)

-- the version is at most 3
pub greet_takes : (read : Reading) (ends_at : EndName → End) (time : ℕ) (w v w' : Worker) (target peer version : ℕ) (end : Option ℕ) (out : Output) (rows : Rows) → IsRemote target w → w.phase ≡ phases.Greets peer
    → end ≡ least_end (known_remotely read target w) → version ≤ 3 → AreRemoteProtocolLines w.job.key → Says (first_request read.need w target time peer version end) peer w v out → w' ≡ with_version v peer version
    → TakesRemote read ends_at time rows rows peer (takens.Message (Version version)) w w' out
greet_takes read ends_at time w v w' target peer version end out rows remote stands known small reads s next number p None fed = absurd (let both : takens.Message (Version version) ≡ takens.Closed = fed.0 in cc)
greet_takes read ends_at time w v w' target peer version end out rows remote stands known small reads s next number p (Some f) comes =
    let x = sight read ends_at time number in
    let n : ℕ = (if option_is w.job.peer peer then version else w.version) in
    let q : Request = first_request read.need w target time peer version end in
    let l = lined f.body (Version version) comes.is in
    let learn : (rest : Rest) → learns (work_of rest w) (phase_as w.phase) (Some f) ≡ record (work_of rest w) { version = n } =
    (λ rest. ap (λ (ph : Phase). learns (work_of rest w) (phase_as ph) (Some f)) stands ∙ learns_version (work_of rest w) f peer version l) in
    let plain = request_plain read.need w target time peer version end rows in
    said_does_as x rows p w w' (record w { phase = q.phase; version = n }) (Some f) (λ t. takes_frame t peer f f.body) q peer out s.kind s.sends (next ∙ ap (λ (u : Worker). with_version u peer version) s.next) plain.faultless plain.after plain.whose
    (λ rest. sym (line_takes (turn_in x rows p None rest w) f peer (Version version) l) ∙ (ap (λ (ph : Phase). takes (turn_in x rows p None rest w) f peer (phase_as ph) (Version version)) stands
    ∙ (greets_asks (turn_in x rows p None rest w) f peer version small refl
    ∙ asks_said x rows p None rest w read.need target remote refl time version peer end (Some f) (known ∙ end_is x rows p None rest w read.need (known_remotely read target w) target remote refl refl))))
    (λ rest. greet_request x rows p rest w f read.need target time peer version n end (learn rest) stands l comes.live refl reads)

pub greet_speaks : (need : Need) (w v w' : Worker) (target time peer version : ℕ) (end : Option ℕ) (out : Output) → Says (first_request need w target time peer version end) peer w v out → w' ≡ with_version v peer version → Speaks w w' out
greet_speaks need w v w' target time peer version end out s is =
    let was : Speaks w v out = request_speaks need w v target time peer version end (Ok out) s in
    subst (λ (u : Worker). Speaks w u out) (sym is) (record {
      faultless = was.faultless;
      still = was.still;
      after = was.after;
      goes_on = was.goes_on;
      number = was.number;
      job = was.job;
      token = was.token;
      heard = was.heard;
      fits = was.fits;
    })
