-- A remote drop that is told the target's time: the order, or the end where the locks have expired.
use Rattle.std.proofs.Common.{inl, ◌≡◌, ℕ, ◌+◌, ◌-◌, ◌/◌, ◌<◌, ◌≤◌, ◌^◌, Bool, true, false, List, Option, Some, None, refl, sym, ap, ◌∙◌, subst, arith}
use Rattle.std.specs.Prelude.{if◌then◌else◌, nat_lt}
use Rattle.std.proofs.lemmas.Bool.Decides.{nat_tests}
use Rattle.annex_base.specs.declared.kinds.Call.{Call}
use Rattle.drop_proof.specs.declared.rule.Side.TheVariants.{Remote}
use Rattle.drop_proof.specs.Judging.{least_end}
use Rattle.run_data.specs.declared.entry.EntryKind.{EntryKind}
use Rattle.run_data.specs.declared.entry.EntryKind.TheVariants.{Order}
use Rattle.run_data.specs.declared.entry.FrameView.{FrameView}
use Rattle.run_data.specs.declared.job.DropRefusal.TheVariants as refusals
use Rattle.run_data.specs.declared.job.Outcome.TheVariants.{Refused}
use Rattle.p2p_wire.specs.declared.message.Message.{Message}
use Rattle.p2p_wire.specs.declared.message.Message.TheVariants.{Remove, RemoveBefore, Timestamp}
use Rattle.p2p_wire.specs.Messages.{message_of, text_of}
use Rattle.node_model.specs.Ends.{End, EndName}
use Rattle.node_model.specs.Jobs as Jobs
use Rattle.node_model.specs.Jobs.{Work, learns, partner, says, to_phase}
use Rattle.node_model.specs.JobStep.{Turn, ends, says_to, wrong_message}
use Rattle.node_model.specs.DropStep.{first_end, orders, takes_time, target as target_at, times}
use Rattle.node_model.specs.Knows.{Reading}
use Rattle.node_model.specs.Turns.{takes, takes_frame}
use Rattle.node_model.specs.Look.{failed_in}
use Rattle.content_lock.specs.Rows.{AreAfter, Rows}
use Rattle.drop_phases.specs.declared.phase.Phase.{Phase}
use Rattle.drop_phases.specs.declared.phase.Phase.TheVariants as phases
use Rattle.drop_phases.specs.declared.turn.Output.{Output}
use Rattle.drop_phases.specs.declared.turn.Taken.TheVariants as takens
use Rattle.drop_phases.specs.Worker.{Worker}
use Rattle.drop_phases.specs.Working.{Rest, Sight, phase_as, sight, turn_in, work_of}
use Rattle.drop_phases.specs.Doing.{contents_after}
use Rattle.remote_requests.specs.Remote.{EndsSo, IsRemote, Says, Speaks, TakesRemote, known_remotely, order_message, order_of}
use Rattle.drop_phases.proofs.Doings.{does_as}
use Rattle.remote_requests.proofs.Losing.{target_is}
use Rattle.remote_answers.proofs.Ordering.{moved_order}
use Rattle.remote_requests.proofs.RemoteVerdicts.{end_is}
use Rattle.remote_requests.proofs.Requesting.{said_does_as}
use Rattle.drop_phases.proofs.Takings.{line_takes, lined}

said_orders : (v : Work) (time peer : ℕ) (taken : Option Message) (key : List ℕ) (deadline : Option ℕ) → to_phase v Jobs.Orders ≡ says v time peer taken (order_message key deadline)
said_orders v time peer taken key None = refl
said_orders v time peer taken key (Some n) = refl

pub order_speaks : (read : Reading) (w w' : Worker) (target : ℕ) (deadline : Option ℕ) (out : Output) → Says (order_of read.need w target deadline) target w w' out → Speaks w w' out
order_speaks read w w' target deadline out s =
    subst (λ (u : Worker). Speaks w u out) (sym s.next) (record {
      faultless = ap failed_in s.kind;
      still = λ known. ap (contents_after known) s.kind;
      after = λ rows. subst (λ (e : EntryKind). AreAfter e rows rows) (sym s.kind) (record { holds = refl; bars = λ k. refl; fills = refl });
      goes_on = s.goes_on;
      number = refl;
      job = refl;
      token = refl;
      heard = inl refl;
      fits = λ bare. bare;
    })

told_time : (t : Turn) (f : FrameView) (peer now : ℕ) → nat_lt now (2 ^ 61) ≡ true → takes_time t f peer now Remote ≡ times t f now (first_end t)
told_time t f peer now e = rw e refl

-- a time that no node tells
pub no_time : (x : Sight) (rows : Rows) (p : List ℕ → Bool) (fails : Option Call) (rest : Rest) (w : Worker) (f : FrameView) (target now : ℕ) → IsRemote target w → w.phase ≡ phases.AsksTime → 2 ^ 61 ≤ now
    → wrong_message (turn_in x rows p fails rest w) f target ≡ takes (turn_in x rows p fails rest w) f target (phase_as w.phase) (Timestamp now)
no_time x rows p fails rest w f target now remote at big =
    let e : nat_lt now (2 ^ 61) ≡ false = grind (arith, nat_tests) in
    sym (ap (λ (ph : Phase). takes (turn_in x rows p fails rest w) f target (phase_as ph) (Timestamp now)) at ∙ rw (remote.side, e) refl)

module _ (read : Reading) (ends_at : EndName → End) (time : ℕ) (w : Worker) (target now : ℕ) (remote : IsRemote target w) (at : w.phase ≡ phases.AsksTime) where
  abbrev turn : ℕ → Rows → (List ℕ → Bool) → Option Call → Rest → Turn
  turn number rows p fails rest = turn_in (sight read ends_at time number) rows p fails rest w

  -- the step that takes it
  pub by_time : now < 2 ^ 61 → (number : ℕ) (rows : Rows) (p : List ℕ → Bool) (fails : Option Call) (rest : Rest) (f : FrameView)
      → takes (turn number rows p fails rest) f target (phase_as w.phase) (Timestamp now) ≡ times (turn number rows p fails rest) f now (first_end (turn number rows p fails rest))
  by_time early number rows p fails rest f =
      let e : nat_lt now (2 ^ 61) ≡ true = grind (arith, nat_tests) in
      ap (λ (ph : Phase). takes (turn number rows p fails rest) f target (phase_as ph) (Timestamp now)) at
      ∙ ((λ i. takes_time (turn number rows p fails rest) f target now (remote.side i)) ∙ told_time (turn number rows p fails rest) f target now e)

  pub end_there : (end : Option ℕ) → end ≡ least_end (known_remotely read target w) → (number : ℕ) (rows : Rows) (p : List ℕ → Bool) (fails : Option Call) (rest : Rest) → end ≡ first_end (turn number rows p fails rest)
  end_there end known number rows p fails rest = known ∙ end_is (sight read ends_at time number) rows p fails rest w read.need (known_remotely read target w) target remote refl refl

  -- ---- an order

  pub order_takes : (w' : Worker) (deadline : Option ℕ) (out : Output) (rows : Rows) → now < 2 ^ 61 → message_of (text_of (order_message w.job.key deadline)) ≡ Some (order_message w.job.key deadline)
      → Says (order_of read.need w target deadline) target w w' out
      → ((number : ℕ) (p : List ℕ → Bool) (rest : Rest) (f : FrameView) → orders (turn number rows p None rest) (Some f) deadline (order_message w.job.key deadline) ≡ times (turn number rows p None rest) f now (first_end (turn number rows p None rest)))
      → TakesRemote read ends_at time rows rows target (takens.Message (Timestamp now)) w w' out
  order_takes w' deadline out rows early reads s choose number p None fed = absurd (let both : takens.Message (Timestamp now) ≡ takens.Closed = fed.0 in cc)
  order_takes w' deadline out rows early reads s choose number p (Some f) comes =
      let m = order_message w.job.key deadline in
      let l = lined f.body (Timestamp now) comes.is in
      let there : (rest : Rest) → target_at (turn number rows p None rest) ≡ target = (λ rest. target_is rest w target read.repo remote) in
      let learn : (rest : Rest) → learns (work_of rest w) (phase_as w.phase) (Some f) ≡ record (work_of rest w) { version = w.version } = (λ rest. ap (λ (ph : Phase). learns (work_of rest w) (phase_as ph) (Some f)) at) in
      let with_peer : partner w.job.peer (phase_as w.phase) ≡ Some target = ap (λ (ph : Phase). partner w.job.peer (phase_as ph)) at ∙ remote.peer in
      said_does_as (sight read ends_at time number) rows p w w' (record w { phase = phases.Orders }) (Some f) (λ t. takes_frame t target f f.body) (order_of read.need w target deadline) target out s.kind s.sends s.next
      refl (record { holds = refl; bars = λ k. refl; fills = refl }) refl
      (λ rest. sym (line_takes (turn number rows p None rest) f target (Timestamp now) l) ∙ (by_time early number rows p None rest f ∙ (sym (choose number p rest f)
      ∙ (λ i. says_to (turn number rows p None rest) (Order w.number (there rest i) deadline read.need w.job.key) (Some f) (there rest i) m))))
      (λ rest. said_orders (record (work_of rest w) { version = w.version }) time target (Some (Timestamp now)) w.job.key deadline
      ∙ sym (moved_order (turn number rows p None rest) f target (Timestamp now) w.version refl (learn rest) with_peer l comes.live w.number target deadline read.need w.job.key m reads))

  pub order_plain : None ≡ least_end (known_remotely read target w) → (number : ℕ) (rows : Rows) (p : List ℕ → Bool) (rest : Rest) (f : FrameView)
      → orders (turn number rows p None rest) (Some f) None (Remove w.job.key) ≡ times (turn number rows p None rest) f now (first_end (turn number rows p None rest))
  order_plain known number rows p rest f = ap (times (turn number rows p None rest) f now) (end_there None known number rows p None rest)

  pub timed : (t : Turn) (f : FrameView) (clock end before : ℕ) → clock ≡ t.clock t.look.time → clock < end → before ≡ now + (end - clock) / 1000
      → orders t (Some f) (Some before) (RemoveBefore before t.w.what.key) ≡ times t f now (Some end)
  timed t f clock end before same lt is =
      let e : nat_lt clock end ≡ true = grind (arith, nat_tests) in
      (λ i. orders t (Some f) (Some (is i)) (RemoveBefore (is i) t.w.what.key))
      ∙ ((λ i. if sym e i then orders t (Some f) (Some (now + (end - clock) / 1000)) (RemoveBefore (now + (end - clock) / 1000) t.w.what.key) else ends t (Some f) (Refused (refusals.Expired end clock)))
      ∙ (λ i. if nat_lt (same i) end then orders t (Some f) (Some (now + (end - same i) / 1000)) (RemoveBefore (now + (end - same i) / 1000) t.w.what.key) else ends t (Some f) (Refused (refusals.Expired end (same i)))))

  pub order_timed : (clock end before : ℕ) → Some end ≡ least_end (known_remotely read target w) → clock ≡ read.clock time → clock < end → before ≡ now + (end - clock) / 1000
      → (number : ℕ) (rows : Rows) (p : List ℕ → Bool) (rest : Rest) (f : FrameView)
      → orders (turn number rows p None rest) (Some f) (Some before) (RemoveBefore before w.job.key) ≡ times (turn number rows p None rest) f now (first_end (turn number rows p None rest))
  order_timed clock end before known same lt is number rows p rest f =
      timed (turn number rows p None rest) f clock end before same lt is ∙ ap (times (turn number rows p None rest) f now) (end_there (Some end) known number rows p None rest)

  -- ---- the end

  pub late : (t : Turn) (f : FrameView) (clock end : ℕ) → clock ≡ t.clock t.look.time → end ≤ clock → ends t (Some f) (Refused (refusals.Expired end clock)) ≡ times t f now (Some end)
  late t f clock end same le =
      let e : nat_lt clock end ≡ false = grind (arith, nat_tests) in
      (λ i. if sym e i then orders t (Some f) (Some (now + (end - clock) / 1000)) (RemoveBefore (now + (end - clock) / 1000) t.w.what.key) else ends t (Some f) (Refused (refusals.Expired end clock)))
      ∙ (λ i. if nat_lt (same i) end then orders t (Some f) (Some (now + (end - same i) / 1000)) (RemoveBefore (now + (end - same i) / 1000) t.w.what.key) else ends t (Some f) (Refused (refusals.Expired end (same i))))

  pub late_takes : (rows rows' : Rows) (w' : Worker) (clock end : ℕ) (out : Output) → now < 2 ^ 61 → Some end ≡ least_end (known_remotely read target w) → clock ≡ read.clock time → end ≤ clock
      → EndsSo read ends_at time rows rows' w w' (Refused (refusals.Expired end clock)) out → TakesRemote read ends_at time rows rows' target (takens.Message (Timestamp now)) w w' out
  late_takes rows rows' w' clock end out early known same le d number p None fed = absurd (let both : takens.Message (Timestamp now) ≡ takens.Closed = fed.0 in cc)
  late_takes rows rows' w' clock end out early known same le d number p (Some f) comes =
      does_as (sight read ends_at time number) rows rows' p w w' (Some f) (λ t. ends t (Some f) (Refused (refusals.Expired end clock))) (λ t. takes_frame t target f f.body) out (d number p (Some f))
      (λ rest. let t = turn number rows p (failed_in out.kind) rest in
      late t f clock end same le ∙ (ap (times t f now) (end_there (Some end) known number rows p (failed_in out.kind) rest)
      ∙ (sym (by_time early number rows p (failed_in out.kind) rest f) ∙ line_takes t f target (Timestamp now) (lined f.body (Timestamp now) comes.is))))
