-- The steps of a local drop that take a message.
use Rattle.std.proofs.Common.{◌≡◌, ℕ, Bool, true, false, List, [], ◌∷◌, Option, Some, None, refl, sym, ap, ◌∙◌}
use Rattle.std.specs.Prelude.{◌==◌}
use Rattle.std.proofs.lemmas.List.{append-nil}
use Rattle.drop_proof.specs.declared.rule.Side.TheVariants.{Local}
use Rattle.run_data.specs.declared.entry.EntryKind.TheVariants.{Talk}
use Rattle.run_data.specs.declared.entry.FrameText.{FrameText}
use Rattle.run_data.specs.declared.entry.FrameText.TheVariants.{Opening, Closing, Bytes, Line}
use Rattle.run_data.specs.declared.entry.FrameView.{FrameView}
use Rattle.run_data.specs.declared.job.Cause.TheVariants as causes
use Rattle.p2p_wire.specs.declared.message.Message.{Message}
use Rattle.p2p_wire.specs.Messages.{message_of, text_of}
use Rattle.node_model.specs.Around.{around_in}
use Rattle.node_model.specs.Ends.{frames}
use Rattle.node_model.specs.Jobs
use Rattle.node_model.specs.Jobs.{Drops, Part, Work, claims, closed_part, drop_side, job_end, learns, partner, says, side_of, taken_message, talks_on, after_frame, after_line}
use Rattle.node_model.specs.JobStep.{Turn, end_with, hears, me, says_to, talk, wrong_message}
use Rattle.node_model.specs.Look.{Effect, as_told, entry_of}
use Rattle.node_model.specs.Turns.{takes, takes_frame}
use Rattle.content_lock.specs.Rows.{Rows}
use Rattle.drop_phases.specs.declared.phase.Heard.{Heard}
use Rattle.drop_phases.specs.declared.phase.Heard.TheVariants as heards
use Rattle.drop_phases.specs.declared.phase.Phase.TheVariants as phases
use Rattle.drop_phases.specs.declared.turn.Parcel.{Parcel}
use Rattle.drop_phases.specs.declared.turn.ParcelBody.TheVariants as bodies
use Rattle.drop_phases.specs.declared.turn.Output.{Output}
use Rattle.drop_phases.specs.declared.turn.Taken.TheVariants as takens
use Rattle.drop_phases.specs.Worker.{Worker}
use Rattle.drop_phases.specs.Working.{Rest, Sight, heard_as, end_in, frames_of, phase_as, taken_line, taken_of, turn_in, work_of}
use Rattle.node_model.specs.Slots.{job_of}
use Rattle.drop_phases.specs.Doing.{DoesAsAsked, Comes, next_work}
use Rattle.drop_phases.proofs.Talks.{on_heard, on_said, on_shut, open_line}

-- ---- the line that came

pub record Lined (body : FrameText) (m : Message) : Type 0 where
  pub text : List ℕ
  pub is : body ≡ Line text
  pub reads : message_of text ≡ Some m

pub lined : (body : FrameText) (m : Message) → taken_of body ≡ takens.Message m → Lined body m
lined Opening m e = absurd (cc)
lined Closing m e = absurd (cc)
lined (Bytes n) m e = absurd (cc)
lined (Line text) m e = go (message_of text) refl e
  where
    go : (o : Option Message) → message_of text ≡ o → taken_line o ≡ takens.Message m → Lined (Line text) m
    go None is e = absurd (cc)
    go (Some k) is e = let same : k ≡ m = cc in record { text = text; is = refl; reads = is ∙ ap (λ (n : Message). Some n) same }

pub line_takes : (t : Turn) (f : FrameView) (peer : ℕ) (m : Message) → Lined f.body m → takes t f peer t.w.phase m ≡ takes_frame t peer f f.body
line_takes t f peer m l = rw (l.is, l.reads) refl

-- ---- the work that follows

abbrev took_was : Work → FrameText → Work
took_was w body = after_frame w body

-- n is the version that the work has learnt, or had
module _ (t : Turn) (f : FrameView) (peer : ℕ) (took : Message) (n : ℕ) (drops : t.w.part ≡ Drops) (learn : learns t.w t.w.phase (Some f) ≡ record t.w { version = n }) (with_peer : partner t.w.what.peer t.w.phase ≡ Some peer)
    (l : Lined f.body took) (live : (end_with t peer).opened ≡ true) where
  abbrev at_work : Effect → Jobs.RowsAndEnds → Work
  at_work m rows = talks_on rows (me t) (learns (claims t.w t.w.part t.w.phase) t.w.phase (Some f)) (entry_of (me t) t.look m) (partner t.w.what.peer t.w.phase)

  abbrev now_work : Work
  now_work = record t.w { version = n }

  here : (m : Effect) (rows : Jobs.RowsAndEnds) → at_work m rows ≡ talks_on rows (me t) now_work (entry_of (me t) t.look m) (Some peer)
  here m rows = λ i. talks_on rows (me t) ((ap (λ (part : Part). learns (claims t.w part t.w.phase) t.w.phase (Some f)) drops ∙ learn) i) (entry_of (me t) t.look m) (with_peer i)

  told : taken_message (Some f) ≡ Some took
  told = rw (l.is, l.reads) refl

  pub moved_heard : next_work t (hears t f) ≡ after_line now_work (Some took)
  moved_heard =
      let rows : Jobs.RowsAndEnds = around_in t in
      here (hears t f) rows ∙ (on_heard rows (me t) now_work (entry_of (me t) t.look (hears t f)) peer refl (open_line (job_end t.w peer) (end_with t peer) f l.text l.is live)
      ∙ (ap (took_was now_work) l.is ∙ ap (after_line now_work) l.reads))

  pub moved_said : (m : Message) → message_of (text_of m) ≡ Some m → next_work t (says_to t (talk t) (Some f) peer m) ≡ says now_work t.look.time peer (Some took) m
  moved_said m reads =
      let rows : Jobs.RowsAndEnds = around_in t in
      here (says_to t (talk t) (Some f) peer m) rows
      ∙ (on_said rows (me t) now_work (entry_of (me t) t.look (says_to t (talk t) (Some f) peer m)) peer m refl (open_line (job_end t.w peer) (end_with t peer) f l.text l.is live) reads
      ∙ ap (λ (o : Option Message). says now_work t.look.time peer o m) told)

  pub moved_shut : next_work t (wrong_message t f peer) ≡ closed_part (me t) now_work peer Drops
  moved_shut =
      let rows : Jobs.RowsAndEnds = around_in t in
      here (wrong_message t f peer) rows ∙ (on_shut rows (me t) now_work (entry_of (me t) t.look (wrong_message t f peer)) peer refl ∙ ap (closed_part (me t) now_work peer) drops)

-- the local drop's target is itself
pub closed_local : (r : ℕ) (w : Work) (peer : ℕ) → side_of w ≡ Local → (r == peer) ≡ false → closed_part r w peer Drops ≡ Jobs.hears w peer (Jobs.Lacks causes.Closed)
closed_local r w peer local apart = rw (local, apart) refl

-- ---- a step that changes no row

pub talk_does : (x : Sight) (rows : Rows) (p : List ℕ → Bool) (w w' : Worker) (taken : Option FrameView) (asked : Turn → Effect) (items : List Parcel) (out : Output) → out.kind ≡ Talk (Some w.number)
    → out.sends.items ≡ items
    → ((rest : Rest) → record { kind = Talk (Some w.number); taken = taken; sent = frames_of x.ends w.slot items; lines = []; calls = [] } ≡ as_told (asked (turn_in x rows p None rest w)))
    → ((rest : Rest) → work_of rest w' ≡ next_work (turn_in x rows p None rest w) (asked (turn_in x rows p None rest w))) → DoesAsAsked x rows rows p w w' taken asked out
talk_does x rows p w w' taken asked items out kind sends f n =
    record {
      makes = λ rest. rw (kind, sends) (f rest);
      next = λ e rest. rw kind (n rest);
      after = record { holds = rw kind refl; bars = λ k. rw kind refl; fills = refl };
      whose = ap job_of kind;
    }

pub heard_next : (rest : Rest) (w w' : Worker) (peer : ℕ) (h : Heard) → w' ≡ record w { heard = (peer, h) ∷ w.heard; phase = phases.Next }
    → work_of rest w' ≡ Jobs.hears (work_of rest w) peer (heard_as h)
heard_next rest w w' peer h next = ap (work_of rest) next

one_parcel : (x : Sight) (slot peer : ℕ) (m : Message) → frames_of x.ends slot (record { peer = peer; body = bodies.Message m } ∷ []) ≡ frames (end_in slot peer) (x.ends (end_in slot peer)) (Line (text_of m) ∷ [])
one_parcel x slot peer m = append-nil (frames (end_in slot peer) (x.ends (end_in slot peer)) (Line (text_of m) ∷ []))

pub close_parcel : (x : Sight) (slot peer : ℕ) → frames_of x.ends slot (record { peer = peer; body = bodies.Close } ∷ []) ≡ frames (end_in slot peer) (x.ends (end_in slot peer)) (Closing ∷ [])
close_parcel x slot peer = append-nil (frames (end_in slot peer) (x.ends (end_in slot peer)) (Closing ∷ []))

module _ (x : Sight) (rows : Rows) (p : List ℕ → Bool) (w w' : Worker) (f : FrameView) (peer : ℕ) (took : Message) (n : ℕ) (out : Output) (kind : out.kind ≡ Talk (Some w.number))
    (comes : Comes x w.slot peer f (takens.Message took)) (learn : (rest : Rest) → learns (work_of rest w) (phase_as w.phase) (Some f) ≡ record (work_of rest w) { version = n })
    (with_peer : partner w.job.peer (phase_as w.phase) ≡ Some peer) where
  abbrev turn : Rest → Turn
  turn rest = turn_in x rows p None rest w

  abbrev asked : Turn → Effect
  asked t = takes_frame t peer f f.body

  line : Lined f.body took
  line = lined f.body took comes.is

  pub say_does : (m : Message) → out.sends.items ≡ record { peer = peer; body = bodies.Message m } ∷ [] → message_of (text_of m) ≡ Some m
      → ((rest : Rest) → says_to (turn rest) (talk (turn rest)) (Some f) peer m ≡ takes (turn rest) f peer (phase_as w.phase) took)
      → ((rest : Rest) → work_of rest w' ≡ says (record (work_of rest w) { version = n }) x.time peer (Some took) m) → DoesAsAsked x rows rows p w w' (Some f) (λ t. takes_frame t peer f f.body) out
  say_does m sends reads makes next =
      let is : (rest : Rest) → says_to (turn rest) (talk (turn rest)) (Some f) peer m ≡ asked (turn rest) = λ rest. makes rest ∙ line_takes (turn rest) f peer took line in
      talk_does x rows p w w' (Some f) asked _ out kind sends
      (λ rest. (λ i. record { kind = Talk (Some w.number); taken = Some f; sent = one_parcel x w.slot peer m i; lines = []; calls = [] }) ∙ ap as_told (is rest))
      (λ rest. next rest ∙ (sym (moved_said (turn rest) f peer took n refl (learn rest) with_peer line comes.live m reads) ∙ ap (next_work (turn rest)) (is rest)))

  pub shut_does : drop_side w.job.kind w.job.peer ≡ Local → out.sends.items ≡ record { peer = peer; body = bodies.Close } ∷ []
      → w' ≡ record w { heard = (peer, heards.Lacks causes.Closed) ∷ w.heard; phase = phases.Next; version = n }
      → ((rest : Rest) → wrong_message (turn rest) f peer ≡ takes (turn rest) f peer (phase_as w.phase) took) → DoesAsAsked x rows rows p w w' (Some f) (λ t. takes_frame t peer f f.body) out
  shut_does local sends next makes =
      let is : (rest : Rest) → wrong_message (turn rest) f peer ≡ asked (turn rest) = λ rest. makes rest ∙ line_takes (turn rest) f peer took line in
      talk_does x rows p w w' (Some f) asked _ out kind sends
      (λ rest. (λ i. record { kind = Talk (Some w.number); taken = Some f; sent = close_parcel x w.slot peer i; lines = []; calls = [] }) ∙ ap as_told (is rest))
      (λ rest. ap (work_of rest) next ∙ (sym (closed_local x.read.repo (record (work_of rest w) { version = n }) peer local comes.apart)
      ∙ (sym (moved_shut (turn rest) f peer took n refl (learn rest) with_peer line comes.live) ∙ ap (next_work (turn rest)) (is rest))))
