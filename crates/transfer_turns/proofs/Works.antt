-- The work after a step of a transfer that talks.
use Rattle.std.proofs.Common.{◌≡◌, ℕ, Bool, true, false, [], ◌∷◌, Option, Some, None, refl, ap, ◌∙◌}
use Rattle.std.specs.Prelude.{if◌then◌else◌}
use Rattle.annex_base.proofs.Conditions.{eqb_refl, same_bool_refl}
use Rattle.run_data.specs.declared.entry.Entry.{Entry}
use Rattle.run_data.specs.declared.entry.FrameText.{FrameText}
use Rattle.run_data.specs.declared.entry.FrameText.TheVariants.{Opening, Closing, Bytes}
use Rattle.run_data.specs.declared.entry.FrameView.{FrameView}
use Rattle.run_data.specs.declared.job.Outcome.TheVariants.{TransferRefused}
use Rattle.run_data.specs.declared.job.TransferRefusal.TheVariants as failures
use Rattle.p2p_wire.specs.declared.message.Message.{Message}
use Rattle.p2p_wire.specs.declared.message.Message.TheVariants.{Version}
use Rattle.p2p_wire.specs.Messages.{message_of, text_of}
use Rattle.node_model.specs.Around.{around_in}
use Rattle.node_model.specs.Ends.{End, EndName, end_took, frames, sent_at, taken_at, takes_at}
use Rattle.node_model.specs.Jobs
use Rattle.node_model.specs.Jobs.{Drops, Gets, Part, Phase, Puts, RowsAndEnds, Work, after_line, claims, closed_part, fault_phase, gets_bytes, hears_frame, job_end, learns, partner, puts_bytes, quiet, says, side_of, stores_fault, taken_message, talks, talks_on, to_phase, version_said}
use Rattle.node_model.specs.JobStep.{Turn, end_with, hears, me, quietly, says_to, sends_to, talk, wrong_message}
use Rattle.node_model.specs.Look.{Effect, entry_of}
use Rattle.node_model.specs.Rows.{option_is}
use Rattle.node_model.specs.Sessions.{line_in}
use Rattle.drop_phases.specs.Doing.{next_work}
use Rattle.drop_phases.proofs.Takings.{Lined}
use Rattle.drop_phases.proofs.Talks.{StaysOpen, on_heard, on_said, on_shut, open_line}
use Rattle.transfer_turns.proofs.Frames.{line_is}

-- ---- what it has learnt

-- a job that stands on a connection claims nothing
claims_on : (w : Work) (part : Part) (phase : Phase) (target : Option ℕ) (peer : ℕ) → partner target phase ≡ Some peer → claims w part phase ≡ w
claims_on w Gets Jobs.Fresh target peer e = absurd (cc)
claims_on w part phase target peer e = refl

pub learns_none : (w : Work) (phase : Phase) → learns w phase None ≡ w
learns_none w (Jobs.Greets peer) = refl
learns_none w phase = refl

-- a frame that is no VERSION
pub learns_nothing : (w : Work) (phase : Phase) (f : FrameView) → version_said w.version (line_in f.body) ≡ w.version → learns w phase (Some f) ≡ w
learns_nothing w (Jobs.Greets peer) f same = go (option_is w.what.peer peer)
  where
    go : (b : Bool) → (if b then record w { version = version_said w.version (line_in f.body) } else w) ≡ w
    go true = ap (λ (n : ℕ). record w { version = n }) same
    go false = refl
learns_nothing w phase f same = refl

pub learns_version : (w : Work) (peer n : ℕ) (f : FrameView) → line_in f.body ≡ Some (Version n) → learns w (Jobs.Greets peer) (Some f) ≡ record w { version = if option_is w.what.peer peer then n else w.version }
learns_version w peer n f said = go (option_is w.what.peer peer)
  where
    go : (b : Bool) → (if b then record w { version = version_said w.version (line_in f.body) } else w) ≡ record w { version = if b then n else w.version }
    go true = ap (λ (o : Option Message). record w { version = version_said w.version o }) said
    go false = refl

-- ---- the end

pub open_bytes : (a : EndName) (c : End) (f : FrameView) (n : ℕ) → f.body ≡ Bytes n → c.opened ≡ true → StaysOpen a c (Some f)
open_bytes a c f n is live = go (takes_at a f)
  where
    go : (b : Bool) → (end_took c (if b then Some f else None)).opened ≡ true
    go true = rw is live
    go false = live

pub shut_closing : (a : EndName) (c : End) (f : FrameView) → takes_at a f ≡ true → f.body ≡ Closing → (end_took c (taken_at a (Some f))).opened ≡ false
shut_closing a c f at is = go (takes_at a f) at
  where
    go : (b : Bool) → b ≡ true → (end_took c (if b then Some f else None)).opened ≡ false
    go true e = rw is refl
    go false e = absurd (cc)

-- what an end sends is found there
sent_one : (a : EndName) (c : End) (body : FrameText) → sent_at a (frames a c (body ∷ [])) ≡ frames a c (body ∷ [])
sent_one a c body = rw (eqb_refl a.peer, eqb_refl a.slot, same_bool_refl a.client) refl

on_closed : (rows : RowsAndEnds) (r : ℕ) (v : Work) (e : Entry) (peer : ℕ) → e.sent ≡ [] → (end_took (rows.ends (job_end v peer)) (taken_at (job_end v peer) e.taken)).opened ≡ false
    → talks_on rows r v e (Some peer) ≡ closed_part r v peer v.part
on_closed rows r v e peer none shut = rw (none, shut) refl

on_bytes : (rows : RowsAndEnds) (r : ℕ) (v : Work) (e : Entry) (peer n : ℕ) → e.sent ≡ frames (job_end v peer) (rows.ends (job_end v peer)) (Bytes n ∷ [])
    → StaysOpen (job_end v peer) (rows.ends (job_end v peer)) e.taken → talks_on rows r v e (Some peer) ≡ to_phase v (puts_bytes n v.phase)
on_bytes rows r v e peer n sent live = rw (sent, sent_one (job_end v peer) (rows.ends (job_end v peer)) (Bytes n), live) refl

-- ---- on a connection

-- n is the version that the work has learnt, or had
module _ (t : Turn) (taken : Option FrameView) (peer n : ℕ) (learn : learns t.w t.w.phase taken ≡ record t.w { version = n }) (with_peer : partner t.w.what.peer t.w.phase ≡ Some peer) where
  abbrev at_work : Effect → Work
  at_work m = talks_on (around_in t) (me t) (learns (claims t.w t.w.part t.w.phase) t.w.phase taken) (entry_of (me t) t.look m) (partner t.w.what.peer t.w.phase)

  abbrev now_work : Work
  now_work = record t.w { version = n }

  here : (m : Effect) → at_work m ≡ talks_on (around_in t) (me t) now_work (entry_of (me t) t.look m) (Some peer)
  here m =
      λ i. talks_on (around_in t) (me t) ((ap (λ (w : Work). learns w t.w.phase taken) (claims_on t.w t.w.part t.w.phase t.w.what.peer peer with_peer) ∙ learn) i) (entry_of (me t) t.look m) (with_peer i)

  pub after_hearing : StaysOpen (job_end t.w peer) (end_with t peer) taken → next_work t (quietly (talk t) taken) ≡ hears_frame (around_in t) (me t) now_work taken
  after_hearing live = here (quietly (talk t) taken) ∙ on_heard (around_in t) (me t) now_work (entry_of (me t) t.look (quietly (talk t) taken)) peer refl live

  pub after_close : (end_took (end_with t peer) (taken_at (job_end t.w peer) taken)).opened ≡ false → next_work t (quietly (talk t) taken) ≡ closed_part (me t) now_work peer t.w.part
  after_close shut = here (quietly (talk t) taken) ∙ on_closed (around_in t) (me t) now_work (entry_of (me t) t.look (quietly (talk t) taken)) peer refl shut

  pub after_saying : (m : Message) → StaysOpen (job_end t.w peer) (end_with t peer) taken → message_of (text_of m) ≡ Some m
      → next_work t (says_to t (talk t) taken peer m) ≡ says now_work t.look.time peer (taken_message taken) m
  after_saying m live reads = here (says_to t (talk t) taken peer m) ∙ on_said (around_in t) (me t) now_work (entry_of (me t) t.look (says_to t (talk t) taken peer m)) peer m refl live reads

  pub after_shutting : next_work t (sends_to t (talk t) taken peer (Closing ∷ [])) ≡ closed_part (me t) now_work peer t.w.part
  after_shutting =
      here (sends_to t (talk t) taken peer (Closing ∷ [])) ∙ on_shut (around_in t) (me t) now_work (entry_of (me t) t.look (sends_to t (talk t) taken peer (Closing ∷ []))) peer refl

  pub after_sending : (b : ℕ) → StaysOpen (job_end t.w peer) (end_with t peer) taken → next_work t (sends_to t (talk t) taken peer (Bytes b ∷ [])) ≡ to_phase now_work (puts_bytes b t.w.phase)
  after_sending b live =
      here (sends_to t (talk t) taken peer (Bytes b ∷ [])) ∙ on_bytes (around_in t) (me t) now_work (entry_of (me t) t.look (sends_to t (talk t) taken peer (Bytes b ∷ []))) peer b refl live

-- ---- with a frame

module _ (t : Turn) (f : FrameView) (peer n : ℕ) (learn : learns t.w t.w.phase (Some f) ≡ record t.w { version = n }) (with_peer : partner t.w.what.peer t.w.phase ≡ Some peer) where
  pub after_line_heard : (took : Message) → Lined f.body took → (end_with t peer).opened ≡ true → next_work t (hears t f) ≡ after_line (record t.w { version = n }) (Some took)
  after_line_heard took l live =
      after_hearing t (Some f) peer n learn with_peer (open_line (job_end t.w peer) (end_with t peer) f l.text l.is live)
      ∙ (ap (Jobs.after_frame (record t.w { version = n })) l.is ∙ ap (after_line (record t.w { version = n })) l.reads)

  pub after_line_said : (took m : Message) → Lined f.body took → (end_with t peer).opened ≡ true → message_of (text_of m) ≡ Some m
      → next_work t (says_to t (talk t) (Some f) peer m) ≡ says (record t.w { version = n }) t.look.time peer (Some took) m
  after_line_said took m l live reads =
      after_saying t (Some f) peer n learn with_peer m (open_line (job_end t.w peer) (end_with t peer) f l.text l.is live) reads
      ∙ ap (λ (o : Option Message). says (record t.w { version = n }) t.look.time peer o m) (line_is f.body took l)

  pub after_wrong : next_work t (wrong_message t f peer) ≡ closed_part (me t) (record t.w { version = n }) peer t.w.part
  after_wrong = after_shutting t (Some f) peer n learn with_peer

  pub after_bytes_heard : (b : ℕ) → f.body ≡ Bytes b → (end_with t peer).opened ≡ true → next_work t (hears t f) ≡ to_phase (record t.w { version = n }) (gets_bytes b t.w.phase)
  after_bytes_heard b is live =
      after_hearing t (Some f) peer n learn with_peer (open_bytes (job_end t.w peer) (end_with t peer) f b is live) ∙ ap (Jobs.after_frame (record t.w { version = n })) is

  pub after_closing : takes_at (job_end t.w peer) f ≡ true → f.body ≡ Closing → next_work t (hears t f) ≡ closed_part (me t) (record t.w { version = n }) peer t.w.part
  after_closing at is = after_close t (Some f) peer n learn with_peer (shut_closing (job_end t.w peer) (end_with t peer) f at is)

-- ---- without a frame

-- the connection was closed here
pub after_closed_here : (t : Turn) (peer : ℕ) → partner t.w.what.peer t.w.phase ≡ Some peer → (end_with t peer).opened ≡ false → next_work t (quietly (talk t) None) ≡ closed_part (me t) t.w peer t.w.part
after_closed_here t peer with_peer shut = after_close t None peer t.w.version (learns_none t.w t.w.phase) with_peer shut

-- on an open connection it says something, or sends bytes, or closes it
pub after_word : (t : Turn) (peer : ℕ) (m : Message) → partner t.w.what.peer t.w.phase ≡ Some peer → (end_with t peer).opened ≡ true → message_of (text_of m) ≡ Some m
    → next_work t (says_to t (talk t) None peer m) ≡ says t.w t.look.time peer None m
after_word t peer m with_peer live reads = after_saying t None peer t.w.version (learns_none t.w t.w.phase) with_peer m live reads

pub after_piece : (t : Turn) (peer b : ℕ) → partner t.w.what.peer t.w.phase ≡ Some peer → (end_with t peer).opened ≡ true
    → next_work t (sends_to t (talk t) None peer (Bytes b ∷ [])) ≡ to_phase t.w (puts_bytes b t.w.phase)
after_piece t peer b with_peer live = after_sending t None peer t.w.version (learns_none t.w t.w.phase) with_peer b live

pub after_gone : (t : Turn) (peer : ℕ) → partner t.w.what.peer t.w.phase ≡ Some peer → next_work t (sends_to t (talk t) None peer (Closing ∷ [])) ≡ closed_part (me t) t.w peer t.w.part
after_gone t peer with_peer = after_shutting t None peer t.w.version (learns_none t.w t.w.phase) with_peer

-- on no connection
module _ (t : Turn) (alone : partner t.w.what.peer t.w.phase ≡ None) where
  abbrev claimed : Work
  claimed = claims t.w t.w.part t.w.phase

  alone_here : (m : Effect) → talks_on (around_in t) (me t) (learns claimed t.w.phase None) (entry_of (me t) t.look m) (partner t.w.what.peer t.w.phase) ≡ talks (around_in t) (me t) claimed (entry_of (me t) t.look m) m.sent
  alone_here m = λ i. talks_on (around_in t) (me t) (learns_none claimed t.w.phase i) (entry_of (me t) t.look m) (alone i)

  pub after_opening : (peer : ℕ) → next_work t (sends_to t (talk t) None peer (Opening ∷ [])) ≡ to_phase claimed (Jobs.Opens peer)
  after_opening peer = alone_here (sends_to t (talk t) None peer (Opening ∷ []))

  pub after_request : (peer : ℕ) (m : Message) → message_of (text_of m) ≡ Some m → next_work t (says_to t (talk t) None peer m) ≡ says claimed t.look.time peer None m
  after_request peer m reads = alone_here (says_to t (talk t) None peer m) ∙ ap (Jobs.says_some claimed t.look.time peer None) reads

  pub after_quiet : next_work t (quietly (talk t) None) ≡ quiet (around_in t) (me t) claimed claimed.phase
  after_quiet = alone_here (quietly (talk t) None)

-- ---- a call of the store failed

-- a transfer, not a drop
abbrev pub IsTransfer : Part → Type 0
IsTransfer Drops = ⊥
IsTransfer part = Unit {0}

pub after_fault : (r : ℕ) (w : Work) → IsTransfer w.part → fault_phase r w w.part (side_of w) w.phase ≡ to_phase w (Jobs.Ends (TransferRefused failures.StoreFault))
after_fault r w = go w.part refl
  where
    go : (part : Part) → w.part ≡ part → IsTransfer part → fault_phase r w part (side_of w) w.phase ≡ to_phase w (Jobs.Ends (TransferRefused failures.StoreFault))
    go Gets is of = ap (λ (p : Part). to_phase w (Jobs.Ends (stores_fault p))) is
    go Puts is of = ap (λ (p : Part). to_phase w (Jobs.Ends (stores_fault p))) is
    go Drops is of = absurd of
