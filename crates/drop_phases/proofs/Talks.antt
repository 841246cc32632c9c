-- How a job's work moves as it talks on its connection with a peer.
use Rattle.std.proofs.Common.{◌≡◌, ℕ, Bool, true, false, List, [], ◌∷◌, Option, Some, None, refl, ap}
use Rattle.std.specs.Prelude.{if◌then◌else◌}
use Rattle.run_data.specs.declared.entry.Entry.{Entry}
use Rattle.run_data.specs.declared.entry.FrameText.{FrameText}
use Rattle.run_data.specs.declared.entry.FrameText.TheVariants.{Closing, Line}
use Rattle.run_data.specs.declared.entry.FrameView.{FrameView}
use Rattle.p2p_wire.specs.declared.message.Message.{Message}
use Rattle.p2p_wire.specs.Messages.{message_of, text_of}
use Rattle.node_model.specs.Ends.{End, EndName, end_sends, end_took, frames, sends_at, sent_at, taken_at, takes_at}
use Rattle.node_model.specs.Jobs.{RowsAndEnds, Work, closed_part, hears_frame, job_end, says, taken_message, talks_on}
use Rattle.annex_base.proofs.Conditions.{eqb_refl}
use Rattle.annex_base.specs.Bools.{same_bool}

sends_itself : (a : EndName) (epoch seq : ℕ) (body : FrameText) → sends_at a (record { peer = a.peer; slot = a.slot; up = a.client; epoch = epoch; seq = seq; body = body }) ≡ true
sends_itself a epoch seq body = rw (eqb_refl a.peer, eqb_refl a.slot) (elim a.client as (λ b. same_bool b b ≡ true) [ true ↦ refl | false ↦ refl ])

-- what an end sends is found there
sent_same : (a : EndName) (c : End) (bodies : List FrameText) → sent_at a (frames a c bodies) ≡ frames a c bodies
sent_same a c [] = refl
sent_same a c (body ∷ bodies) =
    rw (sends_itself a (end_sends c body).epoch (end_sends c body).sent body)
    (ap (λ fs. record { peer = a.peer; slot = a.slot; up = a.client; epoch = (end_sends c body).epoch; seq = (end_sends c body).sent; body = body } ∷ fs) (sent_same a (end_sends c body) bodies))

-- the end is open after what was taken
abbrev pub StaysOpen : EndName → End → Option FrameView → Type 0
StaysOpen a c taken = (end_took c (taken_at a taken)).opened ≡ true

pub open_line : (a : EndName) (c : End) (f : FrameView) (text : List ℕ) → f.body ≡ Line text → c.opened ≡ true → StaysOpen a c (Some f)
open_line a c f text is live = go (takes_at a f)
  where
    go : (b : Bool) → (end_took c (if b then Some f else None)).opened ≡ true
    go true = rw is live
    go false = live

pub on_heard : (rows : RowsAndEnds) (r : ℕ) (v : Work) (e : Entry) (peer : ℕ) → e.sent ≡ [] → StaysOpen (job_end v peer) (rows.ends (job_end v peer)) e.taken
    → talks_on rows r v e (Some peer) ≡ hears_frame rows r v e.taken
on_heard rows r v e peer none live = rw (none, live) refl

pub on_said : (rows : RowsAndEnds) (r : ℕ) (v : Work) (e : Entry) (peer : ℕ) (m : Message) → e.sent ≡ frames (job_end v peer) (rows.ends (job_end v peer)) (Line (text_of m) ∷ [])
    → StaysOpen (job_end v peer) (rows.ends (job_end v peer)) e.taken → message_of (text_of m) ≡ Some m
    → talks_on rows r v e (Some peer) ≡ says v e.time peer (taken_message e.taken) m
on_said rows r v e peer m sent live reads =
    rw (sent, sent_same (job_end v peer) (rows.ends (job_end v peer)) (Line (text_of m) ∷ []), live, reads) refl

pub on_shut : (rows : RowsAndEnds) (r : ℕ) (v : Work) (e : Entry) (peer : ℕ) → e.sent ≡ frames (job_end v peer) (rows.ends (job_end v peer)) (Closing ∷ [])
    → talks_on rows r v e (Some peer) ≡ closed_part r v peer v.part
on_shut rows r v e peer sent = rw (sent, sent_same (job_end v peer) (rows.ends (job_end v peer)) (Closing ∷ [])) refl
