-- A local drop that is told of a frame that is no message, or of a connection that was closed here.
use Rattle.std.proofs.Common.{◌≡◌, ℕ, Bool, List, [], Option, Some, None, refl, sym, ap, ◌∙◌}
use Rattle.std.specs.Prelude.{if◌then◌else◌}
use Rattle.drop_proof.specs.declared.rule.Side.TheVariants.{Local}
use Rattle.run_data.specs.declared.entry.EntryKind.TheVariants.{Talk}
use Rattle.run_data.specs.declared.entry.FrameText.{FrameText}
use Rattle.run_data.specs.declared.entry.FrameText.TheVariants.{Opening, Closing, Bytes, Line}
use Rattle.run_data.specs.declared.entry.FrameView.{FrameView}
use Rattle.run_data.specs.declared.job.Cause.TheVariants as causes
use Rattle.p2p_wire.specs.declared.message.Message.{Message}
use Rattle.p2p_wire.specs.Messages.{message_of}
use Rattle.node_model.specs.Around.{around_in}
use Rattle.node_model.specs.Rows.{option_is}
use Rattle.node_model.specs.Sessions.{line_in}
use Rattle.node_model.specs.Jobs.{Drops, Work, closed_part, drop_side, learns, partner, talks_on, version_said}
use Rattle.node_model.specs.JobStep.{Turn, wrong_message}
use Rattle.node_model.specs.Look.{as_told, entry_of}
use Rattle.node_model.specs.TransferStep.{takes_bytes}
use Rattle.node_model.specs.Turns.{takes_frame, takes_text}
use Rattle.content_lock.specs.Rows.{Rows}
use Rattle.drop_phases.specs.declared.phase.Phase.{Phase}
use Rattle.drop_phases.specs.declared.phase.Phase.TheVariants as phases
use Rattle.drop_phases.specs.declared.phase.Heard.TheVariants as heards
use Rattle.drop_phases.specs.declared.turn.Output.{Output}
use Rattle.drop_phases.specs.declared.turn.Taken.TheVariants as takens
use Rattle.drop_phases.specs.Worker.{Worker}
use Rattle.drop_phases.specs.Working.{Rest, Sight, phase_as, taken_line, taken_of, turn_in, work_of}
use Rattle.drop_phases.specs.Doing.{Comes, DoesAsAsked, Shuts, next_work}
use Rattle.drop_phases.proofs.Talks.{on_shut}
use Rattle.drop_phases.proofs.Takings.{close_parcel, closed_local, heard_next, talk_does}
use Rattle.drop_phases.proofs.Greetings.{kept}
use Rattle.drop_phases.proofs.Unexpected.{bytes_else}

-- a line that is no message
no_message : (text : List ℕ) → taken_line (message_of text) ≡ takens.Other → message_of text ≡ None
no_message text = go (message_of text)
  where
    go : (o : Option Message) → taken_line o ≡ takens.Other → o ≡ None
    go None e = refl
    go (Some m) e = absurd (cc)

pub other_wrong : (t : Turn) (f : FrameView) (peer : ℕ) (ph : Phase) (body : FrameText) → t.w.phase ≡ phase_as ph → taken_of body ≡ takens.Other → wrong_message t f peer ≡ takes_frame t peer f body
other_wrong t f peer ph Opening at e = refl
other_wrong t f peer ph Closing at e = absurd (cc)
other_wrong t f peer ph (Bytes n) at e = sym (ap (takes_bytes t f peer n) at ∙ bytes_else t f peer n ph)
other_wrong t f peer ph (Line text) at e = sym (ap (takes_text t f peer) (no_message text e))

no_line : (body : FrameText) → taken_of body ≡ takens.Other → line_in body ≡ None
no_line Opening e = refl
no_line Closing e = absurd (cc)
no_line (Bytes n) e = refl
no_line (Line text) e = no_message text e

other_learns : (v : Work) (f : FrameView) (ph : Phase) → taken_of f.body ≡ takens.Other → learns v (phase_as ph) (Some f) ≡ v
other_learns v f (phases.Greets peer) is =
    (λ i. if option_is v.what.peer peer then record v { version = version_said v.version (no_line f.body is i) } else v) ∙ kept v (option_is v.what.peer peer)
other_learns v f phases.Fresh is = refl
other_learns v f phases.Next is = refl
other_learns v f (phases.Opens peer) is = refl
other_learns v f (phases.AsksLock peer since) is = refl
other_learns v f (phases.AsksLook peer) is = refl
other_learns v f phases.AsksTime is = refl
other_learns v f phases.Orders is = refl
other_learns v f phases.Removed is = refl
other_learns v f phases.Denied is = refl
other_learns v f (phases.Late time) is = refl
other_learns v f (phases.Ends why) is = refl

pub other_does : (x : Sight) (rows : Rows) (p : List ℕ → Bool) (w w' : Worker) (f : FrameView) (peer : ℕ) (out : Output) → drop_side w.job.kind w.job.peer ≡ Local
    → partner w.job.peer (phase_as w.phase) ≡ Some peer → Shuts peer w w' out → Comes x w.slot peer f takens.Other → DoesAsAsked x rows rows p w w' (Some f) (λ t. takes_frame t peer f f.body) out
other_does x rows p w w' f peer out local with_peer shuts comes =
    talk_does x rows p w w' (Some f) (λ t. takes_frame t peer f f.body) _ out shuts.kind shuts.sends
    (λ rest. (λ i. record { kind = Talk (Some w.number); taken = Some f; sent = close_parcel x w.slot peer i; lines = []; calls = [] }) ∙ ap as_told (is rest))
    (λ rest. heard_next rest w w' peer (heards.Lacks causes.Closed) shuts.next
    ∙ (sym (closed_local x.read.repo (work_of rest w) peer local comes.apart) ∙ (sym (moves rest) ∙ ap (next_work (turn rest)) (is rest))))
  where
    turn : Rest → Turn
    turn rest = turn_in x rows p None rest w

    is : (rest : Rest) → wrong_message (turn rest) f peer ≡ takes_frame (turn rest) peer f f.body
    is rest = other_wrong (turn rest) f peer w.phase f.body refl comes.is

    moves : (rest : Rest) → next_work (turn rest) (wrong_message (turn rest) f peer) ≡ closed_part x.read.repo (work_of rest w) peer Drops
    moves rest =
        (λ i. talks_on (around_in (turn rest)) x.read.repo (other_learns (work_of rest w) f w.phase comes.is i) (entry_of x.read.repo (turn rest).look (wrong_message (turn rest) f peer)) (with_peer i))
        ∙ on_shut (around_in (turn rest)) x.read.repo (work_of rest w) (entry_of x.read.repo (turn rest).look (wrong_message (turn rest) f peer)) peer refl
