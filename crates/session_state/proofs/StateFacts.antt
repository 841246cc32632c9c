-- What a session reads of a state that it is.
use Rattle.std.proofs.Common.{◌≡◌, ℕ, Bool, List, Option, Some, None, refl, sym, ap, ◌∙◌}
use Rattle.annex_base.specs.declared.kinds.Call.{Call}
use Rattle.run_data.specs.declared.entry.EntryKind.{EntryKind}
use Rattle.run_data.specs.declared.entry.FrameText.{FrameText}
use Rattle.run_data.specs.declared.entry.FrameText.TheVariants.{Opening, Closing, Bytes, Line}
use Rattle.run_data.specs.declared.entry.FrameView.{FrameView}
use Rattle.run_data.specs.declared.row.Hold.{Hold}
use Rattle.p2p_wire.specs.declared.message.Message.{Message}
use Rattle.p2p_wire.specs.Messages.{message_of}
use Rattle.object_store.specs.Stores.{Contents}
use Rattle.node_model.specs.Rows.{bar_after, content_after, holds_after, present_after}
use Rattle.node_model.specs.SetUp.{SetUp}
use Rattle.node_model.specs.Ends.{EndName}
use Rattle.node_model.specs.Look.{failed_in, Look}
use Rattle.node_model.specs.State.{State}
use Rattle.node_model.specs.Sessions as sessions
use Rattle.node_model.specs.SessionStep.{Here, Reply, here, is_filled, on_bytes, on_frame, on_text}
use Rattle.content_lock.specs.Rows.{Rows, is_filling}
use Rattle.session_state.specs.declared.place.Scene.{Scene}
use Rattle.session_state.specs.declared.incoming.Incoming.{Incoming}
use Rattle.session_state.specs.declared.incoming.Incoming.TheVariants as incoming
use Rattle.session_state.specs.declared.step.Step.{Step}
use Rattle.session_state.specs.Answers.{as_said, AnswersAsAsked, here_of, reply_of}
use Rattle.session_state.specs.Talking.{AreAfterStep, Brings, SaysSo, heard_line, next_session, on_heard, took_heard}
use Rattle.session_state.specs.States.{IsScene, HaveRows, Stand, stand_after, stand_of}

pub here_is : (x : Scene) (rows : Rows) (known : Option Contents) (s : SetUp) (st : State) (k : Look) (a : EndName) (fails : Option Call)
    → IsScene x s st k a → (r : HaveRows rows known (stand_of st)) → ((key : List ℕ) → is_filled s st key ≡ is_filling rows key) → k.fails ≡ fails
    → here_of x rows r.contents fails k.part k.right ≡ here s st k a
here_is x rows known s st k a fails e r filled f = λ i.
    record {
      at = sym e.at i;
      id = sym e.id i;
      version = sym e.version i;
      locks = sym e.locks i;
      now = sym e.clock i;
      number = sym e.number i;
      present = λ key. r.present key i;
      bar = λ key. r.bar key i;
      content = λ key. r.content key i;
      holds = r.holds i;
      filled = λ key. sym (filled key) i;
      fails = sym f i;
      part = k.part;
      right = k.right;
    }

pub heard_is : (h : Here) (was : sessions.Session) (i : Incoming) (body : FrameText) → Brings body i → on_heard h was i ≡ on_frame h was body
heard_is h was i Opening e = rw e refl
heard_is h was i Closing e = rw e refl
heard_is h was (incoming.Bytes bytes) (Bytes n) e = ap (λ (m : ℕ). on_bytes h m was.doing) (sym e)
heard_is h was incoming.Opening (Bytes n) e = absurd e
heard_is h was incoming.Closing (Bytes n) e = absurd e
heard_is h was incoming.Bad (Bytes n) e = absurd e
heard_is h was (incoming.Message m) (Bytes n) e = absurd e
heard_is h was i (Line text) e = go (message_of text) e
  where
    go : (m : Option Message) → heard_line m i → on_heard h was i ≡ on_text h was m
    go None e = rw e refl
    go (Some m) e = rw e refl

-- what a session goes on to be, in the words of the definitions
took_is : (size : List ℕ → Option ℕ) (kind : EntryKind) (was : sessions.Session) (sent : List FrameView) (i : Incoming) (body : FrameText) → Brings body i
    → took_heard size kind was (sessions.message_said sent) i ≡ sessions.session_took size kind was sent body
took_is size kind was sent i Opening e = rw e refl
took_is size kind was sent i Closing e = rw e refl
took_is size kind was sent (incoming.Bytes bytes) (Bytes n) e = ap (λ (m : ℕ). record was { doing = sessions.took_bytes m was.doing }) (sym e)
took_is size kind was sent incoming.Opening (Bytes n) e = absurd e
took_is size kind was sent incoming.Closing (Bytes n) e = absurd e
took_is size kind was sent incoming.Bad (Bytes n) e = absurd e
took_is size kind was sent (incoming.Message m) (Bytes n) e = absurd e
took_is size kind was sent i (Line text) e = go (message_of text) e
  where
    go : (m : Option Message) → heard_line m i → took_heard size kind was (sessions.message_said sent) i ≡ sessions.took_message size kind was (sessions.message_said sent) m
    go None e = rw e refl
    go (Some m) e = rw e refl

pub next_is : (size : List ℕ → Option ℕ) (step : Step) (was : sessions.Session) (i : Incoming) (sent : List FrameView) (f : FrameView)
    → Brings f.body i → SaysSo step sent → next_session size step was i ≡ sessions.session_after size step.kind was sent (Some f)
next_is size step was i sent f e so =
    (λ j. sessions.session_left (sym so.close_is j) (took_heard size step.kind was (sym so.said_is j) i))
    ∙ ap (sessions.session_left (sessions.sends_close sent)) (took_is size step.kind was sent i f.body e)

pub step_is : (x : Scene) (rows : Rows) (known known' : Option Contents) (was : sessions.Session) (i : Incoming) (step : Step)
    (s : SetUp) (st : State) (k : Look) (a : EndName) (body : FrameText)
    → IsScene x s st k a → (r : HaveRows rows known (stand_of st)) → ((key : List ℕ) → is_filled s st key ≡ is_filling rows key)
    → st.sessions a ≡ was → Brings body i → k.fails ≡ failed_in step.kind
    → AnswersAsAsked x rows r.contents known' k.part k.right (λ h. on_heard h was i) step → reply_of step ≡ as_said (on_frame (here s st k a) (st.sessions a) body)
step_is x rows known known' was i step s st k a body e r filled same brings f d =
    d.answers
    ∙ ap as_said ((λ j. on_heard (here_is x rows known s st k a (failed_in step.kind) e r filled f j) (sym same j) i)
    ∙ heard_is (here s st k a) (st.sessions a) i body brings)

pub stands : (x : Scene) (rows now : Rows) (known known' : Option Contents) (part : ℕ) (right : Bool) (asked : Here → Reply) (step : Step) (stand : Stand)
    → (r : HaveRows rows known stand) → AreAfterStep step.kind rows now → AnswersAsAsked x rows r.contents known' part right asked step
    → HaveRows now known' (stand_after step.kind stand)
stands x rows now known known' part right asked step stand r after d =
    record {
      contents = d.changes.contents;
      told = d.changes.told;
      present = λ key. d.changes.present key ∙ ap (λ (b : Bool). present_after key b step.kind) (r.present key);
      content = λ key. d.changes.sizes key ∙ ap (λ (b : Option ℕ). content_after key b step.kind) (r.content key);
      bar = λ key. after.bars key ∙ ap (λ (b : Option ℕ). bar_after key b step.kind) (r.bar key);
      holds = after.holds ∙ ap (λ (hs : List Hold). holds_after hs step.kind) r.holds;
    }
