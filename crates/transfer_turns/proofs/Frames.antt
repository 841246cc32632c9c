-- What a frame that came brings, and how it is taken.
use Rattle.std.proofs.Common.{◌≡◌, ℕ, List, length, Option, Some, None, refl, ap, ◌∙◌}
use Rattle.std.specs.declared.alloc.Global.{Global}
use Rattle.std.specs.declared.vec.Vec.{Vec}
use Rattle.run_data.specs.declared.entry.FrameText.{FrameText}
use Rattle.run_data.specs.declared.entry.FrameText.TheVariants.{Opening, Closing, Bytes, Line}
use Rattle.run_data.specs.declared.entry.FrameView.{FrameView}
use Rattle.p2p_wire.specs.declared.message.Message.{Message}
use Rattle.p2p_wire.specs.Messages.{message_of}
use Rattle.node_model.specs.JobStep.{Turn, hears, wrong_message}
use Rattle.node_model.specs.Sessions.{line_in}
use Rattle.node_model.specs.TransferStep.{takes_bytes}
use Rattle.node_model.specs.Turns.{takes}
use Rattle.session_state.specs.declared.incoming.Incoming.TheVariants as incoming
use Rattle.session_state.specs.Talking.{Brings, heard_line}
use Rattle.drop_phases.proofs.Takings.{Lined, line_takes}
use Rattle.transfer_turns.specs.Turns.{step_at}

-- ---- what it brings

-- the line that came
pub lined : (body : FrameText) (m : Message) → Brings body (incoming.Message m) → Lined body m
lined Opening m b = absurd (cc)
lined Closing m b = absurd (cc)
lined (Bytes n) m b = absurd b
lined (Line text) m b = go (message_of text) refl b
  where
    go : (o : Option Message) → message_of text ≡ o → heard_line o (incoming.Message m) → Lined (Line text) m
    go None is b = absurd (cc)
    go (Some k) is b = let same : k ≡ m = cc in record { text = text; is = refl; reads = is ∙ ap (λ (n : Message). Some n) same }

pub line_is : (body : FrameText) (m : Message) → Lined body m → line_in body ≡ Some m
line_is body m l = ap line_in l.is ∙ l.reads

-- a line that is no message
pub record Unread (body : FrameText) : Type 0 where
  pub text : List ℕ
  pub is : body ≡ Line text
  pub reads : message_of text ≡ None

pub unread : (body : FrameText) → Brings body incoming.Bad → Unread body
unread Opening b = absurd (cc)
unread Closing b = absurd (cc)
unread (Bytes n) b = absurd b
unread (Line text) b = go (message_of text) refl b
  where
    go : (o : Option Message) → message_of text ≡ o → heard_line o incoming.Bad → Unread (Line text)
    go None is b = record { text = text; is = refl; reads = is }
    go (Some m) is b = absurd (cc)

pub closing_is : (body : FrameText) → Brings body incoming.Closing → body ≡ Closing
closing_is Opening b = absurd (cc)
closing_is Closing b = refl
closing_is (Bytes n) b = absurd b
closing_is (Line text) b = go (message_of text) b
  where
    go : (o : Option Message) → heard_line o incoming.Closing → Line text ≡ Closing
    go None b = absurd (cc)
    go (Some m) b = absurd (cc)

pub opening_is : (body : FrameText) → Brings body incoming.Opening → body ≡ Opening
opening_is Opening b = refl
opening_is Closing b = absurd (cc)
opening_is (Bytes n) b = absurd b
opening_is (Line text) b = go (message_of text) b
  where
    go : (o : Option Message) → heard_line o incoming.Opening → Line text ≡ Opening
    go None b = absurd (cc)
    go (Some m) b = absurd (cc)

pub bytes_are : (body : FrameText) (bytes : Vec ℕ Global) → Brings body (incoming.Bytes bytes) → body ≡ Bytes (length bytes.items)
bytes_are Opening bytes b = absurd (cc)
bytes_are Closing bytes b = absurd (cc)
bytes_are (Bytes n) bytes b = ap (λ (k : ℕ). Bytes k) b
bytes_are (Line text) bytes b = go (message_of text) b
  where
    go : (o : Option Message) → heard_line o (incoming.Bytes bytes) → Line text ≡ Bytes (length bytes.items)
    go None b = absurd (cc)
    go (Some m) b = absurd (cc)

-- ---- how it is taken

pub message_step : (t : Turn) (f : FrameView) (peer : ℕ) (m : Message) → Brings f.body (incoming.Message m) → takes t f peer t.w.phase m ≡ step_at (Some peer) (Some f) t
message_step t f peer m b = line_takes t f peer m (lined f.body m b)

pub bad_step : (t : Turn) (f : FrameView) (peer : ℕ) → Brings f.body incoming.Bad → wrong_message t f peer ≡ step_at (Some peer) (Some f) t
bad_step t f peer b = go (unread f.body b)
  where
    go : Unread f.body → wrong_message t f peer ≡ step_at (Some peer) (Some f) t
    go u = rw (u.is, u.reads) refl

pub closing_step : (t : Turn) (f : FrameView) (peer : ℕ) → Brings f.body incoming.Closing → hears t f ≡ step_at (Some peer) (Some f) t
closing_step t f peer b = rw (closing_is f.body b) refl

pub opening_step : (t : Turn) (f : FrameView) (peer : ℕ) → Brings f.body incoming.Opening → wrong_message t f peer ≡ step_at (Some peer) (Some f) t
opening_step t f peer b = rw (opening_is f.body b) refl

pub bytes_step : (t : Turn) (f : FrameView) (peer : ℕ) (bytes : Vec ℕ Global) → Brings f.body (incoming.Bytes bytes) → takes_bytes t f peer (length bytes.items) t.w.phase ≡ step_at (Some peer) (Some f) t
bytes_step t f peer bytes b = rw (bytes_are f.body bytes b) refl
