-- Ways of connections, and what goes down them.
use Rattle.std.specs.Prelude.{Bool, true, false, bytes_eq, codes, ℕ, if◌then◌else◌, List}
use Rattle.p2p_wire.specs.declared.message.Message.{Message}
use Rattle.p2p_wire.specs.declared.message.Message.TheVariants.{AuthSuccess, Version, Timestamp, PutFrom, AlreadyHave, Valid, Invalid, Success, Failure, Error}
use Rattle.run_data.specs.declared.entry.Entry.{Entry}
use Rattle.run_data.specs.declared.entry.FrameView.{FrameView}
use Rattle.run_model.specs.Said.{Said, Says}
use Rattle.run_model.specs.Frames.{Way, FlyingFrame, sent_if}

-- ---- what is asked and answered

-- a server's message that completes an answer. An unexpected message has no answer: what is sent then closes the connection
abbrev pub completes : Message → Bool
completes (AuthSuccess id) = true
completes (Version n) = true
completes (Timestamp seconds) = true
completes (PutFrom n) = true
completes AlreadyHave = true
completes Valid = true
completes Invalid = true
completes Success = true
completes Failure = true
completes (Error text) = bytes_eq text (codes "busy")
completes _ = false

abbrev pub is_answer : Said → Bool
is_answer (Says m) = completes m
is_answer _ = false

abbrev pub down_of : Way → Way
down_of w = record w { up = false }

-- the way of a frame that r sends
abbrev pub way_from : ℕ → FrameView → Way
way_from r g = record { client = if g.up then r else g.peer; server = if g.up then g.peer else r; slot = g.slot; up = g.up; epoch = g.epoch }

-- ---- requests and answers

abbrev pub answers : List Entry → Way → List FlyingFrame
answers past w = sent_if is_answer past w
