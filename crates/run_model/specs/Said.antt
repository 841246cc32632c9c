-- What a frame says, as far as it matters in the counts of requests and answers (P2P protocol).
use Rattle.std.specs.Prelude.{Bool, true, false, Option, Some, None}
use Rattle.run_data.specs.declared.entry.FrameText.{FrameText}
use Rattle.run_data.specs.declared.entry.FrameText.TheVariants.{Opening, Closing, Bytes, Line}
use Rattle.p2p_wire.specs.declared.message.Message.{Message}
use Rattle.p2p_wire.specs.declared.message.Message.TheVariants.{Version, CheckPresent, LockContent, Remove, RemoveBefore, GetTimestamp, Get, Put, Valid, Invalid}
use Rattle.p2p_wire.specs.Messages.{message_of}

-- a connection opens or closes, a piece of bytes comes, a message, or a line that is none
pub data Said : Type 0 where
  OpenIt CloseIt Piece Unknown : Said
  Says : (m : Message) → Said

abbrev pub said_line : Option Message → Said
said_line None = Unknown
said_line (Some m) = Says m

-- what a frame says. It is opened only where a line is read or written: laws hold whatever is read
unfoldable pub message_in : FrameText → Said
message_in Opening = OpenIt
message_in Closing = CloseIt
message_in (Bytes n) = Piece
message_in (Line text) = said_line (message_of text)

-- ---- what is asked and answered

abbrev pub is_close : Said → Bool
is_close CloseIt = true
is_close _ = false

-- a client's message that wants an answer
abbrev pub wants_answer : Message → Bool
wants_answer (Version n) = true
wants_answer (CheckPresent key) = true
wants_answer (LockContent key) = true
wants_answer (Remove key) = true
wants_answer (RemoveBefore before key) = true
wants_answer GetTimestamp = true
wants_answer (Get n file key) = true
wants_answer (Put file key) = true
wants_answer Valid = true
wants_answer Invalid = true
wants_answer _ = false

abbrev pub is_request : Said → Bool
is_request OpenIt = true
is_request (Says m) = wants_answer m
is_request _ = false
