-- Streams of messages and raw bytes, and what a decoder answers that is fed one in pieces (git-annex P2P protocol).
use Rattle.std.specs.Prelude.{◌≡◌, ℕ, ◌+◌, ◌-◌, ◌^◌, min, if◌then◌else◌, ◌==◌, nat_lt, List, [], ◌∷◌, ◌++◌, length, take, drop, map, flat_map, Option, Some, None}
use Rattle.std.specs.List.{before_first, position_or_len}
use Rattle.annex_base.specs.Lines.{newline, is_newline, IsOneLine}
use Rattle.annex_base.specs.Lists.{Each}
use Rattle.p2p_wire.specs.declared.message.Message.{Message}
use Rattle.p2p_wire.specs.declared.message.Message.TheVariants.{Data, Error}
use Rattle.p2p_wire.specs.declared.decoder.Next.{Next}
use Rattle.p2p_wire.specs.declared.decoder.Next.TheVariants as next
use Rattle.p2p_wire.specs.declared.decoder.Why.{Why}
use Rattle.p2p_wire.specs.declared.decoder.Why.TheVariants.{NotAMessage, TooLong}
use Rattle.p2p_wire.specs.Messages.{message_of, text_of}

-- ---- streams

-- the message's line is a line of the protocol: it has no newline, and is read as this message
abbrev pub IsLine : Message → Type 0
IsLine m = (message_of (text_of m) ≡ Some m) × IsOneLine (text_of m)

-- the text of an error has one line
abbrev pub IsSaidInOneLine : Message → Type 0
IsSaidInOneLine (Error text) = IsOneLine text
IsSaidInOneLine m = Unit {0}

-- a message on the stream: its line, and the newline
abbrev pub line_of : Message → List ℕ
line_of m = text_of m ++ newline ∷ []

-- how many raw bytes follow a message
abbrev pub raw_after : Message → ℕ
raw_after (Data n) = n
raw_after m = 0

-- a message, and the raw bytes that follow it
pub record Item : Type 0 where
  pub message : Message
  pub raw : List ℕ

abbrev pub IsItem : Item → Type 0
IsItem i = IsLine i.message × (length i.raw ≡ raw_after i.message)

abbrev pub item_bytes : Item → List ℕ
item_bytes i = line_of i.message ++ i.raw

-- the bytes of a stream of these items
abbrev pub stream_of : List Item → List ℕ
stream_of items = flat_map item_bytes items

-- ---- the next answer

-- what a decoder was fed and has not given
pub record DecoderView : Type 0 where
  pub place : ℕ  -- of the first of these bytes in the stream; 2 ^ 64 - 1 from there on
  pub left : ℕ  -- how many raw bytes of the last DATA it has not given
  pub bytes : List ℕ
  pub fault : Option Why

abbrev pub start : DecoderView
start = record { place = 0; left = 0; bytes = []; fault = None }

-- an answer: a message, raw bytes, that more bytes are needed, or why the line at this place is none of the protocol
pub data DecoderAnswer : Type 0 where
  Says : (message : Message) → DecoderAnswer
  Gives : (raw : List ℕ) → DecoderAnswer
  Waits : DecoderAnswer
  Refuses : (at : ℕ) (why : Why) → DecoderAnswer

-- the same, as a call returns it
abbrev pub answer_by : Next → DecoderAnswer
answer_by (next.Message m) = Says m
answer_by (next.Data raw) = Gives raw.items
answer_by next.NeedMore = Waits
answer_by (next.Bad at why) = Refuses at why

-- where the first newline stands, or the length where there is none
abbrev pub line_len : List ℕ → ℕ
line_len bytes = position_or_len is_newline bytes

-- a whole line that is read so
abbrev pub whole_line : ℕ → Option Message → DecoderAnswer
whole_line place None = Refuses place NotAMessage
whole_line place (Some m) = Says m

-- where a line comes next: it is too long (the limit is own), unfinished, or whole
abbrev pub line_told : ℕ → List ℕ → DecoderAnswer
line_told place bytes =
    if nat_lt 8192 (line_len bytes) then Refuses place TooLong
    else if line_len bytes == length bytes then Waits
    else whole_line place (message_of (before_first is_newline bytes))

-- where raw bytes come next, these are at hand
abbrev pub raw_told : List ℕ → DecoderAnswer
raw_told [] = Waits
raw_told (b ∷ raw) = Gives (b ∷ raw)

-- a fault is told again for ever (own)
abbrev pub unread_told : DecoderView → Option Why → DecoderAnswer
unread_told u (Some why) = Refuses u.place why
unread_told u None = if u.left == 0 then line_told u.place u.bytes else raw_told (take u.left u.bytes)

abbrev pub next_answer : DecoderView → DecoderAnswer
next_answer u = unread_told u u.fault

-- ---- what is left after an answer, and after a piece

-- this many bytes were given, and so many raw bytes are to come
abbrev pub after_giving : DecoderView → ℕ → ℕ → DecoderView
after_giving u count left = record { place = min (u.place + count) (2 ^ 64 - 1); left = left; bytes = drop count u.bytes; fault = u.fault }

abbrev pub after_told : DecoderView → DecoderAnswer → DecoderView
after_told u (Says m) = after_giving u (length (line_of m)) (raw_after m)
after_told u (Gives raw) = after_giving u (length raw) (u.left - length raw)
after_told u Waits = u
after_told u (Refuses at why) = record { place = u.place; left = u.left; bytes = u.bytes; fault = Some why }

abbrev pub after : DecoderView → DecoderView
after u = after_told u (next_answer u)

-- nothing is kept after a fault (own)
abbrev pub after_piece_by : DecoderView → List ℕ → Option Why → DecoderView
after_piece_by u piece (Some why) = u
after_piece_by u piece None = record { place = u.place; left = u.left; bytes = u.bytes ++ piece; fault = None }

abbrev pub after_piece : DecoderView → List ℕ → DecoderView
after_piece u piece = after_piece_by u piece u.fault

-- ---- runs of a decoder

-- it is fed a piece, or asked for the next answer
pub data DecoderEvent : Type 0 where
  Fed : (piece : List ℕ) → DecoderEvent
  Asked : DecoderEvent

abbrev pub bytes_fed_in : DecoderEvent → List ℕ
bytes_fed_in (Fed piece) = piece
bytes_fed_in Asked = []

-- all bytes that it is fed
abbrev pub fed_bytes : List DecoderEvent → List ℕ
fed_bytes events = flat_map bytes_fed_in events

-- its answers in order
abbrev pub answers : List DecoderEvent → DecoderView → List DecoderAnswer
answers [] u = []
answers (Fed piece ∷ events) u = answers events (after_piece u piece)
answers (Asked ∷ events) u = next_answer u ∷ answers events (after u)

-- what it has not given in the end
abbrev pub after_all : List DecoderEvent → DecoderView → DecoderView
after_all [] u = u
after_all (Fed piece ∷ events) u = after_all events (after_piece u piece)
after_all (Asked ∷ events) u = after_all events (after u)

-- ---- what answers tell, however raw bytes were cut

pub data Sign : Type 0 where
  Line : (message : Message) → Sign
  Raw : (byte : ℕ) → Sign
  Fault : (at : ℕ) (why : Why) → Sign

abbrev pub signs_in : DecoderAnswer → List Sign
signs_in (Says m) = Line m ∷ []
signs_in (Gives raw) = map Raw raw
signs_in Waits = []
signs_in (Refuses at why) = Fault at why ∷ []

abbrev pub signs_of : Item → List Sign
signs_of i = Line i.message ∷ map Raw i.raw

-- the bytes that an answer gives
abbrev pub bytes_given_in : DecoderAnswer → List ℕ
bytes_given_in (Says m) = line_of m
bytes_given_in (Gives raw) = raw
bytes_given_in Waits = []
bytes_given_in (Refuses at why) = []

-- the items come in order, nothing else comes, and the rest is still to come
pub record Decodes (items : List Item) (more : List ℕ) (events : List DecoderEvent) : Type 0 where
  pub later : List Sign
  pub in_order : flat_map signs_of items ≡ flat_map signs_in (answers events start) ++ later
  pub whole : more ≡ [] → next_answer (after_all events start) ≡ Waits → later ≡ []

-- a message that is given is one of the protocol
abbrev pub IsToldLine : DecoderAnswer → Type 0
IsToldLine (Says m) = IsLine m
IsToldLine t = Unit {0}

-- a refusal tells the fault and the place where the decoder stops
abbrev pub IsToldFault : DecoderView → DecoderAnswer → Type 0
IsToldFault u (Refuses at why) = (u.fault ≡ Some why) × (u.place ≡ at)
IsToldFault u t = Unit {0}

-- what was fed is what was given, and then what was not given and what came after a fault; a fault is that of the line
-- with which the bytes that were not given begin
pub record Accounts (events : List DecoderEvent) : Type 0 where
  pub ignored : List ℕ
  pub bytes : fed_bytes events ≡ flat_map bytes_given_in (answers events start) ++ ((after_all events start).bytes ++ ignored)
  pub kept : (after_all events start).fault ≡ None → ignored ≡ []
  pub place : (after_all events start).place ≡ min (length (flat_map bytes_given_in (answers events start))) (2 ^ 64 - 1)
  pub lines : Each IsToldLine (answers events start)
  pub faults : Each (IsToldFault (after_all events start)) (answers events start)
  pub fault : (why : Why) → (after_all events start).fault ≡ Some why → line_told (after_all events start).place (after_all events start).bytes ≡ Refuses (after_all events start).place why
