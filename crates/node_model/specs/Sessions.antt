-- A repository as a server: what the session on each connection does.
use Rattle.std.specs.Prelude.{ℕ, ◌+◌, ◌-◌, Bool, true, false, ◌||◌, if◌then◌else◌, ◌==◌, nat_le, List, [], ◌∷◌, Option, Some, None, bytes_eq}
use Rattle.run_data.specs.declared.entry.EntryKind.{EntryKind}
use Rattle.run_data.specs.declared.entry.EntryKind.TheVariants.{Share}
use Rattle.run_data.specs.declared.entry.FrameView.{FrameView}
use Rattle.run_data.specs.declared.entry.FrameText.{FrameText}
use Rattle.run_data.specs.declared.entry.FrameText.TheVariants.{Opening, Closing, Bytes, Line}
use Rattle.p2p_wire.specs.declared.message.Message.{Message}
use Rattle.p2p_wire.specs.declared.message.Message.TheVariants.{Version, LockContent, UnlockContent, Get, Put, PutFrom, Data, Valid, Invalid, Success, Failure}
use Rattle.p2p_wire.specs.Messages.{message_of}

-- ---- sessions

-- what a session does: it waits for a request; guards a locked key; gives the bytes of a content from a place on, and then
-- says whether they are good, and waits for what the client says of them; or takes the bytes of one
pub data Doing : Type 0 where
  Waits : Doing
  Guards : (hold : ℕ) (key : List ℕ) → Doing
  Gives : (key : List ℕ) (at left : ℕ) (good : Bool) → Doing
  Gave : Doing
  Wants : (key : List ℕ) (size : ℕ) → Doing
  Takes : (key : List ℕ) (size left : ℕ) → Doing
  Took : (key : List ℕ) (size : ℕ) → Doing

pub record Session : Type 0 where
  pub version : ℕ
  pub doing : Doing

abbrev pub new_session : Session
new_session = record { version = 0; doing = Waits }

-- the message of a frame, if it has one
abbrev pub line_in : FrameText → Option Message
line_in (Line text) = message_of text
line_in _ = None

abbrev pub message_said : List FrameView → Option Message
message_said [] = None
message_said (f ∷ fs) = line_in f.body

-- the content has a byte at this place, or ends there
abbrev pub reaches : Option ℕ → ℕ → Bool
reaches None n = false
reaches (Some size) n = nat_le n size

-- bytes of the key come, so many
abbrev pub takes_more : List ℕ → ℕ → ℕ → Doing
takes_more key size left = if left == 0 then Took key size else Takes key size left

abbrev pub guards : EntryKind → Doing
guards (Share hold end owner key) = Guards hold key
guards _ = Waits

abbrev pub gives : List ℕ → ℕ → Bool → Option Message → Doing
gives key at good (Some (Data left)) = Gives key at left good
gives key at good _ = Waits

abbrev pub wants : List ℕ → Option Message → Doing
wants key (Some (PutFrom size)) = Wants key size
wants key _ = Waits

abbrev pub takes_from : ℕ → Doing → Doing
takes_from n (Wants key size) = takes_more key size n
takes_from n was = was

-- what it does after it took a message and said another, by an entry of this kind
abbrev pub doing_after : (List ℕ → Option ℕ) → EntryKind → Doing → Option Message → Message → Doing
doing_after size kind was told (LockContent key) = guards kind
doing_after size kind was told (UnlockContent key) = Waits
doing_after size kind was told (Get n file key) = gives key n (reaches (size key) n) told
doing_after size kind was told (Put file key) = wants key told
doing_after size kind was told (Data n) = takes_from n was
doing_after size kind was told Valid = Waits
doing_after size kind was told Invalid = Waits
doing_after size kind was told Success = Waits
doing_after size kind was told Failure = Waits
doing_after size kind was told _ = was

abbrev pub version_told : ℕ → Option Message → ℕ
version_told was (Some (Version n)) = n
version_told was _ = was

abbrev pub took_message : (List ℕ → Option ℕ) → EntryKind → Session → Option Message → Option Message → Session
took_message size kind was told None = was
took_message size kind was told (Some m) = record { version = version_told was.version told; doing = doing_after size kind was.doing told m }

abbrev pub took_bytes : ℕ → Doing → Doing
took_bytes n (Takes key size left) = takes_more key (size + n) (left - n)
took_bytes n was = was

abbrev pub gave_bytes : ℕ → Doing → Doing
gave_bytes n (Gives key at left good) = Gives key (at + n) (left - n) good
gave_bytes n was = was

-- it sent a piece, or its word on the pieces, unasked
abbrev pub sent_one : Session → FrameText → Session
sent_one was (Bytes n) = record was { doing = gave_bytes n was.doing }
sent_one was (Line text) = record was { doing = Gave }
sent_one was _ = was

abbrev pub sent_more : Session → List FrameView → Session
sent_more was [] = was
sent_more was (f ∷ fs) = sent_one was f.body

abbrev pub session_took : (List ℕ → Option ℕ) → EntryKind → Session → List FrameView → FrameText → Session
session_took size kind was sent Opening = was
session_took size kind was sent Closing = new_session
session_took size kind was sent (Bytes n) = record was { doing = took_bytes n was.doing }
session_took size kind was sent (Line text) = took_message size kind was (message_said sent) (message_of text)

abbrev pub session_goes : (List ℕ → Option ℕ) → EntryKind → Session → List FrameView → Option FrameView → Session
session_goes size kind was sent None = sent_more was sent
session_goes size kind was sent (Some f) = session_took size kind was sent f.body

abbrev pub is_closing : FrameText → Bool
is_closing Closing = true
is_closing _ = false

-- a Close is sent
abbrev pub sends_close : List FrameView → Bool
sends_close [] = false
sends_close (f ∷ fs) = is_closing f.body || sends_close fs

-- it is new where it closes
abbrev pub session_left : Bool → Session → Session
session_left shut was = if shut then new_session else was

abbrev pub session_after : (List ℕ → Option ℕ) → EntryKind → Session → List FrameView → Option FrameView → Session
session_after size kind was sent taken = session_left (sends_close sent) (session_goes size kind was sent taken)

-- the session takes the bytes of the key
abbrev pub is_filling : List ℕ → Doing → Bool
is_filling key (Wants k size) = bytes_eq k key
is_filling key (Takes k size left) = bytes_eq k key
is_filling key (Took k size) = bytes_eq k key
is_filling key _ = false
