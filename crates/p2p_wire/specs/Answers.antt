-- When each answer of a decoder comes, in the protocol's words (git-annex P2P protocol).
use Rattle.std.specs.Prelude.{◌≡◌, ◌⊎◌, ◌↔◌, ℕ, ◌<◌, ◌≤◌, List, [], ◌∷◌, ◌++◌, length, take, Some, None}
use Rattle.annex_base.specs.Lines.{newline, IsOneLine}
use Rattle.p2p_wire.specs.declared.message.Message.{Message}
use Rattle.p2p_wire.specs.declared.decoder.Why.{Why}
use Rattle.p2p_wire.specs.declared.decoder.Why.TheVariants.{NotAMessage, TooLong}
use Rattle.p2p_wire.specs.Messages.{message_of, text_of}
use Rattle.p2p_wire.specs.Streams.{DecoderView, Says, Gives, Waits, Refuses, after, next_answer}

-- an unfinished line of at most 8,192 bytes (the limit is own), or raw bytes to come of which none is at hand
abbrev pub NeedsMore : DecoderView → Type 0
NeedsMore u = ((u.left ≡ 0) × IsOneLine u.bytes × (length u.bytes ≤ 8192)) ⊎ ((0 < u.left) × (u.bytes ≡ []))

-- all raw bytes that are to come and at hand, at least one
abbrev pub HasRaw : DecoderView → List ℕ → Type 0
HasRaw u raw = (0 < length raw) × (raw ≡ take u.left u.bytes)

-- a whole line comes next
pub record HasLine (u : DecoderView) (line : List ℕ) : Type 0 where
  pub none_left : u.left ≡ 0
  pub one_line : IsOneLine line
  pub rest : List ℕ
  pub at_hand : u.bytes ≡ line ++ newline ∷ rest

-- 8,193 bytes without a newline come next
abbrev pub HasLongLine : DecoderView → Type 0
HasLongLine u = (u.left ≡ 0) × (8192 < length u.bytes) × IsOneLine (take 8193 u.bytes)

-- the answers of a decoder that met no fault; a fault is told again for ever (own)
pub record Answers (u : DecoderView) : Type 0 where
  pub more : u.fault ≡ None → (next_answer u ≡ Waits) ↔ NeedsMore u
  pub raw : u.fault ≡ None → (raw : List ℕ) → (next_answer u ≡ Gives raw) ↔ HasRaw u raw
  pub line : u.fault ≡ None → (m : Message) → (next_answer u ≡ Says m) ↔ (HasLine u (text_of m) × (message_of (text_of m) ≡ Some m))
  pub bad : u.fault ≡ None → (at : ℕ) → (next_answer u ≡ Refuses at NotAMessage) ↔ ((at ≡ u.place) × ((text : List ℕ) × HasLine u text × (length text ≤ 8192) × (message_of text ≡ None)))
  pub long : u.fault ≡ None → (at : ℕ) → (next_answer u ≡ Refuses at TooLong) ↔ ((at ≡ u.place) × HasLongLine u)
  pub again : (why : Why) → u.fault ≡ Some why → (next_answer u ≡ Refuses u.place why) × (after u ≡ u)
