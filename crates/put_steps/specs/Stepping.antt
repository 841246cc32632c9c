-- What the parts of a copy's step do, for private contracts (own).
use Rattle.std.specs.Prelude.{◌≡◌, ◌+◌, ◌<◌, ◌^◌, ℕ, false, true, min, List, [], ◌∷◌, drop, length, take, Option, Some, None, Result}
use Rattle.annex_base.specs.declared.kinds.Call.{Call}
use Rattle.annex_base.specs.declared.kinds.Call.TheVariants.{Read}
use Rattle.run_data.specs.declared.entry.EntryKind.TheVariants.{Talk}
use Rattle.p2p_wire.specs.declared.message.Message.{Message}
use Rattle.p2p_wire.specs.declared.message.Message.TheVariants.{Data, Put, Valid, Version}
use Rattle.object_store.specs.Stores.{Contents, bytes_of}
use Rattle.node_model.specs.Sessions.{reaches}
use Rattle.content_lock.specs.Rows.{Rows}
use Rattle.session_state.specs.declared.incoming.Incoming.{Incoming}
use Rattle.session_state.specs.Answers.{size_in}
use Rattle.transfer_turns.specs.declared.parcels.Output.{Output}
use Rattle.transfer_turns.specs.declared.parcels.Parcel.{Parcel}
use Rattle.transfer_turns.specs.declared.parcels.ParcelBody.TheVariants as bodies
use Rattle.p2p_wire.specs.Streams.{IsLine}
use Rattle.transfer_turns.specs.Parcels.{end_in}
use Rattle.transfer_turns.specs.Steps.{Seen}
use Rattle.transfer_turns.specs.Turns.{Sight, output_of}
use Rattle.put_steps.specs.declared.phase.Phase.{Phase}
use Rattle.put_steps.specs.declared.phase.Phase.TheVariants as phases
use Rattle.put_steps.specs.declared.phase.Sending.{Sending}
use Rattle.put_steps.specs.declared.putting.Putting.{Putting}
use Rattle.put_steps.specs.declared.sending.Next.{Next}
use Rattle.put_steps.specs.declared.sending.Next.TheVariants as nexts
use Rattle.put_steps.specs.Putting.{Does}

-- what a copy of this key says
abbrev pub IsSaid : List ℕ → Message → Type 0
IsSaid key (Version n) = n ≡ 3
IsSaid key (Put file k) = (file ≡ []) × (k ≡ key)
IsSaid key (Data n) = n < 2 ^ 63
IsSaid key Valid = Unit {0}
IsSaid key m = ⊥

abbrev pub message_to : ℕ → Message → List Parcel
message_to peer m = record { peer = peer; body = bodies.Message m } ∷ []

abbrev pub close_to : ℕ → List Parcel
close_to peer = record { peer = peer; body = bodies.Close } ∷ []

-- it sends this, and stands so next
pub record Told (w w' : Putting) (items : List Parcel) (next : Phase) (version : ℕ) (out : Output) : Type 0 where
  pub says : out ≡ output_of (Talk (Some w.number)) items false
  pub worker : w' ≡ record w { phase = next; version = version }

-- of each repository and store, the step is that of the job that is told this
abbrev pub Hears : {E : Type 0} → Option Incoming → Putting → Putting → Result Output E → Type 0
Hears i w w' r = (x : Sight) (rows : Rows) (k : Seen) → Does x i rows k k w w' r

-- it offers the content on its open connection with the peer, or opens it first
pub record Offers (w w' : Putting) (peer : ℕ) (out : Output) : Type 0 where
  pub told : Told w w' (message_to peer (Put [] w.job.key)) (phases.Offer peer) w.version out
  pub line : IsLine (Put [] w.job.key)

abbrev pub GoesTo : Sight → ℕ → Putting → Putting → Output → Type 0
GoesTo x peer w w' out =
    ((x.ends (end_in w.slot peer)).opened ≡ true → Offers w w' peer out)
    × ((x.ends (end_in w.slot peer)).opened ≡ false → Told w w' (record { peer = peer; body = bodies.Open } ∷ []) (phases.Opens peer) w.version out)

-- it awaits a frame
abbrev pub IsAwaiting : Phase → Type 0
IsAwaiting (phases.Opens peer) = Unit {0}
IsAwaiting (phases.Greets peer) = Unit {0}
IsAwaiting (phases.Offer peer) = Unit {0}
IsAwaiting (phases.Answer peer start) = Unit {0}
IsAwaiting phase = ⊥

-- ---- the bytes

-- a piece has as many bytes as are left, or 32,768 if these are fewer
abbrev pub IsLong : Sending → Next → Type 0
IsLong s (nexts.Piece bytes) = length bytes.items ≡ min 32768 s.left
IsLong s n = Unit {0}

-- there is one if the content reaches so far
abbrev pub IsNext : Contents → List ℕ → Sending → Next → Type 0
IsNext contents key s (nexts.Piece bytes) = reaches (size_in contents key) (s.at + min 32768 s.left) ≡ true
IsNext contents key s nexts.Gone = reaches (size_in contents key) (s.at + min 32768 s.left) ≡ false
IsNext contents key s nexts.Failed = Unit {0}

-- and it has the content's bytes
abbrev pub HasBytes : Contents → List ℕ → Sending → Next → Type 0
HasBytes contents key s (nexts.Piece bytes) = bytes.items ≡ take (length bytes.items) (drop s.at (bytes_of contents key))
HasBytes contents key s n = Unit {0}

-- the store call that failed
abbrev pub failed_next : Next → Option Call
failed_next nexts.Failed = Some Read
failed_next n = None
