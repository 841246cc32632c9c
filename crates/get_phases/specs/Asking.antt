-- A request for the bytes of a key (own).
use Rattle.std.specs.Prelude.{◌≡◌, ◌<◌, ℕ, false, List, [], ◌∷◌, length, Option, Some, None, Result, Ok, Err}
use Rattle.std.specs.Option.{ForSome}
use Rattle.annex_base.specs.declared.kinds.Call.{Call}
use Rattle.annex_base.specs.declared.kinds.Call.TheVariants as calls
use Rattle.run_data.specs.declared.entry.By.TheVariants.{Job as by_job}
use Rattle.run_data.specs.declared.entry.EntryKind.TheVariants.{Fault, Talk}
use Rattle.p2p_wire.specs.declared.message.Message.TheVariants.{Get}
use Rattle.p2p_wire.specs.Streams.{IsLine}
use Rattle.object_store.specs.Stores.{Parts}
use Rattle.node_model.specs.Calls.{to_resume}
use Rattle.content_lock.specs.CallsMade.{MakesCalls}
use Rattle.session_state.specs.Talking.{IsFedBy, Tells}
use Rattle.transfer_turns.specs.declared.parcels.Output.{Output}
use Rattle.transfer_turns.specs.declared.parcels.ParcelBody.TheVariants as bodies
use Rattle.transfer_turns.specs.Steps.{LeavesAll, LeavesBut, Seen}
use Rattle.transfer_turns.specs.Turns.{output_of}
use Rattle.get_phases.specs.declared.getting.Ending.TheVariants as endings
use Rattle.get_phases.specs.declared.getting.Getting.{Getting}
use Rattle.get_phases.specs.declared.getting.Phase.{Phase}
use Rattle.get_phases.specs.declared.getting.Phase.TheVariants as phases
use Rattle.get_phases.specs.declared.sent.Asked.{Asked}
use Rattle.get_phases.specs.declared.sent.Asked.TheVariants as asked
use Rattle.get_phases.specs.declared.sent.Sent.{Sent}
use Rattle.get_phases.specs.Gets.{fill_in}

-- the peer is asked for the bytes of the key from this one on
pub record IsGet (number : ℕ) (key : List ℕ) (peer start : ℕ) (out : Output) : Type 0 where
  pub is : out ≡ output_of (Talk (Some number)) (record { peer = peer; body = bodies.Message (Get start [] key) } ∷ []) false
  pub line : IsLine (Get start [] key)

-- from the end of its part, which the digester has taken
pub record IsSent (number : ℕ) (key : List ℕ) (peer : ℕ) (known : Option Parts) (s : Sent) : Type 0 where
  pub get : IsGet number key peer s.size s.output
  pub size : ForSome known (λ p. s.size ≡ length (p key))
  pub fed : ForSome known (λ p. IsFedBy s.digester key (p key))

-- a call that asks from the end of a part of this size: one that isn't empty is read
abbrev pub IsOfAsking : ℕ → Call → Type 0
IsOfAsking part calls.PartSize = Unit {0}
IsOfAsking part calls.ReadPart = 0 < part
IsOfAsking part call = ⊥

abbrev pub IsAsked : ℕ → List ℕ → ℕ → Option Parts → Asked → Type 0
IsAsked number key peer known (asked.Sent s) = IsSent number key peer known s
IsAsked number key peer known (asked.Failed call) = ForSome known (λ p. IsOfAsking (length (p key)) call)

-- the store call that failed
abbrev pub failed_asking : Asked → Option Call
failed_asking (asked.Sent s) = None
failed_asking (asked.Failed call) = Some call

-- it awaits DATA of this peer, for the part of this key that was asked for so
abbrev pub WaitsForData : List ℕ → ℕ → Sent → Phase → Type 0
WaitsForData key peer s (phases.Data p wanting) = (p ≡ peer) × (wanting.fill ≡ key) × (wanting.size ≡ s.size) × (wanting.digester ≡ s.digester)
WaitsForData key peer s phase = ⊥

-- a call of the store failed, and nothing is sent
abbrev pub IsFailing : ℕ → Call → Output → Type 0
IsFailing number call out = out ≡ output_of (Fault call (by_job number)) [] false

-- a get that asked so awaits DATA of the peer, or is to end
abbrev pub FollowsAsked : ℕ → Getting → Getting → Output → Asked → Type 0
FollowsAsked peer w w' out (asked.Sent s) = (out ≡ s.output) × (w' ≡ record w { phase = w'.phase }) × WaitsForData w.job.key peer s w'.phase
FollowsAsked peer w w' out (asked.Failed call) = IsFailing w.number call out × (w' ≡ record w { phase = phases.Ends (endings.StoreFault (fill_in w.phase)) })

-- what a get asked of this peer, and what it goes on to be
pub record AsksPeer (peer : ℕ) (k k' : Seen) (w w' : Getting) (out : Output) : Type 0 where
  pub what : Asked
  pub is : IsAsked w.number w.job.key peer k.parts what
  pub calls : (part : ℕ) → Tells k.parts (λ p. part ≡ length (p w.job.key)) → MakesCalls (to_resume part) (failed_asking what) k.failing k'.failing
  pub leaves : LeavesBut (failed_asking what) k k'
  pub next : FollowsAsked peer w w' out what

-- it asked this peer, or found no memory, and nothing changed
abbrev pub AsksOn : {E : Type 0} → ℕ → Seen → Seen → Getting → Getting → Result Output E → Type 0
AsksOn peer k k' w w' (Ok out) = AsksPeer peer k k' w w' out
AsksOn peer k k' w w' (Err e) = (w' ≡ w) × LeavesAll k k'
