-- How a get goes on without a peer, and what it tells one, other than what it asks for (own).
use Rattle.std.specs.Prelude.{◌≡◌, ℕ, false, List, ◌++◌, ◌∷◌, [], Option, Some, None}
use Rattle.run_data.specs.declared.entry.EntryKind.TheVariants.{Talk}
use Rattle.run_data.specs.declared.job.SourceCause.{SourceCause}
use Rattle.p2p_wire.specs.declared.message.Message.{Message}
use Rattle.p2p_wire.specs.declared.message.Message.TheVariants.{Failure, Success, Version}
use Rattle.transfer_turns.specs.declared.parcels.Output.{Output}
use Rattle.transfer_turns.specs.declared.parcels.Parcel.{Parcel}
use Rattle.transfer_turns.specs.Turns.{output_of}
use Rattle.get_phases.specs.declared.getting.Getting.{Getting}
use Rattle.get_phases.specs.declared.getting.Phase.{Phase}
use Rattle.get_phases.specs.declared.getting.Phase.TheVariants as phases
use Rattle.get_phases.specs.Gets.{fill_in}

-- it is to go on to the next peer, and fills its key as before
abbrev pub next_with : Option (List ℕ) → Phase
next_with (Some fill) = phases.Next fill
next_with None = phases.Fresh

-- this peer gave it nothing, for this cause: it goes on to the next, and knows this version
pub record FailsWith (peer : ℕ) (cause : SourceCause) (version : ℕ) (w w' : Getting) : Type 0 where
  pub number : w'.number ≡ w.number
  pub slot : w'.slot ≡ w.slot
  pub job : w'.job ≡ w.job
  pub knows : w'.version ≡ version
  pub causes : w'.causes.items ≡ w.causes.items ++ record { repo = peer; cause = cause } ∷ []
  pub phase : w'.phase ≡ next_with (fill_in w.phase)

-- so, and this is sent
pub record Loses (sent : List Parcel) (peer : ℕ) (cause : SourceCause) (version : ℕ) (w w' : Getting) (out : Output) : Type 0 where
  pub made : out ≡ output_of (Talk (Some w.number)) sent false
  pub fails : FailsWith peer cause version w w'

-- what a get tells a peer, other than what it asks for: the version, and whether the bytes were good
abbrev pub IsToldBy : Message → Type 0
IsToldBy (Version n) = n ≡ 3
IsToldBy Success = Unit {0}
IsToldBy Failure = Unit {0}
IsToldBy m = ⊥
