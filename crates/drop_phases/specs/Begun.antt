-- Where a job's drop stands: on a connection with another repository, or on none (own).
use Rattle.std.specs.Prelude.{◌≡◌, ℕ, ◌<◌, ◌==◌, true, false, Some}
use Rattle.run_data.specs.declared.entry.By.TheVariants.{Job as by_job}
use Rattle.run_data.specs.declared.entry.EntryKind.{EntryKind}
use Rattle.run_data.specs.declared.entry.EntryKind.TheVariants as kinds
use Rattle.node_model.specs.Knows.{Reading}
use Rattle.drop_phases.specs.declared.phase.Phase.{Phase}
use Rattle.drop_phases.specs.declared.phase.Phase.TheVariants as phases
use Rattle.drop_phases.specs.declared.phase.Token.TheVariants as tokens
use Rattle.drop_phases.specs.declared.turn.Output.{Output}
use Rattle.drop_phases.specs.Worker.{Worker}

-- a repository of the run, other than the job's own
abbrev pub IsOther : Reading → ℕ → Type 0
IsOther r peer = (peer < r.count) × ((r.repo == peer) ≡ false)

-- a drop that is past its first step; where it awaits a frame of a candidate, that is another repository
abbrev pub HasBegun : Reading → Phase → Type 0
HasBegun r phases.Fresh = ⊥
HasBegun r phases.Next = Unit {0}
HasBegun r (phases.Opens peer) = IsOther r peer
HasBegun r (phases.Greets peer) = IsOther r peer
HasBegun r (phases.AsksLock peer since) = IsOther r peer
HasBegun r (phases.AsksLook peer) = IsOther r peer
HasBegun r phases.AsksTime = Unit {0}
HasBegun r phases.Orders = Unit {0}
HasBegun r phases.Removed = Unit {0}
HasBegun r phases.Denied = Unit {0}
HasBegun r (phases.Late time) = Unit {0}
HasBegun r (phases.Ends why) = Unit {0}

-- the same, or it is to begin
abbrev pub CanStand : Reading → Phase → Type 0
CanStand r phases.Fresh = Unit {0}
CanStand r phases.Next = Unit {0}
CanStand r (phases.Opens peer) = IsOther r peer
CanStand r (phases.Greets peer) = IsOther r peer
CanStand r (phases.AsksLock peer since) = IsOther r peer
CanStand r (phases.AsksLook peer) = IsOther r peer
CanStand r phases.AsksTime = Unit {0}
CanStand r phases.Orders = Unit {0}
CanStand r phases.Removed = Unit {0}
CanStand r phases.Denied = Unit {0}
CanStand r (phases.Late time) = Unit {0}
CanStand r (phases.Ends why) = Unit {0}

-- it goes on with this candidate, or with none
abbrev pub StaysAt : ℕ → Phase → Type 0
StaysAt peer phases.Next = Unit {0}
StaysAt peer (phases.Opens p) = p ≡ peer
StaysAt peer (phases.Greets p) = p ≡ peer
StaysAt peer (phases.AsksLock p since) = p ≡ peer
StaysAt peer (phases.AsksLook p) = p ≡ peer
StaysAt peer phase = ⊥

-- the worker after a step that was told what came from this peer
pub record StaysWith (peer : ℕ) (w w' : Worker) (out : Output) : Type 0 where
  pub phase : StaysAt peer w'.phase
  pub slot : w'.slot ≡ w.slot

-- the entry ends the job of this number; it is one of the job's others
abbrev pub IsLast : ℕ → EntryKind → Type 0
IsLast number (kinds.End job outcome) = job ≡ number
IsLast number kind = ⊥

abbrev pub IsOnward : ℕ → EntryKind → Type 0
IsOnward number (kinds.Share hold end owner key) = owner ≡ by_job number
IsOnward number (kinds.Bar job need key) = job ≡ number
IsOnward number (kinds.Order job target deadline need key) = job ≡ number
IsOnward number (kinds.Gone source key) = source ≡ by_job number
IsOnward number (kinds.Talk job) = job ≡ Some number
IsOnward number (kinds.Fault call source) = source ≡ by_job number
IsOnward number kind = ⊥

-- the job has ended, and has nothing of the table
pub record HasEnded (w w' : Worker) (out : Output) : Type 0 where
  pub ended : out.ended ≡ true
  pub last : IsLast w.number out.kind
  pub bare : w'.token ≡ tokens.Nothing
  pub slot : w'.slot ≡ w.slot

-- the worker after a step: it goes on, and has begun; or it has ended, and has nothing of the table
pub record HasGone (r : Reading) (w w' : Worker) (out : Output) : Type 0 where
  pub goes_on : out.ended ≡ false → HasBegun r w'.phase
  pub onward : out.ended ≡ false → IsOnward w.number out.kind
  pub ended : out.ended ≡ true → w'.token ≡ tokens.Nothing
  pub last : out.ended ≡ true → IsLast w.number out.kind
  pub slot : w'.slot ≡ w.slot

-- the same of a step that was told what came from this peer, wherever that is another repository
abbrev pub GoesWith : ℕ → Worker → Worker → Output → Type 0
GoesWith peer w w' out = (r : Reading) → IsOther r peer → HasGone r w w' out

-- the job is to end
abbrev pub IsToEnd : Phase → Type 0
IsToEnd phases.Removed = Unit {0}
IsToEnd phases.Denied = Unit {0}
IsToEnd (phases.Late time) = Unit {0}
IsToEnd (phases.Ends why) = Unit {0}
IsToEnd phase = ⊥
