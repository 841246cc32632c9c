-- How a get goes on with what it takes, for private contracts (own).
use Rattle.std.specs.Prelude.{◌≡◌, ◌≤◌, ◌<◌, ◌^◌, ℕ, List, ◌++◌, length}
use Rattle.object_store.specs.Stores.{Parts}
use Rattle.node_model.specs.Jobs
use Rattle.session_state.specs.declared.doing.Doing.{Doing}
use Rattle.session_state.specs.declared.doing.Doing.TheVariants as doings
use Rattle.session_state.specs.declared.doing.Wanting.{Wanting}
use Rattle.get_phases.specs.declared.getting.Getting.{Getting}
use Rattle.get_phases.specs.declared.getting.Phase.{Phase}
use Rattle.get_phases.specs.declared.getting.Phase.TheVariants as phases
use Rattle.get_phases.specs.Gets.{fill_in, phase_of}

-- ---- what it awaits of this peer: the answer to an opening, to VERSION, to GET

pub record IsOpening (peer : ℕ) (phase : Phase) : Type 0 where
  pub fill : List ℕ
  pub at : phase ≡ phases.Opens peer fill

pub record IsGreeting (peer : ℕ) (phase : Phase) : Type 0 where
  pub fill : List ℕ
  pub at : phase ≡ phases.Greets peer fill

pub record IsAsking (peer : ℕ) (phase : Phase) : Type 0 where
  pub wanting : Wanting
  pub at : phase ≡ phases.Data peer wanting

-- ---- the part

-- it awaits DATA
abbrev pub IsData : Phase → Type 0
IsData (phases.Data peer wanting) = Unit {0}
IsData phase = ⊥

-- so many bytes are to come, or more
abbrev pub HasLeft : Phase → ℕ → Type 0
HasLeft (phases.Bytes peer start taking) n = n ≤ taking.left
HasLeft phase n = ⊥

-- bytes come to the part, or have come
abbrev pub IsTaking : Doing → Type 0
IsTaking (doings.Takes taking) = Unit {0}
IsTaking (doings.Took taken) = Unit {0}
IsTaking doing = ⊥

-- where a get stands whose part is filled so
abbrev pub phase_with : ℕ → ℕ → Doing → Phase
phase_with peer start (doings.Takes taking) = phases.Bytes peer start taking
phase_with peer start (doings.Took taken) = phases.Word peer start taken
phase_with peer start doing = phases.Fresh

-- it goes on with its part, and stands so
pub record GoesOn (next : Jobs.Phase) (w w' : Getting) : Type 0 where
  pub rest : w' ≡ record w { phase = w'.phase }
  pub phase : phase_of w'.phase ≡ next
  pub fill : fill_in w'.phase ≡ fill_in w.phase

-- the part has the piece more
abbrev pub IsLonger : Phase → Parts → Parts → List ℕ → Type 0
IsLonger (phases.Bytes peer start taking) p p' piece = (p' taking.fill ≡ p taking.fill ++ piece) × (length (p' taking.fill) < 2 ^ 62)
IsLonger phase p p' piece = ⊥
