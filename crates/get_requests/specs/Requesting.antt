-- What the steps of a get that take no frame make and leave, for private contracts (own).
use Rattle.std.specs.Prelude.{◌≡◌, ◌||◌, ℕ, Bool, true, false, List, [], ◌∷◌, Option, Some, None, Result, Ok, Err}
use Rattle.run_data.specs.declared.entry.EntryKind.TheVariants.{End, Talk}
use Rattle.run_data.specs.declared.job.Outcome.{Outcome}
use Rattle.run_data.specs.declared.job.Outcome.TheVariants.{Got}
use Rattle.content_lock.specs.Rows.{Rows, is_filling}
use Rattle.transfer_turns.specs.declared.parcels.Output.{Output}
use Rattle.transfer_turns.specs.declared.parcels.Parcel.{Parcel}
use Rattle.transfer_turns.specs.declared.parcels.ParcelBody.TheVariants as bodies
use Rattle.transfer_turns.specs.Parcels.{SendsView, end_in}
use Rattle.transfer_turns.specs.Steps.{LeavesAll, Seen, fills_key}
use Rattle.transfer_turns.specs.Turns.{ArePartings, Sight, output_of}
use Rattle.get_phases.specs.declared.getting.Getting.{Getting}
use Rattle.get_phases.specs.declared.getting.Phase.{Phase}
use Rattle.get_phases.specs.declared.getting.Phase.TheVariants as phases
use Rattle.get_phases.specs.Asking.{AsksPeer}
use Rattle.get_phases.specs.Getting.{Stays}
use Rattle.get_phases.specs.Gets.{work_of}

-- an entry that talks, with which this is sent
abbrev pub IsTalk : ℕ → List Parcel → Output → Type 0
IsTalk number sent out = out ≡ output_of (Talk (Some number)) sent false

-- the job ends so, and each open connection is closed
pub record IsEnding (x : Sight) (number slot : ℕ) (outcome : Outcome) (out : Output) : Type 0 where
  pub kind : out.kind ≡ End number outcome
  pub sends : ArePartings x slot out.sends.items
  pub ended : out.ended ≡ true

-- the content is there: the drop of a move is to begin, and a get ends
abbrev pub FindsHere : Bool → SendsView → Getting → Getting → Output → Type 0
FindsHere true parting w w' out = (out ≡ output_of (Talk (Some w.number)) [] true) × (w' ≡ record w { phase = phases.Done })
FindsHere false parting w w' out = (out ≡ record { kind = End w.number (Got None None); sends = parting; ended = true }) × (w' ≡ w)

-- from now on it fills its key, and goes on so, and nothing changed in the store
pub record GoesOn (sent : List Parcel) (phase : Phase) (k k' : Seen) (w w' : Getting) (out : Output) : Type 0 where
  pub talk : IsTalk w.number sent out
  pub next : w' ≡ record w { phase = phase }
  pub leaves : LeavesAll k k'

-- it asks a peer on its connection, which it opens unless it is open
abbrev pub Approaches : Bool → ℕ → Seen → Seen → Getting → Getting → Output → Type 0
Approaches true peer k k' w w' out = AsksPeer peer k k' w w' out
Approaches false peer k k' w w' out = GoesOn (record { peer = peer; body = bodies.Open } ∷ []) (phases.Opens peer w.job.key) k k' w w' out

-- whether its connection with a peer is open
abbrev pub is_open : Sight → Getting → ℕ → Bool
is_open x w peer = (x.ends (end_in w.slot peer)).opened

-- it approaches its first peer, if there is one
abbrev pub Begins : Sight → Option ℕ → Seen → Seen → Getting → Getting → Output → Type 0
Begins x None k k' w w' out = GoesOn [] (phases.Next w.job.key) k k' w w' out
Begins x (Some peer) k k' w w' out = Approaches (is_open x w peer) peer k k' w w' out

-- the keys that are filled after that, beside holds and bars that stay
pub record FillsToo (w' : Getting) (rows rows' : Rows) : Type 0 where
  pub filled : (key : List ℕ) → is_filling rows' key ≡ (fills_key (work_of w') key || is_filling rows key)
  pub holds : rows'.holds ≡ rows.holds
  pub bars : rows'.bars ≡ rows.bars

abbrev pub Claims : {E : Type 0} → Sight → Option ℕ → Rows → Rows → Seen → Seen → Getting → Getting → Result Output E → Type 0
Claims x source rows rows' k k' w w' (Ok out) = Begins x source k k' w w' out × FillsToo w' rows rows'
Claims x source rows rows' k k' w w' (Err e) = Stays rows rows' k k' w w'
