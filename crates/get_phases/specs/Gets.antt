-- What a get is: the job's work, what it has of the table, and what it has taken of a part (own).
use Rattle.std.specs.Prelude.{◌≡◌, ℕ, Bool, true, false, ◌&&◌, if◌then◌else◌, nat_le, nat_lt, List, [], ◌++◌, ◌∷◌, length, slice_get, Option, Some, None, IfSome, is_some}
use Rattle.std.specs.List.{range_with_len}
use Rattle.std.specs.Option.{option_map}
use Rattle.run_data.specs.declared.entry.EntryKind.{EntryKind}
use Rattle.run_data.specs.declared.entry.EntryKind.TheVariants.{Gain, Talk}
use Rattle.run_data.specs.declared.job.Outcome.{Outcome}
use Rattle.run_data.specs.declared.job.Outcome.TheVariants.{Got, TransferRefused}
use Rattle.run_data.specs.declared.job.TransferRefusal.TheVariants as failures
use Rattle.p2p_wire.specs.declared.message.Message.TheVariants.{Valid}
use Rattle.object_store.specs.Stores.{Parts, with_at}
use Rattle.node_model.specs.Evidence.{but}
use Rattle.node_model.specs.Jobs
use Rattle.node_model.specs.Jobs.{Part, Work, Drops, Gets}
use Rattle.content_lock.specs.Rows.{Rows, is_filling}
use Rattle.session_state.specs.declared.incoming.Incoming.{Incoming}
use Rattle.session_state.specs.declared.incoming.Incoming.TheVariants as incoming
use Rattle.session_state.specs.Phases.{IsRightSum}
use Rattle.session_state.specs.Talking.{IsFedBy, IsTakenOf, SeesTaken, Tells, parts_after_valid}
use Rattle.transfer_turns.specs.Turns.{Sight}
use Rattle.get_phases.specs.declared.getting.Ending.{Ending}
use Rattle.get_phases.specs.declared.getting.Ending.TheVariants as endings
use Rattle.get_phases.specs.declared.getting.Getting.{Getting}
use Rattle.get_phases.specs.declared.getting.Phase.{Phase}
use Rattle.get_phases.specs.declared.getting.Phase.TheVariants as phases

-- ---- the work

abbrev pub outcome_of : Ending → Outcome
outcome_of (endings.Got peer start) = Got (Some peer) (Some start)
outcome_of (endings.StoreFault fill) = TransferRefused failures.StoreFault

abbrev pub phase_of : Phase → Jobs.Phase
phase_of phases.Fresh = Jobs.Fresh
phase_of (phases.Next fill) = Jobs.Next
phase_of (phases.Opens peer fill) = Jobs.Opens peer
phase_of (phases.Greets peer fill) = Jobs.Greets peer
phase_of (phases.Data peer wanting) = Jobs.GetsData peer wanting.size
phase_of (phases.Bytes peer start taking) = Jobs.GetsBytes peer start taking.size taking.left
phase_of (phases.Word peer start taken) = Jobs.GetsWord peer start taken.size
phase_of (phases.Ends why) = Jobs.Ends (outcome_of why)
phase_of phases.Done = Jobs.Fresh

abbrev pub is_done : Phase → Bool
is_done phases.Done = true
is_done phase = false

abbrev pub part_of : Phase → Part
part_of phases.Done = Drops
part_of phase = Gets

-- the key that it fills
abbrev pub fill_of : Ending → Option (List ℕ)
fill_of (endings.Got peer start) = None
fill_of (endings.StoreFault fill) = fill

abbrev pub fill_in : Phase → Option (List ℕ)
fill_in phases.Fresh = None
fill_in (phases.Next fill) = Some fill
fill_in (phases.Opens peer fill) = Some fill
fill_in (phases.Greets peer fill) = Some fill
fill_in (phases.Data peer wanting) = Some wanting.fill
fill_in (phases.Bytes peer start taking) = Some taking.fill
fill_in (phases.Word peer start taken) = Some taken.fill
fill_in (phases.Ends why) = fill_of why
fill_in phases.Done = None

-- the work that it is; where its transfer is done and its drop is to begin, that of the drop
abbrev pub work_of : Getting → Work
work_of w =
    record {
      number = w.number;
      slot = w.slot;
      what = w.job;
      part = part_of w.phase;
      phase = phase_of w.phase;
      fills = is_some (fill_in w.phase);
      version = w.version;
      heard = [];
      causes = w.causes.items;
    }

-- ---- the table

-- the fill that it has is of its key, and the table gave it
abbrev pub HasFill : Rows → Getting → Type 0
HasFill rows w = IfSome (fill_in w.phase) (λ (key : List ℕ). (key ≡ w.job.key) × (is_filling rows key ≡ true))

-- ---- the part

-- what it has taken of its part is the store's part
abbrev pub IsFed : Parts → Phase → Type 0
IsFed p (phases.Data peer wanting) = IsFedBy wanting.digester wanting.fill (p wanting.fill)
IsFed p (phases.Bytes peer start taking) = IsFedBy taking.digester taking.fill (p taking.fill)
IsFed p (phases.Word peer start taken) = IsTakenOf taken (p taken.fill)
IsFed p phase = Unit {0}

-- at VALID, whether the part that has come matches its key; else the part's size
abbrev pub SeesPart : Option Parts → List ℕ → Phase → Option Incoming → ℕ → Bool → Type 0
SeesPart known key (phases.Word peer start taken) (Some (incoming.Message Valid)) part right = SeesTaken known taken right
SeesPart known key phase i part right = Tells known (λ p. part ≡ length (p key))

-- so many bytes may come: some, and no more than are to come
abbrev pub if_awaited : ℕ → ℕ → Option Parts → Option Parts → Option Parts
if_awaited left count grown known = if nat_lt 0 count && nat_le count left then grown else known

-- the parts after its step: its own grows by each piece that it takes, and is gone after the verdict
abbrev pub parts_after : Phase → Option Incoming → EntryKind → Option Parts → Option Parts
parts_after (phases.Bytes peer start taking) (Some (incoming.Bytes bytes)) (Talk job) known = if_awaited taking.left (length bytes.items) (option_map (λ p. with_at p taking.fill (p taking.fill ++ bytes.items)) known) known
parts_after (phases.Word peer start taken) (Some (incoming.Message Valid)) kind known = parts_after_valid taken.fill kind known
parts_after phase i kind known = known

-- all bytes of a part have come, and their sum is the key's
abbrev pub TookRight : Phase → Type 0
TookRight (phases.Word peer start taken) = IsRightSum taken.sum taken.fill
TookRight phase = ⊥

-- a content comes by an entry of this kind only of a part whose sum is its key's
abbrev pub IsJudgedIn : EntryKind → Phase → Type 0
IsJudgedIn (Gain by size key) phase = TookRight phase
IsJudgedIn kind phase = Unit {0}

-- ---- the peers

-- the peers that it asks, one after the other, on the run's repositories
abbrev pub sources_in : Sight → Option ℕ → List ℕ
sources_in x (Some peer) = peer ∷ []
sources_in x None = but x.repo (range_with_len 0 x.count)

-- the one that it asks next
abbrev pub source_in : Sight → Getting → Option ℕ
source_in x w = slice_get (sources_in x w.job.peer) (length w.causes.items)
