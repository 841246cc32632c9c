-- What the step of a drop needs and does on either side (own).
use Rattle.std.specs.Prelude.{◌≡◌, ◌<◌, ℕ, All, true, is_some, List, Option, Some, None}
use Rattle.drop_proof.specs.declared.rule.Side.{Side}
use Rattle.drop_proof.specs.declared.rule.Side.TheVariants.{Local, Remote}
use Rattle.run_data.specs.declared.entry.EntryKind.{EntryKind}
use Rattle.run_data.specs.declared.entry.EntryKind.TheVariants.{Share}
use Rattle.run_data.specs.declared.row.Hold.{Hold}
use Rattle.object_store.specs.declared.keeper.HoldRecord.{HoldRecord}
use Rattle.node_model.specs.Jobs.{drop_side}
use Rattle.node_model.specs.Knows.{Reading}
use Rattle.content_lock.specs.Stored.{Agrees}
use Rattle.drop_phases.specs.declared.phase.Phase.{Phase}
use Rattle.drop_phases.specs.declared.phase.Token.{Token}
use Rattle.drop_phases.specs.Worker.{Worker}
use Rattle.drop_phases.specs.Working.{heard_in}
use Rattle.drop_phases.specs.Begun.{IsOther}
use Rattle.drop_phases.specs.Feeding.{FitsLocal, FitsRemote}

-- where the worker removes
abbrev pub side_in : Worker → Side
side_in w = drop_side w.job.kind w.job.peer

-- a drop in this phase has this token
abbrev pub FitsSide : Side → Phase → Token → Type 0
FitsSide Local phase token = FitsLocal phase token
FitsSide Remote phase token = FitsRemote phase token

-- a remote drop removes from its job's peer, which is another repository
abbrev pub HasTarget : Side → Option ℕ → Reading → Type 0
HasTarget Local peer r = Unit {0}
HasTarget Remote None r = ⊥
HasTarget Remote (Some target) r = IsOther r target

-- a remote drop hears of its own repository at its first step
abbrev pub HearsOwn : Side → Reading → Worker → Type 0
HearsOwn Local r w = Unit {0}
HearsOwn Remote r w = is_some (heard_in w.heard r.repo) ≡ true

-- the target of a remote drop
abbrev pub target_on : Side → Option ℕ → Option ℕ
target_on Local peer = None
target_on Remote peer = peer

-- a remote drop shares its own content: the store has the records of the table's holds, and the number of the entry is none of theirs
abbrev pub CanShare : Side → Option (List HoldRecord) → List Hold → ℕ → Type 0
CanShare Local records holds number = Unit {0}
CanShare Remote records holds number = Agrees records holds × All (λ h. h.number < number) holds

-- a hold that an entry of this kind adds has this number
abbrev pub IsNumbered : ℕ → EntryKind → Type 0
IsNumbered n (Share hold end owner key) = hold ≡ n
IsNumbered n kind = Unit {0}
