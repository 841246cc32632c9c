-- What a node keeps: it stands as its history leaves it (own).
use Rattle.std.specs.Prelude.{◌≡◌, ℕ, ◌≤◌, ◌<◌, ◌+◌, true, List, All, length, Option}
use Rattle.std.specs.Option.{ForSome}
use Rattle.run_data.specs.declared.entry.Entry.{Entry}
use Rattle.run_data.specs.declared.entry.EntryKind.{EntryKind}
use Rattle.run_data.specs.declared.entry.EntryKind.TheVariants.{Log, Compact, Fault}
use Rattle.run_data.specs.declared.row.Hold.{Hold}
use Rattle.object_store.specs.Stores.{Contents, Parts}
use Rattle.object_store.specs.declared.keeper.HoldRecord.{HoldRecord}
use Rattle.content_lock.specs.Rows.{is_filling}
use Rattle.content_lock.specs.Stored.{Agrees}
use Rattle.union_merge.specs.Branch.{Files}
use Rattle.node_model.specs.After.{state_after}
use Rattle.node_model.specs.Clocks.{ClockSet, runs_on}
use Rattle.node_model.specs.OwedLines.{OwedLine}
use Rattle.node_model.specs.Rows.{bar_after, holds_after}
use Rattle.node_model.specs.SessionStep.{is_filled}
use Rattle.node_model.specs.SetUp.{SetUp}
use Rattle.node_model.specs.State.{State}
use Rattle.node_parts.specs.Direct.{IsDirect, MovesNothing, may_fail}
use Rattle.node_parts.specs.Parts.{AreAllFed, AreParts, PartsView}
use Rattle.node_past.specs.declared.setup.Setup.{Setup}
use Rattle.node_steps.specs.Nodes.{MatchesSetup, IsState, state_of, told_of}
use Rattle.node_ledger.specs.Ledgers.{LedgerView}

-- the parts of the store that the sessions and the gets take are what they have taken
abbrev pub IsFed : Option Parts → PartsView → Type 0
IsFed stored parts = ForSome stored (λ q. AreAllFed q parts)

-- Its rows, its branch and, where its store tells, all that it has are those of the state that its history leaves. Its clock is
-- that which its past says, each hold has the number of one of its entries, its jobs know where it stands among the repositories,
-- and each that was begun has its entry.
pub record IsKept (setup : Setup) (set_clock : ClockSet) (history : List Entry) (parts : PartsView) (branch : Files) (owed : List OwedLine) (told : Option Contents) : Type 0 where
  pub state : (s : SetUp) → MatchesSetup setup s → IsState s parts branch owed told (state_of s history)
  pub clock : (s : SetUp) → MatchesSetup setup s → (state_of s history).clock ≡ runs_on set_clock
  pub numbered : All (λ h. h.number < length history + 1) parts.table.holds
  pub place : parts.jobs.place ≡ record { number = setup.number; ids = setup.repos }
  pub begun : parts.jobs.begun ≤ length history

-- of that, what changes no content
abbrev pub IsOfFiles : EntryKind → Type 0
IsOfFiles (Log file) = Unit {0}
IsOfFiles (Compact file) = Unit {0}
IsOfFiles (Fault call by) = may_fail by call ≡ true
IsOfFiles _ = ⊥

-- A ledger and the parts beside it stand, over a store that tells these contents, parts and records: they are what the history
-- leaves, the records are those of the holds, and the sessions and the gets have taken what the store has of their keys' parts.
pub record Stands {K : Type 0} (l : LedgerView K) (parts : PartsView) (cs : Option Contents) (ps : Option Parts) (rs : Option (List HoldRecord)) : Type 0 where
  pub kept : IsKept l.setup l.clock l.history parts l.branch l.owed (told_of cs ps)
  pub agrees : Agrees rs parts.table.holds
  pub fed : IsFed ps parts

-- ---- entries that move no part

-- parts stay those of a state after such an entry, which leaves its holds and bars, and fill what the state fills
pub record KeepsDirect (p : PartsView) : Type 0 where
  pub stay : (s : SetUp) (st : State) (e : Entry) → MovesNothing e → AreParts s st p → AreParts s (state_after s st e) p
  pub fills : (s : SetUp) (st : State) (key : List ℕ) → AreParts s st p → is_filling p.table key ≡ is_filled s st key
  pub holds : (was : List Hold) (kind : EntryKind) → IsDirect kind → holds_after was kind ≡ was
  pub bars : (key : List ℕ) (was : Option ℕ) (kind : EntryKind) → IsDirect kind → bar_after key was kind ≡ was
