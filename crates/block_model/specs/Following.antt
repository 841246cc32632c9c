-- The driver after entries that repositories made side by side (own): contents, parts, frames and failing calls as they leave them.
use Rattle.std.specs.Prelude.{◌≡◌, ◌⊎◌, ℕ, ◌<◌, Bool, true, false, List, [], ◌∷◌, ◌++◌, find, length, map, Option, Some, None}
use Rattle.annex_base.specs.declared.kinds.Call.{Call}
use Rattle.run_data.specs.declared.entry.By.{By}
use Rattle.run_data.specs.declared.entry.Entry.{Entry}
use Rattle.run_data.specs.declared.entry.EntryKind.{EntryKind}
use Rattle.run_data.specs.declared.entry.EntryKind.TheVariants.{Begin, Close, Crash, Fault}
use Rattle.run_data.specs.declared.entry.FrameView.{FrameView}
use Rattle.node_model.specs.Look.{Look, Effect, entry_of}
use Rattle.node_model.specs.State.{State}
use Rattle.node_model.specs.Step.{step}
use Rattle.run_model.specs.Run.{ComesAnyTime, ComesInOrder, FramesPart, repo_number}
use Rattle.driver_model.specs.Driver.{Driver, DriverInput, Flight, but_first, fails_at, flight, set_up_of, state_at, without_old_flights}
use Rattle.driver_model.specs.Turning.{asked_key, bytes_of, part_right, part_size, store_after}
use Rattle.driver_model.specs.Ways.{is_flight}

-- ---- what an entry leaves

-- a flight on the way, and of the epoch, of a frame that r takes
abbrev pub is_next : ℕ → FrameView → Flight → Bool
is_next r f = is_flight f.peer (record { peer = r; slot = f.slot; client = f.up }) f.epoch

-- the first of them is gone once the frame is taken
abbrev pub but_next : ℕ → Option FrameView → List Flight → List Flight
but_next r None xs = xs
but_next r (Some f) xs = but_first (is_next r f) xs

-- the bytes of the piece that is taken
abbrev pub bytes_next : ℕ → Option FrameView → List Flight → List ℕ
bytes_next r None xs = []
bytes_next r (Some f) xs = bytes_of (find (is_next r f) xs)

abbrev pub effect_of : Entry → Effect
effect_of e = record { kind = e.kind; taken = e.taken; sent = e.sent; lines = e.lines; calls = [] }

-- an entry of r, which found this state: it stands from now on, the frame that it took is gone, those that it sent are on their way
abbrev pub stands : State → ℕ → Entry → Driver → Driver
stands st r e d = record d { past = e ∷ d.past; flights = but_next r e.taken d.flights ++ map (flight d st r) e.sent }

-- the driver after an entry of r: its store is as the entry leaves it
abbrev pub after_entry : DriverInput → ℕ → Entry → Driver → Driver
after_entry g r e d =
    store_after (state_at g d r) r (effect_of e) (bytes_next r e.taken d.flights) e.kind (stands (state_at g d r) r e d)

-- the driver after these entries, the oldest first
abbrev pub after_entries : DriverInput → List Entry → Driver → Driver
after_entries g [] d = d
after_entries g (e ∷ es) d = after_entries g es (after_entry g (repo_number e.repo) e d)

-- these repositories have dropped the frames of older epochs, and of those that their ends have closed
abbrev pub without_old_of : DriverInput → List ℕ → Driver → Driver
without_old_of g [] d = d
without_old_of g (r ∷ rs) d = without_old_of g rs (without_old_flights (state_at g d r) r d)

-- ---- which entries may follow

-- The entry is the step of r for some choice: it takes a frame that may be taken, the part that it asks for is that of the driver, and
-- the words at a job's end are those of the senders. Which frames are at hand, which ends have room, and which call fails, is free.
pub record IsChosenStep (g : DriverInput) (d : Driver) (r : ℕ) (e : Entry) : Type 0 where
  pub look : Look
  pub made : Effect
  pub makes : step (set_up_of g d r) (state_at g d r) look ≡ Some made
  pub is : e ≡ entry_of r look made
  pub part_is : look.part ≡ part_size d r (asked_key (state_at g d r) made)
  pub right_is : look.right ≡ part_right g d r (asked_key (state_at g d r) made)
  pub frames : FramesPart d.past r look.words e

-- a job begins, an end is closed, or the repository crashes
abbrev pub is_of_line : EntryKind → Bool
is_of_line (Begin job what) = true
is_of_line (Close peer slot client) = true
is_of_line (Crash clock) = true
is_of_line kind = false

-- the entry is one that a line of a block makes
pub record IsOfLine (g : DriverInput) (d : Driver) (r : ℕ) (e : Entry) : Type 0 where
  pub kind : is_of_line e.kind ≡ true
  pub comes : ComesAnyTime (set_up_of g d r) d.past e

-- The entry may come next: it is one of a repository, in order of time, count and number, and either its step or of a line. A fault
-- answers a `fail` line that waits.
pub record MayFollow (g : DriverInput) (d : Driver) (e : Entry) : Type 0 where
  pub r : ℕ
  pub repo_is : e.repo ≡ Some r
  pub known : r < length g.repos
  pub order : ComesInOrder d.past e
  pub does : IsChosenStep g d r e ⊎ IsOfLine g d r e
  pub answers : (call : Call) (by : By) → e.kind ≡ Fault call by → fails_at d r call ≡ true

-- each of these may, behind those before it
abbrev pub MayAllFollow : DriverInput → Driver → List Entry → Type 0
MayAllFollow g d [] = Unit {0}
MayAllFollow g d (e ∷ es) = MayFollow g d e × MayAllFollow g (after_entry g (repo_number e.repo) e d) es
