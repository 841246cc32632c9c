-- What a repository keeps of a block alone (own): its entries, by the letters and the pieces that came to it, and its store.
use Rattle.std.specs.Prelude.{◌≡◌, ◌⊎◌, ℕ, ◌<◌, true, ◌==◌, List, [], ◌∷◌, ◌++◌, drop, filter, length, map, slice_get, Option, Some, None}
use Rattle.annex_base.specs.declared.kinds.Call.{Call}
use Rattle.run_data.specs.declared.entry.By.{By}
use Rattle.run_data.specs.declared.entry.Entry.{Entry}
use Rattle.run_data.specs.declared.entry.EntryKind.TheVariants.{End, Fault}
use Rattle.run_data.specs.declared.entry.FrameView.{FrameView}
use Rattle.run_data.specs.declared.job.Outcome.{Outcome}
use Rattle.node_model.specs.Ends.{EndName}
use Rattle.node_model.specs.Look.{Look, Effect, entry_of}
use Rattle.node_model.specs.SetUp.{SetUp}
use Rattle.node_model.specs.Step.{step}
use Rattle.run_model.specs.Frames.{Way, on_way, taken_count, way_of}
use Rattle.run_model.specs.Past.{is_of}
use Rattle.run_model.specs.Run.{ComesAnyTime}
use Rattle.run_model.specs.States.{state_of}
use Rattle.growth_laws.specs.Merged.{Letter, word_got}
use Rattle.driver_model.specs.Driver.{Driver, DriverInput, Flight, fails_at, piece_of}
use Rattle.driver_model.specs.Turning.{asked_key, part_right, part_size, store_after}
use Rattle.driver_model.specs.Ways.{is_flight}
use Rattle.block_model.specs.Following.{effect_of, is_of_line}

-- ---- its store

-- what the driver says of r alone: its entries, and what its store has and is to fail at
abbrev pub alone : Driver → ℕ → Driver
alone d r = record d {
  past = filter (is_of r) d.past;
  flights = [];
  fails = filter (λ x. x.repo == r) d.fails;
  contents = filter (λ x. x.repo == r) d.contents;
  parts = filter (λ x. x.repo == r) d.parts;
}

-- a driver of r alone says the same
pub record IsAlone (d : Driver) (r : ℕ) (own : Driver) : Type 0 where
  pub past : own.past ≡ filter (is_of r) d.past
  pub fails : own.fails ≡ filter (λ x. x.repo == r) d.fails
  pub contents : own.contents ≡ filter (λ x. x.repo == r) d.contents
  pub parts : own.parts ≡ filter (λ x. x.repo == r) d.parts

abbrev pub piece_in : Option (List ℕ) → List ℕ
piece_in None = []
piece_in (Some bytes) = bytes

-- the bytes that came with a frame, where these are those that came on each way, in order
abbrev pub bytes_came : (Way → List (List ℕ)) → List Entry → ℕ → Option FrameView → List ℕ
bytes_came pieces past r None = []
bytes_came pieces past r (Some f) = piece_in (slice_get (pieces (way_of r f)) (taken_count past (way_of r f)))

-- its entries and its store after one more entry of its own
abbrev pub after_own : SetUp → (Way → List (List ℕ)) → Entry → Driver → Driver
after_own s pieces e own =
    store_after (state_of s own.past) s.number (effect_of e) (bytes_came pieces own.past s.number e.taken) e.kind (record own { past = e ∷ own.past })

-- and after all of these, the oldest first
abbrev pub after_owns : SetUp → (Way → List (List ℕ)) → List Entry → Driver → Driver
after_owns s pieces [] own = own
after_owns s pieces (e ∷ es) own = after_owns s pieces es (after_own s pieces e own)

-- the pieces that it sends on a way by these entries, the oldest first: those of its contents as they then stand
abbrev pub pieces_sent : SetUp → (Way → List (List ℕ)) → Way → List Entry → Driver → List (List ℕ)
pieces_sent s pieces w [] own = []
pieces_sent s pieces w (e ∷ es) own =
    map (λ f. piece_of own (state_of s own.past) s.number f f.body) (on_way w e) ++ pieces_sent s pieces w es (after_own s pieces e own)

-- ---- its entries

-- a step of its own, whose part is that of its store, and whose words at a job's end are those of the letters
pub record IsOwnStep (g : DriverInput) (s : SetUp) (got : Way → List Letter) (own : Driver) (e : Entry) : Type 0 where
  pub look : Look
  pub made : Effect
  pub makes : step s (state_of s own.past) look ≡ Some made
  pub is : e ≡ entry_of s.number look made
  pub part_is : look.part ≡ part_size own s.number (asked_key (state_of s own.past) made)
  pub right_is : look.right ≡ part_right g own s.number (asked_key (state_of s own.past) made)
  pub tells : (j : ℕ) (outcome : Outcome) → e.kind ≡ End j outcome → (c : ℕ) → look.words c ≡ word_got got own.past s.number j c

-- an entry that a line makes
pub record IsOwnLine (s : SetUp) (own : Driver) (e : Entry) : Type 0 where
  pub kind : is_of_line e.kind ≡ true
  pub comes : ComesAnyTime s own.past e

-- It is one or the other; a fault answers a `fail` line that waits there; and a frame that it takes came with its bytes.
pub record IsOwnDeed (g : DriverInput) (s : SetUp) (got : Way → List Letter) (pieces : Way → List (List ℕ)) (own : Driver) (e : Entry) : Type 0 where
  pub does : IsOwnStep g s got own e ⊎ IsOwnLine s own e
  pub answers : (call : Call) (by : By) → e.kind ≡ Fault call by → fails_at own s.number call ≡ true
  pub came : (f : FrameView) → e.taken ≡ Some f → taken_count own.past (way_of s.number f) < length (pieces (way_of s.number f))

-- so is each of its entries, the oldest first
abbrev pub AreOwnDeeds : DriverInput → SetUp → (Way → List Letter) → (Way → List (List ℕ)) → Driver → List Entry → Type 0
AreOwnDeeds g s got pieces own [] = Unit {0}
AreOwnDeeds g s got pieces own (e ∷ es) = IsOwnDeed g s got pieces own e × AreOwnDeeds g s got pieces (after_own s pieces e own) es

-- ---- each two

abbrev pub bytes_flying : ℕ → EndName → ℕ → List Flight → List (List ℕ)
bytes_flying r a n xs = map (λ x. x.bytes) (filter (is_flight r a n) xs)

-- The pieces that came on a way, but for those taken before, are the first of those that were in flight and that its sender has sent since.
pub record CameWhole (taken : ℕ) (came flying sent : List (List ℕ)) : Type 0 where
  pub more : List (List ℕ)
  pub is : flying ++ sent ≡ drop taken came ++ more
