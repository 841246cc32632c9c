-- The state of the sequential driver (own), and how one more entry changes it.
use Rattle.std.specs.Prelude.{ℕ, ◌+◌, Bool, true, false, not, ◌&&◌, ◌||◌, if◌then◌else◌, ◌==◌, nat_lt, nat_le, max, List, [], ◌∷◌, ◌++◌, drop, filter, find, length, map, take, Option, Some, None}
use Rattle.std.specs.List.{list_any}
use Rattle.annex_base.specs.declared.kinds.Call.{Call}
use Rattle.run_data.specs.declared.entry.Entry.{Entry}
use Rattle.run_data.specs.declared.entry.EntryKind.{EntryKind}
use Rattle.run_data.specs.declared.entry.FrameView.{FrameView}
use Rattle.run_data.specs.declared.entry.FrameText.{FrameText}
use Rattle.run_data.specs.declared.entry.FrameText.TheVariants.{Bytes}
use Rattle.run_data.specs.declared.run.RepoView.{RepoView}
use Rattle.run_data.specs.declared.run.TreeMark.{TreeMark}
use Rattle.run_model.specs.Past.{now}
use Rattle.node_model.specs.SetUp.{SetUp}
use Rattle.node_model.specs.Ends.{End, EndName, takes_at}
use Rattle.node_model.specs.Sessions.{Doing, Gives}
use Rattle.node_model.specs.Jobs.{Phase, PutsBytes, Work}
use Rattle.annex_base.specs.Calls.{same_call}
use Rattle.node_model.specs.State.{State}
use Rattle.run_model.specs.States.{state_of}
use Rattle.run_model.specs.Run.{paths_at}
use Rattle.driver_model.specs.Stores.{StoredBytes, stored_bytes, with_bytes, without}

-- what a script is driven on: its repositories, and whether bytes match a key
pub record DriverInput : Type 0 where
  pub repos : List RepoView
  pub matches : List ℕ → List ℕ → Bool

-- a `fail` line that waits
pub record FailLine : Type 0 where
  pub repo : ℕ
  pub call : Call

-- a frame that was sent to a repository, as it lists it, and not yet taken or dropped; with the bytes of a piece
pub record Flight : Type 0 where
  pub to : ℕ
  pub frame : FrameView
  pub bytes : List ℕ

-- the past has the newest entry first, and contents and parts what was stored last; the other lists have the newest last
pub record Driver : Type 0 where
  pub past : List Entry
  pub flights : List Flight
  pub fails : List FailLine
  pub contents : List StoredBytes
  pub parts : List StoredBytes
  pub largest : ℕ  -- the size of the greatest part so far
  pub tree : List TreeMark
  pub marks : List ℕ

abbrev pub at_first : Driver
at_first = record { past = []; flights = []; fails = []; contents = []; parts = []; largest = 0; tree = []; marks = [] }

abbrev pub set_up_of : DriverInput → Driver → ℕ → SetUp
set_up_of g d r = record { number = r; repos = g.repos; paths = paths_at d.tree d.past r }

-- all that a repository knows: `state_of` of the past
abbrev pub state_at : DriverInput → Driver → ℕ → State
state_at g d r = state_of (set_up_of g d r) d.past

abbrev pub newest_count : List Entry → ℕ
newest_count [] = 0
newest_count (e ∷ past) = e.count

-- ---- contents and parts

abbrev pub content_at : Driver → ℕ → List ℕ → List ℕ
content_at d r key = stored_bytes d.contents r key

abbrev pub part_at : Driver → ℕ → List ℕ → List ℕ
part_at d r key = stored_bytes d.parts r key

abbrev pub puts_part : ℕ → List ℕ → List ℕ → Driver → Driver
puts_part r key bytes d = record d { parts = with_bytes d.parts r key bytes; largest = max d.largest (length bytes) }

abbrev pub drops_part : ℕ → List ℕ → Driver → Driver
drops_part r key d = record d { parts = without d.parts r key }

-- the part becomes the content
abbrev pub commits : ℕ → List ℕ → Driver → Driver
commits r key d = record d { contents = with_bytes d.contents r key (part_at d r key); parts = without d.parts r key }

abbrev pub removes_content : ℕ → List ℕ → Driver → Driver
removes_content r key d = record d { contents = without d.contents r key }

-- ---- frames

-- the end that a frame comes to, and the one that it leaves
abbrev pub end_to : FrameView → EndName
end_to f = record { peer = f.peer; slot = f.slot; client = if f.up then false else true }

abbrev pub end_from : FrameView → EndName
end_from f = record { peer = f.peer; slot = f.slot; client = f.up }

-- the frame of an older epoch, or of one that this end has closed
abbrev pub is_old : End → FrameView → Bool
is_old c f = nat_lt f.epoch c.epoch || ((f.epoch == c.epoch) && not c.opened)

abbrev pub old_at : State → ℕ → Flight → Bool
old_at st r x = (x.to == r) && is_old (st.ends (end_to x.frame)) x.frame

-- a turn of r first drops such frames
abbrev pub without_old_flights : State → ℕ → Driver → Driver
without_old_flights st r d = record d { flights = filter (λ x. not (old_at st r x)) d.flights }

abbrev pub frames_to : ℕ → List Flight → List FrameView
frames_to r xs = map (λ x. x.frame) (filter (λ x. x.to == r) xs)

-- the frame came from r by this end of r
abbrev pub is_sent_by : ℕ → EndName → Flight → Bool
is_sent_by r a x = (x.to == a.peer) && ((x.frame.peer == r) && ((x.frame.slot == a.slot) && (if a.client then x.frame.up else not x.frame.up)))

-- the ring holds 8 frames, of which one place is kept for a Close
abbrev pub has_room : ℕ → List Flight → EndName → Bool
has_room r xs a = nat_le (length (filter (is_sent_by r a) xs) + 2) 8

-- what r gives at a place of a content
abbrev pub slice : List ℕ → ℕ → ℕ → List ℕ
slice bytes at n = take n (drop at bytes)

abbrev pub piece_given_by : Driver → ℕ → ℕ → Doing → List ℕ
piece_given_by d r n (Gives key at left good) = slice (content_at d r key) at n
piece_given_by d r n doing = []

abbrev pub piece_put_by : Driver → ℕ → ℕ → List ℕ → Phase → List ℕ
piece_put_by d r n key (PutsBytes peer start at left) = slice (content_at d r key) at n
piece_put_by d r n key phase = []

abbrev pub piece_put_by_work : Driver → ℕ → ℕ → Option Work → List ℕ
piece_put_by_work d r n None = []
piece_put_by_work d r n (Some w) = piece_put_by d r n w.what.key w.phase

-- the bytes of a piece that r sends
abbrev pub piece_of : Driver → State → ℕ → FrameView → FrameText → List ℕ
piece_of d st r f (Bytes n) = if f.up then piece_put_by_work d r n (find (λ w. w.slot == f.slot) st.works) else piece_given_by d r n (st.sessions (end_from f)).doing
piece_of d st r f body = []

abbrev pub flight : Driver → State → ℕ → FrameView → Flight
flight d st r f = record { to = f.peer; frame = record f { peer = r }; bytes = piece_of d st r f f.body }

-- but the first to which the test applies
abbrev pub but_first : {X : Type 0} → (X → Bool) → List X → List X
but_first q [] = []
but_first q (x ∷ xs) = if q x then xs else x ∷ but_first q xs

abbrev pub is_at : ℕ → FrameView → Flight → Bool
is_at r f x = (x.to == r) && takes_at (end_to f) x.frame

abbrev pub but_taken : ℕ → Option FrameView → List Flight → List Flight
but_taken r None xs = xs
but_taken r (Some f) xs = but_first (is_at r f) xs

-- ---- one more entry

-- an entry of r, which found this state: it stands from now on, the frame that it took is gone, those that it sent are
-- on their way
abbrev pub adds : State → ℕ → Entry → Driver → Driver
adds st r e d = record d { past = e ∷ d.past; flights = but_taken r e.taken d.flights ++ map (flight d st r) e.sent }

-- an entry of r that takes and sends nothing
abbrev pub entry : Driver → ℕ → EntryKind → List (List ℕ) → Entry
entry d r kind lines = record { time = now d.past; count = newest_count d.past + 1; repo = Some r; kind = kind; taken = None; sent = []; lines = lines }

abbrev pub notes : ℕ → EntryKind → List (List ℕ) → Driver → Driver
notes r kind lines d = record d { past = entry d r kind lines ∷ d.past }

-- ---- store calls that fail

abbrev pub is_failing : ℕ → Call → FailLine → Bool
is_failing r call x = (x.repo == r) && same_call x.call call

-- a `fail` line waits for the call
abbrev pub fails_at : Driver → ℕ → Call → Bool
fails_at d r call = list_any (is_failing r call) d.fails

-- one of them is answered
abbrev pub answers : ℕ → Call → Driver → Driver
answers r call d = record d { fails = but_first (is_failing r call) d.fails }
