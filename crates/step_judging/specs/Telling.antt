-- The look that an entry tells of: if the entry is a step for any look, it is the step for this one.
use Rattle.std.specs.Prelude.{ℕ, ◌^◌, Bool, true, false, not, ◌&&◌, if◌then◌else◌, ◌==◌, nat_lt, List, [], ◌∷◌, Option, Some, None}
use Rattle.std.specs.List.{list_any}
use Rattle.std.specs.Option.{option_to_list}
use Rattle.std.specs.Str.Parse.{digits_value}
use Rattle.annex_base.specs.declared.kinds.Call.{Call}
use Rattle.annex_base.specs.declared.kinds.Call.TheVariants.{Commit}
use Rattle.annex_base.specs.declared.kinds.Word.{Word}
use Rattle.annex_base.specs.Calls.{same_call}
use Rattle.run_data.specs.declared.entry.Entry.{Entry}
use Rattle.run_data.specs.declared.entry.EntryKind.{EntryKind}
use Rattle.run_data.specs.declared.entry.EntryKind.TheVariants.{Gain, Fault, End}
use Rattle.run_data.specs.declared.entry.FrameView.{FrameView}
use Rattle.run_data.specs.declared.entry.FrameText.{FrameText}
use Rattle.run_data.specs.declared.entry.FrameText.TheVariants.{Line}
use Rattle.p2p_wire.specs.Messages.{rest_in, word_in}
use Rattle.node_model.specs.Ends.{EndName, sends_at, takes_at}
use Rattle.node_model.specs.Jobs.{Work}
use Rattle.node_model.specs.Slots.{job_of}
use Rattle.node_model.specs.State.{State}
use Rattle.node_model.specs.Look.{Look}

-- ---- the store call that failed, and the part

-- the call that failed: a fault names it
abbrev pub failed_call : EntryKind → Option Call
failed_call (Fault call by) = Some call
failed_call _ = None

-- the line of a frame, if it has one
abbrev pub line_of : FrameText → List ℕ
line_of (Line text) = text
line_of _ = []

-- the line of the first frame
abbrev pub first_line : List FrameView → List ℕ
first_line [] = []
first_line (f ∷ fs) = line_of f.body

abbrev pub number_behind : Option (List ℕ) → ℕ
number_behind None = 0
number_behind (Some rest) = digits_value 10 (word_in rest)

-- a part is smaller than this, so a greater number is no part's
abbrev pub small_part : ℕ → ℕ
small_part n = if nat_lt n (2 ^ 62) then n else 1

-- the size of the part: what is asked for from it on, or offered, names it as its second word. A fault asks for nothing, and may
-- be that of the part's reading, which an empty part hasn't
abbrev pub part_told : EntryKind → List ℕ → ℕ
part_told (Fault call by) line = 1
part_told kind line = small_part (number_behind (rest_in line))

-- the part matches its key: it came to its commit
abbrev pub matches_told : EntryKind → Bool
matches_told (Gain by size key) = true
matches_told (Fault call by) = same_call call Commit
matches_told _ = false

-- ---- where there is room

-- the end takes the frame that is taken; or where none is, it sends the first that is sent
abbrev pub is_end_of : EndName → Option FrameView → List FrameView → Bool
is_end_of a (Some f) sent = takes_at a f
is_end_of a None [] = false
is_end_of a None (f ∷ sent) = sends_at a f

-- the job runs in this slot
abbrev pub runs_in : List Work → ℕ → ℕ → Bool
runs_in ws job slot = list_any (λ w. (w.number == job) && (w.slot == slot)) ws

-- a job has room at each of its own ends; a session at its own end. No other end has room, so each other session, and each other
-- job that needs room, is passed over
abbrev pub room_told : List Work → Option ℕ → Option FrameView → List FrameView → EndName → Bool
room_told ws None taken sent a = not a.client && is_end_of a taken sent
room_told ws (Some job) taken sent a = a.client && runs_in ws job a.slot

-- ---- the look

abbrev pub is_end : EntryKind → Bool
is_end (End job outcome) = true
is_end _ = false

-- with these words, which are read at a job's end alone
abbrev pub look_of : State → (ℕ → Option Word) → Entry → Look
look_of st words e =
    record {
      time = e.time;
      count = e.count;
      at_hand = option_to_list e.taken;
      room = room_told st.works (job_of e.kind) e.taken e.sent;
      fails = failed_call e.kind;
      part = part_told e.kind (first_line e.sent);
      right = matches_told e.kind;
      words = words;
    }
