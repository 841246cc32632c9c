-- A turn of a repository: what it finds, and the entry that it makes (own).
use Rattle.std.specs.Prelude.{ℕ, ◌+◌, Bool, true, false, if◌then◌else◌, ◌==◌, List, [], ◌++◌, find, flat_map, length, Option, Some, None}
use Rattle.std.specs.Option.{option_or, option_to_list}
use Rattle.annex_base.specs.declared.kinds.Call.{Call}
use Rattle.annex_base.specs.declared.kinds.Word.{Word}
use Rattle.run_data.specs.declared.entry.Entry.{Entry}
use Rattle.run_data.specs.declared.entry.EntryKind.{EntryKind}
use Rattle.run_data.specs.declared.entry.EntryKind.TheVariants.{Gain, Gone, Talk, Fault, End as ends_job}
use Rattle.run_data.specs.declared.entry.FrameView.{FrameView}
use Rattle.run_data.specs.declared.entry.FrameText.{FrameText}
use Rattle.run_data.specs.declared.entry.FrameText.TheVariants.{Bytes, Line}
use Rattle.run_model.specs.Past.{now}
use Rattle.node_model.specs.Look.{Look, Effect, entry_of}
use Rattle.node_model.specs.Slots.{job_of}
use Rattle.p2p_wire.specs.declared.message.Message.{Message}
use Rattle.p2p_wire.specs.declared.message.Message.TheVariants.{Failure, Put, Valid}
use Rattle.node_model.specs.SetUp.{SetUp}
use Rattle.node_model.specs.Ends.{takes_at}
use Rattle.node_model.specs.Sessions.{Doing, Takes, Took, Wants, line_in, message_said}
use Rattle.node_model.specs.Jobs.{Work}
use Rattle.node_model.specs.State.{State}
use Rattle.node_model.specs.Step.{step}
use Rattle.node_model.specs.AnyTime.{all_ends}
use Rattle.run_model.specs.Words.{word_told}
use Rattle.driver_model.specs.Driver.{Driver, Flight, DriverInput, adds, answers, without_old_flights, commits, drops_part, end_to, fails_at, frames_to, has_room, is_at, newest_count, part_at, puts_part, removes_content, set_up_of, state_at}

-- ---- what is at hand

-- the first frame at each end that has one
abbrev pub at_hand : SetUp → List FrameView → List FrameView
at_hand s fs = flat_map (λ a. option_to_list (find (takes_at a) fs)) (all_ends s)

-- a look at which no call fails, no part is there, and no words were heard
abbrev pub plain_look : SetUp → Driver → Look
plain_look s d = record {
  time = now d.past;
  count = newest_count d.past + 1;
  at_hand = at_hand s (frames_to s.number d.flights);
  room = has_room s.number d.flights;
  fails = None;
  part = 0;
  right = false;
  words = λ c. None;
}

-- ---- the part that a step asks for

abbrev pub put_key : Option Message → Option (List ℕ)
put_key (Some (Put file key)) = Some key
put_key _ = None

abbrev pub filled_key : Doing → Option (List ℕ)
filled_key (Wants key size) = Some key
filled_key (Takes key size left) = Some key
filled_key (Took key size) = Some key
filled_key _ = None

-- the key of a session's step: that of the PUT which it takes, or that which it fills
abbrev pub session_key : State → Option FrameView → Option (List ℕ)
session_key st None = None
session_key st (Some f) = option_or (put_key (line_in f.body)) (filled_key (st.sessions (end_to f)).doing)

abbrev pub work_key : Option Work → Option (List ℕ)
work_key None = None
work_key (Some w) = Some w.what.key

-- the key of a step: its job's, or its session's
abbrev pub step_key : State → Option ℕ → Option FrameView → Option (List ℕ)
step_key st (Some job) taken = work_key (find (λ w. w.number == job) st.works)
step_key st None taken = session_key st taken

abbrev pub asked_key : State → Effect → Option (List ℕ)
asked_key st m = step_key st (job_of m.kind) m.taken

-- its size, and whether it matches the key
abbrev pub part_size : Driver → ℕ → Option (List ℕ) → ℕ
part_size d r None = 0
part_size d r (Some key) = length (part_at d r key)

abbrev pub part_right : DriverInput → Driver → ℕ → Option (List ℕ) → Bool
part_right g d r None = false
part_right g d r (Some key) = g.matches key (part_at d r key)

-- ---- the words of a job that ends

abbrev pub told_words : List Entry → ℕ → EntryKind → ℕ → Option Word
told_words past r (ends_job job outcome) = word_told past r job
told_words past r kind = λ c. None

-- ---- the call that fails

-- the store calls of a step, if one is ready
abbrev pub made_calls : Option Effect → List Call
made_calls None = []
made_calls (Some m) = m.calls

-- ---- the look of a turn

-- where this would be made with a plain look: the look without a failing call, and with the step's first that is to fail
abbrev pub calm_look : DriverInput → Driver → ℕ → SetUp → State → Effect → Look
calm_look g d r s st m = record (plain_look s d) {
  part = part_size d r (asked_key st m);
  right = part_right g d r (asked_key st m);
  words = told_words d.past r m.kind;
}

abbrev pub look_for : DriverInput → Driver → ℕ → SetUp → State → Effect → Look
look_for g d r s st m = record (calm_look g d r s st m) { fails = find (fails_at d r) (made_calls (step s st (calm_look g d r s st m))) }

-- ---- contents and parts afterwards

abbrev pub is_valid : Option Message → Bool
is_valid (Some Valid) = true
is_valid _ = false

abbrev pub is_failure : Option Message → Bool
is_failure (Some Failure) = true
is_failure _ = false

-- a piece that is taken without an answer is appended; a part that doesn't match is dropped
abbrev pub takes_into : ℕ → List ℕ → List ℕ → FrameText → List FrameView → Driver → Driver
takes_into r key bytes (Bytes n) [] d = puts_part r key (part_at d r key ++ bytes) d
takes_into r key bytes (Line text) sent d = if is_valid (line_in (Line text)) then (if is_failure (message_said sent) then drops_part r key d else d) else d
takes_into r key bytes body sent d = d

abbrev pub bytes_of : Option Flight → List ℕ
bytes_of None = []
bytes_of (Some x) = x.bytes

abbrev pub bytes_taken : ℕ → Option FrameView → Driver → List ℕ
bytes_taken r None d = []
bytes_taken r (Some f) d = bytes_of (find (is_at r f) d.flights)

abbrev pub takes_frame : ℕ → List ℕ → Option (List ℕ) → Option FrameView → List FrameView → Driver → Driver
takes_frame r bytes (Some key) (Some f) sent d = takes_into r key bytes f.body sent d
takes_frame r bytes key taken sent d = d

-- by the kind of the entry, which may have taken these bytes; the answered `fail` line is gone
abbrev pub store_after : State → ℕ → Effect → List ℕ → EntryKind → Driver → Driver
store_after st r m bytes (Gain by size key) d = commits r key d
store_after st r m bytes (Gone by key) d = removes_content r key d
store_after st r m bytes (Talk job) d = takes_frame r bytes (asked_key st m) m.taken m.sent d
store_after st r m bytes (Fault call by) d = answers r call d
store_after st r m bytes kind d = d

-- ---- the turn

-- the step's entry, where there is one
abbrev pub makes : State → ℕ → Look → Option Effect → Driver → Driver
makes st r k None d = d
makes st r k (Some m) d = store_after st r m (bytes_taken r m.taken d) m.kind (adds st r (entry_of r k m) d)

abbrev pub looks : DriverInput → ℕ → SetUp → State → Option Effect → Driver → Driver
looks g r s st None d = d
looks g r s st (Some m) d = makes st r (look_for g d r s st m) (step s st (look_for g d r s st m)) d

abbrev pub steps : DriverInput → ℕ → SetUp → State → Driver → Driver
steps g r s st d = looks g r s st (step s st (plain_look s d)) d

abbrev pub after_turn : DriverInput → ℕ → SetUp → State → Driver → Driver
after_turn g r s st d = steps g r s st (without_old_flights st r d)

-- a turn of r: it drops frames, and makes a step if one is ready
abbrev pub turn : DriverInput → ℕ → Driver → Driver
turn g r d = after_turn g r (set_up_of g d r) (state_at g d r) d
