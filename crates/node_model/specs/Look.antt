-- What a turn finds beside the repository's own past, and what it makes of it.
use Rattle.std.specs.Prelude.{ℕ, Bool, ◌&&◌, if◌then◌else◌, List, [], Option, Some, None, find}
use Rattle.std.specs.List.{list_any}
use Rattle.run_data.specs.declared.entry.Entry.{Entry}
use Rattle.run_data.specs.declared.entry.EntryKind.{EntryKind}
use Rattle.run_data.specs.declared.entry.EntryKind.TheVariants.{Fault}
use Rattle.run_data.specs.declared.entry.FrameView.{FrameView}
use Rattle.annex_base.specs.declared.kinds.Call.{Call}
use Rattle.annex_base.specs.Calls.{same_call}
use Rattle.annex_base.specs.declared.kinds.Word.{Word}
use Rattle.node_model.specs.Ends.{EndName, End, may_take, takes_at}

pub record Look : Type 0 where
  pub time : ℕ
  pub count : ℕ
  pub at_hand : List FrameView  -- the first frame at each end that has one
  pub room : EndName → Bool  -- the ends that have room for a frame and a Close
  pub fails : Option Call  -- the store call that fails
  pub part : ℕ  -- the size of the part that the step asks for, and whether it matches its key
  pub right : Bool
  pub words : ℕ → Option Word  -- at a job's end: the words beside what each repository answered it

-- the entry, but for its time, its count and its repository; and the store calls of the step, in order, where none
-- fails: it stops at the first that fails
pub record Effect : Type 0 where
  pub kind : EntryKind
  pub taken : Option FrameView
  pub sent : List FrameView
  pub lines : List (List ℕ)
  pub calls : List Call

-- what an entry tells of it
abbrev pub as_told : Effect → Effect
as_told m = record m { calls = [] }

abbrev pub entry_of : ℕ → Look → Effect → Entry
entry_of r k m = record { time = k.time; count = k.count; repo = Some r; kind = m.kind; taken = m.taken; sent = m.sent; lines = m.lines }

-- the frame that waits at an end that stands so
abbrev pub waiting_frame : End → Look → EndName → Option FrameView
waiting_frame c k a = find (λ f. takes_at a f && may_take c f) k.at_hand

-- the one of these calls that fails
abbrev pub failing_call : Option Call → List Call → Option Call
failing_call None cs = None
failing_call (Some c) cs = if list_any (same_call c) cs then Some c else None

-- the call that failed, as an entry tells it
abbrev pub failed_in : EntryKind → Option Call
failed_in (Fault call by) = Some call
failed_in _ = None

-- what is made where a call fails, and else
abbrev pub unless : {X : Type 0} → Option Call → (Call → X) → X → X
unless None fault x = x
unless (Some c) fault x = fault c
