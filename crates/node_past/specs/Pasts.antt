-- The past of a repository and its next entries; for private contracts.
use Rattle.std.specs.Prelude.{◌≡◌, ℕ, ◌+◌, ◌<◌, vec_len, vec_capacity, true, List, [], ◌∷◌, ◌++◌, Option, Some, None}
use Rattle.annex_base.specs.declared.kinds.Call.{Call}
use Rattle.run_data.specs.declared.entry.Entry.{Entry}
use Rattle.run_data.specs.declared.entry.EntryKind.{EntryKind}
use Rattle.run_data.specs.declared.entry.EntryKind.TheVariants.{Crash, Fault}
use Rattle.run_data.specs.declared.entry.FrameView.{FrameView}
use Rattle.run_data.specs.declared.entry.By.{By}
use Rattle.run_data.specs.declared.entry.By.TheVariants.{Script}
use Rattle.node_model.specs.AnyTime.{is_scripts}
use Rattle.node_past.specs.declared.past.Past.{Past}
use Rattle.node_past.specs.declared.setup.Ended.{Ended}
use Rattle.node_past.specs.declared.refused.NodeRefused.{NodeRefused}
use Rattle.node_past.specs.declared.refused.NodeRefused.TheVariants as refusals
use Rattle.run_data.specs.Histories.{most_entries}

-- it is what it was, but for the room that it has
pub record SamePast (was now : Past) : Type 0 where
  pub setup : now.setup ≡ was.setup
  pub time : now.time ≡ was.time
  pub clock : now.clock ≡ was.clock
  pub count : now.count ≡ was.count
  pub history : now.history.items ≡ was.history.items
  pub outcomes : now.outcomes.items ≡ was.outcomes.items

-- one more entry has its place, and isn't one too many
pub record IsReady (p : Past) : Type 0 where
  pub room : vec_len p.history < vec_capacity p.history
  pub few : vec_len p.history < most_entries

abbrev pub entry_of : Past → EntryKind → List (List ℕ) → Entry
entry_of p kind lines = record { time = p.time; count = p.count + 1; repo = Some p.setup.number; kind = kind; taken = None; sent = []; lines = lines }

-- it has one more entry of this kind
pub record AddsTo (kind : EntryKind) (lines : List (List ℕ)) (was now : Past) : Type 0 where
  pub setup : now.setup ≡ was.setup
  pub time : now.time ≡ was.time
  pub clock : now.clock ≡ was.clock
  pub count : now.count ≡ was.count + 1
  pub history : now.history.items ≡ was.history.items ++ entry_of was kind lines ∷ []
  pub outcomes : now.outcomes.items ≡ was.outcomes.items

-- a step, done for the script, a job or a peer, that makes this call of the store was refused
abbrev pub FailsFor : By → NodeRefused → Call → Past → Past → Type 0
FailsFor by refusals.Full call was now = SamePast was now × (vec_len was.history ≡ most_entries)
FailsFor by refusals.StoreFault call was now = AddsTo (Fault call by) [] was now
FailsFor by (refusals.BadBundle at) call was now = ⊥
FailsFor by refusals.NoMemory call was now = SamePast was now

-- a call that a step of the script makes was refused
pub record FailsAtScripts (e : NodeRefused) (was now : Past) : Type 0 where
  pub call : Call
  pub scripts : is_scripts call ≡ true
  pub fails : FailsFor Script e call was now

-- ---- an entry of a step

abbrev pub frames_entry : Past → EntryKind → Option FrameView → List FrameView → Entry
frames_entry p kind taken sent = record { time = p.time; count = p.count + 1; repo = Some p.setup.number; kind = kind; taken = taken; sent = sent; lines = [] }

-- it has one more entry of this kind, which took this frame, if one, and sent these
pub record Enters (kind : EntryKind) (taken : Option FrameView) (sent : List FrameView) (ended : List Ended) (was now : Past) : Type 0 where
  pub setup : now.setup ≡ was.setup
  pub time : now.time ≡ was.time
  pub clock : now.clock ≡ was.clock
  pub count : now.count ≡ was.count + 1
  pub history : now.history.items ≡ was.history.items ++ frames_entry was kind taken sent ∷ []
  pub outcomes : now.outcomes.items ≡ was.outcomes.items ++ ended

-- it has the entry of a crash, which sent these and set its clock to this at its time, and these jobs have ended
pub record Crashes (to : ℕ) (sent : List FrameView) (ended : List Ended) (was now : Past) : Type 0 where
  pub setup : now.setup ≡ was.setup
  pub time : now.time ≡ was.time
  pub clock : now.clock ≡ record { at = was.time; to = to }
  pub count : now.count ≡ was.count + 1
  pub history : now.history.items ≡ was.history.items ++ frames_entry was (Crash to) None sent ∷ []
  pub outcomes : now.outcomes.items ≡ was.outcomes.items ++ ended
