-- What a turn of a node makes, and what it leaves (own).
use Rattle.std.specs.Prelude.{◌≡◌, ◌⊎◌, ℕ, ◌+◌, true, List, [], ◌∷◌, ◌++◌, length, Option, Some, None, is_some, IfSome}
use Rattle.std.specs.Option.{option_map, option_map_or}
use Rattle.annex_base.specs.Causes.{Rose}
use Rattle.annex_base.specs.Lists.{Each}
use Rattle.annex_base.specs.declared.kinds.EntryStamp.{EntryStamp}
use Rattle.annex_base.specs.declared.kinds.Word.{Word}
use Rattle.run_data.specs.declared.entry.Entry.{Entry}
use Rattle.run_data.specs.declared.entry.EntryKind.{EntryKind}
use Rattle.run_data.specs.declared.entry.EntryKind.TheVariants.{End, Log}
use Rattle.run_data.specs.declared.entry.FrameView.{FrameView}
use Rattle.run_data.specs.Files.{file_path}
use Rattle.object_store.specs.Stores.{Parts as StoredParts}
use Rattle.union_merge.specs.Branch.{Files, merged_file}
use Rattle.link_ring.specs.Ends.{EndView}
use Rattle.content_lock.specs.CallsMade.{MakesCalls, fewer}
use Rattle.node_ends.specs.Ends.{SeesEnds}
use Rattle.node_ends.specs.Going.{AreAfter}
use Rattle.node_parts.specs.Answers.{contents_after}
use Rattle.node_parts.specs.Running.{HadPathsOf, words_at}
use Rattle.node_model.specs.Look.{Look, Effect, entry_of, failed_in}
use Rattle.node_model.specs.SetUp.{SetUp}
use Rattle.node_model.specs.Slots.{job_of}
use Rattle.node_model.specs.State.{State}
use Rattle.node_model.specs.Step.{step}
use Rattle.node_parts.specs.declared.done.Done.{Done}
use Rattle.node_parts.specs.Jobs.{JobsGoOn}
use Rattle.node_parts.specs.Parts.{PartsView}
use Rattle.node_parts.specs.Posting.{PostsPieces}
use Rattle.node_parts.specs.Steps.{HasPart, IsPartAsked}
use Rattle.node_parts.specs.Stored.{parts_after_step}
use Rattle.node_past.specs.declared.setup.Ended.{Ended}
use Rattle.node_steps.specs.Nodes.{MatchesSetup, NodeView, state_of}
use Rattle.node_past.specs.Stored.{StoreView}

-- ---- what a turn finds

-- the look is the node's: it finds what waits at the node's ends and where they have room, at its time, for its next entry; and the
-- keys of the running drops had the paths that these were given
pub record Looks {K : Type 0} (n : NodeView K) (s : SetUp) (k : Look) : Type 0 where
  pub ends : SeesEnds n.parts.links s k
  pub time : k.time ≡ n.time
  pub count : k.count ≡ n.count + 1
  pub paths : Each (HadPathsOf s) n.parts.jobs.running

-- the words that the job that makes an entry of this kind heard beside its peers' answers; none where no job makes it
abbrev pub words_by : {K : Type 0} → NodeView K → EntryKind → ℕ → Option Word
words_by n kind = option_map_or (words_at n.parts.jobs.running) (job_of kind) (λ c. None)

-- ---- what it makes

-- the job that an entry of this kind ends, with the entry's place in the history
abbrev pub ended_by : EntryKind → ℕ → List Ended
ended_by (End job outcome) place = record { number = job; place = place } ∷ []
ended_by kind place = []

-- the branch after an entry of this kind with these new lines, as a turn makes one: a log's file has them beside those that it had
abbrev pub branch_by : Files → EntryKind → List (List ℕ) → Files
branch_by branch (Log file) lines = merged_file branch (file_path file) lines
branch_by branch kind lines = branch

-- the stamp of the node's next entry
abbrev pub stamp_then : {K : Type 0} → NodeView K → EntryStamp
stamp_then n = record { time = n.time; count = n.count + 1; repo = n.setup.number }

-- an entry as what a step made; it doesn't tell what a job owes since
abbrev pub done_in : Entry → Done
done_in e = record { kind = e.kind; taken = e.taken; sent = e.sent; owes = None }

-- the jobs are as they were; or else the sessions are, and of the jobs the one that made this has gone on
abbrev pub GoOn : PartsView → PartsView → Done → Type 0
GoOn was now d = (now.jobs ≡ was.jobs) ⊎ ((now.sessions ≡ was.sessions) × JobsGoOn was now d)

-- The node has one entry more, of its own number, at its time, with the next count; its clock runs on. Its branch has the entry's
-- lines. Its ends, which were these, took and sent the entry's frames, with its stamp, and each piece among them is of the content
-- that its session, or its job, is sending; and its jobs have gone on from these ends. Its store has the contents that the entry
-- leaves, and the parts that the taken frame leaves; where the entry says that a call failed, one fewer of its kind is still to fail,
-- and the count of the store's faults rose.
pub record Adds {K : Type 0} (links : List EndView) (before after : StoreView) (was now : NodeView K) : Type 0 where
  pub entry : Entry
  pub history : now.history ≡ was.history ++ entry ∷ []
  pub outcomes : now.outcomes ≡ was.outcomes ++ ended_by entry.kind (length was.history)
  pub time : entry.time ≡ was.time
  pub count : entry.count ≡ was.count + 1
  pub repo : entry.repo ≡ Some was.setup.number
  pub counted : now.count ≡ was.count + 1
  pub at : now.time ≡ was.time
  pub clock : now.clock ≡ was.clock
  pub setup : now.setup ≡ was.setup
  pub branch : now.branch ≡ branch_by was.branch entry.kind entry.lines
  pub ends : AreAfter links now.parts.links entry.taken entry.sent
  pub posts : PostsPieces (stamp_then was) entry.kind (record was.parts { links = links }) before.contents now.parts.links entry.taken entry.sent
  pub jobs : GoOn (record was.parts { links = links }) now.parts (done_in entry)
  pub contents : after.contents ≡ contents_after before.contents before.parts entry.kind
  pub parts : after.parts ≡ parts_after_step (record was.parts { links = links }) (done_in entry) before.parts
  pub left : after.failing ≡ option_map (fewer (failed_in entry.kind)) before.failing
  pub cause : IfSome (failed_in entry.kind) (λ call. Rose before.faults after.faults)

-- ---- of which step its entry is

-- what is to be made of a state, at a look: as `step` has it, or steps of one kind alone
abbrev pub Stepper : Type 0
Stepper = SetUp → State → Look → Option Effect

-- The look finds the call to fail of which an entry of this kind tells; the part, as the store has it, that the session to which the
-- taken frame came asks for, or the job that makes such an entry; and the words that this job heard.
pub record Finds {K : Type 0} (known : Option StoredParts) (n : NodeView K) (kind : EntryKind) (taken : Option FrameView) (k : Look) : Type 0 where
  pub fails : k.fails ≡ failed_in kind
  pub part : IsPartAsked known n.parts kind taken k.part k.right
  pub words : k.words ≡ words_by n kind

-- Of the state that the history leaves, at this look, there is a step of this kind, which takes this frame; its entry is the
-- history's last, behind those that were there; and its calls are those that the store was asked, up to the one that failed.
pub record MakesAt {K : Type 0} (step : Stepper) (kind : EntryKind) (taken : Option FrameView) (before after : StoreView) (was now : NodeView K) (s : SetUp) (k : Look) : Type 0 where
  pub made : Effect
  pub same : made.kind ≡ kind
  pub takes : made.taken ≡ taken
  pub makes : step s (state_of s was.history) k ≡ Some made
  pub adds : now.history ≡ was.history ++ entry_of s.number k made ∷ []
  pub calls : MakesCalls made.calls (failed_in kind) before.failing after.failing

-- The entry is the step of this kind, which takes this frame, at every look of the node that finds what belongs to it. The store has
-- such a part.
pub record StepsBy {K : Type 0} (step : Stepper) (before after : StoreView) (was now : NodeView K) : Type 0 where
  pub kind : EntryKind
  pub taken : Option FrameView
  pub part : HasPart before.parts was.parts kind taken
  pub makes : (s : SetUp) (k : Look) → MatchesSetup was.setup s → Looks was s k → Finds before.parts was kind taken k → MakesAt step kind taken before after was now s k

-- ---- whether there is one

-- no step is ready, whatever a look of the node finds beside
abbrev pub IsIdle : {K : Type 0} → NodeView K → SetUp → Type 0
IsIdle n s = (k : Look) → Looks n s k → step s (state_of s n.history) k ≡ None

-- a step is ready, whatever a look of the node finds beside
abbrev pub HasStep : {K : Type 0} → NodeView K → SetUp → Type 0
HasStep n s = (k : Look) → Looks n s k → is_some (step s (state_of s n.history) k) ≡ true
