-- What a step of a repository's parts makes, and what it leaves (own).
use Rattle.std.specs.Prelude.{◌≡◌, ℕ, ◌+◌, ◌<◌, Bool, if◌then◌else◌, List, [], ◌∷◌, All, find, Option, Some, None, option_and_then}
use Rattle.std.specs.Option.{ForSome, option_map, option_map_or, option_to_list}
use Rattle.annex_base.specs.Lists.{Each}
use Rattle.annex_base.specs.Settings.{Settings}
use Rattle.annex_base.specs.declared.kinds.Call.{Call}
use Rattle.annex_base.specs.declared.kinds.Word.{Word}
use Rattle.run_data.specs.declared.entry.By.TheVariants.{Peer}
use Rattle.run_data.specs.declared.entry.EntryKind.{EntryKind}
use Rattle.run_data.specs.declared.entry.EntryKind.TheVariants.{Close}
use Rattle.run_data.specs.declared.entry.FrameText.TheVariants.{Closing}
use Rattle.run_data.specs.declared.entry.FrameView.{FrameView}
use Rattle.object_store.specs.Stores.{Contents, Parts as StoredParts}
use Rattle.content_lock.specs.Rows.{bar_at}
use Rattle.link_ring.specs.Ends.{EndView}
use Rattle.node_ends.specs.Ends.{SeesEnds}
use Rattle.node_ends.specs.Going.{AreAfter}
use Rattle.node_model.specs.After.{state_after}
use Rattle.node_model.specs.Clocks.{ClockSet, runs_on}
use Rattle.node_model.specs.Ends.{End, EndName, frames}
use Rattle.node_model.specs.Look.{Look, Effect, as_told, entry_of, failed_in}
use Rattle.node_model.specs.OwedLines.{told_frame}
use Rattle.node_model.specs.Rows.{bar_after, holds_after, same_owner}
use Rattle.node_model.specs.SetUp.{SetUp}
use Rattle.node_model.specs.SessionStep.{session_step}
use Rattle.node_model.specs.Slots.{job_of}
use Rattle.node_model.specs.State.{State}
use Rattle.node_model.specs.Turns.{job_step}
use Rattle.p2p_server.specs.declared.session.Session.{Session}
use Rattle.node_sessions.specs.Serving.{SeesPartAt}
use Rattle.node_sessions.specs.Sessions.{owner_of}
use Rattle.running_jobs.specs.Task.{Task}
use Rattle.running_jobs.specs.Tasks.{work_now}
use Rattle.running_jobs.specs.Acting.{SeesPartAt as JobSeesPartAt}
use Rattle.running_jobs.specs.Running.{HadPathsOf, job_at, words_at}
use Rattle.owed_lines.specs.Lines.{line_of}
use Rattle.node_parts.specs.declared.done.Done.{Done}
use Rattle.node_parts.specs.Parts.{AreParts, HasContents, PartsView}

-- ---- what is made

abbrev pub made_of : Done → Effect
made_of d = record { kind = d.kind; taken = d.taken; sent = d.sent; lines = []; calls = [] }

-- what the close of an end that stands so makes
abbrev pub close_made : EndName → End → Effect
close_made a c = record { kind = Close a.peer a.slot a.client; taken = None; sent = frames a c (Closing ∷ []); lines = []; calls = [] }

-- the store call that failed
abbrev pub failed_by : Option Done → Option Call
failed_by None = None
failed_by (Some d) = failed_in d.kind

-- ---- what a look finds

-- The state is what these parts and a store with these contents are, before the entry of this number; the keys of the running drops had
-- the paths that these were given; and at this time the look finds what waits at the ends, and where they have room.
pub record SeesParts (p : PartsView) (c : Contents) (clock : ClockSet) (at n : ℕ) (s : SetUp) (st : State) (k : Look) : Type 0 where
  pub parts : AreParts s st p
  pub stored : HasContents c st
  pub paths : Each (HadPathsOf s) p.jobs.running
  pub ticks : st.clock ≡ runs_on clock
  pub number : n ≡ st.made + 1
  pub ends : SeesEnds p.links s k
  pub time : k.time ≡ at

-- where there is a step, the look finds its store call to fail that the entry tells
abbrev pub Fails : Option Done → Look → Type 0
Fails o k = ForSome o (λ d. k.fails ≡ failed_in d.kind)

-- ---- who makes a step

-- the session at the server's end that this frame came to: a frame that goes up is a client's
abbrev pub session_asked : List Session → Option FrameView → Option Session
session_asked xs None = None
session_asked xs (Some f) = if f.up then find (λ x. same_owner (owner_of x) (Peer f.peer f.slot)) xs else None

-- the running job that makes an entry of this kind
abbrev pub job_acting : PartsView → EntryKind → Option Task
job_acting p kind = option_and_then (job_at p.jobs.running) (job_of kind)

-- ---- the part that a step asks for

-- where a step by an entry of this kind that takes this frame asks for a part, for a session or for a job, the store's has this size,
-- and matches its key or doesn't
pub record IsPartAsked (known : Option StoredParts) (p : PartsView) (kind : EntryKind) (taken : Option FrameView) (part : ℕ) (right : Bool) : Type 0 where
  pub serving : SeesPartAt known (session_asked p.sessions taken) taken part right
  pub acting : ForSome (job_acting p kind) (λ t. JobSeesPartAt known t taken part right)

-- there is an answer to what it asks
pub record HasPart (known : Option StoredParts) (p : PartsView) (kind : EntryKind) (taken : Option FrameView) : Type 0 where
  pub part : ℕ
  pub right : Bool
  pub asked : IsPartAsked known p kind taken part right

-- where a step, by its entry's kind and the frame that it takes, asks for a part, the look finds the store's
abbrev pub AsksPart : Option StoredParts → PartsView → Option Done → Look → Type 0
AsksPart known p o k = ForSome o (λ d. IsPartAsked known p d.kind d.taken k.part k.right)

-- ---- the line that is owed since

-- its job's repository owes its branch the line that the job's peer told it by the taken frame, if that told one
abbrev pub OwesTold : PartsView → Done → Type 0
OwesTold p d = option_to_list (option_map line_of d.owes) ≡ told_frame (option_map work_now (job_acting p d.kind)) d.taken

-- ---- what it leaves of a state

-- the state after the step's entry; where there is no step, it stays
abbrev pub state_then : SetUp → State → Look → Option Done → State
state_then s st k None = st
state_then s st k (Some d) = state_after s st (entry_of s.number k (made_of d))

-- this is the step that the definitions have, as an entry tells it, and the parts and the contents are those of the state after it
pub record Steps (step : SetUp → State → Look → Option Effect) (now : PartsView) (contents : Option Contents) (s : SetUp) (st : State) (k : Look) (o : Option Done) : Type 0 where
  pub made : option_map as_told (step s st k) ≡ option_map made_of o
  pub parts : AreParts s (state_then s st k o) now
  pub stored : ForSome contents (λ c. HasContents c (state_then s st k o))

-- ---- at which looks

-- This is so of each state that the parts and the store are, at each look that finds the part that is asked for by the kind of the
-- step's entry and the frame that it takes, and the store call to fail that the kind tells.
abbrev pub WhereServed : PartsView → Contents → Option StoredParts → ClockSet → ℕ → ℕ → Option Done → (SetUp → State → Look → Type 0) → Type 0
WhereServed p c known clock time number o P = (s : SetUp) (st : State) (k : Look) → SeesParts p c clock time number s st k → Fails o k → AsksPart known p o k → P s st k

-- this is the step of the sessions, of each such state at each such look
abbrev pub Serves : PartsView → PartsView → Contents → Option StoredParts → Option Contents → ClockSet → ℕ → ℕ → Option Done → Type 0
Serves was now c known contents clock time number o = WhereServed was c known clock time number o (λ s st k. Steps session_step now contents s st k o)

-- the words that the acting job heard beside its peers' answers
abbrev pub words_heard : PartsView → Option Done → ℕ → Option Word
words_heard p o = option_map_or (words_at p.jobs.running) (option_and_then (λ (d : Done). job_of d.kind) o) (λ c. None)

-- where there is a step, the look finds those words
abbrev pub Hears : PartsView → Option Done → Look → Type 0
Hears p o k = ForSome o (λ d. k.words ≡ words_heard p (Some d))

-- the same of each such state with these settings, at each such look that also finds the words that the kind's job heard
abbrev pub WhereActed : PartsView → Contents → Option StoredParts → ClockSet → Settings → ℕ → ℕ → Option Done → (SetUp → State → Look → Type 0) → Type 0
WhereActed p c known clock settings time number o P = (s : SetUp) (st : State) (k : Look) → st.logs ≡ settings → SeesParts p c clock time number s st k → Fails o k → AsksPart known p o k → Hears p o k → P s st k

-- this is the step of the jobs, of each such state at each such look
abbrev pub Acts : PartsView → PartsView → Contents → Option StoredParts → Option Contents → ClockSet → Settings → ℕ → ℕ → Option Done → Type 0
Acts was now c known contents clock settings time number o = WhereActed was c known clock settings time number o (λ s st k. Steps job_step now contents s st k o)

-- ---- what is left of rows and ends

-- the rows are those after the entry, and the ends took and sent its frames; also where the store doesn't tell its contents
pub record Leaves (number : ℕ) (was now : PartsView) (d : Done) : Type 0 where
  pub holds : now.table.holds ≡ holds_after was.table.holds d.kind
  pub bars : (key : List ℕ) → bar_at now.table key ≡ bar_after key (bar_at was.table key) d.kind
  pub numbers : All (λ h. h.number < number + 1) now.table.holds
  pub ends : AreAfter was.links now.links d.taken d.sent

-- the ends are those after a step, if there is one
abbrev pub EndsAfter : List EndView → List EndView → Option Done → Type 0
EndsAfter was now None = now ≡ was
EndsAfter was now (Some d) = AreAfter was now d.taken d.sent

abbrev pub LeavesSo : ℕ → PartsView → PartsView → Option Done → Type 0
LeavesSo number was now None = now ≡ was
LeavesSo number was now (Some d) = Leaves number was now d
