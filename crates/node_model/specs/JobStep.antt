-- The parts of a job's step that all jobs share: its frames, its store calls, its end.
use Rattle.std.specs.Prelude.{ℕ, ◌+◌, Bool, true, false, not, ◌&&◌, if◌then◌else◌, List, [], ◌∷◌, ◌++◌, filter, flat_map, Option, Some}
use Rattle.std.specs.List.{list_any, range_with_len}
use Rattle.node_model.specs.Evidence.{but}
use Rattle.run_data.specs.declared.row.Hold.{Hold}
use Rattle.node_model.specs.Knows.{Reading, reading}
use Rattle.node_model.specs.SessionStep.{is_filled}
use Rattle.annex_base.specs.declared.kinds.Call.{Call}
use Rattle.run_data.specs.declared.entry.EntryKind.{EntryKind}
use Rattle.run_data.specs.declared.entry.EntryKind.TheVariants.{Talk, Fault, End as ends_job}
use Rattle.run_data.specs.declared.entry.By.{By}
use Rattle.run_data.specs.declared.entry.By.TheVariants.{Job as by_job}
use Rattle.run_data.specs.declared.entry.FrameView.{FrameView}
use Rattle.run_data.specs.declared.entry.FrameText.{FrameText}
use Rattle.run_data.specs.declared.entry.FrameText.TheVariants.{Closing, Line}
use Rattle.run_data.specs.declared.job.Outcome.{Outcome}
use Rattle.node_model.specs.Rows.{is_lost_ordered, same_owner}
use Rattle.node_model.specs.SetUp.{SetUp}
use Rattle.p2p_wire.specs.declared.message.Message.{Message}
use Rattle.p2p_wire.specs.declared.message.Message.TheVariants.{UnlockContent}
use Rattle.p2p_wire.specs.Messages.{text_of}
use Rattle.node_model.specs.Ends.{End, EndName, frames}
use Rattle.node_model.specs.Jobs.{Heard, Held, Work, heard_of, job_end}
use Rattle.node_model.specs.State.{State}
use Rattle.node_model.specs.Look.{Look, Effect, failing_call, unless}
use Rattle.node_model.specs.Calls.{to_release}

-- what the step of a job reads
pub record Turn : Type 0 where
  pub read : Reading
  pub clock : ℕ → ℕ
  pub number : ℕ  -- of the entry that is to be made
  pub present : List ℕ → Bool
  pub bar : List ℕ → Option ℕ
  pub content : List ℕ → Option ℕ
  pub holds : List Hold
  pub filled : List ℕ → Bool
  pub ends : EndName → End
  pub look : Look
  pub w : Work

abbrev pub others_of : Turn → List ℕ
others_of t = but t.read.repo (range_with_len 0 t.read.count)

-- that of s
abbrev pub turn_of : SetUp → State → Look → Work → Turn
turn_of s st k w =
    record {
      read = reading s st w;
      clock = st.clock;
      number = st.made + 1;
      present = st.present;
      bar = st.bar;
      content = st.content;
      holds = st.holds;
      filled = is_filled s st;
      ends = st.ends;
      look = k;
      w = w;
    }

abbrev pub me : Turn → ℕ
me t = t.read.repo

abbrev pub key_of : Turn → List ℕ
key_of t = t.w.what.key

abbrev pub by_me : Turn → By
by_me t = by_job t.w.number

abbrev pub talk : Turn → EntryKind
talk t = Talk (Some t.w.number)

abbrev pub clock_of : Turn → ℕ
clock_of t = t.clock t.look.time

abbrev pub is_there : Turn → Bool
is_there t = t.present t.w.what.key

abbrev pub bar_there : Turn → Option ℕ
bar_there t = t.bar t.w.what.key

-- the job's end of its connection with a peer
abbrev pub end_with : Turn → ℕ → End
end_with t peer = t.ends (job_end t.w peer)

-- ---- what a step makes

abbrev pub sends_to : Turn → EntryKind → Option FrameView → ℕ → List FrameText → Effect
sends_to t kind taken peer bodies = record { kind = kind; taken = taken; sent = frames (job_end t.w peer) (end_with t peer) bodies; lines = []; calls = [] }

abbrev pub says_to : Turn → EntryKind → Option FrameView → ℕ → Message → Effect
says_to t kind taken peer m = sends_to t kind taken peer (Line (text_of m) ∷ [])

abbrev pub quietly : EntryKind → Option FrameView → Effect
quietly kind taken = record { kind = kind; taken = taken; sent = []; lines = []; calls = [] }

-- one of these store calls of the job fails, or else this is made
abbrev pub attempts : Turn → List Call → Option FrameView → Effect → Effect
attempts t cs taken made = record (unless (failing_call t.look.fails cs) (λ call. quietly (Fault call (by_me t)) taken) made) { calls = cs ++ made.calls }

-- a frame that is heard, and answered nothing
abbrev pub hears : Turn → FrameView → Effect
hears t f = quietly (talk t) (Some f)

-- a message that isn't permitted here is handled as Close, and closes the connection
abbrev pub wrong_message : Turn → FrameView → ℕ → Effect
wrong_message t f peer = sends_to t (talk t) (Some f) peer (Closing ∷ [])

-- ---- the end

-- the job has a share of its own repository that is open
abbrev pub owns_share : Turn → Bool
owns_share t = list_any (λ h. same_owner h.owner (by_me t) && not h.kept) t.holds

abbrev pub is_held : Option Heard → Bool
is_held (Some (Held since)) = true
is_held _ = false

-- the peer gave the job a lock
abbrev pub has_lock : Turn → ℕ → Bool
has_lock t peer = is_held (heard_of t.w peer)

-- the peers on whose open connections the job has locks
abbrev pub locked_peers : Turn → List ℕ
locked_peers t = filter (λ peer. has_lock t peer && (end_with t peer).opened) (others_of t)

-- what is sent to a peer at the end: the lock is given back, unless an order was lost, and the connection is closed
abbrev pub farewell : Turn → Bool → ℕ → Bool → List FrameText
farewell t lost peer false = []
farewell t lost peer true =
    (if has_lock t peer && not lost then Line (text_of (UnlockContent (key_of t))) ∷ [] else []) ++ Closing ∷ []

abbrev pub farewells : Turn → Bool → List FrameView
farewells t lost =
    flat_map (λ peer. frames (job_end t.w peer) (end_with t peer) (farewell t lost peer (end_with t peer).opened)) (others_of t)

-- the job ends so, by a step that may take a frame
abbrev pub ends : Turn → Option FrameView → Outcome → Effect
ends t taken outcome =
    attempts t (to_release (owns_share t && not (is_lost_ordered outcome))) taken
    (record { kind = ends_job t.w.number outcome; taken = taken; sent = farewells t (is_lost_ordered outcome); lines = []; calls = [] })

-- the ends on which such an end sends more than a Close
abbrev pub end_needs : Turn → Outcome → List ℕ
end_needs t outcome = if is_lost_ordered outcome then [] else locked_peers t
