-- For proofs, which are the claims: entries and frames in one line each, and what is claimed of them (own).
use Rattle.std.specs.Prelude.{◌≡◌, ℕ, Bool, true, false, ◌==◌, ◌&&◌, if◌then◌else◌, not, List, [], ◌∷◌, Option, Some, None}
use Rattle.std.specs.List.{list_any}
use Rattle.std.specs.Option.{option_map}
use Rattle.annex_base.specs.declared.kinds.Call.{Call}
use Rattle.annex_base.specs.declared.kinds.Word.{Word}
use Rattle.drop_proof.specs.declared.rule.Need.{Need}
use Rattle.run_data.specs.declared.entry.Entry.{Entry}
use Rattle.run_data.specs.declared.entry.EntryKind.{EntryKind}
use Rattle.run_data.specs.declared.entry.FrameText.{FrameText}
use Rattle.run_data.specs.declared.entry.FrameView.{FrameView}
use Rattle.run_data.specs.declared.job.Job.{Job}
use Rattle.run_data.specs.declared.job.JobKind.{JobKind}
use Rattle.run_data.specs.declared.job.Proof.{Proof}
use Rattle.run_data.specs.declared.run.RepoView.{RepoView}
use Rattle.node_model.specs.SetUp.{SetUp}
use Rattle.node_model.specs.Ends.{EndName}
use Rattle.node_model.specs.Look.{Look, Effect, as_told}
use Rattle.node_model.specs.AnyTime.{close_at, closes_all}
use Rattle.node_model.specs.Step.{step}
use Rattle.run_model.specs.States.{state_of}

-- ---- entries

abbrev pub entry : ℕ → ℕ → Option ℕ → EntryKind → Option FrameView → List FrameView → List (List ℕ) → Entry
entry time count repo kind taken sent lines = record { time = time; count = count; repo = repo; kind = kind; taken = taken; sent = sent; lines = lines }

-- frames from a client to a server, and back: the other end, the slot, the epoch, the number and the body
abbrev pub up : ℕ → ℕ → ℕ → ℕ → FrameText → FrameView
up peer slot epoch seq body = record { peer = peer; slot = slot; up = true; epoch = epoch; seq = seq; body = body }

abbrev pub down : ℕ → ℕ → ℕ → ℕ → FrameText → FrameView
down peer slot epoch seq body = record { peer = peer; slot = slot; up = false; epoch = epoch; seq = seq; body = body }

abbrev pub job : JobKind → List ℕ → Option (List ℕ) → Option ℕ → Job
job kind key path peer = record { kind = kind; key = key; path = path; peer = peer }

abbrev pub need : ℕ → ℕ → Need
need n m = record { n = n; m = m }

abbrev pub proof : Need → List ℕ → List ℕ → List ℕ → Proof
proof need locked trusted recent = record { need = need; locked = locked; trusted = trusted; recent = recent }

-- ---- repositories

abbrev pub repository : List ℕ → List ℕ → ℕ → ℕ → Bool → RepoView
repository name id offset version locks = record { name = name; id = id; offset = offset; version = version; locks = locks }

-- the paths of a job's key, of those that are given
abbrev pub paths_in : List (ℕ × List (List ℕ)) → ℕ → List (List ℕ)
paths_in [] j = []
paths_in (x ∷ xs) j = if x.0 == j then x.1 else paths_in xs j

abbrev pub set_up : ℕ → List RepoView → List (ℕ × List (List ℕ)) → SetUp
set_up number repos paths = record { number = number; repos = repos; paths = paths_in paths }

-- ---- claims

abbrev pub end : ℕ → ℕ → Bool → EndName
end peer slot client = record { peer = peer; slot = slot; client = client }

abbrev pub same_end : EndName → EndName → Bool
same_end a b = (a.peer == b.peer) && (a.slot == b.slot) && (if a.client then b.client else not b.client)

-- room at all ends but these
abbrev pub room_but : List EndName → EndName → Bool
room_but full a = not (list_any (same_end a) full)

abbrev pub words_of : List (ℕ × Word) → ℕ → Option Word
words_of [] c = None
words_of (w ∷ ws) c = if w.0 == c then Some w.1 else words_of ws c

abbrev pub made_of : Entry → Effect
made_of e = record { kind = e.kind; taken = e.taken; sent = e.sent; lines = e.lines; calls = [] }

-- the entry is the step, with these frames at hand, room but at these ends, the store call that fails, the size of the part that
-- is asked for and whether it matches its key, and the words beside the job's answers
abbrev pub Makes : SetUp → List Entry → List FrameView → List EndName → Option Call → ℕ → Bool → List (ℕ × Word) → Entry → Type 0
Makes s past hand full fails part right words e =
    let look : Look = record { time = e.time; count = e.count; at_hand = hand; room = room_but full; fails = fails; part = part; right = right; words = words_of words } in
    option_map as_told (step s (state_of s past) look) ≡ Some (made_of e)

-- there is no step, with these frames at hand and room everywhere
abbrev pub IsIdle : SetUp → List Entry → List FrameView → Type 0
IsIdle s past hand =
    let look : Look = record { time = 0; count = 0; at_hand = hand; room = room_but []; fails = None; part = 0; right = false; words = words_of [] } in
    step s (state_of s past) look ≡ None

-- the entry sends what the close of this end sends, and what a crash sends
abbrev pub Closes : SetUp → List Entry → Entry → EndName → Type 0
Closes s past e a = e.sent ≡ close_at s (state_of s past) a

abbrev pub Crashes : SetUp → List Entry → Entry → Type 0
Crashes s past e = e.sent ≡ closes_all s (state_of s past)
