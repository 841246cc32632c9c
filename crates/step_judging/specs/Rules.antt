-- The rules of a run as tests of one entry: order and bounds, what its row needs, its repository's own part, and the frames.
use Rattle.std.specs.Prelude.{ℕ, ◌+◌, ◌*◌, ◌^◌, Bool, true, false, not, ◌&&◌, ◌||◌, if◌then◌else◌, ◌==◌, nat_lt, nat_le, List, [], ◌∷◌, length, Option, Some, None, is_none, is_some, slice_get}
use Rattle.std.specs.List.{list_all, list_any}
use Rattle.std.specs.Ordering.{is_lt}
use Rattle.annex_base.specs.Bools.{same_bool}
use Rattle.annex_base.specs.ByteOrder.{text_cmp}
use Rattle.annex_base.specs.Lines.{newline}
use Rattle.annex_base.specs.declared.kinds.Call.TheVariants.{Unhold}
use Rattle.annex_base.specs.declared.kinds.Word.{Word}
use Rattle.annex_key.specs.View.{first_fault, size_part}
use Rattle.log_lines.specs.declared.entry.LogKind.TheVariants as logs
use Rattle.union_merge.specs.LineSet.{has_line, is_empty}
use Rattle.run_data.specs.Files.{file_path, kind_of}
use Rattle.run_data.specs.Repos.{fits_size}
use Rattle.run_data.specs.declared.entry.By.TheVariants.{Script, Job as by_job, Peer}
use Rattle.run_data.specs.declared.entry.Entry.{Entry}
use Rattle.run_data.specs.declared.entry.EntryKind.{EntryKind}
use Rattle.run_data.specs.declared.entry.EntryKind.TheVariants.{Bar, Begin, Close, Compact, Crash, End, Fault, Gain, Gone, Log, Release, Share, Wait}
use Rattle.run_data.specs.declared.entry.FrameView.{FrameView}
use Rattle.run_data.specs.declared.entry.LogFile.{LogFile}
use Rattle.run_data.specs.declared.entry.LogFile.TheVariants.{Location, Of, Other}
use Rattle.run_data.specs.declared.job.Job.{Job}
use Rattle.run_data.specs.declared.job.JobKind.{JobKind}
use Rattle.p2p_wire.specs.declared.message.Message.{Message}
use Rattle.p2p_wire.specs.declared.message.Message.TheVariants.{RemoveBefore}
use Rattle.node_model.specs.AnyTime.{all_ends, close_at, closes_all, is_scripts, needs_peer}
use Rattle.node_model.specs.Ends.{EndName}
use Rattle.node_model.specs.Files.{compact_lines}
use Rattle.node_model.specs.Jobs.{taken_message}
use Rattle.node_model.specs.Look.{Effect}
use Rattle.node_model.specs.Rows.{is_blocked, option_is}
use Rattle.node_model.specs.SessionStep.{is_filled}
use Rattle.node_model.specs.SetUp.{SetUp}
use Rattle.node_model.specs.State.{State}
use Rattle.node_model.specs.Step.{step}
use Rattle.run_model.specs.Frames.{FlyingFrame, frames_sent, taken_count, way_of}
use Rattle.run_model.specs.Past.{now}
use Rattle.run_model.specs.Run.{repo_number}
use Rattle.run_model.specs.States.{state_of}
use Rattle.run_model.specs.Words.{word_told}
use Rattle.step_judging.specs.Same.{same_body, same_effect, same_frames}
use Rattle.run_laws.specs.Sound.{is_open_for, is_open_hold}
use Rattle.step_judging.specs.Telling.{look_of}

-- ---- 1: order and bounds

-- the entry comes after the newest
abbrev pub is_after : List Entry → Entry → Bool
is_after [] e = true
is_after (f ∷ past) e = nat_lt f.time e.time || (nat_lt f.count e.count || ((f.count == e.count) && nat_lt (repo_number f.repo) (repo_number e.repo)))

abbrev pub is_time : ℕ → Entry → EntryKind → Option ℕ → Bool
is_time before e (Wait ms) None = e.time == before + ms
is_time before e kind (Some r) = e.time == before
is_time before e kind None = false

abbrev pub is_small : EntryKind → Bool
is_small (Gain by size key) = nat_lt size (2 ^ 62)
is_small (Crash clock) = nat_le clock 100000000000
is_small kind = true

abbrev pub is_ordered : List Entry → Entry → Bool
is_ordered past e =
    is_after past e && is_time (now past) e e.kind e.repo && nat_le e.time 1000000000000 && nat_lt e.count (2 ^ 62) && is_small e.kind

-- ---- 2: what the row needs

-- the order that was taken is in time, where it has a deadline
abbrev pub is_in_time : ℕ → Option Message → Bool
is_in_time clock (Some (RemoveBefore n key)) = nat_lt clock (1000 * n)
is_in_time clock told = true

abbrev pub is_free : State → List ℕ → Bool
is_free st key = st.present key && is_none (st.bar key)

abbrev pub needs_row : State → ℕ → Option Message → EntryKind → Bool
needs_row st clock told (Share hold end by key) = is_free st key
needs_row st clock told (Release hold key) = list_any (is_open_hold hold key) st.holds
needs_row st clock told (Bar job need key) = is_free st key && not (is_blocked st.holds key clock)
needs_row st clock told (Gone (by_job j) key) = option_is (st.bar key) j
needs_row st clock told (Gone (Peer p s) key) = is_free st key && not (is_blocked st.holds key clock) && is_in_time clock told
needs_row st clock told (Fault Unhold by) = list_any (is_open_for by) st.holds
needs_row st clock told kind = true

-- the row has what the entry needs
abbrev pub has_row : State → Entry → Bool
has_row st e = needs_row st (st.clock e.time) (taken_message e.taken) e.kind

-- ---- 3: the repository's own part

abbrev pub effect_of : Entry → Effect
effect_of e = record { kind = e.kind; taken = e.taken; sent = e.sent; lines = e.lines; calls = [] }

abbrev pub is_effect : Option Effect → Effect → Bool
is_effect None m = false
is_effect (Some n) m = same_effect n m

-- the entry is the step for the look that it tells of
abbrev pub is_step : SetUp → State → (ℕ → Option Word) → Entry → Bool
is_step s st words e = is_effect (step s st (look_of st words e)) (effect_of e)

abbrev pub is_nil : {X : Type 0} → List X → Bool
is_nil [] = true
is_nil (x ∷ xs) = false

abbrev pub is_peer : SetUp → JobKind → Option ℕ → Bool
is_peer s kind None = not (needs_peer kind)
is_peer s kind (Some peer) = nat_lt peer (length s.repos) && not (peer == s.number)

abbrev pub may_begin : SetUp → State → ℕ → Job → Bool
may_begin s st job what = (job == st.begun + 1) && nat_lt (length st.works) 4 && is_peer s what.kind what.peer && is_none (first_fault what.key)

abbrev pub may_gain : SetUp → State → ℕ → List ℕ → Bool
may_gain s st size key = not (st.present key) && not (is_filled s st key) && fits_size (size_part key) size && nat_lt size (2 ^ 62)

abbrev pub is_one_line : List ℕ → Bool
is_one_line line = not (is_empty line) && list_all (λ b. not (b == newline)) line

abbrev pub has_path : LogFile → Bool
has_path (Location key) = is_none (first_fault key)
has_path (Of logs.Location) = false
has_path (Of kind) = true
has_path (Other name) = is_one_line name

-- lines in byte order, each once
abbrev pub is_rising : List (List ℕ) → Bool
is_rising [] = true
is_rising (x ∷ xs) = list_all (λ y. is_lt (text_cmp x y)) xs && is_rising xs

abbrev pub may_log : State → LogFile → List (List ℕ) → Bool
may_log st file lines =
    has_path file && is_some (kind_of file) && is_rising lines && list_all is_one_line lines && list_all (λ line. not (has_line (st.lines (file_path file)) line)) lines

abbrev pub may_compact : State → LogFile → Bool
may_compact st file = let was = st.lines (file_path file) in nat_lt (length (compact_lines (kind_of file) was)) (length was)

abbrev pub same_end : EndName → EndName → Bool
same_end a b = (a.peer == b.peer) && (a.slot == b.slot) && same_bool a.client b.client

-- an entry of this kind may come at any point, with these lines and these frames sent
abbrev pub may_come : SetUp → State → List (List ℕ) → List FrameView → EntryKind → Bool
may_come s st lines sent (Begin job what) = may_begin s st job what && is_nil lines && is_nil sent
may_come s st lines sent (Gain Script size key) = may_gain s st size key && is_nil lines && is_nil sent
may_come s st lines sent (Log file) = may_log st file lines && is_nil sent
may_come s st lines sent (Compact file) = may_compact st file && is_nil lines && is_nil sent
may_come s st lines sent (Fault call Script) = is_scripts call && is_nil lines && is_nil sent
may_come s st lines sent (Close peer slot client) =
    let a : EndName = record { peer = peer; slot = slot; client = client } in
    list_any (same_end a) (all_ends s) && (st.ends a).opened && is_nil lines && same_frames sent (close_at s st a)
may_come s st lines sent (Crash clock) = is_nil lines && same_frames sent (closes_all s st)
may_come s st lines sent _ = false

abbrev pub comes : SetUp → State → Entry → Bool
comes s st e = is_none e.taken && may_come s st e.lines e.sent e.kind

abbrev pub is_own : SetUp → State → (ℕ → Option Word) → Entry → Bool
is_own s st words e = nat_lt s.number (length s.repos) && (is_step s st words e || comes s st e)

abbrev pub only_waits : Entry → Bool
only_waits e = is_none e.taken && is_nil e.sent && is_nil e.lines

-- ---- 4: the frames

-- the frame is the one that was sent, as the next after this many
abbrev pub is_next : Option FlyingFrame → ℕ → FrameView → Bool
is_next None n f = false
is_next (Some x) n f = (f.seq == n + 1) && same_body x.frame.body f.body

abbrev pub may_take_next : List Entry → ℕ → Option FrameView → Bool
may_take_next past r None = true
may_take_next past r (Some f) = is_next (slice_get (frames_sent past (way_of r f)) (taken_count past (way_of r f))) (taken_count past (way_of r f)) f

-- ---- the rules

-- the words that the entry's job was told, where it ends
abbrev pub words_told : List Entry → ℕ → EntryKind → ℕ → Option Word
words_told past r (End j outcome) c = word_told past r j c
words_told past r kind c = None

-- the first rule that is broken, of those with these numbers, if one is
abbrev pub first_broken : List (ℕ × Bool) → Option ℕ
first_broken [] = None
first_broken (x ∷ xs) = if x.1 then first_broken xs else Some x.0

abbrev pub breaks : (ℕ → SetUp) → List Entry → Entry → Option ℕ → Option ℕ
breaks s past e None = first_broken ((1, is_ordered past e) ∷ (3, only_waits e) ∷ [])
breaks s past e (Some r) =
    let st = state_of (s r) past in
    first_broken ((1, is_ordered past e) ∷ (2, has_row st e) ∷ (3, is_own (s r) st (words_told past r e.kind) e) ∷ (4, may_take_next past r e.taken) ∷ [])

-- the first of the four rules that the entry breaks after these, if it breaks one
abbrev pub broken_rule : (ℕ → SetUp) → List Entry → Entry → Option ℕ
broken_rule s past e = breaks s past e e.repo

-- no entry breaks a rule after those before it
abbrev pub breaks_none : (ℕ → SetUp) → List Entry → Bool
breaks_none s [] = true
breaks_none s (e ∷ past) = breaks_none s past && is_none (broken_rule s past e)
