-- Whether an entry is the step, by what it tells of who made it: no other session is looked at, and of the other jobs those alone of
-- earlier slots whose step nothing can hold back.
use Rattle.std.specs.Prelude.{ℕ, Bool, false, not, ◌&&◌, if◌then◌else◌, ◌==◌, List, [], ◌∷◌, find, Option, Some, None}
use Rattle.std.specs.List.{list_any}
use Rattle.annex_base.specs.declared.kinds.Word.{Word}
use Rattle.run_data.specs.declared.entry.Entry.{Entry}
use Rattle.run_data.specs.declared.entry.FrameView.{FrameView}
use Rattle.node_model.specs.Ends.{server_end}
use Rattle.node_model.specs.Jobs.{Work, partner}
use Rattle.node_model.specs.JobStep.{Turn, end_with, turn_of}
use Rattle.node_model.specs.Look.{Effect, Look}
use Rattle.node_model.specs.OwedLines.{OwedLine}
use Rattle.node_model.specs.OwedStep.{pays_first}
use Rattle.node_model.specs.SessionStep.{session_at}
use Rattle.node_model.specs.SetUp.{SetUp, served_connections, slots}
use Rattle.node_model.specs.Slots.{job_of}
use Rattle.node_model.specs.State.{State}
use Rattle.node_model.specs.Turns.{needs, slot_step}
use Rattle.step_judging.specs.Rules.{effect_of, is_effect, is_nil}
use Rattle.step_judging.specs.Telling.{look_of}

-- ---- a session

-- the client and the slot of the frame that is taken, or else of the first that is sent
abbrev pub connection_told : Option FrameView → List FrameView → Option (ℕ × ℕ)
connection_told (Some f) sent = Some (f.peer, f.slot)
connection_told None [] = None
connection_told None (f ∷ sent) = Some (f.peer, f.slot)

abbrev pub is_served : SetUp → ℕ × ℕ → Bool
is_served s c = list_any (λ d. (d.0 == c.0) && (d.1 == c.1)) (served_connections s)

abbrev pub session_told : SetUp → State → Look → Option (ℕ × ℕ) → Option Effect
session_told s st k None = None
session_told s st k (Some c) = if is_served s c then session_at s st k (server_end c.0 c.1) else None

-- ---- a job

-- a job has a step whatever is at hand and wherever there is room
abbrev pub is_forced : Turn → Option ℕ → Bool
is_forced t None = is_nil (needs t t.w.phase)
is_forced t (Some peer) = not (end_with t peer).opened

abbrev pub forced_in : SetUp → State → Look → Option Work → Bool
forced_in s st k None = false
forced_in s st k (Some w) = is_forced (turn_of s st k w) (partner w.what.peer w.phase)

-- the job in one of these slots, where those before it leave it its turn
abbrev pub told_in : SetUp → State → Look → Work → Effect → List ℕ → Bool
told_in s st k w m [] = false
told_in s st k w m (slot ∷ more) =
    if slot == w.slot then is_effect (slot_step s st k (Some w)) m
    else not (forced_in s st k (find (λ v. v.slot == slot) st.works)) && told_in s st k w m more

abbrev pub job_told : SetUp → State → Look → Effect → Option Work → Bool
job_told s st k m None = false
job_told s st k m (Some w) = told_in s st k w m slots

-- ---- the entry

abbrev pub other_told : SetUp → State → Look → Effect → Option ℕ → Bool
other_told s st k m None = is_effect (session_told s st k (connection_told m.taken m.sent)) m
other_told s st k m (Some j) = job_told s st k m (find (λ w. w.number == j) st.works)

abbrev pub effect_told : SetUp → State → Look → Effect → List OwedLine → Bool
effect_told s st k m [] = other_told s st k m (job_of m.kind)
effect_told s st k m (o ∷ os) = is_effect (pays_first s st k (o ∷ os)) m

abbrev pub is_told : SetUp → State → (ℕ → Option Word) → Entry → Bool
is_told s st words e = effect_told s st (look_of st words e) (effect_of e) st.owed
