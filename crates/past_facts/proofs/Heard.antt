-- What a job knows of the copies of others, by its repository's own entries alone: what it asked for, and what it took (own).
use Rattle.std.specs.Prelude.{ℕ, ◌+◌, Bool, not, ◌&&◌, if◌then◌else◌, ◌==◌, List, [], ◌∷◌, length, Option, Some, None}
use Rattle.drop_proof.specs.declared.evidence.Evidence.{Evidence}
use Rattle.drop_proof.specs.declared.evidence.Kind.TheVariants.{Locked, Trusted, Recent}
use Rattle.drop_proof.specs.declared.rule.Need.{Need}
use Rattle.drop_proof.specs.declared.rule.Side.{Side}
use Rattle.node_model.specs.Clocks.{hold_time}
use Rattle.run_data.specs.declared.entry.By.TheVariants.{Job as by_job}
use Rattle.run_data.specs.declared.entry.Entry.{Entry}
use Rattle.run_data.specs.declared.entry.EntryKind.{EntryKind}
use Rattle.run_data.specs.declared.entry.EntryKind.TheVariants.{Share}
use Rattle.run_data.specs.declared.entry.FrameView.{FrameView}
use Rattle.run_data.specs.declared.job.Cause.{Cause}
use Rattle.run_data.specs.declared.run.RepoView.{RepoView}
use Rattle.run_model.specs.Past.{is_of, clock}
use Rattle.p2p_wire.specs.declared.message.Message.TheVariants.{CheckPresent, LockContent, Success}
use Rattle.run_model.specs.Said.{Said, Says, message_in}
use Rattle.run_model.specs.Frames.{FlyingFrame, is_job, said_of, last_request, up_of, way_of}
use Rattle.node_model.specs.Evidence.{Standing, Claimed, Ignored, Asked, Offer, Gives, Fails, candidates, gather, reached_candidates}
use Rattle.run_model.specs.Drops.{cause_with, is_waiting, newer_cause, or_closed, standing}

-- a lock that it asked for at this time, or a look
pub data Heard : Type 0 where
  Locked_at : (since : ℕ) (key : List ℕ) → Heard
  Seen_there : (key : List ℕ) → Heard

abbrev pub heard_key : Heard → List ℕ
heard_key (Locked_at since key) = key
heard_key (Seen_there key) = key

-- what SUCCESS says to this request
abbrev pub heard_request : ℕ → Said → List Heard
heard_request time (Says (LockContent key)) = Locked_at time key ∷ []
heard_request time (Says (CheckPresent key)) = Seen_there key ∷ []
heard_request time _ = []

abbrev pub heard_answer : Said → Option FlyingFrame → List Heard
heard_answer (Says Success) (Some x) = heard_request x.entry.time (said_of x)
heard_answer _ _ = []

-- what a job of a hears of r by the frame that it takes: an answer is to the last request on its connection
abbrev pub heard_frame : List Entry → ℕ → ℕ → Option FrameView → List Heard
heard_frame past a r None = []
heard_frame past a r (Some f) = if (f.peer == r) && not f.up then heard_answer (message_in f.body) (last_request past (up_of (way_of a f))) else []

-- the job's own share
abbrev pub heard_kind : ℕ → ℕ → EntryKind → List Heard
heard_kind j time (Share hold end (by_job i) key) = if i == j then Locked_at time key ∷ [] else []
heard_kind j time _ = []

-- what job j of a hears of r's copy by the entry
abbrev pub hears : List Entry → Entry → ℕ → ℕ → ℕ → List Heard
hears past e r a j = if r == a then (if is_of a e then heard_kind j e.time e.kind else []) else (if is_job a j e then heard_frame past a r e.taken else [])

abbrev pub newer_heard : List Heard → Option Heard → Option Heard
newer_heard [] old = old
newer_heard (h ∷ hs) old = Some h

-- the last that job j of a heard of r's copy
abbrev pub heard : List Entry → ℕ → ℕ → ℕ → Option Heard
heard [] a j r = None
heard (e ∷ past) a j r = newer_heard (hears past e r a j) (heard past a j r)

-- that job j of a heard that r gave nothing; the cause beside a FAILURE is not its own knowledge
abbrev pub heard_cause : List Entry → ℕ → ℕ → ℕ → Option Cause
heard_cause [] a j r = None
heard_cause (e ∷ past) a j r = newer_cause (cause_with past e r a j None) (or_closed past e r a j (heard_cause past a j r))

-- ---- the evidence, as the job knows it

abbrev pub heard_offer : (ℕ → ℕ) → Option Heard → Offer
heard_offer clock None = Fails
heard_offer clock (Some (Locked_at since key)) = Gives (Locked (clock since + hold_time))
heard_offer clock (Some (Seen_there key)) = Gives Recent

abbrev pub known_offer : (ℕ → ℕ) → Standing → Option Heard → Offer
known_offer clock Claimed h = Gives Trusted
known_offer clock (Ignored cause) h = Fails
known_offer clock Asked h = heard_offer clock h

-- what a candidate offers, as job j of a knows
abbrev pub knows : List RepoView → List Entry → ℕ → ℕ → ℕ → Offer
knows repos past a j r = known_offer (clock repos past a) (standing repos past a j r) (heard past a j r)

-- job j of a has heard nothing of r yet, which it is to ask
abbrev pub still_waits : List RepoView → List Entry → ℕ → ℕ → ℕ → Bool
still_waits repos past a j r = not (r == a) && is_waiting (standing repos past a j r) (heard past a j r) (heard_cause past a j r)

-- the evidence of job j of a, a drop from the target, as it knows it
abbrev pub known_evidence : Side → List RepoView → List Entry → ℕ → ℕ → ℕ → Need → List Evidence
known_evidence side repos past a j target need =
    gather side need (knows repos past a j) (reached_candidates (still_waits repos past a j) (candidates side (length repos) a target)) []
