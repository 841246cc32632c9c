-- The evidence of a drop (git-annex-numcopies and git-annex-mincopies; how it is gathered is own).
use Rattle.std.specs.Prelude.{ℕ, ◌+◌, Bool, true, false, not, ◌&&◌, ◌||◌, if◌then◌else◌, ◌==◌, List, [], ◌∷◌, ◌++◌, length, Option, Some, None, option_map}
use Rattle.std.specs.List.{list_any}
use Rattle.std.specs.Option.{option_or}
use Rattle.annex_base.specs.declared.kinds.Found.{Found}
use Rattle.annex_base.specs.declared.kinds.Found.TheVariants.{Present, Absent as found_absent, Barred as found_barred}
use Rattle.drop_proof.specs.declared.rule.Need.{Need}
use Rattle.drop_proof.specs.declared.evidence.Kind.TheVariants.{Locked, Trusted, Recent}
use Rattle.drop_proof.specs.declared.evidence.Evidence.{Evidence}
use Rattle.drop_proof.specs.declared.rule.Side.{Side}
use Rattle.run_data.specs.declared.entry.Entry.{Entry}
use Rattle.run_data.specs.declared.entry.By.{By}
use Rattle.run_data.specs.declared.entry.By.TheVariants.{Job as by_job, Peer}
use Rattle.run_data.specs.declared.entry.EntryKind.{EntryKind}
use Rattle.run_data.specs.declared.entry.EntryKind.TheVariants.{Share, Check, Close, Talk, End, Fault as fault_entry}
use Rattle.run_data.specs.declared.job.Cause.{Cause}
use Rattle.run_data.specs.declared.job.Cause.TheVariants.{Absent, Barred, Closed, Fault}
use Rattle.run_data.specs.declared.job.Job.{Job}
use Rattle.run_data.specs.declared.run.RepoView.{RepoView}
use Rattle.run_data.specs.Repos.{id_of}
use Rattle.run_data.specs.declared.entry.FrameView.{FrameView}
use Rattle.run_model.specs.Past.{bar, is_of, begun_job, jobs, clock}
use Rattle.node_model.specs.Rows.{is_lost_ordered}
use Rattle.node_model.specs.Slots.{RunningJob, job_of}
use Rattle.p2p_wire.specs.declared.message.Message.TheVariants.{CheckPresent, Failure}
use Rattle.run_model.specs.Said.{Said, Says, CloseIt, is_close, message_in}
use Rattle.run_model.specs.Frames.{SendingEntry, is_job, last_request, said_of, sender, up_of, way_of}
use Rattle.run_model.specs.Logs.{before_step, in_drop, is_step, read_at, settings_of}
use Rattle.node_model.specs.Jobs.{unshared_cause}
use Rattle.node_model.specs.Evidence.{Standing, Claimed, Ignored, Asked, standing_by, Offer, Gives, Fails, gather, candidates, reached_candidates}
use Rattle.node_model.specs.Clocks.{hold_time}

-- ---- what a repository says of its copy

-- a repository vouches for its copy to a job: by a hold, which the job asked for at this time, or by a look
pub data Vouch : Type 0 where
  Lock : (hold since : ℕ) (owner : By) (key : List ℕ) → Vouch
  Look : (key : List ℕ) → Vouch

abbrev pub key_of : Vouch → List ℕ
key_of (Lock hold since owner key) = key
key_of (Look key) = key

-- a look vouches where it found the content
abbrev pub look_of : Found → List ℕ → List Vouch
look_of Present key = Look key ∷ []
look_of _ key = []

-- the job that asked, and when
pub record Asker : Type 0 where
  pub repo : ℕ
  pub job : ℕ
  pub time : ℕ

-- job j of a asked
abbrev pub is_asker : ℕ → ℕ → Option Asker → Bool
is_asker a j None = false
is_asker a j (Some x) = (x.repo == a) && (x.job == j)

abbrev pub asked_at : Option Asker → ℕ
asked_at None = 0
asked_at (Some x) = x.time

abbrev pub asker_of : Option ℕ → Option ℕ → ℕ → Option Asker
asker_of (Some a) (Some j) time = Some (record { repo = a; job = j; time = time })
asker_of _ _ time = None

abbrev pub asker_by : Option SendingEntry → Option Asker
asker_by None = None
asker_by (Some s) = asker_of s.entry.repo (job_of s.entry.kind) s.entry.time

-- who asked for what the entry answers: the job whose entry sent the frame that the entry took
abbrev pub asker : List Entry → ℕ → Entry → Option Asker
asker past r e = asker_by (sender past r e.taken)

abbrev pub vouch_kind : ℕ → ℕ → ℕ → ℕ → Option Asker → EntryKind → List Vouch
vouch_kind r a j time asker (Share hold end (by_job i) key) = if (r == a) && (i == j) then Lock hold time (by_job i) key ∷ [] else []
vouch_kind r a j time asker (Share hold end (Peer p s) key) = if is_asker a j asker then Lock hold (asked_at asker) (Peer p s) key ∷ [] else []
vouch_kind r a j time asker (Check found key) = if is_asker a j asker then look_of found key else []
vouch_kind r a j time asker _ = []

-- what the entry, if it is one of r, vouches to job j of a
abbrev pub vouch : List Entry → Entry → ℕ → ℕ → ℕ → List Vouch
vouch past e r a j = if is_of r e then vouch_kind r a j e.time (asker past r e) e.kind else []

-- all that r vouched to job j of a, the newest first
abbrev pub vouches : List Entry → ℕ → ℕ → ℕ → List Vouch
vouches [] r a j = []
vouches (e ∷ past) r a j = vouch past e r a j ++ vouches past r a j

-- ---- what a job is told

abbrev pub newer : List Vouch → Option Vouch → Option Vouch
newer [] old = old
newer (v ∷ vs) old = Some v

-- what r vouched to job j of a by the entry that sent a frame
abbrev pub vouches_sent : ℕ → ℕ → ℕ → Option SendingEntry → List Vouch
vouches_sent r a j None = []
vouches_sent r a j (Some s) = vouch s.before s.entry r a j

-- what the entry tells job j of a of r's copy: the own share, or what was vouched by the entry whose frame it takes
abbrev pub tells : List Entry → Entry → ℕ → ℕ → ℕ → List Vouch
tells past e r a j = if r == a then vouch past e r a j else (if is_job a j e then vouches_sent r a j (sender past a e.taken) else [])

-- the last that job j of a was told of r's copy
abbrev pub reply : List Entry → ℕ → ℕ → ℕ → Option Vouch
reply [] a j r = None
reply (e ∷ past) a j r = newer (tells past e r a j) (reply past a j r)

-- why a look gives nothing
abbrev pub cause_of_found : Found → Option Cause
cause_of_found Present = None
cause_of_found found_absent = Some Absent
cause_of_found found_barred = Some Barred
cause_of_found _ = Some Fault

abbrev pub cause_of_kind : EntryKind → Option Cause
cause_of_kind (Check found key) = cause_of_found found
cause_of_kind _ = None

abbrev pub newer_cause : Option Cause → Option Cause → Option Cause
newer_cause None old = old
newer_cause (Some c) old = Some c

abbrev pub key_in : Option Job → List ℕ
key_in None = []
key_in (Some job) = job.key

abbrev pub option_is_none : {X : Type 0} → Option X → Bool
option_is_none None = true
option_is_none (Some x) = false

-- a cause that was not told counts as a fault
abbrev pub or_fault : Option Cause → Cause
or_fault None = Fault
or_fault (Some c) = c

-- what the entry that answered found, or a fault
abbrev pub cause_by_sender : Option SendingEntry → Cause
cause_by_sender None = Fault
cause_by_sender (Some s) = or_fault (cause_of_kind s.entry.kind)

-- a frame says why the server gives nothing: it closes the connection, or refuses a look that was asked for last
abbrev pub cause_said : Said → Option Said → Option SendingEntry → Option Cause
cause_said CloseIt asked s = Some Closed
cause_said (Says Failure) (Some (Says (CheckPresent key))) s = Some (cause_by_sender s)
cause_said _ _ s = None

abbrev pub cause_taken : List Entry → ℕ → ℕ → Option SendingEntry → Option FrameView → Option Cause
cause_taken past a r s None = None
cause_taken past a r s (Some f) = if (f.peer == r) && not f.up then cause_said (message_in f.body) (option_map said_of (last_request past (up_of (way_of a f)))) s else None

-- job j runs in the slot
abbrev pub in_slot : List RunningJob → ℕ → ℕ → Bool
in_slot js j slot = list_any (λ x. (x.number == j) && (x.slot == slot)) js

-- the client's end of a connection of job j with r is closed here
abbrev pub cause_closed : List RunningJob → ℕ → ℕ → EntryKind → Option Cause
cause_closed js j r (Close peer slot true) = if (peer == r) && in_slot js j slot then Some Closed else None
cause_closed js j r _ = None

-- a drop whose first step is no share of its own found its content barred or absent, or a store's fault. Where the logs claim or ignore its
-- own repository that step tries nothing; offer and cause_by go by the logs then, and read no such cause
abbrev pub cause_own : Option ℕ → EntryKind → Option Cause
cause_own barred (Talk job) = Some (unshared_cause barred)
cause_own barred (fault_entry call by) = Some Fault
cause_own barred _ = None

abbrev pub is_first_step : List Entry → ℕ → ℕ → Entry → Bool
is_first_step past a j e = is_of a e && is_step j e.kind && (in_drop past a j && option_is_none (before_step past a j))

-- the job's own entry closes its connection with r
abbrev pub shuts : ℕ → FrameView → Bool
shuts r g = (g.peer == r) && (g.up && is_close (message_in g.body))

-- why r gave nothing, as the entry says to job j of a, where s sent the frame that it took; whether there is a cause does not
-- depend on s
abbrev pub cause_with : List Entry → Entry → ℕ → ℕ → ℕ → Option SendingEntry → Option Cause
cause_with past e r a j s =
    if r == a then (if is_first_step past a j e then cause_own (bar past a (key_in (begun_job past a j))) e.kind else None)
    else (if is_job a j e then (if list_any (shuts r) e.sent then Some Closed else cause_taken past a r s e.taken) else None)

-- why r gave nothing, as the entry tells job j of a
abbrev pub tells_cause : List Entry → Entry → ℕ → ℕ → ℕ → Option Cause
tells_cause past e r a j = cause_with past e r a j (sender past a e.taken)

-- a close here tells a job that has not been told yet
abbrev pub or_closed : List Entry → Entry → ℕ → ℕ → ℕ → Option Cause → Option Cause
or_closed past e r a j old = option_or old (if is_of a e then cause_closed (jobs past a) j r e.kind else None)

-- the last that job j of a was told of why r gave nothing
abbrev pub told_cause : List Entry → ℕ → ℕ → ℕ → Option Cause
told_cause [] a j r = None
told_cause (e ∷ past) a j r = newer_cause (tells_cause past e r a j) (or_closed past e r a j (told_cause past a j r))

-- ---- the candidates and what they offer

-- how the logs see r, as job j of a reads them. Only a proof that names it opens this definition: laws hold whatever is read
unfoldable pub standing : List RepoView → List Entry → ℕ → ℕ → ℕ → Standing
standing repos past a j r =
    let read = read_at past a j in standing_by (settings_of read a) (key_in (begun_job read a j)) (id_of repos r)

-- a lock's item ends ten minutes after it was asked for, on the clock of the repository that asked. The clock at a time is that of
-- the past in which the drop judges: a crash would have ended the job, so it is the clock by which the job asked (race_core's OneClock)
abbrev pub vouch_offer : (ℕ → ℕ) → Option Vouch → Offer
vouch_offer clock None = Fails
vouch_offer clock (Some (Lock hold since owner key)) = Gives (Locked (clock since + hold_time))
vouch_offer clock (Some (Look key)) = Gives Recent

abbrev pub offer : (ℕ → ℕ) → Standing → Option Vouch → Offer
offer clock Claimed v = Gives Trusted
offer clock (Ignored cause) v = Fails
offer clock Asked v = vouch_offer clock v

-- what a candidate offers job j of a
abbrev pub offer_from : List RepoView → List Entry → ℕ → ℕ → ℕ → Offer
offer_from repos past a j r = offer (clock repos past a) (standing repos past a j r) (reply past a j r)

-- the candidate is to be asked, and the job has been told nothing of it yet: neither a vouch nor why there is none
abbrev pub is_waiting : {X Y : Type 0} → Standing → Option X → Option Y → Bool
is_waiting Asked None None = true
is_waiting _ _ _ = false

-- job j of a still waits for what r tells, up to the close of their connection, which is a cause too; its own repository it has tried before
-- it asks any other
abbrev pub waits : List RepoView → List Entry → ℕ → ℕ → ℕ → Bool
waits repos past a j r = not (r == a) && is_waiting (standing repos past a j r) (reply past a j r) (told_cause past a j r)

-- the evidence of job j of a, a drop from the target: what the candidates gave before the first for which it waits
abbrev pub evidence : Side → List RepoView → List Entry → ℕ → ℕ → ℕ → Need → List Evidence
evidence side repos past a j target need =
    gather side need (offer_from repos past a j) (reached_candidates (waits repos past a j) (candidates side (length repos) a target)) []

-- ---- what a drop's outcome says

abbrev pub cause_by : Standing → Option Cause → Cause
cause_by (Ignored cause) told = cause
cause_by Claimed told = or_fault told
cause_by Asked told = or_fault told

-- why a candidate gave job j of a nothing
abbrev pub candidate_cause : List RepoView → List Entry → ℕ → ℕ → ℕ → Cause
candidate_cause repos past a j r = cause_by (standing repos past a j r) (told_cause past a j r)

-- the job's end, other than after a lost order, is among the entries
abbrev pub done_kind : ℕ → EntryKind → Bool
done_kind j (End job outcome) = (job == j) && not (is_lost_ordered outcome)
done_kind j _ = false

abbrev pub is_done : List Entry → ℕ → ℕ → Bool
is_done [] a j = false
is_done (e ∷ past) a j = (is_of a e && done_kind j e.kind) || is_done past a j
