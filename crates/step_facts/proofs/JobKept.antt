-- No entry changes which job a running job is, nor its slot: the running jobs are those of the past's own list.
use Rattle.std.proofs.Common.{◌≡◌, ℕ, Bool, true, false, List, [], ◌∷◌, Option, Some, None, refl, ap, ◌∙◌}
use Rattle.std.specs.Prelude.{if◌then◌else◌, ◌==◌, filter, map, not}
use Rattle.annex_base.specs.declared.kinds.Call.{Call}
use Rattle.annex_base.specs.declared.kinds.Call.TheVariants.{Unhold, PutFile}
use Rattle.annex_base.proofs.Conditions.{if_either}
use Rattle.drop_proof.specs.declared.rule.Side.{Side}
use Rattle.drop_proof.specs.declared.rule.Side.TheVariants.{Remote}
use Rattle.run_data.specs.declared.entry.Entry.{Entry}
use Rattle.run_data.specs.declared.entry.EntryKind.{EntryKind}
use Rattle.run_data.specs.declared.entry.EntryKind.TheVariants.{Begin, Gain, Share, Bar, Gone, Crash, Fault, End as ends_job}
use Rattle.run_data.specs.declared.entry.FrameView.{FrameView}
use Rattle.run_data.specs.declared.entry.FrameText.{FrameText}
use Rattle.run_data.specs.declared.entry.FrameText.TheVariants.{Line}
use Rattle.run_data.specs.declared.job.Outcome.{Outcome}
use Rattle.run_data.specs.declared.job.Outcome.TheVariants as outcomes
use Rattle.run_data.specs.declared.job.DropRefusal.TheVariants as refusals
use Rattle.run_data.specs.declared.job.Cause.TheVariants as causes
use Rattle.node_model.specs.Sessions.{line_in}
use Rattle.node_model.specs.Slots.{RunningJob, job_of}
use Rattle.run_model.specs.Past.{is_of, jobs, jobs_after}
use Rattle.node_model.specs.Rows.{option_is}
use Rattle.p2p_wire.specs.declared.message.Message.{Message}
use Rattle.p2p_wire.specs.declared.message.Message.TheVariants.{AlreadyHave, Data, Error, Failure, Success, Version}
use Rattle.p2p_wire.specs.Messages.{message_of}
use Rattle.node_model.specs.Ends.{end_after}
use Rattle.node_model.specs.Jobs
use Rattle.node_model.specs.Jobs.{AsksLock, AsksLook, Drops, Fresh, GetsData, GetsWord, Gets, Greets, Orders, Part, Phase, Puts, PutsAnswer, PutsOffer, RowsAndEnds, Work, claims, closed_part, fault_of, fault_phase, first_look, after_gain, hears_frame, job_end, learns, listens, quiet, running_job, says, says_some, sends, talks, talks_on, target_of, after_frame, after_line, after_transfer, after_failed_release, word_taken, work_after, work_kind, works_after}
use Rattle.run_model.specs.States.{rows_at, works}

-- it is the same job
abbrev pub Same : Work → Work → Type 0
Same w x = running_job x ≡ running_job w

-- ---- where its part stays too

-- it is the same job, at the same part
abbrev pub Stays : Work → Work → Type 0
Stays w x = Same w x × (x.part ≡ w.part)

pub closed_stays : (r : ℕ) (w : Work) (peer : ℕ) (part : Part) → Stays w (closed_part r w peer part)
closed_stays r w peer Gets = (refl, refl)
closed_stays r w peer Puts = (refl, refl)
closed_stays r w peer Drops =
    if_either (Stays w) (target_of r w == peer) (Jobs.to_phase w (Jobs.Ends (outcomes.Refused (refusals.Lost (Jobs.is_ordered w.phase))))) (Jobs.hears w peer (Jobs.Lacks causes.Closed))
    (λ e. (refl, refl)) (λ e. (refl, refl))

word_stays : (w : Work) (word : Option Message) (phase : Phase) → Stays w (word_taken w word phase)
word_stays w word (GetsWord peer start size) = (refl, refl)
word_stays w word phase = (refl, refl)

says_stays : (w : Work) (time peer : ℕ) (taken : Option Message) (m : Message) → Stays w (says w time peer taken m)
says_stays w time peer taken Failure = word_stays w taken w.phase
says_stays w time peer taken m = (refl, refl)

some_stays : (w : Work) (time peer : ℕ) (taken m : Option Message) → Stays w (says_some w time peer taken m)
some_stays w time peer taken None = (refl, refl)
some_stays w time peer taken (Some m) = says_stays w time peer taken m

pub sends_stays : (w : Work) (time peer : ℕ) (taken : Option Message) (body : FrameText) → Stays w (sends w time peer taken body)
sends_stays w time peer taken (Line text) = some_stays w time peer taken (message_of text)
sends_stays w time peer taken body = (refl, refl)

phase_stays : (r : ℕ) (w : Work) (part : Part) (side : Side) (phase : Phase) → Stays w (fault_phase r w part side phase)
phase_stays r w Drops Remote Fresh = (refl, refl)
phase_stays r w part side phase = (refl, refl)

unreleased_stays : (w : Work) (time : ℕ) (phase : Phase) → Stays w (after_failed_release w time phase)
unreleased_stays w time Jobs.AsksTime = (refl, refl)
unreleased_stays w time phase = (refl, refl)

pub fault_stays : (r : ℕ) (w : Work) (time : ℕ) (call : Call) → Stays w (fault_of r w time call)
fault_stays r w time PutFile = (refl, refl)
fault_stays r w time Unhold = unreleased_stays w time w.phase
fault_stays r w time call = phase_stays r w w.part (Jobs.side_of w) w.phase

-- ---- what a job hears

transferred_kept : (w : Work) (o : Outcome) → Same w (after_transfer w o)
transferred_kept w o = if_either (Same w) (Jobs.is_move w.what.kind) (record w { part = Drops; phase = Fresh; fills = false }) (record w { phase = Jobs.Ends o; fills = false }) (λ e. refl) (λ e. refl)

listens_kept : (w : Work) (phase : Phase) (m : Message) → Same w (listens w phase m)
listens_kept w (AsksLock peer since) Success = refl
listens_kept w (AsksLook peer) Success = refl
listens_kept w (AsksLook peer) Failure = refl
listens_kept w Orders Success = refl
listens_kept w Orders Failure = refl
listens_kept w (Greets peer) (Version n) = refl
listens_kept w (GetsData peer start) (Data n) = refl
listens_kept w (PutsOffer peer) AlreadyHave = transferred_kept w (outcomes.Copied None)
listens_kept w (PutsOffer peer) (Error text) = refl
listens_kept w (PutsOffer peer) Failure = refl
listens_kept w (PutsAnswer peer start) Success = transferred_kept w (outcomes.Copied (Some start))
listens_kept w (PutsAnswer peer start) Failure = refl
listens_kept w phase m = refl

line_kept : (w : Work) (m : Option Message) → Same w (after_line w m)
line_kept w None = refl
line_kept w (Some m) = listens_kept w w.phase m

took_kept : (w : Work) (body : FrameText) → Same w (after_frame w body)
took_kept w (Line text) = line_kept w (message_of text)
took_kept w body = refl

first_kept : (r : ℕ) (w : Work) (part : Part) (here : Bool) (bar : Option ℕ) → Same w (first_look r w part here bar)
first_kept r w Gets true bar = transferred_kept w (outcomes.Got None None)
first_kept r w part here bar = refl

quiet_kept : (rows : RowsAndEnds) (r : ℕ) (w : Work) (phase : Phase) → Same w (quiet rows r w phase)
quiet_kept rows r w Fresh = first_kept r w w.part (rows.present w.what.key) (rows.bar w.what.key)
quiet_kept rows r w phase = refl

hears_kept : (rows : RowsAndEnds) (r : ℕ) (w : Work) (taken : Option FrameView) → Same w (hears_frame rows r w taken)
hears_kept rows r w None = quiet_kept rows r w w.phase
hears_kept rows r w (Some f) = took_kept w f.body

talks_kept : (rows : RowsAndEnds) (r : ℕ) (w : Work) (e : Entry) (fs : List FrameView) → Same w (talks rows r w e fs)
talks_kept rows r w e (f ∷ fs) = (sends_stays w e.time f.peer (Jobs.taken_message e.taken) f.body).0
talks_kept rows r w e [] = hears_kept rows r w e.taken

on_kept : (rows : RowsAndEnds) (r : ℕ) (w : Work) (e : Entry) (p : Option ℕ) → Same w (talks_on rows r w e p)
on_kept rows r w e None = talks_kept rows r w e e.sent
on_kept rows r w e (Some peer) =
    if_either (Same w) (end_after (job_end w peer) (rows.ends (job_end w peer)) e).opened (talks rows r w e e.sent) (closed_part r w peer w.part)
    (λ h. talks_kept rows r w e e.sent) (λ h. (closed_stays r w peer w.part).0)

pub claims_kept : (w : Work) (part : Part) (phase : Phase) → Same w (claims w part phase)
claims_kept w Gets Fresh = refl
claims_kept w part phase = refl

pub learns_kept : (w : Work) (phase : Phase) (taken : Option FrameView) → Same w (learns w phase taken)
learns_kept w (Greets peer) (Some f) = go (option_is w.what.peer peer)
  where
    go : (b : Bool) → Same w (if b then record w { version = Jobs.version_said w.version (line_in f.body) } else w)
    go true = refl
    go false = refl
learns_kept w phase taken = refl

gained_kept : (w : Work) (phase : Phase) → Same w (after_gain w phase)
gained_kept w (GetsWord peer start size) = transferred_kept w (outcomes.Got (Some peer) (Some start))
gained_kept w phase = refl

pub kind_kept : (rows : RowsAndEnds) (r : ℕ) (w : Work) (e : Entry) (kind : EntryKind) → Same w (work_kind rows r w e kind)
kind_kept rows r w e (Fault call owner) = (fault_stays r w e.time call).0
kind_kept rows r w e (Bar job need key) = refl
kind_kept rows r w e (Share hold end owner key) = refl
kind_kept rows r w e (Gone source key) = refl
kind_kept rows r w e (Gain source size key) = gained_kept w w.phase
kind_kept rows r w e kind =
    let x = claims w w.part w.phase in
    on_kept rows r (learns x w.phase e.taken) e (Jobs.partner w.what.peer w.phase) ∙ learns_kept x w.phase e.taken ∙ claims_kept w w.part w.phase

pub after_kept : (rows : RowsAndEnds) (r : ℕ) (e : Entry) (w : Work) → Same w (work_after rows r e w)
after_kept rows r e w = if_either (Same w) (option_is (job_of e.kind) w.number) (work_kind rows r w e e.kind) w (λ h. kind_kept rows r w e e.kind) (λ h. refl)

all_kept : (rows : RowsAndEnds) (r : ℕ) (e : Entry) (ws : List Work) → map running_job (map (work_after rows r e) ws) ≡ map running_job ws
all_kept rows r e [] = refl
all_kept rows r e (w ∷ ws) =
    ap (λ (x : RunningJob). x ∷ map running_job (map (work_after rows r e) ws)) (after_kept rows r e w) ∙ ap (λ (xs : List RunningJob). running_job w ∷ xs) (all_kept rows r e ws)

filter_kept : (job : ℕ) (ws : List Work) → map running_job (filter (λ w. not (w.number == job)) ws) ≡ filter (λ j. not (j.number == job)) (map running_job ws)
filter_kept job [] = refl
filter_kept job (w ∷ ws) = go (filter_kept job ws) (w.number == job) refl
  where
    go : map running_job (filter (λ w. not (w.number == job)) ws) ≡ filter (λ j. not (j.number == job)) (map running_job ws) → (b : Bool) → (w.number == job) ≡ b
        → map running_job (filter (λ w. not (w.number == job)) (w ∷ ws)) ≡ filter (λ j. not (j.number == job)) (running_job w ∷ map running_job ws)
    go more true is = rw is more
    go more false is = rw is (ap (λ (xs : List RunningJob). running_job w ∷ xs) more)

works_kept : (rows : RowsAndEnds) (r : ℕ) (ws : List Work) (e : Entry) (kind : EntryKind) → map running_job (works_after rows r ws e kind) ≡ jobs_after (map running_job ws) kind
works_kept rows r ws e (Begin job what) = refl
works_kept rows r ws e (ends_job job outcome) = filter_kept job ws
works_kept rows r ws e (Crash clock) = refl
works_kept rows r ws e kind = all_kept rows r e ws

pub jobs_are : (past : List Entry) (r : ℕ) → map running_job (works past r) ≡ jobs past r
jobs_are [] r = refl
jobs_are (e ∷ past) r = go (jobs_are past r) (is_of r e) refl
  where
    go : map running_job (works past r) ≡ jobs past r → (b : Bool) → is_of r e ≡ b → map running_job (works (e ∷ past) r) ≡ jobs (e ∷ past) r
    go same true is = rw is (works_kept (rows_at past r) r (works past r) e e.kind ∙ ap (λ js. jobs_after js e.kind) same)
    go same false is = rw is same
