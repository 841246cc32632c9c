-- How an entry moves its job: it stays the same job, and comes past a drop's first step only from that drop.
use Rattle.std.proofs.Common.{◌≡◌, ℕ, Bool, true, false, List, [], ◌∷◌, Option, Some, None, refl, sym, ◌∙◌}
use Rattle.std.specs.Prelude.{if◌then◌else◌, ◌==◌}
use Rattle.std.proofs.lemmas.Bool.{false≢true}
use Rattle.annex_base.specs.declared.kinds.Call.{Call}
use Rattle.annex_base.specs.declared.kinds.Call.TheVariants.{Unhold, PutFile}
use Rattle.annex_base.proofs.Conditions.{if_either}
use Rattle.drop_proof.specs.declared.rule.Side.{Side}
use Rattle.drop_proof.specs.declared.rule.Side.TheVariants.{Remote}
use Rattle.run_data.specs.declared.entry.Entry.{Entry}
use Rattle.run_data.specs.declared.entry.EntryKind.{EntryKind}
use Rattle.run_data.specs.declared.entry.EntryKind.TheVariants.{Gain, Share, Bar, Gone, Fault}
use Rattle.run_data.specs.declared.entry.FrameView.{FrameView}
use Rattle.run_data.specs.declared.entry.FrameText.{FrameText}
use Rattle.run_data.specs.declared.entry.FrameText.TheVariants.{Opening, Closing, Bytes, Line}
use Rattle.run_data.specs.declared.job.Outcome.{Outcome}
use Rattle.run_data.specs.declared.job.Outcome.TheVariants.{Got, Copied, Refused}
use Rattle.run_data.specs.declared.job.DropRefusal.TheVariants as refusals
use Rattle.run_data.specs.declared.job.Cause.TheVariants as causes
use Rattle.node_model.specs.After.{has_read}
use Rattle.node_model.specs.Ends.{end_after}
use Rattle.node_model.specs.Rows.{option_is}
use Rattle.node_model.specs.Sessions.{line_in}
use Rattle.node_model.specs.Slots.{job_of}
use Rattle.p2p_wire.specs.declared.message.Message.{Message}
use Rattle.p2p_wire.specs.declared.message.Message.TheVariants.{AlreadyHave, Data, Error, Failure, Success, Version}
use Rattle.p2p_wire.specs.Messages.{message_of}
use Rattle.node_model.specs.Jobs
use Rattle.node_model.specs.Jobs.{AsksLock, AsksLook, Drops, Ends, Fresh, GetsData, GetsWord, Gets, Greets, Next, Orders, Part, Phase, Puts, PutsAnswer, PutsOffer, RowsAndEnds, Work, claims, closed_part, fault_of, fault_phase, first_look, after_gain, hears_frame, is_move, job_end, learns, listens, partner, quiet, running_job, says, says_some, sends, side_of, talks, talks_on, target_of, to_phase, after_frame, after_line, after_transfer, after_failed_release, word_taken, work_after, work_kind}

-- ---- parts

past_drops : (part : Part) (phase : Phase) → has_read part phase ≡ true → part ≡ Drops
past_drops Gets phase h = absurd cc
past_drops Puts phase h = absurd cc
past_drops Drops phase h = refl

-- it is the same job, and where it is past a drop's first step it was at that drop
pub record GoesOn (w x : Work) : Type 0 where
  pub job : running_job x ≡ running_job w
  pub drops : has_read x.part x.phase ≡ true → w.part ≡ Drops

in_part : (w x : Work) → running_job x ≡ running_job w → x.part ≡ w.part → GoesOn w x
in_part w x job part = record { job = job; drops = λ h. sym part ∙ past_drops x.part x.phase h }

stays : (w : Work) → GoesOn w w
stays w = in_part w w refl refl

phased : (w : Work) (phase : Phase) → GoesOn w (to_phase w phase)
phased w phase = in_part w (to_phase w phase) refl refl

-- ---- what a step makes of it

transferred : (w : Work) (o : Outcome) → GoesOn w (after_transfer w o)
transferred w o = if_either (GoesOn w) (is_move w.what.kind) (record w { part = Drops; phase = Fresh; fills = false }) (record w { phase = Ends o; fills = false })
    (λ e. record { job = refl; drops = λ h. absurd (false≢true h) }) (λ e. in_part w (record w { phase = Ends o; fills = false }) refl refl)

closed_goes : (r : ℕ) (w : Work) (peer : ℕ) (part : Part) → GoesOn w (closed_part r w peer part)
closed_goes r w peer Gets = in_part w _ refl refl
closed_goes r w peer Puts = in_part w _ refl refl
closed_goes r w peer Drops = if_either (GoesOn w) (target_of r w == peer) (to_phase w (Ends (Refused (refusals.Lost (Jobs.is_ordered w.phase))))) (Jobs.hears w peer (Jobs.Lacks causes.Closed))
    (λ e. in_part w _ refl refl) (λ e. in_part w _ refl refl)

word_goes : (w : Work) (word : Option Message) (phase : Phase) → GoesOn w (word_taken w word phase)
word_goes w word (GetsWord peer start size) = in_part w _ refl refl
word_goes w word phase = stays w

says_goes : (w : Work) (time peer : ℕ) (taken : Option Message) (m : Message) → GoesOn w (says w time peer taken m)
says_goes w time peer taken Failure = word_goes w taken w.phase
says_goes w time peer taken m = in_part w _ refl refl

some_goes : (w : Work) (time peer : ℕ) (taken m : Option Message) → GoesOn w (says_some w time peer taken m)
some_goes w time peer taken None = stays w
some_goes w time peer taken (Some m) = says_goes w time peer taken m

sends_goes : (w : Work) (time peer : ℕ) (taken : Option Message) (body : FrameText) → GoesOn w (sends w time peer taken body)
sends_goes w time peer taken Opening = phased w _
sends_goes w time peer taken Closing = stays w
sends_goes w time peer taken (Bytes n) = phased w _
sends_goes w time peer taken (Line text) = some_goes w time peer taken (message_of text)

listens_goes : (w : Work) (phase : Phase) (m : Message) → GoesOn w (listens w phase m)
listens_goes w (AsksLock peer since) Success = in_part w _ refl refl
listens_goes w (AsksLook peer) Success = in_part w _ refl refl
listens_goes w (AsksLook peer) Failure = in_part w _ refl refl
listens_goes w Orders Success = phased w _
listens_goes w Orders Failure = phased w _
listens_goes w (Greets peer) (Version n) = phased w _
listens_goes w (GetsData peer start) (Data n) = phased w _
listens_goes w (PutsOffer peer) AlreadyHave = transferred w (Copied None)
listens_goes w (PutsOffer peer) (Error text) = phased w _
listens_goes w (PutsOffer peer) Failure = phased w _
listens_goes w (PutsAnswer peer start) Success = transferred w (Copied (Some start))
listens_goes w (PutsAnswer peer start) Failure = phased w _
listens_goes w phase m = stays w

line_goes : (w : Work) (m : Option Message) → GoesOn w (after_line w m)
line_goes w None = stays w
line_goes w (Some m) = listens_goes w w.phase m

took_goes : (w : Work) (body : FrameText) → GoesOn w (after_frame w body)
took_goes w (Bytes n) = phased w _
took_goes w (Line text) = line_goes w (message_of text)
took_goes w body = stays w

first_goes : (r : ℕ) (w : Work) (part : Part) (here : Bool) (bar : Option ℕ) → GoesOn w (first_look r w part here bar)
first_goes r w Gets true bar = transferred w (Got None None)
first_goes r w Drops here bar = in_part w _ refl refl
first_goes r w part here bar = phased w _

quiet_goes : (rows : RowsAndEnds) (r : ℕ) (w : Work) (phase : Phase) → GoesOn w (quiet rows r w phase)
quiet_goes rows r w Fresh = first_goes r w w.part (rows.present w.what.key) (rows.bar w.what.key)
quiet_goes rows r w Next = phased w _
quiet_goes rows r w phase = stays w

hears_goes : (rows : RowsAndEnds) (r : ℕ) (w : Work) (taken : Option FrameView) → GoesOn w (hears_frame rows r w taken)
hears_goes rows r w None = quiet_goes rows r w w.phase
hears_goes rows r w (Some f) = took_goes w f.body

talks_goes : (rows : RowsAndEnds) (r : ℕ) (w : Work) (e : Entry) (fs : List FrameView) → GoesOn w (talks rows r w e fs)
talks_goes rows r w e (f ∷ fs) = sends_goes w e.time f.peer (Jobs.taken_message e.taken) f.body
talks_goes rows r w e [] = hears_goes rows r w e.taken

on_goes : (rows : RowsAndEnds) (r : ℕ) (w : Work) (e : Entry) (p : Option ℕ) → GoesOn w (talks_on rows r w e p)
on_goes rows r w e None = talks_goes rows r w e e.sent
on_goes rows r w e (Some peer) =
    if_either (GoesOn w) (end_after (job_end w peer) (rows.ends (job_end w peer)) e).opened (talks rows r w e e.sent) (closed_part r w peer w.part)
    (λ h. talks_goes rows r w e e.sent) (λ h. closed_goes r w peer w.part)

unreleased_goes : (w : Work) (time : ℕ) (phase : Phase) → GoesOn w (after_failed_release w time phase)
unreleased_goes w time Jobs.AsksTime = phased w _
unreleased_goes w time phase = stays w

fault_goes : (r : ℕ) (w : Work) (part : Part) (side : Side) (phase : Phase) → GoesOn w (fault_phase r w part side phase)
fault_goes r w Drops Remote Fresh = in_part w _ refl refl
fault_goes r w part side phase = phased w _

call_goes : (r : ℕ) (w : Work) (time : ℕ) (call : Call) → GoesOn w (fault_of r w time call)
call_goes r w time PutFile = stays w
call_goes r w time Unhold = unreleased_goes w time w.phase
call_goes r w time call = fault_goes r w w.part (side_of w) w.phase

gained_goes : (w : Work) (phase : Phase) → GoesOn w (after_gain w phase)
gained_goes w (GetsWord peer start size) = transferred w (Got (Some peer) (Some start))
gained_goes w phase = stays w

-- ---- the job as it talks

-- it is the same job, at the same part
abbrev Same : Work → Work → Type 0
Same w x = (running_job x ≡ running_job w) × (x.part ≡ w.part)

claims_same : (w : Work) (part : Part) (phase : Phase) → Same w (claims w part phase)
claims_same w Gets Fresh = (refl, refl)
claims_same w part phase = (refl, refl)

learns_same : (w : Work) (phase : Phase) (taken : Option FrameView) → Same w (learns w phase taken)
learns_same w (Greets peer) (Some f) = go (option_is w.what.peer peer)
  where
    go : (b : Bool) → Same w (if b then record w { version = Jobs.version_said w.version (line_in f.body) } else w)
    go true = (refl, refl)
    go false = (refl, refl)
learns_same w phase taken = (refl, refl)

through : (w v x : Work) → Same w v → GoesOn v x → GoesOn w x
through w v x same goes = record { job = goes.job ∙ same.0; drops = λ h. sym same.1 ∙ goes.drops h }

talker_goes : (rows : RowsAndEnds) (r : ℕ) (w : Work) (e : Entry) (p : Option ℕ) → GoesOn w (talks_on rows r (learns (claims w w.part w.phase) w.phase e.taken) e p)
talker_goes rows r w e p =
    let v = claims w w.part w.phase in
    let x = learns v w.phase e.taken in
    through w v (talks_on rows r x e p) (claims_same w w.part w.phase) (through v x (talks_on rows r x e p) (learns_same v w.phase e.taken) (on_goes rows r x e p))

kind_goes : (rows : RowsAndEnds) (r : ℕ) (w : Work) (e : Entry) (kind : EntryKind) → GoesOn w (work_kind rows r w e kind)
kind_goes rows r w e (Fault call owner) = call_goes r w e.time call
kind_goes rows r w e (Bar job need key) = phased w _
kind_goes rows r w e (Share hold end owner key) = in_part w _ refl refl
kind_goes rows r w e (Gone source key) = phased w _
kind_goes rows r w e (Gain source size key) = gained_goes w w.phase
kind_goes rows r w e kind = talker_goes rows r w e (partner w.what.peer w.phase)

-- an entry, of this job or another
pub entry_goes : (rows : RowsAndEnds) (r : ℕ) (e : Entry) (w : Work) → GoesOn w (work_after rows r e w)
entry_goes rows r e w = if_either (GoesOn w) (option_is (job_of e.kind) w.number) (work_kind rows r w e e.kind) w (λ its. kind_goes rows r w e e.kind) (λ other. stays w)
