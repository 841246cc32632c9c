-- The repositories with which the jobs of a repository talk: those to which its entries send frames, and the peers of its jobs.
use Rattle.std.proofs.Common.{◌≡◌, ℕ, ◌+◌, ◌-◌, ◌<◌, Bool, true, false, not, ◌==◌, if◌then◌else◌, List, [], ◌∷◌, find, map, Option, Some, None, IfSome, refl}
use Rattle.annex_base.specs.declared.kinds.Call.{Call}
use Rattle.annex_base.specs.declared.kinds.Call.TheVariants.{PutFile, Unhold}
use Rattle.annex_base.specs.Lists.{Each}
use Rattle.annex_base.proofs.Conditions.{if_either}
use Rattle.annex_base.proofs.Lists.{Each-filter, Each-member, find_member}
use Rattle.drop_proof.specs.declared.rule.Side.{Side}
use Rattle.drop_proof.specs.declared.rule.Side.TheVariants.{Remote}
use Rattle.run_data.specs.declared.entry.Entry.{Entry}
use Rattle.run_data.specs.declared.entry.EntryKind.{EntryKind}
use Rattle.run_data.specs.declared.entry.EntryKind.TheVariants.{Bar, Begin, Crash, Fault, Gain, Gone, Share, Talk, End as ends_job}
use Rattle.run_data.specs.declared.entry.FrameText.{FrameText}
use Rattle.run_data.specs.declared.entry.FrameText.TheVariants.{Opening, Closing, Bytes, Line}
use Rattle.run_data.specs.declared.entry.FrameView.{FrameView}
use Rattle.run_data.specs.declared.job.Outcome.{Outcome}
use Rattle.run_data.specs.declared.job.Outcome.TheVariants.{Refused}
use Rattle.run_data.specs.declared.job.DropRefusal.TheVariants as refusals
use Rattle.run_data.specs.declared.job.Cause.TheVariants as causes
use Rattle.run_data.specs.declared.job.SourceCause.{SourceCause}
use Rattle.p2p_wire.specs.declared.message.Message.{Message}
use Rattle.p2p_wire.specs.declared.message.Message.TheVariants.{AlreadyHave, CheckPresent, Data, Error, Failure, Get, GetTimestamp, LockContent, Put, PutFrom, Remove, RemoveBefore, Success, Valid, Version}
use Rattle.p2p_wire.specs.Messages.{message_of}
use Rattle.node_model.specs.Ends.{end_after}
use Rattle.node_model.specs.Jobs as jobs
use Rattle.node_model.specs.Jobs.{AsksLock, AsksLook, AsksTime, Drops, Ends, Fresh, GetsBytes, GetsData, GetsWord, Gets, Greets, Next, Orders, Part, Phase, Puts, PutsAnswer, PutsBytes, PutsOffer, PutsWord, RowsAndEnds, Work, after_frame, after_gain, after_line, after_transfer, claims, closed_part, fails_with, fault_of, fault_phase, first_look, gets_bytes, gets_more, hears_frame, is_move, is_ordered, Lacks, job_end, learns, listens, new_work, partner, put_from, puts_answer, puts_bytes, puts_more, quiet, says, says_some, sends, side_of, stores_fault, talks, talks_on, target_of, to_phase, version_said, word_taken, work_after, work_kind, works_after, after_failed_release}
use Rattle.node_model.specs.Rows.{option_is}
use Rattle.node_model.specs.Sessions.{line_in}
use Rattle.node_model.specs.Slots.{job_of}
use Rattle.state_owed.specs.Changes.{TalksWithin, talker}
use Rattle.step_state.specs.Peers.{BeginsWithin}

-- it is one of so many
abbrev pub Has : ℕ → Option ℕ → Type 0
Has count peer = IfSome peer (λ p. p < count)

-- the peer in a phase
abbrev On : ℕ → Work → Phase → Type 0
On count w phase = Has count (partner w.what.peer phase)

-- ---- the parts of a step

moved : (count : ℕ) (w : Work) (phase : Phase) → TalksWithin count w → On count w phase → TalksWithin count (to_phase w phase)
moved count w phase is on = record { own = is.own; talks = on }

failed : (count : ℕ) (w : Work) (peer : ℕ) (cause : SourceCause) → TalksWithin count w → TalksWithin count (fails_with w peer cause)
failed count w peer cause is = record { own = is.own; talks = tt }

heard : (count : ℕ) (w : Work) (peer : ℕ) (x : jobs.Heard) → TalksWithin count w → TalksWithin count (jobs.hears w peer x)
heard count w peer x is = record { own = is.own; talks = tt }

transferred : (count : ℕ) (w : Work) (outcome : Outcome) → TalksWithin count w → TalksWithin count (after_transfer w outcome)
transferred count w outcome is =
    if_either (TalksWithin count) (is_move w.what.kind) (record w { part = Drops; phase = Fresh; fills = false }) (record w { phase = Ends outcome; fills = false })
    (λ b. record { own = is.own; talks = tt }) (λ b. record { own = is.own; talks = tt })

closed : (count r : ℕ) (w : Work) (peer : ℕ) (part : Part) → TalksWithin count w → TalksWithin count (closed_part r w peer part)
closed count r w peer Gets is = record { own = is.own; talks = tt }
closed count r w peer Puts is = record { own = is.own; talks = tt }
closed count r w peer Drops is = go (target_of r w == peer)
  where
    go : (b : Bool) → TalksWithin count (if b then to_phase w (Ends (Refused (refusals.Lost (is_ordered w.phase)))) else jobs.hears w peer (Lacks causes.Closed))
    go true = record { own = is.own; talks = tt }
    go false = record { own = is.own; talks = tt }

more_gets : (count : ℕ) (target : Option ℕ) (peer start size left : ℕ) → peer < count → Has count (partner target (gets_more peer start size left))
more_gets count target peer start size left is = if_either (λ phase. Has count (partner target phase)) (left == 0) (GetsWord peer start size) (GetsBytes peer start size left) (λ b. is) (λ b. is)

more_puts : (count : ℕ) (target : Option ℕ) (peer start at left : ℕ) → peer < count → Has count (partner target (puts_more peer start at left))
more_puts count target peer start at left is = if_either (λ phase. Has count (partner target phase)) (left == 0) (PutsWord peer start) (PutsBytes peer start at left) (λ b. is) (λ b. is)

put_on : (count : ℕ) (target : Option ℕ) (peer left : ℕ) (taken : Option Message) → peer < count → Has count (partner target (put_from peer left taken))
put_on count target peer left (Some (PutFrom start)) is = more_puts count target peer start start left is
put_on count target peer left taken is = is

answer_on : (count : ℕ) (target : Option ℕ) (phase : Phase) → Has count (partner target phase) → Has count (partner target (puts_answer phase))
answer_on count target (PutsWord peer start) on = on
answer_on count target phase on = on

gets_on : (count n : ℕ) (target : Option ℕ) (phase : Phase) → Has count (partner target phase) → Has count (partner target (gets_bytes n phase))
gets_on count n target (GetsBytes peer start size left) on = more_gets count target peer start (size + n) (left - n) on
gets_on count n target phase on = on

puts_on : (count n : ℕ) (target : Option ℕ) (phase : Phase) → Has count (partner target phase) → Has count (partner target (puts_bytes n phase))
puts_on count n target (PutsBytes peer start at left) on = more_puts count target peer start (at + n) (left - n) on
puts_on count n target phase on = on

word_on : (count : ℕ) (w : Work) (word : Option Message) (phase : Phase) → TalksWithin count w → TalksWithin count (word_taken w word phase)
word_on count w word (GetsWord peer start size) is = record { own = is.own; talks = tt }
word_on count w word phase is = is

-- ---- it says or sends

said : (count : ℕ) (w : Work) (time peer : ℕ) (taken : Option Message) (m : Message) → peer < count → TalksWithin count w → TalksWithin count (says w time peer taken m)
said count w time peer taken (Version n) low is = record { own = is.own; talks = low }
said count w time peer taken (Get n file key) low is = record { own = is.own; talks = low }
said count w time peer taken (Put file key) low is = record { own = is.own; talks = low }
said count w time peer taken (Data n) low is = record { own = is.own; talks = put_on count w.what.peer peer n taken low }
said count w time peer taken Valid low is = record { own = is.own; talks = answer_on count w.what.peer w.phase is.talks }
said count w time peer taken (LockContent key) low is = record { own = is.own; talks = low }
said count w time peer taken (CheckPresent key) low is = record { own = is.own; talks = low }
said count w time peer taken GetTimestamp low is = record { own = is.own; talks = is.own }
said count w time peer taken (Remove key) low is = record { own = is.own; talks = is.own }
said count w time peer taken (RemoveBefore n key) low is = record { own = is.own; talks = is.own }
said count w time peer taken Failure low is = word_on count w taken w.phase is
said count w time peer taken m low is = is

said_some : (count : ℕ) (w : Work) (time peer : ℕ) (taken m : Option Message) → peer < count → TalksWithin count w → TalksWithin count (says_some w time peer taken m)
said_some count w time peer taken None low is = is
said_some count w time peer taken (Some m) low is = said count w time peer taken m low is

sent : (count : ℕ) (w : Work) (time peer : ℕ) (taken : Option Message) (body : FrameText) → peer < count → TalksWithin count w → TalksWithin count (sends w time peer taken body)
sent count w time peer taken Opening low is = record { own = is.own; talks = low }
sent count w time peer taken Closing low is = is
sent count w time peer taken (Bytes n) low is = record { own = is.own; talks = puts_on count n w.what.peer w.phase is.talks }
sent count w time peer taken (Line text) low is = said_some count w time peer taken (message_of text) low is

-- ---- it takes

listened : (count : ℕ) (w : Work) (phase : Phase) (m : Message) → TalksWithin count w → On count w phase → TalksWithin count (listens w phase m)
listened count w (AsksLock peer since) Success is on = record { own = is.own; talks = tt }
listened count w (AsksLook peer) Success is on = record { own = is.own; talks = tt }
listened count w (AsksLook peer) Failure is on = record { own = is.own; talks = tt }
listened count w Orders Success is on = record { own = is.own; talks = tt }
listened count w Orders Failure is on = record { own = is.own; talks = tt }
listened count w (Greets peer) (Version n) is on = record { own = is.own; talks = tt }
listened count w (GetsData peer start) (Data n) is on = record { own = is.own; talks = more_gets count w.what.peer peer start start n on }
listened count w (PutsOffer peer) AlreadyHave is on = transferred count w _ is
listened count w (PutsOffer peer) (Error text) is on = record { own = is.own; talks = tt }
listened count w (PutsOffer peer) Failure is on = record { own = is.own; talks = tt }
listened count w (PutsAnswer peer start) Success is on = transferred count w _ is
listened count w (PutsAnswer peer start) Failure is on = record { own = is.own; talks = tt }
listened count w phase m is on = is

line_taken : (count : ℕ) (w : Work) (m : Option Message) → TalksWithin count w → TalksWithin count (after_line w m)
line_taken count w None is = is
line_taken count w (Some m) is = listened count w w.phase m is is.talks

frame_taken : (count : ℕ) (w : Work) (body : FrameText) → TalksWithin count w → TalksWithin count (after_frame w body)
frame_taken count w (Bytes n) is = record { own = is.own; talks = gets_on count n w.what.peer w.phase is.talks }
frame_taken count w (Line text) is = line_taken count w (message_of text) is
frame_taken count w body is = is

looked : (count r : ℕ) (w : Work) (part : Part) (here : Bool) (barred : Option ℕ) → TalksWithin count w → TalksWithin count (first_look r w part here barred)
looked count r w Gets true barred is = transferred count w _ is
looked count r w part here barred is = record { own = is.own; talks = tt }

quieted : (count : ℕ) (rows : RowsAndEnds) (r : ℕ) (w : Work) (phase : Phase) → TalksWithin count w → TalksWithin count (quiet rows r w phase)
quieted count rows r w Fresh is = looked count r w w.part (rows.present w.what.key) (rows.bar w.what.key) is
quieted count rows r w Next is = record { own = is.own; talks = tt }
quieted count rows r w phase is = is

took : (count : ℕ) (rows : RowsAndEnds) (r : ℕ) (w : Work) (taken : Option FrameView) → TalksWithin count w → TalksWithin count (hears_frame rows r w taken)
took count rows r w None is = quieted count rows r w w.phase is
took count rows r w (Some f) is = frame_taken count w f.body is

-- ---- it talks

talked : (count : ℕ) (rows : RowsAndEnds) (r : ℕ) (w : Work) (e : Entry) (fs : List FrameView) → Each (λ f. f.peer < count) fs → TalksWithin count w → TalksWithin count (talks rows r w e fs)
talked count rows r w e (f ∷ fs) low is = sent count w e.time f.peer (jobs.taken_message e.taken) f.body low.0 is
talked count rows r w e [] low is = took count rows r w e.taken is

talked_on : (count : ℕ) (rows : RowsAndEnds) (r : ℕ) (w : Work) (e : Entry) (peer : Option ℕ) → Each (λ f. f.peer < count) e.sent → TalksWithin count w → TalksWithin count (talks_on rows r w e peer)
talked_on count rows r w e None low is = talked count rows r w e e.sent low is
talked_on count rows r w e (Some peer) low is =
    if_either (TalksWithin count) ((end_after (job_end w peer) (rows.ends (job_end w peer)) e).opened) (talks rows r w e e.sent) (closed_part r w peer w.part)
    (λ b. talked count rows r w e e.sent low is) (λ b. closed count r w peer w.part is)

claimed : (count : ℕ) (w : Work) (part : Part) (phase : Phase) → TalksWithin count w → TalksWithin count (claims w part phase)
claimed count w Gets Fresh is = record { own = is.own; talks = is.talks }
claimed count w part phase is = is

learned : (count : ℕ) (w : Work) (phase : Phase) (taken : Option FrameView) → TalksWithin count w → TalksWithin count (learns w phase taken)
learned count w (Greets peer) (Some f) is =
    if_either (TalksWithin count) (option_is w.what.peer peer) (record w { version = version_said w.version (line_in f.body) }) w (λ b. record { own = is.own; talks = is.talks }) (λ b. is)
learned count w phase taken is = is

-- ---- a call of the store failed

faulted : (count r : ℕ) (w : Work) (part : Part) (side : Side) (phase : Phase) → TalksWithin count w → TalksWithin count (fault_phase r w part side phase)
faulted count r w Drops Remote Fresh is = record { own = is.own; talks = tt }
faulted count r w part side phase is = record { own = is.own; talks = tt }

released : (count : ℕ) (w : Work) (time : ℕ) (phase : Phase) → TalksWithin count w → TalksWithin count (after_failed_release w time phase)
released count w time AsksTime is = record { own = is.own; talks = tt }
released count w time phase is = is

fault_within : (count r : ℕ) (w : Work) (time : ℕ) (call : Call) → TalksWithin count w → TalksWithin count (fault_of r w time call)
fault_within count r w time PutFile is = is
fault_within count r w time Unhold is = released count w time w.phase is
fault_within count r w time call is = faulted count r w w.part (side_of w) w.phase is

gained : (count : ℕ) (w : Work) (phase : Phase) → TalksWithin count w → TalksWithin count (after_gain w phase)
gained count w (GetsWord peer start size) is = transferred count w _ is
gained count w phase is = is

-- ---- an entry

kind_within : (count : ℕ) (rows : RowsAndEnds) (r : ℕ) (w : Work) (e : Entry) (kind : EntryKind) → Each (λ f. f.peer < count) e.sent → TalksWithin count w → TalksWithin count (work_kind rows r w e kind)
kind_within count rows r w e (Fault call owner) low is = fault_within count r w e.time call is
kind_within count rows r w e (Bar job need key) low is = record { own = is.own; talks = tt }
kind_within count rows r w e (Share hold end owner key) low is = record { own = is.own; talks = tt }
kind_within count rows r w e (Gone source key) low is = record { own = is.own; talks = tt }
kind_within count rows r w e (Gain source size key) low is = gained count w w.phase is
kind_within count rows r w e kind low is =
    talked_on count rows r (learns (claims w w.part w.phase) w.phase e.taken) e (partner w.what.peer w.phase) low (learned count (claims w w.part w.phase) w.phase e.taken (claimed count w w.part w.phase is))

work_within : (count : ℕ) (rows : RowsAndEnds) (r : ℕ) (e : Entry) (w : Work) → Each (λ f. f.peer < count) e.sent → TalksWithin count w → TalksWithin count (work_after rows r e w)
work_within count rows r e w low is =
    if_either (TalksWithin count) (option_is (job_of e.kind) w.number) (work_kind rows r w e e.kind) w (λ b. kind_within count rows r w e e.kind low is) (λ b. is)

each_within : (count : ℕ) (rows : RowsAndEnds) (r : ℕ) (e : Entry) (ws : List Work) → Each (λ f. f.peer < count) e.sent → Each (TalksWithin count) ws → Each (TalksWithin count) (map (work_after rows r e) ws)
each_within count rows r e [] low all = tt
each_within count rows r e (w ∷ ws) low all = (work_within count rows r e w low all.0, each_within count rows r e ws low all.1)

-- the jobs after an entry talk with repositories among so many, where those before it do
pub works_within : (count : ℕ) (rows : RowsAndEnds) (r : ℕ) (ws : List Work) (e : Entry) (kind : EntryKind) → Each (λ f. f.peer < count) e.sent → BeginsWithin count kind
    → Each (TalksWithin count) ws → Each (TalksWithin count) (works_after rows r ws e kind)
works_within count rows r ws e (Begin job what) low begun all = (record { own = begun; talks = tt }, all)
works_within count rows r ws e (ends_job job outcome) low begun all = Each-filter (TalksWithin count) (λ w. not (w.number == job)) ws all
works_within count rows r ws e (Crash clock) low begun all = tt
works_within count rows r ws e kind low begun all = each_within count rows r e ws low all

-- ---- the job that talks

found_within : (count : ℕ) (ws : List Work) (job : ℕ) (found : Option Work) → find (λ w. w.number == job) ws ≡ found → Each (TalksWithin count) ws → IfSome found (TalksWithin count)
found_within count ws job None is all = tt
found_within count ws job (Some w) is all = Each-member (TalksWithin count) ws w all (find_member (λ w. w.number == job) ws w is).0

pub talker_within : (count : ℕ) (ws : List Work) (kind : EntryKind) → Each (TalksWithin count) ws → IfSome (talker ws kind) (TalksWithin count)
talker_within count ws (Talk (Some job)) all = found_within count ws job (find (λ w. w.number == job) ws) refl all
talker_within count ws kind all = tt
