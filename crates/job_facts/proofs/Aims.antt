-- A job comes to another part only by a move, whose transfer is done; so the target of a remote drop is another repository.
use Rattle.std.proofs.Common.{◌≡◌, ◌≢◌, ℕ, Bool, true, false, List, [], ◌∷◌, Option, Some, None, ◌⊎◌, inl, inr, refl, sym, ap, ◌∙◌, subst}
use Rattle.std.specs.Prelude.{◌==◌}
use Rattle.annex_base.specs.declared.kinds.Call.{Call}
use Rattle.annex_base.specs.declared.kinds.Call.TheVariants.{Unhold, PutFile}
use Rattle.drop_proof.specs.declared.rule.Side.{Side}
use Rattle.drop_proof.specs.declared.rule.Side.TheVariants.{Remote, Local}
use Rattle.run_data.specs.declared.entry.Entry.{Entry}
use Rattle.run_data.specs.declared.entry.EntryKind.{EntryKind}
use Rattle.run_data.specs.declared.entry.EntryKind.TheVariants.{Begin, Gain, Share, Bar, Gone, Fault}
use Rattle.run_data.specs.declared.entry.FrameView.{FrameView}
use Rattle.run_data.specs.declared.entry.FrameText.{FrameText}
use Rattle.run_data.specs.declared.entry.FrameText.TheVariants.{Line}
use Rattle.run_data.specs.declared.job.Outcome.{Outcome}
use Rattle.run_data.specs.declared.job.Outcome.TheVariants as outcomes
use Rattle.run_data.specs.declared.job.DropRefusal.TheVariants as refusals
use Rattle.run_data.specs.declared.job.Cause.TheVariants as causes
use Rattle.node_model.specs.Slots.{RunningJob}
use Rattle.run_model.specs.Past.{is_of}
use Rattle.p2p_wire.specs.declared.message.Message.{Message}
use Rattle.p2p_wire.specs.declared.message.Message.TheVariants.{AlreadyHave, Data, Error, Failure, Success, Version}
use Rattle.p2p_wire.specs.Messages.{message_of}
use Rattle.node_model.specs.Ends.{end_after}
use Rattle.node_model.specs.Jobs
use Rattle.node_model.specs.Jobs.{AsksLock, AsksLook, Drops, Fresh, GetsData, GetsWord, Gets, Greets, Orders, Part, Phase, Puts, PutsAnswer, PutsOffer, RowsAndEnds, Work, claims, closed_part, fault_of, fault_phase, first_look, after_gain, hears_frame, job_end, learns, listens, quiet, running_job, says, says_some, sends, talks, talks_on, target_of, after_frame, after_line, after_transfer, after_failed_release, word_taken, work_kind, is_move, side_of, first_part}
use Rattle.run_model.specs.States.{rows_at, works, state_of}
use Rattle.annex_base.specs.Lists.{Member}
use Rattle.annex_base.specs.declared.kinds.Word.{Word}
use Rattle.annex_base.proofs.Conditions.{if_either}
use Rattle.run_data.specs.declared.job.Job.{Job}
use Rattle.run_data.specs.declared.job.JobKind.{JobKind}
use Rattle.run_data.specs.declared.job.JobKind.TheVariants as kinds
use Rattle.node_model.specs.SetUp.{SetUp}
use Rattle.node_model.specs.AnyTime.{IsPeer, MayCome}
use Rattle.run_model.specs.Run.{IsStep, OwnPart, OwnRun}
use Rattle.step_facts.proofs.JobKept.{claims_kept, kind_kept, learns_kept}
use Rattle.step_facts.proofs.StepFacts.{kind_found}
use Rattle.job_facts.proofs.PhaseFacts.{readies_place}
use Rattle.step_facts.proofs.JobSteps.{Origin, invariant}
use Rattle.job_facts.proofs.WorkFits.{step_runs}

-- it stays at its part, or is a move
abbrev Turns : Work → Work → Type 0
Turns w x = (x.part ≡ w.part) ⊎ (is_move w.what.kind ≡ true)

transferred_turns : (w : Work) (o : Outcome) → Turns w (after_transfer w o)
transferred_turns w o = if_either (Turns w) (Jobs.is_move w.what.kind) (record w { part = Drops; phase = Fresh; fills = false }) (record w { phase = Jobs.Ends o; fills = false }) (λ e. inr e) (λ e. inl refl)

closed_turns : (r : ℕ) (w : Work) (peer : ℕ) (part : Part) → Turns w (closed_part r w peer part)
closed_turns r w peer Gets = inl refl
closed_turns r w peer Puts = inl refl
closed_turns r w peer Drops =
    if_either (Turns w) (target_of r w == peer) (Jobs.to_phase w (Jobs.Ends (outcomes.Refused (refusals.Lost (Jobs.is_ordered w.phase))))) (Jobs.hears w peer (Jobs.Lacks causes.Closed)) (λ e. inl refl) (λ e. inl refl)

word_turns : (w : Work) (word : Option Message) (phase : Phase) → Turns w (word_taken w word phase)
word_turns w word (GetsWord peer start size) = inl refl
word_turns w word phase = inl refl

says_turns : (w : Work) (time peer : ℕ) (taken : Option Message) (m : Message) → Turns w (says w time peer taken m)
says_turns w time peer taken Failure = word_turns w taken w.phase
says_turns w time peer taken m = inl refl

says_some_turns : (w : Work) (time peer : ℕ) (taken m : Option Message) → Turns w (says_some w time peer taken m)
says_some_turns w time peer taken None = inl refl
says_some_turns w time peer taken (Some m) = says_turns w time peer taken m

sends_turns : (w : Work) (time peer : ℕ) (taken : Option Message) (body : FrameText) → Turns w (sends w time peer taken body)
sends_turns w time peer taken (Line text) = says_some_turns w time peer taken (message_of text)
sends_turns w time peer taken body = inl refl

listens_turns : (w : Work) (phase : Phase) (m : Message) → Turns w (listens w phase m)
listens_turns w (AsksLock peer since) Success = inl refl
listens_turns w (AsksLook peer) Success = inl refl
listens_turns w (AsksLook peer) Failure = inl refl
listens_turns w Orders Success = inl refl
listens_turns w Orders Failure = inl refl
listens_turns w (Greets peer) (Version n) = inl refl
listens_turns w (GetsData peer start) (Data n) = inl refl
listens_turns w (PutsOffer peer) AlreadyHave = transferred_turns w (outcomes.Copied None)
listens_turns w (PutsOffer peer) (Error text) = inl refl
listens_turns w (PutsOffer peer) Failure = inl refl
listens_turns w (PutsAnswer peer start) Success = transferred_turns w (outcomes.Copied (Some start))
listens_turns w (PutsAnswer peer start) Failure = inl refl
listens_turns w phase m = inl refl

line_turns : (w : Work) (m : Option Message) → Turns w (after_line w m)
line_turns w None = inl refl
line_turns w (Some m) = listens_turns w w.phase m

took_turns : (w : Work) (body : FrameText) → Turns w (after_frame w body)
took_turns w (Line text) = line_turns w (message_of text)
took_turns w body = inl refl

first_turns : (r : ℕ) (w : Work) (part : Part) (here : Bool) (bar : Option ℕ) → Turns w (first_look r w part here bar)
first_turns r w Gets true bar = transferred_turns w (outcomes.Got None None)
first_turns r w part here bar = inl refl

quiet_turns : (rows : RowsAndEnds) (r : ℕ) (w : Work) (phase : Phase) → Turns w (quiet rows r w phase)
quiet_turns rows r w Fresh = first_turns r w w.part (rows.present w.what.key) (rows.bar w.what.key)
quiet_turns rows r w phase = inl refl

hears_turns : (rows : RowsAndEnds) (r : ℕ) (w : Work) (taken : Option FrameView) → Turns w (hears_frame rows r w taken)
hears_turns rows r w None = quiet_turns rows r w w.phase
hears_turns rows r w (Some f) = took_turns w f.body

talks_turns : (rows : RowsAndEnds) (r : ℕ) (w : Work) (e : Entry) (fs : List FrameView) → Turns w (talks rows r w e fs)
talks_turns rows r w e (f ∷ fs) = sends_turns w e.time f.peer (Jobs.taken_message e.taken) f.body
talks_turns rows r w e [] = hears_turns rows r w e.taken

on_turns : (rows : RowsAndEnds) (r : ℕ) (w : Work) (e : Entry) (p : Option ℕ) → Turns w (talks_on rows r w e p)
on_turns rows r w e None = talks_turns rows r w e e.sent
on_turns rows r w e (Some peer) =
    if_either (Turns w) (end_after (job_end w peer) (rows.ends (job_end w peer)) e).opened (talks rows r w e e.sent) (closed_part r w peer w.part)
    (λ h. talks_turns rows r w e e.sent) (λ h. closed_turns r w peer w.part)

fault_turns : (r : ℕ) (w : Work) (part : Part) (side : Side) (phase : Phase) → Turns w (fault_phase r w part side phase)
fault_turns r w Drops Remote Fresh = inl refl
fault_turns r w part side phase = inl refl

unreleased_turns : (w : Work) (time : ℕ) (phase : Phase) → Turns w (after_failed_release w time phase)
unreleased_turns w time Jobs.AsksTime = inl refl
unreleased_turns w time phase = inl refl

call_turns : (r : ℕ) (w : Work) (time : ℕ) (call : Call) → Turns w (fault_of r w time call)
call_turns r w time PutFile = inl refl
call_turns r w time Unhold = unreleased_turns w time w.phase
call_turns r w time call = fault_turns r w w.part (Jobs.side_of w) w.phase

gained_turns : (w : Work) (phase : Phase) → Turns w (after_gain w phase)
gained_turns w (GetsWord peer start size) = transferred_turns w (outcomes.Got (Some peer) (Some start))
gained_turns w phase = inl refl

readies_kept : (w : Work) (taken : Option FrameView) → running_job (learns (claims w w.part w.phase) w.phase taken) ≡ running_job w
readies_kept w taken = learns_kept (claims w w.part w.phase) w.phase taken ∙ claims_kept w w.part w.phase

pub kind_turns : (rows : RowsAndEnds) (r : ℕ) (w : Work) (e : Entry) (kind : EntryKind) → Turns w (work_kind rows r w e kind)
kind_turns rows r w e (Fault call owner) = call_turns r w e.time call
kind_turns rows r w e (Bar job need key) = inl refl
kind_turns rows r w e (Share hold end owner key) = inl refl
kind_turns rows r w e (Gone source key) = inl refl
kind_turns rows r w e (Gain source size key) = gained_turns w w.phase
kind_turns rows r w e kind =
    let x = claims w w.part w.phase in
    let y = learns x w.phase e.taken in
    let place = readies_place w e.taken in
    let what : y.what ≡ w.what = ap (λ (j : RunningJob). j.what) (readies_kept w e.taken) in
    go y what place.0 (on_turns rows r y e (Jobs.partner w.what.peer w.phase))
  where
    go : (y : Work) → y.what ≡ w.what → y.part ≡ w.part → Turns y (talks_on rows r y e (Jobs.partner w.what.peer w.phase)) → Turns w (talks_on rows r y e (Jobs.partner w.what.peer w.phase))
    go y what part (inl p) = inl (p ∙ part)
    go y what part (inr m) = inr (subst (λ (q : Job). is_move q.kind ≡ true) what m)

-- the kinds of jobs that drop
abbrev pub can_drop : JobKind → Bool
can_drop kinds.Drop = true
can_drop kinds.MoveTo = true
can_drop kinds.MoveFrom = true
can_drop _ = false

pub move_drops : (kind : JobKind) → is_move kind ≡ true → can_drop kind ≡ true
move_drops kinds.MoveTo e = refl
move_drops kinds.MoveFrom e = refl
move_drops kinds.Drop e = absurd (cc)
move_drops kinds.Get e = absurd (cc)
move_drops kinds.Copy e = absurd (cc)

part_drops : (kind : JobKind) → first_part kind ≡ Drops → can_drop kind ≡ true
part_drops kinds.Drop e = refl
part_drops kinds.Get e = absurd (cc)
part_drops kinds.Copy e = absurd (cc)
part_drops kinds.MoveTo e = absurd (cc)
part_drops kinds.MoveFrom e = absurd (cc)

begins_peer : (s : SetUp) (past : List Entry) (words : ℕ → Option Word) (e : Entry) → OwnPart s past words e → (job : ℕ) (what : Job) → e.kind ≡ Begin job what → IsPeer s what.kind what.peer
begins_peer s past words e own job what is = elim (own.does) [
  | inl x ↦ absurd (steps x)
  | inr x ↦ (subst (MayCome s (state_of s past) e.lines e.sent) is x.may).0.peer
]
  where
    steps : IsStep s past words e → ⊥
    steps x = elim (kind_found s (state_of s past) x.look x.made (Begin job what) x.makes (sym (ap (λ (y : Entry). y.kind) x.is) ∙ is) (λ h. h)) [
      | inl y ↦ y.found
      | inr y ↦ y.found
    ]

-- a running job's peer is another repository, and only drops and moves drop
abbrev pub Aims : SetUp → Work → Type 0
Aims s w = IsPeer s w.what.kind w.what.peer × (w.part ≡ Drops → can_drop w.what.kind ≡ true)

aims_like : (s : SetUp) (v x : Work) → x.what ≡ v.what → Turns v x → Aims s v → Aims s x
aims_like s v x what turns a = (
  subst (λ (q : Job). IsPeer s q.kind q.peer) (sym what) a.0,
  λ part. subst (λ (q : Job). can_drop q.kind ≡ true) (sym what) (go turns part),
)
  where
    go : Turns v x → x.part ≡ Drops → can_drop v.what.kind ≡ true
    go (inl same) part = a.1 (sym same ∙ part)
    go (inr move) part = move_drops v.what.kind move

pub aims : (s : SetUp) (past : List Entry) → OwnRun s past → (w : Work) → Member w (works past s.number) → Aims s w
aims s past run w m = invariant s (λ p x. Aims s x) (λ p e is x n was. was) own past run w m
  where
    own : (p : List Entry) (e : Entry) → OwnRun s (e ∷ p) → is_of s.number e ≡ true → ((x : Work) → Member x (works p s.number) → Aims s x) → (x : Work) → Origin s p e x → Aims s x
    own p e r is was x (inl b) =
        let mine = r.0 is in
        subst (Aims s) (sym b.work_is) (begins_peer s p mine.0 e mine.1 b.job b.what b.kind_is, λ part. part_drops b.what.kind part)
    own p e r is was x (inr (inl b)) = was x b.ran
    own p e r is was x (inr (inr b)) =
        let v = b.by.w in
        let y = work_kind (rows_at p s.number) s.number v e e.kind in
        let what : y.what ≡ v.what = ap (λ (j : RunningJob). j.what) (kind_kept (rows_at p s.number) s.number v e e.kind) in
        subst (Aims s) (sym b.work_is) (aims_like s v y what (kind_turns (rows_at p s.number) s.number v e e.kind) (was v (step_runs s p e x b)))

-- the target of a remote drop is another repository
pub other_target : (s : SetUp) (w : Work) → Aims s w → w.part ≡ Drops → side_of w ≡ Remote → target_of s.number w ≢ s.number
other_target s w a part side = go w.what.kind w.what.peer a.0 (a.1 part) side
  where
    go : (kind : JobKind) (peer : Option ℕ) → IsPeer s kind peer → can_drop kind ≡ true → Jobs.drop_side kind peer ≡ Remote → Jobs.or_own s.number (Jobs.drop_side kind peer) peer ≢ s.number
    go kind (Some peer) is drops side = subst (λ d. Jobs.or_own s.number d (Some peer) ≢ s.number) (sym side) is.1
    go kinds.Drop None is drops side = absurd (let no_side : Local ≡ Remote = side in cc)
    go kinds.Get None is drops side = absurd (cc)
    go kinds.Copy None is drops side = absurd (cc)
    go kinds.MoveTo None is drops side = absurd (cc)
    go kinds.MoveFrom None is drops side = absurd (cc)
