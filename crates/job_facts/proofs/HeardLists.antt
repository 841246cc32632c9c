-- How an entry of a job changes the list of what it heard, and where the job stands as it does.
use Rattle.std.proofs.Common.{sym, ◌⊎◌, inl, inr, ◌≡◌, ℕ, Bool, true, false, List, [], ◌∷◌, Option, Some, None, refl, ap, ◌∙◌, subst, ◌≢◌}
use Rattle.std.specs.Prelude.{◌==◌}
use Rattle.annex_base.specs.declared.kinds.Call.{Call}
use Rattle.annex_base.specs.declared.kinds.Call.TheVariants.{Unhold, PutFile}
use Rattle.annex_base.proofs.Conditions.{if_either}
use Rattle.drop_proof.specs.declared.rule.Side.{Side}
use Rattle.drop_proof.specs.declared.rule.Side.TheVariants.{Remote}
use Rattle.run_data.specs.declared.entry.Entry.{Entry}
use Rattle.run_data.specs.declared.entry.EntryKind.{EntryKind}
use Rattle.run_data.specs.declared.entry.EntryKind.TheVariants.{Gain, Share, Bar, Gone, Fault}
use Rattle.run_data.specs.declared.entry.FrameView.{FrameView}
use Rattle.run_data.specs.declared.entry.FrameText.{FrameText}
use Rattle.run_data.specs.declared.entry.FrameText.TheVariants.{Line}
use Rattle.run_data.specs.declared.job.Outcome.{Outcome}
use Rattle.run_data.specs.declared.job.Outcome.TheVariants as outcomes
use Rattle.run_data.specs.declared.job.DropRefusal.TheVariants as refusals
use Rattle.run_data.specs.declared.job.Cause.TheVariants as causes
use Rattle.node_model.specs.Sessions.{line_in}
use Rattle.p2p_wire.specs.declared.message.Message.{Message}
use Rattle.p2p_wire.specs.declared.message.Message.TheVariants.{AlreadyHave, Data, Error, Failure, Success, Version}
use Rattle.p2p_wire.specs.Messages.{message_of}
use Rattle.node_model.specs.Ends.{end_after, EndName}
use Rattle.node_model.specs.Jobs
use Rattle.node_model.specs.Jobs.{AsksLock, AsksLook, Drops, Fresh, GetsData, GetsWord, Gets, Greets, Next, Orders, Part, Phase, Puts, PutsAnswer, PutsOffer, RowsAndEnds, Work, claims, closed_part, fault_of, fault_phase, first_look, after_gain, hears_frame, job_end, learns, listens, quiet, running_job, says, says_some, sends, talks, talks_on, target_of, unshared_cause, after_frame, after_line, after_transfer, after_failed_release, word_taken, work_kind}
use Rattle.run_data.specs.declared.entry.By.{By}
use Rattle.run_data.specs.declared.job.Cause.{Cause}
use Rattle.node_model.specs.Slots.{RunningJob}
use Rattle.node_model.specs.Rows.{option_is}
use Rattle.node_model.specs.JobStep.{Turn}
use Rattle.step_facts.proofs.ClientTurns.{talker, talker_phase}
use Rattle.step_facts.proofs.JobKept.{claims_kept, learns_kept}
use Rattle.job_facts.proofs.PhaseFacts.{readies_place}

-- the list is as it was
abbrev pub SameList : Work → Work → Type 0
SameList w x = x.heard ≡ w.heard

pub transferred_list : (w : Work) (o : Outcome) → SameList w (after_transfer w o)
transferred_list w o = if_either (SameList w) (Jobs.is_move w.what.kind) (record w { part = Drops; phase = Fresh; fills = false }) (record w { phase = Jobs.Ends o; fills = false }) (λ e. refl) (λ e. refl)

word_list : (w : Work) (word : Option Message) (phase : Phase) → SameList w (word_taken w word phase)
word_list w word (GetsWord peer start size) = refl
word_list w word phase = refl

says_list : (w : Work) (time peer : ℕ) (taken : Option Message) (m : Message) → SameList w (says w time peer taken m)
says_list w time peer taken Failure = word_list w taken w.phase
says_list w time peer taken m = refl

says_some_list : (w : Work) (time peer : ℕ) (taken m : Option Message) → SameList w (says_some w time peer taken m)
says_some_list w time peer taken None = refl
says_some_list w time peer taken (Some m) = says_list w time peer taken m

-- what a job sends changes no list
pub sends_list : (w : Work) (time peer : ℕ) (taken : Option Message) (body : FrameText) → SameList w (sends w time peer taken body)
sends_list w time peer taken (Line text) = says_some_list w time peer taken (message_of text)
sends_list w time peer taken body = refl

-- the frames of these phases are heard: of a lock that is given, of a look that finds the content or doesn't
pub record LockTold (w : Work) (phase : Phase) (m : Message) (x : Work) : Type 0 where
  pub peer : ℕ
  pub since : ℕ
  pub phase_is : phase ≡ AsksLock peer since
  pub told : m ≡ Success
  pub list : x.heard ≡ (peer, Jobs.Held since) ∷ w.heard

pub record LookTold (w : Work) (phase : Phase) (m : Message) (x : Work) : Type 0 where
  pub peer : ℕ
  pub phase_is : phase ≡ AsksLook peer
  pub told : ((m ≡ Success) × (x.heard ≡ (peer, Jobs.Seen) ∷ w.heard)) ⊎ ((m ≡ Failure) × (x.heard ≡ (peer, Jobs.Unseen) ∷ w.heard))

-- **a message changes the list in these phases alone**
pub listens_list : (w : Work) (phase : Phase) (m : Message) → SameList w (listens w phase m) ⊎ (LockTold w phase m (listens w phase m) ⊎ LookTold w phase m (listens w phase m))
listens_list w (AsksLock peer since) Success = inr (inl (record { peer = peer; since = since; phase_is = refl; told = refl; list = refl }))
listens_list w (AsksLook peer) Success = inr (inr (record { peer = peer; phase_is = refl; told = inl (refl, refl) }))
listens_list w (AsksLook peer) Failure = inr (inr (record { peer = peer; phase_is = refl; told = inr (refl, refl) }))
listens_list w Orders Success = inl refl
listens_list w Orders Failure = inl refl
listens_list w (Greets peer) (Version n) = inl refl
listens_list w (GetsData peer start) (Data n) = inl refl
listens_list w (PutsOffer peer) AlreadyHave = inl (transferred_list w (outcomes.Copied None))
listens_list w (PutsOffer peer) (Error text) = inl refl
listens_list w (PutsOffer peer) Failure = inl refl
listens_list w (PutsAnswer peer start) Success = inl (transferred_list w (outcomes.Copied (Some start)))
listens_list w (PutsAnswer peer start) Failure = inl refl
listens_list w phase m = inl refl

-- the connection on which the job stands is closed: it is heard of the peer, in a drop, unless that is the target
closed_change : (r : ℕ) (w : Work) (peer : ℕ) (part : Part)
    → SameList w (closed_part r w peer part) ⊎ ((part ≡ Drops) × ((target_of r w == peer) ≡ false) × ((closed_part r w peer part).heard ≡ (peer, Jobs.Lacks causes.Closed) ∷ w.heard))
closed_change r w peer Gets = inl refl
closed_change r w peer Puts = inl refl
closed_change r w peer Drops =
    if_either (λ (x : Work). SameList w x ⊎ ((Drops ≡ Drops) × ((target_of r w == peer) ≡ false) × (x.heard ≡ (peer, Jobs.Lacks causes.Closed) ∷ w.heard))) (target_of r w == peer)
    (Jobs.to_phase w (Jobs.Ends (outcomes.Refused (refusals.Lost (Jobs.is_ordered w.phase))))) (Jobs.hears w peer (Jobs.Lacks causes.Closed)) (λ e. inl refl) (λ e. inr (refl, e, refl))

-- ---- an entry of the job

-- it learns that its own repository gives nothing; or of the peer whose connection is closed
pub record OwnLacks (r : ℕ) (w x : Work) : Type 0 where
  pub cause : Cause
  pub first : w.phase ≡ Fresh
  pub part_is : w.part ≡ Drops
  pub later : x.phase ≡ Next
  pub list : x.heard ≡ (r, Jobs.Lacks cause) ∷ w.heard

pub record ClosedAt (rows : RowsAndEnds) (r : ℕ) (w : Work) (e : Entry) (x : Work) : Type 0 where
  pub peer : ℕ
  pub on : Jobs.partner w.what.peer w.phase ≡ Some peer
  pub shut : (end_after (job_end w peer) (rows.ends (job_end w peer)) e).opened ≡ false
  pub no_target : (target_of r w == peer) ≡ false
  pub part_is : w.part ≡ Drops
  pub list : x.heard ≡ (peer, Jobs.Lacks causes.Closed) ∷ w.heard

-- or of its partner, by the frame that it takes
pub record FrameTold (w : Work) (e : Entry) (x : Work) : Type 0 where
  pub f : FrameView
  pub takes_it : e.taken ≡ Some f
  pub sends_none : e.sent ≡ []
  pub m : Message
  pub says_it : line_in f.body ≡ Some m
  pub told : LockTold w w.phase m x ⊎ LookTold w w.phase m x

-- the four ways of a list
abbrev pub Changed : RowsAndEnds → ℕ → Work → Entry → Work → Type 0
Changed rows r w e x = SameList w x ⊎ (OwnLacks r w x ⊎ (ClosedAt rows r w e x ⊎ FrameTold w e x))

-- the same for a work that talks, which has the list, the place and the phase of w
pub record Talker (w y : Work) : Type 0 where
  pub list : y.heard ≡ w.heard
  pub part_is : y.part ≡ w.part
  pub phase_is : y.phase ≡ w.phase
  pub same : running_job y ≡ running_job w

first_change : (r : ℕ) (y : Work) (part : Part) (here : Bool) (bar : Option ℕ) → y.phase ≡ Fresh → y.part ≡ part → SameList y (first_look r y part here bar) ⊎ OwnLacks r y (first_look r y part here bar)
first_change r y Gets true bar first is = inl (transferred_list y (outcomes.Got None None))
first_change r y Drops here bar first is = inr (record { cause = unshared_cause bar; first = first; part_is = is; later = refl; list = refl })
first_change r y part here bar first is = inl refl

quiet_change : (rows : RowsAndEnds) (r : ℕ) (y : Work) (phase : Phase) → y.phase ≡ phase → SameList y (quiet rows r y phase) ⊎ OwnLacks r y (quiet rows r y phase)
quiet_change rows r y Fresh first = first_change r y y.part (rows.present y.what.key) (rows.bar y.what.key) first refl
quiet_change rows r y phase first = inl refl

own_changed : (rows : RowsAndEnds) (r : ℕ) (w y : Work) (e : Entry) (x : Work) → Talker w y → SameList y x ⊎ OwnLacks r y x → Changed rows r w e x
own_changed rows r w y e x s (inl same) = inl (same ∙ s.list)
own_changed rows r w y e x s (inr own) = inr (inl (record { cause = own.cause; first = sym s.phase_is ∙ own.first; part_is = sym s.part_is ∙ own.part_is; later = own.later; list = own.list ∙ ap (λ (hs : List (ℕ × Jobs.Heard)). (r, Jobs.Lacks own.cause) ∷ hs) s.list }))

frame_changed : (rows : RowsAndEnds) (r : ℕ) (w y : Work) (e : Entry) (f : FrameView) (m : Message) → Talker w y → e.taken ≡ Some f → e.sent ≡ [] → line_in f.body ≡ Some m → Changed rows r w e (listens y y.phase m)
frame_changed rows r w y e f m s takes sends says_it = elim (listens_list y y.phase m) [ inl same ↦ inl (same ∙ s.list) | inr told ↦ inr (inr (inr (record { f = f; takes_it = takes; sends_none = sends; m = m; says_it = says_it; told = as_w told }))) ]
  where
    as_w : LockTold y y.phase m (listens y y.phase m) ⊎ LookTold y y.phase m (listens y y.phase m) → LockTold w w.phase m (listens y y.phase m) ⊎ LookTold w w.phase m (listens y y.phase m)
    as_w (inl t) = inl (record { peer = t.peer; since = t.since; phase_is = sym s.phase_is ∙ t.phase_is; told = t.told; list = t.list ∙ ap (λ (hs : List (ℕ × Jobs.Heard)). (t.peer, Jobs.Held t.since) ∷ hs) s.list })
    as_w (inr t) = inr (record {
      peer = t.peer;
      phase_is = sym s.phase_is ∙ t.phase_is;
      told = elim (t.told) [
        | inl a ↦ inl (a.0, a.1 ∙ ap (λ (hs : List (ℕ × Jobs.Heard)). (t.peer, Jobs.Seen) ∷ hs) s.list)
        | inr a ↦ inr (a.0, a.1 ∙ ap (λ (hs : List (ℕ × Jobs.Heard)). (t.peer, Jobs.Unseen) ∷ hs) s.list)
      ];
    })

took_changed : (rows : RowsAndEnds) (r : ℕ) (w y : Work) (e : Entry) (f : FrameView) → Talker w y → e.taken ≡ Some f → e.sent ≡ [] → (body : FrameText) → f.body ≡ body → Changed rows r w e (after_frame y body)
took_changed rows r w y e f s takes sends (Line text) is = line (message_of text) (ap line_in is)
  where
    line : (m : Option Message) → line_in f.body ≡ m → Changed rows r w e (after_line y m)
    line None h = inl s.list
    line (Some m) h = frame_changed rows r w y e f m s takes sends h
took_changed rows r w y e f s takes sends body is = inl s.list

talks_changed : (rows : RowsAndEnds) (r : ℕ) (w y : Work) (e : Entry) → Talker w y → (fs : List FrameView) → e.sent ≡ fs → Changed rows r w e (talks rows r y e fs)
talks_changed rows r w y e s (f ∷ fs) sends = inl (sends_list y e.time f.peer (Jobs.taken_message e.taken) f.body ∙ s.list)
talks_changed rows r w y e s [] sends = heard (e.taken) refl
  where
    heard : (o : Option FrameView) → e.taken ≡ o → Changed rows r w e (hears_frame rows r y o)
    heard None h = own_changed rows r w y e (quiet rows r y y.phase) s (quiet_change rows r y y.phase refl)
    heard (Some f) h = took_changed rows r w y e f s h sends f.body refl

on_changed : (rows : RowsAndEnds) (r : ℕ) (w y : Work) (e : Entry) → Talker w y → (p : Option ℕ) → Jobs.partner w.what.peer w.phase ≡ p → Changed rows r w e (talks_on rows r y e p)
on_changed rows r w y e s None on = talks_changed rows r w y e s e.sent refl
on_changed rows r w y e s (Some peer) on =
    if_either (Changed rows r w e) (end_after (job_end y peer) (rows.ends (job_end y peer)) e).opened (talks rows r y e e.sent) (closed_part r y peer y.part)
    (λ h. talks_changed rows r w y e s e.sent refl)
    (λ h. elim (closed_change r y peer y.part) [
      | inl same ↦ inl (same ∙ s.list)
      | inr c ↦ inr (inr (inl (record {
        peer = peer;
        on = on;
        shut = subst (λ (j : RunningJob). (end_after (end_in j) (rows.ends (end_in j)) e).opened ≡ false) s.same h;
        no_target = subst (λ (j : RunningJob). (Jobs.or_own r (Jobs.drop_side j.what.kind j.what.peer) j.what.peer == peer) ≡ false) s.same c.1;
        part_is = sym s.part_is ∙ c.0;
        list = c.2 ∙ ap (λ (hs : List (ℕ × Jobs.Heard)). (peer, Jobs.Lacks causes.Closed) ∷ hs) s.list;
      })))
    ])
  where
    end_in : RunningJob → EndName
    end_in j = record { peer = peer; slot = j.slot; client = true }

pub unreleased_list : (w : Work) (time : ℕ) (phase : Phase) → SameList w (after_failed_release w time phase)
unreleased_list w time Jobs.AsksTime = refl
unreleased_list w time phase = refl

pub gained_list : (w : Work) (phase : Phase) → SameList w (after_gain w phase)
gained_list w (GetsWord peer start size) = transferred_list w (outcomes.Got (Some peer) (Some start))
gained_list w phase = refl

fault_change : (r : ℕ) (w : Work) (part : Part) (side : Side) (phase : Phase) → w.part ≡ part → w.phase ≡ phase → SameList w (fault_phase r w part side phase) ⊎ OwnLacks r w (fault_phase r w part side phase)
fault_change r w Drops Remote Fresh is first = inr (record { cause = causes.Fault; first = first; part_is = is; later = refl; list = refl })
fault_change r w part side phase is first = inl refl

call_change : (r : ℕ) (w : Work) (time : ℕ) (call : Call) → SameList w (fault_of r w time call) ⊎ OwnLacks r w (fault_of r w time call)
call_change r w time PutFile = inl refl
call_change r w time Unhold = inl (unreleased_list w time w.phase)
call_change r w time call = fault_change r w w.part (Jobs.side_of w) w.phase refl refl

pub share_or : (kind : EntryKind) → ((hold end : ℕ) × (owner : By) × (key : List ℕ) × (kind ≡ Share hold end owner key)) ⊎ ((hold end : ℕ) (owner : By) (key : List ℕ) → kind ≢ Share hold end owner key)
share_or (Share hold end owner key) = inl (hold, end, owner, key, refl)
share_or kind = inr (λ hold end owner key e. cc)

-- **an entry of the job, other than its own share, changes its list in one of four ways**
pub kind_changed : (rows : RowsAndEnds) (r : ℕ) (w : Work) (e : Entry) → Talker w (learns (claims w w.part w.phase) w.phase e.taken) → (kind : EntryKind)
    → ((hold end : ℕ) (owner : By) (key : List ℕ) → kind ≢ Share hold end owner key) → Changed rows r w e (work_kind rows r w e kind)
kind_changed rows r w e s (Fault call owner) other = own_changed rows r w w e (fault_of r w e.time call) (record { list = refl; part_is = refl; phase_is = refl; same = refl }) (call_change r w e.time call)
kind_changed rows r w e s (Bar job need key) other = inl refl
kind_changed rows r w e s (Share hold end owner key) other = absurd (other hold end owner key refl)
kind_changed rows r w e s (Gone source key) other = inl refl
kind_changed rows r w e s (Gain source size key) other = inl (gained_list w w.phase)
kind_changed rows r w e s kind other = on_changed rows r w (learns (claims w w.part w.phase) w.phase e.taken) e s (Jobs.partner w.what.peer w.phase) refl

-- ---- the job as it talks

pub learns_heard : (x : Work) (phase : Phase) (taken : Option FrameView) → (learns x phase taken).heard ≡ x.heard
learns_heard x (Jobs.Greets peer) (Some f) = if_either (λ (y : Work). y.heard ≡ x.heard) (option_is x.what.peer peer) (record x { version = Jobs.version_said x.version (line_in f.body) }) x (λ e. refl) (λ e. refl)
learns_heard x phase taken = refl

pub claims_heard : (w : Work) (part : Part) (phase : Phase) → (claims w part phase).heard ≡ w.heard
claims_heard w Gets Jobs.Fresh = refl
claims_heard w part phase = refl

pub talker_heard : (t : Turn) (taken : Option FrameView) → (talker t taken).heard ≡ t.w.heard
talker_heard t taken = learns_heard (claims t.w t.w.part t.w.phase) t.w.phase taken ∙ claims_heard t.w t.w.part t.w.phase

pub talker_is : (t : Turn) (taken : Option FrameView) → Talker t.w (talker t taken)
talker_is t taken =
    let place = readies_place t.w taken in
    let same = learns_kept (claims t.w t.w.part t.w.phase) t.w.phase taken ∙ claims_kept t.w t.w.part t.w.phase in
    record { list = talker_heard t taken; part_is = place.0; phase_is = talker_phase t taken; same = same }
