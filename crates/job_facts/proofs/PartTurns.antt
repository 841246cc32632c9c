-- How the talk of a job comes to another part: the content was there at once, or the peer has it.
use Rattle.std.proofs.Common.{◌≡◌, ℕ, Bool, true, List, [], ◌∷◌, Option, Some, None, ◌⊎◌, inl, inr, refl}
use Rattle.annex_base.proofs.Conditions.{if_either}
use Rattle.run_data.specs.declared.entry.Entry.{Entry}
use Rattle.run_data.specs.declared.entry.FrameView.{FrameView}
use Rattle.run_data.specs.declared.entry.FrameText.{FrameText}
use Rattle.run_data.specs.declared.entry.FrameText.TheVariants.{Line}
use Rattle.p2p_wire.specs.declared.message.Message.{Message}
use Rattle.p2p_wire.specs.declared.message.Message.TheVariants.{AlreadyHave, Failure, Success}
use Rattle.p2p_wire.specs.Messages.{message_of}
use Rattle.node_model.specs.Sessions.{line_in}
use Rattle.node_model.specs.Ends.{end_after}
use Rattle.node_model.specs.Jobs
use Rattle.node_model.specs.Jobs.{Fresh, Gets, Orders, Part, Phase, PutsAnswer, PutsOffer, RowsAndEnds, Work, closed_part, first_look, hears_frame, job_end, listens, quiet, talks, talks_on, after_frame, after_line}
use Rattle.step_facts.proofs.JobKept.{closed_stays, sends_stays}

-- the answers by which the peer has the content
abbrev pub HasIt : Phase → Message → Type 0
HasIt (PutsOffer peer) AlreadyHave = Unit {0}
HasIt (PutsAnswer peer start) Success = Unit {0}
HasIt phase m = ⊥

-- how a talk comes to another part
abbrev pub FirstTurn : Work → Option FrameView → Type 0
FirstTurn w taken = (w.part ≡ Gets) × (w.phase ≡ Fresh) × (taken ≡ None)

abbrev pub TakenTurn : Work → Option FrameView → Type 0
TakenTurn w taken = (f : FrameView) × (taken ≡ Some f) × ((m : Message) × (line_in f.body ≡ Some m) × HasIt w.phase m)

abbrev pub Same : Work → Work → Type 0
Same w x = x.part ≡ w.part

listens_turn : (w : Work) (phase : Phase) (m : Message) → Same w (listens w phase m) ⊎ HasIt phase m
listens_turn w (Jobs.AsksLock peer since) Success = inl refl
listens_turn w (Jobs.AsksLook peer) Success = inl refl
listens_turn w (Jobs.AsksLook peer) Failure = inl refl
listens_turn w Orders Success = inl refl
listens_turn w Orders Failure = inl refl
listens_turn w (Jobs.Greets peer) (Message.Version n) = inl refl
listens_turn w (Jobs.GetsData peer start) (Message.Data n) = inl refl
listens_turn w (PutsOffer peer) AlreadyHave = inr tt
listens_turn w (PutsOffer peer) (Message.Error text) = inl refl
listens_turn w (PutsOffer peer) Failure = inl refl
listens_turn w (PutsAnswer peer start) Success = inr tt
listens_turn w (PutsAnswer peer start) Failure = inl refl
listens_turn w phase m = inl refl

line_turn : (w : Work) (o : Option Message) → Same w (after_line w o) ⊎ ((m : Message) × (o ≡ Some m) × HasIt w.phase m)
line_turn w None = inl refl
line_turn w (Some m) = elim (listens_turn w w.phase m) [ inl same ↦ inl same | inr has ↦ inr (m, refl, has) ]

took_turn : (w : Work) (body : FrameText) → Same w (after_frame w body) ⊎ ((m : Message) × (line_in body ≡ Some m) × HasIt w.phase m)
took_turn w (Line text) = line_turn w (message_of text)
took_turn w body = inl refl

first_turn : (r : ℕ) (w : Work) (part : Part) (here : Bool) (bar : Option ℕ) → Same w (first_look r w part here bar) ⊎ (part ≡ Gets)
first_turn r w Gets true bar = inr refl
first_turn r w part here bar = inl refl

quiet_turn : (rows : RowsAndEnds) (r : ℕ) (w : Work) (phase : Phase) → Same w (quiet rows r w phase) ⊎ ((w.part ≡ Gets) × (phase ≡ Fresh))
quiet_turn rows r w Fresh = elim (first_turn r w w.part (rows.present w.what.key) (rows.bar w.what.key)) [ inl same ↦ inl same | inr gets ↦ inr (gets, refl) ]
quiet_turn rows r w phase = inl refl

hears_turn : (rows : RowsAndEnds) (r : ℕ) (w : Work) (taken : Option FrameView) → Same w (hears_frame rows r w taken) ⊎ (FirstTurn w taken ⊎ TakenTurn w taken)
hears_turn rows r w None = elim (quiet_turn rows r w w.phase) [ inl same ↦ inl same | inr x ↦ inr (inl (x.0, x.1, refl)) ]
hears_turn rows r w (Some f) = elim (took_turn w f.body) [ inl same ↦ inl same | inr x ↦ inr (inr (f, refl, x)) ]

talks_turn : (rows : RowsAndEnds) (r : ℕ) (w : Work) (e : Entry) (fs : List FrameView) → Same w (talks rows r w e fs) ⊎ ((fs ≡ []) × (FirstTurn w e.taken ⊎ TakenTurn w e.taken))
talks_turn rows r w e (f ∷ fs) = inl (sends_stays w e.time f.peer (Jobs.taken_message e.taken) f.body).1
talks_turn rows r w e [] = elim (hears_turn rows r w e.taken) [ inl same ↦ inl same | inr x ↦ inr (refl, x) ]

pub on_turn : (rows : RowsAndEnds) (r : ℕ) (w : Work) (e : Entry) (p : Option ℕ) → Same w (talks_on rows r w e p) ⊎ ((e.sent ≡ []) × (FirstTurn w e.taken ⊎ TakenTurn w e.taken))
on_turn rows r w e None = talks_turn rows r w e e.sent
on_turn rows r w e (Some peer) =
    if_either (λ x. Same w x ⊎ ((e.sent ≡ []) × (FirstTurn w e.taken ⊎ TakenTurn w e.taken))) (end_after (job_end w peer) (rows.ends (job_end w peer)) e).opened (talks rows r w e e.sent) (closed_part r w peer w.part)
    (λ h. talks_turn rows r w e e.sent) (λ h. inl (closed_stays r w peer w.part).1)
