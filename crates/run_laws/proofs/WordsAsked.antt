-- An answer whose word a job keeps comes of an entry that was asked for a word: the job's last request was CHECKPRESENT, or an order.
use Rattle.std.proofs.Common.{◌≡◌, ℕ, true, false, List, Option, Some, None, ◌⊎◌, inl, inr, refl, sym, ap, ◌∙◌, subst, true≢false}
use Rattle.std.specs.Prelude.{option_map}
use Rattle.std.proofs.lemmas.Option.{same_Some}
use Rattle.annex_base.specs.Lists.{Each}
use Rattle.annex_base.specs.declared.kinds.Word.{Word}
use Rattle.run_data.specs.declared.entry.Entry.{Entry}
use Rattle.run_data.specs.declared.entry.FrameView.{FrameView}
use Rattle.run_data.specs.declared.entry.FrameText.{FrameText}
use Rattle.run_data.specs.declared.run.Run.{Run}
use Rattle.run_data.specs.Repos.{IsSetUp}
use Rattle.p2p_wire.specs.declared.message.Message.{Message}
use Rattle.p2p_wire.specs.declared.message.Message.TheVariants.{CheckPresent, Failure, Success}
use Rattle.p2p_wire.specs.Messages.{order_of}
use Rattle.run_model.specs.Frames.{FlyingFrame, MayTake, SendingEntry, sender, sending_entry, way_of}
use Rattle.run_model.specs.Past.{is_of}
use Rattle.run_model.specs.Run.{IsStep, OwnPart, OwnPast, RunPast, RunStep, set_up}
use Rattle.run_model.specs.States.{state_of}
use Rattle.node_model.specs.Jobs.{AsksLook, Orders, Phase, Work, partner, taken_message}
use Rattle.node_model.specs.Look.{Effect}
use Rattle.node_model.specs.OwedStep.{owed_step}
use Rattle.node_model.specs.SessionStep.{session_step}
use Rattle.node_model.specs.Sessions.{line_in}
use Rattle.node_model.specs.SetUp.{SetUp}
use Rattle.node_model.specs.Slots.{job_of}
use Rattle.run_laws.specs.Jobs.{AnswersAsked, asks_word, is_asked, keeps_word}
use Rattle.run_laws.proofs.AnswersFit.{AnswerOf, answer_of}
use Rattle.run_laws.proofs.AnswersTurn.{is_plain, plain_completes}
use Rattle.step_facts.proofs.Below.{SentAreRead}
use Rattle.run_laws.proofs.ClientAwaits.{taken_last}
use Rattle.step_facts.proofs.ClientCounts.{LastIs, Request, request}
use Rattle.step_facts.proofs.ClientWays.{asked_by}
use Rattle.past_facts.proofs.OwnRuns.{Part, own_past, part_of}
use Rattle.step_facts.proofs.JobSteps.{Stepped, session_none, step_made, stepped_job, stepped_runs}
use Rattle.step_facts.proofs.Makers.{TakenBy, taken_of}
use Rattle.run_laws.proofs.SaidDown.{said_is}
use Rattle.step_facts.proofs.SessionFacts.{session_found}
use Rattle.job_facts.proofs.Speaks.{hears}
use Rattle.step_facts.proofs.StepFacts.{pays_found}
use Rattle.step_facts.proofs.Ways.{is_answer}
use Rattle.step_facts.proofs.WorkNumbers.{same_number_same_work}

-- ---- the job that takes a frame

-- it made a step
stepped : (s : SetUp) (past : List Entry) (words : ℕ → Option Word) (e : Entry) (f : FrameView) (j : ℕ) → OwnPart s past words e → e.taken ≡ Some f → job_of e.kind ≡ Some j → Stepped s past e
stepped s past words e f j own took job = elim (own.does) [
  | inl x ↦ steps x
  | inr x ↦ absurd (let no' : None ≡ Some f = sym x.takes_none ∙ took in cc)
]
  where
    owed : (x : IsStep s past words e) → owed_step s (state_of s past) x.look ≡ Some x.made → x.made.taken ≡ None
    owed x g = elim ((pays_found s (state_of s past) x.look x.made (state_of s past).owed refl g).writes) [
      | inl w ↦ ap (λ (z : Effect). z.taken) w
      | inr w ↦ ap (λ (z : Effect). z.taken) w
    ]

    made_taken : (x : IsStep s past words e) → x.made.taken ≡ Some f
    made_taken x = sym (ap (λ (y : Entry). y.taken) x.is) ∙ took

    made_job : (x : IsStep s past words e) → job_of x.made.kind ≡ Some j
    made_job x = sym (ap (λ (y : Entry). job_of y.kind) x.is) ∙ job

    by_session : (x : IsStep s past words e) → session_step s (state_of s past) x.look ≡ Some x.made → Stepped s past e
    by_session x g =
        let y = session_found s (state_of s past) x.look x.made g in
        absurd (let no' : None ≡ Some j = sym (session_none _ _ _ _ x.made.kind y.found) ∙ made_job x in cc)

    steps : (x : IsStep s past words e) → Stepped s past e
    steps x = elim (step_made s past words e x) [
      | inl o ↦ absurd (let no' : None ≡ Some f = sym (owed x o) ∙ made_taken x in cc)
      | inr r ↦ elim r [ inl g ↦ by_session x g | inr y ↦ y ]
    ]

-- ---- which answers are kept

-- the phase, and the answer
abbrev Kept : Phase → Message → Type 0
Kept phase k = ((peer : ℕ) × (phase ≡ AsksLook peer) × (k ≡ Failure)) ⊎ ((phase ≡ Orders) × ((k ≡ Failure) ⊎ (k ≡ Success)))

keeps_none : (phase : Phase) → keeps_word phase None ≡ false
keeps_none (AsksLook peer) = refl
keeps_none Orders = refl
keeps_none phase = refl

look_kept : (peer : ℕ) (k : Message) → keeps_word (AsksLook peer) (Some k) ≡ true → Kept (AsksLook peer) k
look_kept peer Failure e = inl (peer, refl, refl)
look_kept peer k e = absurd (true≢false (sym e))

order_kept : (k : Message) → keeps_word Orders (Some k) ≡ true → Kept Orders k
order_kept Failure e = inr (refl, inl refl)
order_kept Success e = inr (refl, inr refl)
order_kept k e = absurd (true≢false (sym e))

kept_is : (phase : Phase) (k : Message) → keeps_word phase (Some k) ≡ true → Kept phase k
kept_is (AsksLook peer) k e = look_kept peer k e
kept_is Orders k e = order_kept k e
kept_is phase k e = absurd (true≢false (sym e))

some_kept : (phase : Phase) (o : Option Message) → keeps_word phase o ≡ true → (k : Message) × (o ≡ Some k) × Kept phase k
some_kept phase None e = absurd (true≢false (sym e ∙ keeps_none phase))
some_kept phase (Some k) e = (k, refl, kept_is phase k e)

kept_plain : (phase : Phase) (k : Message) → Kept phase k → is_plain k ≡ true
kept_plain phase k (inl x) = ap is_plain x.2
kept_plain phase k (inr x) = elim (x.1) [ inl y ↦ ap is_plain y | inr y ↦ ap is_plain y ]

order_asks : (deadline : Option ℕ) (key : List ℕ) → asks_word (Some (order_of deadline key)) ≡ true
order_asks None key = refl
order_asks (Some n) key = refl

-- the last request is one for a word
line_of : (x : FlyingFrame) (time : ℕ) (m : Message) → Path (Option Request) (Some (asked_by x)) (Some (request time (Some m))) → line_in x.frame.body ≡ Some m
line_of x time m e = same_Some (line_in x.frame.body) (Some m) (ap (λ (o : Option Request). option_map (λ (q : Request). q.what) o) e)

asks_last : (key : List ℕ) (target : Option ℕ) (phase : Phase) (k : Message) (peer : ℕ) (x : FlyingFrame) → Kept phase k → partner target phase ≡ Some peer → LastIs key target phase peer (Some (asked_by x)) → asks_word (line_in x.frame.body) ≡ true
asks_last key target phase k peer x (inl y) on last =
    let one : Some y.0 ≡ Some peer = sym (ap (partner target) y.1) ∙ on in
    let z = subst (λ (q : Phase). LastIs key target q peer (Some (asked_by x))) y.1 last (same_Some y.0 peer one) in
    ap asks_word (line_of x z.0 (CheckPresent key) z.1)
asks_last key target phase k peer x (inr y) on last =
    let z = subst (λ (q : Phase). LastIs key target q peer (Some (asked_by x))) y.0 last (sym (ap (partner target) y.0) ∙ on) in
    ap asks_word (line_of x z.0 (order_of z.1 key) z.2) ∙ order_asks z.1 key

-- ---- an entry of a run

module _ (reads_back : SentAreRead) (run : Run) (repos : Each IsSetUp run.repos) (past : List Entry) (e : Entry) (r : ℕ) (h : RunPast (set_up run) past) (step : RunStep (set_up run) past e) (is : is_of r e ≡ true) where
  abbrev s : SetUp
  s = set_up run r

  past_is : OwnPast (set_up run r) past
  past_is = own_past run repos r past h

  part : Part (set_up run) past r e
  part = part_of (set_up run) past e r step is

  asked_of : (x : Stepped (set_up run r) past e) (f : FrameView) (z : SendingEntry) → e.taken ≡ Some f → keeps_word x.w.phase (line_in f.body) ≡ true → sender past r e.taken ≡ Some z → is_asked z.entry ≡ true
  asked_of x f z took keeps sent =
      let k = some_kept x.w.phase (line_in f.body) keeps in
      let plain = kept_plain x.w.phase k.0 k.2 in
      let said = said_is f.body k.0 k.1 in
      let down : f.up ≡ false = (hears s past e x f took).1 in
      let may : MayTake past (way_of r f) f = part.frames.takes f took in
      let a : AnswerOf past r f may.it k.0 = answer_of reads_back run repos past e r f k.0 h step is took down said plain may in
      let t : TakenBy s past e f = taken_of s past e x f took in
      let last : LastIs t.w.what.key t.w.what.peer t.w.phase t.peer (Some (asked_by a.request)) =
      taken_last reads_back s past past_is e f down (ap is_answer said ∙ plain_completes k.0 plain) t (Some (asked_by a.request)) (ap (option_map asked_by) a.last) in
      let asks : asks_word (line_in a.request.frame.body) ≡ true = asks_last x.w.what.key x.w.what.peer x.w.phase k.0 t.peer a.request k.2 t.on last in
      let from : z ≡ sending_entry may.it = same_Some z (sending_entry may.it) (sym sent ∙ ap (sender past r) took ∙ ap (option_map sending_entry) may.next) in
      ap (λ (y : SendingEntry). is_asked y.entry) from ∙ ap (λ (o : Option FrameView). asks_word (taken_message o)) a.taken_is ∙ ap (λ (b : FrameText). asks_word (line_in b)) (sym a.body_is) ∙ asks

  pub answers_asked : AnswersAsked past r e
  answers_asked w f z there t sent =
      let x = stepped s past part.words e f w.number part.own t.taken t.made in
      let one : Some x.w.number ≡ Some w.number = sym (stepped_job s past e x) ∙ t.made in
      let same : w ≡ x.w = same_number_same_work s past past_is.run w x.w there (stepped_runs s past e x) (sym (same_Some x.w.number w.number one)) in
      asked_of x f z t.taken (subst (λ (v : Work). keeps_word v.phase (line_in f.body) ≡ true) same t.kept) sent
