-- The causes of refusals that rest on a closed connection: a drop lost its target, a copy's connection was closed, a get's sources gave nothing.
use Rattle.std.proofs.Common.{◌≡◌, ◌≢◌, ℕ, Bool, true, false, List, [], ◌∷◌, Option, Some, None, ◌⊎◌, inl, inr, refl, sym, ap, ◌∙◌, subst, arith}
use Rattle.std.proofs.lemmas.Bool.Decides.{nat_tests}
use Rattle.std.specs.Prelude.{if◌then◌else◌, ◌==◌}
use Rattle.std.specs.List.{list_any}
use Rattle.annex_base.specs.Lists.{Each, Member}
use Rattle.step_facts.proofs.Below.{SentAreRead}
use Rattle.run_data.specs.declared.entry.Entry.{Entry}
use Rattle.run_data.specs.declared.entry.FrameView.{FrameView}
use Rattle.run_data.specs.declared.entry.FrameText.{FrameText}
use Rattle.run_data.specs.declared.entry.FrameText.TheVariants.{Opening, Closing, Bytes, Line}
use Rattle.run_data.specs.declared.job.Outcome.{Outcome}
use Rattle.run_data.specs.declared.job.Outcome.TheVariants.{Refused, TransferRefused}
use Rattle.run_data.specs.declared.job.DropRefusal.TheVariants as refusals
use Rattle.run_data.specs.declared.job.SourceCause.{SourceCause}
use Rattle.run_data.specs.declared.job.SourceCause.TheVariants as sources
use Rattle.run_data.specs.declared.job.SourceFailure.{SourceFailure}
use Rattle.run_data.specs.declared.job.TransferRefusal.TheVariants as failures
use Rattle.run_model.specs.Past.{Always, is_of}
use Rattle.node_model.specs.Slots.{RunningJob}
use Rattle.p2p_wire.specs.declared.message.Message.{Message}
use Rattle.p2p_wire.specs.declared.message.Message.TheVariants.{Failure, Get, Invalid, Valid}
use Rattle.p2p_wire.specs.Messages.{message_of}
use Rattle.run_model.specs.Said.{Says}
use Rattle.run_model.specs.Frames.{says}
use Rattle.run_model.specs.Causes.{AnswersRequest, ClosedWith, FellShort, HearsMessage, is_failure}
use Rattle.node_model.specs.SetUp.{SetUp}
use Rattle.run_model.specs.States.{rows_at, works}
use Rattle.node_model.specs.Sessions.{line_in}
use Rattle.node_model.specs.Jobs.{Drops, Ends, Gets, GetsWord, Part, Phase, Puts, Work, job_end, partner, running_job, source_cause, taken_message, work_kind}
use Rattle.node_model.specs.Look.{Effect, waiting_frame}
use Rattle.node_model.specs.JobStep.{Turn, end_with, quietly, talk, wrong_message}
use Rattle.node_model.specs.Turns.{awaits, by_partner, goes_on, has_room, is_awaiting, takes, takes_answer, takes_frame, takes_text, with_partner}
use Rattle.run_model.specs.Run.{OwnPast, OwnRun}
use Rattle.step_facts.proofs.JobFacts.{frame_found}
use Rattle.step_facts.proofs.JobSteps.{Origin, Steps, invariant, turn_at}
use Rattle.job_facts.proofs.TalkFacts.{Fits}
use Rattle.job_facts.proofs.WorkFits.{step_running, step_runs, works_fit}
use Rattle.step_facts.proofs.ClientCounts.{LastIs}
use Rattle.dialogue_facts.proofs.EndReasons.{Reason, ShutOn, kind_reason}
use Rattle.dialogue_facts.proofs.CopiesInPlace.{copies_in_place}
use Rattle.dialogue_facts.proofs.Carried.{AddsWord, Causes, kind_carries}
use Rattle.cause_laws.proofs.Refusals.{answers_grow, answers_now, stepped_own, target_in, target_is, took_peer}
use Rattle.job_facts.proofs.Speaks.{hears}
use Rattle.step_facts.proofs.BySteps.{earlier}
use Rattle.run_laws.proofs.SaidDown.{said_is}
use Rattle.job_facts.proofs.PhaseFacts.{only_word}
use Rattle.annex_base.proofs.Lists.{Each-push}
use Rattle.std.proofs.lemmas.Bool.{or_left}

-- ---- the premise: between nodes of a run no wrong message comes

-- **what Lost, Closed and a source's `closed` stand on**: where a step of a job finds the connection on which it stands closed, its peer
-- closed it, or an entry here; or, of a copy, the content was gone or too short
abbrev pub ShutTold : SetUp → List Entry → Entry → Type 0
ShutTold s past e = (w : Work) (b : Steps s past e w) (z : ShutOn (rows_at past s.number) b.by.w e)
    → ClosedWith (e ∷ past) s.number b.by.w.number z.peer ⊎ ((b.by.w.part ≡ Puts) × FellShort (e ∷ past) s.number b.by.w.number z.peer b.by.w.what.key)

abbrev pub ShutsTold : SetUp → List Entry → Type 0
ShutsTold s past = Always (ShutTold s) past

-- why a peer gave a get nothing, as the get's own entries tell
abbrev pub SourceToldOf : List Entry → ℕ → ℕ → List ℕ → ℕ → SourceCause → Type 0
SourceToldOf past r j key peer sources.Closed = ClosedWith past r j peer
SourceToldOf past r j key peer sources.Wrong = (h : HearsMessage past r j peer (Says Valid)) × (list_any (says is_failure) h.entry.sent ≡ true)
SourceToldOf past r j key peer sources.Absent = (file : List ℕ) × AnswersRequest past r j peer (Says (Get 0 file key)) (Says Invalid)
SourceToldOf past r j key peer sources.Invalid = (start : ℕ) × (file : List ℕ) × (start ≢ 0) × AnswersRequest past r j peer (Says (Get start file key)) (Says Invalid)

-- ---- more entries change nothing

module _ (r : ℕ) (e : Entry) (past : List Entry) (j : RunningJob) where
  pub closed_grows : (peer : ℕ) → ClosedWith past r j.number peer → ClosedWith (e ∷ past) r j.number peer
  closed_grows peer (inl y) = let x = y.0 in inl (record { entry = x.entry; before = x.before; occurs = inr x.occurs; own = x.own; f = x.f; takes_it = x.takes_it; peer_is = x.peer_is; down = x.down; says = x.says }, y.1)
  closed_grows peer (inr y) = let x = y.0 in inr (record { entry = x.entry; before = x.before; occurs = inr x.occurs; own = x.own; slot = x.slot; kind_is = x.kind_is; slot_is = x.slot_is }, y.1)

  short_grows : (peer : ℕ) (key : List ℕ) → FellShort past r j.number peer key → FellShort (e ∷ past) r j.number peer key
  short_grows peer key x = record { entry = x.entry; before = x.before; occurs = inr x.occurs; own = x.own; closes = x.closes; place = x.place; short = x.short; why' = x.why' }

  source_grows : (key : List ℕ) (peer : ℕ) (cause : SourceCause) → SourceToldOf past r j.number key peer cause → SourceToldOf (e ∷ past) r j.number key peer cause
  source_grows key peer sources.Closed x = closed_grows peer x
  source_grows key peer sources.Wrong x = (record { entry = x.0.entry; before = x.0.before; occurs = inr x.0.occurs; own = x.0.own; f = x.0.f; takes_it = x.0.takes_it; peer_is = x.0.peer_is; down = x.0.down; says = x.0.says }, x.1)
  source_grows key peer sources.Absent x = (x.0, answers_grow r e past j peer (Says (Get 0 x.0 key)) (Says Invalid) x.1)
  source_grows key peer sources.Invalid x = (x.0, x.1, x.2, answers_grow r e past j peer (Says (Get x.0 x.1 key)) (Says Invalid) x.3)

  sources_grow : (key : List ℕ) (xs : List SourceFailure) → Each (λ x. SourceToldOf past r j.number key x.repo x.cause) xs → Each (λ x. SourceToldOf (e ∷ past) r j.number key x.repo x.cause) xs
  sources_grow key [] a = tt
  sources_grow key (x ∷ xs) a = (source_grows key x.repo x.cause a.0, sources_grow key xs a.1)

-- ---- a drop that lost its target, a copy that was closed

abbrev pub ShutOutcome : ℕ → List Entry → RunningJob → Outcome → Type 0
ShutOutcome r past j (Refused (refusals.Lost ordered)) = ClosedWith past r j.number (target_in r j)
ShutOutcome r past j (TransferRefused failures.Closed) = (peer : ℕ) × (j.what.peer ≡ Some peer) × (ClosedWith past r j.number peer ⊎ FellShort past r j.number peer j.what.key)
ShutOutcome r past j o = Unit {0}

abbrev pub ShutStands : ℕ → List Entry → RunningJob → Phase → Type 0
ShutStands r past j (Ends o) = ShutOutcome r past j o
ShutStands r past j phase = Unit {0}

shut_grows : (r : ℕ) (e : Entry) (past : List Entry) (j : RunningJob) (phase : Phase) → ShutStands r past j phase → ShutStands r (e ∷ past) j phase
shut_grows r e past j (Ends (Refused (refusals.Lost ordered))) x = closed_grows r e past j (target_in r j) x
shut_grows r e past j (Ends (TransferRefused failures.Closed)) x = (x.0, x.1, elim (x.2) [ inl a ↦ inl (closed_grows r e past j x.0 a) | inr a ↦ inr (short_grows r e past j x.0 j.what.key a) ])
shut_grows r e past j phase x = tt

shut_now : (s : SetUp) (p : List Entry) (e : Entry) → OwnRun s p → (x : Work) (b : Steps s p e x) → ShutTold s p e → (phase : Phase) → Reason (rows_at p s.number) s.number b.by.w e e.kind phase → ShutStands s.number (e ∷ p) (running_job b.by.w) phase
shut_now s p e run x b told (Ends (Refused (refusals.Lost ordered))) z = elim (told x b z.0) [
  | inl closed ↦ subst (ClosedWith (e ∷ p) s.number b.by.w.number) (sym (target_is s.number b.by.w ∙ z.2)) closed
  | inr y ↦ absurd (let both : Puts ≡ Drops = sym y.0 ∙ z.1 in cc)
]
shut_now s p e run x b told (Ends (TransferRefused failures.Closed)) z = (z.0.peer, copies_in_place s p run b.by.w (step_runs s p e x b) z.1 z.0.peer z.0.on, elim (told x b z.0) [ inl closed ↦ inl closed | inr y ↦ inr y.1 ])
shut_now s p e run x b told phase z = tt

-- **why a connection was closed stands**
pub shut_stands : (s : SetUp) (past : List Entry) → OwnRun s past → ShutsTold s past → (w : Work) → Member w (works past s.number) → ShutStands s.number past (running_job w) w.phase
shut_stands s past run told w m = invariant s (λ p x. ShutsTold s p → ShutStands s.number p (running_job x) x.phase) (λ p e is x n was told. shut_grows s.number e p (running_job x) x.phase (was told.1)) own past run w m told
  where
    own : (p : List Entry) (e : Entry) → OwnRun s (e ∷ p) → is_of s.number e ≡ true → ((x : Work) → Member x (works p s.number) → ShutsTold s p → ShutStands s.number p (running_job x) x.phase)
        → (x : Work) → Origin s p e x → ShutsTold s (e ∷ p) → ShutStands s.number (e ∷ p) (running_job x) x.phase
    own p e run is was x (inl b) told = subst (λ (y : Work). ShutStands s.number (e ∷ p) (running_job y) y.phase) (sym b.work_is) tt
    own p e run is was x (inr (inl b)) told = shut_grows s.number e p (running_job x) x.phase (was x b.ran told.1)
    own p e run is was x (inr (inr b)) told =
        let v = b.by.w in
        let y = work_kind (rows_at p s.number) s.number v e e.kind in
        let new : ShutStands s.number (e ∷ p) (running_job v) y.phase = elim (kind_reason (rows_at p s.number) s.number v e e.kind) [
          | inl same ↦ subst (ShutStands s.number (e ∷ p) (running_job v)) (sym same) (shut_grows s.number e p (running_job v) v.phase (was v (step_runs s p e x b) told.1))
          | inr reason ↦ shut_now s p e run.1 x b told.0 y.phase reason
        ] in
        subst (λ (j : RunningJob). ShutStands s.number (e ∷ p) j x.phase) (sym (step_running s p e x b)) (subst (λ (z : Work). ShutStands s.number (e ∷ p) (running_job v) z.phase) (sym b.work_is) new)

-- ---- a get's sources

-- at the end of the bytes a job says FAILURE where it took VALID or INVALID
pub record WordTaken (m : Effect) : Type 0 where
  pub f : FrameView
  pub takes_it : m.taken ≡ Some f
  pub word : (line_in f.body ≡ Some Valid) ⊎ (line_in f.body ≡ Some Invalid)

abbrev FirstSays : Effect → Type 0
FirstSays m = (f : FrameView) (rest : List FrameView) → m.sent ≡ f ∷ rest → line_in f.body ≡ Some Failure → WordTaken m

abbrev first_body : List FrameView → Option FrameText
first_body [] = None
first_body (f ∷ fs) = Some f.body

wrong_word : (t : Turn) (f : FrameView) (peer : ℕ) → FirstSays (wrong_message t f peer)
wrong_word t f peer g rest sent told =
    let same : Some Closing ≡ Some g.body = ap (λ fs. first_body fs) sent in
    let body : Closing ≡ g.body = cc in
    absurd (let none : None ≡ Some Failure = ap line_in body ∙ told in cc)

get_word : (t : Turn) (f : FrameView) (peer p start size : ℕ) (m : Message) → line_in f.body ≡ Some m → (takes_answer t f peer Gets (GetsWord p start size) m).taken ≡ Some f → FirstSays (takes_answer t f peer Gets (GetsWord p start size) m)
get_word t f peer p start size Valid told took g rest sent fail = record { f = f; takes_it = took; word = inl told }
get_word t f peer p start size Invalid told took g rest sent fail = record { f = f; takes_it = took; word = inr told }
get_word t f peer p start size m told took g rest sent fail = wrong_word t f peer g rest sent fail

body_word : (t : Turn) (f : FrameView) (peer p start size : ℕ) → t.w.phase ≡ GetsWord p start size → t.w.part ≡ Gets → (body : FrameText) → f.body ≡ body → (takes_frame t peer f body).taken ≡ Some f → FirstSays (takes_frame t peer f body)
body_word t f peer p start size at part Opening is took = wrong_word t f peer
body_word t f peer p start size at part Closing is took = λ g rest sent told. absurd (cc)
body_word t f peer p start size at part (Bytes n) is took = subst (λ (q : Phase). FirstSays (Rattle.node_model.specs.TransferStep.takes_bytes t f peer n q)) (sym at) (wrong_word t f peer)
body_word t f peer p start size at part (Line text) is took = line (message_of text) (ap line_in is) took
  where
    line : (m : Option Message) → line_in f.body ≡ m → (takes_text t f peer m).taken ≡ Some f → FirstSays (takes_text t f peer m)
    line None told took = wrong_word t f peer
    line (Some m) told took =
        let same : takes t f peer t.w.phase m ≡ takes_answer t f peer Gets (GetsWord p start size) m = ap (λ (q : Phase). takes t f peer q m) at ∙ ap (λ (q : Part). takes_answer t f peer q (GetsWord p start size) m) part in
        subst FirstSays (sym same) (get_word t f peer p start size m told (subst (λ (x : Effect). x.taken ≡ Some f) same took))

word_taken_by : (t : Turn) (m : Effect) (p start size : ℕ) → t.w.phase ≡ GetsWord p start size → t.w.part ≡ Gets → by_partner t (partner t.w.what.peer t.w.phase) ≡ Some m → FirstSays m
word_taken_by t m p start size at part e = go (end_with t p).opened (subst (λ (q : Option ℕ). by_partner t q ≡ Some m) on e)
  where
    on : partner t.w.what.peer t.w.phase ≡ Some p
    on = ap (partner t.w.what.peer) at

    go : (b : Bool) → with_partner t p b ≡ Some m → FirstSays m
    go false g = let made : quietly (talk t) None ≡ m = cc in subst FirstSays made (λ f rest sent told. absurd (cc))
    go true g = taken (waiting_frame (end_with t p) t.look (job_end t.w p)) (subst (λ (b : Bool). (if b then awaits t p (waiting_frame (end_with t p) t.look (job_end t.w p)) else goes_on t) ≡ Some m) (ap is_awaiting at) g)
      where
        taken : (o : Option FrameView) → awaits t p o ≡ Some m → FirstSays m
        taken None k = absurd (cc)
        taken (Some f) k = room (has_room t p) k
          where
            room : (b : Bool) → (if b then Some (takes_frame t p f f.body) else None) ≡ Some m → FirstSays m
            room true k = let made : takes_frame t p f f.body ≡ m = cc in subst FirstSays made (body_word t f p p start size at part f.body refl (frame_found t p f on f.body refl).0)
            room false k = absurd (cc)

-- the causes of a get's peers
abbrev pub SourcesTold : ℕ → List Entry → RunningJob → List SourceFailure → Type 0
SourcesTold r past j xs = Each (λ x. SourceToldOf past r j.number j.what.key x.repo x.cause) xs

module _ (reads_back : SentAreRead) (s : SetUp) (p : List Entry) (e : Entry) (h : OwnPast s (e ∷ p)) (is : is_of s.number e ≡ true) (x : Work) (b : Steps s p e x) where
  abbrev v : Work
  v = b.by.w

  before : OwnPast s p
  before = earlier s p e h

  invalid_cause : (start peer : ℕ) → AnswersRequest (e ∷ p) s.number v.number peer (Says (Get start [] v.what.key)) (Says Invalid) → SourceToldOf (e ∷ p) s.number v.number v.what.key peer (if start == 0 then sources.Absent else sources.Invalid)
  invalid_cause start peer a = go (start == 0) refl
    where
      go : (c : Bool) → (start == 0) ≡ c → SourceToldOf (e ∷ p) s.number v.number v.what.key peer (if c then sources.Absent else sources.Invalid)
      go true at = ([], subst (λ n. AnswersRequest (e ∷ p) s.number v.number peer (Says (Get n [] v.what.key)) (Says Invalid)) (zero_is start at) a)
        where
          zero_is : (n : ℕ) → (n == 0) ≡ true → n ≡ 0
          zero_is n e = grind (arith, nat_tests)
      go false at = (start, [], not_zero start at, a)
        where
          not_zero : (n : ℕ) → (n == 0) ≡ false → n ≢ 0
          not_zero n e same = absurd (grind (arith, nat_tests))

  word_cause : (z : AddsWord v e x) → SourceToldOf (e ∷ p) s.number v.number v.what.key z.peer (source_cause z.start (taken_message e.taken))
  word_cause z =
      let part = only_word v.part z.peer z.start z.size (subst (Fits v.part) z.phase_is (works_fit s p before.run v (step_runs s p e x b))) in
      let sent : b.by.made.sent ≡ z.says.f ∷ z.says.rest = sym (ap (λ (y : Entry). y.sent) b.by.is) ∙ z.says.sent_is in
      let w = word_taken_by (turn_at s p e b.by) b.by.made z.peer z.start z.size z.phase_is part b.by.does z.says.f z.says.rest sent z.says.told in
      let took : e.taken ≡ Some w.f = ap (λ (y : Entry). y.taken) b.by.is ∙ w.takes_it in
      let on : partner v.what.peer v.phase ≡ Some z.peer = ap (partner v.what.peer) z.phase_is in
      subst (λ o. SourceToldOf (e ∷ p) s.number v.number v.what.key z.peer (source_cause z.start (taken_message o))) (sym took) (elim (w.word) [
        | inl valid ↦ subst (λ m. SourceToldOf (e ∷ p) s.number v.number v.what.key z.peer (source_cause z.start m)) (sym valid) (valid_now w.f took valid on)
        | inr invalid ↦ subst (λ m. SourceToldOf (e ∷ p) s.number v.number v.what.key z.peer (source_cause z.start m)) (sym invalid) (invalid_cause z.start z.peer (asked_now w.f took invalid on))
      ])
    where
      valid_now : (f : FrameView) → e.taken ≡ Some f → line_in f.body ≡ Some Valid → partner v.what.peer v.phase ≡ Some z.peer → SourceToldOf (e ∷ p) s.number v.number v.what.key z.peer sources.Wrong
      valid_now f took valid on =
          let first : list_any (says is_failure) e.sent ≡ true = subst (λ fs. list_any (says is_failure) fs ≡ true) (sym z.says.sent_is) (or_left (says is_failure z.says.f) (list_any (says is_failure) z.says.rest) (ap is_failure (said_is z.says.f.body Failure z.says.told))) in
          (record { entry = e; before = p; occurs = inl (refl, refl); own = stepped_own s p e b.by is; f = f; takes_it = took; peer_is = took_peer reads_back s p e b.by is f took z.peer on; down = (hears s p e b.by f took).1; says = said_is f.body Valid valid }, first)

      asked_now : (f : FrameView) → e.taken ≡ Some f → line_in f.body ≡ Some Invalid → partner v.what.peer v.phase ≡ Some z.peer → AnswersRequest (e ∷ p) s.number v.number z.peer (Says (Get z.start [] v.what.key)) (Says Invalid)
      asked_now f took invalid on =
          let a = answers_now reads_back s p e b.by is before f took Invalid (λ m. m ≡ Get z.start [] v.what.key) invalid refl z.peer on
          (λ last l. let y = subst (λ (q : Phase). LastIs v.what.key v.what.peer q z.peer last) z.phase_is l refl in (y.0, Get z.start [] v.what.key, refl, y.1)) in
          subst (λ m. AnswersRequest (e ∷ p) s.number v.number z.peer (Says m) (Says Invalid)) a.1 a.2

  causes_now : ShutTold s p e → SourcesTold s.number p (running_job v) v.causes → Causes (rows_at p s.number) v e x → SourcesTold s.number (e ∷ p) (running_job v) x.causes
  causes_now told was (inl same) = subst (SourcesTold s.number (e ∷ p) (running_job v)) (sym same) (sources_grow s.number e p (running_job v) v.what.key v.causes was)
  causes_now told was (inr (inl a)) = subst (SourcesTold s.number (e ∷ p) (running_job v)) (sym a.list)
      (Each-push (λ y. SourceToldOf (e ∷ p) s.number v.number v.what.key y.repo y.cause) v.causes (record { repo = a.peer; cause = a.cause }) (sources_grow s.number e p (running_job v) v.what.key v.causes was)
      (subst (SourceToldOf (e ∷ p) s.number v.number v.what.key a.peer) (sym a.why.0) (subst (ClosedWith (e ∷ p) s.number v.number) a.why.2 (elim (told x b a.why.1) [ inl closed ↦ closed | inr y ↦ absurd (let both : Puts ≡ Gets = sym y.0 ∙ a.gets in cc) ]))))
  causes_now told was (inr (inr a)) = subst (SourcesTold s.number (e ∷ p) (running_job v)) (sym a.list)
      (Each-push (λ y. SourceToldOf (e ∷ p) s.number v.number v.what.key y.repo y.cause) v.causes (record { repo = a.peer; cause = source_cause a.start (taken_message e.taken) }) (sources_grow s.number e p (running_job v) v.what.key v.causes was) (word_cause a))

-- **each cause of a get's peers stands in its entries**
pub sources_told : SentAreRead → (s : SetUp) (past : List Entry) → OwnPast s past → ShutsTold s past → (w : Work) → Member w (works past s.number) → SourcesTold s.number past (running_job w) w.causes
sources_told reads_back s past h told w m = invariant s (λ p x. OwnPast s p → ShutsTold s p → SourcesTold s.number p (running_job x) x.causes) (λ p e is x n was h told. sources_grow s.number e p (running_job x) x.what.key x.causes (was (earlier s p e h) told.1)) own past h.run w m h told
  where
    own : (p : List Entry) (e : Entry) → OwnRun s (e ∷ p) → is_of s.number e ≡ true → ((x : Work) → Member x (works p s.number) → OwnPast s p → ShutsTold s p → SourcesTold s.number p (running_job x) x.causes)
        → (x : Work) → Origin s p e x → OwnPast s (e ∷ p) → ShutsTold s (e ∷ p) → SourcesTold s.number (e ∷ p) (running_job x) x.causes
    own p e run is was x (inl b) h told = subst (λ (y : Work). SourcesTold s.number (e ∷ p) (running_job y) y.causes) (sym b.work_is) tt
    own p e run is was x (inr (inl b)) h told = sources_grow s.number e p (running_job x) x.what.key x.causes (was x b.ran (earlier s p e h) told.1)
    own p e run is was x (inr (inr b)) h told =
        let v = b.by.w in
        subst (λ (j : RunningJob). SourcesTold s.number (e ∷ p) j x.causes) (sym (step_running s p e x b))
        (causes_now reads_back s p e h is x b told.0 (was v (step_runs s p e x b) (earlier s p e h) told.1) (subst (Causes (rows_at p s.number) v e) (sym b.work_is) (kind_carries (rows_at p s.number) s.number v e e.kind).1))
