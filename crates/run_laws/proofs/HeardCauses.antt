-- A job hears a cause by its entries where its look is refused, and where its connection with the peer is closed: by itself, by the peer,
-- or by an entry of its repository.
use Rattle.run_model.specs.States.{state_of, end_at, works}
use Rattle.std.proofs.Common.{◌≡◌, ◌≢◌, ℕ, Bool, true, false, List, [], ◌∷◌, Option, Some, None, ◌⊎◌, inl, inr, refl, sym, ap, ◌∙◌, subst}
use Rattle.std.specs.Prelude.{if◌then◌else◌, ◌==◌, ◌&&◌, ◌||◌, fold, map, not, option_map}
use Rattle.std.specs.List.{list_any}
use Rattle.std.proofs.lemmas.Bool.{true≢false, and_parts, eqb-true}
use Rattle.std.specs.Option.{option_or}
use Rattle.annex_base.specs.Lists.{Member}
use Rattle.annex_base.specs.declared.kinds.Word.{Word}
use Rattle.annex_base.proofs.Conditions.{eqb_refl, same_bool_is}
use Rattle.annex_base.proofs.Lists.{Member-filter_parts, list_any_member}
use Rattle.annex_base.specs.Bools.{same_bool}
use Rattle.step_facts.proofs.Below.{SentAreRead}
use Rattle.run_data.specs.declared.entry.By.TheVariants.{Script}
use Rattle.run_data.specs.declared.entry.Entry.{Entry}
use Rattle.run_data.specs.declared.entry.EntryKind.{EntryKind}
use Rattle.run_data.specs.declared.entry.EntryKind.TheVariants.{Begin, Close, Crash, Compact, Fault, Gain, Log}
use Rattle.run_data.specs.declared.entry.FrameView.{FrameView}
use Rattle.run_data.specs.declared.entry.FrameText.{FrameText}
use Rattle.run_data.specs.declared.entry.FrameText.TheVariants.{Opening, Closing, Bytes, Line}
use Rattle.run_data.specs.declared.job.Cause.{Cause}
use Rattle.run_data.specs.declared.job.Cause.TheVariants.{Closed}
use Rattle.p2p_wire.specs.declared.message.Message.TheVariants.{Failure}
use Rattle.run_model.specs.Said.{Said, is_close, message_in}
use Rattle.run_model.specs.Past.{is_of, jobs}
use Rattle.run_model.specs.Frames.{is_job, last_request, said_of, up_of, way_of}
use Rattle.node_model.specs.Ends.{EndName, End, end_after, end_sends, end_takes, end_took, frames, sends_at, sent_at, taken_at, takes_at}
use Rattle.run_model.specs.Drops.{cause_closed, cause_said, cause_taken, cause_with, in_slot, newer_cause, option_is_none, or_closed, shuts}
use Rattle.past_facts.proofs.Heard.{heard_cause}
use Rattle.run_laws.proofs.SaidDown.{said_is, said_closing}
use Rattle.run_laws.proofs.HeardAgrees.{cause_if, refuses_look, takes_failure}
use Rattle.run_laws.proofs.HeardTells.{stepped_own}
use Rattle.step_facts.proofs.ServerEnds.{BySessionAt}
use Rattle.step_facts.proofs.Makers.{session_takes_up, taken_of, who}
use Rattle.run_laws.proofs.SessionOwn.{in_says, member_frames, speaks}
use Rattle.node_model.specs.SetUp.{SetUp}
use Rattle.node_model.specs.AnyTime.{MayCome}
use Rattle.node_model.specs.Sessions.{line_in}
use Rattle.node_model.specs.Jobs.{AsksLook, Work, job_end, running_job}
use Rattle.run_model.specs.Run.{OwnPart, OwnRun, OwnPast}
use Rattle.step_facts.proofs.JobKept.{jobs_are}
use Rattle.step_facts.proofs.WorkNumbers.{same_slot_same_work}
use Rattle.step_facts.proofs.JobSteps.{Stepped, stepped_runs}
use Rattle.step_facts.proofs.ClientRuns.{client_end}
use Rattle.job_facts.proofs.Speaks

-- ---- a cause stays

abbrev pub Told : List Entry → ℕ → ℕ → ℕ → Type 0
Told past a j r = option_is_none (heard_cause past a j r) ≡ false

newer_some : (c o x : Option Cause) → option_is_none o ≡ false → option_is_none (newer_cause c (option_or o x)) ≡ false
newer_some None None x e = absurd (cc)
newer_some None (Some o) x e = refl
newer_some (Some c) o x e = refl

pub told_stays : (past : List Entry) (e : Entry) (a j r : ℕ) → Told past a j r → Told (e ∷ past) a j r
told_stays past e a j r h = newer_some (cause_with past e r a j None) (heard_cause past a j r) (if is_of a e then cause_closed (jobs past a) j r e.kind else None) h

newer_first : (c o : Option Cause) → option_is_none c ≡ false → option_is_none (newer_cause c o) ≡ false
newer_first None o e = absurd (cc)
newer_first (Some c) o e = refl

pub told_now : (past : List Entry) (e : Entry) (a j r : ℕ) → option_is_none (cause_with past e r a j None) ≡ false → Told (e ∷ past) a j r
told_now past e a j r h = newer_first (cause_with past e r a j None) (or_closed past e r a j (heard_cause past a j r)) h

newer_last : (c o x : Option Cause) → option_is_none x ≡ false → option_is_none (newer_cause c (option_or o x)) ≡ false
newer_last (Some c) o x e = refl
newer_last None (Some o) x e = refl
newer_last None None None e = absurd (cc)
newer_last None None (Some x) e = refl

told_closed : (past : List Entry) (e : Entry) (a j r : ℕ) → is_of a e ≡ true → option_is_none (cause_closed (jobs past a) j r e.kind) ≡ false → Told (e ∷ past) a j r
told_closed past e a j r is h =
    newer_last (cause_with past e r a j None) (heard_cause past a j r) (if is_of a e then cause_closed (jobs past a) j r e.kind else None)
    (subst (λ (b : Bool). option_is_none (if b then cause_closed (jobs past a) j r e.kind else None) ≡ false) (sym is) h)

-- ---- an entry of the job

-- it closes the connection, or takes a frame that says why
shuts_with : (past : List Entry) (e : Entry) (r j peer : ℕ) → is_job r j e ≡ true → (peer == r) ≡ false → (list_any (shuts peer) e.sent ≡ true) ⊎ (option_is_none (cause_taken past r peer None e.taken) ≡ false)
    → option_is_none (cause_with past e peer r j None) ≡ false
shuts_with past e r j peer its other says = rw (other, its) (go (list_any (shuts peer) e.sent) (cause_taken past r peer None e.taken) says)
  where
    go : (b : Bool) (o : Option Cause) → (b ≡ true) ⊎ (option_is_none o ≡ false) → option_is_none (if b then Some Closed else o) ≡ false
    go true o h = refl
    go false o (inl h) = absurd (cc)
    go false o (inr h) = h

-- a frame of the peer
taken_cause : (past : List Entry) (r peer : ℕ) (f : FrameView) → f.peer ≡ peer → f.up ≡ false → (c : Cause)
    → cause_said (message_in f.body) (option_map said_of (last_request past (up_of (way_of r f)))) None ≡ Some c → option_is_none (cause_taken past r peer None (Some f)) ≡ false
taken_cause past r peer f is down c says = go (f.peer == peer) (ap (λ n. n == peer) is ∙ eqb_refl peer) f.up down (cause_said (message_in f.body) (option_map said_of (last_request past (up_of (way_of r f)))) None) says
  where
    go : (a : Bool) → a ≡ true → (b : Bool) → b ≡ false → (o : Option Cause) → o ≡ Some c → option_is_none (if a && not b then o else None) ≡ false
    go true p false q None s = absurd (cc)
    go true p false q (Some x) s = refl
    go false p b q o s = absurd (cc)
    go true p true q o s = absurd (cc)

-- **FAILURE to CHECKPRESENT**
pub look_told : SentAreRead → (s : SetUp) (past : List Entry) (e : Entry) (x : Stepped s past e) → OwnPast s past
    → (f : FrameView) → e.taken ≡ Some f → line_in f.body ≡ Some Failure → (p : ℕ) → x.w.phase ≡ AsksLook p → (f.peer == s.number) ≡ false → Told (e ∷ past) s.number x.w.number f.peer
look_told reads_back s past e x past_is f took told p phase other =
    let k = taken_of s past e x f took in
    let says : cause_said (message_in f.body) (option_map said_of (last_request past (up_of (way_of s.number f)))) None ≡ cause_if true None =
    takes_failure reads_back s past past_is e f (Speaks.hears s past e x f took).1 k (said_is f.body Failure told) None ∙ ap (λ q. cause_if (refuses_look q) None) phase in
    told_now past e s.number x.w.number f.peer (shuts_with past e s.number x.w.number f.peer (stepped_own s past e x) other
    (inr (subst (λ o. option_is_none (cause_taken past s.number f.peer None o) ≡ false) (sym took) (taken_cause past s.number f.peer f refl (Speaks.hears s past e x f took).1 _ says))))

-- ---- what shuts an end

fold_shut : (c : End) (fs : List FrameView) → c.opened ≡ true → (fold (λ c f. end_sends c f.body) c fs).opened ≡ false → (g : FrameView) × Member g fs × (g.body ≡ Closing)
fold_shut c [] o shut = absurd (true≢false (sym o ∙ shut))
fold_shut c (g ∷ fs) o shut = go (λ still. fold_shut (end_sends c g.body) fs still shut) g.body refl
  where
    go : ((end_sends c g.body).opened ≡ true → (h : FrameView) × Member h fs × (h.body ≡ Closing)) → (body : FrameText) → g.body ≡ body → (h : FrameView) × Member h (g ∷ fs) × (h.body ≡ Closing)
    go more Closing is = (g, inl refl, is)
    go more Opening is = let z = more (ap (λ (b : FrameText). (end_sends c b).opened) is) in (z.0, inr z.1, z.2)
    go more (Bytes n) is = let z = more (ap (λ (b : FrameText). (end_sends c b).opened) is ∙ o) in (z.0, inr z.1, z.2)
    go more (Line text) is = let z = more (ap (λ (b : FrameText). (end_sends c b).opened) is ∙ o) in (z.0, inr z.1, z.2)

took_shut : (c : End) (f : FrameView) → c.opened ≡ true → (end_takes c f.epoch f.body).opened ≡ false → f.body ≡ Closing
took_shut c f o shut = go f.body refl
  where
    at : (body : FrameText) → f.body ≡ body → (end_takes c f.epoch body).opened ≡ false
    at body is = subst (λ (b : FrameText). (end_takes c f.epoch b).opened ≡ false) is shut

    go : (body : FrameText) → f.body ≡ body → f.body ≡ Closing
    go Closing is = is
    go Opening is = absurd (true≢false (at Opening is))
    go (Bytes n) is = absurd (true≢false (sym o ∙ at (Bytes n) is))
    go (Line text) is = absurd (true≢false (sym o ∙ at (Line text) is))

pub record TookClose (a : EndName) (e : Entry) : Type 0 where
  pub f : FrameView
  pub took : e.taken ≡ Some f
  pub of_end : takes_at a f ≡ true
  pub body_is : f.body ≡ Closing

pub record SentClose (a : EndName) (e : Entry) : Type 0 where
  pub g : FrameView
  pub sent : Member g e.sent
  pub of_end : sends_at a g ≡ true
  pub body_is : g.body ≡ Closing

pub shut_by : (a : EndName) (c : End) (e : Entry) → c.opened ≡ true → (end_after a c e).opened ≡ false → TookClose a e ⊎ SentClose a e
shut_by a c e o shut = by_taken e.taken refl
  where
    sent : (k : Option FrameView) → taken_at a e.taken ≡ k → (end_took c k).opened ≡ true → TookClose a e ⊎ SentClose a e
    sent k is still =
        let z = fold_shut (end_took c k) (sent_at a e.sent) still (subst (λ (q : Option FrameView). (fold (λ c f. end_sends c f.body) (end_took c q) (sent_at a e.sent)).opened ≡ false) is shut) in
        let y = Member-filter_parts (sends_at a) e.sent z.0 z.1 in
        inr (record { g = z.0; sent = y.0; of_end = y.1; body_is = z.2 })

    by_taken : (k : Option FrameView) → e.taken ≡ k → TookClose a e ⊎ SentClose a e
    by_taken None took = sent None (ap (taken_at a) took) o
    by_taken (Some f) took = by_end (takes_at a f) refl
      where
        by_end : (b : Bool) → takes_at a f ≡ b → TookClose a e ⊎ SentClose a e
        by_end false off = sent None (ap (taken_at a) took ∙ (rw off refl)) o
        by_end true of_end = by_open (end_takes c f.epoch f.body).opened refl
          where
            by_open : (b : Bool) → (end_takes c f.epoch f.body).opened ≡ b → TookClose a e ⊎ SentClose a e
            by_open true still = sent (Some f) (ap (taken_at a) took ∙ (rw of_end refl)) still
            by_open false is = inl (record { f = f; took = took; of_end = of_end; body_is = took_shut c f o is })

-- a frame of a client's end
pub client_taken : (peer slot : ℕ) (f : FrameView) → takes_at (client_end peer slot) f ≡ true → (f.peer ≡ peer) × (f.slot ≡ slot) × (f.up ≡ false)
client_taken peer slot f e =
    let two = and_parts ((f.peer == peer) && (f.slot == slot)) (same_bool true (if f.up then false else true)) e in
    let one = and_parts (f.peer == peer) (f.slot == slot) two.0 in
    (eqb-true f.peer peer one.0, eqb-true f.slot slot one.1, down f.up two.1)
  where
    down : (b : Bool) → same_bool true (if b then false else true) ≡ true → b ≡ false
    down true h = absurd (cc)
    down false h = refl

pub client_sent : (peer slot : ℕ) (g : FrameView) → sends_at (client_end peer slot) g ≡ true → (g.peer ≡ peer) × (g.slot ≡ slot) × (g.up ≡ true)
client_sent peer slot g e =
    let two = and_parts ((g.peer == peer) && (g.slot == slot)) (same_bool g.up true) e in
    let one = and_parts (g.peer == peer) (g.slot == slot) two.0 in
    (eqb-true g.peer peer one.0, eqb-true g.slot slot one.1, same_bool_is g.up true two.1)

closing_closes : (body : FrameText) → body ≡ Closing → is_close (message_in body) ≡ true
closing_closes body is = ap (λ b. is_close (message_in b)) is ∙ ap is_close said_closing

-- **its own entry by which its connection is closed tells it so**
pub shut_told : (past : List Entry) (e : Entry) (r j peer slot : ℕ) (c : End) → is_job r j e ≡ true → (peer == r) ≡ false → c.opened ≡ true → (end_after (client_end peer slot) c e).opened ≡ false
    → Told (e ∷ past) r j peer
shut_told past e r j peer slot c its other o shut = told_now past e r j peer (shuts_with past e r j peer its other (elim (shut_by (client_end peer slot) c e o shut) [
  | inl t ↦ inr (subst (λ k. option_is_none (cause_taken past r peer None k) ≡ false) (sym t.took)
      (let at = client_taken peer slot t.f t.of_end in
      taken_cause past r peer t.f at.0 at.2 Closed (ap (λ (m : Said). cause_said m (option_map said_of (last_request past (up_of (way_of r t.f)))) None) (ap message_in t.body_is ∙ said_closing))))
  | inr t ↦ inl (let at = client_sent peer slot t.g t.of_end in
      list_any_member (shuts peer) e.sent t.g t.sent (let q : (t.g.peer == peer) ≡ true = ap (λ n. n == peer) at.0 ∙ eqb_refl peer in rw (q, at.2, closing_closes t.g.body t.body_is) refl))
]))

-- ---- an entry that is no step of the job

pub runs_in : (past : List Entry) (r : ℕ) (w : Work) → Member w (works past r) → in_slot (jobs past r) w.number w.slot ≡ true
runs_in past r w m = subst (λ js. in_slot js w.number w.slot ≡ true) (jobs_are past r) (go (works past r) m)
  where
    go : (ws : List Work) → Member w ws → in_slot (map running_job ws) w.number w.slot ≡ true
    go [] m = absurd m
    go (v ∷ ws) (inl m) =
        let h : ((v.number == w.number) && (v.slot == w.slot)) ≡ true = subst (λ (y : Work). ((y.number == w.number) && (y.slot == w.slot)) ≡ true) m (rw (eqb_refl w.number, eqb_refl w.slot) refl) in
        rw h refl
    go (v ∷ ws) (inr m) = or_true ((v.number == w.number) && (v.slot == w.slot)) (go ws m)
      where
        or_true : (b : Bool) → in_slot (map running_job ws) w.number w.slot ≡ true → (b || in_slot (map running_job ws) w.number w.slot) ≡ true
        or_true true h = refl
        or_true false h = h

pub no_close : (a : EndName) (e : Entry) → e.taken ≡ None → e.sent ≡ [] → TookClose a e ⊎ SentClose a e → ⊥
no_close a e none nothing (inl t) = let bad : None ≡ Some t.f = sym none ∙ t.took in cc
no_close a e none nothing (inr t) = subst (Member t.g) nothing t.sent

-- an entry that comes at any point closes the end as a Close of it
come_told : (s : SetUp) (past : List Entry) (e : Entry) → is_of s.number e ≡ true → (w : Work) → Member w (works past s.number) → (peer : ℕ) → e.taken ≡ None
    → TookClose (job_end w peer) e ⊎ SentClose (job_end w peer) e → (kind : EntryKind) → e.kind ≡ kind → ((clock : ℕ) → kind ≢ Crash clock) → MayCome s (state_of s past) e.lines e.sent kind → Told (e ∷ past) s.number w.number peer
come_told s past e is w m peer none by (Begin job what) kind alive may = absurd (no_close (job_end w peer) e none may.2 by)
come_told s past e is w m peer none by (Gain Script size key) kind alive may = absurd (no_close (job_end w peer) e none may.2 by)
come_told s past e is w m peer none by (Log file) kind alive may = absurd (no_close (job_end w peer) e none may.1 by)
come_told s past e is w m peer none by (Compact file) kind alive may = absurd (no_close (job_end w peer) e none may.2 by)
come_told s past e is w m peer none by (Fault call Script) kind alive may = absurd (no_close (job_end w peer) e none may.2 by)
come_told s past e is w m peer none by (Crash clock) kind alive may = absurd (alive clock refl)
come_told s past e is w m peer none (inl t) (Close p slot client) kind alive may = absurd (let bad : None ≡ Some t.f = sym none ∙ t.took in cc)
come_told s past e is w m peer none (inr t) (Close p slot client) kind alive may =
    told_closed past e s.number w.number peer is (subst (λ (k : EntryKind). option_is_none (cause_closed (jobs past s.number) w.number peer k) ≡ false) (sym kind) (closed client (up_is ∙ at.2)))
  where
    a : EndName
    a = record { peer = p; slot = slot; client = client }

    at : (t.g.peer ≡ peer) × (t.g.slot ≡ w.slot) × (t.g.up ≡ true)
    at = client_sent peer w.slot t.g t.of_end

    from : Member t.g (frames a (end_at past s.number a) (Closing ∷ []))
    from = go (end_at past s.number a).opened (subst (Member t.g) may.3 t.sent)
      where
        go : (b : Bool) → Member t.g (if b then frames a (end_at past s.number a) (Closing ∷ []) else []) → Member t.g (frames a (end_at past s.number a) (Closing ∷ []))
        go true i = i
        go false i = absurd i

    place : Member t.g.body (Closing ∷ []) × (t.g.peer ≡ p) × (t.g.slot ≡ slot) × (t.g.up ≡ client)
    place = member_frames a (end_at past s.number a) (Closing ∷ []) t.g from

    up_is : client ≡ t.g.up
    up_is = sym place.3

    closed : (b : Bool) → b ≡ true → option_is_none (cause_closed (jobs past s.number) w.number peer (Close p slot b)) ≡ false
    closed false h = absurd (cc)
    closed true h =
        let same : (p == peer) ≡ true = ap (λ n. n == peer) (sym place.1 ∙ at.0) ∙ eqb_refl peer in
        let runs : in_slot (jobs past s.number) w.number slot ≡ true = subst (λ n. in_slot (jobs past s.number) w.number n ≡ true) (sym at.1 ∙ place.2) (runs_in past s.number w m) in
        rw (same, runs) refl
come_told s past e is w m peer none by kind k alive may = absurd may

-- **an entry that is no step of the job, and closes its connection, tells it so**
pub still_told : (s : SetUp) (past : List Entry) (words : ℕ → Option Word) (e : Entry) → OwnRun s past → OwnPart s past words e → is_of s.number e ≡ true → (w : Work) → Member w (works past s.number)
    → ((clock : ℕ) → e.kind ≢ Crash clock) → (peer : ℕ) → (peer == s.number) ≡ false → (end_at past s.number (job_end w peer)).opened ≡ true
    → (end_after (job_end w peer) (end_at past s.number (job_end w peer)) e).opened ≡ false → Told (e ∷ past) s.number w.number peer
still_told s past words e run own is w m alive peer other o shut = elim (who s past words e own) [
  | inl x ↦ elim (x.2) [ inl none ↦ absurd (no_close (job_end w peer) e x.1.takes_none none by) | inr y ↦ come_told s past e is w m peer y.takes_none by e.kind refl alive y.may ]
  | inr x ↦ elim x [ inl y ↦ absurd (session y.1 by) | inr z ↦ by_job z ]
]
  where
    by : TookClose (job_end w peer) e ⊎ SentClose (job_end w peer) e
    by = shut_by (job_end w peer) (end_at past s.number (job_end w peer)) e o shut

    -- a job's step that uses the end is of this job
    by_job : Stepped s past e → Told (e ∷ past) s.number w.number peer
    by_job x =
        let same : x.w ≡ w = same_slot_same_work s past run x.w w (stepped_runs s past e x) m (slot by) in
        shut_told past e s.number w.number peer w.slot (end_at past s.number (job_end w peer)) (subst (λ (v : Work). is_job s.number v.number e ≡ true) same (stepped_own s past e x)) other o shut
      where
        slot : TookClose (job_end w peer) e ⊎ SentClose (job_end w peer) e → x.w.slot ≡ w.slot
        slot (inl t) = sym (Speaks.hears s past e x t.f t.took).0 ∙ (client_taken peer w.slot t.f t.of_end).1
        slot (inr t) = sym (Speaks.speaks s past e x t.g t.sent).0 ∙ (client_sent peer w.slot t.g t.of_end).1

    session : BySessionAt s past e → TookClose (job_end w peer) e ⊎ SentClose (job_end w peer) e → ⊥
    session x (inl t) = true≢false (sym (session_takes_up s past e x.0 x.1 x.3 t.f t.took) ∙ (client_taken peer w.slot t.f t.of_end).2)
    session x (inr t) = true≢false (sym (client_sent peer w.slot t.g t.of_end).2 ∙ (in_says s e (speaks s past e x) t.g t.sent).3)
