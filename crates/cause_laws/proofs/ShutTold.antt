-- **In every run a connection on which a job stands is closed by a Close that it took, or by an entry here**: as between two repositories of a
-- run no wrong message comes, no job closes a connection but a copy whose content is gone or too short.
use Rattle.run_model.specs.States.{state_of, end_at, rows_at, works}
use Rattle.std.proofs.Common.{◌≡◌, ◌≢◌, ℕ, Bool, true, false, List, [], ◌∷◌, Option, Some, None, ◌⊎◌, inl, inr, refl, sym, ap, ◌∙◌, subst}
use Rattle.std.specs.Prelude.{if◌then◌else◌, ◌==◌}
use Rattle.std.proofs.lemmas.Bool.{true≢false}
use Rattle.annex_base.specs.Lists.{Each, Member}
use Rattle.annex_base.proofs.Conditions.{eqb_refl}
use Rattle.step_facts.proofs.Below.{SentAreRead}
use Rattle.run_data.specs.declared.entry.Entry.{Entry}
use Rattle.run_data.specs.declared.entry.EntryKind.{EntryKind}
use Rattle.run_data.specs.declared.entry.EntryKind.TheVariants.{Bar, Begin, Close, Compact, Crash, Fault, Gain, Gone, Log, Order, Share, Talk, End as ends_job}
use Rattle.run_data.specs.declared.entry.By.TheVariants.{Script}
use Rattle.run_data.specs.declared.entry.FrameView.{FrameView}
use Rattle.run_data.specs.declared.entry.FrameText.TheVariants.{Closing, Line}
use Rattle.run_data.specs.declared.job.Outcome.{Outcome}
use Rattle.run_data.specs.declared.run.Run.{Run}
use Rattle.run_data.specs.Repos.{IsSetUp}
use Rattle.node_model.specs.Slots.{RunningJob}
use Rattle.run_model.specs.Past.{is_of, jobs}
use Rattle.run_model.specs.Said.{message_in}
use Rattle.run_model.specs.Frames.{is_job}
use Rattle.run_model.specs.Drops.{in_slot}
use Rattle.run_model.specs.Logs.{is_step}
use Rattle.run_model.specs.Causes.{ClosedWith, OpensWith}
use Rattle.p2p_wire.specs.declared.message.Message.TheVariants.{Success}
use Rattle.p2p_wire.specs.Messages.{order_of, text_of}
use Rattle.node_model.specs.SetUp.{SetUp}
use Rattle.node_model.specs.AnyTime.{MayCome}
use Rattle.node_model.specs.Ends.{End, EndName, end_after, frames}
use Rattle.node_model.specs.Jobs
use Rattle.node_model.specs.Jobs.{Work, job_end, partner, running_job}
use Rattle.node_model.specs.Look.{Effect}
use Rattle.node_model.specs.JobStep.{Turn, end_with, me}
use Rattle.node_model.specs.Found.{IsJobEntry}
use Rattle.run_model.specs.Run.{OwnPart, OwnRun, RunPast, RunStep, set_up}
use Rattle.run_laws.proofs.SaidDown.{said_closing}
use Rattle.step_facts.proofs.JobKept.{kind_kept}
use Rattle.step_facts.proofs.JobSteps.{Origin, Stays, Stepped, Steps, origin, stepped_found, stepped_runs, turn_at}
use Rattle.job_facts.proofs.NotDropping.{entry_moved, moved_on}
use Rattle.step_facts.proofs.WorkNumbers.{same_slot_same_work}
use Rattle.step_facts.proofs.EndMoves.{end_own}
use Rattle.step_facts.proofs.ServerEnds.{BySessionAt}
use Rattle.step_facts.proofs.Makers.{session_takes_up, who}
use Rattle.job_facts.proofs.Speaks
use Rattle.cause_laws.proofs.Refusals.{stepped_own}
use Rattle.cause_laws.proofs.ClosedCauses.{closed_grows}
use Rattle.cause_laws.proofs.OpenedBy.{opened_told}
use Rattle.step_facts.proofs.ClientTurns.{closed_alone, made_entry, moved, rows_of, talker, talker_slot}
use Rattle.run_laws.proofs.HeardCauses.{SentClose, TookClose, client_sent, client_taken, no_close, runs_in, shut_by}
use Rattle.run_laws.proofs.SessionOwn.{in_says, member_frames, speaks}
use Rattle.past_facts.proofs.OwnRuns.{Part, own_past, part_of}
use Rattle.cause_laws.proofs.ConversationClient
use Rattle.cause_laws.proofs.ConversationClient.{Conversing}
use Rattle.cause_laws.proofs.Conversations.{conversing}

-- ---- by what it is closed

-- a Close of the peer is taken
pub took_closes : (past : List Entry) (e : Entry) (r j p slot : ℕ) → is_job r j e ≡ true → OpensWith past r j p → TookClose (record { peer = p; slot = slot; client = true }) e → ClosedWith (e ∷ past) r j p
took_closes past e r j p slot its opens t =
    let at = client_taken p slot t.f t.of_end in
    inl (record { entry = e; before = past; occurs = inl (refl, refl); own = its; f = t.f; takes_it = t.took; peer_is = at.0; down = at.2; says = ap message_in t.body_is ∙ said_closing }, opens)

-- an entry that comes at any point closes it as a Close of it
come_closed : (s : SetUp) (past : List Entry) (e : Entry) → is_of s.number e ≡ true → (w : Work) → Member w (works past s.number) → (p : ℕ) → OpensWith past s.number w.number p → e.taken ≡ None
    → TookClose (job_end w p) e ⊎ SentClose (job_end w p) e → (kind : EntryKind) → e.kind ≡ kind → ((clock : ℕ) → kind ≢ Crash clock) → MayCome s (state_of s past) e.lines e.sent kind → ClosedWith (e ∷ past) s.number w.number p
come_closed s past e is w m p opens none by (Begin job what) kind alive may = absurd (no_close (job_end w p) e none may.2 by)
come_closed s past e is w m p opens none by (Gain Script size key) kind alive may = absurd (no_close (job_end w p) e none may.2 by)
come_closed s past e is w m p opens none by (Log file) kind alive may = absurd (no_close (job_end w p) e none may.1 by)
come_closed s past e is w m p opens none by (Compact file) kind alive may = absurd (no_close (job_end w p) e none may.2 by)
come_closed s past e is w m p opens none by (Fault call Script) kind alive may = absurd (no_close (job_end w p) e none may.2 by)
come_closed s past e is w m p opens none by (Crash clock) kind alive may = absurd (alive clock refl)
come_closed s past e is w m p opens none (inl t) (Close q slot client) kind alive may = absurd (let bad : None ≡ Some t.f = sym none ∙ t.took in cc)
come_closed s past e is w m p opens none (inr t) (Close q slot client) kind alive may = inr (
  record {
    entry = e;
    before = past;
    occurs = inl (refl, refl);
    own = is;
    slot = slot;
    kind_is = kind ∙ (ap (λ n. Close n slot client) (sym place.1 ∙ at.0) ∙ ap (Close p slot) (sym place.3 ∙ at.2));
    slot_is = subst (λ n. in_slot (jobs past s.number) w.number n ≡ true) (sym at.1 ∙ place.2) (runs_in past s.number w m);
  },
  opens,
)
  where
    at : (t.g.peer ≡ p) × (t.g.slot ≡ w.slot) × (t.g.up ≡ true)
    at = client_sent p w.slot t.g t.of_end

    from : Member t.g (frames (record { peer = q; slot = slot; client = client }) (end_at past s.number (record { peer = q; slot = slot; client = client })) (Closing ∷ []))
    from = go (end_at past s.number (record { peer = q; slot = slot; client = client })).opened (subst (Member t.g) may.3 t.sent)
      where
        go : (b : Bool) → Member t.g (if b then frames (record { peer = q; slot = slot; client = client }) (end_at past s.number (record { peer = q; slot = slot; client = client })) (Closing ∷ []) else [])
            → Member t.g (frames (record { peer = q; slot = slot; client = client }) (end_at past s.number (record { peer = q; slot = slot; client = client })) (Closing ∷ []))
        go true i = i
        go false i = absurd i

    place : Member t.g.body (Closing ∷ []) × (t.g.peer ≡ q) × (t.g.slot ≡ slot) × (t.g.up ≡ client)
    place = member_frames (record { peer = q; slot = slot; client = client }) (end_at past s.number (record { peer = q; slot = slot; client = client })) (Closing ∷ []) t.g from
come_closed s past e is w m p opens none by kind k alive may = absurd may

-- a session speaks at no client's end
session_no : (s : SetUp) (past : List Entry) (words : _) (e : Entry) → OwnPart s past words e → (p slot : ℕ) → BySessionAt s past e → TookClose (record { peer = p; slot = slot; client = true }) e ⊎ SentClose (record { peer = p; slot = slot; client = true }) e → ⊥
session_no s past words e own p slot x (inl t) = true≢false (sym (session_takes_up s past e x.0 x.1 x.3 t.f t.took) ∙ (client_taken p slot t.f t.of_end).2)
session_no s past words e own p slot x (inr t) = true≢false (sym (client_sent p slot t.g t.of_end).2 ∙ (in_says s e (speaks s past e x) t.g t.sent).3)

-- a job that sends a Close, and isn't to end, talks
line_closes : (a : EndName) (c : End) (text : List ℕ) (g : FrameView) → Member g (frames a c (Line text ∷ [])) → g.body ≡ Closing → ⊥
line_closes a c text g (inl is) body = let no' : Line text ≡ Closing = sym (ap (λ (f : FrameView). f.body) is) ∙ body in cc
line_closes a c text g (inr m) body = m

close_talks : (t : Turn) (m : Effect) (kind : EntryKind) → IsJobEntry t m kind → ((j : ℕ) (outcome : Outcome) → kind ≢ ends_job j outcome) → (g : FrameView) → Member g m.sent → g.body ≡ Closing → kind ≡ Talk (Some t.w.number)
close_talks t m (Share hold end by key) x on g k body = absurd (subst (Member g) x.sends_none k)
close_talks t m (Bar j need key) x on g k body = absurd (subst (Member g) x.sends_none k)
close_talks t m (Gone by key) x on g k body = absurd (subst (Member g) x.sends_none k)
close_talks t m (Order j peer deadline need key) x on g k body = absurd (line_closes (job_end t.w peer) (end_with t peer) (text_of (order_of deadline key)) g (subst (Member g) x.sent_is k) body)
close_talks t m (Gain by size key) x on g k body = absurd (line_closes (job_end t.w x.peer) (end_with t x.peer) (text_of Success) g (subst (Member g) x.sent_is k) body)
close_talks t m (ends_job j outcome) x on g k body = absurd (on j outcome refl)
close_talks t m (Talk (Some j)) x on g k body = ap (λ n. Talk (Some n)) x.0
close_talks t m (Fault call by) x on g k body = absurd (subst (Member g) x.1 k)
close_talks t m kind x on g k body = absurd x

-- a talk that leaves its connection closed brings the job away
talk_away : (t : Turn) (m : Effect) (p j : ℕ) → partner t.w.what.peer t.w.phase ≡ Some p → (end_after (job_end t.w p) (t.ends (job_end t.w p)) (made_entry t m)).opened ≡ false → partner t.w.what.peer (moved t m (Talk (Some j))).phase ≡ None
talk_away t m p j on shut = subst (λ (o : Option ℕ). partner t.w.what.peer (Jobs.talks_on (rows_of t) (me t) y (made_entry t m) o).phase ≡ None) (sym on)
    (subst (λ (b : Bool). partner t.w.what.peer (if b then Jobs.talks (rows_of t) (me t) y (made_entry t m) m.sent else Jobs.closed_part (me t) y p y.part).phase ≡ None) (sym closed) (closed_alone t.w.what.peer (me t) y p y.part))
  where
    y : Work
    y = talker t m.taken

    same : job_end y p ≡ job_end t.w p
    same = ap (λ (q : ℕ). let a : EndName = record { peer = p; slot = q; client = true } in a) (talker_slot t m.taken)

    closed : (end_after (job_end y p) (t.ends (job_end y p)) (made_entry t m)).opened ≡ false
    closed = ap (λ (a : EndName). (end_after a (t.ends a) (made_entry t m)).opened) same ∙ shut

-- ---- a job that finds its connection closed was told so

abbrev pub ShutStands : List Entry → ℕ → Type 0
ShutStands past r = (w : Work) → Member w (works past r) → (p : ℕ) → partner w.what.peer w.phase ≡ Some p → (end_at past r (job_end w p)).opened ≡ false → ClosedWith past r w.number p

module _ (reads_back : SentAreRead) (run : Run) (repos : Each IsSetUp run.repos) (past : List Entry) (e : Entry) (h : RunPast (set_up run) past) (step : RunStep (set_up run) past e) (r : ℕ) (own : is_of r e ≡ true) (was : ShutStands past r) where
  abbrev s : SetUp
  s = set_up run r

  part : Part (set_up run) past r e
  part = part_of (set_up run) past e r step own

  own_run : OwnRun s past
  own_run = (own_past run repos r past h).run

  run_now : OwnRun s (e ∷ past)
  run_now = (own_past run repos r (e ∷ past) (step, h)).run

  talking : Conversing past r
  talking = conversing reads_back run repos past h r

  opened : (w : Work) → Member w (works past r) → (p : ℕ) → (end_at past r (job_end w p)).opened ≡ true → OpensWith past r w.number p
  opened = opened_told reads_back s past (own_past run repos r past h)

  grows : (w : Work) (p : ℕ) → ClosedWith past r w.number p → ClosedWith (e ∷ past) r w.number p
  grows w p x = closed_grows r e past (running_job w) p x

  closed_after : (w : Work) (p : ℕ) → (end_at (e ∷ past) r (job_end w p)).opened ≡ false → (end_after (job_end w p) (end_at past r (job_end w p)) e).opened ≡ false
  closed_after w p o = sym (ap (λ (c : End). c.opened) (end_own r past (job_end w p) e own)) ∙ o

  -- a job's step that uses the end is of this job
  by_job : (x : Work) (p : ℕ) → (b : Stays s past e x) → (y : Stepped s past e) → OpensWith past r x.number p → TookClose (job_end x p) e ⊎ SentClose (job_end x p) e → ClosedWith (e ∷ past) r x.number p
  by_job x p b y opens by = go by
    where
      slot : TookClose (job_end x p) e ⊎ SentClose (job_end x p) e → y.w.slot ≡ x.slot
      slot (inl t) = sym (Speaks.hears s past e y t.f t.took).0 ∙ (client_taken p x.slot t.f t.of_end).1
      slot (inr t) = sym (Speaks.speaks s past e y t.g t.sent).0 ∙ (client_sent p x.slot t.g t.of_end).1

      same : y.w ≡ x
      same = same_slot_same_work s past own_run y.w x (stepped_runs s past e y) b.ran (slot by)

      kind_is : e.kind ≡ y.made.kind
      kind_is = ap (λ (z : Entry). z.kind) y.is

      not_end : (j : ℕ) (outcome : Outcome) → y.made.kind ≢ ends_job j outcome
      not_end j outcome k =
          let found = subst (IsJobEntry (turn_at s past e y) y.made) k (stepped_found s past e y).found in
          b.goes_on outcome (kind_is ∙ (k ∙ ap (λ n. ends_job n outcome) (found.number_is ∙ ap (λ (w : Work). w.number) same)))

      go : TookClose (job_end x p) e ⊎ SentClose (job_end x p) e → ClosedWith (e ∷ past) r x.number p
      go (inl t) = took_closes past e r x.number p x.slot (subst (λ (w : Work). is_job r w.number e ≡ true) same (stepped_own s past e y own)) opens t
      go (inr t) =
          let talk = close_talks (turn_at s past e y) y.made y.made.kind (stepped_found s past e y).found not_end t.g (subst (Member t.g) (ap (λ (z : Entry). z.sent) y.is) t.sent) t.body_is in
          let still : is_step x.number (Talk (Some y.w.number)) ≡ false = subst (λ (k : EntryKind). is_step x.number k ≡ false) (kind_is ∙ talk) b.still in
          absurd (true≢false (sym (ap (λ (w : Work). w.number == x.number) same ∙ eqb_refl x.number) ∙ still))

  stays_told : (x : Work) (p : ℕ) → Stays s past e x → partner x.what.peer x.phase ≡ Some p → (end_at (e ∷ past) r (job_end x p)).opened ≡ false → ClosedWith (e ∷ past) r x.number p
  stays_told x p b on closed = go (end_at past r (job_end x p)).opened refl
    where
      go : (c : Bool) → (end_at past r (job_end x p)).opened ≡ c → ClosedWith (e ∷ past) r x.number p
      go false o = grows x p (was x b.ran p on o)
      go true o =
          let by = shut_by (job_end x p) (end_at past r (job_end x p)) e o (closed_after x p closed) in
          elim (who s past part.words e part.own) [
            | inl z ↦ elim (z.2) [ inl none ↦ absurd (no_close (job_end x p) e z.1.takes_none none by) | inr y ↦ come_closed s past e own x b.ran p (opened x b.ran p o) y.takes_none by e.kind refl b.no_crash y.may ]
            | inr z ↦ elim z [ inl y ↦ absurd (session_no s past part.words e part.own p x.slot y.1 by) | inr y ↦ by_job x p b y (opened x b.ran p o) by ]
          ]

  steps_told : (x : Work) (p : ℕ) → Steps s past e x → partner x.what.peer x.phase ≡ Some p → (end_at (e ∷ past) r (job_end x p)).opened ≡ false → ClosedWith (e ∷ past) r x.number p
  steps_told x p b on closed = subst (λ n. ClosedWith (e ∷ past) r n p) (sym number) (go (end_at past r (job_end v p)).opened refl)
    where
      v : Work
      v = b.by.w

      like : running_job x ≡ running_job v
      like = ap running_job b.work_is ∙ kind_kept (rows_at past r) r b.by.w e e.kind

      number : x.number ≡ v.number
      number = ap (λ (j : RunningJob). j.number) like

      moved_is : x ≡ moved (turn_at s past e b.by) b.by.made b.by.made.kind
      moved_is = entry_moved s past e x b

      on_moved : partner b.by.w.what.peer (moved (turn_at s past e b.by) b.by.made b.by.made.kind).phase ≡ Some p
      on_moved = ap (λ (o : Option ℕ). partner o (moved (turn_at s past e b.by) b.by.made b.by.made.kind).phase) (sym (ap (λ (j : RunningJob). j.what.peer) like)) ∙ (ap (λ (z : Work). partner x.what.peer z.phase) (sym moved_is) ∙ on)

      closed_v : (end_at (e ∷ past) r (job_end b.by.w p)).opened ≡ false
      closed_v = subst (λ q. (end_at (e ∷ past) r (record { peer = p; slot = q; client = true })).opened ≡ false) (ap (λ (j : RunningJob). j.slot) like) closed

      shut_made : (end_after (job_end b.by.w p) (end_at past r (job_end b.by.w p)) (made_entry (turn_at s past e b.by) b.by.made)).opened ≡ false
      shut_made = subst (λ (z : Entry). (end_after (job_end b.by.w p) (end_at past r (job_end b.by.w p)) z).opened ≡ false) b.by.is (closed_after b.by.w p closed_v)

      on_v : partner b.by.w.what.peer b.by.w.phase ≡ Some p
      on_v = (ConversationClient.keeps reads_back run repos past e h step r own talking b.by (moved_on s past e x b)).0.1 p on_moved shut_made

      go : (c : Bool) → (end_at past r (job_end b.by.w p)).opened ≡ c → ClosedWith (e ∷ past) r b.by.w.number p
      go false o = grows b.by.w p (was b.by.w (stepped_runs s past e b.by) p on_v o)
      go true o = elim (shut_by (job_end b.by.w p) (end_at past r (job_end b.by.w p)) e o (closed_after b.by.w p closed_v)) [
        | inl k ↦ took_closes past e r b.by.w.number p b.by.w.slot (stepped_own s past e b.by own) (opened b.by.w (stepped_runs s past e b.by) p o) k
        | inr k ↦ (let talk = close_talks (turn_at s past e b.by) b.by.made b.by.made.kind (stepped_found s past e b.by).found (moved_on s past e x b) k.g (subst (Member k.g) (ap (λ (z : Entry). z.sent) b.by.is) k.sent) k.body_is in
            let none : partner b.by.w.what.peer (moved (turn_at s past e b.by) b.by.made b.by.made.kind).phase ≡ None =
            subst (λ (q : EntryKind). partner b.by.w.what.peer (moved (turn_at s past e b.by) b.by.made q).phase ≡ None) (sym talk) (talk_away (turn_at s past e b.by) b.by.made p b.by.w.number on_v shut_made) in
            absurd (let both : None ≡ Some p = sym none ∙ on_moved in cc))
      ]

  pub own_stands : ShutStands (e ∷ past) r
  own_stands x m p on closed = by (origin s past e run_now own x m)
    where
      by : Origin s past e x → ClosedWith (e ∷ past) r x.number p
      by (inl b) = absurd (let fresh : None ≡ Some p = subst (λ (z : Work). partner z.what.peer z.phase ≡ Some p) b.work_is on in cc)
      by (inr (inl b)) = stays_told x p b on closed
      by (inr (inr b)) = steps_told x p b on closed

module _ (reads_back : SentAreRead) (run : Run) (repos : Each IsSetUp run.repos) where
  pub closed_told : (past : List Entry) → RunPast (set_up run) past → (r : ℕ) → ShutStands past r
  closed_told [] h r = λ w m p on closed. absurd m
  closed_told (e ∷ past) h r = go (closed_told past h.1 r) (is_of r e) refl
    where
      go : ShutStands past r → (b : Bool) → is_of r e ≡ b → ShutStands (e ∷ past) r
      go was true own = own_stands reads_back run repos past e h.1 h.0 r own was
      go was false other = λ w m p on closed. closed_grows r e past (running_job w) p (was w (rw other at m) p on (rw other at closed))
