-- What an own entry does at a client's end of a running job that is open after it: nothing, or it is the job's step.
use Rattle.std.proofs.Common.{◌≡◌, ◌≢◌, ℕ, Bool, true, false, List, [], ◌∷◌, Option, Some, None, ◌⊎◌, inl, inr, refl, sym, ap, ◌∙◌, subst}
use Rattle.std.specs.Prelude.{if◌then◌else◌, ◌==◌, ◌&&◌}
use Rattle.std.proofs.lemmas.Bool.{true≢false, eqb-true, and_right}
use Rattle.annex_base.specs.Lists.{Each, Member}
use Rattle.annex_base.specs.declared.kinds.Word.{Word}
use Rattle.annex_base.proofs.Lists.{Each-filter, filter_none}
use Rattle.annex_base.proofs.Conditions.{eqb_refl}
use Rattle.annex_base.specs.Bools.{same_bool}
use Rattle.step_facts.proofs.Below.{SentAreRead}
use Rattle.run_data.specs.declared.entry.Entry.{Entry}
use Rattle.run_data.specs.declared.entry.EntryKind.TheVariants.{Begin, End as ends_job}
use Rattle.run_data.specs.declared.entry.FrameView.{FrameView}
use Rattle.run_data.specs.declared.entry.FrameText.TheVariants.{Closing}
use Rattle.run_data.specs.declared.job.Job.{Job}
use Rattle.run_data.specs.declared.job.Outcome.{Outcome}
use Rattle.run_model.specs.Past.{is_of}
use Rattle.node_model.specs.Rows.{option_is}
use Rattle.node_model.specs.Slots.{job_of}
use Rattle.node_model.specs.Ends.{End, EndName, sends_at, sent_at, server_end, taken_at, takes_at}
use Rattle.run_model.specs.Logs.{is_step}
use Rattle.node_model.specs.SetUp.{SetUp}
use Rattle.run_model.specs.States.{state_of, end_at, rows_at, works}
use Rattle.node_model.specs.AnyTime.{MayCome}
use Rattle.node_model.specs.Jobs.{Work, job_end, new_work, work_kind}
use Rattle.node_model.specs.Found.{IsJobEntry}
use Rattle.run_model.specs.Run.{IsStep, OwnPart, OwnRun, ComesAnyTime}
use Rattle.step_facts.proofs.StepFacts.{kind_found}
use Rattle.step_facts.proofs.JobSteps.{Begins, KindAfter, Origin, Stays, Stepped, Steps, origin, stepped_found, stepped_job, stepped_runs, still_after, turn_at}
use Rattle.job_facts.proofs.NotDropping.{entry_moved, moved_on}
use Rattle.step_facts.proofs.ClientTurns.{made_entry, moved}
use Rattle.step_facts.proofs.WorkNumbers.{same_slot_same_work}
use Rattle.step_facts.proofs.ServerEnds.{GivesHere, Shuts, TakesHere, come_closes, gives_elsewhere, takes_elsewhere}
use Rattle.step_facts.proofs.EndMoves.{end_own, end_shuts, sends_all, shuts_none}
use Rattle.step_facts.proofs.NewSessions.{close_shuts}
use Rattle.job_facts.proofs.OpenEnds.{shut}
use Rattle.step_facts.proofs.Makers.{who}
use Rattle.job_facts.proofs.Speaks.{hears, speaks}

-- nothing happens there
pub record Quiet (s : SetUp) (past : List Entry) (e : Entry) (x : Work) (a : EndName) : Type 0 where
  pub ran : Member x (works past s.number)
  pub takes_none : taken_at a e.taken ≡ None
  pub sends_none : sent_at a e.sent ≡ []
  pub same : end_at (e ∷ past) s.number a ≡ end_at past s.number a

-- or the job's step, which goes on
pub record Moved (s : SetUp) (past : List Entry) (e : Entry) (x : Work) : Type 0 where
  pub by : Stepped s past e
  pub goes_on : (j : ℕ) (outcome : Outcome) → by.made.kind ≢ ends_job j outcome
  pub work_is : x ≡ moved (turn_at s past e by) by.made by.made.kind
  pub stood : (by.w ≡ x) ⊎ ((b : Steps s past e x) × (b.by ≡ by))

abbrev pub ClientDoes : SetUp → List Entry → Entry → Work → EndName → Type 0
ClientDoes s past e x a = Quiet s past e x a ⊎ Moved s past e x

module _ (reads_back : SentAreRead) (s : SetUp) (past : List Entry) (e : Entry) (run : OwnRun s (e ∷ past)) (is : is_of s.number e ≡ true) (x : Work) (p : ℕ) (now : (end_at (e ∷ past) s.number (job_end x p)).opened ≡ true) where
  abbrev a : EndName
  a = job_end x p

  -- where it closes at most, it does nothing, as the end is open
  closes_none : Shuts a e → Member x (works past s.number) → Quiet s past e x a
  closes_none z ran = go (sent_at a e.sent) refl
    where
      after : end_at (e ∷ past) s.number a ≡ sends_all (end_at past s.number a) (sent_at a e.sent)
      after = end_own s.number past a e is ∙ end_shuts a (end_at past s.number a) e z

      go : (fs : List FrameView) → sent_at a e.sent ≡ fs → Quiet s past e x a
      go [] none = record { ran = ran; takes_none = z.takes_none; sends_none = none; same = after ∙ ap (sends_all (end_at past s.number a)) none }
      go (f ∷ fs) some =
          let closes : Each (λ g. g.body ≡ Closing) (f ∷ fs) = subst (Each (λ g. g.body ≡ Closing)) some z.closes in
          let closed : (sends_all (end_at past s.number a) (f ∷ fs)).opened ≡ false = close_shuts (end_at past s.number a) (f ∷ fs) (shuts_none (f ∷ fs) closes) (rw (closes.0) refl) in
          absurd (true≢false (sym now ∙ (ap (λ (c : End). c.opened) after ∙ (ap (λ gs. (sends_all (end_at past s.number a) gs).opened) some ∙ closed))))

  -- a step of a job in another slot
  other_slot : (y : Stepped s past e) → (y.w.slot == x.slot) ≡ false → Shuts a e
  other_slot y apart = record { takes_none = takes e.taken refl; closes = subst (Each (λ g. g.body ≡ Closing)) (sym none) tt }
    where
      other : (f : FrameView) → f.slot ≡ y.w.slot → (f.slot == x.slot) ≡ false
      other f at = ap (λ n. n == x.slot) at ∙ apart

      not_here : (b c : Bool) → c ≡ false → ((b && c)) ≡ false
      not_here true c e = e
      not_here false c e = refl

      off : (f : FrameView) (c : Bool) → f.slot ≡ y.w.slot → ((f.peer == p) && (f.slot == x.slot) && c) ≡ false
      off f c at = ap (λ b. b && c) (not_here (f.peer == p) (f.slot == x.slot) (other f at))

      all : (fs : List FrameView) → ((g : FrameView) → Member g fs → g.slot ≡ y.w.slot) → Each (λ g. sends_at a g ≡ false) fs
      all [] h = tt
      all (f ∷ fs) h = (off f (same_bool f.up true) (h f (inl refl)), all fs (λ g m. h g (inr m)))

      none : sent_at a e.sent ≡ []
      none = filter_none (sends_at a) e.sent (all e.sent (λ g m. (speaks s past e y g m).0))

      takes : (o : Option FrameView) → e.taken ≡ o → taken_at a o ≡ None
      takes None took = refl
      takes (Some f) took = let no' : takes_at a f ≡ false = off f (same_bool true (if f.up then false else true)) (hears s past e y f took).0 in rw no' refl

  -- a job that begins has no open end
  begins_shut : (words : ℕ → Option Word) → OwnPart s past words e → (b : Begins s past e x) → ⊥
  begins_shut words own b = elim (own.does) [
    | inl z ↦ steps z
    | inr z ↦ (let may = subst (MayCome s (state_of s past) e.lines e.sent) b.kind_is z.may in
        let shuts : Shuts (job_end (new_work (works past s.number) b.job b.what) p) e = record { takes_none = ap (taken_at (job_end (new_work (works past s.number) b.job b.what) p)) z.takes_none; closes = subst (λ fs. Each (λ g. g.body ≡ Closing) (sent_at (job_end (new_work (works past s.number) b.job b.what) p) fs)) (sym may.2) tt } in
        let closed = shut reads_back s past run.1 b.job b.what p may.0.slot_free in
        let after : end_at (e ∷ past) s.number (job_end (new_work (works past s.number) b.job b.what) p) ≡ end_at past s.number (job_end (new_work (works past s.number) b.job b.what) p) =
        end_own s.number past (job_end (new_work (works past s.number) b.job b.what) p) e is ∙ (end_shuts (job_end (new_work (works past s.number) b.job b.what) p) (end_at past s.number (job_end (new_work (works past s.number) b.job b.what) p)) e shuts
        ∙ ap (λ fs. sends_all (end_at past s.number (job_end (new_work (works past s.number) b.job b.what) p)) (sent_at (job_end (new_work (works past s.number) b.job b.what) p) fs)) may.2) in
        true≢false (sym (subst (λ (y : Work). (end_at (e ∷ past) s.number (job_end y p)).opened ≡ true) b.work_is now) ∙ (ap (λ (c : End). c.opened) after ∙ closed)))
  ]
    where
      steps : IsStep s past words e → ⊥
      steps z = elim (kind_found s (state_of s past) z.look z.made (Begin b.job b.what) z.makes (sym (ap (λ (y : Entry). y.kind) z.is) ∙ b.kind_is) (λ h. h)) [
        | inl y ↦ y.found
        | inr y ↦ y.found
      ]

  -- a step of the same job
  same_moved : (y : Stepped s past e) → (b : Stays s past e x) → y.w ≡ x → Moved s past e x
  same_moved y b same = record { by = y; goes_on = goes_on; work_is = sym same ∙ (sym unmoved ∙ entry); stood = inl same }
    where
      kind_is : e.kind ≡ y.made.kind
      kind_is = ap (λ (z : Entry). z.kind) y.is

      goes_on : (j : ℕ) (outcome : Outcome) → y.made.kind ≢ ends_job j outcome
      goes_on j outcome k =
          let found = subst (IsJobEntry (turn_at s past e y) y.made) k (stepped_found s past e y).found in
          let number : j ≡ x.number = found.number_is ∙ ap (λ (w : Work). w.number) same in
          b.goes_on outcome (kind_is ∙ (k ∙ ap (λ n. ends_job n outcome) number))

      no_begin : (job : ℕ) (what : Job) → e.kind ≢ Begin job what
      no_begin job what k = subst (IsJobEntry (turn_at s past e y) y.made) (sym kind_is ∙ k) (stepped_found s past e y).found

      after : KindAfter s past y.w e e.kind ≡ y.w
      after = still_after s past y.w e e.kind no_begin (subst (λ (w : Work). is_step w.number e.kind ≡ false) (sym same) b.still)

      its : option_is (job_of e.kind) y.w.number ≡ true
      its = ap (λ o. option_is o y.w.number) (stepped_job s past e y) ∙ eqb_refl y.w.number

      unmoved : work_kind (rows_at past s.number) s.number y.w e e.kind ≡ y.w
      unmoved = sym (rw its refl) ∙ after

      entry : work_kind (rows_at past s.number) s.number y.w e e.kind ≡ moved (turn_at s past e y) y.made y.made.kind
      entry = let made : e ≡ made_entry (turn_at s past e y) y.made = y.is in (λ i. work_kind (rows_at past s.number) s.number y.w (made i) (made i).kind)

  stays_does : (words : ℕ → Option Word) → OwnPart s past words e → Stays s past e x → ClientDoes s past e x a
  stays_does words own b = elim (who s past words e own) [
    | inl z ↦ inl (closes_none (record { takes_none = ap (taken_at a) z.1.takes_none; closes = Each-filter (λ g. g.body ≡ Closing) (sends_at a) e.sent (alone z.2) }) b.ran)
    | inr z ↦ elim z [
      | inl y ↦ inl (closes_none (session y.1.0 y.1.1 y.1.3) b.ran)
      | inr y ↦ slots y (y.w.slot == x.slot) refl
    ]
  ]
    where
      alone : (e.sent ≡ []) ⊎ ComesAnyTime s past e → Each (λ g. g.body ≡ Closing) e.sent
      alone (inl none) = subst (Each (λ g. g.body ≡ Closing)) (sym none) tt
      alone (inr z) = come_closes s past e.lines e.sent e.kind z.may

      session : (c q : ℕ) → TakesHere s past (server_end c q) e ⊎ GivesHere s past (server_end c q) e → Shuts a e
      session c q (inl z) = takes_elsewhere s past (server_end c q) a e (and_right ((c == p) && (q == x.slot)) (same_bool false true) refl) z
      session c q (inr z) = gives_elsewhere s past (server_end c q) a e (and_right ((c == p) && (q == x.slot)) (same_bool false true) refl) z

      slots : (y : Stepped s past e) → (c : Bool) → (y.w.slot == x.slot) ≡ c → ClientDoes s past e x a
      slots y false apart = inl (closes_none (other_slot y apart) b.ran)
      slots y true same = inr (same_moved y b (same_slot_same_work s past run.1 y.w x (stepped_runs s past e y) b.ran (eqb-true y.w.slot x.slot same)))

  pub client_does : Member x (works (e ∷ past) s.number) → ClientDoes s past e x a
  client_does m = by (origin s past e run is x m)
    where
      by : Origin s past e x → ClientDoes s past e x a
      by (inl b) = absurd (begins_shut (run.0 is).0 (run.0 is).1 b)
      by (inr (inl b)) = stays_does (run.0 is).0 (run.0 is).1 b
      by (inr (inr b)) = inr (record { by = b.by; goes_on = moved_on s past e x b; work_is = entry_moved s past e x b; stood = inr (b, refl) })
