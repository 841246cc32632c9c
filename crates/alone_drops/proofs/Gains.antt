-- Nothing is gained while a drop runs alone, and it ends once: so each entry since is one of its own steps, of a session's, or of an owed line.
use Rattle.std.specs.Prelude.{if◌then◌else◌, ◌==◌, filter, not}
use Rattle.std.proofs.Common.{◌≡◌, ℕ, true, List, [], ◌∷◌, ◌++◌, Option, Some, None, ◌⊎◌, inl, inr, refl, sym, ap, ◌∙◌, subst, Bool, false}
use Rattle.std.proofs.lemmas.Bool.{true≢false}
use Rattle.annex_base.specs.Lists.{Each, Member}
use Rattle.annex_base.proofs.Conditions.{eqb_refl}
use Rattle.annex_base.proofs.Options.{first_some-was}
use Rattle.annex_base.proofs.Lists.{Member-filter_parts}
use Rattle.drop_proof.specs.declared.rule.Side.{Side}
use Rattle.run_data.specs.declared.entry.By.{By}
use Rattle.run_data.specs.declared.entry.By.TheVariants.{Script}
use Rattle.run_data.specs.declared.entry.Entry.{Entry}
use Rattle.run_data.specs.declared.entry.EntryKind.{EntryKind}
use Rattle.run_data.specs.declared.entry.EntryKind.TheVariants.{Gain, Log, Fault, End as ends_job, Begin, Crash}
use Rattle.run_data.specs.declared.job.Job.{Job}
use Rattle.run_data.specs.declared.run.Run.{Run}
use Rattle.run_data.specs.Repos.{IsSetUp}
use Rattle.run_data.specs.declared.job.Outcome.{Outcome}
use Rattle.p2p_wire.specs.declared.message.Message.TheVariants.{Valid}
use Rattle.node_model.specs.AnyTime.{MayCome}
use Rattle.node_model.specs.Ends.{server_end}
use Rattle.node_model.specs.Found.{IsSessionEntry}
use Rattle.node_model.specs.Jobs.{Drops, GetsWord, running_job}
use Rattle.node_model.specs.Look.{Effect}
use Rattle.node_model.specs.Sessions.{line_in}
use Rattle.node_model.specs.SessionStep.{here, on_frame, session_at}
use Rattle.node_model.specs.SetUp.{served_connections}
use Rattle.node_model.specs.Slots.{RunningJob}
use Rattle.run_model.specs.Frames.{MayTake}
use Rattle.run_model.specs.Past.{is_of, now, jobs, jobs_after}
use Rattle.run_model.specs.Run.{IsStep, RunPast, RunStep, TimeIs, set_up}
use Rattle.run_model.specs.States.{session as session_at_end, state_of}
use Rattle.step_facts.proofs.Below.{SentAreRead}
use Rattle.step_facts.proofs.JobSteps.{Stepped, step_made, stepped_runs}
use Rattle.step_facts.proofs.ServerEnds.{BySessionAt, GivesHere, TakesHere, session_here}
use Rattle.step_facts.proofs.SessionFacts.{frame_found, gives_found}
use Rattle.step_facts.proofs.StepFacts.{pays_found}
use Rattle.past_facts.proofs.OwnRuns.{Part as PartOf, own_past, part_of}
use Rattle.job_facts.proofs.TalkFacts.{Fits}
use Rattle.job_facts.proofs.WorkFits.{works_fit}
use Rattle.run_laws.proofs.Decisions.{kind_of, stepped_of}
use Rattle.run_laws.proofs.SessionOwn.{way_at}
use Rattle.alone_drops.specs.Alone.{IsUndisturbing, is_undisturbing}
use Rattle.alone_drops.proofs.Since.{Beginning, Since, is_calm, stepped_since, jobs_since, IsIt}
use Rattle.alone_drops.proofs.Frames.{taken_new}
use Rattle.alone_drops.proofs.Sides.{Aims}
use Rattle.alone_drops.proofs.Sends.{in_drops, no_valid}

-- each of these entries, the newest first, disturbs nothing
abbrev pub Alone : Run → List Entry → List Entry → Type 0
Alone run base [] = Unit {0}
Alone run base (e ∷ xs) = IsUndisturbing run (xs ++ base) e × Alone run base xs

module _ (reads_back : SentAreRead) (run : Run) (repos : Each IsSetUp run.repos) (past : List Entry) (b : Entry) (a j : ℕ) (what : Job) (z : Beginning run past b a j what) (h0 : RunPast (set_up run) (b ∷ past)) (side : Side) (to : ℕ) (aims : Aims a what side to) where
  abbrev base : List Entry
  base = b ∷ past

  -- ---- nothing is gained

  module _ (xs : List Entry) (h : RunPast (set_up run) (xs ++ base)) (t : Since run base xs) (e : Entry) (step : RunStep (set_up run) (xs ++ base) e) (source : By) (size : ℕ) (key : List ℕ) (is : e.kind ≡ Gain source size key) (calm : is_undisturbing e.kind ≡ true) where
    abbrev pn : List Entry
    pn = xs ++ base

    unscripted : source ≡ Script → ⊥
    unscripted same = true≢false (sym calm ∙ (ap is_undisturbing is ∙ ap (λ (y : By). is_undisturbing (Gain y size key)) same))

    at : (c : ℕ) → is_of c e ≡ true → ⊥
    at c own = elim (part.own.does) [
      | inl x ↦ steps x
      | inr x ↦ come source refl (subst (MayCome (set_up run c) (state_of (set_up run c) pn) e.lines e.sent) is x.may)
    ]
      where
        part : PartOf (set_up run) pn c e
        part = part_of (set_up run) pn e c step own

        come : (s : By) → source ≡ s → MayCome (set_up run c) (state_of (set_up run c) pn) e.lines e.sent (Gain s size key) → ⊥
        come Script same m = unscripted same
        come s same m = absurd m

        session : BySessionAt (set_up run c) pn e → ⊥
        session g = by g.3
          where
            by : TakesHere (set_up run c) pn (server_end g.0 g.1) e ⊎ GivesHere (set_up run c) pn (server_end g.0 g.1) e → ⊥
            by (inl y) =
                let n = server_end g.0 g.1 in
                let m = subst (λ v. MayTake pn v y.f) (way_at c n y.f y.of_end) (part.frames.takes y.f y.taken_is) in
                let new = taken_new reads_back run repos past b a j what z h0 c g.0 g.1 g.2 xs h t part.own.known y.f y.of_end y.may m in
                let hh = here (set_up run c) (state_of (set_up run c) pn) y.k n in
                let was = session_at_end pn c n in
                let found = subst (IsSessionEntry hh was.doing (line_in y.f.body) (on_frame hh was y.f.body).says) (sym y.kind_is ∙ is) (frame_found hh was y.f.body) in
                no_valid reads_back run repos past b a j what z h0 side to aims c g.0 g.1 y.f.epoch m.it new (ap line_in m.body_is ∙ found.asks)
            by (inr y) =
                let n = server_end g.0 g.1 in
                let hh = here (set_up run c) (state_of (set_up run c) pn) y.k n in
                let found = subst (IsSessionEntry hh (session_at_end pn c n).doing None y.x.says) (sym y.kind_is ∙ is) (gives_found hh (session_at_end pn c n).doing y.x y.next) in
                let bad : None ≡ Some Valid = found.asks in
                absurd (cc)

        job : Stepped (set_up run c) pn e → ⊥
        job g =
            let found = kind_of (set_up run c) pn e g (Gain source size key) is in
            let fits = works_fit (set_up run c) pn (own_past run repos c pn h).run g.w (stepped_runs (set_up run c) pn e g) in
            let bad : Fits Drops (GetsWord found.peer found.start size) = subst (Fits Drops) found.phase_is (subst (λ q. Fits q g.w.phase) (in_drops reads_back run repos past b a j what z h0 side to aims xs h t c e g) fits) in
            bad

        steps : IsStep (set_up run c) pn part.words e → ⊥
        steps x = elim (step_made (set_up run c) pn part.words e x) [
          | inl o ↦ elim ((pays_found (set_up run c) (state_of (set_up run c) pn) x.look x.made (state_of (set_up run c) pn).owed refl o).writes) [
            | inl w ↦ (let bad : Gain source size key ≡ Log _ = sym is ∙ (ap (λ (q : Entry). q.kind) x.is ∙ ap (λ (m : Effect). m.kind) w) in cc)
            | inr w ↦ (let bad : Gain source size key ≡ Fault _ _ = sym is ∙ (ap (λ (q : Entry). q.kind) x.is ∙ ap (λ (m : Effect). m.kind) w) in cc)
          ]
          | inr r ↦ elim r [
            | inl g ↦ (let w = first_some-was (λ (n : ℕ × ℕ). session_at (set_up run c) (state_of (set_up run c) pn) x.look (server_end n.0 n.1)) (served_connections (set_up run c)) x.made g in
                session (subst (BySessionAt (set_up run c) pn) (sym x.is) (w.0.0, w.0.1, w.1, session_here (set_up run c) pn x.look x.part_small (server_end w.0.0 w.0.1) x.made w.2)))
            | inr y ↦ job y
          ]
        ]

    no_gain : ⊥
    no_gain = by e.repo refl (subst (λ (k : EntryKind). TimeIs (now pn) e k e.repo) is step.order.time_is)
      where
        by : (o : Option ℕ) → e.repo ≡ o → TimeIs (now pn) e (Gain source size key) o → ⊥
        by None same x = x
        by (Some c) same x = at c (rw same (eqb_refl c))

  -- ---- and the job doesn't end before it ends

  module _ (xs : List Entry) (h : RunPast (set_up run) (xs ++ base)) (t : Since run base xs) (e : Entry) (step : RunStep (set_up run) (xs ++ base) e) (i : ℕ) (outcome : Outcome) (is : e.kind ≡ ends_job i outcome) (x : RunningJob) (m : Member x (jobs (e ∷ xs ++ base) a)) where
    abbrev pe : List Entry
    pe = xs ++ base

    at_end : (c : ℕ) → is_of c e ≡ true → ⊥
    at_end c by_c = true≢false (sym same ∙ (ap (λ n. n == i) (sym number) ∙ gone))
      where
        part : PartOf (set_up run) pe c e
        part = part_of (set_up run) pe e c step by_c

        y : Stepped (set_up run c) pe e
        y = stepped_of (set_up run c) pe part.words e part.own i (ends_job i outcome) is (eqb_refl i)

        it : IsIt run past b a j what z c (running_job y.w)
        it = stepped_since run past b a j what z xs t c e y

        i_is : i ≡ j
        i_is = (kind_of (set_up run c) pe e y (ends_job i outcome) is).number_is ∙ it.number_is

        left : Member x (filter (λ (k : RunningJob). not (k.number == i)) (jobs pe a))
        left = subst (λ (k : EntryKind). Member x (jobs_after (jobs pe a) k)) is
            (subst (λ (d : Bool). Member x (if d then jobs_after (jobs pe a) e.kind else jobs pe a)) (subst (λ n. is_of n e ≡ true) it.at by_c) m)

        parts : Member x (jobs pe a) × (not (x.number == i) ≡ true)
        parts = Member-filter_parts (λ (k : RunningJob). not (k.number == i)) (jobs pe a) x left

        number : x.number ≡ j
        number = (jobs_since run past b a j what z xs t a x parts.0).number_is

        same : (j == i) ≡ true
        same = ap (λ n. j == n) i_is ∙ eqb_refl j

        off : (d : Bool) → not d ≡ true → d ≡ false
        off true q = absurd (cc)
        off false q = refl

        gone : (x.number == i) ≡ false
        gone = off (x.number == i) parts.1

    no_end : ⊥
    no_end = by e.repo refl (subst (λ (k : EntryKind). TimeIs (now pe) e k e.repo) is step.order.time_is)
      where
        by : (o : Option ℕ) → e.repo ≡ o → TimeIs (now pe) e (ends_job i outcome) o → ⊥
        by None same y = y
        by (Some c) same y = at_end c (rw same (eqb_refl c))

  runs_before : (js : List RunningJob) (kind : EntryKind) (x : RunningJob) → is_undisturbing kind ≡ true → Member x (jobs_after js kind) → Member x js
  runs_before js (Begin job what') x u m = absurd (cc)
  runs_before js (ends_job job outcome) x u m = (Member-filter_parts (λ (k : RunningJob). not (k.number == job)) js x m).0
  runs_before js (Crash clk) x u m = absurd (cc)
  runs_before js kind x u m = m

  -- **so each is calm, while a job of a still runs**
  pub all_calm : (xs : List Entry) → RunPast (set_up run) (xs ++ base) → Alone run base xs → (x : RunningJob) → Member x (jobs (xs ++ base) a) → Since run base xs
  all_calm [] h t x m = tt
  all_calm (e ∷ xs) h t x m = go (all_calm xs h.1 t.1 x (ran (is_of a e) refl m))
    where
      ran : (d : Bool) → is_of a e ≡ d → Member x (if d then jobs_after (jobs (xs ++ base) a) e.kind else jobs (xs ++ base) a) → Member x (jobs (xs ++ base) a)
      ran true by_a n = runs_before (jobs (xs ++ base) a) e.kind x t.0.kind n
      ran false off n = n

      kind : Since run base xs → (k : EntryKind) → e.kind ≡ k → is_undisturbing k ≡ true → is_calm k ≡ true
      kind old (Gain source size key) is u = absurd (no_gain xs h.1 old e h.0 source size key is (ap is_undisturbing is ∙ u))
      kind old (ends_job i outcome) is u = absurd (no_end xs h.1 old e h.0 i outcome is x m)
      kind old k is u = u

      go : Since run base xs → Since run base (e ∷ xs)
      go old = (record { kind = kind old e.kind refl t.0.kind; owed = t.0.owed }, old)
