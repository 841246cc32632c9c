-- An end of a running job that is open was opened by an entry of that job.
use Rattle.std.proofs.Common.{◌≡◌, ℕ, Bool, true, false, List, [], ◌∷◌, Option, Some, None, ◌⊎◌, inl, inr, refl, sym, ap, ◌∙◌, subst}
use Rattle.std.specs.Prelude.{◌==◌, fold}
use Rattle.std.proofs.lemmas.Bool.{true≢false}
use Rattle.annex_base.specs.Lists.{Member}
use Rattle.annex_base.specs.declared.kinds.Word.{Word}
use Rattle.annex_base.proofs.Conditions.{eqb_refl}
use Rattle.annex_base.proofs.Lists.{Each-member, Member-filter_parts, list_any_member}
use Rattle.step_facts.proofs.Below.{SentAreRead}
use Rattle.run_data.specs.declared.entry.Entry.{Entry}
use Rattle.run_data.specs.declared.entry.EntryKind.TheVariants.{Begin}
use Rattle.run_data.specs.declared.entry.FrameView.{FrameView}
use Rattle.run_data.specs.declared.entry.FrameText.{FrameText}
use Rattle.run_data.specs.declared.entry.FrameText.TheVariants.{Opening, Closing, Bytes, Line}
use Rattle.run_data.specs.declared.job.Job.{Job}
use Rattle.node_model.specs.Ends.{End, EndName, end_after, end_sends, end_took, is_opening, sends_at, sent_at, taken_at, takes_at}
use Rattle.node_model.specs.Found.{IsJobEntry}
use Rattle.node_model.specs.Jobs.{Work, job_end, new_work, running_job}
use Rattle.node_model.specs.SetUp.{SetUp}
use Rattle.node_model.specs.Slots.{RunningJob}
use Rattle.run_model.specs.Causes.{OpensWith, opens_to}
use Rattle.run_model.specs.Past.{is_of}
use Rattle.run_model.specs.Run.{OwnPart, OwnPast, OwnRun}
use Rattle.run_model.specs.States.{end_at, works}
use Rattle.step_facts.proofs.BySteps.{earlier}
use Rattle.step_facts.proofs.EndEpochs.{IsClose, SpeaksAlone}
use Rattle.step_facts.proofs.EndMoves.{end_own}
use Rattle.step_facts.proofs.JobSteps.{Origin, Stays, Stepped, Steps, invariant, stepped_found, stepped_runs, turn_at}
use Rattle.step_facts.proofs.Makers.{TakenBy, session_takes_up, taken_of, who}
use Rattle.step_facts.proofs.ServerEnds.{BySessionAt}
use Rattle.step_facts.proofs.WorkNumbers.{begins_few, same_slot_same_work}
use Rattle.job_facts.proofs.OpenEnds.{shut}
use Rattle.job_facts.proofs.Speaks
use Rattle.job_facts.proofs.WorkFits.{step_running, step_runs}
use Rattle.run_laws.proofs.HeardCauses.{client_sent, client_taken}
use Rattle.run_laws.proofs.SessionOwn.{in_says, speaks}
use Rattle.cause_laws.proofs.Refusals.{stepped_own}

-- ---- what opens an end

pub record TakesAny (a : EndName) (e : Entry) : Type 0 where
  pub f : FrameView
  pub took : e.taken ≡ Some f
  pub of_end : takes_at a f ≡ true

pub record SentOpening (a : EndName) (e : Entry) : Type 0 where
  pub g : FrameView
  pub sent : Member g e.sent
  pub of_end : sends_at a g ≡ true
  pub body_is : g.body ≡ Opening

fold_opens : (c : End) (fs : List FrameView) → c.opened ≡ false → (fold (λ c f. end_sends c f.body) c fs).opened ≡ true → (g : FrameView) × Member g fs × (g.body ≡ Opening)
fold_opens c [] none opened = absurd (true≢false (sym opened ∙ none))
fold_opens c (g ∷ fs) none opened = go (λ still. fold_opens (end_sends c g.body) fs still opened) g.body refl
  where
    go : ((end_sends c g.body).opened ≡ false → (h : FrameView) × Member h fs × (h.body ≡ Opening)) → (body : FrameText) → g.body ≡ body → (h : FrameView) × Member h (g ∷ fs) × (h.body ≡ Opening)
    go more Opening is = (g, inl refl, is)
    go more Closing is = let z = more (ap (λ (b : FrameText). (end_sends c b).opened) is) in (z.0, inr z.1, z.2)
    go more (Bytes n) is = let z = more (ap (λ (b : FrameText). (end_sends c b).opened) is ∙ none) in (z.0, inr z.1, z.2)
    go more (Line text) is = let z = more (ap (λ (b : FrameText). (end_sends c b).opened) is ∙ none) in (z.0, inr z.1, z.2)

opened_by : (a : EndName) (c : End) (e : Entry) → c.opened ≡ false → (end_after a c e).opened ≡ true → TakesAny a e ⊎ SentOpening a e
opened_by a c e none opened = by_taken e.taken refl
  where
    sent : taken_at a e.taken ≡ None → TakesAny a e ⊎ SentOpening a e
    sent is =
        let z = fold_opens c (sent_at a e.sent) none (subst (λ (q : Option FrameView). (fold (λ c f. end_sends c f.body) (end_took c q) (sent_at a e.sent)).opened ≡ true) is opened) in
        let y = Member-filter_parts (sends_at a) e.sent z.0 z.1 in
        inr (record { g = z.0; sent = y.0; of_end = y.1; body_is = z.2 })

    by_taken : (k : Option FrameView) → e.taken ≡ k → TakesAny a e ⊎ SentOpening a e
    by_taken None took = sent (ap (taken_at a) took)
    by_taken (Some f) took = by_end (takes_at a f) refl
      where
        by_end : (b : Bool) → takes_at a f ≡ b → TakesAny a e ⊎ SentOpening a e
        by_end true of_end = inl (record { f = f; took = took; of_end = of_end })
        by_end false off = sent (ap (taken_at a) took ∙ (rw off refl))

-- ---- an entry

module _ (s : SetUp) (past : List Entry) (words : ℕ → Option Word) (e : Entry) (own : OwnPart s past words e) (run : OwnRun s past) (is : is_of s.number e ≡ true) (slot p : ℕ) where
  abbrev a : EndName
  a = record { peer = p; slot = slot; client = true }

  -- nobody opens an end but a job
  alone : SpeaksAlone s past e → TakesAny a e ⊎ SentOpening a e → ⊥
  alone z (inl t) = let bad : None ≡ Some t.f = sym z.takes_none ∙ t.took in cc
  alone z (inr t) = true≢false (sym (ap is_opening t.body_is) ∙ (Each-member (IsClose s past) e.sent t.g z.well t.sent).2)

  session : BySessionAt s past e → TakesAny a e ⊎ SentOpening a e → ⊥
  session x (inl t) = true≢false (sym (session_takes_up s past e x.0 x.1 x.3 t.f t.took) ∙ (client_taken p slot t.f t.of_end).2)
  session x (inr t) = true≢false (sym (client_sent p slot t.g t.of_end).2 ∙ (in_says s e (speaks s past e x) t.g t.sent).3)

  -- the job of the slot, which takes no frame at a closed end
  by_slot : (y : Stepped s past e) → TakesAny a e ⊎ SentOpening a e → y.w.slot ≡ slot
  by_slot y (inl t) = sym (Speaks.hears s past e y t.f t.took).0 ∙ (client_taken p slot t.f t.of_end).1
  by_slot y (inr t) = sym (Speaks.speaks s past e y t.g t.sent).0 ∙ (client_sent p slot t.g t.of_end).1

  by_job : (y : Stepped s past e) → y.w.slot ≡ slot → (end_at past s.number a).opened ≡ false → TakesAny a e ⊎ SentOpening a e → OpensWith (e ∷ past) s.number y.w.number p
  by_job y at closed (inl t) = absurd (true≢false (sym open' ∙ closed))
    where
      k : TakenBy s past e t.f
      k = taken_of s past e y t.f t.took

      peer : k.peer ≡ p
      peer = sym (client_taken k.peer k.w.slot t.f k.of_end).0 ∙ (client_taken p slot t.f t.of_end).0

      place : k.w.slot ≡ slot
      place = sym (client_taken k.peer k.w.slot t.f k.of_end).1 ∙ (client_taken p slot t.f t.of_end).1

      open' : (end_at past s.number a).opened ≡ true
      open' = (λ i. (end_at past s.number (record { peer = sym peer i; slot = sym place i; client = true })).opened) ∙ k.opened
  by_job y at closed (inr t) = record {
    entry = e;
    before = past;
    occurs = inl (refl, refl);
    own = stepped_own s past e y is;
    opens = list_any_member (opens_to p) e.sent t.g t.sent (let q : (t.g.peer == p) ≡ true = ap (λ n. n == p) place.0 ∙ eqb_refl p in let o : is_opening t.g.body ≡ true = ap is_opening t.body_is in rw (q, place.2, o) refl);
  }
    where
      place : (t.g.peer ≡ p) × (t.g.slot ≡ slot) × (t.g.up ≡ true)
      place = client_sent p slot t.g t.of_end

  -- the end of a running job
  newly : (v : Work) → Member v (works past s.number) → v.slot ≡ slot → (end_at past s.number a).opened ≡ false → (end_at (e ∷ past) s.number a).opened ≡ true → OpensWith (e ∷ past) s.number v.number p
  newly v m at closed opened =
      let by = opened_by a (end_at past s.number a) e closed (sym (ap (λ (c : End). c.opened) (end_own s.number past a e is)) ∙ opened) in
      elim (who s past words e own) [
        | inl z ↦ absurd (alone z.1 by)
        | inr z ↦ elim z [
          | inl y ↦ absurd (session y.1 by)
          | inr y ↦ (let same : y.w ≡ v = same_slot_same_work s past run y.w v (stepped_runs s past e y) m (by_slot y by ∙ sym at) in
              subst (λ (w : Work). OpensWith (e ∷ past) s.number w.number p) same (by_job y (by_slot y by) closed by))
        ]
      ]

  -- no job begins with an end that is open
  unopened : (job : ℕ) (what : Job) → e.kind ≡ Begin job what → (end_at past s.number a).opened ≡ false → (end_at (e ∷ past) s.number a).opened ≡ true → ⊥
  unopened job what kind closed opened =
      let by = opened_by a (end_at past s.number a) e closed (sym (ap (λ (c : End). c.opened) (end_own s.number past a e is)) ∙ opened) in
      elim (who s past words e own) [
        | inl z ↦ alone z.1 by
        | inr z ↦ elim z [
          | inl y ↦ session y.1 by
          | inr y ↦ subst (IsJobEntry (turn_at s past e y) y.made) (sym (ap (λ (x : Entry). x.kind) y.is) ∙ kind) (stepped_found s past e y).found
        ]
      ]

-- ---- over the past

opens_grow : (r : ℕ) (e : Entry) (past : List Entry) (j p : ℕ) → OpensWith past r j p → OpensWith (e ∷ past) r j p
opens_grow r e past j p x = record { entry = x.entry; before = x.before; occurs = inr x.occurs; own = x.own; opens = x.opens }

abbrev Opened : List Entry → ℕ → RunningJob → Type 0
Opened past r j = (p : ℕ) → (end_at past r (record { peer = p; slot = j.slot; client = true })).opened ≡ true → OpensWith past r j.number p

-- **an open end was opened by its job**
pub opened_told : SentAreRead → (s : SetUp) (past : List Entry) → OwnPast s past → (w : Work) → Member w (works past s.number) → (p : ℕ) → (end_at past s.number (job_end w p)).opened ≡ true → OpensWith past s.number w.number p
opened_told reads_back s past h w m = invariant s (λ p x. OwnPast s p → Opened p s.number (running_job x))
    (λ p e is x n was h peer opened. opens_grow s.number e p x.number peer (was (earlier s p e h) peer (rw is at opened))) own past h.run w m h
  where
    own : (p : List Entry) (e : Entry) → OwnRun s (e ∷ p) → is_of s.number e ≡ true → ((x : Work) → Member x (works p s.number) → OwnPast s p → Opened p s.number (running_job x))
        → (x : Work) → Origin s p e x → OwnPast s (e ∷ p) → Opened (e ∷ p) s.number (running_job x)
    own p e run is was x (inl b) h peer opened =
        let mine = run.0 is in
        let few = begins_few s p mine.0 e mine.1 b.job b.what b.kind_is in
        let closed = shut reads_back s p run.1 b.job b.what peer few in
        let slot : x.slot ≡ (new_work (works p s.number) b.job b.what).slot = ap (λ (y : Work). y.slot) b.work_is in
        absurd (unopened s p mine.0 e mine.1 run.1 is (new_work (works p s.number) b.job b.what).slot peer b.job b.what b.kind_is closed
        (subst (λ n. (end_at (e ∷ p) s.number (record { peer = peer; slot = n; client = true })).opened ≡ true) slot opened))
    own p e run is was x (inr o) h peer opened = kept o peer opened
      where
        after : (v : Work) → Member v (works p s.number) → Opened (e ∷ p) s.number (running_job v)
        after v m peer opened = go (end_at p s.number (job_end v peer)).opened refl
          where
            go : (b : Bool) → (end_at p s.number (job_end v peer)).opened ≡ b → OpensWith (e ∷ p) s.number v.number peer
            go true before = opens_grow s.number e p v.number peer (was v m (earlier s p e h) peer before)
            go false closed = let mine = run.0 is in newly s p mine.0 e mine.1 run.1 is v.slot peer v m refl closed opened

        kept : Stays s p e x ⊎ Steps s p e x → Opened (e ∷ p) s.number (running_job x)
        kept (inl b) = after x b.ran
        kept (inr b) = subst (Opened (e ∷ p) s.number) (sym (step_running s p e x b)) (after b.by.w (step_runs s p e x b))
