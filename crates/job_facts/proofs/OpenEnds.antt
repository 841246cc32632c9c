-- An open end of a client is with another repository, and a job runs in its slot; so a job begins in a slot whose ends are shut.
use Rattle.std.proofs.Common.{◌≡◌, ℕ, ◌<◌, Bool, true, false, List, [], ◌∷◌, ◌++◌, length, Option, Some, None, ◌⊎◌, inl, inr, refl, sym, ap, ◌∙◌, subst, arith}
use Rattle.std.specs.Prelude.{if◌then◌else◌, ◌==◌, ◌&&◌, ◌||◌, flat_map, map, not}
use Rattle.std.proofs.lemmas.Bool.{true≢false}
use Rattle.std.proofs.lemmas.Bool.Decides.{nat_tests}
use Rattle.std.proofs.lemmas.List.{length-map}
use Rattle.std.proofs.lemmas.List.Elements.{filter-append}
use Rattle.annex_base.specs.Lists.{Each, Member}
use Rattle.annex_base.specs.declared.kinds.Word.{Word}
use Rattle.annex_base.proofs.Lists.{Each-filter, Each-member, Member-filter_from, Member-filter_parts, Member-append_left, Member-flat_map, Member-map}
use Rattle.step_facts.proofs.Below.{SentAreRead}
use Rattle.run_data.specs.declared.entry.Entry.{Entry}
use Rattle.run_data.specs.declared.entry.EntryKind.{EntryKind}
use Rattle.run_data.specs.declared.entry.EntryKind.TheVariants.{Begin, Crash, End as ends_job}
use Rattle.run_data.specs.declared.entry.FrameView.{FrameView}
use Rattle.run_data.specs.declared.entry.FrameText.{FrameText}
use Rattle.run_data.specs.declared.entry.FrameText.TheVariants.{Closing}
use Rattle.run_data.specs.declared.job.Job.{Job}
use Rattle.run_data.specs.declared.job.Outcome.{Outcome}
use Rattle.run_model.specs.Logs.{is_step}
use Rattle.node_model.specs.Slots.{RunningJob, free_slot, uses}
use Rattle.node_model.specs.Rows.{is_lost_ordered}
use Rattle.run_model.specs.Past.{is_of, jobs, jobs_after}
use Rattle.node_model.specs.SetUp.{SetUp, others, slots}
use Rattle.run_model.specs.States.{state_of, end_at, session, works}
use Rattle.node_model.specs.Ends.{End, EndName, end_takes, end_took, frames, is_opening, sends_at, sent_at, server_end, taken_at, takes_at}
use Rattle.node_model.specs.SessionStep.{here, on_frame}
use Rattle.node_model.specs.Jobs.{job_end, new_work, running_job}
use Rattle.node_model.specs.AnyTime.{MayCome, all_ends, close_at, closes_all, ends_with}
use Rattle.node_model.specs.JobStep.{farewells}
use Rattle.node_model.specs.Found.{IsJobEntry, JobTakes}
use Rattle.run_model.specs.Run.{IsStep, OwnPart, OwnRun}
use Rattle.step_facts.proofs.StepFacts.{kind_found}
use Rattle.step_facts.proofs.ServerEnds.{BySessionAt, GivesHere, TakesHere, each_flat, end_of, same_end, same_end-is, sent_same, takes_end, takes_other}
use Rattle.step_facts.proofs.EndMoves.{NoOpening, OpensNone, all_opened, closed_stays, end_own, frame_none, frames_none, gave_one, own_induction, pieces_none, sends_all}
use Rattle.step_facts.proofs.EndEpochs.{IsClose, SpeaksAlone, client_sends, from_end}
use Rattle.step_facts.proofs.JobEnds.{SentWell}
use Rattle.job_facts.proofs.Farewells.{farewells_close, fold_append}
use Rattle.step_facts.proofs.JobKept.{jobs_are}
use Rattle.step_facts.proofs.JobNumbers.{jobs_numbered, same_job}
use Rattle.step_facts.proofs.WorkNumbers.{free_is, running_member}
use Rattle.step_facts.proofs.JobSteps.{OfNoJob, Stepped, stepped_found, stepped_runs, turn_at}
use Rattle.job_facts.proofs.Speaks.{hears, speaks}
use Rattle.step_facts.proofs.Makers.{who}
use Rattle.job_facts.proofs.JobOpens.{Called, stepped_calls}
use Rattle.job_facts.proofs.OwnTried.{called_other}
use Rattle.annex_base.proofs.Conditions.{eqb_refl}

-- ---- running jobs

pub stepped_job_runs : (s : SetUp) (past : List Entry) (e : Entry) (x : Stepped s past e) → Member (running_job x.w) (jobs past s.number)
stepped_job_runs s past e x = subst (Member (running_job x.w)) (jobs_are past s.number) (running_member (works past s.number) x.w (stepped_runs s past e x))

free_in : (js : List RunningJob) → Member (free_slot js) slots
free_in js = first (not (uses js 0)) (second (not (uses js 1)) (third (not (uses js 2))))
  where
    third : (b : Bool) → Member (if b then 2 else 3) slots
    third true = inr (inr (inl refl))
    third false = inr (inr (inr (inl refl)))

    second : (b : Bool) {n : ℕ} → Member n slots → Member (if b then 1 else n) slots
    second true m = inr (inl refl)
    second false m = m

    first : (b : Bool) {n : ℕ} → Member n slots → Member (if b then 0 else n) slots
    first true m = inl refl
    first false m = m

after_slots : (js : List RunningJob) (kind : EntryKind) → Each (λ j. Member j.slot slots) js → Each (λ j. Member j.slot slots) (jobs_after js kind)
after_slots js (Begin job what) a = (free_in js, a)
after_slots js (ends_job job outcome) a = Each-filter (λ (j : RunningJob). Member j.slot slots) (λ (j : RunningJob). not (j.number == job)) js a
after_slots js (Crash clock) a = tt
after_slots js kind a = a

-- each runs in one of the four slots
jobs_slots : (past : List Entry) (r : ℕ) → Each (λ j. Member j.slot slots) (jobs past r)
jobs_slots [] r = tt
jobs_slots (e ∷ past) r = go (jobs_slots past r) (is_of r e) refl
  where
    go : Each (λ j. Member j.slot slots) (jobs past r) → (b : Bool) → is_of r e ≡ b → Each (λ j. Member j.slot slots) (jobs (e ∷ past) r)
    go a true is = rw is (after_slots (jobs past r) e.kind a)
    go a false is = rw is a

pub jobs_own : (r : ℕ) (past : List Entry) (e : Entry) → is_of r e ≡ true → jobs (e ∷ past) r ≡ jobs_after (jobs past r) e.kind
jobs_own r past e is = rw is refl

kept_off : (j : RunningJob) (job : ℕ) → (j.number ≡ job → ⊥) → not (j.number == job) ≡ true
kept_off j job apart = go (j.number == job) refl
  where
    go : (b : Bool) → (j.number == job) ≡ b → not b ≡ true
    go true e = absurd (apart (grind (arith, nat_tests)))
    go false e = refl

-- a job that the entry doesn't end runs on
runs_on : (js : List RunningJob) (j : RunningJob) (kind : EntryKind) → Member j js → ((job : ℕ) (outcome : Outcome) → kind ≡ ends_job job outcome → j.number ≡ job → ⊥) → ((clock : ℕ) → kind ≡ Crash clock → ⊥) → Member j (jobs_after js kind)
runs_on js j (Begin job what) m apart stands = inr m
runs_on js j (ends_job job outcome) m apart stands = Member-filter_from (λ (z : RunningJob). not (z.number == job)) js j m (kept_off j job (apart job outcome refl))
runs_on js j (Crash clock) m apart stands = absurd (stands clock refl)
runs_on js j kind m apart stands = m

-- ---- a client's end after an own entry

pub opens_or : (fs : List FrameView) → OpensNone fs ⊎ ((g : FrameView) × (Member g fs) × (is_opening g.body ≡ true))
opens_or [] = inl tt
opens_or (f ∷ fs) = go (opens_or fs) (is_opening f.body) refl
  where
    go : OpensNone fs ⊎ ((g : FrameView) × (Member g fs) × (is_opening g.body ≡ true)) → (b : Bool) → is_opening f.body ≡ b → OpensNone (f ∷ fs) ⊎ ((g : FrameView) × (Member g (f ∷ fs)) × (is_opening g.body ≡ true))
    go more true is = inr (f, inl refl, is)
    go (inl none) false is = inl (is, none)
    go (inr x) false is = inr (x.0, inr x.1, x.2)

-- what is taken and sent at the end leaves it closed where it was
pub record Still (a : EndName) (e : Entry) : Type 0 where
  pub takes_none : taken_at a e.taken ≡ None
  pub opens_none : OpensNone (sent_at a e.sent)

pub opened_before : (r : ℕ) (past : List Entry) (a : EndName) (e : Entry) → is_of r e ≡ true → Still a e → (end_at (e ∷ past) r a).opened ≡ true → (end_at past r a).opened ≡ true
opened_before r past a e is x o =
    all_opened (end_at past r a) (sent_at a e.sent) x.opens_none
    (subst (λ (t : Option FrameView). (sends_all (end_took (end_at past r a) t) (sent_at a e.sent)).opened ≡ true) x.takes_none (ap (λ (z : End). z.opened) (sym (end_own r past a e is)) ∙ o))

closes_still : (s : SetUp) (past : List Entry) (a : EndName) (fs : List FrameView) → Each (IsClose s past) fs → OpensNone fs
closes_still s past a [] x = tt
closes_still s past a (f ∷ fs) x = (x.0.2, closes_still s past a fs x.1)

pub alone_still : (s : SetUp) (past : List Entry) (a : EndName) (e : Entry) → SpeaksAlone s past e → Still a e
alone_still s past a e x = record { takes_none = rw x.takes_none refl; opens_none = Each-filter (λ g. is_opening g.body ≡ false) (sends_at a) e.sent (closes_still s past a e.sent x.well) }

server_apart : (p q : ℕ) (a : EndName) → a.client ≡ true → same_end (server_end p q) a ≡ false
server_apart p q a client = rw client (go ((p == a.peer) && (q == a.slot)))
  where
    go : (b : Bool) → (b && false) ≡ false
    go true = refl
    go false = refl

pub session_still : (s : SetUp) (past : List Entry) (a : EndName) (e : Entry) → a.client ≡ true → BySessionAt s past e → Still a e
session_still s past a e client x = go x.3
  where
    says_none : (c : End) (bodies : List FrameText) → NoOpening bodies → e.sent ≡ frames (server_end x.0 x.1) c bodies → OpensNone (sent_at a e.sent)
    says_none c bodies n i = Each-filter (λ g. is_opening g.body ≡ false) (sends_at a) e.sent (subst OpensNone (sym i) (frames_none (server_end x.0 x.1) c bodies n))

    go : TakesHere s past (server_end x.0 x.1) e ⊎ GivesHere s past (server_end x.0 x.1) e → Still a e
    go (inl y) = record {
      takes_none = rw (y.taken_is, takes_other (server_end x.0 x.1) a y.f y.of_end (server_apart x.0 x.1 a client)) refl;
      opens_none = says_none (end_takes (end_at past s.number (server_end x.0 x.1)) y.f.epoch y.f.body) (on_frame (here s (state_of s past) y.k (server_end x.0 x.1)) (session past s.number (server_end x.0 x.1)) y.f.body).says
          (frame_none (here s (state_of s past) y.k (server_end x.0 x.1)) (session past s.number (server_end x.0 x.1)) y.f.body) y.sent_is;
    }
    go (inr y) = record {
      takes_none = rw y.taken_is refl;
      opens_none = says_none (end_at past s.number (server_end x.0 x.1)) y.x.says (pieces_none (session past s.number (server_end x.0 x.1)).doing y.x.says (gave_one s past (server_end x.0 x.1) e y).1) y.sent_is;
    }

-- ---- a job's entry

module _ (reads_back : SentAreRead) (s : SetUp) (past : List Entry) (e : Entry) (x : Stepped s past e) where
  -- it takes a frame of an open end
  pub takes_open : (f : FrameView) → e.taken ≡ Some f → (end_at past s.number (end_of f)).opened ≡ true
  takes_open f took = go (stepped_found s past e x).frame
    where
      took' : x.made.taken ≡ Some f
      took' = sym (ap (λ (y : Entry). y.taken) x.is) ∙ took

      go : (x.made.taken ≡ None) ⊎ JobTakes (turn_at s past e x) x.made → (end_at past s.number (end_of f)).opened ≡ true
      go (inl none) = absurd (let no' : None ≡ Some f = sym none ∙ took' in cc)
      go (inr y) =
          let same : Some y.f ≡ Some f = sym y.taken_is ∙ took' in
          let is : y.f ≡ f = cc in
          subst (λ (h : FrameView). (end_at past s.number (end_of h)).opened ≡ true) is (ap (λ (a : EndName). (end_at past s.number a).opened) (takes_end (job_end x.w y.peer) y.f y.of_end) ∙ y.opened)

  -- and doesn't open it by that
  pub took_opened : (a : EndName) → (end_took (end_at past s.number a) (taken_at a e.taken)).opened ≡ true → (end_at past s.number a).opened ≡ true
  took_opened a o = go e.taken refl o
    where
      at : (f : FrameView) → e.taken ≡ Some f → (b : Bool) → takes_at a f ≡ b → (end_took (end_at past s.number a) (if b then Some f else None)).opened ≡ true → (end_at past s.number a).opened ≡ true
      at f i false t o = o
      at f i true t o = ap (λ (z : EndName). (end_at past s.number z).opened) (sym (takes_end a f t)) ∙ takes_open f i

      go : (t : Option FrameView) → e.taken ≡ t → (end_took (end_at past s.number a) (taken_at a t)).opened ≡ true → (end_at past s.number a).opened ≡ true
      go None i o = o
      go (Some f) i o = at f i (takes_at a f) refl o

  -- an end that is open after it was so before, or the job opened it
  pub job_opened : OwnRun s past → is_of s.number e ≡ true → (a : EndName) → (end_at (e ∷ past) s.number a).opened ≡ true → ((end_at past s.number a).opened ≡ true) ⊎ (Member a.peer (others s) × (x.w.slot ≡ a.slot))
  job_opened run is a o = go (opens_or (sent_at a e.sent))
    where
      d : End
      d = end_took (end_at past s.number a) (taken_at a e.taken)

      now : (sends_all d (sent_at a e.sent)).opened ≡ true
      now = ap (λ (z : End). z.opened) (sym (end_own s.number past a e is)) ∙ o

      go : OpensNone (sent_at a e.sent) ⊎ ((g : FrameView) × (Member g (sent_at a e.sent)) × (is_opening g.body ≡ true)) → ((end_at past s.number a).opened ≡ true) ⊎ (Member a.peer (others s) × (x.w.slot ≡ a.slot))
      go (inl none) = inl (took_opened a (all_opened d (sent_at a e.sent) none now))
      go (inr y) =
          let m = Member-filter_parts (sends_at a) e.sent y.0 y.1 in
          let at : from_end y.0 ≡ a = same_end-is (from_end y.0) a m.1 in
          let called = Each-member (λ g. is_opening g.body ≡ true → Called (turn_at s past e x) g.peer) e.sent y.0 (stepped_calls s past e x) m.0 y.2 in
          inr (subst (λ (z : EndName). Member z.peer (others s)) at (called_other reads_back s past e run x y.0.peer called), sym (speaks s past e x y.0 m.0).0 ∙ ap (λ (z : EndName). z.slot) at)

  -- the end of the job shuts the ends of its slot
  pub ends_shut : is_of s.number e ≡ true → (job : ℕ) (outcome : Outcome) → e.kind ≡ ends_job job outcome → (a : EndName) → a.client ≡ true → a.slot ≡ x.w.slot → Member a.peer (others s) → (end_at (e ∷ past) s.number a).opened ≡ false
  ends_shut is job outcome kind a client slot m =
      let t = turn_at s past e x in
      let found = subst (IsJobEntry t x.made) (sym (ap (λ (y : Entry). y.kind) x.is) ∙ kind) (stepped_found s past e x).found in
      let sent : e.sent ≡ farewells t (is_lost_ordered outcome) = ap (λ (y : Entry). y.sent) x.is ∙ found.sent_is in
      let same : job_end x.w a.peer ≡ a = λ i. record { peer = a.peer; slot = sym slot i; client = sym client i } in
      let d = end_took (end_at past s.number a) (taken_at a e.taken) in
      let was : d.opened ≡ true → (t.ends (job_end x.w a.peer)).opened ≡ true = λ o. ap (λ (z : EndName). (end_at past s.number z).opened) same ∙ took_opened a o in
      ap (λ (z : End). z.opened) (end_own s.number past a e is) ∙ ap (λ fs. (sends_all d (sent_at a fs)).opened) sent
      ∙ ap (λ (z : EndName). (sends_all d (sent_at z (farewells t (is_lost_ordered outcome)))).opened) (sym same) ∙ farewells_close t (is_lost_ordered outcome) a.peer d was m

-- ---- a crash

pub crash_sends : (s : SetUp) (past : List Entry) (words : ℕ → Option Word) (e : Entry) → OwnPart s past words e → (clock : ℕ) → e.kind ≡ Crash clock → (e.taken ≡ None) × (e.sent ≡ closes_all s (state_of s past))
crash_sends s past words e own clock is = elim (own.does) [
  | inl x ↦ absurd (steps x)
  | inr x ↦ (x.takes_none, (subst (MayCome s (state_of s past) e.lines e.sent) is x.may).1)
]
  where
    steps : IsStep s past words e → ⊥
    steps x = elim (kind_found s (state_of s past) x.look x.made (Crash clock) x.makes (sym (ap (λ (y : Entry). y.kind) x.is) ∙ is) (λ h. h)) [ inl y ↦ y.found | inr y ↦ y.found ]

end_in : (s : SetUp) (a : EndName) → a.client ≡ true → Member a.peer (others s) → Member a.slot slots → Member a (all_ends s)
end_in s a client peer slot =
    let b : EndName = record { peer = a.peer; slot = a.slot; client = true } in
    let same : b ≡ a = λ i. record { peer = a.peer; slot = a.slot; client = sym client i } in
    let at : ℕ → EndName = λ n. record { peer = a.peer; slot = n; client = true } in
    subst (λ z. Member z (all_ends s)) same
    (Member-flat_map (λ n. ends_with n true ++ ends_with n false) (others s) a.peer b peer (Member-append_left (ends_with a.peer true) (ends_with a.peer false) b (Member-map at slots a.slot slot)))

module _ (s : SetUp) (past : List Entry) (a : EndName) where
  closes_none : (xs : List EndName) → OpensNone (sent_at a (flat_map (close_at s (state_of s past)) xs))
  closes_none xs = Each-filter (λ g. is_opening g.body ≡ false) (sends_at a) (flat_map (close_at s (state_of s past)) xs) (each_flat (λ g. is_opening g.body ≡ false) (close_at s (state_of s past)) (λ z. go z (end_at past s.number z).opened) xs)
    where
      go : (z : EndName) (b : Bool) → OpensNone (if b then frames z (end_at past s.number z) (Closing ∷ []) else [])
      go z true = (refl, tt)
      go z false = tt

  closes_it : (end_at past s.number a).opened ≡ true → (d : End) → (sends_all d (sent_at a (close_at s (state_of s past) a))).opened ≡ false
  closes_it o d =
      let c = end_at past s.number a in
      ap (λ (b : Bool). (sends_all d (sent_at a (if b then frames a c (Closing ∷ []) else []))).opened) o ∙ ap (λ fs. (sends_all d fs).opened) (sent_same a c (Closing ∷ []))

  all_closed : (end_at past s.number a).opened ≡ true → (d : End) (xs : List EndName) → Member a xs → (sends_all d (sent_at a (flat_map (close_at s (state_of s past)) xs))).opened ≡ false
  all_closed o d [] m = absurd m
  all_closed o d (x ∷ xs) m = ap (λ (z : End). z.opened) split ∙ go (λ f n. all_closed o f xs n) m
    where
      split : sends_all d (sent_at a (flat_map (close_at s (state_of s past)) (x ∷ xs))) ≡ sends_all (sends_all d (sent_at a (close_at s (state_of s past) x))) (sent_at a (flat_map (close_at s (state_of s past)) xs))
      split = ap (sends_all d) (filter-append (sends_at a) (close_at s (state_of s past) x) (flat_map (close_at s (state_of s past)) xs)) ∙ fold_append d (sent_at a (close_at s (state_of s past) x)) (sent_at a (flat_map (close_at s (state_of s past)) xs))

      go : ((f : End) → Member a xs → (sends_all f (sent_at a (flat_map (close_at s (state_of s past)) xs))).opened ≡ false) → (a ≡ x) ⊎ Member a xs → (sends_all (sends_all d (sent_at a (close_at s (state_of s past) x))) (sent_at a (flat_map (close_at s (state_of s past)) xs))).opened ≡ false
      go more (inl i) = closed_stays (sends_all d (sent_at a (close_at s (state_of s past) x))) (sent_at a (flat_map (close_at s (state_of s past)) xs)) (closes_none xs) (ap (λ z. (sends_all d (sent_at a (close_at s (state_of s past) z))).opened) (sym i) ∙ closes_it o d)
      go more (inr n) = more (sends_all d (sent_at a (close_at s (state_of s past) x))) n

pub crash_shuts : (s : SetUp) (past : List Entry) (words : ℕ → Option Word) (e : Entry) → OwnPart s past words e → is_of s.number e ≡ true → (clock : ℕ) → e.kind ≡ Crash clock → (a : EndName) → Member a (all_ends s) → (end_at past s.number a).opened ≡ true
    → (end_at (e ∷ past) s.number a).opened ≡ false
crash_shuts s past words e own is clock kind a m o =
    let x = crash_sends s past words e own clock kind in
    ap (λ (z : End). z.opened) (end_own s.number past a e is)
    ∙ (λ i. (sends_all (end_took (end_at past s.number a) (taken_at a (x.0 i))) (sent_at a (x.1 i))).opened) ∙ all_closed s past a o (end_at past s.number a) (all_ends s) m

-- ---- the invariant

-- a job runs in the slot of the end, which is with another repository
pub record Runs (s : SetUp) (past : List Entry) (a : EndName) : Type 0 where
  pub peer : Member a.peer (others s)
  pub job : RunningJob
  pub runs : Member job (jobs past s.number)
  pub slot : job.slot ≡ a.slot

abbrev pub OpenRuns : SetUp → List Entry → Type 0
OpenRuns s past = (a : EndName) → a.client ≡ true → (end_at past s.number a).opened ≡ true → Runs s past a

module _ (reads_back : SentAreRead) (s : SetUp) (past : List Entry) (e : Entry) (words : ℕ → Option Word) (run : OwnRun s past) (is : is_of s.number e ≡ true) (own : OwnPart s past words e) (old : OpenRuns s past) (a : EndName) (client : a.client ≡ true) (now : (end_at (e ∷ past) s.number a).opened ≡ true) where
  no_crash : (end_at past s.number a).opened ≡ true → (clock : ℕ) → e.kind ≡ Crash clock → ⊥
  no_crash o clock kind =
      let x = old a client o in
      let slot : Member a.slot slots = subst (λ n. Member n slots) x.slot (Each-member (λ (j : RunningJob). Member j.slot slots) (jobs past s.number) x.job (jobs_slots past s.number) x.runs) in
      absurd (true≢false (sym now ∙ crash_shuts s past words e own is clock kind a (end_in s a client x.peer slot) o))

  -- it ran before, and the entry doesn't end it
  stays_on : (x : Runs s past a) → ((job : ℕ) (outcome : Outcome) → e.kind ≡ ends_job job outcome → x.job.number ≡ job → ⊥) → ((clock : ℕ) → e.kind ≡ Crash clock → ⊥) → Runs s (e ∷ past) a
  stays_on x apart stands = record { peer = x.peer; job = x.job; runs = subst (Member x.job) (sym (jobs_own s.number past e is)) (runs_on (jobs past s.number) x.job e.kind x.runs apart stands); slot = x.slot }

  no_ends : OfNoJob e.kind → (job : ℕ) (outcome : Outcome) → e.kind ≡ ends_job job outcome → ⊥
  no_ends none job outcome kind = true≢false (sym (eqb_refl job) ∙ subst (λ k. is_step job k ≡ false) kind (none job))

  still_runs : OfNoJob e.kind → Still a e → Runs s (e ∷ past) a
  still_runs none x =
      let o = opened_before s.number past a e is x now in
      stays_on (old a client o) (λ job outcome kind same. no_ends none job outcome kind) (no_crash o)

  module _ (x : Stepped s past e) where
    mine : Member (running_job x.w) (jobs past s.number)
    mine = stepped_job_runs s past e x

    job_stands : (clock : ℕ) → e.kind ≡ Crash clock → ⊥
    job_stands clock kind = subst (IsJobEntry (turn_at s past e x) x.made) (sym (ap (λ (y : Entry). y.kind) x.is) ∙ kind) (stepped_found s past e x).found

    ends_mine : (job : ℕ) (outcome : Outcome) → e.kind ≡ ends_job job outcome → job ≡ x.w.number
    ends_mine job outcome kind = (subst (IsJobEntry (turn_at s past e x) x.made) (sym (ap (λ (y : Entry). y.kind) x.is) ∙ kind) (stepped_found s past e x).found).number_is

    job_runs : Runs s (e ∷ past) a
    job_runs = elim (job_opened reads_back s past e x run is a now) [
      | inl o ↦ (let z = old a client o in stays_on z (λ job outcome kind same. was z job outcome kind same) job_stands)
      | inr y ↦ (let z : Runs s past a = record { peer = y.0; job = running_job x.w; runs = mine; slot = y.1 } in stays_on z (λ job outcome kind same. was z job outcome kind same) job_stands)
    ]
      where
        -- the job that ends is in another slot, as the end is open
        was : (z : Runs s past a) (job : ℕ) (outcome : Outcome) → e.kind ≡ ends_job job outcome → z.job.number ≡ job → ⊥
        was z job outcome kind same =
            let one : z.job ≡ running_job x.w = same_job (jobs past s.number) (jobs_numbered s past run).falling z.job (running_job x.w) z.runs mine (same ∙ ends_mine job outcome kind) in
            let slot : a.slot ≡ x.w.slot = sym z.slot ∙ ap (λ (j : RunningJob). j.slot) one in
            true≢false (sym now ∙ ends_shut reads_back s past e x is job outcome kind a client slot z.peer)

  after_runs : Runs s (e ∷ past) a
  after_runs = elim (who s past words e own) [
    | inl x ↦ still_runs x.0 (alone_still s past a e x.1)
    | inr x ↦ elim (x) [
      | inl y ↦ still_runs y.0 (session_still s past a e client y.1)
      | inr y ↦ job_runs y
    ]
  ]

-- E: an open end of a client is with another repository, and a job runs in its slot
pub open_runs : SentAreRead → (s : SetUp) → (past : List Entry) → OwnRun s past → OpenRuns s past
open_runs reads_back s past run = own_induction s (OpenRuns s) (λ a client o. absurd (true≢false (sym o))) other
    (λ p e words r is part old a client o. after_runs reads_back s p e words r is part old a client o) past run
  where
    other : (past : List Entry) (e : Entry) → is_of s.number e ≡ false → OpenRuns s past → OpenRuns s (e ∷ past)
    other past e is old a client o =
        let x = old a client (rw is at o) in
        record { peer = x.peer; job = x.job; runs = rw is x.runs; slot = x.slot }

-- ---- a job begins in a slot whose ends are shut

abbrev pub Shut : SetUp → Type 0
Shut s = (past : List Entry) → OwnRun s past → (job : ℕ) (what : Job) (peer : ℕ) → length (works past s.number) < 4 → (end_at past s.number (job_end (new_work (works past s.number) job what) peer)).opened ≡ false

pub used_slot : (js : List RunningJob) (j : RunningJob) → Member j js → uses js j.slot ≡ true
used_slot [] j m = absurd m
used_slot (x ∷ xs) j (inl m) = rw (here j x (ap (λ (z : RunningJob). z.slot) m)) refl
  where
    here : (j x : RunningJob) → j.slot ≡ x.slot → (x.slot == j.slot) ≡ true
    here j x e = grind (arith, nat_tests)
used_slot (x ∷ xs) j (inr m) = go (x.slot == j.slot) (used_slot xs j m)
  where
    go : (b : Bool) → uses xs j.slot ≡ true → (b || uses xs j.slot) ≡ true
    go true u = refl
    go false u = u

pub shut : SentAreRead → (s : SetUp) → Shut s
shut reads_back s past run job what peer few = go (end_at past s.number a).opened refl
  where
    js : List RunningJob
    js = map running_job (works past s.number)

    a : EndName
    a = job_end (new_work (works past s.number) job what) peer

    go : (b : Bool) → (end_at past s.number a).opened ≡ b → b ≡ false
    go false o = refl
    go true o =
        let x = open_runs reads_back s past run a refl o in
        let used : uses js x.job.slot ≡ true = used_slot js x.job (subst (Member x.job) (sym (jobs_are past s.number)) x.runs) in
        let free : uses js (free_slot js) ≡ false = free_is js (subst (λ n. n < 4) (sym (length-map (works past s.number) running_job)) few) in
        absurd (true≢false (sym (subst (λ n. uses js n ≡ true) x.slot used) ∙ free))

-- ---- whom a job speaks with

module _ (reads_back : SentAreRead) (s : SetUp) (past : List Entry) (words : ℕ → Option Word) (e : Entry) (run : OwnRun s past) (own : OwnPart s past words e) (x : Stepped s past e) where
  pub job_sends_to : (g : FrameView) → Member g e.sent → Member g.peer (others s)
  job_sends_to g m = go (client_sends s past words e own g m up)
    where
      up : g.up ≡ true
      up = (speaks s past e x g m).1

      go : SentWell (end_at past s.number (from_end g)) g → Member g.peer (others s)
      go (inl y) = (open_runs reads_back s past run (from_end g) up y.0).peer
      go (inr y) = called_other reads_back s past e run x g.peer (Each-member (λ h. is_opening h.body ≡ true → Called (turn_at s past e x) h.peer) e.sent g (stepped_calls s past e x) m (ap is_opening y.2))

  pub job_takes_from : (f : FrameView) → e.taken ≡ Some f → Member f.peer (others s)
  job_takes_from f took = (open_runs reads_back s past run (end_of f) (ap (λ b. if b then false else true) (hears s past e x f took).1) (takes_open reads_back s past e x f took)).peer
