-- All that is sent and taken at a client's end in one epoch is by one job: while the end is open, by the job that runs in its slot.
use Rattle.std.proofs.Common.{◌≡◌, ℕ, ◌+◌, ◌<◌, ◌≤◌, Bool, true, false, List, [], ◌∷◌, length, Option, Some, None, ◌⊎◌, inl, inr, refl, sym, ap, ◌∙◌, subst, arith}
use Rattle.std.specs.Prelude.{if◌then◌else◌, ◌==◌, ◌&&◌, ◌||◌, not}
use Rattle.std.specs.List.{list_any}
use Rattle.std.proofs.lemmas.Bool.{true≢false, and_parts, eqb-true}
use Rattle.std.proofs.lemmas.List.{length-map}
use Rattle.annex_base.specs.Lists.{Member}
use Rattle.annex_base.specs.declared.kinds.Word.{Word}
use Rattle.annex_base.proofs.Conditions.{eqb_refl, same_bool_is}
use Rattle.annex_base.proofs.Lists.{Member-filter_parts, list_any_found}
use Rattle.annex_base.specs.Bools.{same_bool}
use Rattle.step_facts.proofs.Below.{SentAreRead}
use Rattle.run_data.specs.declared.entry.Entry.{Entry}
use Rattle.run_data.specs.declared.entry.EntryKind.{EntryKind}
use Rattle.run_data.specs.declared.entry.EntryKind.TheVariants.{Begin, Crash, End as ends_job}
use Rattle.run_data.specs.declared.entry.FrameView.{FrameView}
use Rattle.run_data.specs.declared.entry.FrameText.{FrameText}
use Rattle.run_data.specs.declared.entry.FrameText.TheVariants.{Opening, Closing, Bytes, Line}
use Rattle.run_data.specs.declared.job.Job.{Job}
use Rattle.run_model.specs.Past.{Occurs, is_of, jobs, jobs_after}
use Rattle.node_model.specs.Slots.{RunningJob, free_slot, job_of}
use Rattle.node_model.specs.Rows.{option_is}
use Rattle.run_model.specs.Frames.{Way, is_on, takes, up_of}
use Rattle.step_facts.proofs.Ways.{down_of}
use Rattle.node_model.specs.Ends.{End, EndName, end_took, is_opening, may_take, sent_at, server_end, taken_at}
use Rattle.node_model.specs.SetUp.{SetUp}
use Rattle.run_model.specs.States.{end_at, works}
use Rattle.node_model.specs.Jobs.{running_job}
use Rattle.node_model.specs.Found.{IsJobEntry}
use Rattle.run_model.specs.Run.{OwnPart, OwnRun}
use Rattle.step_facts.proofs.ServerEnds.{GivesHere, TakesHere, end_of, takes_end}
use Rattle.step_facts.proofs.EndMoves.{OpensNone, all_opened, end_own, may_epoch, own_induction, sends_all}
use Rattle.step_facts.proofs.EndEpochs.{between_grows, client_sends, end_grows, from_end, opening_grows, opening_later, own_takes, within}
use Rattle.step_facts.proofs.JobEnds.{SentWell}
use Rattle.step_facts.proofs.JobKept.{jobs_are}
use Rattle.step_facts.proofs.WorkNumbers.{Apart, begins_few, free_is, jobs_apart}
use Rattle.step_facts.proofs.JobSteps.{OfNoJob, Stepped, stepped_found, stepped_job, turn_at}
use Rattle.job_facts.proofs.Untouched.{still_sends}
use Rattle.job_facts.proofs.Speaks.{hears, speaks}
use Rattle.step_facts.proofs.Makers.{who}
use Rattle.job_facts.proofs.OpenEnds.{alone_still, jobs_own, open_runs, opened_before, opens_or, session_still, stepped_job_runs, took_opened, used_slot}
use Rattle.node_model.specs.Slots

-- the entry of a client sends or takes a frame of the connection
abbrev pub uses : Way → Entry → Bool
uses w e = list_any (is_on (up_of w) w.server) e.sent || takes (down_of w) e.taken

-- the entry sends or takes a frame of this epoch at the end
abbrev pub Touches : EndName → ℕ → Entry → Type 0
Touches a n e = ((g : FrameView) × (Member g e.sent) × (from_end g ≡ a) × (g.epoch ≡ n)) ⊎ ((f : FrameView) × (e.taken ≡ Some f) × (end_of f ≡ a) × (f.epoch ≡ n))

-- the client's end of a way
abbrev pub end_to : Way → EndName
end_to w = record { peer = w.server; slot = w.slot; client = true }

-- the parts of the test that a frame is on a way
record On (w : Way) (peer : ℕ) (g : FrameView) : Type 0 where
  peer_is : g.peer ≡ peer
  slot_is : g.slot ≡ w.slot
  side : same_bool g.up w.up ≡ true
  epoch_is : g.epoch ≡ w.epoch

on_parts : (w : Way) (peer : ℕ) (g : FrameView) → is_on w peer g ≡ true → On w peer g
on_parts w peer g e =
    let a = and_parts (g.peer == peer) ((g.slot == w.slot) && (same_bool g.up w.up && (g.epoch == w.epoch))) e in
    let b = and_parts (g.slot == w.slot) (same_bool g.up w.up && (g.epoch == w.epoch)) a.1 in
    let c = and_parts (same_bool g.up w.up) (g.epoch == w.epoch) b.1 in
    record { peer_is = eqb-true g.peer peer a.0; slot_is = eqb-true g.slot w.slot b.0; side = c.0; epoch_is = eqb-true g.epoch w.epoch c.1 }

pub uses_touches : (w : Way) (e : Entry) → uses w e ≡ true → Touches (end_to w) w.epoch e
uses_touches w e used = go (list_any (is_on (up_of w) w.server) e.sent) refl used
  where
    down_is : (b : Bool) → same_bool b false ≡ true → (if b then false else true) ≡ true
    down_is true h = absurd (cc)
    down_is false h = refl

    took : (o : Option FrameView) → e.taken ≡ o → takes (down_of w) o ≡ true → Touches (end_to w) w.epoch e
    took None is h = absurd (cc)
    took (Some f) is h =
        let x = on_parts (down_of w) w.server f h in
        inr (f, is, (λ i. record { peer = x.peer_is i; slot = x.slot_is i; client = down_is f.up x.side i }), x.epoch_is)

    go : (b : Bool) → list_any (is_on (up_of w) w.server) e.sent ≡ b → (b || takes (down_of w) e.taken) ≡ true → Touches (end_to w) w.epoch e
    go true is h =
        let g = list_any_found (is_on (up_of w) w.server) e.sent is in
        let x = on_parts (up_of w) w.server g.0 g.2 in
        inl (g.0, g.1, (λ i. record { peer = x.peer_is i; slot = x.slot_is i; client = same_bool_is g.0.up true x.side i }), x.epoch_is)
    go false is h = took e.taken refl h

-- ---- an entry of a job that touches a client's end is a step of the job in its slot

pub record Touched (s : SetUp) (past : List Entry) (e : Entry) (a : EndName) (i : ℕ) : Type 0 where
  pub by : Stepped s past e
  pub number : by.w.number ≡ i
  pub slot : by.w.slot ≡ a.slot

pub touched : (s : SetUp) (past : List Entry) (words : ℕ → Option Word) (e : Entry) → OwnPart s past words e → (a : EndName) → a.client ≡ true → (n i : ℕ) → job_of e.kind ≡ Some i → Touches a n e → Touched s past e a i
touched s past words e own a client n i job t = elim (who s past words e own) [
  | inl x ↦ absurd (silent x.0 (λ f took. let no' : None ≡ Some f = sym x.1.takes_none ∙ took in cc) t)
  | inr x ↦ elim (x) [
    | inl y ↦ absurd (silent y.0 (λ f took at. up y.1.0 y.1.1 f took at y.1.3) t)
    | inr y ↦ record { by = y; number = (let same : Some y.w.number ≡ Some i = sym (stepped_job s past e y) ∙ job in cc); slot = at_slot y t }
  ]
]
  where
    silent : OfNoJob e.kind → ((f : FrameView) → e.taken ≡ Some f → end_of f ≡ a → ⊥) → Touches a n e → ⊥
    silent none takes (inl x) = subst (Member x.0) (still_sends s past words e own i (none i) (subst (λ o. option_is o i ≡ true) (sym job) (eqb_refl i))) x.1
    silent none takes (inr x) = takes x.0 x.1 x.2

    up : (p q : ℕ) (f : FrameView) → e.taken ≡ Some f → end_of f ≡ a → TakesHere s past (server_end p q) e ⊎ GivesHere s past (server_end p q) e → ⊥
    up p q f took at (inr z) = let no' : None ≡ Some f = sym z.taken_is ∙ took in cc
    up p q f took at (inl z) =
        let both : Some z.f ≡ Some f = sym z.taken_is ∙ took in
        let is : z.f ≡ f = cc in
        let server : server_end p q ≡ a = sym (takes_end (server_end p q) z.f z.of_end) ∙ ap end_of is ∙ at in
        true≢false (sym client ∙ sym (ap (λ (b : EndName). b.client) server))

    at_slot : (y : Stepped s past e) → Touches a n e → y.w.slot ≡ a.slot
    at_slot y (inl x) = sym (speaks s past e y x.0 x.1).0 ∙ ap (λ (b : EndName). b.slot) x.2
    at_slot y (inr x) = sym (hears s past e y x.0 x.1).0 ∙ ap (λ (b : EndName). b.slot) x.2

-- ---- jobs

-- a running job is known by its slot
same_slot : (js : List RunningJob) → Apart js → (x y : RunningJob) → Member x js → Member y js → x.slot ≡ y.slot → x ≡ y
same_slot [] a x y m n e = absurd m
same_slot (j ∷ js) a x y (inl m) (inl n) e = m ∙ sym n
same_slot (j ∷ js) a x y (inl m) (inr n) e =
    let at : y.slot ≡ j.slot = sym e ∙ ap (λ (z : RunningJob). z.slot) m in
    absurd (true≢false (sym (subst (λ k. Slots.uses js k ≡ true) at (used_slot js y n)) ∙ a.0))
same_slot (j ∷ js) a x y (inr m) (inl n) e =
    let at : x.slot ≡ j.slot = e ∙ ap (λ (z : RunningJob). z.slot) n in
    absurd (true≢false (sym (subst (λ k. Slots.uses js k ≡ true) at (used_slot js x m)) ∙ a.0))
same_slot (j ∷ js) a x y (inr m) (inr n) e = same_slot js a.1 x y m n e

-- a job that runs after an entry ran before it, or begins in the free slot
pub ran_or : (js : List RunningJob) (kind : EntryKind) (j : RunningJob) → Member j (jobs_after js kind) → Member j js ⊎ ((job : ℕ) × (what : Job) × ((kind ≡ Begin job what) × (j.slot ≡ free_slot js)))
ran_or js (Begin job what) j (inl m) = inr (job, what, (refl, ap (λ (z : RunningJob). z.slot) m))
ran_or js (Begin job what) j (inr m) = inl m
ran_or js (ends_job job outcome) j m = inl (Member-filter_parts (λ (z : RunningJob). not (z.number == job)) js j m).0
ran_or js (Crash clock) j m = absurd m
ran_or js kind j m = inl m

-- ---- the invariant

-- what touched an open end in its epoch is by the job that runs in its slot
abbrev pub OneRuns : SetUp → List Entry → EndName → Type 0
OneRuns s past a = (end_at past s.number a).opened ≡ true → (job : RunningJob) → Member job (jobs past s.number) → job.slot ≡ a.slot → (x : Entry) (before : List Entry) → Occurs past x before → is_of s.number x ≡ true
    → (i : ℕ) → job_of x.kind ≡ Some i → Touches a (end_at past s.number a).epoch x → i ≡ job.number

opening_is : (body : FrameText) → is_opening body ≡ true → body ≡ Opening
opening_is Opening e = refl
opening_is Closing e = absurd (cc)
opening_is (Bytes n) e = absurd (cc)
opening_is (Line text) e = absurd (cc)

-- an earlier entry touched no later epoch
touched_within : (s : SetUp) (past : List Entry) → OwnRun s past → (a : EndName) (n : ℕ) (x : Entry) (before : List Entry) → Occurs past x before → is_of s.number x ≡ true → Touches a n x → n ≤ (end_at past s.number a).epoch
touched_within s past run a n x before o is t = elim (t) [
  | inl g ↦ subst (λ k. k ≤ (end_at past s.number a).epoch) g.3 ((within s a past run).sent_in x before g.0 o is g.1 g.2)
  | inr f ↦ subst (λ k. k ≤ (end_at past s.number a).epoch) f.3 ((within s a past run).taken_in x before f.0 o is f.1 f.2)
]

module _ (reads_back : SentAreRead) (s : SetUp) (past : List Entry) (e : Entry) (words : ℕ → Option Word) (run : OwnRun s past) (is : is_of s.number e ≡ true) (own : OwnPart s past words e) (a : EndName) (client : a.client ≡ true) (now : (end_at (e ∷ past) s.number a).opened ≡ true) where
  abbrev c : End
  c = end_at past s.number a

  abbrev d : End
  d = end_at (e ∷ past) s.number a

  -- it was open, or a job opened it anew
  was_open : (c.opened ≡ true) ⊎ (c.epoch < d.epoch)
  was_open = elim (who s past words e own) [
    | inl x ↦ inl (opened_before s.number past a e is (alone_still s past a e x.1) now)
    | inr x ↦ elim (x) [
      | inl y ↦ inl (opened_before s.number past a e is (session_still s past a e client y.1) now)
      | inr y ↦ by_job y (opens_or (sent_at a e.sent))
    ]
  ]
    where
      between : End
      between = end_took (end_at past s.number a) (taken_at a e.taken)

      after_is : end_at (e ∷ past) s.number a ≡ sends_all between (sent_at a e.sent)
      after_is = end_own s.number past a e is

      by_job : (y : Stepped s past e) → OpensNone (sent_at a e.sent) ⊎ ((g : FrameView) × (Member g (sent_at a e.sent)) × (is_opening g.body ≡ true)) → (c.opened ≡ true) ⊎ (c.epoch < d.epoch)
      by_job y (inl none) = inl (took_opened reads_back s past e y a (all_opened between (sent_at a e.sent) none (ap (λ (z : End). z.opened) (sym after_is) ∙ now)))
      by_job y (inr g) =
          let grows : c.epoch ≤ between.epoch = between_grows s past words e own is a in
          let opens : between.epoch + 1 ≤ (sends_all between (sent_at a e.sent)).epoch = opening_grows between (sent_at a e.sent) g.0 g.1 (opening_is g.0.body g.2) in
          let same : d.epoch ≡ (sends_all between (sent_at a e.sent)).epoch = ap (λ (z : End). z.epoch) after_is in
          inr (omega (arith, grows, opens, same))

  -- no job begins in the slot of an end that was open
  no_begin : c.opened ≡ true → (job : RunningJob) → job.slot ≡ a.slot → (j : ℕ) (what : Job) → e.kind ≡ Begin j what → job.slot ≡ free_slot (jobs past s.number) → ⊥
  no_begin o job slot j what kind free =
      let js = jobs past s.number in
      let x = open_runs reads_back s past run a client o in
      let few : length js < 4 = subst (λ n. n < 4) (sym (length-map (works past s.number) running_job) ∙ ap length (jobs_are past s.number)) (begins_few s past words e own j what kind) in
      let at : x.job.slot ≡ free_slot js = x.slot ∙ sym slot ∙ free in
      true≢false (sym (subst (λ n. Slots.uses js n ≡ true) at (used_slot js x.job x.runs)) ∙ free_is js few)

  module _ (old : OneRuns s past a) (job : RunningJob) (runs : Member job (jobs (e ∷ past) s.number)) (slot : job.slot ≡ a.slot) where
    ran : Member job (jobs past s.number) ⊎ ((j : ℕ) × (what : Job) × ((e.kind ≡ Begin j what) × (job.slot ≡ free_slot (jobs past s.number))))
    ran = ran_or (jobs past s.number) e.kind job (subst (Member job) (jobs_own s.number past e is) runs)

    -- the entry itself
    by_entry : (i : ℕ) → job_of e.kind ≡ Some i → Touches a d.epoch e → i ≡ job.number
    by_entry i kind t =
        let y = touched s past words e own a client d.epoch i kind t in
        let one : Member job (jobs past s.number) → job ≡ running_job y.by.w = λ m. same_slot (jobs past s.number) (jobs_apart s past run) job (running_job y.by.w) m (stepped_job_runs s past e y.by) (slot ∙ sym y.slot) in
        elim (ran) [
          | inl m ↦ sym y.number ∙ sym (ap (λ (z : RunningJob). z.number) (one m))
          | inr b ↦ absurd (subst (IsJobEntry (turn_at s past e y.by) y.by.made) (sym (ap (λ (z : Entry). z.kind) y.by.is) ∙ b.2.0) (stepped_found s past e y.by).found)
        ]

    -- an earlier one
    by_older : (x : Entry) (before : List Entry) → Occurs past x before → is_of s.number x ≡ true → (i : ℕ) → job_of x.kind ≡ Some i → Touches a d.epoch x → i ≡ job.number
    by_older x before o own_x i kind t = elim (was_open) [
      | inl opened ↦ elim (ran) [
        | inl m ↦ old opened job m slot x before o own_x i kind (subst (λ n. Touches a n x) same t)
        | inr b ↦ absurd (no_begin opened job slot b.0 b.1 b.2.0 b.2.1)
      ]
      | inr later ↦ (let bound = in_past in absurd (omega (arith, later, bound)))
    ]
      where
        in_past : d.epoch ≤ c.epoch
        in_past = touched_within s past run a d.epoch x before o own_x t

        same : d.epoch ≡ c.epoch
        same = let bound = in_past in let grows : c.epoch ≤ d.epoch = end_grows s past words e own is a in omega (arith, bound, grows)

    after_one : (x : Entry) (before : List Entry) → Occurs (e ∷ past) x before → is_of s.number x ≡ true → (i : ℕ) → job_of x.kind ≡ Some i → Touches a d.epoch x → i ≡ job.number
    after_one x before (inl o) own_x i kind t = by_entry i (sym (ap (λ (z : Entry). job_of z.kind) o.0) ∙ kind) (subst (Touches a d.epoch) o.0 t)
    after_one x before (inr o) own_x i kind t = by_older x before o own_x i kind t

-- E: all that touched an open end of a client in its epoch is by the job that runs in its slot
pub one_runs : SentAreRead → (s : SetUp) → (a : EndName) → a.client ≡ true → (past : List Entry) → OwnRun s past → OneRuns s past a
one_runs reads_back s a client past run = own_induction s (λ p. OneRuns s p a) (λ o. absurd (true≢false (sym o))) other
    (λ p e words r is part old now job runs slot. after_one reads_back s p e words r is part a client now old job runs slot) past run
  where
    other : (p : List Entry) (e : Entry) → is_of s.number e ≡ false → OneRuns s p a → OneRuns s (e ∷ p) a
    other p e is old o job runs slot x before (inl at) own_x i kind t = absurd (true≢false (sym own_x ∙ ap (is_of s.number) at.0 ∙ is))
    other p e is old o job runs slot x before (inr at) own_x i kind t = old (rw is at o) job (rw is at runs) slot x before at own_x i kind (rw is at t)

-- what is sent and taken in one epoch of a connection is by one job
pub one_job : SentAreRead → (s : SetUp) → (past : List Entry) (words : ℕ → Option Word) (e : Entry) → OwnRun s past → is_of s.number e ≡ true → OwnPart s past words e → (w : Way) → uses w e ≡ true
    → (j i : ℕ) (x : Entry) (before : List Entry) → job_of e.kind ≡ Some j → Occurs past x before → is_of s.number x ≡ true → job_of x.kind ≡ Some i → uses w x ≡ true → i ≡ j
one_job reads_back s past words e run is own w used j i x before kind o own_x kind_x used_x = go (uses_touches w e used)
  where
    a : EndName
    a = end_to w

    c : End
    c = end_at past s.number a

    t : Touches a w.epoch x
    t = uses_touches w x used_x

    bound : w.epoch ≤ c.epoch
    bound = touched_within s past run a w.epoch x before o own_x t

    y : Touched s past e a j
    y = touched s past words e own a refl w.epoch j kind (uses_touches w e used)

    -- the end is open, and at this epoch
    at_epoch : c.opened ≡ true → w.epoch ≡ c.epoch → i ≡ j
    at_epoch opened same = one_runs reads_back s a refl past run opened (running_job y.by.w) (stepped_job_runs s past e y.by) y.slot x before o own_x i kind_x (subst (λ n. Touches a n x) same t) ∙ y.number

    go : Touches a w.epoch e → i ≡ j
    go (inl g) =
        let up : g.0.up ≡ true = ap (λ (z : EndName). z.client) g.2 in
        sent (subst (λ (z : EndName). SentWell (end_at past s.number z) g.0) g.2 (client_sends s past words e own g.0 g.1 up))
      where
        sent : SentWell c g.0 → i ≡ j
        sent (inl z) = at_epoch z.0 (sym g.3 ∙ z.1)
        sent (inr z) = let next : g.0.epoch ≡ c.epoch + 1 = z.1 in let at : g.0.epoch ≡ w.epoch = g.3 in let b = bound in absurd (omega (arith, next, at, b))
    go (inr f) = took (is_opening f.0.body) refl
      where
        may : may_take c f.0 ≡ true
        may = ap (λ (z : EndName). may_take (end_at past s.number z) f.0) (sym f.2) ∙ own_takes s past words e f.0 own f.1

        took : (b : Bool) → is_opening f.0.body ≡ b → i ≡ j
        took true opens = let later = opening_later c f.0 opens may in let at : f.0.epoch ≡ w.epoch = f.3 in let b = bound in absurd (omega (arith, later, at, b))
        took false not' = let z = may_epoch c f.0 not' may in at_epoch z.0 (sym f.3 ∙ z.1)
