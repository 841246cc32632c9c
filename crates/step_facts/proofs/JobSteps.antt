-- Where each running job comes from: it begins with the entry, or is left alone by it, or makes it.
use Rattle.std.proofs.Common.{◌≡◌, ◌≢◌, ℕ, Bool, true, false, List, [], ◌∷◌, Option, Some, None, ◌⊎◌, inl, inr, refl, sym, ap, ◌∙◌, subst, arith}
use Rattle.std.specs.Prelude.{◌<◌, ◌^◌, if◌then◌else◌, ◌==◌, find, map, not}
use Rattle.std.proofs.lemmas.Bool.Decides.{nat_tests}
use Rattle.std.proofs.lemmas.Bool.{eqb-true}
use Rattle.std.specs.Option.{option_or}
use Rattle.annex_base.specs.Lists.{Member}
use Rattle.annex_base.specs.declared.kinds.Call.{Call}
use Rattle.annex_base.specs.declared.kinds.Call.TheVariants.{PutFile}
use Rattle.annex_base.specs.declared.kinds.Word.{Word}
use Rattle.annex_base.proofs.Lists.{Member-filter_parts, find_member}
use Rattle.annex_base.proofs.Conditions.{eqb_apart}
use Rattle.annex_base.proofs.Options.{first_some-was, option_or-was}
use Rattle.run_data.specs.declared.entry.By.{By}
use Rattle.run_data.specs.declared.entry.By.TheVariants.{Script}
use Rattle.run_data.specs.declared.entry.Entry.{Entry}
use Rattle.run_data.specs.declared.entry.EntryKind.{EntryKind}
use Rattle.run_data.specs.declared.entry.EntryKind.TheVariants.{Begin, Gain, Share, Release, Check, Bar, Order, Gone, Log, Compact, Talk, Close, Crash, Fault, End as ends_job}
use Rattle.run_data.specs.declared.entry.FrameView.{FrameView}
use Rattle.run_data.specs.declared.entry.FrameText.{FrameText}
use Rattle.run_data.specs.declared.job.Job.{Job}
use Rattle.run_data.specs.declared.job.Outcome.{Outcome}
use Rattle.node_model.specs.Slots.{job_of}
use Rattle.run_model.specs.Logs.{is_step}
use Rattle.run_model.specs.Past.{is_of}
use Rattle.node_model.specs.Rows.{option_is}
use Rattle.p2p_wire.specs.declared.message.Message.{Message}
use Rattle.node_model.specs.SetUp.{SetUp, slots}
use Rattle.run_model.specs.States.{state_of, rows_at, works}
use Rattle.node_model.specs.AnyTime.{MayCome}
use Rattle.node_model.specs.Sessions.{Doing}
use Rattle.node_model.specs.Jobs.{Work, new_work, partner, work_after, work_kind, works_after}
use Rattle.node_model.specs.Look.{Look, Effect, entry_of}
use Rattle.node_model.specs.JobStep.{Turn, turn_of}
use Rattle.node_model.specs.SessionStep.{Here, by_of, here, session_step}
use Rattle.node_model.specs.OwedStep.{owed_step}
use Rattle.node_model.specs.Turns.{job_step, slot_step}
use Rattle.run_model.specs.Run.{IsStep, OwnPart, OwnRun}
use Rattle.node_model.specs.Found.{IsJobEntry, IsSessionEntry}
use Rattle.step_facts.proofs.SessionFacts.{session_found}
use Rattle.step_facts.proofs.JobFacts.{MadeBy, partner_found}
use Rattle.step_facts.proofs.StepFacts.{pays_found}
use Rattle.step_facts.proofs.WorkNumbers.{same_number_same_work}
use Rattle.step_facts.proofs.Plain.{member_mapped}

-- the job in a slot made the entry
pub record Stepped (s : SetUp) (past : List Entry) (e : Entry) : Type 0 where
  pub look : Look
  pub small : look.part < 2 ^ 62
  pub made : Effect
  pub is : e ≡ entry_of s.number look made
  pub w : Work
  pub slot : ℕ
  pub runs : find (λ w. w.slot == slot) (works past s.number) ≡ Some w
  pub does : slot_step s (state_of s past) look (Some w) ≡ Some made

abbrev pub turn_at : (s : SetUp) (past : List Entry) (e : Entry) → Stepped s past e → Turn
turn_at s past e x = turn_of s (state_of s past) x.look x.w

pub stepped_runs : (s : SetUp) (past : List Entry) (e : Entry) (x : Stepped s past e) → Member x.w (works past s.number)
stepped_runs s past e x = (find_member (λ w. w.slot == x.slot) (works past s.number) x.w x.runs).0

-- what it found, and what it takes
pub stepped_found : (s : SetUp) (past : List Entry) (e : Entry) (x : Stepped s past e) → MadeBy (turn_at s past e x) x.made
stepped_found s past e x = partner_found (turn_at s past e x) x.made (partner x.w.what.peer x.w.phase) refl x.does

-- ---- entries of no job

abbrev pub OfNoJob : EntryKind → Type 0
OfNoJob kind = (j : ℕ) → is_step j kind ≡ false

pub session_no_job : (h : Here) (doing : Doing) (asked : Option Message) (says : List FrameText) (kind : EntryKind) → IsSessionEntry h doing asked says kind → OfNoJob kind
session_no_job h doing asked says (Share hold end by key) x j = subst (λ b. is_step j (Share hold end b key) ≡ false) (sym x.by_is) refl
session_no_job h doing asked says (Check what key) x j = refl
session_no_job h doing asked says (Gone by key) x j = subst (λ b. is_step j (Gone b key) ≡ false) (sym x.by_is) refl
session_no_job h doing asked says (Release hold key) x j = refl
session_no_job h doing asked says (Gain by size key) x j = subst (λ b. is_step j (Gain b size key) ≡ false) (sym x.by_is) refl
session_no_job h doing asked says (Talk None) x j = refl
session_no_job h doing asked says (Close peer slot client) x j = refl
session_no_job h doing asked says (Fault PutFile by) x j = refl
session_no_job h doing asked says (Fault call by) x j = subst (λ b. is_step j (Fault call b) ≡ false) (sym x.0) (fault call)
  where
    fault : (c : Call) → is_step j (Fault c (by_of h)) ≡ false
    fault PutFile = refl
    fault c = refl
session_no_job h doing asked says kind x j = absurd x

pub come_no_job : (s : SetUp) (past : List Entry) (lines : List (List ℕ)) (sent : List FrameView) (kind : EntryKind) → MayCome s (state_of s past) lines sent kind → OfNoJob kind
come_no_job s past lines sent (Begin job what) x j = refl
come_no_job s past lines sent (Gain Script size key) x j = refl
come_no_job s past lines sent (Log file) x j = refl
come_no_job s past lines sent (Compact file) x j = refl
come_no_job s past lines sent (Fault PutFile Script) x j = refl
come_no_job s past lines sent (Fault call Script) x j = refl
come_no_job s past lines sent (Close peer slot client) x j = refl
come_no_job s past lines sent (Crash clock) x j = refl
come_no_job s past lines sent kind x j = absurd x

pub owed_no_job : (s : SetUp) (past : List Entry) (look : Look) (made : Effect) → owed_step s (state_of s past) look ≡ Some made → OfNoJob made.kind
owed_no_job s past look made e j = elim ((pays_found s (state_of s past) look made (state_of s past).owed refl e).writes) [
  | inl w ↦ subst (λ (m : Effect). is_step j m.kind ≡ false) (sym w) refl
  | inr w ↦ subst (λ (m : Effect). is_step j m.kind ≡ false) (sym w) refl
]

-- who made a step: an owed line, a session, or a job
pub step_made : (s : SetUp) (past : List Entry) (words : ℕ → Option Word) (e : Entry) (x : IsStep s past words e)
    → (owed_step s (state_of s past) x.look ≡ Some x.made) ⊎ ((session_step s (state_of s past) x.look ≡ Some x.made) ⊎ Stepped s past e)
step_made s past words e x = elim (option_or-was (owed_step s (state_of s past) x.look) (option_or (session_step s (state_of s past) x.look) (job_step s (state_of s past) x.look)) x.made x.makes) [
  | inl o ↦ inl o
  | inr r ↦ inr (elim (option_or-was (session_step s (state_of s past) x.look) (job_step s (state_of s past) x.look) x.made r) [ inl g ↦ inl g | inr g ↦ inr (by_job g) ])
]
  where
    by_slot : (slot : ℕ) (w : Option Work) → find (λ w. w.slot == slot) (works past s.number) ≡ w → slot_step s (state_of s past) x.look w ≡ Some x.made → Stepped s past e
    by_slot slot None is g = absurd (cc)
    by_slot slot (Some w) is g = record { look = x.look; small = x.part_small; made = x.made; is = x.is; w = w; slot = slot; runs = is; does = g }

    by_job : job_step s (state_of s past) x.look ≡ Some x.made → Stepped s past e
    by_job g =
        let y = first_some-was (λ slot. slot_step s (state_of s past) x.look (find (λ w. w.slot == slot) (works past s.number))) slots x.made g in
        by_slot y.0 (find (λ w. w.slot == y.0) (works past s.number)) refl y.2

-- an entry is one of no job, or a job made it
pub made_by : (s : SetUp) (past : List Entry) (words : ℕ → Option Word) (e : Entry) → OwnPart s past words e → OfNoJob e.kind ⊎ Stepped s past e
made_by s past words e own = elim (own.does) [
  | inl x ↦ steps x
  | inr x ↦ inl (come_no_job s past e.lines e.sent e.kind x.may)
]
  where
    kind_of : (x : IsStep s past words e) → OfNoJob x.made.kind → OfNoJob e.kind ⊎ Stepped s past e
    kind_of x none = inl (subst (λ (y : Entry). OfNoJob y.kind) (sym x.is) none)

    by_session : (x : IsStep s past words e) → session_step s (state_of s past) x.look ≡ Some x.made → OfNoJob e.kind ⊎ Stepped s past e
    by_session x g =
        let y = session_found s (state_of s past) x.look x.made g in
        kind_of x (session_no_job (here s (state_of s past) x.look (record { peer = y.peer; slot = y.slot; client = false })) ((state_of s past).sessions (record { peer = y.peer; slot = y.slot; client = false })).doing y.asked y.says x.made.kind y.found)

    steps : (x : IsStep s past words e) → OfNoJob e.kind ⊎ Stepped s past e
    steps x = elim (step_made s past words e x) [
      | inl o ↦ kind_of x (owed_no_job s past x.look x.made o)
      | inr r ↦ elim r [ inl g ↦ by_session x g | inr y ↦ inr y ]
    ]

-- ---- the job that made it

-- a session's entry is no job's
pub session_none : (h : Here) (doing : Doing) (asked : Option Message) (says : List FrameText) (kind : EntryKind) → IsSessionEntry h doing asked says kind → job_of kind ≡ None
session_none h doing asked says (Share hold end by key) x = ap (λ (b : By). job_of (Share hold end b key)) x.by_is
session_none h doing asked says (Check what key) x = refl
session_none h doing asked says (Gone by key) x = ap (λ (b : By). job_of (Gone b key)) x.by_is
session_none h doing asked says (Release hold key) x = refl
session_none h doing asked says (Gain by size key) x = ap (λ (b : By). job_of (Gain b size key)) x.by_is
session_none h doing asked says (Talk None) x = refl
session_none h doing asked says (Close peer slot client) x = refl
session_none h doing asked says (Fault call by) x = ap (λ (b : By). job_of (Fault call b)) x.0
session_none h doing asked says kind x = absurd x

-- a job's entry is its own
pub job_is : (t : Turn) (m : Effect) (kind : EntryKind) → IsJobEntry t m kind → job_of kind ≡ Some t.w.number
job_is t m (Share hold end by key) x = subst (λ b. job_of (Share hold end b key) ≡ Some t.w.number) (sym x.by_is) refl
job_is t m (Bar j need key) x = ap Some x.number_is
job_is t m (Gone by key) x = subst (λ b. job_of (Gone b key) ≡ Some t.w.number) (sym x.by_is) refl
job_is t m (Order j peer deadline need key) x = ap Some x.number_is
job_is t m (Gain by size key) x = subst (λ b. job_of (Gain b size key) ≡ Some t.w.number) (sym x.by_is) refl
job_is t m (ends_job j outcome) x = ap Some x.number_is
job_is t m (Talk (Some j)) x = ap Some x.0
job_is t m (Fault call by) x = subst (λ b. job_of (Fault call b) ≡ Some t.w.number) (sym x.0) refl
job_is t m kind x = absurd x

pub stepped_job : (s : SetUp) (past : List Entry) (e : Entry) (x : Stepped s past e) → job_of e.kind ≡ Some x.w.number
stepped_job s past e x =
    subst (λ (y : Entry). job_of y.kind ≡ Some x.w.number) (sym x.is) (job_is (turn_at s past e x) x.made x.made.kind (stepped_found s past e x).found)

-- ---- where each running job comes from

-- it begins
pub record Begins (s : SetUp) (past : List Entry) (e : Entry) (w : Work) : Type 0 where
  pub job : ℕ
  pub what : Job
  pub kind_is : e.kind ≡ Begin job what
  pub work_is : w ≡ new_work (works past s.number) job what

-- the entry is none of its steps, and doesn't end it
pub record Stays (s : SetUp) (past : List Entry) (e : Entry) (w : Work) : Type 0 where
  pub ran : Member w (works past s.number)
  pub still : is_step w.number e.kind ≡ false
  pub goes_on : (outcome : Outcome) → e.kind ≢ ends_job w.number outcome
  pub no_crash : (clock : ℕ) → e.kind ≢ Crash clock

-- it made the entry
pub record Steps (s : SetUp) (past : List Entry) (e : Entry) (w : Work) : Type 0 where
  pub by : Stepped s past e
  pub step : is_step by.w.number e.kind ≡ true
  pub goes_on : (j : ℕ) (outcome : Outcome) → e.kind ≢ ends_job j outcome
  pub work_is : w ≡ work_kind (rows_at past s.number) s.number by.w e e.kind

abbrev pub Origin : SetUp → List Entry → Entry → Work → Type 0
Origin s past e w = Begins s past e w ⊎ (Stays s past e w ⊎ Steps s past e w)

-- a step of a job is an entry of it
pub step_is_job : (j : ℕ) (kind : EntryKind) → is_step j kind ≡ true → option_is (job_of kind) j ≡ true
step_is_job j (Begin job what) e = absurd (cc)
step_is_job j (Fault PutFile by) e = absurd (cc)
step_is_job j (Fault call by) e = fault call e
  where
    fault : (c : Call) → is_step j (Fault c by) ≡ true → option_is (job_of (Fault c by)) j ≡ true
    fault PutFile e = absurd (cc)
    fault c e = e
step_is_job j kind e = e

-- an entry that is no step of the job leaves it alone
abbrev pub KindAfter : SetUp → List Entry → Work → Entry → EntryKind → Work
KindAfter s past w e kind = if option_is (job_of kind) w.number then work_kind (rows_at past s.number) s.number w e kind else w

off_after : (s : SetUp) (past : List Entry) (w : Work) (e : Entry) (kind : EntryKind) → option_is (job_of kind) w.number ≡ false → KindAfter s past w e kind ≡ w
off_after s past w e kind is = rw is refl

pub still_after : (s : SetUp) (past : List Entry) (w : Work) (e : Entry) (kind : EntryKind) → ((job : ℕ) (what : Job) → kind ≢ Begin job what) → is_step w.number kind ≡ false → KindAfter s past w e kind ≡ w
still_after s past w e (Begin job what) apart is = absurd (apart job what refl)
still_after s past w e (Fault PutFile by) apart is = go (option_is (job_of (Fault PutFile by)) w.number)
  where
    go : (b : Bool) → (if b then work_kind (rows_at past s.number) s.number w e (Fault PutFile by) else w) ≡ w
    go true = refl
    go false = refl
still_after s past w e (Fault call by) apart is = fault call is
  where
    fault : (c : Call) → is_step w.number (Fault c by) ≡ false → KindAfter s past w e (Fault c by) ≡ w
    fault PutFile is = go (option_is (job_of (Fault PutFile by)) w.number)
      where
        go : (b : Bool) → (if b then work_kind (rows_at past s.number) s.number w e (Fault PutFile by) else w) ≡ w
        go true = refl
        go false = refl
    fault c is = off_after s past w e (Fault c by) is
still_after s past w e kind apart is = off_after s past w e kind is

module _ (s : SetUp) (past : List Entry) (e : Entry) (run : OwnRun s past) (made : OfNoJob e.kind ⊎ Stepped s past e) where
  at_step : (w : Work) → Member w (works past s.number) → is_step w.number e.kind ≡ true → (x : Stepped s past e) × (w ≡ x.w)
  at_step w m step = elim (made) [
    | inl none ↦ absurd (let both : true ≡ false = sym step ∙ none w.number in cc)
    | inr x ↦ (x, same_number_same_work s past run w x.w m (stepped_runs s past e x) (sym (is_number x)))
  ]
    where
      is_number : (x : Stepped s past e) → x.w.number ≡ w.number
      is_number x = eqb-true x.w.number w.number (subst (λ o. option_is o w.number ≡ true) (stepped_job s past e x) (step_is_job w.number e.kind step))

  mapped_origin : (w : Work) → Member w (map (work_after (rows_at past s.number) s.number e) (works past s.number)) → ((job : ℕ) (what : Job) → e.kind ≢ Begin job what)
      → ((j : ℕ) (outcome : Outcome) → e.kind ≢ ends_job j outcome) → ((clock : ℕ) → e.kind ≢ Crash clock) → Origin s past e w
  mapped_origin w m no_begin no_end no_crash =
      let x = member_mapped (work_after (rows_at past s.number) s.number e) (works past s.number) w m in
      go x.0 x.1 x.2 (is_step x.0.number e.kind) refl
    where
      go : (y : Work) → Member y (works past s.number) → w ≡ work_after (rows_at past s.number) s.number e y → (b : Bool) → is_step y.number e.kind ≡ b → Origin s past e w
      go y m is false step =
          let same : w ≡ y = is ∙ still_after s past y e e.kind no_begin step in
          inr (inl (record {
            ran = subst (λ z. Member z (works past s.number)) (sym same) m;
            still = subst (λ (z : Work). is_step z.number e.kind ≡ false) (sym same) step;
            goes_on = λ outcome. no_end w.number outcome;
            no_crash = no_crash;
          }))
      go y m is true step =
          let at = at_step y m step in
          let after : work_after (rows_at past s.number) s.number e y ≡ work_kind (rows_at past s.number) s.number y e e.kind = rw (step_is_job y.number e.kind step) refl in
          inr (inr (record {
            by = at.0;
            step = subst (λ (z : Work). is_step z.number e.kind ≡ true) at.1 step;
            goes_on = no_end;
            work_is = is ∙ after ∙ ap (λ z. work_kind (rows_at past s.number) s.number z e e.kind) at.1;
          }))

  origin_by : (w : Work) (kind : EntryKind) → e.kind ≡ kind → Member w (works_after (rows_at past s.number) s.number (works past s.number) e kind) → Origin s past e w
  origin_by w (Begin job what) is (inl m) = inl (record { job = job; what = what; kind_is = is; work_is = m })
  origin_by w (Begin job what) is (inr m) = inr (inl (record {
    ran = m;
    still = subst (λ k. is_step w.number k ≡ false) (sym is) refl;
    goes_on = λ outcome g. let no_end : Begin job what ≡ ends_job w.number outcome = sym is ∙ g in cc;
    no_crash = λ clock g. let no_end : Begin job what ≡ Crash clock = sym is ∙ g in cc;
  }))
  origin_by w (ends_job job outcome) is m =
      let x = Member-filter_parts (λ (w : Work). not (w.number == job)) (works past s.number) w m in
      let off : (job == w.number) ≡ false = eqb_apart w.number job x.1 in
      inr (inl (record {
        ran = x.0;
        still = subst (λ k. is_step w.number k ≡ false) (sym is) off;
        goes_on = λ other g. let both : ends_job job outcome ≡ ends_job w.number other = sym is ∙ g in let same : job ≡ w.number = cc in absurd (grind (arith, nat_tests));
        no_crash = λ clock g. let no_end : ends_job job outcome ≡ Crash clock = sym is ∙ g in cc;
      }))
  origin_by w (Crash clock) is m = absurd m
  origin_by w kind is m = mapped_origin w m
      (λ job what g. let both : kind ≡ Begin job what = sym is ∙ g in cc)
      (λ j outcome g. let both : kind ≡ ends_job j outcome = sym is ∙ g in cc)
      (λ clock g. let both : kind ≡ Crash clock = sym is ∙ g in cc)

-- each job that runs after an entry began with it, or stayed as it was, or made it
pub origin : (s : SetUp) (past : List Entry) (e : Entry) → OwnRun s (e ∷ past) → is_of s.number e ≡ true → (w : Work) → Member w (works (e ∷ past) s.number) → Origin s past e w
origin s past e run is w m =
    let own = run.0 is in
    origin_by s past e run.1 (made_by s past own.0 e own.1) w e.kind refl (rw is at m)

-- ---- invariants

-- an invariant of each running job, over a repository's own part of a run: it holds as the job begins; entries of others, and those
-- of its own repository that are no steps of it, keep it, where it holds of all that run; and its steps do
pub invariant : (s : SetUp) (I : List Entry → Work → Type 0)
    → ((past : List Entry) (e : Entry) → is_of s.number e ≡ false → (w : Work) → Member w (works past s.number) → I past w → I (e ∷ past) w)
    → ((past : List Entry) (e : Entry) → OwnRun s (e ∷ past) → is_of s.number e ≡ true → ((w : Work) → Member w (works past s.number) → I past w)
    → (w : Work) → Origin s past e w → I (e ∷ past) w)
    → (past : List Entry) → OwnRun s past → (w : Work) → Member w (works past s.number) → I past w
invariant s I other own [] run w m = absurd m
invariant s I other own (e ∷ past) run w m = go (λ x n. invariant s I other own past run.1 x n) (is_of s.number e) refl
  where
    go : ((x : Work) → Member x (works past s.number) → I past x) → (b : Bool) → is_of s.number e ≡ b → I (e ∷ past) w
    go more false is = let n : Member w (works past s.number) = rw is at m in other past e is w n (more w n)
    go more true is = own past e run is more w (origin s past e run is w m)
