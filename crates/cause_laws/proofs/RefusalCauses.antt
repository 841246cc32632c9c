-- The causes of refusals that a repository's own entries show: of its row, of a call of its store that failed, and of what a peer answered.
use Rattle.std.proofs.Common.{◌≡◌, ◌≢◌, ℕ, true, false, List, Option, Some, None, ◌⊎◌, inl, inr, refl, sym, ap, ◌∙◌, subst}
use Rattle.std.specs.Prelude.{◌==◌, filter, find}
use Rattle.std.specs.Option.{option_or, unwrap_or}
use Rattle.annex_base.specs.Lists.{Member}
use Rattle.annex_base.specs.declared.kinds.Word.{Word}
use Rattle.annex_base.proofs.Conditions.{eqb_refl}
use Rattle.annex_base.proofs.Options.{first_some-was, option_or-was}
use Rattle.step_facts.proofs.Below.{SentAreRead}
use Rattle.drop_proof.specs.declared.rule.Side.{Side}
use Rattle.drop_proof.specs.declared.rule.Side.TheVariants.{Local, Remote}
use Rattle.run_data.specs.declared.entry.Entry.{Entry}
use Rattle.run_data.specs.declared.entry.EntryKind.{EntryKind}
use Rattle.run_data.specs.declared.entry.EntryKind.TheVariants.{End as ends_job}
use Rattle.run_data.specs.declared.entry.FrameView.{FrameView}
use Rattle.run_data.specs.declared.job.JobKind.{JobKind as KindOfJob}
use Rattle.run_data.specs.declared.job.JobKind.TheVariants as kinds
use Rattle.run_data.specs.declared.job.Outcome.{Outcome}
use Rattle.run_data.specs.declared.job.Outcome.TheVariants.{Refused, TransferRefused}
use Rattle.run_data.specs.declared.job.Denial.{Denial as DenialOf}
use Rattle.run_data.specs.declared.job.DropRefusal.{DropRefusal}
use Rattle.run_data.specs.declared.job.DropRefusal.TheVariants as refusals
use Rattle.run_data.specs.declared.job.TransferRefusal.{TransferRefusal}
use Rattle.run_data.specs.declared.job.TransferRefusal.TheVariants as failures
use Rattle.node_model.specs.Slots.{RunningJob}
use Rattle.run_model.specs.Past.{clock, holds}
use Rattle.node_model.specs.Rows.{blocks}
use Rattle.run_model.specs.Causes.{AtFirst, FailedCall, FoundAbsent, FoundBarred, FoundHeld, FoundNotHere, FoundRequired, HadFault, JobOf, is_put}
use Rattle.run_data.specs.Repos.{id_of}
use Rattle.run_model.specs.Logs.{before_step, is_step, settings_of}
use Rattle.wanted_expr.specs.Wanted.{required}
use Rattle.node_model.specs.SetUp.{SetUp, slots}
use Rattle.run_model.specs.States.{state_of, works}
use Rattle.node_model.specs.AnyTime.{IsPeer}
use Rattle.node_model.specs.Jobs.{Denied, Drops, Ends, Fresh, Late, Phase, Removed, Work, running_job, side_of}
use Rattle.node_model.specs.Knows.{obeyed_outcome, proof_by}
use Rattle.node_model.specs.JobStep.{Turn}
use Rattle.node_model.specs.DropStep
use Rattle.node_model.specs.DropStep.{removal_outcome, target, until}
use Rattle.node_model.specs.Found.{FindsOutcome, HasOutcome}
use Rattle.node_model.specs.Turns.{job_step, outcome_of, slot_step}
use Rattle.node_model.specs.OwedStep.{owed_step}
use Rattle.node_model.specs.SessionStep.{here, session_step}
use Rattle.run_model.specs.Run.{IsStep, OwnPart, OwnPast}
use Rattle.step_facts.proofs.JobSteps.{OfNoJob, Stepped, come_no_job, owed_no_job, session_no_job, stepped_runs, turn_at}
use Rattle.step_facts.proofs.SessionFacts.{session_found}
use Rattle.job_facts.proofs.Aims.{aims}
use Rattle.run_laws.proofs.Decisions.{kind_of, runs_begun}
use Rattle.dialogue_facts.proofs.FreshSteps.{MovesLate, drop_unread, of_kind, puts_unstepped}
use Rattle.job_facts.proofs.DropLeaves.{fresh_unread}
use Rattle.job_facts.proofs.PhaseFacts.{is_fresh}
use Rattle.cause_laws.proofs.Refusals.{DropStands, Stands, TransferStands, side_is, target_is}
use Rattle.cause_laws.proofs.Standing.{stands}
use Rattle.run_laws.proofs.AtTargets.{at_targets}

-- ---- the job that ends

-- the job whose end the entry is, and why it ends
pub record Ending (s : SetUp) (past : List Entry) (e : Entry) (j : ℕ) (outcome : Outcome) : Type 0 where
  pub by : Stepped s past e
  pub runs : Member by.w (works past s.number)
  pub number_is : j ≡ by.w.number
  pub why : FindsOutcome (turn_at s past e by) by.made.taken outcome ⊎ HasOutcome (turn_at s past e by) by.made.taken outcome

-- a job's step, with the words that were told
stepped_words : (s : SetUp) (past : List Entry) (words : ℕ → Option Word) (e : Entry) → OwnPart s past words e → (j : ℕ) (kind : EntryKind) → e.kind ≡ kind → is_step j kind ≡ true → (x : Stepped s past e) × (x.look.words ≡ words)
stepped_words s past words e own j kind is step = elim (own.does) [
  | inl x ↦ steps x
  | inr x ↦ absurd (none (come_no_job s past e.lines e.sent e.kind x.may))
]
  where
    none : OfNoJob e.kind → ⊥
    none no_job = let both : true ≡ false = sym step ∙ ap (is_step j) (sym is) ∙ no_job j in cc

    none_made : (x : IsStep s past words e) → OfNoJob x.made.kind → ⊥
    none_made x no_job = none (subst (λ (y : Entry). OfNoJob y.kind) (sym x.is) no_job)

    by_slot : (x : IsStep s past words e) (slot : ℕ) (w : Option Work) → find (λ w. w.slot == slot) (works past s.number) ≡ w → slot_step s (state_of s past) x.look w ≡ Some x.made → (y : Stepped s past e) × (y.look.words ≡ words)
    by_slot x slot None at g = absurd (cc)
    by_slot x slot (Some w) at g = (record { look = x.look; small = x.part_small; made = x.made; is = x.is; w = w; slot = slot; runs = at; does = g }, x.words_are)

    by_session : (x : IsStep s past words e) → session_step s (state_of s past) x.look ≡ Some x.made → ⊥
    by_session x g =
        let y = session_found s (state_of s past) x.look x.made g in
        none_made x (session_no_job (here s (state_of s past) x.look (record { peer = y.peer; slot = y.slot; client = false })) ((state_of s past).sessions (record { peer = y.peer; slot = y.slot; client = false })).doing y.asked y.says x.made.kind y.found)

    by_job_step : (x : IsStep s past words e) → job_step s (state_of s past) x.look ≡ Some x.made → (y : Stepped s past e) × (y.look.words ≡ words)
    by_job_step x g =
        let y = first_some-was (λ slot. slot_step s (state_of s past) x.look (find (λ w. w.slot == slot) (works past s.number))) slots x.made g in
        by_slot x y.0 (find (λ w. w.slot == y.0) (works past s.number)) refl y.2

    steps : (x : IsStep s past words e) → (y : Stepped s past e) × (y.look.words ≡ words)
    steps x = elim (option_or-was (owed_step s (state_of s past) x.look) (option_or (session_step s (state_of s past) x.look) (job_step s (state_of s past) x.look)) x.made x.makes) [
      | inl o ↦ absurd (none_made x (owed_no_job s past x.look x.made o))
      | inr q ↦ elim (option_or-was (session_step s (state_of s past) x.look) (job_step s (state_of s past) x.look) x.made q) [
        | inl g ↦ absurd (by_session x g)
        | inr g ↦ by_job_step x g
      ]
    ]

pub ending_words : (s : SetUp) (past : List Entry) (words : ℕ → Option Word) (e : Entry) → OwnPart s past words e → (j : ℕ) (outcome : Outcome) → e.kind ≡ ends_job j outcome → (x : Ending s past e j outcome) × (x.by.look.words ≡ words)
ending_words s past words e own j outcome is =
    let z = stepped_words s past words e own j (ends_job j outcome) is (eqb_refl j) in
    let x = z.0 in
    let f = kind_of s past e x (ends_job j outcome) is in
    (record { by = x; runs = stepped_runs s past e x; number_is = f.number_is; why = f.why }, z.1)

abbrev pub ending : (s : SetUp) (past : List Entry) (words : ℕ → Option Word) (e : Entry) → OwnPart s past words e → (j : ℕ) (outcome : Outcome) → e.kind ≡ ends_job j outcome → Ending s past e j outcome
ending s past words e own j outcome is = (ending_words s past words e own j outcome is).0

-- the running job, as it was begun
abbrev pub job_of : (s : SetUp) (past : List Entry) → OwnPast s past → (w : Work) → Member w (works past s.number) → JobOf past s.number w.number
job_of s past h w m = record { what = w.what; begun = runs_begun s past h.run w m }

-- ---- an outcome that stands since an earlier step

-- a drop's refusal that stands: the target refused the order, the locks had expired, or its phase says it
abbrev pub DropSettled : Turn → List Entry → DropRefusal → Type 0
DropSettled t past refusal =
    ((t.w.phase ≡ Ends (Refused refusal)) × DropStands t.read.repo past (running_job t.w) refusal)
    ⊎ (((t.w.phase ≡ Denied) × (Refused refusal ≡ DropStep.denial_outcome t)) ⊎ ((time : ℕ) × (t.w.phase ≡ Late time) × (Refused refusal ≡ DropStep.expiry (t.clock time) (DropStep.first_end t))))

obeyed_apart : (word : Option Word) (t : Turn) (refusal : DropRefusal) → Refused refusal ≡ obeyed_outcome word (proof_by t.read t.w) → ⊥
obeyed_apart (Some Word.Absent) t refusal e = absurd (cc)
obeyed_apart None t refusal e = absurd (cc)
obeyed_apart (Some word) t refusal e = other word e
  where
    other : (word : Word) → Refused refusal ≡ obeyed_outcome (Some word) (proof_by t.read t.w) → ⊥
    other Word.Absent e = absurd (cc)
    other w e = absurd (cc)

removed_apart : (side : Side) (t : Turn) (refusal : DropRefusal) → Refused refusal ≡ removal_outcome side t → ⊥
removed_apart Local t refusal e = obeyed_apart None t refusal e
removed_apart Remote t refusal e = obeyed_apart (t.look.words (target t)) t refusal e

pub drop_settled : (t : Turn) (past : List Entry) (refusal : DropRefusal) (taken : Option FrameView) → Stands t.read.repo past (running_job t.w) t.w.phase → HasOutcome t taken (Refused refusal) → DropSettled t past refusal
drop_settled t past refusal taken standing z = go t.w.phase refl standing z.outcome_is
  where
    go : (phase : Phase) → t.w.phase ≡ phase → Stands t.read.repo past (running_job t.w) phase → Refused refusal ≡ outcome_of t phase → DropSettled t past refusal
    go Removed is st e = absurd (removed_apart (side_of t.w) t refusal e)
    go Denied is st e = inr (inl (is, e))
    go (Late time) is st e = inr (inr (time, is, e))
    go (Ends (Refused x)) is st e = let same : refusal ≡ x = cc in inl (is ∙ ap (λ r. Ends (Refused r)) (sym same), subst (DropStands t.read.repo past (running_job t.w)) (sym same) st)
    go (Ends o) is st e = absurd (cc)
    go phase is st e = absurd (cc)

pub transfer_settled : (t : Turn) (past : List Entry) (refusal : TransferRefusal) (taken : Option FrameView) → Stands t.read.repo past (running_job t.w) t.w.phase → HasOutcome t taken (TransferRefused refusal)
    → TransferStands t.read.repo past (running_job t.w) refusal ⊎ (refusal ≡ failures.Closed)
transfer_settled t past refusal taken standing z = go t.w.phase standing z.outcome_is
  where
    by_side : (side : Side) → TransferRefused refusal ≡ removal_outcome side t → ⊥
    by_side Local e = by_word None e
      where
        by_word : (word : Option Word) → TransferRefused refusal ≡ obeyed_outcome word (proof_by t.read t.w) → ⊥
        by_word None e = absurd (cc)
        by_word (Some Word.Absent) e = absurd (cc)
        by_word (Some w) e = absurd (cc)
    by_side Remote e = by_word (t.look.words (target t)) e
      where
        by_word : (word : Option Word) → TransferRefused refusal ≡ obeyed_outcome word (proof_by t.read t.w) → ⊥
        by_word None e = absurd (cc)
        by_word (Some Word.Absent) e = absurd (cc)
        by_word (Some w) e = absurd (cc)

    by_end : (end : Option ℕ) (clk : ℕ) → TransferRefused refusal ≡ DropStep.expiry clk end → ⊥
    by_end None clk e = absurd (cc)
    by_end (Some end) clk e = absurd (cc)

    go : (phase : Phase) → Stands t.read.repo past (running_job t.w) phase → TransferRefused refusal ≡ outcome_of t phase → TransferStands t.read.repo past (running_job t.w) refusal ⊎ (refusal ≡ failures.Closed)
    go Removed st e = absurd (by_side (side_of t.w) e)
    go Denied st e = absurd (cc)
    go (Late time) st e = absurd (by_end (DropStep.first_end t) (t.clock time) e)
    go (Ends (TransferRefused x)) st e = let same : refusal ≡ x = cc in inl (subst (TransferStands t.read.repo past (running_job t.w)) (sym same) st)
    go (Ends o) st e = absurd (cc)
    go phase st e = inr (cc)

-- ---- by the row

module _ (reads_back : SentAreRead) (s : SetUp) (past : List Entry) (words : ℕ → Option Word) (e : Entry) (h : OwnPast s past) (own : OwnPart s past words e) (j : ℕ) where
  abbrev r : ℕ
  r = s.number

  -- an outcome that doesn't stand since an earlier step
  judged : (refusal : DropRefusal) (x : Ending s past e j (Refused refusal)) → (DropSettled (turn_at s past e x.by) past refusal → ⊥) → FindsOutcome (turn_at s past e x.by) x.by.made.taken (Refused refusal)
  judged refusal x apart = elim (x.why) [
    | inl y ↦ y
    | inr y ↦ absurd (apart (drop_settled (turn_at s past e x.by) past refusal x.by.made.taken (stands reads_back s past h x.by.w x.runs) y))
  ]

  -- no refusal of the row stands so
  apart_late : (refusal : DropRefusal) (clk : ℕ) (end : Option ℕ) → ((a b : ℕ) → refusal ≢ refusals.Expired a b) → Refused refusal ≡ DropStep.expiry clk end → ⊥
  apart_late refusal clk None apart e = apart 0 clk (cc)
  apart_late refusal clk (Some end) apart e = apart end clk (cc)

  row_apart : (refusal : DropRefusal) (t : Turn) → ((past : List Entry) (j : RunningJob) → DropStands t.read.repo past j refusal → ⊥) → ((a b : ℕ) → refusal ≢ refusals.Expired a b) → ((a : DenialOf) → refusal ≢ refusals.Denied a)
      → DropSettled t past refusal → ⊥
  row_apart refusal t none late denied (inl z) = none past (running_job t.w) z.1
  row_apart refusal t none late denied (inr (inl z)) = denied _ (same z.1)
    where
      same : {x : DenialOf} → Refused refusal ≡ Refused (refusals.Denied x) → refusal ≡ refusals.Denied x
      same e = cc
  row_apart refusal t none late denied (inr (inr z)) = apart_late refusal (t.clock z.0) (DropStep.first_end t) late z.2

  at_first : MovesLate s → (w : Work) (m : Member w (works past r)) → w.part ≡ Drops → w.phase ≡ Fresh → side_of w ≡ Local → AtFirst past r w.number (job_of s past h w m)
  at_first late w m part fresh side = record {
    dropping = (at_targets reads_back s past h w m).0 part;
    first = drop_unread s late past h w m part fresh side;
    local = side_is w ∙ side;
  }

  -- **NotPresent**
  pub absent_found : MovesLate s → e.kind ≡ ends_job j (Refused refusals.NotPresent) → FoundAbsent past r j
  absent_found late is =
      let x = ending s past words e own j (Refused refusals.NotPresent) is in
      let w = x.by.w in
      let y = judged refusals.NotPresent x (row_apart refusals.NotPresent (turn_at s past e x.by) (λ p k z. z) (λ a b q. cc) (λ a q. cc)) in
      subst (FoundAbsent past r) (sym x.number_is) (record { d = job_of s past h w x.runs; at = at_first late w x.runs y.0.part_is y.0.first y.0.side; absent = y.1 })

  -- **Barred**
  pub barred_found : MovesLate s → (other : ℕ) → e.kind ≡ ends_job j (Refused (refusals.Barred other)) → FoundBarred past r j other
  barred_found late other is =
      let x = ending s past words e own j (Refused (refusals.Barred other)) is in
      let w = x.by.w in
      let y = judged (refusals.Barred other) x (row_apart (refusals.Barred other) (turn_at s past e x.by) (λ p k z. z) (λ a b q. cc) (λ a q. cc)) in
      subst (λ n. FoundBarred past r n other) (sym x.number_is) (record { d = job_of s past h w x.runs; at = at_first late w x.runs y.0.part_is y.0.first y.0.side; barred = y.2 })

  -- **Held**
  pub held_found : MovesLate s → (end : Option ℕ) → e.kind ≡ ends_job j (Refused (refusals.Held end)) → FoundHeld s.repos past r j e.time end
  held_found late end is =
      let x = ending s past words e own j (Refused (refusals.Held end)) is in
      let w = x.by.w in
      let y = judged (refusals.Held end) x (row_apart (refusals.Held end) (turn_at s past e x.by) (λ p k z. z) (λ a b q. cc) (λ a q. cc)) in
      let time : e.time ≡ x.by.look.time = ap (λ (q : Entry). q.time) x.by.is in
      subst (λ n. FoundHeld s.repos past r n e.time end) (sym x.number_is) (record {
        d = job_of s past h w x.runs;
        at = at_first late w x.runs y.0.part_is y.0.first y.0.side;
        there = y.1;
        free = y.2;
        held = ap (λ t. until (filter (blocks w.what.key (clock s.repos past r t)) (holds past r))) time ∙ y.3;
      })

  -- **Required**
  pub required_found : (text : List ℕ) → e.kind ≡ ends_job j (Refused (refusals.Required text)) → FoundRequired s.repos (s.paths j) past r j text
  required_found text is =
      let x = ending s past words e own j (Refused (refusals.Required text)) is in
      let w = x.by.w in
      let y = judged (refusals.Required text) x (row_apart (refusals.Required text) (turn_at s past e x.by) (λ p k z. z) (λ a b q. cc) (λ a q. cc)) in
      let unread : before_step past r w.number ≡ None = fresh_unread s past h.run w x.runs y.0 (subst (λ q. is_fresh q ≡ true) (sym y.1) refl) in
      subst (λ n. FoundRequired s.repos (s.paths n) past r n text) (sym x.number_is) (record {
        d = job_of s past h w x.runs;
        dropping = (at_targets reads_back s past h w x.runs).0 y.0;
        first = unread;
        requires = (λ i. required (settings_of (unwrap_or (sym unread i) past) r) (id_of s.repos (target_is r w i)) w.what.key (s.paths w.number)) ∙ y.2;
      })

  -- **StoreFault**, of a drop
  pub fault_found : e.kind ≡ ends_job j (Refused refusals.StoreFault) → HadFault past r j
  fault_found is =
      let x = ending s past words e own j (Refused refusals.StoreFault) is in
      let w = x.by.w in
      subst (HadFault past r) (sym x.number_is) (elim (x.why) [
        | inl y ↦ absurd y
        | inr y ↦ settled x (drop_settled (turn_at s past e x.by) past refusals.StoreFault x.by.made.taken (stands reads_back s past h w x.runs) y)
      ])
    where
      settled : (x : Ending s past e j (Refused refusals.StoreFault)) → DropSettled (turn_at s past e x.by) past refusals.StoreFault → HadFault past r x.by.w.number
      settled x (inl z) = record { d = job_of s past h x.by.w x.runs; fault = z.1.0; not_release = z.1.1; not_own = z.1.2 }
      settled x (inr (inl z)) = absurd (same z.1)
        where
          same : {a : DenialOf} → Refused refusals.StoreFault ≡ Refused (refusals.Denied a) → ⊥
          same e = cc
      settled x (inr (inr z)) = absurd (apart_late refusals.StoreFault _ (DropStep.first_end (turn_at s past e x.by)) (λ a b q. cc) z.2)

  -- ---- transfers

  -- **StoreFault**, of a transfer
  pub transfer_fault_found : e.kind ≡ ends_job j (TransferRefused failures.StoreFault) → FailedCall past r j
  transfer_fault_found is =
      let x = ending s past words e own j (TransferRefused failures.StoreFault) is in
      subst (FailedCall past r) (sym x.number_is) (elim (x.why) [
        | inl y ↦ absurd y
        | inr y ↦ elim (transfer_settled (turn_at s past e x.by) past failures.StoreFault x.by.made.taken (stands reads_back s past h x.by.w x.runs) y) [ inl z ↦ z | inr z ↦ absurd (cc) ]
      ])

  no_peer : (kind : KindOfJob) (peer : Option ℕ) → IsPeer s kind peer → is_put kind ≡ true → peer ≡ None → ⊥
  no_peer kinds.Copy None is p none = cc
  no_peer kinds.MoveTo None is p none = cc
  no_peer kinds.Drop peer is p none = cc
  no_peer kinds.Get peer is p none = cc
  no_peer kinds.MoveFrom peer is p none = cc
  no_peer kind (Some peer) is p none = cc

  -- **NotHere**
  pub not_here_found : e.kind ≡ ends_job j (TransferRefused failures.NotHere) → FoundNotHere past r j
  not_here_found is =
      let x = ending s past words e own j (TransferRefused failures.NotHere) is in
      let w = x.by.w in
      subst (FoundNotHere past r) (sym x.number_is) (elim (x.why) [
        | inl y ↦ (let kind = (of_kind s past h.run w x.runs).1 y.0 in record {
          d = job_of s past h w x.runs;
          kind_is = kind;
          first = puts_unstepped reads_back s past h w x.runs y.0 y.1;
          absent = elim (y.2) [ inl gone ↦ gone | inr none ↦ absurd (no_peer w.what.kind w.what.peer (aims s past h.run w x.runs).0 kind none) ];
        })
        | inr y ↦ elim (transfer_settled (turn_at s past e x.by) past failures.NotHere x.by.made.taken (stands reads_back s past h w x.runs) y) [ inl z ↦ absurd z | inr z ↦ absurd (cc) ]
      ])
