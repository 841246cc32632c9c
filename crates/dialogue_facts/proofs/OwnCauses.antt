-- The cause that a remote drop's list has of its own repository is what its first step found; a refused look is heard as such.
use Rattle.std.proofs.Common.{◌≡◌, ◌≢◌, ℕ, Bool, List, [], ◌∷◌, Option, Some, None, ◌⊎◌, inl, inr, refl, sym, ap, ◌∙◌, subst}
use Rattle.annex_base.specs.declared.kinds.Call.{Call}
use Rattle.annex_base.specs.declared.kinds.Call.TheVariants.{PutFile, Unhold}
use Rattle.annex_base.proofs.Lists.{not_longer}
use Rattle.drop_proof.specs.declared.rule.Side.{Side}
use Rattle.drop_proof.specs.declared.rule.Side.TheVariants.{Remote}
use Rattle.run_data.specs.declared.entry.Entry.{Entry}
use Rattle.run_data.specs.declared.entry.EntryKind.{EntryKind}
use Rattle.run_data.specs.declared.entry.EntryKind.TheVariants.{Bar, Fault, Gain, Gone, Order, Share, Talk, End as ends_job}
use Rattle.run_data.specs.declared.entry.FrameView.{FrameView}
use Rattle.run_data.specs.declared.entry.FrameText.{FrameText}
use Rattle.run_data.specs.declared.entry.FrameText.TheVariants.{Opening, Closing, Bytes, Line}
use Rattle.run_data.specs.declared.job.Cause.{Cause}
use Rattle.run_data.specs.declared.job.Cause.TheVariants as causes
use Rattle.run_data.specs.declared.job.Outcome.{Outcome}
use Rattle.p2p_wire.specs.declared.message.Message.{Message}
use Rattle.p2p_wire.specs.declared.message.Message.TheVariants.{Failure}
use Rattle.p2p_wire.specs.Messages.{message_of}
use Rattle.run_model.specs.Drops.{cause_own}
use Rattle.node_model.specs.Sessions.{line_in}
use Rattle.node_model.specs.Jobs
use Rattle.node_model.specs.Jobs.{AsksLook, Drops, Fresh, Heard, Lacks, Part, Phase, RowsAndEnds, Work, claims, fault_of, fault_phase, first_look, hears_frame, learns, partner, quiet, side_of, taken_message, talks, talks_on, unshared_cause, after_frame, after_line, work_kind}
use Rattle.node_model.specs.Look.{Effect}
use Rattle.node_model.specs.JobStep.{Turn, hears}
use Rattle.node_model.specs.Turns.{takes_answer, takes_frame}
use Rattle.node_model.specs.Found.{IsJobEntry}
use Rattle.job_facts.proofs.HeardLists.{OwnLacks, SameList, Talker, gained_list, listens_list, sends_list, talker_is}
use Rattle.job_facts.proofs.HeardSteps.{takes_line}

head_cause : (a b : ℕ) (c d : Heard) (xs : List (ℕ × Heard)) → (a, c) ∷ xs ≡ (b, d) ∷ xs → c ≡ d
head_cause a b c d xs e = ap (λ (ys : List (ℕ × Heard)). second ys) e
  where
    second : List (ℕ × Heard) → Heard
    second [] = c
    second (y ∷ ys) = y.1

lacks_inj : (c d : Cause) → Lacks c ≡ Lacks d → c ≡ d
lacks_inj c d e = cc

-- ---- the own repository's cause, by the kind of the entry

first_only : (r : ℕ) (y : Work) (part : Part) (here : Bool) (bar : Option ℕ) → part ≡ Drops → (first_look r y part here bar).heard ≡ (r, Lacks (unshared_cause bar)) ∷ y.heard
first_only r y Drops here bar is = refl
first_only r y Jobs.Gets here bar is = absurd (cc)
first_only r y Jobs.Puts here bar is = absurd (cc)

module _ (rows : RowsAndEnds) (r : ℕ) (v : Work) (e : Entry) (first : v.phase ≡ Fresh) (part : v.part ≡ Drops) where
  -- the list is as it was, or has the cause of this kind
  abbrev Value : EntryKind → Work → Type 0
  Value kind x = SameList v x ⊎ ((c : Cause) × (x.heard ≡ (r, Lacks c) ∷ v.heard) × (cause_own (rows.bar v.what.key) kind ≡ Some c))

  fault_only : (p : Part) (side : Side) (phase : Phase) (call : Call) (owner : _) → Value (Fault call owner) (fault_phase r v p side phase)
  fault_only Drops Remote Fresh call owner = inr (causes.Fault, refl, refl)
  fault_only p side phase call owner = inl refl

  unheld_only : (time : ℕ) (phase : Phase) → SameList v (Jobs.after_failed_release v time phase)
  unheld_only time Jobs.AsksTime = refl
  unheld_only time phase = refl

  call_only : (time : ℕ) (call : Call) (owner : _) → Value (Fault call owner) (fault_of r v time call)
  call_only time PutFile owner = inl refl
  call_only time Unhold owner = inl (unheld_only time v.phase)
  call_only time call owner = fault_only v.part (side_of v) v.phase call owner

  module _ (y : Work) (s : Talker v y) where
    fresh_now : y.phase ≡ Fresh
    fresh_now = s.phase_is ∙ first

    line_only : (m : Option Message) → SameList y (after_line y m)
    line_only None = refl
    line_only (Some m) = elim (listens_list y y.phase m) [
      | inl same ↦ same
      | inr x ↦ elim x [
        | inl k ↦ absurd (let both : Fresh ≡ Jobs.AsksLock k.peer k.since = sym fresh_now ∙ k.phase_is in cc)
        | inr k ↦ absurd (let both : Fresh ≡ AsksLook k.peer = sym fresh_now ∙ k.phase_is in cc)
      ]
    ]

    took_only : (body : FrameText) → SameList y (after_frame y body)
    took_only (Line text) = line_only (message_of text)
    took_only (Bytes n) = refl
    took_only Opening = refl
    took_only Closing = refl

    quiet_only : (job : Option ℕ) → Value (Talk job) (quiet rows r y y.phase)
    quiet_only job = subst (λ (q : Phase). Value (Talk job) (quiet rows r y q)) (sym fresh_now) (inr (
      unshared_cause (rows.bar y.what.key),
      first_only r y y.part (rows.present y.what.key) (rows.bar y.what.key) (s.part_is ∙ part) ∙ ap (λ (hs : List (ℕ × Heard)). (r, Lacks (unshared_cause (rows.bar y.what.key))) ∷ hs) s.list,
      ap (λ (j : Rattle.node_model.specs.Slots.RunningJob). Some (unshared_cause (rows.bar j.what.key))) (sym s.same),
    ))

    talks_only : (job : Option ℕ) (fs : List FrameView) (taken : Option FrameView) → e.taken ≡ taken → Value (Talk job) (talks rows r y e fs)
    talks_only job (f ∷ fs) taken is = inl (sends_list y e.time f.peer (taken_message e.taken) f.body ∙ s.list)
    talks_only job [] None is = subst (λ (o : Option FrameView). Value (Talk job) (hears_frame rows r y o)) (sym is) (quiet_only job)
    talks_only job [] (Some f) is = subst (λ (o : Option FrameView). Value (Talk job) (hears_frame rows r y o)) (sym is) (inl (took_only f.body ∙ s.list))

    talk_only : (job : Option ℕ) → Value (Talk job) (talks_on rows r y e (partner v.what.peer v.phase))
    talk_only job = subst (λ (p : Option ℕ). Value (Talk job) (talks_on rows r y e p)) (sym (ap (partner v.what.peer) first)) (talks_only job e.sent e.taken refl)

    -- an order says something
    order_only : (g : FrameView) → e.sent ≡ g ∷ [] → SameList v (talks_on rows r y e (partner v.what.peer v.phase))
    order_only g sent = subst (λ (p : Option ℕ). SameList v (talks_on rows r y e p)) (sym (ap (partner v.what.peer) first))
        (subst (λ (fs : List FrameView). SameList v (talks rows r y e fs)) (sym sent) (sends_list y e.time g.peer (taken_message e.taken) g.body ∙ s.list))

-- **the own repository's cause is what the entry found**
pub own_value : (t : Turn) (m : Effect) (rows : RowsAndEnds) (r : ℕ) (e : Entry) (kind : EntryKind) → IsJobEntry t m kind → m.sent ≡ e.sent → ((j : ℕ) (outcome : Outcome) → kind ≢ ends_job j outcome)
    → (o : OwnLacks r t.w (work_kind rows r t.w e kind)) → cause_own (rows.bar t.w.what.key) kind ≡ Some o.cause
own_value t m rows r e kind k sent goes_on o = by kind k goes_on o.list
  where
    v : Work
    v = t.w

    at : (kind : EntryKind) (x : Work) → Value rows r v e o.first o.part_is kind x → x.heard ≡ (r, Lacks o.cause) ∷ v.heard → cause_own (rows.bar v.what.key) kind ≡ Some o.cause
    at kind x (inl same) list = absurd (not_longer (r, Lacks o.cause) v.heard (sym same ∙ list))
    at kind x (inr z) list = z.2 ∙ ap Some (lacks_inj z.0 o.cause (head_cause r r (Lacks z.0) (Lacks o.cause) v.heard (sym z.1 ∙ list)))

    by : (kind : EntryKind) → IsJobEntry t m kind → ((j : ℕ) (outcome : Outcome) → kind ≢ ends_job j outcome) → (work_kind rows r v e kind).heard ≡ (r, Lacks o.cause) ∷ v.heard → cause_own (rows.bar v.what.key) kind ≡ Some o.cause
    by (Fault call owner) k goes list = at (Fault call owner) (fault_of r v e.time call) (call_only rows r v e o.first o.part_is e.time call owner) list
    by (Talk (Some j)) k goes list = at (Talk (Some j)) (work_kind rows r v e (Talk (Some j))) (talk_only rows r v e o.first o.part_is (learns (claims v v.part v.phase) v.phase e.taken) (talker_is t e.taken) (Some j)) list
    by (Share hold end owner key) k goes list = absurd (let both : Jobs.Held e.time ≡ Lacks o.cause = head_cause r r (Jobs.Held e.time) (Lacks o.cause) v.heard list in cc)
    by (Bar j need key) k goes list = absurd (not_longer (r, Lacks o.cause) v.heard list)
    by (Gone source key) k goes list = absurd (not_longer (r, Lacks o.cause) v.heard list)
    by (Gain source size key) k goes list = absurd (not_longer (r, Lacks o.cause) v.heard (sym (gained_list v v.phase) ∙ list))
    by (Order j peer deadline need key) k goes list = absurd (not_longer (r, Lacks o.cause) v.heard
        (sym (order_only rows r v e o.first o.part_is (learns (claims v v.part v.phase) v.phase e.taken) (talker_is t e.taken) (_) (sym sent ∙ k.sent_is)) ∙ list))
    by (ends_job j outcome) k goes list = absurd (goes j outcome refl)
    by kind k goes list = absurd k

-- ---- a refused look

pub look_failure : (t : Turn) (peer : ℕ) (f : FrameView) (p : ℕ) → t.w.phase ≡ AsksLook p → t.w.part ≡ Drops → line_in f.body ≡ Some Failure → takes_frame t peer f f.body ≡ hears t f
look_failure t peer f p is part told = takes_line t peer f Failure (AsksLook p) is told ∙ ap (λ (x : Part). takes_answer t f peer x (AsksLook p) Failure) part
