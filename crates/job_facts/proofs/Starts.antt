-- A job that is at its transfer, or at the first step of its drop, has decided nothing and asked nobody for a copy.
use Rattle.std.proofs.Common.{◌≡◌, ◌≢◌, ℕ, true, false, List, [], ◌∷◌, Some, None, ◌⊎◌, inl, inr, refl, sym, ◌∙◌, subst}
use Rattle.std.specs.Prelude.{length}
use Rattle.std.specs.List.{list_any}
use Rattle.std.proofs.lemmas.Bool.{and_right}
use Rattle.annex_base.specs.Lists.{Member}
use Rattle.run_data.specs.declared.entry.Entry.{Entry}
use Rattle.run_data.specs.declared.entry.EntryKind.{EntryKind}
use Rattle.run_data.specs.declared.entry.EntryKind.TheVariants.{Gain, Share, Bar, Gone, Order, Talk, Fault, End as ends_job}
use Rattle.run_data.specs.declared.entry.FrameView.{FrameView}
use Rattle.run_data.specs.declared.job.Outcome.{Outcome}
use Rattle.run_model.specs.Past.{decided_after, is_of}
use Rattle.run_model.specs.Frames
use Rattle.run_model.specs.Frames.{is_job}
use Rattle.node_model.specs.SetUp.{SetUp}
use Rattle.node_model.specs.Jobs.{AsksTime, Drops, Gets, Greets, Next, Part, Puts, RowsAndEnds, Work, work_kind}
use Rattle.run_model.specs.States.{rows_at, works}
use Rattle.node_model.specs.Look.{Effect}
use Rattle.node_model.specs.JobStep.{Turn}
use Rattle.node_model.specs.DropStep.{target}
use Rattle.run_model.specs.Run.{OwnRun}
use Rattle.node_model.specs.Found.{IsJobEntry}
use Rattle.job_facts.proofs.TalkFacts.{Fits, OrderStands, SaysOne, TalkKind}
use Rattle.job_facts.proofs.PhaseFacts.{SentReads, is_fresh, only_word}
use Rattle.step_facts.proofs.JobSteps.{Origin, invariant, turn_at}
use Rattle.job_facts.proofs.WorkFits.{step_kind, step_number, step_runs, step_sent, step_talk, steps_good, steps_read, works_fit}
use Rattle.job_facts.proofs.Untouched.{AtStart, OneAtMost, Unasked, asks_by, asks_copy, begin_still, begins_later, future, sent_copies, start_before, still_asks, still_decided, unasked_after, unasked_other, fresh_is}

no_copies : (sent : List FrameView) → sent ≡ [] → list_any (Frames.says asks_copy) sent ≡ false
no_copies sent is = subst (λ fs. list_any (Frames.says asks_copy) fs ≡ false) (sym is) refl

-- what a step asks, of a job that is at its start and stays there
abbrev AsksNone : Turn → Effect → ℕ → EntryKind → Type 0
AsksNone t m place kind = (decided_after place t.w.number None kind ≡ None) × (asks_by kind m.sent ≡ false)

pub fresh_no_order : (t : Turn) → is_fresh t.w.phase ≡ true → OrderStands t → ⊥
fresh_no_order t fresh (inl at) = let no_next : is_fresh Next ≡ true = subst (λ p. is_fresh p ≡ true) at.0 fresh in cc
fresh_no_order t fresh (inr (inl at)) = let no_greets : is_fresh (Greets (target t)) ≡ true = subst (λ p. is_fresh p ≡ true) at fresh in cc
fresh_no_order t fresh (inr (inr at)) = let no_asks : is_fresh AsksTime ≡ true = subst (λ p. is_fresh p ≡ true) at fresh in cc

talk_none : (t : Turn) (m : Effect) (part : Part) → t.w.part ≡ part → (t.w.part ≡ Drops → m.sent ≡ []) → OneAtMost m.sent → SentReads t.w.part m.sent → list_any (Frames.says asks_copy) m.sent ≡ false
talk_none t m Gets is none one reads = sent_copies t.w.part m.sent (λ e. let no_drop : Gets ≡ Drops = sym is ∙ e in cc) one reads
talk_none t m Puts is none one reads = sent_copies t.w.part m.sent (λ e. let no_drop : Puts ≡ Drops = sym is ∙ e in cc) one reads
talk_none t m Drops is none one reads = no_copies m.sent (none is)

start_kind : (t : Turn) (m : Effect) (rows : RowsAndEnds) (r : ℕ) (e : Entry) (place : ℕ) (kind : EntryKind) → IsJobEntry t m kind → TalkKind t m kind → Fits t.w.part t.w.phase → SentReads t.w.part m.sent
    → AtStart t.w.part t.w.phase → AtStart (work_kind rows r t.w e kind).part (work_kind rows r t.w e kind).phase → ((j : ℕ) (outcome : Outcome) → kind ≢ ends_job j outcome) → AsksNone t m place kind
start_kind t m rows r e place (Share hold end by key) x y fits reads old new goes_on = absurd (let no_next : is_fresh Next ≡ true = new x.part_is in cc)
start_kind t m rows r e place (Bar j need key) x y fits reads old new goes_on = absurd (let no_next : is_fresh Next ≡ true = new x.part_is in cc)
start_kind t m rows r e place (Gone by key) x y fits reads old new goes_on = (refl, no_copies m.sent x.sends_none)
start_kind t m rows r e place (Order j peer deadline need key) x y fits reads old new goes_on = absurd (fresh_no_order t (old x.part_is) y)
start_kind t m rows r e place (Gain by size key) x y fits reads old new goes_on =
    let part : t.w.part ≡ Gets = only_word t.w.part x.peer x.start size (subst (Fits t.w.part) x.phase_is fits) in
    (refl, sent_copies t.w.part m.sent (λ d. let no_drop : Gets ≡ Drops = sym part ∙ d in cc) (subst OneAtMost (sym x.sent_is) tt) reads)
start_kind t m rows r e place (ends_job j outcome) x y fits reads old new goes_on = absurd (goes_on j outcome refl)
start_kind t m rows r e place (Talk (Some j)) x y fits reads old new goes_on =
    (refl, talk_none t m t.w.part refl (λ part. (y.first part (fresh_is t.w.phase (old part))).sends_none) (one y.says) reads)
  where
    one : (m.sent ≡ []) ⊎ SaysOne t m.sent → OneAtMost m.sent
    one (inl none) = subst OneAtMost (sym none) tt
    one (inr says) = subst OneAtMost (sym says.sent_is) tt
start_kind t m rows r e place (Fault call by) x y fits reads old new goes_on = (refl, no_copies m.sent x.1)
start_kind t m rows r e place kind x y fits reads old new goes_on = absurd x

-- at its transfer, or at the first step of its drop, a running job has decided nothing and asked nobody for a copy
pub starts_unasked : (s : SetUp) (past : List Entry) → OwnRun s past → (w : Work) → Member w (works past s.number) → AtStart w.part w.phase → Unasked past s.number w.number
starts_unasked s past run w m start =
    invariant s (λ p x. AtStart x.part x.phase → Unasked p s.number x.number) (λ p e is x n was at. unasked_other p s.number e x.number is (was at)) own past run w m start
  where
    own : (p : List Entry) (e : Entry) → OwnRun s (e ∷ p) → is_of s.number e ≡ true → ((x : Work) → Member x (works p s.number) → AtStart x.part x.phase → Unasked p s.number x.number)
        → (x : Work) → Origin s p e x → AtStart x.part x.phase → Unasked (e ∷ p) s.number x.number
    own p e r is was x (inl b) at =
        let part = r.0 is in
        let still = begin_still s p e x b in
        unasked_after p s.number e x.number is (still_decided (length p) x.number e.kind still) (still_asks s p part.0 e part.1 x.number still) (future s p r.1 x.number (begins_later s p e r is x b)).nothing
    own p e r is was x (inr (inl b)) at =
        let part = r.0 is in
        unasked_after p s.number e x.number is (still_decided (length p) x.number e.kind b.still) (still_asks s p part.0 e part.1 x.number b.still) (was x b.ran at)
    own p e r is was x (inr (inr b)) at =
        let v = b.by.w in
        let fits = works_fit s p r.1 v (step_runs s p e x b) in
        let old : AtStart v.part v.phase = start_before v.part v.phase x.part x.phase (steps_good s p e x b fits) at in
        let after = work_kind (rows_at p s.number) s.number v e e.kind in
        let new : AtStart after.part after.phase = subst (λ (y : Work). AtStart y.part y.phase) b.work_is at in
        let none = start_kind (turn_at s p e b.by) b.by.made (rows_at p s.number) s.number e (length p) e.kind (step_kind s p e x b) (step_talk s p e x b fits) fits
        (subst (SentReads v.part) (step_sent s p e x b) (steps_read s p e x b fits)) old new b.goes_on in
        let done' : Unasked (e ∷ p) s.number v.number = unasked_after p s.number e v.number is none.0
        (and_right (is_job s.number v.number e) (asks_by e.kind e.sent) (subst (λ fs. asks_by e.kind fs ≡ false) (sym (step_sent s p e x b)) none.1)) (was v (step_runs s p e x b) old) in
        subst (Unasked (e ∷ p) s.number) (sym (step_number s p e x b)) done'
