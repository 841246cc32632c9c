-- While a job runs, its clock is as it was set when the job asked for a copy: a crash would have ended it.
use Rattle.std.proofs.Common.{◌≡◌, ℕ, Bool, true, false, List, ◌∷◌, inl, inr, sym, ap, ◌∙◌, subst}
use Rattle.std.specs.Prelude.{◌&&◌}
use Rattle.std.proofs.lemmas.Bool.{true≢false, and_parts}
use Rattle.annex_base.specs.Lists.{Member}
use Rattle.run_data.specs.declared.entry.Entry.{Entry}
use Rattle.run_model.specs.Past.{Occurs, clock_set, is_of}
use Rattle.run_model.specs.Frames.{is_job}
use Rattle.node_model.specs.SetUp.{SetUp}
use Rattle.node_model.specs.Jobs.{Work}
use Rattle.run_model.specs.States.{works}
use Rattle.run_model.specs.Run.{OwnRun}
use Rattle.step_facts.proofs.JobSteps.{Origin, invariant}
use Rattle.run_laws.proofs.ClockKept.{clock_kept, clock_other, origin_stands}
use Rattle.job_facts.proofs.WorkFits.{step_number, step_runs}
use Rattle.job_facts.proofs.Untouched.{asks_by, begins_later, future}
use Rattle.step_facts.proofs.Flights.{occurs_any}

-- the entry asks for a copy, for job j of r
abbrev pub asks_for : ℕ → ℕ → Entry → Bool
asks_for r j e = is_job r j e && asks_by e.kind e.sent

abbrev pub AskedByClock : SetUp → List Entry → ℕ → Type 0
AskedByClock s past j = (x : Entry) (before : List Entry) → Occurs past x before → asks_for s.number j x ≡ true → clock_set s.repos before s.number ≡ clock_set s.repos past s.number

-- the clock of a running job is as it was set when the job asked
pub one_clock : (s : SetUp) (past : List Entry) → OwnRun s past → (w : Work) → Member w (works past s.number) → AskedByClock s past w.number
one_clock s past run w m = invariant s (λ p x. AskedByClock s p x.number) other own past run w m
  where
    other : (p : List Entry) (e : Entry) → is_of s.number e ≡ false → (x : Work) → Member x (works p s.number) → AskedByClock s p x.number → AskedByClock s (e ∷ p) x.number
    other p e is x n was y before (inl o) asks =
        let mine : is_of s.number e ≡ true = subst (λ (z : Entry). is_of s.number z ≡ true) o.0 (and_parts (is_of s.number y) _ (and_parts (is_job s.number x.number y) _ asks).0).0 in
        absurd (true≢false (sym mine ∙ is))
    other p e is x n was y before (inr o) asks = was y before o asks ∙ sym (clock_other s.repos p s.number e is)

    -- it asked before the entry
    earlier : (p : List Entry) (e : Entry) → OwnRun s (e ∷ p) → is_of s.number e ≡ true → ((x : Work) → Member x (works p s.number) → AskedByClock s p x.number) → (x : Work) → Origin s p e x → AskedByClock s p x.number
    earlier p e r is was x (inl b) y before o asks =
        let none = (future s p r.1 x.number (begins_later s p e r is x b)).nothing.unasked in
        absurd (true≢false (sym (occurs_any (asks_for s.number x.number) p y before o asks) ∙ none))
    earlier p e r is was x (inr (inl b)) y before o asks = was x b.ran y before o asks
    earlier p e r is was x (inr (inr b)) y before o asks =
        was b.by.w (step_runs s p e x b) y before o (subst (λ n. asks_for s.number n y ≡ true) (step_number s p e x b) asks)

    own : (p : List Entry) (e : Entry) → OwnRun s (e ∷ p) → is_of s.number e ≡ true → ((x : Work) → Member x (works p s.number) → AskedByClock s p x.number) → (x : Work) → Origin s p e x → AskedByClock s (e ∷ p) x.number
    own p e r is was x b y before o asks = by o
      where
        kept : clock_set s.repos p s.number ≡ clock_set s.repos (e ∷ p) s.number
        kept = sym (clock_kept s.repos p s.number e (origin_stands s p e x b))

        by : Occurs (e ∷ p) y before → clock_set s.repos before s.number ≡ clock_set s.repos (e ∷ p) s.number
        by (inl z) = ap (λ q. clock_set s.repos q s.number) z.1 ∙ kept
        by (inr z) = earlier p e r is was x b y before z asks ∙ kept
