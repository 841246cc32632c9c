-- The first step of a drop that takes no share of its own repository hears what its row says, where that is asked.
use Rattle.std.proofs.Common.{◌≡◌, ℕ, Bool, true, false, List, Option, Some, None, ◌⊎◌, inl, inr, refl, sym, subst}
use Rattle.std.specs.Prelude.{if◌then◌else◌}
use Rattle.std.proofs.lemmas.Bool.{true≢false}
use Rattle.run_data.specs.declared.entry.EntryKind.TheVariants.{Talk}
use Rattle.run_data.specs.declared.job.Cause.TheVariants as causes
use Rattle.run_data.specs.declared.run.Run.{Run}
use Rattle.node_model.specs.Evidence.{Asked}
use Rattle.node_model.specs.Jobs.{Drops, Fresh, Work, unshared_cause}
use Rattle.node_model.specs.JobStep.{Turn, turn_of}
use Rattle.node_model.specs.Knows.{standing_of}
use Rattle.node_model.specs.Look.{Look, Effect}
use Rattle.node_model.specs.Turns.{slot_step}
use Rattle.run_model.specs.Past.{bar, present}
use Rattle.run_model.specs.Run.{IsRun, set_up}
use Rattle.run_model.specs.Safety.{past_at}
use Rattle.run_model.specs.States.{state_of}
use Rattle.step_facts.proofs.Below.{SentAreRead}
use Rattle.past_facts.proofs.Latest.{facts_of, lawful_at}
use Rattle.job_facts.proofs.FirstTalks.{FirstSays, Untold, step_first}
use Rattle.run_laws.proofs.FromStep.{runs_are_lawful}

-- a bar stands only on a content that is there
pub bars_there : SentAreRead → (run : Run) (place r j : ℕ) (key : List ℕ) → IsRun run → bar (past_at run place) r key ≡ Some j → present (past_at run place) r key ≡ true
bars_there reads_back run place r j key h = (facts_of run.repos (past_at run place) (lawful_at run.repos place run.entries (runs_are_lawful reads_back run h).steps)).bar_there r j key

-- so where the content is absent or barred, the bar tells which
by_row : (here : Bool) (barred : Option ℕ) → ((j : ℕ) → barred ≡ Some j → here ≡ true) → (here ≡ false) ⊎ ((j : ℕ) × (barred ≡ Some j)) → unshared_cause barred ≡ (if here then causes.Barred else causes.Absent)
by_row true (Some j) there row = refl
by_row true None there (inl gone) = absurd (true≢false gone)
by_row true None there (inr x) = absurd (let none : None ≡ Some x.0 = x.1 in cc)
by_row false None there row = refl
by_row false (Some j) there row = absurd (true≢false (sym (there j refl)))

-- **what such a step hears of its own repository**
pub own_row : SentAreRead → (run : Run) (place r : ℕ) (k : Look) (w : Work) (m : Effect) → IsRun run → w.part ≡ Drops → w.phase ≡ Fresh
    → slot_step (set_up run r) (state_of (set_up run r) (past_at run place)) k (Some w) ≡ Some m → m.kind ≡ Talk (Some w.number)
    → standing_of (set_up run r) (state_of (set_up run r) (past_at run place)) w r ≡ Asked
    → unshared_cause (bar (past_at run place) r w.what.key) ≡ (if present (past_at run place) r w.what.key then causes.Barred else causes.Absent)
own_row reads_back run place r k w m h part phase step kind asked = by (subst (FirstSays turn) kind (step_first turn m part phase step))
  where
    turn : Turn
    turn = turn_of (set_up run r) (state_of (set_up run r) (past_at run place)) k w

    by : Untold turn → unshared_cause (bar (past_at run place) r w.what.key) ≡ (if present (past_at run place) r w.what.key then causes.Barred else causes.Absent)
    by (inl unasked) = absurd (unasked asked)
    by (inr row) = by_row (present (past_at run place) r w.what.key) (bar (past_at run place) r w.what.key) (λ j is. bars_there reads_back run place r j w.what.key h is) row
