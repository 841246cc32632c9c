-- What is said of a past that was made ready is said of the past before.
use Rattle.std.proofs.Common.{ℕ, ◌+◌, List, [], ◌∷◌, ◌++◌, Some, None, length, sym, ap, ◌∙◌}
use Rattle.annex_base.specs.declared.kinds.Call.{Call}
use Rattle.run_data.specs.declared.entry.Entry.{Entry}
use Rattle.run_data.specs.declared.entry.EntryKind.{EntryKind}
use Rattle.run_data.specs.declared.entry.EntryKind.TheVariants.{Fault}
use Rattle.run_data.specs.declared.entry.By.{By}
use Rattle.node_past.specs.declared.past.Past.{Past}
use Rattle.node_past.specs.declared.setup.Setup.{Setup}
use Rattle.node_past.specs.declared.refused.NodeRefused.{NodeRefused}
use Rattle.node_past.specs.declared.refused.NodeRefused.TheVariants as refusals
use Rattle.node_past.specs.Pasts.{AddsTo, FailsFor, SamePast}

abbrev entry_at : ℕ → ℕ → Setup → EntryKind → List (List ℕ) → Entry
entry_at time count setup kind lines = record { time = time; count = count + 1; repo = Some setup.number; kind = kind; taken = None; sent = []; lines = lines }

pub adds_after : (kind : EntryKind) (lines : List (List ℕ)) (was ready now : Past) → SamePast was ready → AddsTo kind lines ready now → AddsTo kind lines was now
adds_after kind lines was ready now same adds = record {
  setup = adds.setup ∙ same.setup;
  time = adds.time ∙ same.time;
  clock = adds.clock ∙ same.clock;
  count = adds.count ∙ ap (λ (n : ℕ). n + 1) same.count;
  history = adds.history
      ∙ ap (λ (h : List Entry). h ++ entry_at ready.time ready.count ready.setup kind lines ∷ []) same.history
      ∙ ap (λ (t : ℕ). was.history.items ++ entry_at t ready.count ready.setup kind lines ∷ []) same.time
      ∙ ap (λ (n : ℕ). was.history.items ++ entry_at was.time n ready.setup kind lines ∷ []) same.count
      ∙ ap (λ (s : Setup). was.history.items ++ entry_at was.time was.count s kind lines ∷ []) same.setup;
  outcomes = adds.outcomes ∙ same.outcomes;
}

pub same_after : (was ready now : Past) → SamePast was ready → SamePast ready now → SamePast was now
same_after was ready now first second = record {
  setup = second.setup ∙ first.setup;
  time = second.time ∙ first.time;
  clock = second.clock ∙ first.clock;
  count = second.count ∙ first.count;
  history = second.history ∙ first.history;
  outcomes = second.outcomes ∙ first.outcomes;
}

pub fails_after : (by : By) (e : NodeRefused) (call : Call) (was ready now : Past) → SamePast was ready → FailsFor by e call ready now → FailsFor by e call was now
fails_after by refusals.Full call was ready now same fails = (same_after was ready now same fails.0, was.history.ok.0 ∙ sym (ap (λ (h : List Entry). length h) same.history) ∙ sym ready.history.ok.0 ∙ fails.1)
fails_after by refusals.StoreFault call was ready now same fails = adds_after (Fault call by) [] was ready now same fails
fails_after by (refusals.BadBundle at) call was ready now same fails = absurd fails
fails_after by refusals.NoMemory call was ready now same fails = same_after was ready now same fails
