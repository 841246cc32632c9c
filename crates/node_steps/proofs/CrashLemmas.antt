-- The crash of a node, from that of its past and of the parts beside it.
use Rattle.std.proofs.Common.{◌≡◌, ℕ, ◌≤◌, ◌<◌, ◌+◌, List, [], ◌∷◌, ◌++◌, All, Option, None, length, refl, sym, ap, subst, arith, ◌∙◌}
use Rattle.std.specs.Prelude.{flat_map, vec_len}
use Rattle.std.specs.List.{range_with_len}
use Rattle.std.proofs.lemmas.Grind.{flat_map-append}
use Rattle.std.proofs.lemmas.List.{append-nil, length-append}
use Rattle.annex_base.proofs.Numbers.{range_more}
use Rattle.run_data.specs.declared.entry.Entry.{Entry}
use Rattle.run_data.specs.declared.entry.EntryKind.{EntryKind}
use Rattle.run_data.specs.declared.entry.FrameView.{FrameView}
use Rattle.object_store.specs.Stores.{Contents}
use Rattle.union_merge.specs.Branch.{Files}
use Rattle.node_model.specs.After.{state_after}
use Rattle.node_model.specs.Clocks.{ClockSet}
use Rattle.node_model.specs.OwedLines.{OwedLine}
use Rattle.node_model.specs.Rows.{bar_after, holds_after}
use Rattle.node_model.specs.SetUp.{SetUp}
use Rattle.node_model.specs.State.{State}
use Rattle.node_ends.specs.Going.{AreAfter}
use Rattle.node_parts.specs.Parts.{AreParts, PartsView}
use Rattle.node_parts.specs.Posting.{PostsPieces}
use Rattle.node_parts.specs.Running.{Jobs}
use Rattle.node_past.specs.declared.past.Past.{Past}
use Rattle.node_past.specs.declared.setup.Ended.{Ended}
use Rattle.node_past.specs.declared.setup.Setup.{Setup}
use Rattle.node_past.specs.Pasts.{SamePast}
use Rattle.node_steps.specs.Crashing.{Crashes, all_ended, crash_entry}
use Rattle.node_steps.specs.Falling.{Falls}
use Rattle.node_steps.specs.Kept.{IsKept}
use Rattle.node_steps.specs.Nodes.{MatchesSetup, IsState, NodeView, state_of}
use Rattle.node_steps.specs.Turning.{stamp_then}
use Rattle.node_steps.proofs.BeginLemmas.{kept_entered}
use Rattle.node_steps.proofs.MoveLemmas.{seen}
use Rattle.node_steps.proofs.StepLemmas.{FillLaw, state_more}

-- those of one number more
pub flat_more : {X : Type 0} (f : ℕ → List X) (n : ℕ) → flat_map f (range_with_len 0 (n + 1)) ≡ flat_map f (range_with_len 0 n) ++ f n
flat_more {X} f n =
    ap (flat_map f) (range_more n) ∙ (flat_map-append f (range_with_len 0 n) (n ∷ []) ∙ ap (λ (xs : List X). flat_map f (range_with_len 0 n) ++ xs) (append-nil (f n)))

-- what a node keeps is the same where only the room of its past has changed
pub kept_ready : (was ready : Past) (p : PartsView) (branch : Files) (owed : List OwedLine) (told : Option Contents) → SamePast was ready → IsKept was.setup was.clock was.history.items p branch owed told → IsKept ready.setup ready.clock ready.history.items p branch owed told
kept_ready was ready p branch owed told same kept = kept_entered was.setup ready.setup was.clock ready.clock was.history.items ready.history.items p branch owed owed told same.setup same.clock same.history refl kept

module _ {K : Type 0} (k : K) (clock : ℕ) (p p' : PartsView) (was now : Past) (branch : Files) (owed : List OwedLine) (falls : Falls clock p p' was now) where
  abbrev before : NodeView K
  before = seen k p branch was owed

  abbrev entry : Entry
  entry = crash_entry before clock falls.done.sent

  abbrev set : ClockSet
  set = record { at = was.time; to = clock }

  history_is : now.history.items ≡ was.history.items ++ entry ∷ []
  history_is = falls.crashes.history

  outcomes_are : now.outcomes.items ≡ was.outcomes.items ++ all_ended p.jobs.running (length was.history.items)
  outcomes_are = falls.crashes.outcomes ∙ ap (λ (n : ℕ). was.outcomes.items ++ all_ended p.jobs.running n) was.history.ok.0

  node_is : seen k p' branch now [] ≡ record before { parts = p'; count = was.count + 1; clock = set; history = was.history.items ++ entry ∷ []; outcomes = was.outcomes.items ++ all_ended p.jobs.running (length was.history.items); owed = [] }
  node_is =
      let e = falls.crashes in
      let h : List Entry = was.history.items ++ entry ∷ [] in
      let view : Setup → ℕ → ℕ → ClockSet → List Entry → List Ended → NodeView K =
      (λ s t c m x os. record { setup = s; keeper = k; parts = p'; branch = branch; time = t; count = c; clock = m; history = x; outcomes = os; owed = [] }) in
      ap (λ (s : Setup). view s now.time now.count now.clock now.history.items now.outcomes.items) e.setup
      ∙ ap (λ (t : ℕ). view was.setup t now.count now.clock now.history.items now.outcomes.items) e.time
      ∙ ap (λ (c : ℕ). view was.setup was.time c now.clock now.history.items now.outcomes.items) e.count
      ∙ ap (λ (m : ClockSet). view was.setup was.time (was.count + 1) m now.history.items now.outcomes.items) e.clock
      ∙ ap (λ (x : List Entry). view was.setup was.time (was.count + 1) set x now.outcomes.items) history_is
      ∙ ap (λ (os : List Ended). view was.setup was.time (was.count + 1) set h os) outcomes_are

  module _ (told : Option Contents) (kept : IsKept was.setup was.clock was.history.items p branch owed told) where
    pub crashes_one : p.jobs.place.number ≡ was.setup.number → Crashes told clock before (seen k p' branch now [])
    crashes_one number = record {
      sent = falls.done.sent;
      node = node_is;
      closes = λ c known s fits. falls.sent s (state_of s was.history.items) ((kept.state s fits).stands c known).parts_are;
      jobs = falls.jobs;
      ends = subst (λ (o : Option FrameView). AreAfter p.links p'.links o falls.done.sent) falls.taken falls.leaves.ends;
      posts = λ known.
          subst (λ (kind : EntryKind). PostsPieces (stamp_then before) kind p known p'.links None falls.done.sent) falls.kind
          (subst (λ (o : Option FrameView). PostsPieces (stamp_then before) falls.done.kind p known p'.links o falls.done.sent) falls.taken
          (subst (λ (n : ℕ). PostsPieces (record { time = was.time; count = was.count + 1; repo = n }) falls.done.kind p known p'.links falls.done.taken falls.done.sent) number (falls.posts known)));
    }

    state_fallen : FillLaw → (s : SetUp) → MatchesSetup was.setup s → IsState s p' branch [] told (state_after s (state_of s was.history.items) entry)
    state_fallen fills s fits =
        let is = kept.state s fits in
        record {
          holds = falls.leaves.holds ∙ (λ i. holds_after (is.holds i) (falls.kind i));
          bars = λ key. falls.leaves.bars key ∙ (λ i. bar_after key (is.bars key i) (falls.kind i));
          lines = is.lines;
          stands = λ c known.
              let stands = is.stands c known in
              let parts : AreParts s (state_after s (state_of s was.history.items) entry) p' = falls.parts s (state_of s was.history.items) entry stands.parts_are (sym falls.kind) (sym falls.taken) refl in
              record {
                parts_are = parts;
                fills = λ key. fills s (state_after s (state_of s was.history.items) entry) p' key falls.sound parts;
                stored = record { present = stands.stored.present; content = stands.stored.content };
                owed_are = refl;
              };
        }

    longer : length (was.history.items ++ entry ∷ []) ≡ length was.history.items + 1
    longer = length-append was.history.items (entry ∷ [])

    counted : vec_len was.history + 1 + 1 ≡ length (was.history.items ++ entry ∷ []) + 1
    counted = let len = was.history.ok.0 in omega (arith, longer, len)

    begun_still : p'.jobs.begun ≤ length (was.history.items ++ entry ∷ [])
    begun_still = let few = kept.begun in let same = ap (λ (j : Jobs). j.begun) falls.jobs in omega (arith, few, same, longer)

    pub kept_fallen : FillLaw → IsKept now.setup now.clock now.history.items p' branch [] told
    kept_fallen fills = kept_entered was.setup now.setup set now.clock (was.history.items ++ entry ∷ []) now.history.items p' branch [] [] told falls.crashes.setup falls.crashes.clock history_is refl (record {
      state = λ s fits. subst (IsState s p' branch [] told) (sym (state_more s was.history.items entry)) (state_fallen fills s fits);
      clock = λ s fits. ap (λ (st : State). st.clock) (state_more s was.history.items entry);
      numbered = subst (λ (n : ℕ). All (λ x. x.number < n) p'.table.holds) counted falls.leaves.numbers;
      place = ap (λ (j : Jobs). j.place) falls.jobs ∙ kept.place;
      begun = begun_still;
    })
