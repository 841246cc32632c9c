-- What stands beside a history stays so after a job begins, and after frames are dropped or carried.
use Rattle.std.proofs.Common.{◌≡◌, ℕ, ◌≤◌, ◌<◌, ◌+◌, List, [], ◌∷◌, ◌++◌, All, Option, Some, None, length, is_some, refl, sym, ap, subst, arith, ◌∙◌}
use Rattle.std.proofs.lemmas.List.{length-append}
use Rattle.std.proofs.lemmas.List.Elements.{All-weaker}
use Rattle.run_data.specs.declared.entry.Entry.{Entry}
use Rattle.run_data.specs.declared.entry.EntryKind.TheVariants.{Begin}
use Rattle.run_data.specs.declared.job.Job.{Job}
use Rattle.run_data.specs.declared.row.Hold.{Hold}
use Rattle.object_store.specs.Stores.{Contents, Parts as StoredParts}
use Rattle.content_lock.specs.Rows.{Rows, bar_at, is_filling}
use Rattle.union_merge.specs.Branch.{Files}
use Rattle.node_parts.specs.Beginning.{Begins}
use Rattle.node_parts.specs.Running.{AreAllFed as JobsFed, Jobs}
use Rattle.node_model.specs.After.{state_after}
use Rattle.node_model.specs.Clocks.{ClockSet}
use Rattle.node_model.specs.OwedLines.{OwedLine}
use Rattle.node_model.specs.SetUp.{SetUp}
use Rattle.node_model.specs.State.{State}
use Rattle.node_parts.specs.Parts.{AreAllFed, AreParts, PartsView}
use Rattle.node_parts.specs.Sound.{AreSound}
use Rattle.node_past.specs.declared.past.Past.{Past}
use Rattle.node_past.specs.declared.setup.Ended.{Ended}
use Rattle.node_past.specs.declared.setup.Setup.{Setup}
use Rattle.node_parts.specs.Sessions.{AreAllFed as SessionsFed}
use Rattle.std.specs.Option.{ForSome}
use Rattle.node_steps.specs.Kept.{IsFed, IsKept}
use Rattle.node_steps.specs.Nodes.{MatchesSetup, IsState, NodeView, state_of}
use Rattle.node_ledger.specs.Ledgers.{with_entry}
use Rattle.node_past.specs.Pasts.{AddsTo, SamePast}
use Rattle.node_steps.proofs.MoveLemmas.{seen}
use Rattle.node_past.proofs.OwedLemmas.{Grows, grows_adds}
use Rattle.node_past.proofs.PastLemmas.{adds_after}
use Rattle.node_steps.proofs.StepLemmas.{FillLaw, state_more}

-- ---- frames alone have moved

pub kept_links : (setup : Setup) (clock : ClockSet) (h : List Entry) (was now : PartsView) (branch : Files) (owed : List OwedLine) (told : Option Contents) → now.table ≡ was.table → now.jobs ≡ was.jobs → ((s : SetUp) (st : State) → AreParts s st was → AreParts s st now)
    → IsKept setup clock h was branch owed told → IsKept setup clock h now branch owed told
kept_links setup clock h was now branch owed told table jobs keep kept = record {
  state = λ s fits.
      let is = kept.state s fits in
      record {
        holds = ap (λ (t : Rows). t.holds) table ∙ is.holds;
        bars = λ key. ap (λ (t : Rows). bar_at t key) table ∙ is.bars key;
        lines = is.lines;
        stands = λ c known.
            let stands = is.stands c known in
            record {
              parts_are = keep s (state_of s h) stands.parts_are;
              fills = λ key. ap (λ (t : Rows). is_filling t key) table ∙ stands.fills key;
              stored = stands.stored;
              owed_are = stands.owed_are;
            };
      };
  clock = kept.clock;
  numbered = subst (λ (t : Rows). All (λ x. x.number < length h + 1) t.holds) (sym table) kept.numbered;
  place = ap (λ (j : Jobs). j.place) jobs ∙ kept.place;
  begun = subst (λ (j : Jobs). j.begun ≤ length h) (sym jobs) kept.begun;
}

-- ---- a job begins

abbrev pub begin_entry : Setup → ℕ → ℕ → ℕ → Job → Entry
begin_entry setup time count job what = record { time = time; count = count; repo = Some setup.number; kind = Begin job what; taken = None; sent = []; lines = [] }

-- the parts go on by the entry
abbrev pub GoOn : PartsView → PartsView → ℕ → Job → Type 0
GoOn was now job what = (s : SetUp) (st : State) (e : Entry) → AreParts s st was → e.kind ≡ Begin job what → e.taken ≡ None → e.sent ≡ [] → AreParts s (state_after s st e) now

later_numbers : (n m : ℕ) (hs : List Hold) → n ≤ m → All (λ (x : Hold). x.number < n) hs → All (λ (x : Hold). x.number < m) hs
later_numbers n m hs more all = All-weaker (λ (x : Hold). x.number < n) (λ (x : Hold). x.number < m) (λ x few. omega (arith, few, more)) hs all

module _ (setup : Setup) (clock : ClockSet) (h : List Entry) (was now : PartsView) (branch : Files) (owed : List OwedLine) (told : Option Contents) (time count job : ℕ) (what : Job) (paths : List (List ℕ))
    (fills : FillLaw) (sound' : AreSound now) (same : now ≡ record was { jobs = now.jobs }) (begins : Begins was.jobs what paths now.jobs) (go : GoOn was now job what) (kept : IsKept setup clock h was branch owed told) where
  abbrev begun_entry : Entry
  begun_entry = begin_entry setup time count job what

  table_same : now.table ≡ was.table
  table_same = ap (λ (p : PartsView). p.table) same

  state_begun : (s : SetUp) → MatchesSetup setup s → IsState s now branch owed told (state_after s (state_of s h) begun_entry)
  state_begun s fits =
      let is = kept.state s fits in
      record {
        holds = ap (λ (t : Rows). t.holds) table_same ∙ is.holds;
        bars = λ key. ap (λ (t : Rows). bar_at t key) table_same ∙ is.bars key;
        lines = is.lines;
        stands = λ c known.
            let stands = is.stands c known in
            let parts : AreParts s (state_after s (state_of s h) begun_entry) now = go s (state_of s h) begun_entry stands.parts_are refl refl refl in
            record {
              parts_are = parts;
              fills = λ key. fills s (state_after s (state_of s h) begun_entry) now key sound' parts;
              stored = record { present = stands.stored.present; content = stands.stored.content };
              owed_are = stands.owed_are;
            };
      }

  pub kept_begun : IsKept setup clock (h ++ begun_entry ∷ []) now branch owed told
  kept_begun = record {
    state = λ s fits. subst (IsState s now branch owed told) (sym (state_more s h begun_entry)) (state_begun s fits);
    clock = λ s fits. ap (λ (st : State). st.clock) (state_more s h begun_entry) ∙ kept.clock s fits;
    numbered = subst (λ (t : Rows). All (λ x. x.number < length (h ++ begun_entry ∷ []) + 1) t.holds) (sym table_same)
        (let longer = length-append h (begun_entry ∷ []) in later_numbers (length h + 1) (length (h ++ begun_entry ∷ []) + 1) was.table.holds (omega (arith, longer)) kept.numbered);
    place = ap (λ (j : Jobs). j.place) begins.jobs ∙ kept.place;
    begun =
        let few = kept.begun in
        let longer = length-append h (begun_entry ∷ []) in
        let one : now.jobs.begun ≡ was.jobs.begun + 1 = ap (λ (j : Jobs). j.begun) begins.jobs in
        omega (arith, few, longer, one);
  }

-- the same, of a past that was made ready
pub kept_entered : (setup setup' : Setup) (clock clock' : ClockSet) (h h' : List Entry) (p : PartsView) (branch : Files) (owed owed' : List OwedLine) (told : Option Contents) → setup' ≡ setup → clock' ≡ clock → h' ≡ h → owed' ≡ owed → IsKept setup clock h p branch owed told → IsKept setup' clock' h' p branch owed' told
kept_entered setup setup' clock clock' h h' p branch owed owed' told es et eh eo kept =
    subst (λ (x : Setup). IsKept x clock' h' p branch owed' told) (sym es) (subst (λ (x : ClockSet). IsKept setup x h' p branch owed' told) (sym et)
    (subst (λ (x : List Entry). IsKept setup clock x p branch owed' told) (sym eh) (subst (λ (x : List OwedLine). IsKept setup clock h p branch x told) (sym eo) kept)))

pub begun_kept : FillLaw → (was ready now : Past) (parts parts' : PartsView) (branch : Files) (owed owed' : List OwedLine) (told : Option Contents) (job : ℕ) (what : Job) (paths : List (List ℕ)) (lines : List (List ℕ))
    → AreSound parts' → parts' ≡ record parts { jobs = parts'.jobs } → Begins parts.jobs what paths parts'.jobs → GoOn parts parts' (parts.jobs.begun + 1) what → job ≡ parts.jobs.begun + 1 → lines ≡ [] → SamePast was ready → AddsTo (Begin job what) lines ready now → owed' ≡ owed
    → IsKept was.setup was.clock was.history.items parts branch owed told → IsKept now.setup now.clock now.history.items parts' branch owed' told
begun_kept fills was ready now parts parts' branch owed owed' told job what paths lines sound same begins go number none ready_is adds owes kept =
    let added = adds_after (Begin job what) lines was ready now ready_is adds in
    kept_entered was.setup now.setup was.clock now.clock (was.history.items ++ begin_entry was.setup was.time (was.count + 1) (parts.jobs.begun + 1) what ∷ []) now.history.items parts' branch owed owed' told added.setup added.clock
    (added.history ∙ ap (λ (ls : List (List ℕ)). was.history.items ++ record { time = was.time; count = was.count + 1; repo = Some was.setup.number; kind = Begin job what; taken = None; sent = []; lines = ls } ∷ []) none
    ∙ ap (λ (j : ℕ). was.history.items ++ begin_entry was.setup was.time (was.count + 1) j what ∷ []) number)
    owes
    (kept_begun was.setup was.clock was.history.items parts parts' branch owed told was.time (was.count + 1) (parts.jobs.begun + 1) what paths fills sound same begins go kept)

-- what is seen of the node then
node_begun : {K : Type 0} (k : K) (parts parts' : PartsView) (branch : Files) (was now : Past) (owed owed' : List OwedLine) (job : ℕ) (what : Job)
    → parts' ≡ record parts { jobs = parts'.jobs } → AddsTo (Begin job what) [] was now → owed' ≡ owed
    → seen k parts' branch now owed' ≡ record (with_entry (seen k parts branch was owed) k branch (Begin job what) []) { parts = record parts { jobs = parts'.jobs } }
node_begun {K} k parts parts' branch was now owed owed' job what ep adds eo =
    let node : PartsView → Setup → ℕ → ℕ → ClockSet → List Entry → List Ended → List OwedLine → NodeView K =
    (λ p s t c m h x o. record { setup = s; keeper = k; parts = p; branch = branch; time = t; count = c; clock = m; history = h; outcomes = x; owed = o }) in
    let h' : List Entry = was.history.items ++ begin_entry was.setup was.time (was.count + 1) job what ∷ [] in
    let p' : PartsView = record parts { jobs = parts'.jobs } in
    ap (λ (p : PartsView). node p now.setup now.time now.count now.clock now.history.items now.outcomes.items owed') ep
    ∙ ap (λ (s : Setup). node p' s now.time now.count now.clock now.history.items now.outcomes.items owed') adds.setup
    ∙ ap (λ (t : ℕ). node p' was.setup t now.count now.clock now.history.items now.outcomes.items owed') adds.time
    ∙ ap (λ (c : ℕ). node p' was.setup was.time c now.clock now.history.items now.outcomes.items owed') adds.count
    ∙ ap (λ (m : ClockSet). node p' was.setup was.time (was.count + 1) m now.history.items now.outcomes.items owed') adds.clock
    ∙ ap (λ (h : List Entry). node p' was.setup was.time (was.count + 1) was.clock h now.outcomes.items owed') adds.history
    ∙ ap (λ (x : List Ended). node p' was.setup was.time (was.count + 1) was.clock h' x owed') adds.outcomes
    ∙ ap (λ (o : List OwedLine). node p' was.setup was.time (was.count + 1) was.clock h' was.outcomes.items o) eo

pub seen_begun : {K : Type 0} (k : K) (parts parts' : PartsView) (branch : Files) (was ready now : Past) (owed owed' : List OwedLine) (job : ℕ) (what : Job) (lines : List (List ℕ)) (n : NodeView K)
    → seen k parts branch was owed ≡ n → parts' ≡ record parts { jobs = parts'.jobs } → lines ≡ [] → SamePast was ready → AddsTo (Begin job what) lines ready now → owed' ≡ owed
    → seen k parts' branch now owed' ≡ record (with_entry n n.keeper n.branch (Begin job what) []) { parts = record n.parts { jobs = parts'.jobs } }
seen_begun {K} k parts parts' branch was ready now owed owed' job what lines n view ep none same adds eo =
    subst (λ (m : NodeView K). seen k parts' branch now owed' ≡ record (with_entry m m.keeper m.branch (Begin job what) []) { parts = record m.parts { jobs = parts'.jobs } }) view
    (node_begun k parts parts' branch was now owed owed' job what ep (subst (λ (ls : List (List ℕ)). AddsTo (Begin job what) ls was now) none (adds_after (Begin job what) lines was ready now same adds)) eo)

-- ---- the store's parts

pub fed_links : (stored : Option StoredParts) (was now : PartsView) → now.sessions ≡ was.sessions → now.jobs ≡ was.jobs → IsFed stored was → IsFed stored now
fed_links stored was now sessions jobs fed = λ q known. record {
  serving = subst (SessionsFed q) (sym sessions) (fed q known).serving;
  acting = subst (λ (j : Jobs). JobsFed q j.running) (sym jobs) (fed q known).acting;
}

pub fed_after : (stored stored' : Option StoredParts) (was now : PartsView) → is_some stored' ≡ is_some stored → ForSome stored (λ q. AreAllFed q was → ForSome stored' (λ q'. AreAllFed q' now)) → IsFed stored was → IsFed stored' now
fed_after None None was now told feeds fed = λ q known. absurd cc
fed_after None (Some q') was now told feeds fed = absurd cc
fed_after (Some q) stored' was now told feeds fed = feeds q refl (fed q refl)

-- ---- the history

pub begun_grows : (was ready now : Past) (job : ℕ) (what : Job) (lines : List (List ℕ)) → SamePast was ready → AddsTo (Begin job what) lines ready now → Grows was now
begun_grows was ready now job what lines same adds = grows_adds (Begin job what) lines was now (adds_after (Begin job what) lines was ready now same adds)
