-- What a step of the sessions or of the jobs adds to a node.
use Rattle.std.proofs.Common.{◌≡◌, ℕ, ◌+◌, Bool, List, [], ◌∷◌, ◌++◌, Option, Some, None, Result, Ok, Err, IfOk, inl, inr, length, is_some, refl, sym, ap, subst, ◌∙◌}
use Rattle.std.specs.Prelude.{IfSome, if◌then◌else◌, vec_len}
use Rattle.std.specs.Option.{ForSome, option_map, option_or}
use Rattle.annex_base.specs.Causes.{Rose}
use Rattle.annex_base.specs.declared.kinds.Call.{Call}
use Rattle.annex_base.proofs.Conditions.{bytes_eq-refl}
use Rattle.annex_base.proofs.Options.{map_some}
use Rattle.trust_groups.specs.Reads.{Indices, HaveReadLines}
use Rattle.trust_groups.specs.Settings.{Lines, settings}
use Rattle.trust_groups.specs.View.{settings_of}
use Rattle.run_data.specs.declared.entry.Entry.{Entry}
use Rattle.run_data.specs.declared.entry.EntryKind.{EntryKind}
use Rattle.run_data.specs.declared.entry.EntryKind.TheVariants.{Log}
use Rattle.run_data.specs.declared.entry.FrameView.{FrameView}
use Rattle.run_data.specs.Files.{file_path}
use Rattle.object_store.specs.Stores.{Contents, Parts as StoredParts}
use Rattle.union_merge.specs.Branch.{Files, lines_at}
use Rattle.union_merge.specs.LineSet.{union}
use Rattle.annex_base.specs.declared.memory.NoMemory.{NoMemory}
use Rattle.node_model.specs.Clocks.{ClockSet}
use Rattle.node_model.specs.Look.{Look, Effect, as_told, entry_of, failed_in}
use Rattle.node_model.specs.SessionStep.{session_step}
use Rattle.node_model.specs.SetUp.{SetUp}
use Rattle.node_model.specs.Slots.{job_of}
use Rattle.node_model.specs.State.{State}
use Rattle.node_model.specs.OwedLines.{OwedLine}
use Rattle.node_model.specs.Turns.{job_step}
use Rattle.content_lock.specs.CallsMade.{MakesCalls, fewer}
use Rattle.owed_lines.specs.declared.debt.Debt.{Debt}
use Rattle.node_parts.specs.SessionKinds.{IsOfSession}
use Rattle.node_parts.specs.Places.{PlaceView}
use Rattle.node_parts.specs.declared.done.Done.{Done}
use Rattle.node_parts.specs.declared.moment.Moment.{Moment}
use Rattle.node_parts.specs.Kinds.{IsQuiet}
use Rattle.node_parts.specs.Parts.{AreAllFed, PartsView}
use Rattle.node_parts.specs.Posting.{PostsPieces, stamp_of}
use Rattle.node_parts.specs.Steps.{Acts, AsksPart, Fails, HasPart, Hears, IsPartAsked, Leaves, LeavesSo, OwesTold, SeesParts, Serves, Steps, WhereActed, WhereServed, failed_by, made_of, words_heard}
use Rattle.node_parts.specs.Stored.{contents_then, parts_then}
use Rattle.node_past.specs.declared.past.Past.{Past}
use Rattle.node_past.specs.declared.setup.Ended.{Ended}
use Rattle.node_past.specs.declared.setup.Setup.{Setup}
use Rattle.node_steps.specs.Kept.{IsFed, IsKept}
use Rattle.node_steps.specs.Nodes.{MatchesSetup, NodeView, state_of, told_of}
use Rattle.node_past.specs.Pasts.{SamePast, frames_entry}
use Rattle.node_steps.specs.Stepping.{AddsIf, EntersIf, EntersStep, MovesSo, NoStep}
use Rattle.node_past.specs.Stored.{StoreView}
use Rattle.node_steps.specs.Turning.{Adds, GoOn, Looks, Stepper, StepsBy, branch_by, done_in, ended_by}
use Rattle.node_steps.proofs.StepLemmas.{CountLaw, DoesBy, TellsJob, WhereDone, sees_parts, told_some}

-- the node that these are
abbrev pub seen : {K : Type 0} → K → PartsView → Files → Past → List OwedLine → NodeView K
seen keeper parts branch p owed = record { setup = p.setup; keeper = keeper; parts = parts; branch = branch; time = p.time; count = p.count; clock = p.clock; history = p.history.items; outcomes = p.outcomes.items; owed = owed }

some_done : (x y : Done) → Some x ≡ Some y → x ≡ y
some_done x y is = cc

no_done : {P : Type 0} (x : Done) → None ≡ Some x → P
no_done x is = absurd cc

-- ---- the past

pub same_length : (was ready : Past) → SamePast was ready → vec_len ready.history ≡ vec_len was.history
same_length was ready same = ready.history.ok.0 ∙ ap (λ (h : List Entry). length h) same.history ∙ sym was.history.ok.0

abbrev entry_at : ℕ → ℕ → Setup → EntryKind → Option FrameView → List FrameView → Entry
entry_at time count setup kind taken sent = record { time = time; count = count + 1; repo = Some setup.number; kind = kind; taken = taken; sent = sent; lines = [] }

-- what is entered in a past that was made ready is entered in the past before
pub enters_after : (d : Done) (was ready now : Past) → SamePast was ready → EntersStep d ready now → EntersStep d was now
enters_after d was ready now same enters = record {
  setup = enters.setup ∙ same.setup;
  time = enters.time ∙ same.time;
  clock = enters.clock ∙ same.clock;
  count = enters.count ∙ ap (λ (n : ℕ). n + 1) same.count;
  history = enters.history
      ∙ ap (λ (h : List Entry). h ++ entry_at ready.time ready.count ready.setup d.kind d.taken d.sent ∷ []) same.history
      ∙ ap (λ (t : ℕ). was.history.items ++ entry_at t ready.count ready.setup d.kind d.taken d.sent ∷ []) same.time
      ∙ ap (λ (n : ℕ). was.history.items ++ entry_at was.time n ready.setup d.kind d.taken d.sent ∷ []) same.count
      ∙ ap (λ (s : Setup). was.history.items ++ entry_at was.time was.count s d.kind d.taken d.sent ∷ []) same.setup;
  outcomes = enters.outcomes ∙ ap (λ (x : List Ended). x ++ ended_by d.kind (vec_len ready.history)) same.outcomes ∙ ap (λ (n : ℕ). was.outcomes.items ++ ended_by d.kind n) (same_length was ready same);
}

-- ---- what is added

same_node : {K : Type 0} (k k' : K) (parts parts' : PartsView) (branch : Files) (was now : Past) (owed owed' : List OwedLine) → parts' ≡ parts → SamePast was now → owed' ≡ owed
    → seen k' parts' branch now owed' ≡ record (seen k parts branch was owed) { keeper = k' }
same_node {K} k k' parts parts' branch was now owed owed' ep same eo =
    let node : PartsView → Setup → ℕ → ℕ → ClockSet → List Entry → List Ended → List OwedLine → NodeView K =
    (λ p s t c m h x o. record { setup = s; keeper = k'; parts = p; branch = branch; time = t; count = c; clock = m; history = h; outcomes = x; owed = o }) in
    ap (λ (p : PartsView). node p now.setup now.time now.count now.clock now.history.items now.outcomes.items owed') ep
    ∙ ap (λ (s : Setup). node parts s now.time now.count now.clock now.history.items now.outcomes.items owed') same.setup
    ∙ ap (λ (t : ℕ). node parts was.setup t now.count now.clock now.history.items now.outcomes.items owed') same.time
    ∙ ap (λ (c : ℕ). node parts was.setup was.time c now.clock now.history.items now.outcomes.items owed') same.count
    ∙ ap (λ (m : ClockSet). node parts was.setup was.time was.count m now.history.items now.outcomes.items owed') same.clock
    ∙ ap (λ (h : List Entry). node parts was.setup was.time was.count was.clock h now.outcomes.items owed') same.history
    ∙ ap (λ (x : List Ended). node parts was.setup was.time was.count was.clock was.history.items x owed') same.outcomes
    ∙ ap (λ (o : List OwedLine). node parts was.setup was.time was.count was.clock was.history.items was.outcomes.items o) eo

pub seen_same : {K : Type 0} (k k' : K) (parts parts' : PartsView) (branch : Files) (was now : Past) (owed owed' : List OwedLine) (n : NodeView K) → seen k parts branch was owed ≡ n → parts' ≡ parts → SamePast was now → owed' ≡ owed
    → seen k' parts' branch now owed' ≡ record n { keeper = k' }
seen_same {K} k k' parts parts' branch was now owed owed' n view ep same eo =
    subst (λ (m : NodeView K). seen k' parts' branch now owed' ≡ record m { keeper = k' }) view (same_node k k' parts parts' branch was now owed owed' ep same eo)

-- the ends posted what this says, over a store of these contents, with the stamp of a past's next entry
abbrev pub PostsIn : Past → PartsView → Option Contents → PartsView → Done → Type 0
PostsIn was parts contents parts' d = PostsPieces (record { time = was.time; count = was.count + 1; repo = was.setup.number }) d.kind parts contents parts'.links d.taken d.sent

-- a step of these changes no log, so its entry leaves the branch
one_line : ◌≡◌ {A = List (List ℕ)} [] ((0 ∷ []) ∷ []) → ⊥
one_line is = absurd cc

branch_stays : (b : Files) (kind : EntryKind) → IsQuiet kind → b ≡ branch_by b kind []
branch_stays b (Log file) quiet =
    absurd (one_line (sym (quiet.lines (file_path file) [] ((0 ∷ []) ∷ [])) ∙ ap (λ (t : Bool). if t then union [] ((0 ∷ []) ∷ []) else []) (bytes_eq-refl (file_path file))))
branch_stays b _ quiet = refl

-- what a step leaves of the store
pub record LeavesStore (p : PartsView) (before after : StoreView) (o : Option Done) : Type 0 where
  pub contents : after.contents ≡ contents_then before.contents before.parts o
  pub parts : after.parts ≡ parts_then p before.parts o
  pub left : after.failing ≡ option_map (fewer (failed_by o)) before.failing

-- how the jobs go on doesn't depend on what the step owes
still_go : (was now : PartsView) (d : Done) (e : Entry) → d.kind ≡ e.kind → d.taken ≡ e.taken → GoOn was now d → GoOn was now (done_in e)
still_go was now d e kind taken (inl same) = inl same
still_go was now d e kind taken (inr goes) =
    let on = goes.1 in
    inr (
      goes.0,
      record {
        job = on.job;
        made = ap job_of (sym kind) ∙ on.made;
        hears = λ t' now_is t was_is.
            let heard = on.hears t' now_is t was_is in record { look = λ f took. heard.look f (taken ∙ took); answer = λ f took. heard.answer f (taken ∙ took); rest = heard.rest };
        apart = on.apart;
        given = on.given;
      },
    )

-- over the same store, the node is the same
keeper_same : {K : Type 0} (k k' : K) (n : NodeView K) → k ≡ n.keeper → k' ≡ k → record n { keeper = k' } ≡ n
keeper_same {K} k k' n here same = ap (λ (x : K). record n { keeper = x }) (same ∙ here)

adds_entry : {K : Type 0} (d : Done) (k k' : K) (parts parts' : PartsView) (branch : Files) (number : ℕ) (was now : Past) (owed owed' : List OwedLine) (before after : StoreView)
    → EntersStep d was now → Leaves number parts parts' d → PostsIn was parts before.contents parts' d → GoOn parts parts' d → IsQuiet d.kind → IfSome (failed_in d.kind) (λ call. Rose before.faults after.faults) → LeavesStore parts before after (Some d)
    → Adds parts.links before after (seen k parts branch was owed) (seen k' parts' branch now owed')
adds_entry d k k' parts parts' branch number was now owed owed' before after enters leaves posts goes quiet cause store = record {
  entry = frames_entry was d.kind d.taken d.sent;
  history = enters.history;
  outcomes = enters.outcomes ∙ ap (λ (n : ℕ). was.outcomes.items ++ ended_by d.kind n) was.history.ok.0;
  time = refl;
  count = refl;
  repo = refl;
  counted = enters.count;
  at = enters.time;
  clock = enters.clock;
  setup = enters.setup;
  branch = branch_stays branch d.kind quiet;
  ends = leaves.ends;
  posts = posts;
  jobs = still_go parts parts' d (frames_entry was d.kind d.taken d.sent) refl refl goes;
  contents = store.contents;
  parts = store.parts;
  left = store.left;
  cause = cause;
}

pub adds_if : {K : Type 0} (view : K → StoreView) (o : Option Done) (b : Bool) (k k' : K) (parts parts' : PartsView) (branch : Files) (number : ℕ) (was ready now : Past) (debts debts' : List Debt) (owed owed' : List OwedLine) (n : NodeView K)
    → seen k parts branch was owed ≡ n → b ≡ is_some o → SamePast was ready → EntersIf o ready now debts debts' → LeavesSo number parts parts' o → ForSome o (PostsIn was parts (view k).contents parts') → ForSome o (GoOn parts parts') → ForSome o (λ d. IsQuiet d.kind)
    → IfSome (failed_by o) (λ call. Rose (view k).faults (view k').faults) → LeavesStore parts (view k) (view k') o → (o ≡ None → owed' ≡ owed) → (o ≡ None → k' ≡ k)
    → AddsIf b n.parts.links (view n.keeper) (view k') n (seen k' parts' branch now owed')
adds_if {K} view None b k k' parts parts' branch number was ready now debts debts' owed owed' n node made same enters leaves posts goes quiet cause store stays unasked =
    subst (λ (x : Bool). AddsIf x n.parts.links (view n.keeper) (view k') n (seen k' parts' branch now owed')) (sym made)
    (seen_same k k' parts parts' branch was now owed owed' n node leaves (subst (SamePast was) (sym enters.0) same) (stays refl) ∙ keeper_same k k' n (ap (λ (m : NodeView K). m.keeper) node) (unasked refl))
adds_if {K} view (Some d) b k k' parts parts' branch number was ready now debts debts' owed owed' n node made same enters leaves posts goes quiet cause store stays unasked =
    subst (λ (x : Bool). AddsIf x n.parts.links (view n.keeper) (view k') n (seen k' parts' branch now owed')) (sym made)
    (subst (λ (m : NodeView K). Adds m.parts.links (view m.keeper) (view k') m (seen k' parts' branch now owed')) node
    (adds_entry d k k' parts parts' branch number was now owed owed' (view k) (view k') (enters_after d was ready now same enters.0) leaves (posts d refl) (goes d refl) (quiet d refl) cause store))

-- ---- the step

-- where an entry tells of no step, there is none
none_told : (o : Option Effect) → option_map as_told o ≡ None → o ≡ None
none_told None is = refl
none_told (Some m) is = absurd cc

-- no look of these finds a step
none_steps : {K : Type 0} (step : Stepper) (law : CountLaw) (k : K) (parts parts' : PartsView) (branch : Files) (was : Past) (owed : List OwedLine) (cs cs' : Option Contents) (qs : Option StoredParts)
    → IsKept was.setup was.clock was.history.items parts branch owed (told_of cs qs) → (c : Contents) → told_of cs qs ≡ Some c → DoesBy step parts parts' c qs cs' was.setup was.clock was.history.items was.time None
    → NoStep step (seen k parts branch was owed)
none_steps step law k parts parts' branch was owed cs cs' qs kept c told by s look fits looks =
    none_told (step s (state_of s was.history.items) look) (by.does s look fits (sees_parts law was.setup was.clock was.history.items parts branch owed (told_of cs qs) c was.time (length was.history.items + 1) s look kept told refl fits looks.paths looks.ends looks.time)
    (λ d is. no_done d is) (λ d is. no_done d is) (λ d is. no_done d is)).made

entry_same : (r r' time time' count count' : ℕ) (m : Effect) → r ≡ r' → time ≡ time' → count ≡ count'
    → ◌≡◌ {A = Entry} (record { time = time'; count = count'; repo = Some r'; kind = m.kind; taken = m.taken; sent = m.sent; lines = m.lines }) (record { time = time; count = count; repo = Some r; kind = m.kind; taken = m.taken; sent = m.sent; lines = m.lines })
entry_same r r' time time' count count' m er et ec =
    let entry : ℕ → ℕ → ℕ → Entry = (λ x t c. record { time = t; count = c; repo = Some x; kind = m.kind; taken = m.taken; sent = m.sent; lines = m.lines }) in
    ap (λ (x : ℕ). entry x time' count') (sym er) ∙ ap (λ (t : ℕ). entry r t count') (sym et) ∙ ap (λ (c : ℕ). entry r time c) (sym ec)

-- what a look of the node finds of a step
module _ (known : Option StoredParts) (d : Done) (parts : PartsView) (k : Look) where
  finds_fails : k.fails ≡ failed_in d.kind → Fails (Some d) k
  finds_fails fails x is = fails ∙ ap (λ (y : Done). failed_in y.kind) (some_done d x is)

  finds_part : IsPartAsked known parts d.kind d.taken k.part k.right → AsksPart known parts (Some d) k
  finds_part part x is = subst (λ (y : Done). IsPartAsked known parts y.kind y.taken k.part k.right) (some_done d x is) part

  finds_words : k.words ≡ words_heard parts (Some d) → Hears parts (Some d) k
  finds_words words x is = words ∙ ap (λ (y : Done). words_heard parts (Some y)) (some_done d x is)

some_steps : {K : Type 0} (step : Stepper) (law : CountLaw) (d : Done) (k k' : K) (parts parts' : PartsView) (branch : Files) (was now : Past) (owed owed' : List OwedLine) (before after : StoreView)
    → IsKept was.setup was.clock was.history.items parts branch owed (told_of before.contents before.parts) → EntersStep d was now → (c : Contents) → told_of before.contents before.parts ≡ Some c
    → DoesBy step parts parts' c before.parts after.contents was.setup was.clock was.history.items was.time (Some d)
    → WhereDone parts c before.parts was.setup was.clock was.history.items was.time (Some d) (λ s st x. ForSome (step s st x) (λ (m : Effect). MakesCalls m.calls (failed_in d.kind) before.failing after.failing))
    → StepsBy step before after (seen k parts branch was owed) (seen k' parts' branch now owed')
some_steps step law d k k' parts parts' branch was now owed owed' before after kept enters c told by calls = record {
  kind = d.kind;
  taken = d.taken;
  part = by.part d refl;
  makes = λ s look fits looks finds.
      let sees = sees_parts law was.setup was.clock was.history.items parts branch owed (told_of before.contents before.parts) c was.time (length was.history.items + 1) s look kept told refl fits looks.paths looks.ends looks.time in
      let fails = finds_fails before.parts d parts look finds.fails in
      let asks = finds_part before.parts d parts look finds.part in
      let hears = finds_words before.parts d parts look finds.words in
      let it = map_some (step s (state_of s was.history.items) look) as_told (made_of d) (by.does s look fits sees fails asks hears).made in
      record {
        made = it.0;
        same = ap (λ (m : Effect). m.kind) it.2;
        takes = ap (λ (m : Effect). m.taken) it.2;
        makes = it.1;
        adds = enters.history
            ∙ ap (λ (e : Entry). was.history.items ++ e ∷ []) (entry_same s.number was.setup.number look.time was.time look.count (was.count + 1) (made_of d) fits.number looks.time looks.count)
            ∙ ap (λ (m : Effect). was.history.items ++ entry_of s.number look m ∷ []) (sym it.2);
        calls = calls s look fits sees fails asks hears it.0 it.1;
      };
}

pub steps_if : {K : Type 0} (view : K → StoreView) (step : Stepper) (law : CountLaw) (o : Option Done) (b : Bool) (k k' : K) (parts parts' : PartsView) (branch : Files) (was ready now : Past) (debts debts' : List Debt) (owed owed' : List OwedLine) (n : NodeView K)
    → seen k parts branch was owed ≡ n → b ≡ is_some o → SamePast was ready → EntersIf o ready now debts debts' → IsKept was.setup was.clock was.history.items parts branch owed (told_of (view k).contents (view k).parts)
    → ForSome (told_of (view k).contents (view k).parts) (λ c. DoesBy step parts parts' c (view k).parts (view k').contents was.setup was.clock was.history.items was.time o)
    → ForSome (told_of (view k).contents (view k).parts) (λ c. WhereDone parts c (view k).parts was.setup was.clock was.history.items was.time o (λ s st x. ForSome (step s st x) (λ (m : Effect). MakesCalls m.calls (failed_by o) (view k).failing (view k').failing)))
    → (c : Contents) → told_of (view k).contents (view k).parts ≡ Some c → MovesSo b step (view n.keeper) (view k') n (seen k' parts' branch now owed')
steps_if {K} view step law None b k k' parts parts' branch was ready now debts debts' owed owed' n node made same enters kept does calls c told =
    subst (λ (x : Bool). MovesSo x step (view n.keeper) (view k') n (seen k' parts' branch now owed')) (sym made)
    (subst (λ (m : NodeView K). NoStep step m) node (none_steps step law k parts parts' branch was owed (view k).contents (view k').contents (view k).parts kept c told (does c told)))
steps_if {K} view step law (Some d) b k k' parts parts' branch was ready now debts debts' owed owed' n node made same enters kept does calls c told =
    subst (λ (x : Bool). MovesSo x step (view n.keeper) (view k') n (seen k' parts' branch now owed')) (sym made)
    (subst (λ (m : NodeView K). StepsBy step (view m.keeper) (view k') m (seen k' parts' branch now owed')) node
    (some_steps step law d k k' parts parts' branch was now owed owed' (view k) (view k') kept (enters_after d was ready now same enters.0) c told (does c told) (calls c told)))

-- ---- what the parts do, of a node

-- the number of a past's next entry
pub next_number : (was ready : Past) → SamePast was ready → vec_len ready.history + 1 ≡ length was.history.items + 1
next_number was ready same = ap (λ (n : ℕ). n + 1) (ready.history.ok.0 ∙ ap (λ (h : List Entry). length h) same.history)

pub told_both : (cs : Option Contents) (qs : Option StoredParts) (c : Contents) → told_of cs qs ≡ Some c → (q : StoredParts) × (qs ≡ Some q)
told_both cs None c told = absurd cc
told_both cs (Some q) c told = (q, refl)

abbrev pub moment_in : Past → Moment
moment_in p = record { time = p.time; clock = p.clock; count = p.count + 1; number = vec_len p.history + 1 }

-- the moment of a past that was made ready
moment_same : (was ready : Past) → SamePast was ready → moment_in ready ≡ record { time = was.time; clock = was.clock; count = was.count + 1; number = length was.history.items + 1 }
moment_same was ready same =
    let moment : ℕ → ClockSet → ℕ → ℕ → Moment = (λ t m c n. record { time = t; clock = m; count = c + 1; number = n }) in
    ap (λ (t : ℕ). moment t ready.clock ready.count (vec_len ready.history + 1)) same.time
    ∙ ap (λ (m : ClockSet). moment was.time m ready.count (vec_len ready.history + 1)) same.clock
    ∙ ap (λ (c : ℕ). moment was.time was.clock c (vec_len ready.history + 1)) same.count
    ∙ ap (λ (n : ℕ). moment was.time was.clock was.count n) (next_number was ready same)

-- what a part is asked for is there, where the store tells its parts
has_asked : (parts : PartsView) (cs : Option Contents) (qs : Option StoredParts) (o : Option Done) (c : Contents) → told_of cs qs ≡ Some c → IsFed qs parts → ForSome qs (λ q. AreAllFed q parts → ForSome o (λ d. HasPart (Some q) parts d.kind d.taken))
    → ForSome o (λ d. HasPart qs parts d.kind d.taken)
has_asked parts cs qs o c told fed asked =
    let q = told_both cs qs c told in
    subst (λ (x : Option StoredParts). ForSome o (λ d. HasPart x parts d.kind d.taken)) (sym q.1) (asked q.0 q.1 (fed q.0 q.1))

-- what is so wherever the sessions' step is made, is so of the node's states
served_where : (m : Moment) (was ready : Past) (parts : PartsView) (c : Contents) (known : Option StoredParts) (o : Option Done) (P : SetUp → State → Look → Type 0) → m ≡ moment_in ready → SamePast was ready
    → WhereServed parts c known m.clock m.time m.number o P → WhereDone parts c known was.setup was.clock was.history.items was.time o P
served_where m was ready parts c known o P at same there s k fits sees fails asks hears =
    (subst (λ (x : Moment). WhereServed parts c known x.clock x.time x.number o P) (at ∙ moment_same was ready same) there) s (state_of s was.history.items) k sees fails asks

pub served_does : (m : Moment) (was ready : Past) (parts parts' : PartsView) (cs cs' : Option Contents) (qs : Option StoredParts) (o : Option Done)
    → m ≡ moment_in ready → SamePast was ready → IsFed qs parts
    → ForSome cs (λ c. Serves parts parts' c qs cs' m.clock m.time m.number o) → ForSome qs (λ q. AreAllFed q parts → ForSome o (λ d. HasPart (Some q) parts d.kind d.taken))
    → ForSome (told_of cs qs) (λ c. DoesBy session_step parts parts' c qs cs' was.setup was.clock was.history.items was.time o)
served_does m was ready parts parts' cs cs' qs o at same fed serves asked c told = record {
  part = has_asked parts cs qs o c told fed asked;
  does = served_where m was ready parts c qs o (λ s st k. Steps session_step parts' cs' s st k o) at same (serves c (told_some cs qs c told).0);
}

pub served_calls : (m : Moment) (was ready : Past) (parts : PartsView) (cs : Option Contents) (qs : Option StoredParts) (o : Option Done) (before after : Option (Call → ℕ)) → m ≡ moment_in ready → SamePast was ready
    → ForSome cs (λ c. WhereServed parts c qs m.clock m.time m.number o (λ s st k. ForSome (session_step s st k) (λ (m : Effect). MakesCalls m.calls (failed_by o) before after)))
    → ForSome (told_of cs qs) (λ c. WhereDone parts c qs was.setup was.clock was.history.items was.time o (λ s st k. ForSome (session_step s st k) (λ (m : Effect). MakesCalls m.calls (failed_by o) before after)))
served_calls m was ready parts cs qs o before after at same calls c told =
    served_where m was ready parts c qs o (λ s st k. ForSome (session_step s st k) (λ (m : Effect). MakesCalls m.calls (failed_by o) before after)) at same (calls c (told_some cs qs c told).0)

-- a session's entry is no talk of a job
abbrev pub SessionsLaw : Type 0
SessionsLaw = (s : SetUp) (st : State) (k : Look) (m : Effect) → session_step s st k ≡ Some m → IsOfSession m.kind × (m.lines ≡ [])

pub sessions_tell : SessionsLaw → (p : PartsView) (o : Option Done) → ForSome o (TellsJob session_step p)
sessions_tell law p o d is s st k m job made talks = absurd (subst IsOfSession talks (law s st k m made).0)

-- a job owes what it was told
pub jobs_tell : (p : PartsView) (o : Option Done) → ForSome o (OwesTold p) → ForSome o (TellsJob job_step p)
jobs_tell p o owes d is s st k m job made talks = owes d is

-- what the jobs read is what the state has read
pub settings_are : (setup : Setup) (clock : ClockSet) (h : List Entry) (parts : PartsView) (branch : Files) (owed : List OwedLine) (told : Option Contents) (i : Indices) (s : SetUp)
    → ((x : Indices) (lines : Lines) → HaveReadLines x lines → settings_of x ≡ settings lines) → HaveReadLines i (lines_at branch) → IsKept setup clock h parts branch owed told → MatchesSetup setup s → settings (state_of s h).lines ≡ settings_of i
settings_are setup clock h parts branch owed told i s law reads kept fits =
    let is = kept.state s fits in
    let same : (state_of s h).lines ≡ lines_at branch = (λ j path. sym (is.lines path) j) in
    ap settings same ∙ sym (law i (lines_at branch) reads)

-- the premises on the moment, and on what the index has read
module _ (m : Moment) (was ready : Past) (parts : PartsView) (branch : Files) (owed : List OwedLine) (cs : Option Contents) (qs : Option StoredParts) (i : Indices) (o : Option Done)
    (at : m ≡ moment_in ready) (same : SamePast was ready) (law : (x : Indices) (lines : Lines) → HaveReadLines x lines → settings_of x ≡ settings lines) (reads : HaveReadLines i (lines_at branch))
    (kept : IsKept was.setup was.clock was.history.items parts branch owed (told_of cs qs)) where
  acted_where : (c : Contents) (P : SetUp → State → Look → Type 0) → WhereActed parts c qs m.clock (settings_of i) m.time m.number o P → WhereDone parts c qs was.setup was.clock was.history.items was.time o P
  acted_where c P there s k fits sees fails asks hears =
      (subst (λ (x : Moment). WhereActed parts c qs x.clock (settings_of i) x.time x.number o P) (at ∙ moment_same was ready same) there) s (state_of s was.history.items) k
      (sees.parts.logs ∙ settings_are was.setup was.clock was.history.items parts branch owed (told_of cs qs) i s law reads kept fits) sees fails asks hears

  pub acted_does : (parts' : PartsView) (cs' : Option Contents) → IsFed qs parts → ForSome cs (λ c. Acts parts parts' c qs cs' m.clock (settings_of i) m.time m.number o)
      → ForSome qs (λ q. AreAllFed q parts → ForSome o (λ d. HasPart (Some q) parts d.kind d.taken))
      → ForSome (told_of cs qs) (λ c. DoesBy job_step parts parts' c qs cs' was.setup was.clock was.history.items was.time o)
  acted_does parts' cs' fed acts asked c told = record {
    part = has_asked parts cs qs o c told fed asked;
    does = acted_where c (λ s st k. Steps job_step parts' cs' s st k o) (acts c (told_some cs qs c told).0);
  }

  pub acted_calls : (before after : Option (Call → ℕ)) → ForSome cs (λ c. WhereActed parts c qs m.clock (settings_of i) m.time m.number o (λ s st k. ForSome (job_step s st k) (λ (m : Effect). MakesCalls m.calls (failed_by o) before after)))
      → ForSome (told_of cs qs) (λ c. WhereDone parts c qs was.setup was.clock was.history.items was.time o (λ s st k. ForSome (job_step s st k) (λ (m : Effect). MakesCalls m.calls (failed_by o) before after)))
  acted_calls before after calls c told = acted_where c (λ s st k. ForSome (job_step s st k) (λ (m : Effect). MakesCalls m.calls (failed_by o) before after)) (calls c (told_some cs qs c told).0)

-- ---- whether a step is ready

pub ready_parts : {K : Type 0} (r : Result Bool NoMemory) (law : CountLaw) (m : Moment) (k : K) (parts : PartsView) (branch : Files) (was : Past) (owed : List OwedLine) (cs : Option Contents) (qs : Option StoredParts) (n : NodeView K)
    → seen k parts branch was owed ≡ n → m ≡ moment_in was → IsKept was.setup was.clock was.history.items parts branch owed (told_of cs qs)
    → IfOk r (λ b. (c : Contents) (s : SetUp) (st : State) (look : Look) → SeesParts parts c m.clock m.time m.number s st look → is_some (option_or (session_step s st look) (job_step s st look)) ≡ b)
    → {told : Option Contents} → told_of cs qs ≡ told
    → IfOk r (λ b. ForSome told (λ c. (s : SetUp) (look : Look) → MatchesSetup n.setup s → Looks n s look → is_some (option_or (session_step s (state_of s n.history) look) (job_step s (state_of s n.history) look)) ≡ b))
ready_parts {K} (Ok b) law m k parts branch was owed cs qs n view at kept ready {told} same = λ c known.
    subst (λ (x : NodeView K). (s : SetUp) (look : Look) → MatchesSetup x.setup s → Looks x s look → is_some (option_or (session_step s (state_of s x.history) look) (job_step s (state_of s x.history) look)) ≡ b) view
    (λ s look fits looks.
    let sees : SeesParts parts c (moment_in was).clock (moment_in was).time (moment_in was).number s (state_of s was.history.items) look =
    sees_parts law was.setup was.clock was.history.items parts branch owed (told_of cs qs) c was.time (vec_len was.history + 1) s look kept (same ∙ known) (ap (λ (x : ℕ). x + 1) was.history.ok.0) fits looks.paths looks.ends looks.time in
    ready c s (state_of s was.history.items) look (subst (λ (x : Moment). SeesParts parts c x.clock x.time x.number s (state_of s was.history.items) look) (sym at) sees))
ready_parts (Err e) law m k parts branch was owed cs qs n view at kept ready same = tt

-- ---- at the number of a past's next entry

pub leaves_at : (m : Moment) (was ready : Past) (parts parts' : PartsView) (o : Option Done) → m ≡ moment_in ready → SamePast was ready → LeavesSo m.number parts parts' o → LeavesSo (length was.history.items + 1) parts parts' o
leaves_at m was ready parts parts' o at same leaves = subst (λ (x : Moment). LeavesSo x.number parts parts' o) (at ∙ moment_same was ready same) leaves

pub posts_at : (m : Moment) (was ready : Past) (parts parts' : PartsView) (contents : Option Contents) (o : Option Done) → m ≡ moment_in ready → SamePast was ready → parts.jobs.place ≡ record { number = was.setup.number; ids = was.setup.repos }
    → ForSome o (λ d. PostsPieces (stamp_of m parts.jobs.place.number) d.kind parts contents parts'.links d.taken d.sent) → ForSome o (PostsIn was parts contents parts')
posts_at m was ready parts parts' contents o at same place posts d is =
    subst (λ (p : PlaceView). PostsPieces (record { time = was.time; count = was.count + 1; repo = p.number }) d.kind parts contents parts'.links d.taken d.sent) place
    (subst (λ (x : Moment). PostsPieces (stamp_of x parts.jobs.place.number) d.kind parts contents parts'.links d.taken d.sent) (at ∙ moment_same was ready same) (posts d is))
