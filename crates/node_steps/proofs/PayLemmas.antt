-- What a node writes of a line that is owed is what the step writes.
use Rattle.std.proofs.Common.{◌≡◌, ℕ, ◌+◌, true, false, List, [], ◌∷◌, ◌++◌, length, drop, Option, Some, None, Result, Ok, Err, OnOk, IfErr, is_some, refl, sym, ap, subst, ◌∙◌, inl, ◌<◌, arith}
use Rattle.annex_base.specs.declared.kinds.Call.{Call}
use Rattle.annex_base.specs.declared.kinds.Call.TheVariants.{PutFile}
use Rattle.object_store.specs.Stores.{Contents, Parts as StoredParts}
use Rattle.run_data.specs.declared.entry.Entry.{Entry}
use Rattle.run_data.specs.declared.entry.EntryKind.{EntryKind}
use Rattle.run_data.specs.declared.entry.EntryKind.TheVariants.{Log, Fault}
use Rattle.run_data.specs.declared.entry.LogFile.TheVariants.{Location}
use Rattle.node_model.specs.Look.{Look, Effect, entry_of, failed_in, failing_call, unless}
use Rattle.node_model.specs.OwedLines.{OwedLine, due}
use Rattle.node_model.specs.OwedStep.{owed_step, pays_first}
use Rattle.node_model.specs.SetUp.{SetUp}
use Rattle.node_model.specs.State.{State}
use Rattle.node_ledger.specs.Debts.{failed_put, with_status}
use Rattle.node_steps.specs.Nodes.{MatchesSetup, IsState, NodeView, state_of}
use Rattle.node_ledger.specs.Ledgers.{due_by, next_entry, with_entry}
use Rattle.node_past.specs.Owing.{is_owing}
use Rattle.node_ledger.specs.Refusals.{RefusesFor}
use Rattle.node_past.specs.declared.refused.NodeRefused.{NodeRefused}
use Rattle.node_past.specs.declared.refused.NodeRefused.TheVariants as refusals
use Rattle.node_steps.proofs.DueLemmas.{due_is}
use Rattle.std.specs.Prelude.{IfSome}
use Rattle.std.specs.Option.{option_map, option_map_or}
use Rattle.std.proofs.lemmas.List.{append-nil}
use Rattle.std.proofs.lemmas.Option.{same_Some}
use Rattle.annex_base.proofs.Options.{none_and_some}
use Rattle.annex_base.specs.Causes.{Rose}
use Rattle.annex_base.specs.declared.kinds.EntryStamp.{EntryStamp}
use Rattle.run_data.specs.declared.entry.FrameView.{FrameView}
use Rattle.run_data.specs.Histories.{most_entries}
use Rattle.link_ring.specs.Ends.{EndView}
use Rattle.content_lock.specs.CallsMade.{MakesCalls, fewer}
use Rattle.node_ends.specs.Ends.{link_at}
use Rattle.node_ends.specs.Going.{AreAfter}
use Rattle.node_model.specs.Ends.{EndName}
use Rattle.node_parts.specs.Answers.{contents_after}
use Rattle.node_parts.specs.Parts.{PartsView}
use Rattle.node_parts.specs.Posting.{PostsPieces, after_step}
use Rattle.node_parts.specs.Acting.{SeesPartAt as JobSeesPartAt}
use Rattle.node_parts.specs.Steps.{HasPart, job_acting}
use Rattle.node_parts.specs.Stored.{parts_after_work}
use Rattle.get_phases.specs.Gets.{SeesPart}
use Rattle.get_phases.specs.declared.getting.Phase.{Phase}
use Rattle.get_phases.specs.declared.getting.Phase.TheVariants as phases
use Rattle.node_parts.specs.Task.{Task}
use Rattle.node_parts.specs.Task.TheVariants as tasks
use Rattle.node_parts.specs.Tasks.{work_now}
use Rattle.node_parts.specs.Worker.{Worker}
use Rattle.node_parts.specs.Worker.TheVariants as workers
use Rattle.node_past.specs.declared.setup.Ended.{Ended}
use Rattle.node_past.specs.Calls.{Makes, StopsIn}
use Rattle.node_past.specs.Stored.{StoreView}
use Rattle.node_steps.specs.Turning.{Adds, StepsBy, branch_by, ended_by, stamp_then}

-- ---- a call that has made an entry

-- this is said of a call that has made an entry
abbrev pub WhereMade : Result (Unit {0}) NodeRefused → Type 0 → Type 0
WhereMade (Ok x) P = P
WhereMade (Err refusals.StoreFault) P = P
WhereMade (Err e) P = Unit {0}

-- the entry of this step, of the repository of this number at this look, was added to the history; the step writes a file
pub record AddsStep (step : Option Effect) (number : ℕ) (k : Look) (was now : List Entry) : Type 0 where
  pub made : Effect
  pub is : step ≡ Some made
  pub adds : now ≡ was ++ entry_of number k made ∷ []
  pub calls : made.calls ≡ PutFile ∷ []

-- the entry of the node is the entry of the step
entry_is : {K : Type 0} (n : NodeView K) (k : Look) (kind : EntryKind) (lines others : List (List ℕ)) → k.time ≡ n.time → k.count ≡ n.count + 1 → others ≡ lines
    → next_entry n kind lines ≡ entry_of n.setup.number k (record { kind = kind; taken = None; sent = []; lines = others; calls = PutFile ∷ [] })
entry_is n k kind lines others time count same =
    ap (λ (t : ℕ). made t (n.count + 1) lines) (sym time) ∙ ap (λ (c : ℕ). made k.time c lines) (sym count) ∙ ap (λ (w : List (List ℕ)). made k.time k.count w) (sym same)
  where
    made : ℕ → ℕ → List (List ℕ) → Entry
    made time count lines = record { time = time; count = count; repo = Some n.setup.number; kind = kind; taken = None; sent = []; lines = lines }

history_is : {K : Type 0} (n m : NodeView K) (k : Look) (kind : EntryKind) (lines others : List (List ℕ)) → k.time ≡ n.time → k.count ≡ n.count + 1 → others ≡ lines
    → m.history ≡ n.history ++ next_entry n kind lines ∷ []
    → m.history ≡ n.history ++ entry_of n.setup.number k (record { kind = kind; taken = None; sent = []; lines = others; calls = PutFile ∷ [] }) ∷ []
history_is n m k kind lines others time count same adds = adds ∙ ap (λ (e : Entry). n.history ++ e ∷ []) (entry_is n k kind lines others time count same)

pub step_made : {K : Type 0} (r : Result (Unit {0}) NodeRefused) (n m : NodeView K) (s : SetUp) (k : Look) (known : Option Contents) (o : OwedLine) (os : List OwedLine)
    → MatchesSetup n.setup s → IsState s n.parts n.branch n.owed known (state_of s n.history) → k.time ≡ n.time → k.count ≡ n.count + 1 → failing_call k.fails (PutFile ∷ []) ≡ failed_put r
    → OnOk r (m ≡ with_status n m.keeper o.key o.repo o.there) → IfErr r (λ e. RefusesFor o.by e PutFile n m)
    → WhereMade r (AddsStep (pays_first s (state_of s n.history) k (o ∷ os)) n.setup.number k n.history m.history)
step_made {K} (Ok x) n m s k known o os fits is time count fails ok err = record {
  made = paid;
  is = ap (λ (f : Option Call). Some (unless f fault paid)) fails;
  adds = history_is n m k (Log (Location o.key)) (due_by n o.key o.repo o.there) paid.lines time count due_same (ap (λ (v : NodeView K). v.history) ok);
  calls = refl;
}
  where
    st : State
    st = state_of s n.history

    fault : Call → Effect
    fault call = record { kind = Fault call o.by; taken = None; sent = []; lines = []; calls = PutFile ∷ [] }

    paid : Effect
    paid = record { kind = Log (Location o.key); taken = None; sent = []; lines = due s.repos st.lines (st.wall k.time) o; calls = PutFile ∷ [] }

    due_same : paid.lines ≡ due_by n o.key o.repo o.there
    due_same = ap (λ (t : ℕ). due s.repos st.lines (st.wall t) o) time ∙ due_is n s known o fits is
step_made {K} (Err refusals.StoreFault) n m s k known o os fits is time count fails ok err = record {
  made = fault PutFile;
  is = ap (λ (f : Option Call). Some (unless f fault paid)) fails;
  adds = history_is n m k (Fault PutFile o.by) [] [] time count refl (ap (λ (v : NodeView K). v.history) err);
  calls = refl;
}
  where
    st : State
    st = state_of s n.history

    fault : Call → Effect
    fault call = record { kind = Fault call o.by; taken = None; sent = []; lines = []; calls = PutFile ∷ [] }

    paid : Effect
    paid = record { kind = Log (Location o.key); taken = None; sent = []; lines = due s.repos st.lines (st.wall k.time) o; calls = PutFile ∷ [] }
step_made (Err refusals.Full) n m s k known o os fits is time count fails ok err = tt
step_made (Err (refusals.BadBundle at)) n m s k known o os fits is time count fails ok err = tt
step_made (Err refusals.NoMemory) n m s k known o os fits is time count fails ok err = tt

-- ---- the first line

-- the first of the lines that are owed
pub owing_first : (os : List OwedLine) → is_owing os ≡ true → (o : OwedLine) × (os ≡ o ∷ drop 1 os)
owing_first [] owes = absurd cc
owing_first (o ∷ os) owes = (o, refl)

-- two lists with one more entry each: the entries are the same
one_more : (e e' : Entry) → e ∷ [] ≡ e' ∷ [] → e ≡ e'
one_more e e' is = cc

tail_same : (x y : Entry) (xs ys : List Entry) → x ∷ xs ≡ y ∷ ys → xs ≡ ys
tail_same x y xs ys is = cc

last_same : (h : List Entry) (e e' : Entry) → h ++ e ∷ [] ≡ h ++ e' ∷ [] → e ≡ e'
last_same [] e e' is = one_more e e' is
last_same (x ∷ h) e e' is = last_same h e e' (tail_same x x (h ++ e ∷ []) (h ++ e' ∷ []) is)

-- ---- what is added

-- no frame comes or goes
abbrev pub StayLaw : Type 0
StayLaw = (links : List EndView) → AreAfter links links None []

none_taken : {P : Type 0} (f : FrameView) → None ≡ Some f → P
none_taken f is = absurd cc

same_link : (sender : EntryStamp) (kind : EntryKind) (a : EndName) (o : Option EndView) → o ≡ option_map (after_step sender kind a None []) o
same_link sender kind a None = refl
same_link sender kind a (Some v) = refl

posts_none : (sender : EntryStamp) (kind : EntryKind) (parts : PartsView) (contents : Option Contents) → PostsPieces sender kind parts contents parts.links None []
posts_none sender kind parts contents = record {
  posts = record {
    count = refl;
    took = λ a f is. none_taken f is;
    said = λ a. [];
    listed = λ a. refl;
    links = λ a. same_link sender kind a (link_at parts.links a);
  };
  pieces = λ a bytes there. absurd there;
  senders = λ a bytes there client. absurd there;
}

-- where no frame came, no part changes
none_grows : (o : Option Task) (kind : EntryKind) (known : Option StoredParts) → option_map_or (λ (t : Task). parts_after_work (work_now t) None [] kind known) o known ≡ known
none_grows None kind known = refl
none_grows (Some t) kind known = refl

-- the contents and the parts stay, and as many calls are still to fail, but for one that failed
pub record StaysStored (before after : StoreView) (failed : Option Call) : Type 0 where
  pub contents : after.contents ≡ before.contents
  pub parts : after.parts ≡ before.parts
  pub left : after.failing ≡ option_map (fewer failed) before.failing

adds_quiet : {K : Type 0} (law : StayLaw) (n m : NodeView K) (kind : EntryKind) (lines : List (List ℕ)) (before after : StoreView)
    → m.setup ≡ n.setup → m.time ≡ n.time → m.clock ≡ n.clock → m.count ≡ n.count + 1 → m.history ≡ n.history ++ next_entry n kind lines ∷ [] → m.outcomes ≡ n.outcomes → m.branch ≡ branch_by n.branch kind lines → m.parts ≡ n.parts → ended_by kind (length n.history) ≡ []
    → contents_after before.contents before.parts kind ≡ before.contents → StaysStored before after (failed_in kind) → IfSome (failed_in kind) (λ call. Rose before.faults after.faults) → Adds n.parts.links before after n m
adds_quiet law n m kind lines before after setup time clock count history outcomes branch parts none still stored cause = record {
  entry = next_entry n kind lines;
  history = history;
  outcomes = outcomes ∙ sym (append-nil n.outcomes) ∙ ap (λ (x : List Ended). n.outcomes ++ x) (sym none);
  time = refl;
  count = refl;
  repo = refl;
  counted = count;
  at = time;
  clock = clock;
  setup = setup;
  branch = branch;
  ends = subst (λ (p : PartsView). AreAfter n.parts.links p.links None []) (sym parts) (law n.parts.links);
  posts = subst (λ (p : PartsView). PostsPieces (stamp_then n) kind n.parts before.contents p.links None []) (sym parts) (posts_none (stamp_then n) kind n.parts before.contents);
  jobs = inl (ap (λ (p : PartsView). p.jobs) parts);
  contents = stored.contents ∙ sym still;
  parts = stored.parts ∙ sym (none_grows (job_acting n.parts kind) kind before.parts);
  left = stored.left;
  cause = cause;
}

pub adds_paid : {K : Type 0} (law : StayLaw) (n m : NodeView K) (o : OwedLine) (before after : StoreView) → m ≡ with_status n m.keeper o.key o.repo o.there → StaysStored before after None → Adds n.parts.links before after n m
adds_paid {K} law n m o before after is stored = adds_quiet law n m (Log (Location o.key)) (due_by n o.key o.repo o.there) before after (ap (λ (x : NodeView K). x.setup) is) (ap (λ (x : NodeView K). x.time) is) (ap (λ (x : NodeView K). x.clock) is) (ap (λ (x : NodeView K). x.count) is) (ap (λ (x : NodeView K). x.history) is)
    (ap (λ (x : NodeView K). x.outcomes) is) (ap (λ (x : NodeView K). x.branch) is) (ap (λ (x : NodeView K). x.parts) is) refl refl stored tt

pub adds_failed : {K : Type 0} (law : StayLaw) (n m : NodeView K) (o : OwedLine) (before after : StoreView) → m ≡ with_entry n m.keeper n.branch (Fault PutFile o.by) [] → StaysStored before after (Some PutFile) → Rose before.faults after.faults → Adds n.parts.links before after n m
adds_failed {K} law n m o before after is stored rose = adds_quiet law n m (Fault PutFile o.by) [] before after (ap (λ (x : NodeView K). x.setup) is) (ap (λ (x : NodeView K). x.time) is) (ap (λ (x : NodeView K). x.clock) is) (ap (λ (x : NodeView K). x.count) is) (ap (λ (x : NodeView K). x.history) is)
    (ap (λ (x : NodeView K). x.outcomes) is) (ap (λ (x : NodeView K). x.branch) is) (ap (λ (x : NodeView K). x.parts) is) refl refl stored rose

-- ---- the part that a look finds

-- where no frame came, a get asks for the size of its part alone
get_sees : (q : StoredParts) (key : List ℕ) (phase : Phase) → SeesPart (Some q) key phase None (length (q key)) false
get_sees q key (phases.Word peer start taken) = refl
get_sees q key _ = refl

abbrev size_by : StoredParts → Worker → ℕ
size_by q (workers.Gets w) = length (q w.job.key)
size_by q w = 0

abbrev size_of : StoredParts → Task → ℕ
size_of q (tasks.Transfers w) = size_by q w.worker
size_of q t = 0

worker_sees : (q : StoredParts) (v : Worker) (paths : List (List ℕ)) → JobSeesPartAt (Some q) (tasks.Transfers (record { worker = v; paths = paths })) None (size_by q v) false
worker_sees q (workers.Gets w) paths = get_sees q w.job.key w.phase
worker_sees q (workers.Puts w) paths = tt

task_sees : (q : StoredParts) (t : Task) → JobSeesPartAt (Some q) t None (size_of q t) false
task_sees q (tasks.Drops j) = tt
task_sees q (tasks.Transfers w) = worker_sees q w.worker w.paths

has_size : (q : StoredParts) (p : PartsView) (kind : EntryKind) → HasPart (Some q) p kind None
has_size q p kind = go (job_acting p kind) refl
  where
    go : (o : Option Task) → job_acting p kind ≡ o → HasPart (Some q) p kind None
    go None none = record { part = 0; right = false; asked = record { serving = tt; acting = λ t acts. absurd (none_and_some (job_acting p kind) t none acts) } }
    go (Some t) some = record {
      part = size_of q t;
      right = false;
      asked = record { serving = tt; acting = λ u acts. subst (λ (v : Task). JobSeesPartAt (Some q) v None (size_of q t) false) (same_Some t u (sym some ∙ acts)) (task_sees q t) };
    }

-- a store that tells its parts has such a part
has_told : (known : Option StoredParts) (p : PartsView) (kind : EntryKind) → is_some known ≡ true → HasPart known p kind None
has_told None p kind told = absurd cc
has_told (Some q) p kind told = has_size q p kind

-- ---- the step

steps_by : {K : Type 0} (r : Result (Unit {0}) NodeRefused) (n m : NodeView K) (kind : EntryKind) (lines : List (List ℕ)) (before after : StoreView) → is_some before.parts ≡ true → m.history ≡ n.history ++ next_entry n kind lines ∷ [] → failing_call (failed_in kind) (PutFile ∷ []) ≡ failed_put r
    → ((s : SetUp) (k : Look) → MatchesSetup n.setup s → k.time ≡ n.time → k.count ≡ n.count + 1 → failing_call k.fails (PutFile ∷ []) ≡ failed_put r → AddsStep (owed_step s (state_of s n.history) k) n.setup.number k n.history m.history)
    → MakesCalls (PutFile ∷ []) (failed_in kind) before.failing after.failing → StepsBy owed_step before after n m
steps_by r n m kind lines before after told history fault pays calls = record {
  kind = kind;
  taken = None;
  part = has_told before.parts n.parts kind told;
  makes = λ s k fits looks finds.
      let it = pays s k fits looks.time looks.count (ap (λ (o : Option Call). failing_call o (PutFile ∷ [])) finds.fails ∙ fault) in
      let last = last_same n.history (next_entry n kind lines) (entry_of n.setup.number k it.made) (sym history ∙ it.adds) in
      record {
        made = it.made;
        same = sym (ap (λ (e : Entry). e.kind) last);
        takes = sym (ap (λ (e : Entry). e.taken) last);
        makes = it.is;
        adds = it.adds ∙ ap (λ (r : ℕ). n.history ++ entry_of r k it.made ∷ []) (sym fits.number);
        calls = subst (λ (cs : List Call). MakesCalls cs (failed_in kind) before.failing after.failing) (sym it.calls) calls;
      };
}

pub steps_paid : {K : Type 0} (x : Unit {0}) (n m : NodeView K) (o : OwedLine) (before after : StoreView) → is_some before.parts ≡ true → m ≡ with_status n m.keeper o.key o.repo o.there
    → ((s : SetUp) (k : Look) → MatchesSetup n.setup s → k.time ≡ n.time → k.count ≡ n.count + 1 → failing_call k.fails (PutFile ∷ []) ≡ failed_put (Ok x) → AddsStep (owed_step s (state_of s n.history) k) n.setup.number k n.history m.history)
    → Makes (PutFile ∷ []) PutFile (Ok x) before.failing after.failing → StepsBy owed_step before after n m
steps_paid {K} x n m o before after told is pays puts = steps_by (Ok x) n m (Log (Location o.key)) (due_by n o.key o.repo o.there) before after told (ap (λ (v : NodeView K). v.history) is) refl pays puts

pub steps_failed : {K : Type 0} (n m : NodeView K) (o : OwedLine) (before after : StoreView) → is_some before.parts ≡ true → m ≡ with_entry n m.keeper n.branch (Fault PutFile o.by) []
    → ((s : SetUp) (k : Look) → MatchesSetup n.setup s → k.time ≡ n.time → k.count ≡ n.count + 1 → failing_call k.fails (PutFile ∷ []) ≡ failed_put (Err refusals.StoreFault) → AddsStep (owed_step s (state_of s n.history) k) n.setup.number k n.history m.history)
    → StopsIn (PutFile ∷ []) PutFile refusals.StoreFault before.failing after.failing → StepsBy owed_step before after n m
steps_failed {K} n m o before after told is pays puts = steps_by (Err refusals.StoreFault) n m (Fault PutFile o.by) [] before after told (ap (λ (v : NodeView K). v.history) is) refl pays puts

-- of a call that wrote the file, or failed to
pub put_left : (before after : StoreView) → after.contents ≡ before.contents → after.parts ≡ before.parts → Makes {X = Unit {0}} (PutFile ∷ []) PutFile (Ok tt) before.failing after.failing → StaysStored before after None
put_left before after contents parts puts = record { contents = contents; parts = parts; left = puts.left }

fault_left : (e : NodeRefused) (before after : StoreView) → e ≡ refusals.StoreFault → after.contents ≡ before.contents → after.parts ≡ before.parts → StopsIn (PutFile ∷ []) PutFile e before.failing after.failing → StaysStored before after (Some PutFile)
fault_left refusals.Full before after is contents parts puts = absurd cc
fault_left refusals.StoreFault before after is contents parts puts = record { contents = contents; parts = parts; left = puts.left }
fault_left (refusals.BadBundle at) before after is contents parts puts = absurd cc
fault_left refusals.NoMemory before after is contents parts puts = absurd cc

-- any other refusal leaves what is to fail
pub failing_same : (e : NodeRefused) (before after : Option (Call → ℕ)) → (e ≡ refusals.StoreFault → ⊥) → StopsIn (PutFile ∷ []) PutFile e before after → after ≡ before
failing_same refusals.Full before after other puts = puts
failing_same refusals.StoreFault before after other puts = absurd (other refl)
failing_same (refusals.BadBundle at) before after other puts = puts
failing_same refusals.NoMemory before after other puts = puts

-- ---- by the refusal

pub refused_same : {K : Type 0} (e : NodeRefused) (n m : NodeView K) (o : OwedLine) → (e ≡ refusals.StoreFault → ⊥) → RefusesFor o.by e PutFile n m → m ≡ record n { keeper = m.keeper }
refused_same refusals.Full n m o other refuses = refuses.0
refused_same refusals.StoreFault n m o other refuses = absurd (other refl)
refused_same (refusals.BadBundle at) n m o other refuses = absurd refuses
refused_same refusals.NoMemory n m o other refuses = refuses

-- the line is never refused as no bundle
pub no_bundle : {K : Type 0} (e : NodeRefused) (at : ℕ) (n m : NodeView K) (o : OwedLine) → e ≡ refusals.BadBundle at → RefusesFor o.by e PutFile n m → ⊥
no_bundle refusals.Full at n m o is refuses = absurd cc
no_bundle refusals.StoreFault at n m o is refuses = absurd cc
no_bundle (refusals.BadBundle place) at n m o is refuses = refuses
no_bundle refusals.NoMemory at n m o is refuses = absurd cc

-- nor for a full history, where it has room
pub no_full : {K : Type 0} (e : NodeRefused) (n m : NodeView K) (o : OwedLine) → e ≡ refusals.Full → RefusesFor o.by e PutFile n m → length n.history < most_entries → ⊥
no_full refusals.Full n m o is refuses room = omega (arith, refuses.1, room)
no_full refusals.StoreFault n m o is refuses room = absurd cc
no_full (refusals.BadBundle at) n m o is refuses room = absurd cc
no_full refusals.NoMemory n m o is refuses room = absurd cc

fault_is : {K : Type 0} (e : NodeRefused) (n m : NodeView K) (o : OwedLine) → e ≡ refusals.StoreFault → RefusesFor o.by e PutFile n m → m ≡ with_entry n m.keeper n.branch (Fault PutFile o.by) []
fault_is refusals.Full n m o is refuses = absurd cc
fault_is refusals.StoreFault n m o is refuses = refuses
fault_is (refusals.BadBundle at) n m o is refuses = absurd cc
fault_is refusals.NoMemory n m o is refuses = absurd cc

pub fault_parts : {K : Type 0} (e : NodeRefused) (n m : NodeView K) (o : OwedLine) → e ≡ refusals.StoreFault → RefusesFor o.by e PutFile n m → m.parts ≡ n.parts
fault_parts {K} e n m o is refuses = ap (λ (v : NodeView K). v.parts) (fault_is e n m o is refuses)

pub fault_adds : {K : Type 0} (law : StayLaw) (e : NodeRefused) (n m : NodeView K) (o : OwedLine) (before after : StoreView) → e ≡ refusals.StoreFault → RefusesFor o.by e PutFile n m
    → after.contents ≡ before.contents → after.parts ≡ before.parts → StopsIn (PutFile ∷ []) PutFile e before.failing after.failing → Rose before.faults after.faults → Adds n.parts.links before after n m
fault_adds law e n m o before after is refuses contents parts puts rose = adds_failed law n m o before after (fault_is e n m o is refuses) (fault_left e before after is contents parts puts) rose

pub fault_steps : {K : Type 0} (e : NodeRefused) (n m : NodeView K) (o : OwedLine) (before after : StoreView) → is_some before.parts ≡ true → e ≡ refusals.StoreFault → RefusesFor o.by e PutFile n m
    → ((s : SetUp) (k : Look) → MatchesSetup n.setup s → k.time ≡ n.time → k.count ≡ n.count + 1 → failing_call k.fails (PutFile ∷ []) ≡ failed_put (Err e) → WhereMade (Err e) (AddsStep (owed_step s (state_of s n.history) k) n.setup.number k n.history m.history))
    → StopsIn (PutFile ∷ []) PutFile e before.failing after.failing → StepsBy owed_step before after n m
fault_steps refusals.Full n m o before after told is refuses pays puts = absurd cc
fault_steps refusals.StoreFault n m o before after told is refuses pays puts = steps_failed n m o before after told refuses pays puts
fault_steps (refusals.BadBundle at) n m o before after told is refuses pays puts = absurd cc
fault_steps refusals.NoMemory n m o before after told is refuses pays puts = absurd cc

pub memory_fault : (e : NodeRefused) → e ≡ refusals.NoMemory → e ≡ refusals.StoreFault → ⊥
memory_fault e is other = absurd cc

-- the same, of the step of the state, where this is the first line that is owed
pub pays_so : {K : Type 0} (r : Result (Unit {0}) NodeRefused) (n m : NodeView K) (o : OwedLine) (os : List OwedLine) (known : Option Contents) → ((s : SetUp) → MatchesSetup n.setup s → IsState s n.parts n.branch n.owed known (state_of s n.history)) → n.owed ≡ o ∷ os
    → OnOk r (m ≡ with_status n m.keeper o.key o.repo o.there) → IfErr r (λ e. RefusesFor o.by e PutFile n m)
    → (c : Contents) → known ≡ Some c → (s : SetUp) (k : Look) → MatchesSetup n.setup s → k.time ≡ n.time → k.count ≡ n.count + 1 → failing_call k.fails (PutFile ∷ []) ≡ failed_put r
    → WhereMade r (AddsStep (owed_step s (state_of s n.history) k) n.setup.number k n.history m.history)
pays_so {K} r n m o os known state first ok err c told s k fits time count fails =
    let is = state s fits in
    subst (λ (xs : List OwedLine). WhereMade r (AddsStep (pays_first s (state_of s n.history) k xs) n.setup.number k n.history m.history)) (sym ((is.stands c told).owed_are ∙ first))
    (step_made r n m s k known o os fits is time count fails ok err)
