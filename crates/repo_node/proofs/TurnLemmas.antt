-- A turn of a node, from its steps.
use Rattle.std.proofs.Common.{◌≡◌, ◌≢◌, ◌≤◌, arith, sym, ◌∙◌, ℕ, Bool, true, false, List, Option, Some, None, Result, Ok, Err, IfOk, OnErr, map, is_some, refl, ap, subst}
use Rattle.std.specs.Prelude.{nat_le}
use Rattle.std.specs.Option.{ForSome}
use Rattle.std.proofs.lemmas.Bool.{leb-true}
use Rattle.run_data.specs.Histories.{most_entries}
use Rattle.annex_base.specs.declared.kinds.Call.{Call}
use Rattle.annex_base.specs.declared.memory.NoMemory.{NoMemory}
use Rattle.run_data.specs.declared.entry.EntryKind.{EntryKind}
use Rattle.run_data.specs.declared.entry.FrameView.{FrameView}
use Rattle.object_store.specs.declared.keeper.HoldRecord.{HoldRecord}
use Rattle.object_store.specs.Stores.{Contents, Files as StoredFiles, Parts as StoredParts}
use Rattle.link_ring.specs.Ends.{EndView, after_drop}
use Rattle.node_ends.specs.Ends.{SeesEnds}
use Rattle.node_model.specs.Look.{Look, Effect}
use Rattle.node_model.specs.SetUp.{SetUp}
use Rattle.node_model.specs.Step.{step}
use Rattle.repo_node.specs.declared.turn.Turn.TheVariants as turns
use Rattle.node_steps.specs.Nodes.{MatchesSetup, NodeView, state_of}
use Rattle.node_steps.specs.Stepping.{AddsIf, MovesSo, NoStep, ReadySo}
use Rattle.node_past.specs.Stored.{StoreView, TellsSame}
use Rattle.node_steps.specs.Turning.{Adds, Finds, HasStep, IsIdle, Looks, StepsBy}
use Rattle.repo_node.specs.Turns.{turn_full, turn_made}

-- ---- a turn

abbrev pub dropped : {K : Type 0} → NodeView K → NodeView K
dropped n = record n { parts = record n.parts { links = map after_drop n.parts.links } }

abbrev pub DropLaw : Type 0
DropLaw = (links : List EndView) (s : SetUp) (k : Look) → SeesEnds links s k → SeesEnds (map after_drop links) s k

looks_dropped : {K : Type 0} (n : NodeView K) (s : SetUp) (k : Look) → DropLaw → Looks n s k → Looks (dropped n) s k
looks_dropped n s k law looks = record { ends = law n.parts.links s k looks.ends; time = looks.time; count = looks.count; paths = looks.paths }

finds_dropped : {K : Type 0} (known : Option StoredParts) (n : NodeView K) (kind : EntryKind) (taken : Option FrameView) (k : Look) → Finds known n kind taken k → Finds known (dropped n) kind taken k
finds_dropped known n kind taken k finds = record { fails = finds.fails; part = record { serving = finds.part.serving; acting = finds.part.acting }; words = finds.words }

turns_dropped : {K : Type 0} (before after : StoreView) (n m : NodeView K) → DropLaw → StepsBy step before after (dropped n) m → StepsBy step before after n m
turns_dropped before after n m law by = record {
  kind = by.kind;
  taken = by.taken;
  part = record { part = by.part.part; right = by.part.right; asked = record { serving = by.part.asked.serving; acting = by.part.asked.acting } };
  makes = λ s k fits looks finds.
      let it = by.makes s k fits (looks_dropped n s k law looks) (finds_dropped before.parts n by.kind by.taken k finds) in
      record { made = it.made; same = it.same; takes = it.takes; makes = it.makes; adds = it.adds; calls = it.calls };
}

-- by what the turn answers
pub where_moved : (P : Bool → Type 0) (r : Result Bool NoMemory) → turn_made r ≡ turns.Moved → IfOk r P → P true
where_moved P (Ok true) is p = p
where_moved P (Ok false) is p = absurd cc
where_moved P (Err e) is p = absurd cc

pub where_idle : (P : Bool → Type 0) (r : Result Bool NoMemory) → turn_made r ≡ turns.Idle → IfOk r P → P false
where_idle P (Ok true) is p = absurd cc
where_idle P (Ok false) is p = p
where_idle P (Err e) is p = absurd cc

pub where_full : (P : Bool → Type 0) (r : Result Bool NoMemory) → turn_full r ≡ turns.Full → IfOk r P → P true
where_full P (Ok true) is p = p
where_full P (Ok false) is p = absurd cc
where_full P (Err e) is p = absurd cc

pub full_idle : (P : Bool → Type 0) (r : Result Bool NoMemory) → turn_full r ≡ turns.Idle → IfOk r P → P false
full_idle P (Ok true) is p = absurd cc
full_idle P (Ok false) is p = p
full_idle P (Err e) is p = absurd cc

pub where_still : {K : Type 0} (r : Result Bool NoMemory) (links : List EndView) (before after : StoreView) (n m : NodeView K) → turn_made r ≢ turns.Moved → turn_made r ≢ turns.NoMemory → IfOk r (λ b. AddsIf b links before after n m) → m ≡ n
where_still (Ok true) links before after n m other short adds = absurd (other refl)
where_still (Ok false) links before after n m other short adds = adds
where_still (Err e) links before after n m other short adds = absurd (short refl)

pub where_short : {P : Type 0} (r : Result Bool NoMemory) → turn_made r ≡ turns.NoMemory → OnErr r P → P
where_short (Ok true) is said = absurd cc
where_short (Ok false) is said = absurd cc
where_short (Err e) is said = said

pub tells_same : {K : Type 0} (cs : K → Option Contents) (ps : K → Option StoredParts) (rs : K → Option (List HoldRecord)) (fs : K → Option StoredFiles) (ns : K → Option (Call → ℕ)) (k k' : K) → k' ≡ k
    → TellsSame (cs k) (cs k') (ps k) (ps k') (rs k) (rs k') (fs k) (fs k') (ns k) (ns k')
tells_same cs ps rs fs ns k k' same = record { contents = ap cs same; parts = ap ps same; records = ap rs same; files = ap fs same; failing = ap ns same }

pub turn_steps : {K : Type 0} (view : K → StoreView) (r : Result Bool NoMemory) (n n' m : NodeView K) (c : Contents) (told : Option Contents) → DropLaw → n' ≡ dropped n → turn_made r ≡ turns.Moved → told ≡ Some c
    → IfOk r (λ b. ForSome told (λ c. MovesSo b step (view n'.keeper) (view m.keeper) n' m)) → StepsBy step (view n.keeper) (view m.keeper) n m
turn_steps {K} view r n n' m c told law same is known moves =
    turns_dropped (view n.keeper) (view m.keeper) n m law
    (subst (λ (x : NodeView K). StepsBy step (view x.keeper) (view m.keeper) x m) same
    (where_moved (λ b. ForSome told (λ c. MovesSo b step (view n'.keeper) (view m.keeper) n' m)) r is moves c known))

-- what is added to the node without those frames is added to the node
adds_dropped : {K : Type 0} (before after : StoreView) (n m : NodeView K) → Adds (map after_drop n.parts.links) before after (dropped n) m → Adds (map after_drop n.parts.links) before after n m
adds_dropped before after n m adds = record {
  entry = adds.entry;
  history = adds.history;
  outcomes = adds.outcomes;
  time = adds.time;
  count = adds.count;
  repo = adds.repo;
  counted = adds.counted;
  at = adds.at;
  clock = adds.clock;
  setup = adds.setup;
  branch = adds.branch;
  ends = adds.ends;
  posts = adds.posts;
  jobs = adds.jobs;
  contents = adds.contents;
  parts = adds.parts;
  left = adds.left;
  cause = adds.cause;
}

pub turn_adds : {K : Type 0} (view : K → StoreView) (r : Result Bool NoMemory) (n n' m : NodeView K) → n' ≡ dropped n → turn_made r ≡ turns.Moved
    → IfOk r (λ b. AddsIf b n'.parts.links (view n'.keeper) (view m.keeper) n' m) → Adds (map after_drop n.parts.links) (view n.keeper) (view m.keeper) n m
turn_adds {K} view r n n' m same is adds =
    adds_dropped (view n.keeper) (view m.keeper) n m
    (subst (λ (x : NodeView K). Adds x.parts.links (view x.keeper) (view m.keeper) x m) same
    (where_moved (λ b. AddsIf b n'.parts.links (view n'.keeper) (view m.keeper) n' m) r is adds))

pub turn_idle : {K : Type 0} (r : Result Bool NoMemory) (before after : StoreView) (n n' m : NodeView K) (c : Contents) (told : Option Contents) → DropLaw → n' ≡ dropped n → turn_made r ≡ turns.Idle → told ≡ Some c
    → IfOk r (λ b. ForSome told (λ c. MovesSo b step before after n' m)) → (s : SetUp) → MatchesSetup n.setup s → IsIdle n s
turn_idle {K} r before after n n' m c told law same is known moves s fits k looks =
    (subst (λ (x : NodeView K). NoStep step x) same (where_idle (λ b. ForSome told (λ c. MovesSo b step before after n' m)) r is moves c known)) s k fits (looks_dropped n s k law looks)

none_is : (o : Option Effect) → is_some o ≡ false → o ≡ None
none_is None is = refl
none_is (Some m) is = absurd cc

pub full_idles : {K : Type 0} (r : Result Bool NoMemory) (n n' : NodeView K) (c : Contents) (told : Option Contents) → DropLaw → n' ≡ dropped n → turn_full r ≡ turns.Idle → told ≡ Some c → IfOk r (λ b. ForSome told (λ c. ReadySo b step n'))
    → (s : SetUp) → MatchesSetup n.setup s → IsIdle n s
full_idles {K} r n n' c told law same is known ready s fits k looks =
    none_is (step s (state_of s n.history) k) ((subst (λ (x : NodeView K). ReadySo false step x) same (full_idle (λ b. ForSome told (λ c. ReadySo b step n')) r is ready c known)) s k fits (looks_dropped n s k law looks))

pub full_steps : {K : Type 0} (r : Result Bool NoMemory) (n n' : NodeView K) (c : Contents) (told : Option Contents) → DropLaw → n' ≡ dropped n → turn_full r ≡ turns.Full → told ≡ Some c → IfOk r (λ b. ForSome told (λ c. ReadySo b step n'))
    → (s : SetUp) → MatchesSetup n.setup s → HasStep n s
full_steps {K} r n n' c told law same is known ready s fits k looks =
    (subst (λ (x : NodeView K). ReadySo true step x) same (where_full (λ b. ForSome told (λ c. ReadySo b step n')) r is ready c known)) s k fits (looks_dropped n s k law looks)

-- a history with no room has the most entries
pub full_so : (n m : ℕ) → nat_le most_entries n ≡ true → n ≤ most_entries → n ≡ m → m ≡ most_entries
full_so n m full few same = sym same ∙ equal n (leb-true most_entries n full) few
  where
    equal : (k : ℕ) → most_entries ≤ k → k ≤ most_entries → k ≡ most_entries
    equal k more less = omega (arith, more, less)
