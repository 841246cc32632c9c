-- What a turn leaves of a node is what the driver says after its own turn.
use Rattle.std.proofs.Common.{◌≡◌, ◌⊎◌, inl, inr, ℕ, ◌+◌, Bool, true, false, List, [], ◌∷◌, ◌++◌, length, map, Option, Some, None, refl, sym, ap, ◌∙◌, subst, arith}
use Rattle.std.specs.Prelude.{drop, filter, find, if◌then◌else◌, reverse}
use Rattle.std.specs.Option.{option_map, option_map_or}
use Rattle.std.proofs.lemmas.Bool.Decides.{nat_tests}
use Rattle.std.proofs.lemmas.Option.{same_Some}
use Rattle.annex_base.specs.Lists.{Each, Member}
use Rattle.annex_base.proofs.Conditions.{eqb_refl}
use Rattle.object_store.specs.Stores.{Parts}
use Rattle.link_ring.specs.Ends.{EndView, after_drop}
use Rattle.run_data.specs.declared.entry.By.TheVariants.{Peer}
use Rattle.run_data.specs.declared.entry.Entry.{Entry}
use Rattle.run_data.specs.declared.entry.EntryKind.{EntryKind}
use Rattle.run_data.specs.declared.entry.EntryKind.TheVariants as kinds
use Rattle.run_data.specs.declared.entry.FrameText.TheVariants.{Bytes}
use Rattle.run_data.specs.declared.entry.FrameView.{FrameView}
use Rattle.union_merge.specs.Branch.{Files}
use Rattle.run_model.specs.Logs.{branch, branch_after}
use Rattle.run_model.specs.Past.{is_of, now}
use Rattle.node_model.specs.After.{AgreesAtDrops}
use Rattle.node_model.specs.Ends.{server_end, taken_at, takes_at}
use Rattle.node_model.specs.Found.{ByJob, ByOwed, BySession, IsJobEntry, JobTakes, IsSessionEntry, StepFound}
use Rattle.node_model.specs.Jobs as models
use Rattle.node_model.specs.Jobs.{Drops, Gets, Part, Work, job_end}
use Rattle.node_model.specs.JobStep.{turn_of}
use Rattle.node_model.specs.Look.{Look, Effect, entry_of, failed_in}
use Rattle.node_model.specs.Rows.{same_owner}
use Rattle.node_model.specs.Sessions as sessions
use Rattle.node_model.specs.SessionStep.{here}
use Rattle.node_model.specs.SetUp.{SetUp, served_connections}
use Rattle.node_model.specs.State.{State}
use Rattle.drop_phases.specs.declared.phase.Phase.{Phase}
use Rattle.drop_phases.specs.declared.phase.Phase.TheVariants as phases
use Rattle.drop_phases.specs.Working.{phase_as}
use Rattle.get_phases.specs.Gets as gets
use Rattle.get_phases.specs.declared.getting.Phase.{Phase as GetPhase}
use Rattle.get_phases.specs.declared.getting.Phase.TheVariants as getting
use Rattle.put_steps.specs.Puts as puts
use Rattle.put_steps.specs.declared.phase.Phase.{Phase as PutPhase}
use Rattle.put_steps.specs.declared.phase.Phase.TheVariants as offers
use Rattle.joined_nodes.specs.Worker.{Worker}
use Rattle.joined_nodes.specs.Worker.TheVariants as workers
use Rattle.joined_nodes.specs.Workers.{work_of}
use Rattle.joined_nodes.specs.Task.{Task}
use Rattle.joined_nodes.specs.Task.TheVariants as tasks
use Rattle.joined_nodes.specs.Tasks.{work_now}
use Rattle.p2p_server.specs.declared.session.Session.{Session}
use Rattle.p2p_server.specs.Talking.{place_of, session_of}
use Rattle.node_ends.specs.Ends.{link_at}
use Rattle.node_sessions.specs.Sessions.{AreSessions, connection_of, end_of, owner_of}
use Rattle.joined_nodes.specs.Parts.{AreParts, PartsView}
use Rattle.p2p_server.specs.Answers.{contents_after}
use Rattle.node_sessions.specs.Stored.{parts_after_frame, parts_after_taken}
use Rattle.joined_nodes.specs.Steps.{job_acting, session_asked}
use Rattle.joined_nodes.specs.PartStored.{parts_after_step, parts_after_work}
use Rattle.driver_model.specs.Driver.{Driver, DriverInput, adds, end_to, newest_count, set_up_of, state_at}
use Rattle.driver_model.specs.Finding.{after_step, driver_at_turn}
use Rattle.driver_model.specs.Turning as turning
use Rattle.driver_model.specs.Turning.{plain_look}
use Rattle.link_flights.specs.Flights.{HasAtHand}
use Rattle.run_laws.specs.Jobs.{AreJobs}
use Rattle.content_lock.specs.CallsMade.{fewer}
use Rattle.joined_nodes.specs.Nodes as nodes
use Rattle.joined_nodes.specs.Nodes.{NodeView}
use Rattle.joined_nodes.specs.Stored.{StoreView}
use Rattle.joined_nodes.specs.Turning.{Adds, branch_by, done_in}
use Rattle.fleet_model.specs.StepStored.{parts_of_job, parts_of_session, parts_of_step}
use Rattle.fleet_model.proofs.Asking.{asked_is}
use Rattle.fleet_model.proofs.BytesTaken.{taken_bytes, taken_long}
use Rattle.fleet_model.proofs.EndsThere.{takes_own}
use Rattle.fleet_model.proofs.JobTakes.{to_client}
use Rattle.fleet_model.proofs.Looking.{TurnMade}
use Rattle.fleet_model.proofs.Noting.{IsRaised, own_more}
use Rattle.fleet_model.proofs.StepFinds as finds
use Rattle.fleet_model.proofs.StepOrigins.{to_server}
use Rattle.fleet_model.proofs.TurnStore.{store_changes, step_stored}
use Rattle.fleet_model.proofs.Working.{IsFit, is_judging, work_of_acting}

-- ---- the works of a node

never_judges : (p : Phase) → is_judging (phase_as p) ≡ false
never_judges phases.Fresh = refl
never_judges phases.Next = refl
never_judges (phases.Opens peer) = refl
never_judges (phases.Greets peer) = refl
never_judges (phases.AsksLock peer since) = refl
never_judges (phases.AsksLook peer) = refl
never_judges phases.AsksTime = refl
never_judges phases.Orders = refl
never_judges phases.Removed = refl
never_judges phases.Denied = refl
never_judges (phases.Late time) = refl
never_judges (phases.Ends why) = refl

never_judges_put : (p : PutPhase) → is_judging (puts.phase_of p) ≡ false
never_judges_put offers.Fresh = refl
never_judges_put (offers.Opens peer) = refl
never_judges_put (offers.Greets peer) = refl
never_judges_put (offers.Offer peer) = refl
never_judges_put (offers.Bytes s) = refl
never_judges_put (offers.Word peer start) = refl
never_judges_put (offers.Answer peer start) = refl
never_judges_put (offers.Ends why) = refl
never_judges_put offers.Done = refl

judges_get : (p : GetPhase) → is_judging (gets.phase_of p) ≡ true → gets.part_of p ≡ Gets
judges_get getting.Done e = absurd (cc)
judges_get p e = refl

fit_unless : (phase : models.Phase) (part : Part) → is_judging phase ≡ false → is_judging phase ≡ true → part ≡ Gets
fit_unless phase part never e = absurd (let both : false ≡ true = sym never ∙ e in cc)

worker_fits : (v : Worker) (paths : List (List ℕ)) → IsFit (work_of (record { worker = v; paths = paths }))
worker_fits (workers.Gets w) paths = judges_get w.phase
worker_fits (workers.Puts w) paths = fit_unless (puts.phase_of w.phase) (puts.part_of w.phase) (never_judges_put w.phase)

fits : (t : Task) → IsFit (work_now t)
fits (tasks.Drops j) = fit_unless (phase_as j.worker.phase) Drops (never_judges j.worker.phase)
fits (tasks.Transfers w) = worker_fits w.worker w.paths

all_fit : (ts : List Task) → Each IsFit (map work_now ts)
all_fit [] = tt
all_fit (t ∷ ts) = (fits t, all_fit ts)

-- ---- the branch

-- no step compacts, or is a crash
abbrev pub is_scripted : EntryKind → Bool
is_scripted (kinds.Compact file) = true
is_scripted (kinds.Crash clock) = true
is_scripted kind = false

no_session_makes : (s : SetUp) (st : State) (k : Look) (m : Effect) → BySession s st k m → (kind : EntryKind) → is_scripted kind ≡ true → m.kind ≡ kind → ⊥
no_session_makes s st k m x (kinds.Compact file) scripted e =
    subst (λ (kind : EntryKind). IsSessionEntry (here s st k (server_end x.peer x.slot)) (st.sessions (server_end x.peer x.slot)).doing x.asked x.says kind) e x.found
no_session_makes s st k m x (kinds.Crash clock) scripted e =
    subst (λ (kind : EntryKind). IsSessionEntry (here s st k (server_end x.peer x.slot)) (st.sessions (server_end x.peer x.slot)).doing x.asked x.says kind) e x.found
no_session_makes s st k m x kind scripted e = absurd (cc)

no_job_makes : (s : SetUp) (st : State) (k : Look) (m : Effect) → ByJob s st k m → (kind : EntryKind) → is_scripted kind ≡ true → m.kind ≡ kind → ⊥
no_job_makes s st k m x (kinds.Compact file) scripted e = subst (λ (kind : EntryKind). IsJobEntry (turn_of s st k x.w) m kind) e x.found
no_job_makes s st k m x (kinds.Crash clock) scripted e = subst (λ (kind : EntryKind). IsJobEntry (turn_of s st k x.w) m kind) e x.found
no_job_makes s st k m x kind scripted e = absurd (cc)

no_owed_makes : (s : SetUp) (st : State) (k : Look) (m : Effect) → ByOwed s st k m → (kind : EntryKind) → is_scripted kind ≡ true → m.kind ≡ kind → ⊥
no_owed_makes s st k m x kind scripted e = elim (x.writes) [
  | inl w ↦ clash (ap is_scripted (sym (ap (λ (y : Effect). y.kind) w) ∙ e) ∙ scripted)
  | inr w ↦ clash (ap is_scripted (sym (ap (λ (y : Effect). y.kind) w) ∙ e) ∙ scripted)
]
  where
    clash : false ≡ true → ⊥
    clash e = cc

pub no_step_makes : (s : SetUp) (st : State) (k : Look) (m : Effect) → StepFound s st k m → (kind : EntryKind) → is_scripted kind ≡ true → m.kind ≡ kind → ⊥
no_step_makes s st k m (inl x) kind scripted e = no_owed_makes s st k m x kind scripted e
no_step_makes s st k m (inr (inl x)) kind scripted e = no_session_makes s st k m x kind scripted e
no_step_makes s st k m (inr (inr x)) kind scripted e = no_job_makes s st k m x kind scripted e

pub branch_alike : (b : Files) (kind : EntryKind) (lines : List (List ℕ)) → ((file : _) → kind ≡ kinds.Compact file → ⊥) → branch_by b kind lines ≡ branch_after b kind lines
branch_alike b (kinds.Log file) lines never = refl
branch_alike b (kinds.Compact file) lines never = absurd (never file refl)
branch_alike b kind lines never = refl

-- ---- the parts

-- a frame of a client comes to a session of s
pub served_to : (s : SetUp) (st : State) (k : Look) (m : Effect) (f : FrameView) → StepFound s st k m → m.taken ≡ Some f → f.up ≡ true → Member (f.peer, f.slot) (served_connections s)
served_to s st k m f (inl o) taken up = elim (o.writes) [
  | inl w ↦ absurd (let none : None ≡ Some f = sym (ap (λ (y : Effect). y.taken) w) ∙ taken in cc)
  | inr w ↦ absurd (let none : None ≡ Some f = sym (ap (λ (y : Effect). y.taken) w) ∙ taken in cc)
]
served_to s st k m f (inr (inl x)) taken up = elim (x.frame) [
  | inl t ↦
      let same : t.f ≡ f = same_Some t.f f (sym t.taken_is ∙ taken) in
      let at : server_end x.peer x.slot ≡ end_to f = (to_server x.peer x.slot f (subst (λ (y : FrameView). takes_at (server_end x.peer x.slot) y ≡ true) same t.of_end)).1 in
      subst (λ (c : ℕ × ℕ). Member c (served_connections s)) (λ i. ((at i).peer, (at i).slot)) x.serves
  | inr g ↦ absurd (let none : None ≡ Some f = sym g.taken_is ∙ taken in cc)
]
served_to s st k m f (inr (inr x)) taken up = absurd (by_job x.frame)
  where
    by_job : (m.taken ≡ None) ⊎ JobTakes (turn_of s st k x.w) m → ⊥
    by_job (inl none) = cc
    by_job (inr t) =
        let same : t.f ≡ f = same_Some t.f f (sym t.taken_is ∙ taken) in
        let down : f.up ≡ false = to_client x.w t.peer f (subst (λ (y : FrameView). takes_at (job_end x.w t.peer) y ≡ true) same t.of_end) in
        cc

found_there : (xs : List Session) (f : FrameView) → Member (f.peer, f.slot) (map connection_of xs) → find (λ x. same_owner (owner_of x) (Peer f.peer f.slot)) xs ≡ None → ⊥
found_there [] f among none = absurd among
found_there (x ∷ xs) f among none = go (same_owner (owner_of x) (Peer f.peer f.slot)) refl among (found_there xs f)
  where
    owns : (f.peer, f.slot) ≡ connection_of x → same_owner (owner_of x) (Peer f.peer f.slot) ≡ true
    owns e =
        let p : f.peer ≡ (place_of x).peer = ap (λ (c : ℕ × ℕ). c.0) e in
        let q : f.slot ≡ (place_of x).slot = ap (λ (c : ℕ × ℕ). c.1) e in
        grind (arith, nat_tests)

    rest_none : same_owner (owner_of x) (Peer f.peer f.slot) ≡ false → find (λ x. same_owner (owner_of x) (Peer f.peer f.slot)) xs ≡ None
    rest_none e = subst (λ (b : Bool). (if b then Some x else find (λ x. same_owner (owner_of x) (Peer f.peer f.slot)) xs) ≡ None) e none

    some_none : (if true then Some x else find (λ x. same_owner (owner_of x) (Peer f.peer f.slot)) xs) ≡ None → ⊥
    some_none e = cc

    go : (b : Bool) → same_owner (owner_of x) (Peer f.peer f.slot) ≡ b → Member (f.peer, f.slot) (map connection_of (x ∷ xs))
        → (Member (f.peer, f.slot) (map connection_of xs) → find (λ x. same_owner (owner_of x) (Peer f.peer f.slot)) xs ≡ None → ⊥) → ⊥
    go true e among more = some_none (subst (λ (b : Bool). (if b then Some x else find (λ x. same_owner (owner_of x) (Peer f.peer f.slot)) xs) ≡ None) e none)
    go false e (inl same) more = let yes = owns same in cc
    go false e (inr later) more = more later (rest_none e)

parts_alike : (s : SetUp) (st : State) (xs : List Session) (known : Option Parts) (kind : EntryKind) (f : FrameView) (bytes : List ℕ) → AreSessions s st.sessions xs
    → (f.up ≡ true → Member (f.peer, f.slot) (served_connections s))
    → option_map_or (λ (x : Session). parts_after_taken (session_of x).doing (Some f) bytes kind known) (session_asked xs (Some f)) known ≡ parts_of_session st (Some f) bytes kind known
parts_alike s st xs known kind f bytes are served = go f.up refl
  where
    left : Option Session → Option Parts
    left o = option_map_or (λ (x : Session). parts_after_taken (session_of x).doing (Some f) bytes kind known) o known

    by_session : (o : Option Session) → find (λ x. same_owner (owner_of x) (Peer f.peer f.slot)) xs ≡ o → f.up ≡ true
        → option_map_or (λ (x : Session). parts_after_taken (session_of x).doing (Some f) bytes kind known) o known ≡ parts_after_frame (st.sessions (end_to f)).doing f.body bytes kind known
    by_session None e up = absurd (found_there xs f (subst (Member (f.peer, f.slot)) (sym are.connections) (served up)) e)
    by_session (Some x) e up = ap (λ (y : sessions.Session). parts_after_frame y.doing f.body bytes kind known) (asked_is s st.sessions xs f x are up e)

    go : (b : Bool) → f.up ≡ b → option_map_or (λ (x : Session). parts_after_taken (session_of x).doing (Some f) bytes kind known) (session_asked xs (Some f)) known ≡ parts_of_session st (Some f) bytes kind known
    go false e = rw e refl
    go true e =
        ap (λ (b : Bool). left (if b then find (λ x. same_owner (owner_of x) (Peer f.peer f.slot)) xs else None)) e
        ∙ (by_session (find (λ x. same_owner (owner_of x) (Peer f.peer f.slot)) xs) refl e
        ∙ sym (ap (λ (b : Bool). if b then parts_after_frame (st.sessions (end_to f)).doing f.body bytes kind known else known) e))

-- what a job's step leaves, by the job or by its work
job_alike : (st : State) (p : PartsView) (taken : Option FrameView) (bytes : List ℕ) (kind : EntryKind) (known : Option Parts) → st.works ≡ map work_now p.jobs.running
    → option_map_or (λ (t : Task). parts_after_work (work_now t) taken bytes kind known) (job_acting p kind) known ≡ parts_of_job st taken bytes kind known
job_alike st p taken bytes kind known are = by_work (job_acting p kind) ∙ ap (λ (o : Option Work). option_map_or (λ (w : Work). parts_after_work w taken bytes kind known) o known) (work_of_acting st p kind are)
  where
    by_work : (o : Option Task) → option_map_or (λ (t : Task). parts_after_work (work_now t) taken bytes kind known) o known
        ≡ option_map_or (λ (w : Work). parts_after_work w taken bytes kind known) (option_map work_now o) known
    by_work None = refl
    by_work (Some t) = refl

-- a node's parts after a step are those that the definitions leave, with the bytes that the driver says were taken
pub parts_are : {K : Type 0} (s : SetUp) (st : State) (k : Look) (m : Effect) (n : NodeView K) (r : ℕ) (c : Driver) (known : Option Parts) (kind : EntryKind) (sent : List FrameView) → AreSessions s st.sessions n.parts.sessions
    → st.works ≡ map work_now n.parts.jobs.running → StepFound s st k m → ((f : FrameView) → m.taken ≡ Some f → (v : EndView) × (link_at n.parts.links (end_to f) ≡ Some v) × HasAtHand c.flights r (end_to f) (after_drop v))
    → parts_after_step (record n.parts { links = map after_drop n.parts.links }) (record { kind = kind; taken = m.taken; sent = sent; owes = None }) known ≡ parts_of_step st m.taken (turning.bytes_taken r m.taken c) kind known
parts_are {K} s st k m n r c known kind sent are works found hand = go m.taken refl
  where
    by_session : FrameView → List ℕ → Option Parts
    by_session f bytes = option_map_or (λ (x : Session). parts_after_taken (session_of x).doing (Some f) bytes kind known) (session_asked n.parts.sessions (Some f)) known

    by_either : FrameView → List ℕ → Option Parts → Option Parts
    by_either f bytes left = option_map_or (λ (t : Task). parts_after_work (work_now t) (Some f) bytes kind left) (job_acting n.parts kind) left

    go : (o : Option FrameView) → m.taken ≡ o
        → parts_after_step (record n.parts { links = map after_drop n.parts.links }) (record { kind = kind; taken = o; sent = sent; owes = None }) known ≡ parts_of_step st o (turning.bytes_taken r o c) kind known
    go None e = job_alike st n.parts None [] kind known works
    go (Some f) e =
        let at = hand f e in
        let bytes : List ℕ = turning.bytes_taken r (Some f) c in
        ap (λ (xs : List ℕ). by_either f xs (by_session f xs)) (taken_bytes r c.flights n.parts.links f at.0 at.1 at.2)
        ∙ (ap (by_either f bytes) (parts_alike s st n.parts.sessions known kind f bytes are (λ up. served_to s st k m f found e up))
        ∙ job_alike st n.parts (Some f) bytes kind (parts_of_session st (Some f) bytes kind known) works)

-- ---- the node

pub last_same : {X : Type 0} (xs : List X) (x y : X) → xs ++ x ∷ [] ≡ xs ++ y ∷ [] → x ≡ y
last_same [] x y e = cc
last_same (z ∷ xs) x y e = last_same xs x y (ap (drop 1) e)

pub turned_node : {K : Type 0} → finds.Finds → (tells : K → StoreView) (g : DriverInput) (d : Driver) (r : ℕ) (n m : NodeView K) (kind : EntryKind) (taken : Option FrameView) → IsRaised tells g d r n
    → AgreesAtDrops (state_at g d r) (nodes.state_of (set_up_of g d r) n.history) → AreParts (set_up_of g d r) (nodes.state_of (set_up_of g d r) n.history) n.parts → AreJobs (state_at g d r).works
    → ((f : FrameView) → taken ≡ Some f → (v : EndView) × (link_at n.parts.links (end_to f) ≡ Some v) × HasAtHand (driver_at_turn g r d).flights r (end_to f) (after_drop v))
    → Adds (map after_drop n.parts.links) (tells n.keeper) (tells m.keeper) n m → (tm : TurnMade g d r n m kind taken) → IsRaised tells g (after_step g r d tm.made) r m
turned_node {K} laws tells g d r n m kind taken raised agrees parts jobs hand ad tm = record {
  entries = record {
    setup = subst (λ (x : _). nodes.MatchesSetup x (set_up_of g after r)) (sym ad.setup) (record { number = raised.entries.setup.number; ids = raised.entries.setup.ids; offset = raised.entries.setup.offset; version = raised.entries.setup.version; locks = raised.entries.setup.locks });
    history = tm.adds ∙ (ap (λ (xs : List Entry). xs ++ e ∷ []) raised.entries.history ∙ (sym (own_more r e d.past own) ∙ ap (λ (p : List Entry). reverse (filter (is_of r) p)) (sym past)));
    branch = ad.branch ∙ (ap (λ (x : Entry). branch_by n.branch x.kind x.lines) entry ∙ (branch_alike n.branch e.kind e.lines (λ file e. no_step_makes s st tm.look tm.made found (kinds.Compact file) refl e)
        ∙ (ap (λ (b : Files). branch_after b e.kind e.lines) raised.entries.branch
        ∙ (sym (ap (λ (b : Bool). if b then branch_after (branch d.past r) e.kind e.lines else branch d.past r) own) ∙ ap (λ (p : List Entry). branch p r) (sym past)))));
    time = ad.at ∙ (raised.entries.time ∙ ap now (sym past));
    count = ad.counted ∙ (ap (λ (x : ℕ). x + 1) raised.entries.count ∙ ap newest_count (sym past));
  };
  store = step_stored laws s st tm.look tm.made d1 r bytes v w tm.steps jobs (subst (Each IsFit) (sym works) (all_fit n.parts.jobs.running)) long
      (record { contents = raised.store.contents; parts = raised.store.parts; failing = raised.store.failing })
      (ad.contents ∙ ap (λ (x : Entry). contents_after v.contents v.parts x.kind) entry)
      (ad.parts ∙ (ap (λ (x : Entry). parts_after_step (record n.parts { links = map after_drop n.parts.links }) (done_in x) v.parts) entry
      ∙ parts_are s st tm.look tm.made n r c v.parts tm.made.kind tm.made.sent sessions_are works found (λ f e. hand f (sym tm.taken_is ∙ e))))
      (ad.left ∙ ap (λ (x : Entry). option_map (fewer (failed_in x.kind)) v.failing) entry);
} where
  s : SetUp
  s = set_up_of g d r

  st : State
  st = state_at g d r

  c : Driver
  c = driver_at_turn g r d

  v : StoreView
  v = tells n.keeper

  w : StoreView
  w = tells m.keeper

  e : Entry
  e = entry_of r (plain_look s c) tm.made

  d1 : Driver
  d1 = adds st r e c

  bytes : List ℕ
  bytes = turning.bytes_taken r tm.made.taken c

  after : Driver
  after = after_step g r d tm.made

  found : StepFound s st tm.look tm.made
  found = laws.found s st tm.look tm.made tm.steps

  own : is_of r e ≡ true
  own = eqb_refl r

  past : after.past ≡ e ∷ d.past
  past = (store_changes st r tm.made bytes tm.made.kind d1).past

  entry : ad.entry ≡ e
  entry = last_same n.history ad.entry e (sym ad.history ∙ tm.adds)

  sessions_are : AreSessions s st.sessions n.parts.sessions
  sessions_are = record {
    connections = parts.sessions.connections;
    each = λ i x there.
        let is = parts.sessions.each i x there in
        record { id = is.id; version = is.version; locks = is.locks; session = ap (λ (y : State). y.sessions (end_of x)) agrees.same ∙ is.session };
  }

  works : st.works ≡ map work_now n.parts.jobs.running
  works = ap (λ (x : State). x.works) agrees.same ∙ parts.works.works

  -- of a piece that was taken there are as many bytes as it says
  long : (f : FrameView) (count : ℕ) → tm.made.taken ≡ Some f → f.body ≡ Bytes count → length bytes ≡ count
  long f count takes body =
      let at = hand f (sym tm.taken_is ∙ takes) in
      ap (λ (o : Option FrameView). length (turning.bytes_taken r o c)) takes
      ∙ taken_long r c.flights n.parts.links f at.0 count at.1 at.2
      (ad.posts.posts.took (end_to f) f (ap (λ (x : Entry). taken_at (end_to f) x.taken) entry ∙ (ap (taken_at (end_to f)) takes ∙ takes_own f))) body
