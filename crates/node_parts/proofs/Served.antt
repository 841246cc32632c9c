-- What the sessions serve is the step of the parts.
use Rattle.std.proofs.Common.{◌≡◌, ℕ, ◌<◌, ◌+◌, Bool, false, List, [], Option, Some, None, refl, sym, ap, subst, ◌∙◌}
use Rattle.std.specs.Prelude.{◌&&◌, ◌||◌, All, bytes_eq, fold}
use Rattle.std.specs.List.{list_any}
use Rattle.std.specs.Option.{ForSome, option_map}
use Rattle.std.proofs.lemmas.Option.{same_Some}
use Rattle.annex_base.proofs.Options.{map_some, some_none}
use Rattle.annex_base.specs.Lists.{Each}
use Rattle.annex_base.specs.declared.kinds.Call.{Call}
use Rattle.annex_base.specs.declared.kinds.EntryStamp.{EntryStamp}
use Rattle.run_data.specs.declared.entry.By.TheVariants.{Peer}
use Rattle.run_data.specs.declared.entry.Entry.{Entry}
use Rattle.run_data.specs.declared.entry.EntryKind.{EntryKind}
use Rattle.run_data.specs.declared.entry.EntryKind.TheVariants as kinds
use Rattle.run_data.specs.declared.entry.FrameView.{FrameView}
use Rattle.object_store.specs.Stores.{Contents, Parts as StoredParts}
use Rattle.content_lock.specs.Rows.{Rows, bar_at, is_filling}
use Rattle.link_ring.specs.Ends.{EndView}
use Rattle.node_model.specs.After.{state_after}
use Rattle.node_model.specs.Clocks.{ClockSet, runs_on}
use Rattle.node_model.specs.Ends.{End, EndName, end_sends, end_took, sent_at, taken_at}
use Rattle.node_model.specs.Jobs.{Work}
use Rattle.node_model.specs.Look.{Effect, Look, as_told, entry_of, failed_in}
use Rattle.node_model.specs.Rows.{bar_after, content_after, holds_after, present_after}
use Rattle.node_model.specs.Sessions.{new_session}
use Rattle.node_model.specs.SessionStep.{is_filled, session_step}
use Rattle.node_model.specs.SetUp.{SetUp}
use Rattle.node_model.specs.Files.{lines_after}
use Rattle.node_model.specs.Slots.{is_begin, job_of}
use Rattle.node_model.specs.State.{State}
use Rattle.content_lock.specs.CallsMade.{MakesCalls}
use Rattle.node_ends.specs.Ends.{end_at}
use Rattle.node_ends.specs.Going.{AreAfter}
use Rattle.p2p_server.specs.declared.session.Session.{Session}
use Rattle.p2p_server.specs.Bounds.{IsKind}
use Rattle.p2p_server.specs.Talking.{AreAfterStep}
use Rattle.node_sessions.specs.declared.served.Served.{Served}
use Rattle.node_sessions.specs.Kinds.{IsOfSession}
use Rattle.node_sessions.specs.Sessions.{AreSessions, LeavesPartsOf, AreAllFed as SessionsFed, fills_in}
use Rattle.node_sessions.specs.Serving.{AreAfterIf, FailsBy, Sees, SeesPartBy, ServesAt, ServesIf, StepsSo, end_by, ends_after, failed_by as failed_by_served, made_by, sessions_after}
use Rattle.running_jobs.specs.Places.{IsPlace}
use Rattle.running_jobs.specs.Running.{AreWorks, Jobs, OwnAll as JobsOwn, AreAllFed as JobsFed, fills_at}
use Rattle.node_parts.specs.declared.done.Done.{Done}
use Rattle.node_parts.specs.Kinds.{IsQuiet}
use Rattle.node_parts.specs.Parts.{AreAllFed, AreParts, HasContents, HasLockRooms, PartsView}
use Rattle.node_parts.specs.Posting.{Posts}
use Rattle.node_parts.specs.Sending.{PostsOnly, answers_at}
use Rattle.node_parts.specs.Sound.{AreSound}
use Rattle.node_parts.specs.Steps.{EndsAfter, Fails, LeavesSo, SeesParts, Serves, Steps, WhereServed, failed_by, made_of}
use Rattle.node_parts.proofs.Among.{any_works}
use Rattle.node_parts.proofs.Asked.{IsOfNoJob, asks_of, kind_same}
use Rattle.node_parts.proofs.Filling.{jobs_fed, of_no_session}
use Rattle.node_parts.proofs.Going.{EndsGo}
use Rattle.node_parts.proofs.Rooms.{rooms_served}

-- ---- what laws say

abbrev pub FillsLaw : Type 0
FillsLaw = (s : SetUp) (st : State) (xs : List Session) (key : List ℕ) → AreSessions s st.sessions xs → ((a : EndName) → a.client ≡ false → (st.ends a).opened ≡ false → st.sessions a ≡ new_session)
    → is_filled s st key ≡ (fills_in xs key || list_any (λ w. w.fills && bytes_eq w.what.key key) st.works)

abbrev pub ClosedLaw : Type 0
ClosedLaw = (links : List EndView) (v : Served) (st : State) → ServesAt links v → st.ends (end_by v) ≡ end_at links (end_by v) → ((a : EndName) → a.client ≡ false → (st.ends a).opened ≡ false → st.sessions a ≡ new_session)
    → (a : EndName) → a.client ≡ false → (ends_after st (Some (made_by links v)) a).opened ≡ false → sessions_after st (Some (made_by links v)) a ≡ new_session

abbrev pub JobsStay : Type 0
JobsStay = (s : SetUp) (st : State) (e : Entry) (jobs : Jobs) (rows : Rows) → AreWorks s st jobs → JobsOwn jobs rows → job_of e.kind ≡ None → ((clock : ℕ) → e.kind ≡ kinds.Crash clock → ⊥) → AreWorks s (state_after s st e) jobs

abbrev pub OwnEntries : Type 0
OwnEntries = (s : SetUp) (st : State) (k : Look) (m : Effect) → session_step s st k ≡ Some m → IsOfSession m.kind × (m.lines ≡ [])

-- ---- what the state is

-- the table fills what the state does
pub table_fills : FillsLaw → (s : SetUp) (st : State) (p : PartsView) (key : List ℕ) → AreSound p → AreParts s st p → is_filling p.table key ≡ is_filled s st key
table_fills law s st p key sound are =
    let works : list_any (λ (w : Work). w.fills && bytes_eq w.what.key key) st.works ≡ fills_at p.jobs.running key = ap (list_any (λ (w : Work). w.fills && bytes_eq w.what.key key)) are.works.works ∙ any_works key p.jobs.running in
    sound.filled.filled key ∙ (ap (λ (b : Bool). fills_in p.sessions key || b) (sym works) ∙ sym (law s st p.sessions key are.sessions are.closed))

sees_of : FillsLaw → (p : PartsView) (known : Option Contents) (parts : Option StoredParts) (c : Contents) (clock : ClockSet) (time number : ℕ) (o : Option Served) (s : SetUp) (st : State) (k : Look)
    → AreSound p → known ≡ Some c → SeesParts p c clock time number s st k → SeesPartBy parts p.sessions p.links o k.part k.right → FailsBy o k.fails
    → Sees p.links p.table known parts (runs_on clock time) number p.sessions o s st k
sees_of law p known parts c clock time number o s st k sound told sees part fails = record {
  ends = sees.parts.ends;
  look = sees.ends;
  sessions = sees.parts.sessions;
  keeps = record { contents = c; told = told; present = sees.stored.present; content = sees.stored.content; bar = sees.parts.bars; holds = sees.parts.holds };
  filled = λ key. sym (table_fills law s st p key sound sees.parts);
  time = ap (λ (f : ℕ → ℕ). f k.time) sees.ticks ∙ ap (runs_on clock) sees.time;
  made = sym sees.number;
  part = part;
  fails = fails;
}

-- ---- the kinds of its entries

no_job : (kind : EntryKind) → IsOfSession kind → job_of kind ≡ None
no_job (kinds.Talk None) h = refl
no_job (kinds.Check found key) h = refl
no_job (kinds.Share hold end (Peer peer slot) key) h = refl
no_job (kinds.Release hold key) h = refl
no_job (kinds.Gone (Peer peer slot) key) h = refl
no_job (kinds.Gain (Peer peer slot) size key) h = refl
no_job (kinds.Fault call (Peer peer slot)) h = refl
no_job (kinds.Close peer slot false) h = refl
no_job kind h = absurd h

no_crash : (kind : EntryKind) → IsOfSession kind → (clock : ℕ) → kind ≡ kinds.Crash clock → ⊥
no_crash kind h clock e = subst IsOfSession e h

-- ---- the state after it

module _ (was now : PartsView) (v : Served) (d : Done) (contents : Option Contents) (s : SetUp) (st : State) (k : Look)
    (sound : AreSound was) (are : AreParts s st was) (jobs : now.jobs ≡ was.jobs) (serves : ServesAt was.links v) (same : made_of d ≡ made_by was.links v)
    (after : AreAfterStep v.kind was.table now.table) (ends : AreAfter was.links now.links d.taken d.sent) (sender : EntryStamp) (posts : Posts sender d.kind was.links now.links d.taken d.sent) (steps : StepsSo was.links (Some v) now.sessions now.table contents s st k) where
  kind_is : d.kind ≡ v.kind
  kind_is = ap (λ (m : Effect). m.kind) same

  -- its own entry, as the step makes it
  kind_own : OwnEntries → IsOfSession d.kind
  kind_own own =
      let real = map_some (session_step s st k) as_told (made_by was.links v) steps.made in
      subst IsOfSession (ap (λ (m : Effect). m.kind) (real.2 ∙ sym same)) (own s st k real.0 real.1).0

  pub parts_served : EndsGo → ClosedLaw → JobsStay → OwnEntries → AreParts s (state_after s st (entry_of s.number k (made_of d))) now
  parts_served go shuts stay own =
      let is_own = kind_own own in
      record {
        place = subst (λ (j : Jobs). IsPlace j.place s) (sym jobs) are.place;
        holds = after.holds ∙ (λ i. holds_after (are.holds i) (sym kind_is i));
        bars = λ key. after.bars key ∙ (λ i. bar_after key (are.bars key i) (sym kind_is i));
        ends = go was.links now.links s st (entry_of s.number k (made_of d)) are.ends ends;
        each = λ a. ap (λ (c : End). fold (λ (x : End) (f : FrameView). end_sends x f.body) (end_took c (taken_at a d.taken)) (sent_at a d.sent)) (are.each a) ∙ sym (ends.ends a);
        sessions = subst (λ (m : Effect). AreSessions s (sessions_after st (Some m)) now.sessions) (sym same) steps.next;
        closed = λ a server shut. subst (λ (m : Effect). (ends_after st (Some m) a).opened ≡ false → sessions_after st (Some m) a ≡ new_session) (sym same) (shuts was.links v st serves (are.each (end_by v)) are.closed a server) shut;
        works = subst (AreWorks s (state_after s st (entry_of s.number k (made_of d)))) (sym jobs)
            (stay s st (entry_of s.number k (made_of d)) was.jobs was.table are.works sound.acting (no_job d.kind is_own) (λ clock e. no_crash d.kind is_own clock e));
        rooms = subst (λ (j : Jobs). Each (HasLockRooms now.links j.place.number) j.running) (sym jobs)
            (rooms_served was.links now.links was.jobs.place.number was.jobs.running v d sender same posts are.rooms);
        logs = refl;
      }

  pub stored_served : ForSome contents (λ c. HasContents c (state_after s st (entry_of s.number k (made_of d))))
  stored_served = λ c is.
      subst (λ (x : Contents). HasContents x (state_after s st (entry_of s.number k (made_of d)))) (same_Some steps.keeps.contents c (sym steps.keeps.told ∙ is))
      (record {
        present = λ key. steps.keeps.present key ∙ ap (present_after key (st.present key)) (sym kind_is);
        content = λ key. steps.keeps.content key ∙ ap (content_after key (st.content key)) (sym kind_is);
      })

-- ---- the step

-- what there is of it for a state and a look
abbrev pub Then : PartsView → PartsView → Option Contents → Option Served → Option Done → Type 0
Then was now contents o d = (s : SetUp) (st : State) (k : Look) → AreParts s st was → StepsSo was.links o now.sessions now.table contents s st k → Steps session_step now contents s st k d

same_parts : (was now : PartsView) → now.table ≡ was.table → now.links ≡ was.links → now.sessions ≡ was.sessions → now.jobs ≡ was.jobs → now ≡ was
same_parts was now t l x j = λ i. record { table = t i; links = l i; sessions = x i; jobs = j i }

then_none : (was now : PartsView) (contents : Option Contents) → now ≡ was → Then was now contents None None
then_none was now contents same s st k are steps = record {
  made = steps.made;
  parts = subst (AreParts s st) (sym same) are;
  stored = λ c is. subst (λ (x : Contents). HasContents x st) (same_Some steps.keeps.contents c (sym steps.keeps.told ∙ is)) (record { present = steps.keeps.present; content = steps.keeps.content });
}

then_some : EndsGo → ClosedLaw → JobsStay → OwnEntries → (was now : PartsView) (contents : Option Contents) (v : Served) (d : Done)
    → AreSound was → now.jobs ≡ was.jobs → ServesAt was.links v → made_of d ≡ made_by was.links v → AreAfterStep v.kind was.table now.table → AreAfter was.links now.links d.taken d.sent
    → (sender : EntryStamp) → Posts sender d.kind was.links now.links d.taken d.sent → Then was now contents (Some v) (Some d)
then_some go shuts stay own was now contents v d sound jobs serves same after ends sender posts s st k are steps = record {
  made = steps.made ∙ ap (λ (m : Effect). Some m) (sym same);
  parts = parts_served was now v d contents s st k sound are jobs serves same after ends sender posts steps go shuts stay own;
  stored = stored_served was now v d contents s st k sound are jobs serves same after ends sender posts steps;
}

-- what an answer's frames leave of the ends
abbrev pub PostsServed : EntryStamp → List EndView → List EndView → Option Served → Option Done → Type 0
PostsServed sender was now o d = ForSome d (λ x. ForSome o (λ v. PostsOnly (answers_at (end_by v) v.reply) sender x.kind was now x.taken x.sent))

then_of : EndsGo → ClosedLaw → JobsStay → OwnEntries → (was now : PartsView) (contents : Option Contents) (o : Option Served) (d : Option Done)
    → AreSound was → now.jobs ≡ was.jobs → ServesIf was.links o → option_map made_of d ≡ option_map (made_by was.links) o → AreAfterIf o was.table now.table → EndsAfter was.links now.links d → (o ≡ None → now.sessions ≡ was.sessions)
    → (sender : EntryStamp) → PostsServed sender was.links now.links o d → Then was now contents o d
then_of go shuts stay own was now contents None None sound jobs serves same after ends idle sender posts =
    then_none was now contents (same_parts was now after ends (idle refl) jobs)
then_of go shuts stay own was now contents None (Some d) sound jobs serves same after ends idle sender posts = absurd (some_none (made_of d) same)
then_of go shuts stay own was now contents (Some v) None sound jobs serves same after ends idle sender posts = absurd (some_none (made_by was.links v) (sym same))
then_of go shuts stay own was now contents (Some v) (Some d) sound jobs serves same after ends idle sender posts =
    then_some go shuts stay own was now contents v d sound jobs (serves v refl) (same_Some (made_of d) (made_by was.links v) same) after ends sender (posts d refl v refl).posts

-- the look finds of the call that fails what the entry of the sessions tells
abbrev pub FailsSo : Option Served → Option Done → Type 0
FailsSo o d = (k : Look) → Fails d k → FailsBy o k.fails

fails_of : (links : List EndView) (o : Option Served) (d : Option Done) → option_map made_of d ≡ option_map (made_by links) o → FailsSo o d
fails_of links None d same k f = λ v is. absurd (some_none v (sym is))
fails_of links (Some v) None same k f = absurd (some_none (made_by links v) (sym same))
fails_of links (Some v) (Some d) same k f = λ w is.
    f d refl ∙ (ap failed_in (kind_same links v d same) ∙ ap (λ (x : Served). failed_in x.kind) (same_Some v w is))

pub failed_same : (links : List EndView) (o : Option Served) (d : Option Done) → option_map made_of d ≡ option_map (made_by links) o → failed_by d ≡ failed_by_served o
failed_same links None None same = refl
failed_same links None (Some d) same = absurd (some_none (made_of d) same)
failed_same links (Some v) None same = absurd (some_none (made_by links v) (sym same))
failed_same links (Some v) (Some d) same = ap failed_in (kind_same links v d same)

-- what is so wherever the sessions see such a state and look is so where the parts do
where_served : FillsLaw → (was : PartsView) (known : Option Contents) (parts : Option StoredParts) (clock : ClockSet) (time number : ℕ) (o : Option Served) (d : Option Done) → AreSound was → option_map made_of d ≡ option_map (made_by was.links) o
    → (P : SetUp → State → Look → Type 0) → ((s : SetUp) (st : State) (k : Look) → AreParts s st was → Sees was.links was.table known parts (runs_on clock time) number was.sessions o s st k → P s st k)
    → ForSome known (λ c. WhereServed was c parts clock time number d P)
where_served fills was known parts clock time number o d sound same P there = λ c told s st k sees fails asks.
    there s st k sees.parts (sees_of fills was known parts c clock time number o s st k sound told sees (asks_of was parts o d same k.part k.right asks) (fails_of was.links o d same k fails))

-- at ends that are those before the step
pub made_at : (was mid : List EndView) (o : Option Served) (d : Option Done) → mid ≡ was → option_map made_of d ≡ option_map (made_by mid) o → option_map made_of d ≡ option_map (made_by was) o
made_at was mid o d mid_is made = made ∙ ap (λ (links : List EndView). option_map (made_by links) o) mid_is

-- the step
pub step_of : FillsLaw → EndsGo → ClosedLaw → JobsStay → OwnEntries → (was now : PartsView) (mid : List EndView) (known contents : Option Contents) (parts : Option StoredParts) (clock : ClockSet) (time number shows : ℕ) (o : Option Served) (d : Option Done)
    → AreSound was → now.jobs ≡ was.jobs → mid ≡ was.links → shows ≡ runs_on clock time
    → ((s : SetUp) (st : State) (k : Look) → Sees was.links was.table known parts shows number was.sessions o s st k → StepsSo was.links o now.sessions now.table contents s st k)
    → ServesIf was.links o → option_map made_of d ≡ option_map (made_by mid) o → AreAfterIf o was.table now.table → EndsAfter mid now.links d → (o ≡ None → now.sessions ≡ was.sessions)
    → (sender : EntryStamp) → PostsServed sender mid now.links o d → ForSome known (λ c. Serves was now c parts contents clock time number d)
step_of fills go shuts stay own was now mid known contents parts clock time number shows o d sound jobs mid_is shows_is step serves_if made after ends idle sender posts =
    let same : option_map made_of d ≡ option_map (made_by was.links) o = made_at was.links mid o d mid_is made in
    let gone : EndsAfter was.links now.links d = subst (λ (links : List EndView). EndsAfter links now.links d) mid_is ends in
    where_served fills was known parts clock time number o d sound same (λ s st k. Steps session_step now contents s st k d)
    (λ s st k are sees. then_of go shuts stay own was now contents o d sound jobs serves_if same after gone idle sender (subst (λ (links : List EndView). PostsServed sender links now.links o d) mid_is posts) s st k are
    (step s st k (subst (λ (n : ℕ). Sees was.links was.table known parts n number was.sessions o s st k) (sym shows_is) sees)))

-- and its calls
pub calls_of : FillsLaw → (was : PartsView) (mid : List EndView) (known : Option Contents) (parts : Option StoredParts) (clock : ClockSet) (time number shows : ℕ) (o : Option Served) (d : Option Done) (before after : Option (Call → ℕ))
    → AreSound was → mid ≡ was.links → shows ≡ runs_on clock time → option_map made_of d ≡ option_map (made_by mid) o
    → ((s : SetUp) (st : State) (k : Look) → Sees was.links was.table known parts shows number was.sessions o s st k → ForSome (session_step s st k) (λ (m : Effect). MakesCalls m.calls (failed_by_served o) before after))
    → ForSome known (λ c. WhereServed was c parts clock time number d (λ s st k. ForSome (session_step s st k) (λ (m : Effect). MakesCalls m.calls (failed_by d) before after)))
calls_of fills was mid known parts clock time number shows o d before after sound mid_is shows_is made calls =
    let same : option_map made_of d ≡ option_map (made_by was.links) o = made_at was.links mid o d mid_is made in
    where_served fills was known parts clock time number o d sound same (λ s st k. ForSome (session_step s st k) (λ (m : Effect). MakesCalls m.calls (failed_by d) before after))
    (λ s st k are sees. subst (λ (f : Option Call). ForSome (session_step s st k) (λ (m : Effect). MakesCalls m.calls f before after)) (sym (failed_same was.links o d same))
    (calls s st k (subst (λ (n : ℕ). Sees was.links was.table known parts n number was.sessions o s st k) (sym shows_is) sees)))

-- ---- what is left

leaves_of : (number : ℕ) (was now : PartsView) (o : Option Served) (d : Option Done) → now.jobs ≡ was.jobs → option_map made_of d ≡ option_map (made_by was.links) o → AreAfterIf o was.table now.table
    → All (λ h. h.number < number + 1) now.table.holds → EndsAfter was.links now.links d → (o ≡ None → now.sessions ≡ was.sessions) → LeavesSo number was now d
leaves_of number was now None None jobs same after numbers ends idle = same_parts was now after ends (idle refl) jobs
leaves_of number was now None (Some d) jobs same after numbers ends idle = absurd (some_none (made_of d) same)
leaves_of number was now (Some v) None jobs same after numbers ends idle = absurd (some_none (made_by was.links v) (sym same))
leaves_of number was now (Some v) (Some d) jobs same after numbers ends idle =
    let kind : v.kind ≡ d.kind = sym (kind_same was.links v d same) in record {
      holds = after.holds ∙ ap (holds_after was.table.holds) kind;
      bars = λ key. after.bars key ∙ ap (bar_after key (bar_at was.table key)) kind;
      numbers = numbers;
      ends = ends;
    }

pub leaves_at : (number : ℕ) (was now : PartsView) (mid : List EndView) (o : Option Served) (d : Option Done) → now.jobs ≡ was.jobs → mid ≡ was.links → option_map made_of d ≡ option_map (made_by mid) o → AreAfterIf o was.table now.table
    → All (λ h. h.number < number + 1) now.table.holds → EndsAfter mid now.links d → (o ≡ None → now.sessions ≡ was.sessions) → LeavesSo number was now d
leaves_at number was now mid o d jobs mid_is made after numbers ends idle =
    leaves_of number was now o d jobs (made_at was.links mid o d mid_is made) after numbers (subst (λ (links : List EndView). EndsAfter links now.links d) mid_is ends) idle

-- ---- of what kind its entry is

abbrev pub KindLaw : Type 0
KindLaw = (n : ℕ) (kind : EntryKind) → IsKind n kind → (job_of kind ≡ None) × ((clock : ℕ) → kind ≡ kinds.Crash clock → ⊥) × ((path : List ℕ) (was lines : List (List ℕ)) → lines_after path was kind lines ≡ was)

no_begin : (kind : EntryKind) → job_of kind ≡ None → is_begin kind ≡ false
no_begin (kinds.Begin job what) none = absurd (some_none job none)
no_begin kind none = refl

pub quiet_served : KindLaw → (number : ℕ) (links : List EndView) (o : Option Served) (d : Option Done) → option_map made_of d ≡ option_map (made_by links) o → ForSome o (λ v. IsKind number v.kind) → ForSome d (λ x. IsQuiet x.kind)
quiet_served law number links None d same kinds_are x is = absurd (some_none (made_of x) (sym (ap (option_map made_of) is) ∙ same))
quiet_served law number links (Some v) d same kinds_are x is =
    let kind : v.kind ≡ x.kind = sym (kind_same links v x (sym (ap (option_map made_of) is) ∙ same)) in
    let facts = law number x.kind (subst (IsKind number) kind (kinds_are v refl)) in
    record { begins = no_begin x.kind facts.0; crashes = facts.1; lines = facts.2 }

-- it is no job's
pub no_job_served : KindLaw → (number : ℕ) (links : List EndView) (o : Option Served) (d : Option Done) → option_map made_of d ≡ option_map (made_by links) o → ForSome o (λ v. IsKind number v.kind) → IsOfNoJob d
no_job_served law number links None d same kinds_are x is = absurd (some_none (made_of x) (sym (ap (option_map made_of) is) ∙ same))
no_job_served law number links (Some v) d same kinds_are x is =
    (law number x.kind (subst (IsKind number) (sym (kind_same links v x (sym (ap (option_map made_of) is) ∙ same))) (kinds_are v refl))).0

-- where nothing was made, nothing was served
pub none_served : (links : List EndView) (o : Option Served) (d : Option Done) → option_map made_of d ≡ option_map (made_by links) o → d ≡ None → o ≡ None
none_served links None d made none = refl
none_served links (Some v) None made none = absurd cc
none_served links (Some v) (Some x) made none = absurd cc

-- ---- what was taken of parts

-- what the sessions and the jobs have taken is the store's still
pub fed_served : (was now : PartsView) (known known' : Option StoredParts) → AreSound was → now.jobs ≡ was.jobs → ForSome known (λ q. SessionsFed q was.sessions → ForSome known' (λ q'. SessionsFed q' now.sessions)) → LeavesPartsOf was.sessions known known'
    → ForSome known (λ q. AreAllFed q was → ForSome known' (λ q'. AreAllFed q' now))
fed_served was now known known' sound jobs fed leaves = λ q told all q' told'. record {
  serving = fed q told all.serving q' told';
  acting = subst (λ (j : Jobs). JobsFed q' j.running) (sym jobs) (jobs_fed q q' was.table was.jobs sound.acting (λ key is. leaves.same q told q' told' key (of_no_session was.table was.sessions was.jobs.running sound.filled key is)) all.acting);
}
