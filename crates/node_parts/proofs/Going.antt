-- The parts are those of a state: the first, and after a job has begun, or frames were carried or dropped.
use Rattle.std.proofs.Common.{◌≡◌, ℕ, ◌*◌, ◌+◌, Bool, true, false, List, [], Option, None, Result, Ok, Err, length, refl, sym, ap, subst, ◌∙◌}
use Rattle.std.specs.Prelude.{All, OnOk, fold, find, replicate, ◌==◌, ◌&&◌, ◌||◌}
use Rattle.std.proofs.lemmas.List.{length-replicate}
use Rattle.std.proofs.lemmas.List.Elements.{All-nil}
use Rattle.annex_base.specs.Lists.{Each}
use Rattle.annex_base.specs.Settings.{Settings}
use Rattle.run_data.specs.declared.entry.Entry.{Entry}
use Rattle.run_data.specs.declared.entry.EntryKind.TheVariants.{Begin}
use Rattle.run_data.specs.declared.entry.FrameView.{FrameView}
use Rattle.run_data.specs.declared.job.Job.{Job}
use Rattle.run_data.specs.declared.row.Hold.{Hold}
use Rattle.trust_groups.specs.Settings.{settings}
use Rattle.link_ring.specs.Ends.{EndView, fresh}
use Rattle.object_store.specs.Stores.{Parts as StoredParts}
use Rattle.content_lock.specs.Rows.{Rows}
use Rattle.p2p_server.specs.declared.session.Session.{Session}
use Rattle.node_model.specs.After.{read_after, state_after}
use Rattle.node_model.specs.Ends.{End, EndName, end_sends, end_took, sent_at, taken_at}
use Rattle.node_model.specs.Files.{lines_after}
use Rattle.node_model.specs.Rows.{bar_after, holds_after}
use Rattle.node_model.specs.Sessions.{new_session, session_after}
use Rattle.node_model.specs.SetUp.{SetUp}
use Rattle.node_model.specs.State.{State}
use Rattle.node_ends.specs.Ends.{AreEnds, end_at, room_at}
use Rattle.node_ends.specs.Going.{AreAfter}
use Rattle.node_ends.specs.Joined.{AreCarried, AreJoined}
use Rattle.node_sessions.specs.Sessions.{AreSessions, HaveEnds, OwnAll, fills_in}
use Rattle.running_jobs.specs.Places.{IsPlace, PlaceView}
use Rattle.running_jobs.specs.Beginning.{Begins}
use Rattle.running_jobs.specs.Running.{AreWorks, Follows, Jobs, OwnAll as JobsOwn, AreAllFed as JobsFed}
use Rattle.node_parts.specs.Parts.{AreAllFed, AreParts, HasLockRooms, PartsView}
use Rattle.node_parts.specs.Sound.{AreSound}
use Rattle.node_parts.proofs.Rooms.{rooms_begun, rooms_carried, rooms_dropped}

-- ---- before the first entry

abbrev pub no_rows : Rows
no_rows = record { holds = []; bars = []; fills = [] }

abbrev pub no_jobs : ℕ → List (List ℕ) → Jobs
no_jobs number ids = record { place = record { number = number; ids = ids }; running = []; begun = 0 }

-- the parts that these are
abbrev pub first_view : ℕ → List (List ℕ) → List Session → PartsView
first_view number ids xs = record { table = no_rows; links = replicate (length ids * 8) fresh; sessions = xs; jobs = no_jobs number ids }

first_sound_of : (number : ℕ) (ids : List (List ℕ)) (xs : List Session) → ((rows : Rows) → All (λ h. h.kept ≡ true) rows.holds → OwnAll rows xs) → ((key : List ℕ) → fills_in xs key ≡ false)
    → ((links : List EndView) → length links ≡ length ids * 8 → HaveEnds links xs) → AreSound (first_view number ids xs)
first_sound_of number ids xs owns fills there = record {
  count = length-replicate (length ids * 8) fresh;
  there = there (replicate (length ids * 8) fresh) (length-replicate (length ids * 8) fresh);
  serving = owns no_rows (All-nil (λ (h : Hold). h.kept ≡ true));
  acting = record {
    tasks = tt;
    owns = tt;
    apart = tt;
    later = λ job key beyond. record { of_key = refl; of_job = refl; bars = λ k. refl; holds = record { owner = refl; given = refl; kept = refl } };
  };
  filled = record { filled = λ key. sym (ap (λ (b : Bool). b || false) (fills key)); apart = λ key. ap (λ (b : Bool). b && false) (fills key) };
}

pub first_sound : (number : ℕ) (ids : List (List ℕ)) (p : PartsView) → ((rows : Rows) → All (λ h. h.kept ≡ true) rows.holds → OwnAll rows p.sessions) → ((key : List ℕ) → fills_in p.sessions key ≡ false)
    → ((links : List EndView) → length links ≡ length ids * 8 → HaveEnds links p.sessions) → p.table ≡ no_rows → p.links ≡ replicate (length ids * 8) fresh → p.jobs ≡ no_jobs number ids → AreSound p
first_sound number ids p owns fills there t l j =
    subst AreSound (sym (λ i. record { table = t i; links = l i; sessions = p.sessions; jobs = j i })) (first_sound_of number ids p.sessions owns fills there)

-- ---- after an entry that takes and sends nothing

-- what a law says of the sessions, after such an entry
abbrev pub SessionsStay : Type 0
SessionsStay = (s : SetUp) (st : State) (e : Entry) (xs : List Session) → AreSessions s st.sessions xs → ((a : EndName) → a.client ≡ false → (taken_at a e.taken ≡ None) × (sent_at a e.sent ≡ [])) → AreSessions s (state_after s st e).sessions xs

-- what a law says of the ends, after any entry
abbrev pub EndsGo : Type 0
EndsGo = (was now : List EndView) (s : SetUp) (st : State) (e : Entry) → AreEnds was s st → AreAfter was now e.taken e.sent → AreEnds now s (state_after s st e)

module _ (s : SetUp) (st : State) (e : Entry) (taken : e.taken ≡ None) (sent : e.sent ≡ []) where
  pub end_stays : (a : EndName) → (state_after s st e).ends a ≡ st.ends a
  end_stays a = λ i. fold (λ (c : End) (f : FrameView). end_sends c f.body) (end_took (st.ends a) (taken_at a (taken i))) (sent_at a (sent i))

  pub session_stays : (a : EndName) → (state_after s st e).sessions a ≡ st.sessions a
  session_stays a = λ i. session_after st.content e.kind (st.sessions a) (sent_at a (sent i)) (taken_at a (taken i))

  pub none_moves : (a : EndName) → (taken_at a e.taken ≡ None) × (sent_at a e.sent ≡ [])
  none_moves a = (ap (taken_at a) taken, ap (sent_at a) sent)

  pub closed_stays : ((a : EndName) → a.client ≡ false → (st.ends a).opened ≡ false → st.sessions a ≡ new_session) → (a : EndName) → a.client ≡ false → ((state_after s st e).ends a).opened ≡ false → (state_after s st e).sessions a ≡ new_session
  closed_stays closed a server shut = session_stays a ∙ closed a server (ap (λ (c : End). c.opened) (sym (end_stays a)) ∙ shut)

  pub ends_stay : EndsGo → (links : List EndView) → AreAfter links links None [] → AreEnds links s st → AreEnds links s (state_after s st e)
  ends_stay go links after are = go links links s st e are (subst (λ (o : Option FrameView). AreAfter links links o e.sent) (sym taken) (subst (AreAfter links links None) (sym sent) after))

-- ---- frames are dropped, or carried

-- the parts are those of the same state where each end stands as it did, and the drops' rooms stay
moved_parts : (s : SetUp) (st : State) (was : PartsView) (now : List EndView) → length now ≡ length was.links → ((a : EndName) → end_at now a ≡ end_at was.links a) → (Each (HasLockRooms was.links was.jobs.place.number) was.jobs.running → Each (HasLockRooms now was.jobs.place.number) was.jobs.running)
    → AreParts s st was → AreParts s st (record was { links = now })
moved_parts s st was now count stands rooms are = record {
  place = are.place;
  holds = are.holds;
  bars = are.bars;
  ends = record { count = count ∙ are.ends.count; ends = λ a among. are.ends.ends a among ∙ sym (stands a) };
  each = λ a. are.each a ∙ sym (stands a);
  sessions = are.sessions;
  closed = are.closed;
  works = are.works;
  rooms = rooms are.rooms;
  logs = are.logs;
}

pub parts_dropped : (s : SetUp) (st : State) (was : PartsView) (now : List EndView) → length now ≡ length was.links → ((a : EndName) → end_at now a ≡ end_at was.links a) → ((a : EndName) → room_at now a ≡ room_at was.links a) → AreParts s st was
    → AreParts s st (record was { links = now })
parts_dropped s st was now count stands room = moved_parts s st was now count stands (rooms_dropped was.links now was.jobs.place.number was.jobs.running stands room)

pub parts_carried : (s : SetUp) (st : State) (was : PartsView) (now other : List EndView) (a b : ℕ) → AreCarried a b was.links now other → AreJoined a b was.links other → ((x : EndName) → end_at now x ≡ end_at was.links x) → AreParts s st was
    → AreParts s st (record was { links = now })
parts_carried s st was now other a b carried joined stands = moved_parts s st was now carried.count stands (rooms_carried a b was.links now other carried joined was.jobs.place.number was.jobs.running)

-- ---- a job begins

module _ (s : SetUp) (st : State) (e : Entry) (n : ℕ) (what : Job) (is : e.kind ≡ Begin n what) where
  begin_logs : st.logs ≡ settings st.lines → (state_after s st e).logs ≡ st.logs
  begin_logs logs = (λ i. settings (λ path. lines_after path (st.lines path) (is i) e.lines)) ∙ sym logs

  pub begin_follows : st.logs ≡ settings st.lines → Follows s st e (state_after s st e)
  begin_follows logs = record {
    works = refl;
    begun = refl;
    logs = begin_logs logs;
    read = λ job. ap (λ (l : Settings). read_after l (st.read job) (find (λ w. w.number == job) st.works)) (begin_logs logs);
  }

  pub begin_parts : EndsGo → ((links : List EndView) → AreAfter links links None []) → SessionsStay → e.taken ≡ None → e.sent ≡ [] → (was : PartsView) (jobs : Jobs) → AreParts s st was → jobs.place ≡ was.jobs.place
      → AreWorks s (state_after s st e) jobs → Each (HasLockRooms was.links jobs.place.number) jobs.running → AreParts s (state_after s st e) (record was { jobs = jobs })
  begin_parts go still stay taken sent was jobs are place works rooms = record {
    place = subst (λ (p : PlaceView). IsPlace p s) (sym place) are.place;
    holds = are.holds ∙ (λ i. holds_after st.holds (sym is i));
    bars = λ key. are.bars key ∙ (λ i. bar_after key (st.bar key) (sym is i));
    ends = ends_stay s st e taken sent go was.links (still was.links) are.ends;
    each = λ a. end_stays s st e taken sent a ∙ are.each a;
    sessions = stay s st e was.sessions are.sessions (λ a server. none_moves s st e taken sent a);
    closed = closed_stays s st e taken sent are.closed;
    works = works;
    rooms = rooms;
    logs = refl;
  }

-- what a begin says of the works
abbrev pub WorksBegun : Jobs → Jobs → Job → Type 0
WorksBegun jobs jobs' what = (rows : Rows) (s : SetUp) (st : State) (e : Entry) (st' : State) → JobsOwn jobs rows → AreWorks s st jobs → e.kind ≡ Begin (jobs.begun + 1) what → Follows s st e st' → AreWorks s st' jobs'

-- and of the parts
abbrev pub PartsBegun : PartsView → PartsView → Job → Type 0
PartsBegun was now what = (s : SetUp) (st : State) (e : Entry) → AreParts s st was → e.kind ≡ Begin (was.jobs.begun + 1) what → e.taken ≡ None → e.sent ≡ [] → AreParts s (state_after s st e) now

pub begun_parts : {T E : Type 0} (r : Result T E) → EndsGo → ((links : List EndView) → AreAfter links links None []) → SessionsStay → (was : PartsView) (jobs : Jobs) (what : Job) (paths : List (List ℕ)) → OnOk r (Begins was.jobs what paths jobs)
    → OnOk r (WorksBegun was.jobs jobs what) → AreSound was → OnOk r (PartsBegun was (record { table = was.table; links = was.links; sessions = was.sessions; jobs = jobs }) what)
begun_parts (Ok x) go still stay was jobs what paths ok works sound = λ s st e are kind taken sent.
    begin_parts s st e (was.jobs.begun + 1) what kind go still stay taken sent was jobs are (ap (λ (j : Jobs). j.place) ok.jobs)
    (works was.table s st e (state_after s st e) sound.acting are.works kind (begin_follows s st e (was.jobs.begun + 1) what kind are.logs))
    (rooms_begun was.links was.jobs jobs what paths ok are.rooms)
begun_parts (Err e) go still stay was jobs what paths ok works sound = tt

-- what the sessions and the jobs have taken is the store's still
pub begun_fed : {T E : Type 0} (r : Result T E) (was : PartsView) (jobs : Jobs) → OnOk r ((q : StoredParts) → JobsFed q was.jobs.running → JobsFed q jobs.running)
    → OnOk r ((q : StoredParts) → AreAllFed q was → AreAllFed q (record { table = was.table; links = was.links; sessions = was.sessions; jobs = jobs }))
begun_fed (Ok x) was jobs ok = λ q fed. record { serving = fed.serving; acting = ok q fed.acting }
begun_fed (Err e) was jobs ok = tt
