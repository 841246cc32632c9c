-- The moving parts of a repository, and the state that they are (own).
use Rattle.std.specs.Prelude.{◌≡◌, ℕ, ◌==◌, List, true, false, is_some, length}
use Rattle.std.specs.Option.{option_map}
use Rattle.annex_base.specs.Lists.{Each}
use Rattle.drop_proof.specs.declared.rule.Side.TheVariants.{Remote}
use Rattle.object_store.specs.Stores.{Contents, Parts as StoredParts}
use Rattle.content_lock.specs.Rows.{Rows, bar_at}
use Rattle.link_ring.specs.Ends.{EndView}
use Rattle.drop_phases.specs.Apart.{is_locked_in}
use Rattle.drop_phases.specs.Sides.{side_in}
use Rattle.drop_phases.specs.Working.{end_in}
use Rattle.node_ends.specs.Ends.{AreEnds, end_at, room_at}
use Rattle.p2p_server.specs.declared.session.Session.{Session}
use Rattle.node_sessions.specs.Sessions.{AreSessions, AreAllFed as SessionsFed}
use Rattle.running_jobs.specs.Places.{IsPlace}
use Rattle.running_jobs.specs.Running.{AreWorks, Jobs, AreAllFed as JobsFed}
use Rattle.running_jobs.specs.Task.{Task}
use Rattle.running_jobs.specs.Task.TheVariants as tasks
use Rattle.trust_groups.specs.Settings.{settings}
use Rattle.node_model.specs.Ends.{EndName}
use Rattle.node_model.specs.Sessions.{new_session}
use Rattle.node_model.specs.SetUp.{SetUp}
use Rattle.node_model.specs.State.{State}

-- its rows, its ends with the frames at hand and on the way, its sessions as a server, and its running jobs
pub record PartsView : Type 0 where
  pub table : Rows
  pub links : List EndView
  pub sessions : List Session
  pub jobs : Jobs

-- while a drop that removes from its peer has a lock of another repository, its end there has room, where it is open
abbrev pub HasLockRooms : List EndView → ℕ → Task → Type 0
HasLockRooms links own (tasks.Drops j) =
    side_in j.worker ≡ Remote → (peer : ℕ) → (own == peer) ≡ false → is_locked_in j.worker peer ≡ true → (end_at links (end_in j.worker.slot peer)).opened ≡ true → room_at links (end_in j.worker.slot peer) ≡ true
HasLockRooms links own (tasks.Transfers w) = Unit {0}

-- the parts are those of this state
pub record AreParts (s : SetUp) (st : State) (p : PartsView) : Type 0 where
  pub place : IsPlace p.jobs.place s
  pub holds : p.table.holds ≡ st.holds
  pub bars : (key : List ℕ) → bar_at p.table key ≡ st.bar key
  pub ends : AreEnds p.links s st
  pub each : (a : EndName) → st.ends a ≡ end_at p.links a
  pub sessions : AreSessions s st.sessions p.sessions
  pub closed : (a : EndName) → a.client ≡ false → (st.ends a).opened ≡ false → st.sessions a ≡ new_session
  pub works : AreWorks s st p.jobs
  pub rooms : Each (HasLockRooms p.links p.jobs.place.number) p.jobs.running
  pub logs : st.logs ≡ settings st.lines

-- the store has the contents of this state
pub record HasContents (c : Contents) (st : State) : Type 0 where
  pub present : (key : List ℕ) → is_some (c key) ≡ st.present key
  pub content : (key : List ℕ) → option_map length (c key) ≡ st.content key

-- what each session and each get has taken of a part is the store's part
pub record AreAllFed (q : StoredParts) (p : PartsView) : Type 0 where
  pub serving : SessionsFed q p.sessions
  pub acting : JobsFed q p.jobs.running
