-- What a crash leaves of the sessions, the jobs and the lock table of a repository (own).
use Rattle.std.specs.Prelude.{◌≡◌, ℕ, false, List, [], Option, None}
use Rattle.annex_base.specs.Lists.{Member}
use Rattle.run_data.specs.declared.entry.EntryKind.TheVariants.{Crash}
use Rattle.object_store.specs.Stores.{Parts}
use Rattle.object_store.specs.declared.keeper.HoldRecord.{HoldRecord}
use Rattle.content_lock.specs.Rows.{Rows, bar_at}
use Rattle.content_lock.specs.Stored.{Agrees}
use Rattle.link_ring.specs.Ends.{EndView}
use Rattle.node_model.specs.AnyTime.{all_ends}
use Rattle.node_model.specs.Ends.{EndName}
use Rattle.node_model.specs.Rows.{holds_after}
use Rattle.node_model.specs.Sessions.{Session as EndSession, new_session}
use Rattle.node_model.specs.SetUp.{SetUp}
use Rattle.p2p_server.specs.declared.session.Session.{Session}
use Rattle.node_sessions.specs.Sessions.{AreAllFed, AreFilled, AreSessions, HaveEnds, OwnAll}
use Rattle.running_jobs.specs.Running.{Jobs, OwnAll as JobsOwn}

-- no job runs, each session is as new, and the rows are those after a crash that sets the clock to this; what was the sessions', the
-- jobs' or the store's agrees with these
pub record Restarts (clock : ℕ) (xs xs' : List Session) (jobs : Jobs) (rows rows' : Rows) : Type 0 where
  pub sessions : (s : SetUp) (were are : EndName → EndSession) → AreSessions s were xs → ((a : EndName) → a.client ≡ false → Member a (all_ends s) → are a ≡ new_session) → AreSessions s are xs'
  pub holds : rows'.holds ≡ holds_after rows.holds (Crash clock)
  pub bars : (key : List ℕ) → bar_at rows' key ≡ None
  pub serving : OwnAll rows' xs'
  pub acting : JobsOwn (record jobs { running = [] }) rows'
  pub filled : AreFilled rows' xs' (λ key. false)
  pub there : (links : List EndView) → HaveEnds links xs → HaveEnds links xs'
  pub fed : (q : Parts) → AreAllFed q xs → AreAllFed q xs'
  pub agrees : (known : Option (List HoldRecord)) → Agrees known rows.holds → Agrees known rows'.holds
