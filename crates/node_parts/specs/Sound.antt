-- What the parts of a repository have of its table and of its ends, whatever its store tells.
use Rattle.std.specs.Prelude.{◌≡◌, ◌*◌, length}
use Rattle.node_sessions.specs.Sessions.{AreFilled, HaveEnds, OwnAll}
use Rattle.running_jobs.specs.Running.{OwnAll as JobsOwn, fills_at}
use Rattle.node_parts.specs.Parts.{PartsView}

-- Each session and each job has what is its of the table, and the end of each session is there. The table fills the keys whose bytes
-- a session or a get takes, and no key is filled by both.
pub record AreSound (p : PartsView) : Type 0 where
  pub count : length p.links ≡ length p.jobs.place.ids * 8
  pub there : HaveEnds p.links p.sessions
  pub serving : OwnAll p.table p.sessions
  pub acting : JobsOwn p.jobs p.table
  pub filled : AreFilled p.table p.sessions (fills_at p.jobs.running)
