-- A repository's state after an entry: the ends after it, and a state that rows and connections are those of.
use Rattle.std.proofs.Common.{ℕ, List, [], is_some, refl, sym, subst}
use Rattle.annex_base.specs.Lists.{Each}
use Rattle.run_data.specs.declared.entry.Entry.{Entry}
use Rattle.trust_groups.specs.Settings.{settings}
use Rattle.node_model.specs.After.{state_after}
use Rattle.node_model.specs.Around.{around}
use Rattle.node_model.specs.Jobs as jobs
use Rattle.node_model.specs.Jobs.{works_after}
use Rattle.node_model.specs.SetUp.{SetUp}
use Rattle.node_model.specs.State.{State}
use Rattle.state_rows.specs.Rows.{AreRowsOf, bar_of, holds_of, size_of}
use Rattle.state_rows.specs.declared.rows.Rows.{Rows}
use Rattle.state_ends.specs.Ends.{end_of}
use Rattle.state_sessions.specs.Sessions.{session_of}
use Rattle.state_jobs.specs.Around.{AreEndedBy}
use Rattle.state_owed.specs.Changes.{TalksWithin}
use Rattle.state_works.specs.Jobs.{AreWorksOf, works_of}
use Rattle.state_works.specs.declared.jobs.Jobs.{Jobs}
use Rattle.step_state.specs.Links.{AreLinksOf}
use Rattle.step_state.specs.Peers.{HasPeersIn}
use Rattle.step_state.specs.declared.links.Links.{Links}
use Rattle.step_state.proofs.PeerLemmas.{works_within}

-- the ends after an entry are those of the state after it
pub ended : (s : SetUp) (st : State) (e : Entry) (links : Links) → AreLinksOf links (state_after s st e) → AreEndedBy (around s st) e links.ends
ended s st e links are = λ a. sym (are.ends.ends a)

-- ---- a state

-- a set-up of a repository of this number
abbrev pub some_set_up : ℕ → SetUp
some_set_up r = record { number = r; repos = []; paths = λ j. [] }

-- a state with these rows and connections
abbrev pub some_state : Rows → Links → State
some_state rows links = record {
  clock = λ time. 0;
  wall = λ time. 0;
  made = 0;
  begun = 0;
  present = λ key. is_some (size_of rows key);
  bar = λ key. bar_of rows key;
  content = λ key. size_of rows key;
  holds = holds_of rows;
  ends = λ a. end_of links.ends a;
  sessions = λ a. session_of links.sessions a.peer a.slot;
  works = [];
  owed = [];
  lines = λ path. [];
  logs = settings (λ path. []);
  read = λ j. settings (λ path. []);
}

pub some_rows : (rows : Rows) (links : Links) → AreRowsOf rows (some_state rows links)
some_rows rows links = record { present = λ key. refl; content = λ key. refl; bar = λ key. refl; holds = refl }

pub some_links : (rows : Rows) (links : Links) → AreLinksOf links (some_state rows links)
some_links rows links = record { ends = record { ends = λ a. refl }; sessions = record { sessions = λ peer slot. refl } }

-- ---- the jobs after an entry

-- a state with these works instead
abbrev pub with_works : State → List jobs.Work → State
with_works st ws = record st { works = ws }

pub rows_beside : (rows : Rows) (st : State) (ws : List jobs.Work) → AreRowsOf rows st → AreRowsOf rows (with_works st ws)
rows_beside rows st ws are = record { present = are.present; content = are.content; bar = are.bar; holds = are.holds }

-- they talk within the run, where those before it do
pub jobs_within : (count r : ℕ) (was now : Jobs) (st : State) (e : Entry) → HasPeersIn count e → Each (TalksWithin count) (works_of was)
    → AreWorksOf now (state_after (some_set_up r) (with_works st (works_of was)) e) → Each (TalksWithin count) (works_of now)
jobs_within count r was now st e peers all are =
    subst (λ (ws : List jobs.Work). Each (TalksWithin count) ws) are.works (works_within count (around (some_set_up r) st) r (works_of was) e e.kind peers.sent peers.begun all)
