-- A repository's state that stays what it was, but for the room that it has, stays that of the same states.
use Rattle.std.proofs.Common.{◌≡◌, ℕ, ◌<◌, ◌≤◌, List, Option, reverse, is_some, refl, sym, ap, subst, ◌∙◌, arith}
use Rattle.annex_base.specs.Lists.{Each}
use Rattle.annex_base.proofs.Lists.{Each-weaker}
use Rattle.run_data.specs.declared.entry.Entry.{Entry}
use Rattle.run_data.specs.declared.row.Hold.{Hold}
use Rattle.trust_groups.specs.Settings.{settings}
use Rattle.union_merge.specs.Branch.{Files as BranchFiles, lines_at}
use Rattle.node_model.specs.Ends.{End, EndName}
use Rattle.node_model.specs.Jobs as jobs
use Rattle.node_model.specs.SetUp.{SetUp}
use Rattle.node_model.specs.State.{State}
use Rattle.state_rows.specs.Changes.{number_at}
use Rattle.state_rows.specs.Rows as of_rows
use Rattle.state_rows.specs.Rows.{AreRowsOf, size_of}
use Rattle.state_rows.specs.declared.rows.Rows.{Rows}
use Rattle.state_ends.specs.Bounds as end_bounds
use Rattle.state_ends.specs.Ends as of_ends
use Rattle.state_ends.specs.Ends.{end_of}
use Rattle.state_ends.specs.Sides.{end_on}
use Rattle.state_ends.specs.declared.ends.Ends.{Ends}
use Rattle.state_ends.specs.declared.side.Connection.{Connection}
use Rattle.state_sessions.specs.Doings.{number_in}
use Rattle.state_sessions.specs.Heard.{IsHeardIn}
use Rattle.state_sessions.specs.Tables.{session_in}
use Rattle.state_sessions.specs.declared.doing.Session.{Session}
use Rattle.state_sessions.specs.declared.heard.Heard.{Heard}
use Rattle.state_files.specs.Files.{AreFilesOf, branch_of}
use Rattle.state_files.specs.declared.files.Files.{Files}
use Rattle.state_jobs.specs.Phases.{IsBelow}
use Rattle.state_jobs.specs.declared.phase.Phase.{Phase}
use Rattle.state_jobs.specs.declared.phase.Phase.TheVariants.{GetsBytes, PutsBytes}
use Rattle.state_jobs.specs.declared.work.Work.{Work}
use Rattle.state_works.specs.Jobs as of_works
use Rattle.state_works.specs.Jobs.{works_of}
use Rattle.state_works.specs.declared.jobs.Jobs.{Jobs}
use Rattle.state_reads.specs.Reads.{HasReadAs, reading_in}
use Rattle.state_reads.specs.declared.kept.Kept.{Kept}
use Rattle.state_owed.specs.Changes.{AddsWithin, TalksWithin}
use Rattle.state_owed.specs.Lines.{IsWithin}
use Rattle.step_state.specs.Bounds.{AreBounded, limit_after}
use Rattle.step_state.specs.Counts.{AreCountsOf, made_in}
use Rattle.step_state.specs.Links as of_links
use Rattle.step_state.specs.Links.{AreLinksOf}
use Rattle.step_state.specs.Places.{IsPlaceOf, count_in}
use Rattle.step_state.specs.States.{ArePartsOf, HasRoom, IsChangeOf, IsStateOf, StaysSame}
use Rattle.step_state.specs.Working as of_working
use Rattle.step_state.specs.Working.{AreWithin, AreWorkingOf}
use Rattle.step_state.specs.declared.counts.Counts.{Counts}
use Rattle.step_state.specs.declared.links.Links.{Links}
use Rattle.step_state.specs.declared.place.Place.{Place}
use Rattle.step_state.specs.declared.state.RepoState.{RepoState}
use Rattle.step_state.specs.declared.state.StateChange.{StateChange}
use Rattle.step_state.specs.declared.working.Working.{Working}

-- ---- the parts

rows_stay : (was now : Rows) (st : State) → of_rows.StaySame was now → AreRowsOf was st → AreRowsOf now st
rows_stay was now st same are = record {
  present = λ key. are.present key ∙ ap (λ (entries : List (List ℕ × ℕ)). is_some (number_at entries key)) (sym same.sizes);
  content = λ key. are.content key ∙ ap (λ (entries : List (List ℕ × ℕ)). number_at entries key) (sym same.sizes);
  bar = λ key. are.bar key ∙ ap (λ (entries : List (List ℕ × ℕ)). number_at entries key) (sym same.bars);
  holds = are.holds ∙ ap (λ (hs : List Hold). reverse hs) (sym same.holds);
}

end_stays : (was now : Ends) (a : EndName) → of_ends.StaySame was now → end_of was a ≡ end_of now a
end_stays was now a same =
    ap (λ (side : List (Connection × End)). end_on side was.servers.entries a) (sym same.clients)
    ∙ ap (λ (side : List (Connection × End)). end_on now.clients.entries side a) (sym same.servers)

links_stay : (was now : Links) (st : State) → of_links.StaySame was now → AreLinksOf was st → AreLinksOf now st
links_stay was now st same are = record {
  ends = record { ends = λ a. are.ends.ends a ∙ end_stays was.ends now.ends a same.ends };
  sessions = record { sessions = λ peer slot. are.sessions.sessions peer slot ∙ ap (λ (table : List (Connection × Session)). session_in table peer slot) (sym same.sessions) };
}

pub links_below : (was now : Links) (limit : ℕ) → of_links.StaySame was now → of_links.AreBelow limit was → of_links.AreBelow limit now
links_below was now limit same below = record {
  ends = λ a. subst (λ (x : End). end_bounds.IsBelow limit x) (end_stays was.ends now.ends a same.ends) (below.ends a);
  sessions = λ peer slot. subst (λ (table : List (Connection × Session)). number_in (session_in table peer slot).doing < limit) (sym same.sessions) (below.sessions peer slot);
}

working_stay : (was now : Working) (s : SetUp) (st : State) → of_working.StaySame was now → AreWorkingOf was s st → AreWorkingOf now s st
working_stay was now s st same are = record {
  works = record { works = are.works.works ∙ sym same.jobs.works };
  reads = record { each = λ w only. subst (λ (kept : List Kept). HasReadAs s st w (reading_in kept w.number)) (sym same.reads.kept) (are.reads.each w only) };
  owed = record { owed = are.owed.owed ∙ sym same.owed };
}

pub within_stays : (was now : Working) (count : ℕ) → of_working.StaySame was now → AreWithin count was → AreWithin count now
within_stays was now count same is = record {
  jobs = subst (λ (ws : List jobs.Work). Each (TalksWithin count) ws) (sym same.jobs.works) is.jobs;
  owed = subst (Each (IsWithin count)) (sym same.owed) is.owed;
}

pub files_stay : (was now : Files) (st : State) → branch_of now ≡ branch_of was → AreFilesOf was st → AreFilesOf now st
files_stay was now st same are = record {
  lines = λ path. are.lines path ∙ ap (λ (b : BranchFiles). lines_at b path) (sym same);
  logs = are.logs ∙ ap (λ (b : BranchFiles). settings (lines_at b)) (sym same);
}

-- ---- the whole

pub parts_stay : (was now : RepoState) (s : SetUp) (st : State) → StaysSame was now → ArePartsOf was s st → ArePartsOf now s st
parts_stay was now s st same are = record {
  place = subst (λ (p : Place). IsPlaceOf p s) (sym same.place) are.place;
  wall = are.wall;
  counts = subst (λ (c : Counts). AreCountsOf c st) (sym same.counts) are.counts;
  rows = rows_stay was.rows now.rows st same.rows are.rows;
  links = links_stay was.links now.links st same.links are.links;
  working = working_stay was.working now.working s st same.working are.working;
}

pub state_stays : (was now : RepoState) (s : SetUp) (st : State) → StaysSame was now → IsStateOf was s st → IsStateOf now s st
state_stays was now s st same is = record { parts = parts_stay was now s st same is.parts; files = files_stay was.files now.files st same.files is.files }

pub change_stays : (was now : RepoState) (e : Entry) (change : StateChange) → StaysSame was now → IsChangeOf was e change → IsChangeOf now e change
change_stays was now e change same is = record {
  rows = is.rows;
  heard = subst (λ (entries : List (List ℕ × ℕ)). IsHeardIn (λ key. number_at entries key) e change.heard) (sym same.rows.sizes) is.heard;
  jobs = subst (λ (ws : List jobs.Work). of_works.IsChangeOf ws e change.working.jobs) (sym same.working.jobs.works) is.jobs;
  within = subst (λ (p : Place). AddsWithin (count_in p) change.working.owed) (sym same.place) is.within;
}

pub well_stays : (p : Place) (c : Counts) (links links_now : Links) (x now : Working) → of_links.StaySame links links_now → of_working.StaySame x now → AreBounded p c links x → AreBounded p c links_now now
well_stays p c links links_now x now same stay is = record {
  links_below = links_below links links_now (limit_after (made_in c)) same is.links_below;
  jobs_below = stay.jobs.below (limit_after (made_in c)) is.jobs_below;
  within = within_stays x now (count_in p) stay is.within;
}

-- ---- limits

phase_higher : (limit more : ℕ) (phase : Phase) → limit ≤ more → IsBelow limit phase → IsBelow more phase
phase_higher limit more (GetsBytes peer start size left) le below = omega (arith, below)
phase_higher limit more (PutsBytes peer start at left) le below = omega (arith, below)
phase_higher limit more phase le below = omega (arith, below)

pub jobs_higher : (limit more : ℕ) (x : Jobs) → limit ≤ more → of_works.AreBelow limit x → of_works.AreBelow more x
jobs_higher limit more x le below = Each-weaker (λ (w : Work). IsBelow limit w.phase) (λ w. IsBelow more w.phase) (λ w b. phase_higher limit more w.phase le b) x.running.items below

pub ends_higher : (limit more : ℕ) (x : Ends) → limit ≤ more → of_ends.AreBelow limit x → of_ends.AreBelow more x
ends_higher limit more x le below = λ a. record { epoch = omega (arith, (below a).epoch); sent = omega (arith, (below a).sent) }

pub links_higher : (limit more : ℕ) (x : Links) → limit ≤ more → of_links.AreBelow limit x → of_links.AreBelow more x
links_higher limit more x le below = record {
  ends = ends_higher limit more x.ends le below.ends;
  sessions = λ peer slot. let b = below.sessions peer slot in omega (arith, b);
}

-- ---- with nothing changed, or the files alone

pub links_same : (x : Links) → of_links.StaySame x x
links_same x = record { ends = record { clients = refl; servers = refl }; sessions = refl }

pub working_same : (x : Working) → of_working.StaySame x x
working_same x = record { jobs = record { works = refl; below = λ limit below. below }; reads = record { kept = refl }; owed = refl }

pub heard_was : (was now : Rows) (e : Entry) (heard : Option Heard) → of_rows.StaySame was now → IsHeardIn (size_of now) e heard → IsHeardIn (size_of was) e heard
heard_was was now e heard same is = subst (λ (entries : List (List ℕ × ℕ)). IsHeardIn (λ key. number_at entries key) e heard) same.sizes is

abbrev pub with_files : RepoState → Files → RepoState
with_files x f = record x { files = f }

pub parts_beside : (x : RepoState) (f : Files) (s : SetUp) (st : State) → ArePartsOf x s st → ArePartsOf (with_files x f) s st
parts_beside x f s st are = record { place = are.place; wall = are.wall; counts = are.counts; rows = are.rows; links = are.links; working = are.working }

pub room_beside : (x : RepoState) (f : Files) (sent : ℕ) → HasRoom sent x → HasRoom sent (with_files x f)
room_beside x f sent has = record { rows = has.rows; links = has.links; working = has.working }

pub change_beside : (x : RepoState) (f : Files) (e : Entry) (change : StateChange) → IsChangeOf x e change → IsChangeOf (with_files x f) e change
change_beside x f e change is = record { rows = is.rows; heard = is.heard; jobs = is.jobs; within = is.within }
