-- What a repository reads of a past is what it reads of its own entries there.
use Rattle.std.proofs.Common.{◌≡◌, ℕ, ◌+◌, Bool, true, false, List, [], ◌∷◌, ◌++◌, refl, ap, ◌∙◌}
use Rattle.std.specs.Prelude.{filter, if◌then◌else◌, ◌&&◌}
use Rattle.annex_base.proofs.Functions.{funext}
use Rattle.run_data.specs.declared.entry.Entry.{Entry}
use Rattle.run_data.specs.declared.run.RepoView.{RepoView}
use Rattle.run_model.specs.Past.{bar, begun_count, holds, is_of, entry_count, present, clock_set, set_after}
use Rattle.node_model.specs.Rows.{bar_after, holds_after, present_after, content_after}
use Rattle.node_model.specs.Slots.{is_begin}
use Rattle.node_model.specs.Clocks.{runs_on, wall}
use Rattle.run_model.specs.Logs.{added_by, branch, branch_after, lines_ever, lines_of_file, read_at, settings_of}
use Rattle.trust_groups.specs.Settings.{settings}
use Rattle.union_merge.specs.Branch.{lines_at}
use Rattle.node_model.specs.SetUp.{SetUp}
use Rattle.node_model.specs.Ends.{EndName, end_after, sent_at, taken_at}
use Rattle.run_model.specs.States.{end_at, content, session, rows_at, works, owes, state_of}
use Rattle.node_model.specs.Sessions.{session_after}
use Rattle.node_model.specs.Jobs.{works_after}
use Rattle.node_model.specs.OwedLines.{owed_after}
use Rattle.past_facts.proofs.OwnPasts.{own_reading}

-- the entries of r
abbrev pub own : ℕ → List Entry → List Entry
own r past = filter (is_of r) past

-- a function of the past that only r's entries change, in a way that reads no more than r's entries
by_own : {X : Type 0} (r : ℕ) (f : List Entry → X) (g : List Entry → X → Entry → X)
    → ((e : Entry) (past : List Entry) → f (e ∷ past) ≡ (if is_of r e then g past (f past) e else f past))
    → ((past : List Entry) (was : X) (e : Entry) → g past was e ≡ g (own r past) was e)
    → (past : List Entry) → f past ≡ f (own r past)
by_own r f g steps reads [] = refl
by_own {X = X} r f g steps reads (e ∷ past) = go (by_own r f g steps reads past) (is_of r e) refl
  where
    go : f past ≡ f (own r past) → (b : Bool) → is_of r e ≡ b → f (e ∷ past) ≡ f (own r (e ∷ past))
    go same true is = rw (steps e past, is) (rw (steps e (own r past), is) (ap (λ (x : X). g past x e) same ∙ reads past (f (own r past)) e))
    go same false is = rw (steps e past, is) same

module _ (r : ℕ) where
  own_present : (key : List ℕ) (past : List Entry) → present past r key ≡ present (own r past) r key
  own_present key past = by_own r (λ p. present p r key) (λ p was e. present_after key was e.kind) (λ e p. refl) (λ p was e. refl) past

  own_bar : (key : List ℕ) (past : List Entry) → bar past r key ≡ bar (own r past) r key
  own_bar key past = by_own r (λ p. bar p r key) (λ p was e. bar_after key was e.kind) (λ e p. refl) (λ p was e. refl) past

  own_holds : (past : List Entry) → holds past r ≡ holds (own r past) r
  own_holds past = by_own r (λ p. holds p r) (λ p was e. holds_after was e.kind) (λ e p. refl) (λ p was e. refl) past

  own_made : (past : List Entry) → entry_count past r ≡ entry_count (own r past) r
  own_made past = by_own r (λ p. entry_count p r) (λ p was e. was + 1) (λ e p. refl) (λ p was e. refl) past

  own_begun : (past : List Entry) → begun_count past r ≡ begun_count (own r past) r
  own_begun past = by_own r (λ p. begun_count p r) (λ p was e. if is_begin e.kind then was + 1 else was) (λ e p. both (is_of r e) (is_begin e.kind) (begun_count p r)) (λ p was e. refl) past
    where
      both : (b c : Bool) (n : ℕ) → (if b && c then n + 1 else n) ≡ (if b then (if c then n + 1 else n) else n)
      both true c n = refl
      both false c n = refl

  own_content : (key : List ℕ) (past : List Entry) → content past r key ≡ content (own r past) r key
  own_content key past = by_own r (λ p. content p r key) (λ p was e. content_after key was e.kind) (λ e p. refl) (λ p was e. refl) past

  own_ends : (a : EndName) (past : List Entry) → end_at past r a ≡ end_at (own r past) r a
  own_ends a past = by_own r (λ p. end_at p r a) (λ p was e. end_after a was e) (λ e p. refl) (λ p was e. refl) past

  contents_same : (past : List Entry) → content past r ≡ content (own r past) r
  contents_same past = funext (content past r) (content (own r past) r) (λ key. own_content key past)

  own_session : (a : EndName) (past : List Entry) → session past r a ≡ session (own r past) r a
  own_session a past = by_own r (λ p. session p r a) (λ p was e. session_after (content p r) e.kind was (sent_at a e.sent) (taken_at a e.taken)) (λ e p. refl)
      (λ p was e. ap (λ size. session_after size e.kind was (sent_at a e.sent) (taken_at a e.taken)) (contents_same p)) past

  rows_same : (past : List Entry) → rows_at past r ≡ rows_at (own r past) r
  rows_same past i = record {
    present = funext (present past r) (present (own r past) r) (λ key. own_present key past) i;
    bar = funext (bar past r) (bar (own r past) r) (λ key. own_bar key past) i;
    ends = funext (end_at past r) (end_at (own r past) r) (λ a. own_ends a past) i;
  }

  own_works : (past : List Entry) → works past r ≡ works (own r past) r
  own_works past = by_own r (λ p. works p r) (λ p was e. works_after (rows_at p r) r was e e.kind) (λ e p. refl)
      (λ p was e. ap (λ rows. works_after rows r was e e.kind) (rows_same p)) past

  own_branch : (past : List Entry) → branch past r ≡ branch (own r past) r
  own_branch past = by_own r (λ p. branch p r) (λ p was e. branch_after was e.kind e.lines) (λ e p. refl) (λ p was e. refl) past

  kept_same : (past : List Entry) → lines_of_file past r ≡ lines_of_file (own r past) r
  kept_same past = ap (λ files. lines_at files) (own_branch past)

  own_ever : (path : List ℕ) (past : List Entry) → lines_ever past r path ≡ lines_ever (own r past) r path
  own_ever path past = by_own r (λ p. lines_ever p r path) (λ p was e. added_by path e.kind e.lines ++ was) (λ e p. refl) (λ p was e. refl) past

  own_settings : (past : List Entry) → settings_of past r ≡ settings_of (own r past) r
  own_settings past = ap settings (funext (lines_ever past r) (lines_ever (own r past) r) (λ path. own_ever path past))

  own_clock : (repos : List RepoView) (past : List Entry) → clock_set repos past r ≡ clock_set repos (own r past) r
  own_clock repos past = by_own r (λ p. clock_set repos p r) (λ p was e. set_after e.time was e.kind) (λ e p. refl) (λ p was e. refl) past

  own_owes : (repos : List RepoView) (past : List Entry) → owes repos past r ≡ owes repos (own r past) r
  own_owes repos past = by_own r (λ p. owes repos p r) (λ p was e. owed_after repos (lines_of_file p r) (wall repos r e.time) (works p r) r was e e.kind) (λ e p. refl)
      (λ p was e. ap (λ lines. owed_after repos lines (wall repos r e.time) (works p r) r was e e.kind) (kept_same p)
      ∙ ap (λ ws. owed_after repos (lines_of_file (own r p) r) (wall repos r e.time) ws r was e e.kind) (own_works p)) past

-- a state is one of the repository's own entries
pub state_own : (s : SetUp) (past : List Entry) → state_of s past ≡ state_of s (own s.number past)
state_own s past i = record {
  clock = λ time. runs_on (own_clock s.number s.repos past i) time;
  wall = wall s.repos s.number;
  made = own_made s.number past i;
  begun = own_begun s.number past i;
  present = funext (present past s.number) (present (own s.number past) s.number) (λ key. own_present s.number key past) i;
  bar = funext (bar past s.number) (bar (own s.number past) s.number) (λ key. own_bar s.number key past) i;
  content = contents_same s.number past i;
  holds = own_holds s.number past i;
  ends = funext (end_at past s.number) (end_at (own s.number past) s.number) (λ a. own_ends s.number a past) i;
  sessions = funext (session past s.number) (session (own s.number past) s.number) (λ a. own_session s.number a past) i;
  works = own_works s.number past i;
  owed = own_owes s.number s.repos past i;
  lines = kept_same s.number past i;
  logs = own_settings s.number past i;
  read = funext (λ j. settings_of (read_at past s.number j) s.number) (λ j. settings_of (read_at (own s.number past) s.number j) s.number)
      (λ j. own_reading s.number j past) i;
}
