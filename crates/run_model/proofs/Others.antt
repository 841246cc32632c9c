-- An entry of another repository changes nothing of a repository's state.
use Rattle.std.proofs.Common.{◌≡◌, ℕ, Bool, false, List, ◌∷◌, Option, Some, None, refl, ap, ◌∙◌}
use Rattle.std.specs.Prelude.{◌&&◌, if◌then◌else◌}
use Rattle.std.specs.Option.{option_or, unwrap_or}
use Rattle.annex_base.proofs.Functions.{funext}
use Rattle.annex_base.proofs.Options.{option_or-none}
use Rattle.union_merge.specs.Branch.{Files, lines_at}
use Rattle.node_model.specs.Settings.{settings}
use Rattle.run_data.specs.declared.entry.Entry.{Entry}
use Rattle.run_data.specs.declared.run.RepoView.{RepoView}
use Rattle.node_model.specs.Clocks.{runs_on}
use Rattle.node_model.specs.SetUp.{SetUp}
use Rattle.run_model.specs.Past.{begun_count, clock_set, holds, is_of, entry_count}
use Rattle.run_model.specs.Logs.{before_step, branch, lines_ever, in_drop, is_step, read_at, settings_of}
use Rattle.run_model.specs.States.{owes, state_of, works}

module _ (past : List Entry) (e : Entry) (r : ℕ) (is : is_of r e ≡ false) where
  set_other : (repos : List RepoView) → clock_set repos (e ∷ past) r ≡ clock_set repos past r
  set_other repos = rw is refl

  made_other : entry_count (e ∷ past) r ≡ entry_count past r
  made_other = rw is refl

  begun_other : begun_count (e ∷ past) r ≡ begun_count past r
  begun_other = rw is refl

  holds_other : holds (e ∷ past) r ≡ holds past r
  holds_other = rw is refl

  works_other : works (e ∷ past) r ≡ works past r
  works_other = rw is refl

  owes_other : (repos : List RepoView) → owes repos (e ∷ past) r ≡ owes repos past r
  owes_other repos = rw is refl

  branch_other : branch (e ∷ past) r ≡ branch past r
  branch_other = rw is refl

  settings_other : settings_of (e ∷ past) r ≡ settings_of past r
  settings_other = ap settings (funext (lines_ever (e ∷ past) r) (lines_ever past r) (λ path. rw is refl))

  before_other : (j : ℕ) → before_step (e ∷ past) r j ≡ before_step past r j
  before_other j = ap (λ (b : Bool). option_or (before_step past r j) (if b && (is_step j e.kind && in_drop past r j) then Some past else None)) is ∙ option_or-none (before_step past r j)

  read_other : (j : ℕ) → settings_of (read_at (e ∷ past) r j) r ≡ settings_of (read_at past r j) r
  read_other j = ap (λ o. settings_of (unwrap_or o (e ∷ past)) r) (before_other j) ∙ go (before_step past r j)
    where
      go : (o : Option (List Entry)) → settings_of (unwrap_or o (e ∷ past)) r ≡ settings_of (unwrap_or o past) r
      go None = settings_other
      go (Some p) = refl

-- **entries of others leave the state alone**
pub other_is : (s : SetUp) (past : List Entry) (e : Entry) → is_of s.number e ≡ false → state_of s (e ∷ past) ≡ state_of s past
other_is s past e is i =
    let r = s.number in
    let now = state_of s (e ∷ past) in
    let was = state_of s past in
    record {
      clock = ap runs_on (set_other past e r is s.repos) i;
      wall = was.wall;
      made = made_other past e r is i;
      begun = begun_other past e r is i;
      present = funext now.present was.present (λ key. rw is refl) i;
      bar = funext now.bar was.bar (λ key. rw is refl) i;
      content = funext now.content was.content (λ key. rw is refl) i;
      holds = holds_other past e r is i;
      ends = funext now.ends was.ends (λ a. rw is refl) i;
      sessions = funext now.sessions was.sessions (λ a. rw is refl) i;
      works = works_other past e r is i;
      owed = owes_other past e r is s.repos i;
      lines = ap (λ (files : Files). lines_at files) (branch_other past e r is) i;
      logs = settings_other past e r is i;
      read = funext now.read was.read (λ j. read_other past e r is j) i;
    }
