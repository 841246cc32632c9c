-- The run of a script is good, and what is due for it.
use Rattle.std.proofs.Common.{◌≡◌, ℕ, ◌<◌, ◌≤◌, Bool, true, false, if◌then◌else◌, List, ◌∷◌, [], ◌++◌, length, Result, Ok, Err, IfOk, OnOk, refl, sym, ap, ◌∙◌, subst, arith}
use Rattle.annex_base.specs.Lists.{Each}
use Rattle.run_data.specs.Histories.{most_entries}
use Rattle.run_data.specs.declared.run.Run.{Run}
use Rattle.run_model.specs.Causes.{HasCauses}
use Rattle.run_model.specs.Run as runs
use Rattle.run_model.specs.Safety.{IsSafe}
use Rattle.race_core.specs.Copies.{KeepsCopies}
use Rattle.script_commands.specs.declared.command.Command.{Command}
use Rattle.script_forms.specs.declared.fault.Quantity.{Quantity}
use Rattle.script_lang.specs.Script.{reading, BadLine, Commands, PastLimit, no_context}
use Rattle.script_lang.specs.Preconditions.{AllStand}
use Rattle.driver_model.specs.Driver.{Driver, DriverInput}
use Rattle.driver_model.specs.Driving.{does, with_mark}
use Rattle.driver_model.specs.Limits.{LimitedRun, drives_to_limit, limited_run, meets_limit, run_to_limit}
use Rattle.driver_script.specs.Inputs.{driver_input_of}
use Rattle.driver_script.specs.Lines.{repos_of}
use Rattle.driver_script.specs.Script.{IsScript, IsUnbuilt}
use Rattle.report_text.specs.Report.{report}
use Rattle.report_text.specs.Walk.{ShowsKnown}
use Rattle.script_answers.specs.declared.due.Due.{Due}
use Rattle.script_answers.specs.Runs.{IsRunOf}
use Rattle.script_answers.specs.Top.{HasGoodRun, IsCutReport, IsGood, IsReport, entries_name, limit_text}
use Rattle.script_answers.specs.Whole.{script_limit}
use Rattle.script_answers.proofs.DueLemmas.{FullLaw, HaveOneReading, commands_or_bad, commands_or_past}
use Rattle.script_answers.proofs.ReportLemmas.{script_shows_known}

-- ---- the run has the script's repositories

abbrev pub limited : Bool → Run → LimitedRun
limited is_cut run = record { run = run; is_cut = is_cut }

-- what comes of the lines from the first one on, where that meets a full history, and where it doesn't
abbrev pub comes_of : DriverInput → Command → List Command → Driver → Bool → LimitedRun
comes_of g line others d meets = if meets then limited true (run_to_limit g line d) else drives_to_limit g others (with_mark (does g line d))

one_has_repos : (g : DriverInput) (line : Command) (others : List Command) (d : Driver) (meets : Bool) → ((after : Driver) → (drives_to_limit g others after).run.repos ≡ g.repos)
    → (comes_of g line others d meets).run.repos ≡ g.repos
one_has_repos g line others d true later = refl
one_has_repos g line others d false later = later _

pub all_have_repos : (g : DriverInput) (lines : List Command) (d : Driver) → (drives_to_limit g lines d).run.repos ≡ g.repos
all_have_repos g [] d = refl
all_have_repos g (line ∷ others) d = one_has_repos g line others d (meets_limit g line d) (all_have_repos g others)

-- ---- the run of a script

-- the laws that the lemmas take
pub record Laws : Type 0 where
  pub copies : (run : Run) → runs.IsRun run → KeepsCopies run
  pub safe : (run : Run) → runs.IsRun run → IsSafe run
  pub causes : (run : Run) → runs.IsRun run → HasCauses run

module _ (bytes : List ℕ) (script : List Command) (is_cut : Bool) (run : Run) (says : reading bytes ≡ Commands script) (r : IsRunOf script is_cut run) where
  pub script_is : IsScript bytes script
  script_is = record { says = says; built = r.built }

  pub run_is : (limited_run (driver_input_of script) script).run ≡ run
  run_is = ap (λ (x : LimitedRun). x.run) r.run_is

  pub cut_is : (limited_run (driver_input_of script) script).is_cut ≡ is_cut
  cut_is = ap (λ (x : LimitedRun). x.is_cut) r.run_is

  -- it is good, up to where it is cut
  pub good_run : HaveOneReading → Laws → HasGoodRun bytes
  good_run x laws = λ other is.
      let good : IsGood run = record { is_run = r.lawful; copies = laws.copies run r.lawful; safe = laws.safe run r.lawful; causes = laws.causes run r.lawful } in
      subst (λ (all : List Command). IsGood (limited_run (driver_input_of all) all).run) (x.script bytes script other script_is is) (subst IsGood (sym run_is) good)

  pub run_has_repos : repos_of script ≡ run.repos
  run_has_repos = sym (all_have_repos (driver_input_of script) script _) ∙ ap (λ (x : Run). x.repos) run_is

  -- the script shows what is of the run's repositories
  pub run_shows_known : AllStand no_context script → Each (ShowsKnown (length run.repos)) script
  run_shows_known stand = subst (λ n. Each (ShowsKnown n) script) (ap length run_has_repos) (script_shows_known script stand)

  -- the report of it is due, where it isn't cut
  pub whole_is_due : (text : List ℕ) → length bytes ≤ script_limit → is_cut ≡ false → text ≡ report script run → IsReport bytes text
  whole_is_due text short whole text_is = record {
    short = short;
    script = script;
    is_script = script_is;
    whole = cut_is ∙ whole;
    text_is = text_is ∙ ap (report script) (sym run_is);
  }

  -- and with the limit, where it is
  pub cut_is_due : (text : List ℕ) → length bytes ≤ script_limit → FullLaw → is_cut ≡ true → text ≡ report script run ++ limit_text entries_name most_entries → IsCutReport bytes text
  cut_is_due text short law cuts text_is = record {
    short = short;
    script = script;
    is_script = script_is;
    cut = cut_is ∙ cuts;
    full = law bytes script script_is (cut_is ∙ cuts);
    text_is = text_is ∙ ap (λ (x : Run). report script x ++ limit_text entries_name most_entries) (sym run_is);
  }

-- ---- where there is no run

pub bad_has_none : (bytes : List ℕ) (line byte : ℕ) → reading bytes ≡ BadLine line byte → HasGoodRun bytes
bad_has_none bytes line byte bad = λ script is. absurd (commands_or_bad (reading bytes) script line byte is.says bad)

pub past_has_none : (bytes : List ℕ) (quantity : Quantity) → reading bytes ≡ PastLimit quantity → HasGoodRun bytes
past_has_none bytes quantity past = λ script is. absurd (commands_or_past (reading bytes) script quantity is.says past)

pub missing_has_none : HaveOneReading → (bytes : List ℕ) (line : ℕ) → IsUnbuilt bytes line → HasGoodRun bytes
missing_has_none x bytes line unbuilt = λ script is. absurd (x.one bytes script line is unbuilt)

-- ---- what is said of an answer

pub good_where_ok : {E : Type 0} (r : Result Due E) (bytes : List ℕ) → HasGoodRun bytes → OnOk r (HasGoodRun bytes)
good_where_ok (Ok d) bytes good = good
good_where_ok (Err e) bytes good = tt

pub good_by : {E : Type 0} (r : Result Due E) (bytes : List ℕ) (P : Due → Type 0) → OnOk r (HasGoodRun bytes) → IfOk r (λ d. P d → HasGoodRun bytes)
good_by (Ok d) bytes P good = λ is. good
good_by (Err e) bytes P good = tt

pub always_good : {E : Type 0} (r : Result Due E) (bytes : List ℕ) (P : Due → Type 0) → HasGoodRun bytes → IfOk r (λ d. P d → HasGoodRun bytes)
always_good (Ok d) bytes P good = λ is. good
always_good (Err e) bytes P good = tt

-- more bytes than a script may have are none that is cut
pub long_is_none : {E : Type 0} (r : Result Due E) (bytes : List ℕ) → script_limit < length bytes → IfOk r (λ d. IsCutReport bytes d.text.items → HasGoodRun bytes)
long_is_none (Ok d) bytes long = λ cut. let short = cut.short in absurd (omega (arith, long, short))
long_is_none (Err e) bytes long = tt
