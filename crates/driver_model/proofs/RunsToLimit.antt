-- The run of a script up to the limit on histories is a run: its entries are a start of those that the driver makes.
use Rattle.std.proofs.Common.{◌≡◌, ℕ, ◌≤◌, Bool, true, false, List, [], ◌∷◌, ◌++◌, refl, sym, ap, ◌∙◌, subst, arith}
use Rattle.std.specs.Prelude.{if◌then◌else◌, length, reverse, take}
use Rattle.std.proofs.lemmas.List.{length-append, reverse-append}
use Rattle.std.proofs.Math.Seq.{take-append_seam}
use Rattle.annex_base.specs.Lists.{Each}
use Rattle.run_data.specs.Repos.{IsSetUp}
use Rattle.run_data.specs.declared.entry.Entry.{Entry}
use Rattle.run_data.specs.declared.run.Run.{Run}
use Rattle.run_model.specs.Run.{IsRun}
use Rattle.driver_model.specs.Driver.{Driver, DriverInput, at_first}
use Rattle.driver_model.specs.Driving.{does, run_with, with_mark}
use Rattle.driver_model.specs.Limits.{driver_at_cut, drives_to_limit, drives_until_cut, is_too_long, limited_run, meets_limit, run_to_limit, within_limit}
use Rattle.script_commands.specs.declared.command.Command.{Command}
use Rattle.driver_model.specs.Scripts.{HasBoundedPast, IsOne}
use Rattle.driver_model.proofs.Driven.{first_holds, keeps_line, keeps_marked, line_keys}
use Rattle.driver_model.proofs.Holding.{Keeps}
use Rattle.driver_model.proofs.LimitedRuns.{cut_at}
use Rattle.driver_model.proofs.Logged.{OwedKeys}
use Rattle.driver_model.proofs.Planned.{HasKeys}
use Rattle.driver_model.proofs.Premises.{Laws}

-- ---- what is within the limit is a start

abbrev LeavesOff : List Entry → List Entry → Type 0
LeavesOff past within = (more : List Entry) × (past ≡ more ++ within)

within_parts : (g : DriverInput) (past : List Entry) → LeavesOff past (within_limit g past)
within_parts g [] = ([], refl)
within_parts g (e ∷ past) = go (within_parts g past) (is_too_long g (e ∷ past))
  where
    go : LeavesOff past (within_limit g past) → (b : Bool) → LeavesOff (e ∷ past) (if b then within_limit g past else e ∷ past)
    go x true = (e ∷ x.0, ap (λ (rest : List Entry). e ∷ rest) x.1)
    go x false = ([], refl)

turned : (past within : List Entry) (x : LeavesOff past within) → reverse past ≡ reverse within ++ reverse x.0
turned past within x = ap reverse x.1 ∙ reverse-append x.0 within

start_of : (past within : List Entry) (x : LeavesOff past within) → take (length (reverse within)) (reverse past) ≡ reverse within
start_of past within x = ap (take (length (reverse within))) (turned past within x) ∙ take-append_seam (reverse within) (reverse x.0)

no_longer : (past within : List Entry) (x : LeavesOff past within) → length (reverse within) ≤ length (reverse past)
no_longer past within x = let e = ap length (turned past within x) ∙ length-append (reverse within) (reverse x.0) in omega (arith, e)

-- each start of a run is one
abbrev pub Starts : Type 0
Starts = (run : Run) (place : ℕ) → place ≤ length run.entries → IsRun run → IsRun (record run { entries = take place run.entries })

start_is_run : Starts → (run : Run) (past within : List Entry) → run.entries ≡ reverse past → LeavesOff past within → IsRun run → IsRun (record run { entries = reverse within })
start_is_run starts run past within same x is =
    let place : ℕ = length (reverse within) in
    subst (λ (es : List Entry). IsRun (record run { entries = es })) (ap (take place) same ∙ start_of past within x)
    (starts run place (subst (λ (es : List Entry). place ≤ length es) (sym same) (no_longer past within x)) is)

-- ---- the run up to there

module _ (laws : Laws) (keys : OwedKeys) (starts : Starts) (g : DriverInput) where
  cut_is_run : (line : Command) (d : Driver) → Keeps g (does g line d) → HasBoundedPast (does g line d) → IsRun (run_to_limit g line d)
  cut_is_run line d k fits =
      start_is_run starts (run_with g (does g line d)) (does g line d).past (within_limit g (does g line d).past) refl (within_parts g (does g line d).past) (k fits).run

  limited_is_run : (lines : List Command) (d : Driver) → Each (IsOne g) lines → HasKeys d.tree → Keeps g d → HasBoundedPast (drives_until_cut g lines d) → IsRun (drives_to_limit g lines d).run
  limited_is_run [] d all tree k fits = (k fits).run
  limited_is_run (line ∷ lines) d all tree k fits = go (limited_is_run lines after all.1 (line_keys laws g line d all.0 tree) (keeps_marked laws g (does g line d) done)) (meets_limit g line d) fits
    where
      after : Driver
      after = with_mark (does g line d)

      done : Keeps g (does g line d)
      done = keeps_line laws g keys line d all.0 tree k

      go : (HasBoundedPast (drives_until_cut g lines after) → IsRun (drives_to_limit g lines after).run) → (b : Bool) → HasBoundedPast (if b then does g line d else drives_until_cut g lines after)
          → IsRun (if b then cut_at g line d else drives_to_limit g lines after).run
      go more true x = cut_is_run line d done x
      go more false x = more x

  pub limited_run_is_run : (lines : List Command) → Each IsSetUp g.repos → Each (IsOne g) lines → HasBoundedPast (driver_at_cut g lines) → IsRun (limited_run g lines).run
  limited_run_is_run lines repos all fits = limited_is_run lines at_first all tt (λ f. first_holds laws g repos) fits
