-- A run that is cut has a full history, or a close lacked places.
use mathlib.Core.List.{reverse-cons}
use Rattle.std.proofs.Common.{◌≡◌, ◌⊎◌, inl, inr, ℕ, ◌<◌, Bool, List, [], ◌∷◌, refl, sym, ap, ◌∙◌, subst, arith, length-append}
use Rattle.std.specs.Prelude.{filter, length, reverse}
use Rattle.std.proofs.lemmas.List.Elements.{filter-append}
use Rattle.run_data.specs.Histories.{most_entries}
use Rattle.run_data.specs.declared.entry.Entry.{Entry}
use Rattle.run_data.specs.declared.run.RepoView.{RepoView}
use Rattle.run_data.specs.declared.run.Run.{Run}
use Rattle.driver_model.specs.Driver.{DriverInput}
use Rattle.driver_model.specs.Limits.{HasFull, LacksPlaces, count_of}
use Rattle.script_commands.specs.declared.command.Command.{Command}
use Rattle.driver_script.specs.Inputs.{driver_input_of}
use Rattle.driver_script.specs.Lines.{repos_of}
use Rattle.script_answers.specs.Top.{HasFullHistory, MeetsEntries}

-- as many pass a test in the order turned round
many_turned : (p : Entry → Bool) (xs : List Entry) → length (filter p (reverse xs)) ≡ length (filter p xs)
many_turned p [] = refl
many_turned p (x ∷ xs) =
    let turned = ap (λ (ys : List Entry). length (filter p ys)) (reverse-cons x xs) in
    let parts = ap length (filter-append p (reverse xs) (x ∷ [])) ∙ length-append (filter p (reverse xs)) (filter p (x ∷ [])) in
    let ahead = ap length (filter-append p (x ∷ []) xs) ∙ length-append (filter p (x ∷ [])) (filter p xs) in
    let rest = many_turned p xs in
    omega (arith, turned, parts, ahead, rest)

-- a repository of the script, whose history is full in the past that the run has, is one of the run
pub full_run : (g : DriverInput) (run : Run) → run.repos ≡ g.repos → (r : ℕ) × (r < length g.repos) × (count_of (reverse run.entries) r ≡ most_entries) → HasFullHistory run
full_run g run repos x =
    (x.0, subst (λ (rs : List RepoView). x.0 < length rs) (sym repos) x.1, sym (many_turned _ run.entries) ∙ x.2)

-- or a close lacked places
pub full_or_lacking : (script : List Command) (run : Run) → run.repos ≡ repos_of script → HasFull (driver_input_of script) (reverse run.entries) ⊎ LacksPlaces (driver_input_of script) script (reverse run.entries) → MeetsEntries script run
full_or_lacking script run repos (inl full) = inl (full_run (driver_input_of script) run repos full)
full_or_lacking script run repos (inr lacks) = inr lacks
