-- Each run that stops at a full history is the start of one that is sound.
use Rattle.std.proofs.Common.{◌≡◌, ℕ, ◌≤◌, Bool, true, false, List, [], ◌∷◌, ◌++◌, inl, inr, refl, sym, ap, ◌∙◌, subst, arith}
use Rattle.std.specs.Prelude.{cond, length, reverse, take}
use Rattle.std.proofs.lemmas.List.{reverse-append}
use Rattle.annex_base.specs.Lists.{Each}
use Rattle.run_data.specs.declared.entry.Entry.{Entry}
use Rattle.run_data.specs.declared.run.Run.{Run}
use Rattle.run_model.specs.Run.{IsRun}
use Rattle.driver_model.specs.Driver.{Driver, DriverInput}
use Rattle.driver_model.specs.Driving.{run_with, with_mark}
use Rattle.driver_model.specs.Limits.{is_too_long, within_limit}
use Rattle.script_commands.specs.declared.command.Command.{Command}
use Rattle.script_commands.specs.declared.command.Command.TheVariants.{Par}
use Rattle.driver_model.specs.Scripts.{IsOne}
use Rattle.driver_model.proofs.Driven.{keeps_marked}
use Rattle.driver_model.proofs.Holding.{Keeps}
use Rattle.driver_model.proofs.Logged.{OwedKeys}
use Rattle.driver_model.proofs.Premises.{Laws}
use Rattle.block_model.specs.Stopping.{LineFits, LineStops, LinesStop}
use Rattle.driver_model.proofs.Planned.{HasKeys}
use Rattle.block_model.proofs.Leads.{keeps_begun, keeps_it, keeps_leads, keys_it, keys_leads}

-- what is within the limit is the older part of the past
within_is : (g : DriverInput) (past : List Entry) → (more : List Entry) × (past ≡ more ++ within_limit g past)
within_is g [] = ([], refl)
within_is g (e ∷ past) = go (within_is g past) (is_too_long g (e ∷ past))
  where
    go : ((more : List Entry) × (past ≡ more ++ within_limit g past)) → (b : Bool) → (more : List Entry) × (e ∷ past ≡ more ++ cond b (within_limit g past) (e ∷ past))
    go x true = (e ∷ x.0, ap (λ zs. e ∷ zs) x.1)
    go x false = ([], refl)

take_all : {X : Type 0} (xs ys : List X) → take (length xs) (xs ++ ys) ≡ xs
take_all [] ys = refl
take_all (x ∷ xs) ys = ap (λ zs. x ∷ zs) (take_all xs ys)

length_less : {X : Type 0} (xs ys : List X) → length xs ≤ length (xs ++ ys)
length_less [] ys = omega arith
length_less (x ∷ xs) ys = let i = length_less xs ys in omega (arith, i)

abbrev Starts : Type 0
Starts = (run : Run) (place : ℕ) → place ≤ length run.entries → IsRun run → IsRun (record run { entries = take place run.entries })

pub start_within : Starts → (g : DriverInput) (d : Driver) → IsRun (run_with g d) → IsRun (record (run_with g d) { entries = reverse (within_limit g d.past) })
start_within starts g d run =
    let x = within_is g d.past in
    let w : List Entry = within_limit g d.past in
    let is : reverse d.past ≡ reverse w ++ reverse x.0 = ap reverse x.1 ∙ reverse-append x.0 w in
    let few : length (reverse w) ≤ length (reverse d.past) = subst (λ (zs : List Entry). length (reverse w) ≤ length zs) (sym is) (length_less (reverse w) (reverse x.0)) in
    subst (λ (zs : List Entry). IsRun (record (run_with g d) { entries = zs })) (ap (take (length (reverse w))) is ∙ take_all (reverse w) (reverse x.0)) (starts (run_with g d) (length (reverse w)) few run)

module _ (laws : Laws) (keys : OwedKeys) (g : DriverInput) where
  line_stops : (line : Command) (d after : Driver) → IsOne g line → HasKeys d.tree → LineStops g line d after → Keeps g d → Keeps g after
  line_stops (Par xs) d after one tree (inl x) k = keeps_begun laws g xs d after x.begun k
  line_stops (Par xs) d after one tree (inr x) k = keeps_leads laws keys g (Par xs) d after one tree (x.0, x.1, x.2) k
  line_stops line d after one tree x k = keeps_it laws keys g line d after one tree x.0 k

  line_fits : (line : Command) (d after : Driver) → IsOne g line → HasKeys d.tree → LineFits g line d after → Keeps g d → Keeps g after
  line_fits (Par xs) d after one tree x k = keeps_leads laws keys g (Par xs) d after one tree x.0 k
  line_fits line d after one tree x k = keeps_it laws keys g line d after one tree x.0 k

  keys_fits : (line : Command) (d after : Driver) → IsOne g line → HasKeys d.tree → LineFits g line d after → HasKeys after.tree
  keys_fits (Par xs) d after one tree x = keys_leads laws keys g (Par xs) d after one tree x.0
  keys_fits line d after one tree x = keys_it laws keys g line d after one tree x.0

  pub lines_stop : (lines : List Command) (d after : Driver) → Each (IsOne g) lines → HasKeys d.tree → LinesStop g lines d after → Keeps g d → Keeps g after
  lines_stop [] d after all tree x k = absurd x
  lines_stop (line ∷ lines) d after all tree (inl x) k = line_stops line d after all.0 tree x k
  lines_stop (line ∷ lines) d after all tree (inr x) k =
      lines_stop lines (with_mark x.0) after all.1 (keys_fits line d x.0 all.0 tree x.1) x.2 (keeps_marked laws g x.0 (line_fits line d x.0 all.0 tree x.1 k))
