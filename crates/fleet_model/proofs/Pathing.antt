-- The paths that a node's jobs were given stay those of the run, as it goes on.
use Rattle.std.proofs.Common.{◌≡◌, ℕ, ◌≤◌, List, [], ◌∷◌, ◌++◌, Option, Some, None, length, map, take, sym, ap, ◌∙◌, subst, arith, le_refl, le_trans}
use Rattle.std.specs.Prelude.{IfSome, reverse}
use Rattle.std.proofs.lemmas.List.{length-append, length-reverse, reverse-append, reverse-reverse}
use Rattle.std.proofs.Math.Seq.{take-append_seam}
use Rattle.annex_base.specs.Lists.{Each, Member}
use Rattle.annex_base.proofs.Lists.{Each-map, Each-member, Each-weaker}
use Rattle.run_data.specs.declared.entry.Entry.{Entry}
use Rattle.run_model.specs.Past.{begun_count}
use Rattle.run_model.specs.Run.{paths_at}
use Rattle.run_model.specs.Safety.{past_at}
use Rattle.past_facts.proofs.PlaceParts.{begun_more}
use Rattle.driver_model.specs.Driver.{Driver, DriverInput, set_up_of}
use Rattle.driver_model.specs.Driving.{run_with}
use Rattle.driver_model.specs.ScriptSteps.{enters}
use Rattle.driver_model.specs.Sound.{IsSound}
use Rattle.joined_nodes.specs.Task.{Task}
use Rattle.joined_nodes.specs.Task.TheVariants as tasks
use Rattle.joined_nodes.specs.Running.{HadPathsOf, given_of}
use Rattle.fleet_model.specs.Fleets.{HasGiven}
use Rattle.fleet_model.proofs.Hearing.{WordLaws}

-- the past of a run at the place where it stood before
past_there : (g : DriverInput) (d d' : Driver) (more : List Entry) → d'.past ≡ more ++ d.past → past_at (run_with g d') (length d.past) ≡ d.past
past_there g d d' more on =
    ap (λ (es : List Entry). reverse (take (length d.past) es)) (ap reverse on ∙ reverse-append more d.past)
    ∙ (ap (λ (n : ℕ). reverse (take n (reverse d.past ++ reverse more))) (sym (length-reverse d.past)) ∙ (ap reverse (take-append_seam (reverse d.past) (reverse more)) ∙ reverse-reverse d.past))

begun_grows : (r : ℕ) (more past : List Entry) → begun_count past r ≤ begun_count (more ++ past) r
begun_grows r [] past = le_refl (begun_count past r)
begun_grows r (e ∷ more) past = le_trans (begun_grows r more past) (begun_more e (more ++ past) r)

-- what holds of given paths, if there are some
if_given : (P Q : List (List ℕ) → Type 0) (o : Option (List (List ℕ))) → ((paths : List (List ℕ)) → P paths → Q paths) → IfSome o P → IfSome o Q
if_given P Q None on has = tt
if_given P Q (Some paths) on has = on paths has

-- by more entries, of whatever repository
pub given_on : WordLaws → (g : DriverInput) (d d' : Driver) (r : ℕ) (more : List Entry) → IsSound g d' → d'.past ≡ more ++ d.past → d'.tree ≡ d.tree → (x : ℕ × Option (List (List ℕ))) → HasGiven d r x → HasGiven d' r x
given_on laws g d d' r more sound on tree x has = (
  subst (λ (past : List Entry). x.0 ≤ begun_count past r) (sym on) (le_trans has.0 (begun_grows r more d.past)),
  if_given (λ paths. paths ≡ paths_at d.tree d.past r x.0) (λ paths. paths ≡ paths_at d'.tree d'.past r x.0) x.1 (λ paths is. is ∙ same) has.1,
)
  where
    there : past_at (run_with g d') (length d.past) ≡ d.past
    there = past_there g d d' more on

    within : length d.past ≤ length (reverse d'.past)
    within = let longer = length-append more d.past in let same = length-reverse d'.past in let long : length d'.past ≡ length (more ++ d.past) = ap length on in omega (arith, longer, same, long)

    same : paths_at d.tree d.past r x.0 ≡ paths_at d'.tree d'.past r x.0
    same =
        ap (λ t. paths_at t d.past r x.0) (sym tree) ∙ (ap (λ (past : List Entry). paths_at d'.tree past r x.0) (sym there)
        ∙ (sym (laws.paths (run_with g d') (length d.past) r x.0 sound.run within (subst (λ (past : List Entry). x.0 ≤ begun_count past r) (sym there) has.0)) ∙ ap (λ (past : List Entry). paths_at d'.tree past r x.0) (reverse-reverse d'.past)))

-- by a path that is named behind the entries
pub given_entered : WordLaws → (d : Driver) (r : ℕ) (path key : List ℕ) (x : ℕ × Option (List (List ℕ))) → HasGiven d r x → HasGiven (enters path key d) r x
given_entered laws d r path key x has = (
  has.0,
  if_given (λ paths. paths ≡ paths_at d.tree d.past r x.0) (λ paths. paths ≡ paths_at (enters path key d).tree d.past r x.0) x.1
      (λ paths is. is ∙ sym (laws.marks d.tree (record { place = length d.past; path = path; key = key }) d.past r x.0 (le_refl (length d.past)))) has.1,
)

-- jobs that were given what some jobs were
pub given_among : (d : Driver) (r : ℕ) (was now : List Task) → Each (λ j. Member (given_of j) (map given_of was)) now → Each (λ j. HasGiven d r (given_of j)) was → Each (λ j. HasGiven d r (given_of j)) now
given_among d r was now among has = Each-weaker (λ j. Member (given_of j) (map given_of was)) (λ j. HasGiven d r (given_of j))
    (λ j here. Each-member (HasGiven d r) (map given_of was) (given_of j) (Each-map (HasGiven d r) given_of was has) here) now among

had_by : (g : DriverInput) (d : Driver) (r : ℕ) (t : Task) → HasGiven d r (given_of t) → HadPathsOf (set_up_of g d r) t
had_by g d r (tasks.Drops j) has = has.1
had_by g d r (tasks.Transfers w) has = has.1

-- so they have the paths of the driver's set-up
pub had_there : (g : DriverInput) (d : Driver) (r : ℕ) (js : List Task) → Each (λ j. HasGiven d r (given_of j)) js → Each (HadPathsOf (set_up_of g d r)) js
had_there g d r js has = Each-weaker (λ j. HasGiven d r (given_of j)) (HadPathsOf (set_up_of g d r)) (had_by g d r) js has
