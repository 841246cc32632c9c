-- A path that names a key: a fleet goes on as the driver does, and its index stays one of its marks.
use Rattle.std.proofs.Common.{◌≡◌, ℕ, ◌+◌, ◌≤◌, List, [], ◌∷◌, ◌++◌, Result, Ok, Err, length, sym, ap, ◌∙◌, subst, arith, length-append}
use Rattle.std.specs.Prelude.{IfOk}
use Rattle.std.proofs.lemmas.List.{append-nil}
use Rattle.annex_base.specs.Lists.{Each}
use Rattle.annex_base.proofs.Lists.{Each-push, Each-weaker}
use Rattle.annex_key.specs.Tree.{paths_of}
use Rattle.run_data.specs.declared.entry.Entry.{Entry}
use Rattle.run_data.specs.declared.run.Run.{Run}
use Rattle.run_data.specs.declared.run.TreeMark.{TreeMark}
use Rattle.run_model.specs.Run.{tree_at}
use Rattle.run_paths.specs.Paths.{IndexView, IsIndexOf, with_marks}
use Rattle.driver_model.specs.Driver.{Driver, DriverInput}
use Rattle.driver_model.specs.ScriptSteps.{enters}
use Rattle.driver_model.specs.Sound.{StaysSound}
use Rattle.fleet_entries.specs.Stored.{StoreView}
use Rattle.fleet_entries.specs.Fleets.{FleetView, HasCome}
use Rattle.fleet_entries.specs.AtDriver.{GoesOn, OnlyAddsBehind}
use Rattle.fleet_entries.specs.Paths.{HasPaths}

-- ---- the run

-- the mark of a path that names a key behind these entries
abbrev pub mark_behind : Run → List ℕ → List ℕ → TreeMark
mark_behind run path key = record { place = length run.entries; path = path; key = key }

-- the run with the path
abbrev pub with_path : Run → List ℕ → List ℕ → Run
with_path run path key = record run { tree = run.tree ++ mark_behind run path key ∷ [] }

pub run_named : (run : Run) (tree : List TreeMark) (path key : List ℕ) (mark : TreeMark) (place : ℕ) → place ≡ length run.entries → mark ≡ record { place = place; path = path; key = key }
    → tree ≡ run.tree ++ mark ∷ [] → record run { tree = tree } ≡ with_path run path key
run_named run tree path key mark place at is more =
    (λ i. record run { tree = more i }) ∙ (ap (λ (m : TreeMark). record run { tree = run.tree ++ m ∷ [] }) is
    ∙ ap (λ (n : ℕ). record run { tree = run.tree ++ record { place = n; path = path; key = key } ∷ [] }) at)

pub enters_on : {K : Type 0} (tells : K → StoreView) (was after : FleetView K) (path key : List ℕ)
    → ((g : DriverInput) (d : Driver) → after.nodes ≡ was.nodes → after.run ≡ with_path was.run path key → StaysSound g d (enters path key d) → HasCome tells g d was → HasCome tells g (enters path key d) after)
    → ((g : DriverInput) (d : Driver) → StaysSound g d (enters path key d)) → after.nodes ≡ was.nodes → after.run ≡ with_path was.run path key → GoesOn tells (λ g d. enters path key d) was after
enters_on tells was after path key law sound nodes run g d stands = record { come = law g d nodes run (sound g d) stands.come; decides = stands.decides }

-- of the run only the tree has a path more
pub names_behind : {K : Type 0} (path key : List ℕ) (was seen after : FleetView K) → seen ≡ was → after.run ≡ with_path seen.run path key → OnlyAddsBehind was after
names_behind path key was seen after is named = (
  [],
  mark_behind was.run path key ∷ [],
  named ∙ (ap (λ (f : FleetView _). with_path f.run path key) is
      ∙ (λ i. record was.run { entries = sym (append-nil was.run.entries) i; tree = was.run.tree ++ mark_behind was.run path key ∷ [] })),
)

-- ---- the index

later : (place n m : ℕ) → n ≤ m → place ≤ n → place ≤ m
later place n m longer before = omega (arith, longer, before)

-- more entries stand behind the marks still
pub paths_behind : (run : Run) (entries more : List Entry) (index : IndexView) → entries ≡ run.entries ++ more → HasPaths run index → HasPaths (record run { entries = entries }) index
paths_behind run entries more index longer has = record {
  places = Each-weaker (λ (m : TreeMark). m.place ≤ length run.entries) (λ (m : TreeMark). m.place ≤ length entries) (λ m. later m.place (length run.entries) (length entries) grown) run.tree has.places;
  index_is = has.index_is;
}
  where
    at_least : (n k l : ℕ) → l ≡ n + k → n ≤ l
    at_least n k l is = omega (arith, is)

    grown : length run.entries ≤ length entries
    grown = at_least (length run.entries) (length more) (length entries) (ap length longer ∙ length-append run.entries more)

-- a mark more stands behind all entries
pub paths_named : (run : Run) (tree : List TreeMark) (mark : TreeMark) (index : IndexView) → IsIndexOf tree index → tree ≡ run.tree ++ mark ∷ [] → mark.place ≡ length run.entries → HasPaths run index
    → HasPaths (record run { tree = tree }) index
paths_named run tree mark index is more at has = record {
  places = subst (Each (λ (m : TreeMark). m.place ≤ length run.entries)) (sym more) (Each-push (λ (m : TreeMark). m.place ≤ length run.entries) run.tree mark has.places (same mark.place (length run.entries) at));
  index_is = is;
}
  where
    same : (a b : ℕ) → a ≡ b → a ≤ b
    same a b is = omega (arith, is)

-- the paths that an index finds are those of the run's tree
pub paths_found : {E : Type 0} (found : Result (List (List ℕ)) E) (marks : List TreeMark) (run : Run) (index : IndexView) (key : List ℕ) → ((marks : List TreeMark) (place : ℕ) → Each (λ mark. mark.place ≤ place) marks → tree_at marks place ≡ with_marks [] marks)
    → HasPaths run index → marks ≡ run.tree → IfOk found (λ paths. paths ≡ paths_of (with_marks [] marks) key) → IfOk found (λ paths. paths ≡ paths_of (tree_at run.tree (length run.entries)) key)
paths_found (Ok paths) marks run index key law has is found =
    found ∙ (ap (λ (ms : List TreeMark). paths_of (with_marks [] ms) key) is ∙ ap (λ entries. paths_of entries key) (sym (law run.tree (length run.entries) has.places)))
paths_found (Err e) marks run index key law has is found = found
