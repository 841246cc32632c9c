-- A fleet does the lines of a script, one after the other.
use Rattle.std.proofs.Common.{◌≡◌, ℕ, ◌+◌, ◌<◌, ◌≤◌, true, false, List, [], ◌∷◌, length, drop, get_or, reverse, None, Result, Ok, Err, IsErrAnd, refl, sym, ap, ◌∙◌, subst, arith, length-append}
use Rattle.std.proofs.lemmas.List.{drop_all, drop_more, reverse-reverse}
use Rattle.annex_base.specs.Lists.{Each}
use Rattle.run_data.specs.declared.run.Run.{Run}
use Rattle.run_model.specs.Past.{now}
use Rattle.run_model.specs.Run.{IsRun}
use Rattle.fleet_run.specs.Stored.{StoreView}
use Rattle.script_commands.specs.declared.command.Command.{Command}
use Rattle.script_lang.specs.Script as script
use Rattle.script_lang.specs.Script.{context_with, no_context, wait_of}
use Rattle.script_lang.specs.Preconditions.{AllStand}
use Rattle.driver_model.specs.Driver.{Driver, DriverInput, at_first}
use Rattle.driver_model.specs.Driving.{does, with_mark}
use Rattle.driver_model.specs.Limits.{drives_to_limit, limited_run, meets_limit, run_to_limit}
use Rattle.driver_model.specs.Lines.{waited_by}
use Rattle.driver_script.specs.Inputs.{driver_input_of}
use Rattle.driver_script.specs.Lines.{declared_by, first_unbuilt, is_built, repos_of}
use Rattle.fleet_run.specs.Fleets.{FleetView}
use Rattle.fleet_run.specs.declared.FleetStop.{FleetStop}
use Rattle.fleet_run.specs.Commands.{CutsAt, MayBeDone, MeetsNone, does_and_marks}
use Rattle.fleet_run.specs.AtDriver.{GoesOn, IsAtDriver, IsDrivenWithin}
use Rattle.script_answers.specs.Runs.{IsRunOf}
use Rattle.annex_cli.specs.Doing.{HasDone}
use Rattle.script_answers.proofs.GoodLemmas.{comes_of, limited}
use Rattle.script_answers.proofs.ReportLemmas.{declares_alike}

-- the stop that is handed on is the one that came
pub stop_is : {T : Type 0} (r : Result T FleetStop) (came stop : FleetStop) → IsErrAnd r (λ d. d ≡ came) → r ≡ Err stop → came ≡ stop
stop_is (Ok x) came stop handed is = absurd handed
stop_is (Err d) came stop handed is = let same : d ≡ stop = cc in sym handed ∙ same

-- the laws that the lemmas take
abbrev pub MarksLaw : Type 0
MarksLaw = (g : DriverInput) (line : Command) (d : Driver) → (does g line d).marks ≡ d.marks

abbrev pub TimeLaw : Type 0
TimeLaw = (g : DriverInput) (line : Command) (d : Driver) → now (does g line d).past ≡ now d.past + waited_by line

abbrev pub WaitLaw : Type 0
WaitLaw = (command : Command) → waited_by command ≡ wait_of command

abbrev pub BuiltLaw : Type 0
BuiltLaw = (commands : List Command) → first_unbuilt commands ≡ None → Each (λ command. is_built command ≡ true) commands

goes_on : (g : DriverInput) (line : Command) (others : List Command) (d : Driver) → meets_limit g line d ≡ false → drives_to_limit g (line ∷ others) d ≡ drives_to_limit g others (with_mark (does g line d))
goes_on g line others d none = ap (comes_of g line others d) none

ends_there : (g : DriverInput) (line : Command) (others : List Command) (d : Driver) → meets_limit g line d ≡ true → drives_to_limit g (line ∷ others) d ≡ limited true (run_to_limit g line d)
ends_there g line others d meets = ap (comes_of g line others d) meets

-- the commands from a place on
rest_at : {X : Type 0} (xs : List X) (i : ℕ) (x : X) → i < length xs → x ≡ get_or xs i x → drop i xs ≡ x ∷ drop (i + 1) xs
rest_at xs i x within is = drop_more xs i x within ∙ ap (λ y. y ∷ drop (i + 1) xs) (sym is)

module _ {K : Type 0} (tells : K → StoreView) (all : List Command) where
  abbrev Done : List Command → FleetView K → Type 0
  Done left f = HasDone tells all left f

  -- before the first line
  pub done_at_first : BuiltLaw → (f : FleetView K) → first_unbuilt all ≡ None → AllStand no_context all → IsAtDriver tells (driver_input_of all) at_first f → IsDrivenWithin tells (length f.run.marks) f → HasDone tells all all f
  done_at_first law f built stand stands driven = record {
    built = built;
    each = law all built;
    context = no_context;
    stand = stand;
    repos = omega arith;
    driver = at_first;
    waited = refl;
    marks = omega arith;
    stands = stands;
    driven = driven;
    ends = refl;
  }

  module _ (c : Command) (left : List Command) (f : FleetView K) (h : Done (c ∷ left) f) where
    abbrev g : DriverInput
    g = driver_input_of all

    -- the command may be done
    pub may_be_done : MayBeDone f c
    may_be_done =
        let run = h.stands.come.run in
        let count = h.stands.come.count in
        let repos = h.repos in
        record {
          context = h.context;
          repos = omega (arith, count, repos);
          waited = h.waited ∙ ap now (sym (ap (λ (r : Run). reverse r.entries) run ∙ reverse-reverse h.driver.past));
          stands = h.stand.0;
          within = h.stand.1;
          built = h.each.0;
        }

    -- and fewer commands were done than there are
    pub few_done : length f.run.marks < length all
    few_done =
        let run : length f.run.marks ≡ length h.driver.marks = ap (λ (r : Run). length r.marks) h.stands.come.run in
        let marks = h.marks in
        omega (arith, run, marks)

    -- where its line meets no full history, the rest is left then
    pub done_next : TimeLaw → WaitLaw → MarksLaw → (after : FleetView K) → MeetsNone tells c f → GoesOn tells (does_and_marks c) f after → IsDrivenWithin tells (length after.run.marks) after → HasDone tells all left after
    done_next time wait marks after within goes driven =
        let both = length-append (declared_by c) (repos_of left) in
        let long = length-append h.context.repos (script.declared_by c) in
        let alike = declares_alike c in
        let repos = h.repos in
        let were = h.marks in
        let marked = length-append (does g c h.driver).marks (length (does g c h.driver).past ∷ []) in
        let stay : length (does g c h.driver).marks ≡ length h.driver.marks = ap length (marks g c h.driver) in
        record {
          built = h.built;
          each = h.each.1;
          context = context_with h.context c;
          stand = h.stand.2;
          repos = omega (arith, repos, both, long, alike);
          driver = with_mark (does g c h.driver);
          marks = omega (arith, were, marked, stay);
          waited = ap (λ n. n + wait_of c) h.waited ∙ ap (λ n. now h.driver.past + n) (sym (wait c)) ∙ sym (time g c h.driver);
          stands = goes g h.driver h.stands;
          driven = driven;
          ends = sym (goes_on g c left h.driver (within g h.driver h.stands)) ∙ h.ends;
        }

    -- and where it meets one, the run ends there
    pub cut_here : (r : ℕ) (after : FleetView K) → CutsAt tells r c f after → IsRunOf all true after.run
    cut_here r after cuts =
        let cut = cuts g h.driver h.stands in
        record {
          built = h.built;
          run_is = sym h.ends ∙ ends_there g c left h.driver cut.meets ∙ ap (limited true) (sym cut.run_is);
          lawful = cut.lawful;
        }

  -- after the last line
  pub done_at_last : (f : FleetView K) → HasDone tells all [] f → IsRunOf all false f.run
  done_at_last f h = record {
    built = h.built;
    run_is = sym h.ends ∙ ap (limited false) (sym h.stands.come.run);
    lawful = subst IsRun (sym h.stands.come.run) h.stands.come.sound.run;
  }

  -- the command at a place is the first of those that are left
  pub done_before : (i : ℕ) (c : Command) (f : FleetView K) → i < length all → c ≡ get_or all i c → HasDone tells all (drop i all) f → HasDone tells all (c ∷ drop (i + 1) all) f
  done_before i c f within is h = subst (λ (left : List Command). HasDone tells all left f) (rest_at all i c within is) h

  -- behind the last none is left
  pub none_left : (i : ℕ) (f : FleetView K) → length all ≤ i → HasDone tells all (drop i all) f → HasDone tells all [] f
  none_left i f past h = subst (λ (left : List Command). HasDone tells all left f) (drop_all i all past) h
