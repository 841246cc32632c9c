-- A fleet that stops within a step: its run is a start of what the driver makes, and so is one that has fewer entries.
use Rattle.std.proofs.Common.{◌≡◌, ℕ, ◌+◌, ◌≤◌, ◌⊎◌, inl, inr, List, [], ◌∷◌, ◌++◌, Some, Result, Ok, Err, drop, length, take, refl, sym, ap, ◌∙◌, subst, arith}
use Rattle.std.specs.Prelude.{OnErr, OnOk, reverse, slice_get}
use Rattle.std.proofs.Math.Seq.{take-append_seam}
use Rattle.std.proofs.lemmas.List.{append-nil, append_assoc, length-append, reverse-append, take-append-drop}
use Rattle.std.proofs.lemmas.Option.{same_Some}
use Rattle.run_data.specs.declared.entry.Entry.{Entry}
use Rattle.run_data.specs.declared.run.Run.{Run}
use Rattle.run_model.specs.Run.{IsRun}
use Rattle.driver_model.specs.Driver.{Driver, DriverInput}
use Rattle.driver_model.specs.Limits.{StopsAtFull}
use Rattle.driver_model.specs.Sound.{OnlyAdds}
use Rattle.fleet_model.specs.Nodes.{NodeView}
use Rattle.fleet_model.specs.Stored.{StoreView}
use Rattle.fleet_model.specs.Fleets.{FleetView}
use Rattle.fleet_entries.specs.AtDriver.{EndsAtFull, GoesOn, IsAtDriver, IsStartOf, StopsWithin, WaitsForRoom}
use Rattle.fleet_entries.specs.Telling.{AreFew, EndsShort, StandsWithin, Tells, TellsSome}
use Rattle.fleet_entries.specs.declared.stop.FleetStop.{FleetStop}
use Rattle.fleet_entries.specs.declared.stop.FleetStop.TheVariants as stops
use Rattle.fleet_entries.proofs.Called.{with_more}

-- ---- starts

-- the run is a start of the driver's
abbrev pub AtStart : DriverInput → Driver → Run → Type 0
AtStart g d run = IsStartOf d run

-- and of what follows, which only adds entries
pub later_start : (g : DriverInput) (mid after : Driver) (run : Run) → IsStartOf mid run → OnlyAdds mid after → IsStartOf after run
later_start g mid after run start adds = record {
  lawful = start.lawful;
  entries = (start.entries.0 ++ adds.0, adds.1 ∙ (ap (λ (es : List Entry). es ++ adds.0) start.entries.1 ∙ append_assoc run.entries start.entries.0 adds.0));
}

-- the fleet has come there
pub start_at : {K : Type 0} (tells : K → StoreView) (step : DriverInput → Driver → Driver) (was after : FleetView K) → GoesOn tells step was after → StopsWithin tells step was after
start_at tells step was after goes g d stands =
    let then : IsAtDriver tells g (step g d) after = goes g d stands in
    record {
      lawful = subst IsRun (sym then.come.run) then.come.sound.run;
      entries = ([], sym (append-nil after.run.entries ∙ ap (λ (run : Run). run.entries) then.come.run));
    }

-- it had come there, and its run is the same
pub start_kept : {K : Type 0} (tells : K → StoreView) (step : DriverInput → Driver → Driver) (was mid after : FleetView K) → GoesOn tells step was mid → after.run ≡ mid.run → StopsWithin tells step was after
start_kept tells step was mid after goes same g d stands = subst (λ (run : Run). IsStartOf (step g d) run) (sym same) (start_at tells step was mid goes g d stands)

-- its run is the one before the step
pub start_same : {K : Type 0} (tells : K → StoreView) (step : DriverInput → Driver → Driver) (was after : FleetView K) → ((g : DriverInput) (d : Driver) → OnlyAdds d (step g d)) → after.run ≡ was.run
    → StopsWithin tells step was after
start_same tells step was after adds same g d stands = record {
  lawful = subst IsRun (sym (same ∙ stands.come.run)) stands.come.sound.run;
  entries = ((adds g d).0, (adds g d).1 ∙ ap (λ (run : Run). run.entries ++ (adds g d).0) (sym (same ∙ stands.come.run)));
}

-- it stops at a full history
pub start_full : {K : Type 0} (tells : K → StoreView) (r : ℕ) (step : DriverInput → Driver → Driver) (was after : FleetView K) → EndsAtFull tells r step was after → StopsWithin tells step was after
start_full tells r step was after ends g d stands =
    let s : StopsAtFull g r (step g d) after.run = ends g d stands in
    record {
      lawful = s.lawful;
      entries = (
        reverse (s.more ++ s.next ∷ []),
        ap reverse (s.goes_on ∙ sym (append_assoc s.more (s.next ∷ []) s.past)) ∙ (reverse-append (s.more ++ s.next ∷ []) s.past
            ∙ ap (λ (es : List Entry). es ++ reverse (s.more ++ s.next ∷ [])) (sym s.entries)),
      );
    }

-- or waits for room
pub start_waits : {K : Type 0} (tells : K → StoreView) (q r : ℕ) (step : DriverInput → Driver → Driver) (was after : FleetView K) → ((g : DriverInput) (d : Driver) → OnlyAdds d (step g d))
    → EndsAtFull tells q step was after ⊎ ((q ≡ r) × WaitsForRoom tells r step was after) → StopsWithin tells step was after
start_waits tells q r step was after adds (inl ends) = start_full tells q step was after ends
start_waits tells q r step was after adds (inr waits) = start_same tells step was after adds waits.1.run

-- ---- some first entries are told

pub tells_some : {K : Type 0} (tells : K → StoreView) (r had : ℕ) (was after : FleetView K) → ((run : Run) (place : ℕ) → place ≤ length run.entries → IsRun run → IsRun (record run { entries = take place run.entries }))
    → (n : NodeView K) → slice_get was.nodes r ≡ Some n → StandsWithin tells n → (count : ℕ) × (after.run ≡ record was.run { entries = was.run.entries ++ take count (drop had n.history) }) → TellsSome tells r had was after
tells_some {K} tells r had was after law n at node some = record {
  all = record { nodes = was.nodes; run = whole };
  told = record {
    nodes = refl;
    run = λ m at_m. ap (λ (x : NodeView K). with_more was.run (drop had x.history)) (same_Some n m (sym at ∙ at_m));
    node = λ m at_m. subst (StandsWithin tells) (same_Some n m (sym at ∙ at_m)) node;
  };
  left = (left, is_more);
  lawful = λ lawful. subst IsRun (cut ∙ back) (law whole (length after.run.entries) within lawful);
}
  where
    rest : List Entry
    rest = drop had n.history

    whole : Run
    whole = with_more was.run rest

    left : List Entry
    left = drop some.0 rest

    first : after.run.entries ≡ was.run.entries ++ take some.0 rest
    first = ap (λ (run : Run). run.entries) some.1

    is_more : was.run.entries ++ rest ≡ after.run.entries ++ left
    is_more = ap (λ (es : List Entry). was.run.entries ++ es) (sym (take-append-drop some.0 rest)) ∙ (sym (append_assoc was.run.entries (take some.0 rest) left) ∙ ap (λ (es : List Entry). es ++ left) (sym first))

    more : (k m l : ℕ) → l ≡ k + m → k ≤ l
    more k m l e = omega (arith, e)

    within : length after.run.entries ≤ length (was.run.entries ++ rest)
    within = more (length after.run.entries) (length left) (length (was.run.entries ++ rest)) (ap length is_more ∙ length-append after.run.entries left)

    cut : record whole { entries = take (length after.run.entries) whole.entries } ≡ record was.run { entries = after.run.entries }
    cut = ap (λ (es : List Entry). record was.run { entries = es }) (ap (take (length after.run.entries)) is_more ∙ take-append_seam after.run.entries left)

    back : record was.run { entries = after.run.entries } ≡ after.run
    back = ap (λ (es : List Entry). record was.run { entries = es }) first ∙ sym some.1

-- a node that is there has some first ones of its entries told
pub tells_some_there : {K : Type 0} (tells : K → StoreView) (r had : ℕ) (was after : FleetView K) → ((run : Run) (place : ℕ) → place ≤ length run.entries → IsRun run → IsRun (record run { entries = take place run.entries }))
    → (n : NodeView K) × (slice_get was.nodes r ≡ Some n) → ((n : NodeView K) → slice_get was.nodes r ≡ Some n → StandsWithin tells n)
    → ((n : NodeView K) → slice_get was.nodes r ≡ Some n → (count : ℕ) × (after.run ≡ record was.run { entries = was.run.entries ++ take count (drop had n.history) })) → TellsSome tells r had was after
tells_some_there tells r had was after law found node some = tells_some tells r had was after law found.0 found.1 (node found.0 found.1) (some found.0 found.1)

-- what all would be is a start, and so are some
some_start : {K : Type 0} (tells : K → StoreView) (step : DriverInput → Driver → Driver) (r had : ℕ) (was called after : FleetView K) (some : TellsSome tells r had called after) → StopsWithin tells step was some.all → StopsWithin tells step was after
some_start tells step r had was called after some within g d stands =
    let start : IsStartOf (step g d) some.all.run = within g d stands in
    record {
      lawful = some.lawful start.lawful;
      entries = (some.left.0 ++ start.entries.0, start.entries.1 ∙ (ap (λ (es : List Entry). es ++ start.entries.0) some.left.1 ∙ append_assoc after.run.entries some.left.0 start.entries.0));
    }

-- ---- the end of a call

-- how a line is to go on after a call
abbrev pub Going : Type 0
Going = Result (Unit {0}) FleetStop

-- what a call of a node leaves, by what is answered
pub record CallEnds {K : Type 0} (tells : K → StoreView) (step : DriverInput → Driver → Driver) (Full : ℕ → FleetView K → Type 0) (was after : FleetView K) (result : Going) : Type 0 where
  pub ok : OnOk result (GoesOn tells step was after)
  pub full : (q : ℕ) → result ≡ Err (stops.Full q) → Full q after
  pub stopped : OnErr result (StopsWithin tells step was after)

pub ended_ok : (result line : Going) (Told Ended Holds : Type 0) → OnOk result ((line ≡ Ok tt) × Told) → OnOk line Ended → (Told → Ended → Holds) → OnOk result Holds
ended_ok (Ok x) line Told Ended Holds told ended holds = holds told.1 (subst (λ (l : Going). OnOk l Ended) told.0 ended)
ended_ok (Err e) line Told Ended Holds told ended holds = tt

within_call : {K : Type 0} (tells : K → StoreView) (step : DriverInput → Driver → Driver) (r had : ℕ) (was called after : FleetView K) (line : Going) (Ended : Type 0) (Full : ℕ → FleetView K → Type 0)
    → called.run ≡ was.run → ((g : DriverInput) (d : Driver) → OnlyAdds d (step g d)) → ((q : ℕ) (all : FleetView K) → Full q all → StopsWithin tells step was all) → OnOk line Ended
    → ((all : FleetView K) → Tells tells r had called all → Ended → GoesOn tells step was all) → ((all : FleetView K) → Tells tells r had called all → (q : ℕ) → line ≡ Err (stops.Full q) → Full q all)
    → EndsShort tells r had called after → (line ≡ Err stops.NoMemory → after.run ≡ called.run) → StopsWithin tells step was after
within_call tells step r had was called after line Ended Full run adds starts ended goes full (inl same) short = start_same tells step was after adds (same ∙ run)
within_call tells step r had was called after (Ok x) Ended Full run adds starts ended goes full (inr some) short =
    some_start tells step r had was called after some (start_at tells step was some.all (goes some.all some.told ended))
within_call tells step r had was called after (Err (stops.Full q)) Ended Full run adds starts ended goes full (inr some) short =
    some_start tells step r had was called after some (starts q some.all (full some.all some.told q refl))
within_call tells step r had was called after (Err stops.NoMemory) Ended Full run adds starts ended goes full (inr some) short = start_same tells step was after adds (short refl ∙ run)

pub on_err : {X E : Type 0} (done : Result X E) (P Q : Type 0) → OnErr done P → (P → Q) → OnErr done Q
on_err (Ok x) P Q holds follows = tt
on_err (Err e) P Q holds follows = follows holds

pub call_ends : {K : Type 0} (tells : K → StoreView) (step : DriverInput → Driver → Driver) (r had : ℕ) (was called after : FleetView K) (line result : Going) (Ended : Type 0) (Full : ℕ → FleetView K → Type 0)
    → called.run ≡ was.run → ((g : DriverInput) (d : Driver) → OnlyAdds d (step g d)) → ((q : ℕ) (all : FleetView K) → Full q all → StopsWithin tells step was all) → OnOk line Ended
    → ((all : FleetView K) → Tells tells r had called all → Ended → GoesOn tells step was all) → ((all : FleetView K) → Tells tells r had called all → (q : ℕ) → line ≡ Err (stops.Full q) → Full q all)
    → OnOk result ((line ≡ Ok tt) × Tells tells r had called after) → ((q : ℕ) → result ≡ Err (stops.Full q) → (line ≡ Err (stops.Full q)) × Tells tells r had called after)
    → OnErr result (EndsShort tells r had called after) → (line ≡ Err stops.NoMemory → after.run ≡ called.run) → CallEnds tells step Full was after result
call_ends tells step r had was called after line result Ended Full run adds starts ended goes full told told_full ends short = record {
  ok = ended_ok result line _ Ended _ told ended (λ so is. goes after so is);
  full = λ q e. full after (told_full q e).1 q (told_full q e).0;
  stopped = on_err result _ _ ends (λ so. within_call tells step r had was called after line Ended Full run adds starts ended goes full so short);
}

-- nodes that have made few entries still have, once one was told
pub few_told : {K : Type 0} (tells : K → StoreView) (r had : ℕ) (was after : FleetView K) → Tells tells r had was after → AreFew was.nodes → AreFew after.nodes
few_told tells r had was after told few = subst AreFew (sym told.nodes) few

-- what holds whatever was answered
pub always_err : {X E : Type 0} (done : Result X E) (P : Type 0) → P → OnErr done P
always_err (Ok x) P holds = tt
always_err (Err e) P holds = holds
