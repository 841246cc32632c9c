-- What holds of the driver of scripts between any two of its steps, and how a step leaves it (own).
use Rattle.std.specs.Prelude.{◌≡◌, ◌≢◌, ℕ, ◌≤◌, true, false, List, [], ◌∷◌, ◌++◌, length, reverse}
use Rattle.annex_base.specs.Lists.{Each}
use Rattle.annex_key.specs.KeyText.{IsKeyText}
use Rattle.run_data.specs.declared.entry.Entry.{Entry}
use Rattle.node_model.specs.Ends.{EndName, is_opening}
use Rattle.run_model.specs.Run.{IsRun}
use Rattle.run_model.specs.States.{end_at}
use Rattle.driver_model.specs.Driver.{Driver, Flight, DriverInput, end_to}
use Rattle.driver_model.specs.Driving.{run_with}
use Rattle.driver_model.specs.Scripts.{HasBoundedPast}
use Rattle.driver_model.specs.Ways.{Flies, InOrder}

-- no server opens a connection
abbrev pub ComesDown : Flight → Type 0
ComesDown x = x.frame.up ≡ false → is_opening x.frame.body ≡ false

-- a flight goes from one repository to another
abbrev pub GoesToOther : Flight → Type 0
GoesToOther x = x.to ≢ x.frame.peer

-- what a client sent is of no later opening than the end that it left is at
abbrev pub IsOfOpening : List Entry → Flight → Type 0
IsOfOpening past x = x.frame.up ≡ true → x.frame.epoch ≤ (end_at past x.frame.peer (record { peer = x.to; slot = x.frame.slot; client = true })).epoch

-- what goes up to the same end as the first is of no earlier opening
abbrev pub ComesBehind : Flight → Flight → Type 0
ComesBehind x y = x.frame.up ≡ true → y.to ≡ x.to → end_to y.frame ≡ end_to x.frame → x.frame.epoch ≤ y.frame.epoch

-- what clients sent comes to each end in order of its openings
abbrev pub ComeInTurn : List Flight → Type 0
ComeInTurn [] = Unit {0}
ComeInTurn (x ∷ xs) = Each (ComesBehind x) xs × ComeInTurn xs

-- Its entries are a run. On each way the frames that were sent and not yet taken are in flight, in order, unless they are past;
-- and those that were sent are numbered from 1 on. Each flight that opens a connection goes to a server, and each goes to another
-- repository. What clients sent is of no later opening than their ends are at, and comes in order of openings. No part is greater
-- than the greatest, and each path of the tree names a key.
pub record IsSound (g : DriverInput) (d : Driver) : Type 0 where
  pub run : IsRun (run_with g d)
  pub flies : (r : ℕ) (a : EndName) (n : ℕ) → Flies d.past d.flights r a n
  pub order : (r : ℕ) (a : EndName) (n : ℕ) → InOrder d.past r a n
  pub down : Each ComesDown d.flights
  pub apart : Each GoesToOther d.flights
  pub openings : Each (IsOfOpening d.past) d.flights
  pub turn : ComeInTurn d.flights
  pub parts : Each (λ x. length x.bytes ≤ d.largest) d.parts
  pub keys : Each (λ mark. IsKeyText mark.key) d.tree

-- a step that leads from the one driver to the other keeps it sound, where it stays within the bounds of a run
abbrev pub StaysSound : DriverInput → Driver → Driver → Type 0
StaysSound g d after = IsSound g d → HasBoundedPast after → IsSound g after

-- what was done before stands as it was: the step only adds entries, each behind all others
abbrev pub OnlyAdds : Driver → Driver → Type 0
OnlyAdds d after = (more : List Entry) × (reverse after.past ≡ reverse d.past ++ more)
