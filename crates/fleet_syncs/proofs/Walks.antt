-- Steps over a list, one element after the other: a fleet goes on as the driver does, and ends where one of them ends.
use Rattle.std.proofs.Common.{◌≡◌, List, ◌++◌, ap, sym, ◌∙◌, subst}
use Rattle.std.specs.Prelude.{reverse}
use Rattle.std.proofs.lemmas.List.{append_assoc}
use Rattle.run_data.specs.declared.entry.Entry.{Entry}
use Rattle.run_data.specs.declared.run.Run.{Run}
use Rattle.driver_model.specs.Driver.{Driver, DriverInput}
use Rattle.driver_model.specs.Sound.{OnlyAdds}
use Rattle.fleet_entries.specs.Stored.{StoreView}
use Rattle.fleet_entries.specs.Fleets.{FleetView}
use Rattle.fleet_entries.specs.AtDriver.{GoesOn, IsAtDriver}
use Rattle.fleet_entries.proofs.Ending.{Ends, LaterLaw}

-- two steps that only add entries add no others
pub adds_twice : (d mid after : Driver) → OnlyAdds d mid → OnlyAdds mid after → OnlyAdds d after
adds_twice d mid after first second = (first.0 ++ second.0, second.1 ∙ (ap (λ (es : List Entry). es ++ second.0) first.1 ∙ append_assoc (reverse d.past) first.0 second.0))

-- steps of the driver over a list
abbrev pub Walk : Type 0 → Type 0
Walk X = DriverInput → List X → Driver → Driver

-- they come one after the other, and only add entries
pub record IsWalk {X : Type 0} (walk : Walk X) : Type 0 where
  pub joins : (g : DriverInput) (xs ys : List X) (d : Driver) → walk g (xs ++ ys) d ≡ walk g ys (walk g xs d)
  pub adds : (g : DriverInput) (xs : List X) (d : Driver) → OnlyAdds d (walk g xs d)

pub walks_on : {K : Type 0} {X : Type 0} (tells : K → StoreView) (walk : Walk X) (xs ys : List X) (was mid after : FleetView K) → IsWalk walk → GoesOn tells (λ g d. walk g xs d) was mid → GoesOn tells (λ g d. walk g ys d) mid after
    → GoesOn tells (λ g d. walk g (xs ++ ys) d) was after
walks_on tells walk xs ys was mid after is goes on g d stands = subst (λ (x : Driver). IsAtDriver tells g x after) (sym (is.joins g xs ys d)) (on g (walk g xs d) (goes g d stands))

pub walk_ends : {K : Type 0} {X : Type 0} (tells : K → StoreView) (P : DriverInput → Driver → Run → Type 0) (walk : Walk X) (xs ys zs : List X) (was mid after : FleetView K) → LaterLaw P → IsWalk walk
    → GoesOn tells (λ g d. walk g xs d) was mid → Ends tells P (λ g d. walk g ys d) mid after → Ends tells P (λ g d. walk g (xs ++ (ys ++ zs)) d) was after
walk_ends tells P walk xs ys zs was mid after later is goes ends g d stands =
    subst (λ (x : Driver). P g x after.run) (sym (is.joins g xs (ys ++ zs) d ∙ is.joins g ys zs (walk g xs d)))
    (later g (walk g ys (walk g xs d)) (walk g zs (walk g ys (walk g xs d))) after.run (ends g (walk g xs d) (goes g d stands)) (is.adds g zs (walk g ys (walk g xs d))))
