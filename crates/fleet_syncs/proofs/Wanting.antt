-- A want of memory is no full history.
use Rattle.std.proofs.Common.{◌≡◌, ℕ, Result, Ok, Err, ap, sym, ◌∙◌}
use Rattle.std.specs.Prelude.{IsErrAnd}
use Rattle.fleet_entries.specs.declared.stop.FleetStop.{FleetStop}
use Rattle.fleet_entries.specs.declared.stop.FleetStop.TheVariants as stops

-- what `?` hands on of it
pub never_full : {Y : Type 0} (back : Result Y FleetStop) (r : ℕ) → IsErrAnd back (λ stop. stop ≡ stops.NoMemory) → back ≡ Err (stops.Full r) → ⊥
never_full (Ok y) r is same = absurd (cc)
never_full (Err stop) r is same = absurd (let no : Err stops.NoMemory ≡ Err (stops.Full r) = ap Err (sym is) ∙ same in cc)
