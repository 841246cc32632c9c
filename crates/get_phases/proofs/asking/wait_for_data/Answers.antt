-- Where it stands.
use Rattle.std.proofs.Common.{refl, sym, subst}
use Rattle.get_phases.specs.Asking.{WaitsForData}
use Rattle.get_phases.specs.declared.getting.Getting.{Getting}
use Rattle.get_phases.proofs.Following.{moved}
use Rattle.get_phases.proofs.asking.wait_for_data.Goals as goal

pub returns-clause-rest : goal.returns-clause-rest
returns-clause-rest c = moved c.args.getting.now c.go_to.new.self _ c.go_to.ensures

pub returns-clause-phase : goal.returns-clause-phase
returns-clause-phase c = subst (λ (u : Getting). WaitsForData c.args.fill c.args.peer c.args.sent u.phase) (sym c.go_to.ensures) (refl, refl, refl, refl)
