-- What the proof of `run_state::RunState::hears_by` needs beside the tactics.
use Rattle.std.proofs.Common.{refl, subst, sym}
use Rattle.state_flights.specs.Flights.{flight_on}
use Rattle.step_rules.specs.Members.{IsMemberOf}
use Rattle.step_rules.specs.States.{HearsOf}
use Rattle.step_rules.specs.declared.member.Member.{Member}
use Rattle.step_rules.proofs.Places.{got}
use Rattle.step_rules.proofs.run_state.RunState.hears_by.Goals as goal

pub returns-in_err-job : goal.returns-in_err-job
returns-in_err-job c = λ m s st words at is.
    subst (HearsOf st (flight_on c.args.self.now.flights) c.args.repo c.args.kind.now c.args.frame.now) (sym c.from_residual.ensures)
    (c.in_err-job.ensures s st words (subst (λ (n : Member). IsMemberOf n s st words) (got c.args.self.now.members.items c.args.repo m c.index.result.now _ at c.index.ensures) is))

pub returns : goal.returns
returns c = λ m s st words at is.
    (c.in_ok-job.ensures s st words (subst (λ (n : Member). IsMemberOf n s st words) (got c.args.self.now.members.items c.args.repo m c.index.result.now _ at c.index.ensures) is), refl, c.word.ensures)
