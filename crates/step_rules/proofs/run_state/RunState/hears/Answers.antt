-- What the proof of `run_state::RunState::hears` needs beside the tactics.
use Rattle.std.proofs.Common.{Option, subst, sym}
use Rattle.run_data.specs.declared.entry.FrameView.{FrameView}
use Rattle.state_flights.specs.Flights.{flight_on}
use Rattle.step_rules.specs.States.{HearsAt}
use Rattle.step_rules.proofs.run_state.RunState.hears.Goals as goal

pub returns-in-Some : goal.returns-in-Some
returns-in-Some c = λ m s st words at is.
    subst (λ (o : Option FrameView). HearsAt st (flight_on c.args.self.now.flights) c.args.repo c.args.entry.now.kind o c.hears_by.result) (sym c.in-Some.is) (c.hears_by.ensures m s st words at is)
