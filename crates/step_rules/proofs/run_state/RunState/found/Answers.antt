-- What the proof of `run_state::RunState::found` needs beside the tactics.
use Rattle.std.proofs.Common.{option_copied}
use Rattle.step_rules.proofs.Found.{found_all}
use Rattle.step_rules.proofs.run_state.RunState.found.Goals as goal

pub returns : goal.returns
returns c = found_all c.carried_states_agree.ensures.own_states c.args.self.now c.requires.carried.count c.args.entry.now c.row_found.result (option_copied c.state.result) c.state.ensures c.row_found.ensures.none c.row_found.ensures.some
