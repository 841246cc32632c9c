-- What the proof of `run_state::RunState::broken_at` needs beside the tactics.
use Rattle.std.proofs.Common.{ap, arith, length, ◌∙◌, ◌≤◌}
use Rattle.node_model.specs.After.{first_state}
use Rattle.run_model.specs.Run.{set_up}
use Rattle.step_judging.specs.Carried.{takes_next}
use Rattle.node_model.specs.Jobs.{taken_message}
use Rattle.step_rules.proofs.Breaks.{judge, unknown}
use Rattle.step_rules.proofs.run_state.RunState.broken_at.Goals as goal

pub returns-in-None : goal.returns-in-None
returns-in-None c = λ run after.
    let j = judge run in
    let s = set_up run c.args.repo in
    let e = c.args.entry.now in
    let past = c.in-None.ensures.lookup.3 in
    let all = ap length c.deref.ensures.value in
    let far : length c.args.self.now.members.items ≤ c.args.repo = omega (arith, past, all) in
    c.broken_unknown.ensures j.newest s ((first_state s).clock e.time) (taken_message e.taken) (takes_next j.flights c.args.repo e.taken) after.judge.newest
    ∙ unknown c.args.self.now c.requires.carried run after e c.args.repo far
