-- What the proof of `run_state::RunState::accept` needs beside the tactics.
use Rattle.std.proofs.Common.{subst, sym}
use Rattle.step_rules.specs.Runs.{with_entry}
use Rattle.step_rules.specs.States.{IsAfter, IsCarried}
use Rattle.step_rules.specs.declared.run_state.RunState.{RunState}
use Rattle.step_rules.proofs.Accepted.{wait_after, wait_carried}
use Rattle.step_rules.proofs.run_state.RunState.accept.Goals as goal

pub returns-in-None-clause-ok : goal.returns-in-None-clause-ok
returns-in-None-clause-ok c = λ run after.
    subst (λ (z : RunState). IsAfter z (with_entry run c.args.entry.now)) (sym c.count.ensures)
    (wait_after c.runs_break_no_rule.ensures.next c.runs_grow.ensures.entry c.jobs_keep_their_paths.ensures.entries c.carried_states_agree.ensures.own_states c.args.self.now c.args.entry.now c.in-None.is c.requires.allowed run after)

pub returns-in-None-clause-carried : goal.returns-in-None-clause-carried
returns-in-None-clause-carried c =
    subst IsCarried (sym c.count.ensures)
    (wait_carried c.runs_break_no_rule.ensures.next c.runs_grow.ensures.entry c.jobs_keep_their_paths.ensures.entries c.carried_states_agree.ensures.own_states c.args.self.now c.args.entry.now c.in-None.is c.requires.allowed c.requires.carried)
