-- What the proof of `run_state::RunState::start` needs beside the tactics.
use Rattle.std.proofs.Common.{None, ap, arith, length, refl, subst, sym, ◌∙◌}
use Rattle.annex_base.specs.Lists.{Each}
use Rattle.run_data.specs.Repos.{IsSetUp}
use Rattle.step_rules.specs.Runs.{start_of}
use Rattle.step_rules.specs.declared.run_state.RunState.{RunState}
use Rattle.step_rules.proofs.Accepted.{start_after}
use Rattle.step_rules.proofs.run_state.RunState.start.Goals as goal

pub returns-clause-after : goal.returns-clause-after
returns-clause-after c =
    let x : RunState = record { alloc = c.args.alloc; repos = c.as_slice-repos.result; trees = c.in_ok-new.field-0; newest = None; taken = 0; members = c.in_ok-members.field-0; flights = c.new-2.result } in
    start_after c.runs_grow.ensures.first x c.args.run.now c.as_slice-repos.ensures (c.in_ok-new.ensures.marks ∙ c.as_slice.ensures) refl refl c.requires.set_up
    (λ r m at s same number. c.in_ok-members.ensures.members r m at s (same ∙ sym c.as_slice-repos.ensures) number) c.new-2.ensures

pub returns-clause-carried : goal.returns-clause-carried
returns-clause-carried c = record {
  many = (let same = ap length c.as_slice-repos.ensures in let many = c.requires.many in omega (arith, same, many));
  set_up = subst (Each IsSetUp) (sym c.as_slice-repos.ensures) c.requires.set_up;
  count = c.in_ok-members.ensures.count;
  members = c.in_ok-members.ensures.bounded;
  tree = c.in_ok-new.ensures.tree;
  run = start_of c.args.run.now 0;
  after = returns-clause-after c;
}
