-- What the proof of `laws::runs_end_where_a_rule_is_broken` needs beside the tactics.
use Rattle.std.proofs.Common.{◌≡◌, ℕ, Some, None, sym, ap, ◌∙◌}
use Rattle.std.specs.Prelude.{option_map, reverse}
use Rattle.run_model.specs.Run.{set_up}
use Rattle.step_judging.specs.Verdicts.{row_found}
use Rattle.step_rules.specs.Runs.{start_of}
use Rattle.step_rules.proofs.laws.runs_end_where_a_rule_is_broken.Goals as goal

pub returns : goal.returns
returns c = λ run place e b at tells lawful.
    let start = start_of run place in
    let none = c.starts_of_runs_break_no_rule.ensures run place e lawful at in
    let both : None ≡ Some b = sym (ap (option_map (λ (rule : ℕ). record { rule = rule; found = row_found (set_up start) (reverse start.entries) e e.repo })) none) ∙ tells in
    cc
