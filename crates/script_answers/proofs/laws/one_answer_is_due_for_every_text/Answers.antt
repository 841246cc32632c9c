-- By the text's length, what it says, whether all forms are built, and whether a line meets a full history.
use Rattle.script_answers.proofs.DueLemmas.{HaveOneReading, due_once}
use Rattle.script_answers.proofs.EveryText.{some_due}
use Rattle.script_answers.proofs.laws.one_answer_is_due_for_every_text.Goals as goal

pub returns-clause-some : goal.returns-clause-some
returns-clause-some c = some_due c.cut_script_runs_have_a_full_history.ensures c.scripts_run_or_miss_a_form.ensures

pub returns-clause-one : goal.returns-clause-one
returns-clause-one c = λ bytes text more status other is are.
    let law = c.scripts_are_built_or_not.ensures in
    let one : HaveOneReading = record { script = law.script; line = law.line; one = law.one } in
    due_once one bytes status other text more is are
