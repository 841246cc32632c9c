-- What the proof of `laws::no_two_answers_are_due_for_a_journal` needs beside the tactics.
use Rattle.audit_answers.proofs.OneAnswer.{OneFacts, due_once}
use Rattle.audit_answers.proofs.laws.no_two_answers_are_due_for_a_journal.Goals as goal

pub returns : goal.returns
returns c = λ bytes text more status other d e.
    let facts : OneFacts = record { one = c.texts_read_as_their_runs.ensures; ends = c.runs_end_where_a_rule_is_broken.ensures } in
    due_once facts bytes status other text more d e
