-- The words ask for one storm, or for none.
use Rattle.script_answers.proofs.StormWords.{answers_same}
use Rattle.annex_cli.proofs.answer_other.Goals as goal

pub returns-clause-storm : goal.returns-clause-storm
returns-clause-storm g c = λ number jobs asks. answers_same _ c.in-Some.storm number jobs _ _ _ c.in-Some.ensures.asked asks c.run_storm.ensures.answers

pub returns-clause-other : goal.returns-clause-other
returns-clause-other g c = λ none. absurd (none (c.in-Some.storm.number, c.in-Some.storm.jobs, c.in-Some.ensures.asked))
