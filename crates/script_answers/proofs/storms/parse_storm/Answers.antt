-- Words that are read as numbers are their texts, and no other words are.
use Rattle.std.proofs.Common.{sym, ◌∙◌, arith}
use Rattle.script_answers.proofs.StormWords.{are_numbers, no_first, no_second, too_many}
use Rattle.script_answers.proofs.storms.parse_storm.Goals as goal

pub returns-in_err-number-clause-other : goal.returns-in_err-number-clause-other
returns-in_err-number-clause-other c = λ none n m are. no_first c.args.number.now c.args.jobs.now n m (sym c.parse_decimal.ensures ∙ c.in_err-number.was) are

pub returns-in_err-jobs-clause-other : goal.returns-in_err-jobs-clause-other
returns-in_err-jobs-clause-other c = λ none n m are. no_second c.args.number.now c.args.jobs.now n m (sym c.parse_decimal-2.ensures ∙ c.in_err-jobs.was) are

pub returns-then-jobs-gt-JOB_LIMIT-clause-other : goal.returns-then-jobs-gt-JOB_LIMIT-clause-other
returns-then-jobs-gt-JOB_LIMIT-clause-other c = λ none n m are.
    let many = c.if-jobs-gt-JOB_LIMIT.true in
    too_many c.args.number.now c.args.jobs.now n m c.in_ok-jobs.jobs (sym c.parse_decimal-2.ensures ∙ c.in_ok-jobs.was) (omega (arith, many)) are

pub returns-clause-asked : goal.returns-clause-asked
returns-clause-asked c =
    let few = c.if-jobs-gt-JOB_LIMIT.false in
    are_numbers c.args.number.now c.args.jobs.now c.in_ok-number.number c.in_ok-jobs.jobs (sym c.parse_decimal.ensures ∙ c.in_ok-number.was)
    (sym c.parse_decimal-2.ensures ∙ c.in_ok-jobs.was) (omega (arith, few))
