-- What the proof of `verdict::judge_sum` needs beside the tactics.
use Rattle.key_verify.proofs.Verdicts.{judged_right}
use Rattle.key_verify.proofs.verdict.judge_sum.Goals as goal

pub returns-clause-right : goal.returns-clause-right
returns-clause-right c = λ bytes same. judged_right c.args.key.now bytes c.args.sum.now c.judge.result c.judge.ensures same
