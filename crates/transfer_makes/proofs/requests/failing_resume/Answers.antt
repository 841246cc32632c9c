-- What the proof of `requests::failing_resume` needs beside the tactics.
use Rattle.transfer_makes.proofs.Parts.{begun_anew, resumed}
use Rattle.job_makes.specs.Turns.{turn_in}
use Rattle.transfer_makes.proofs.requests.failing_resume.Goals as goal

pub returns-then-part-eq0 : goal.returns-then-part-eq0
returns-then-part-eq0 c = λ s st.
    let t = turn_in c.args.turn.now s st in
    begun_anew c.fails.result t.look.fails c.part_told-part.result t.look.part c.part_told-part.ensures.value c.if-part-eq0.true (c.fails.ensures s st)

pub returns-else-part-eq0 : goal.returns-else-part-eq0
returns-else-part-eq0 c = λ s st.
    let t = turn_in c.args.turn.now s st in
    resumed c.fails_of.result t.look.fails c.part_told-part.result t.look.part c.part_told-part.ensures.value c.if-part-eq0.false (c.fails_of.ensures s st)
