-- The job's own peer, or another by its place.
use Rattle.std.proofs.Common.{length, refl, ◌∙◌, arith}
use Rattle.job_makes.specs.Turns.{turn_in}
use Rattle.transfer_makes.proofs.Others.{others_at, own_first, own_past}
use Rattle.transfer_makes.proofs.sources.next_source.Goals as goal

pub returns-in-None : goal.returns-in-None
returns-in-None c = λ s st.
    let w = c.args.turn.now.work.now in
    let t = turn_in c.args.turn.now s st in
    c.other_at.ensures ∙ others_at t w.what.peer (length w.causes.items) c.args.turn.now.repo c.count.result c.len-asked.result c.in-None.is (omega (arith, w.causes.ok.0, c.len-asked.ensures)) refl c.count.ensures

pub returns-then-asked-eq0 : goal.returns-then-asked-eq0
returns-then-asked-eq0 c = λ s st.
    let w = c.args.turn.now.work.now in
    own_first (turn_in c.args.turn.now s st) w.what.peer c.in-Some.peer (length w.causes.items) c.len-asked.result c.in-Some.is (omega (arith, w.causes.ok.0, c.len-asked.ensures)) c.if-asked-eq0.true

pub returns-else-asked-eq0 : goal.returns-else-asked-eq0
returns-else-asked-eq0 c = λ s st.
    let w = c.args.turn.now.work.now in
    own_past (turn_in c.args.turn.now s st) w.what.peer c.in-Some.peer (length w.causes.items) c.len-asked.result c.in-Some.is (omega (arith, w.causes.ok.0, c.len-asked.ensures)) c.if-asked-eq0.false
