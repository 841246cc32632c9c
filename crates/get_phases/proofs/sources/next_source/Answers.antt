-- The job's own peer, or another by its place.
use Rattle.std.proofs.Common.{length, ◌∙◌, arith}
use Rattle.get_phases.proofs.Others.{others_at, own_first, own_past}
use Rattle.get_phases.proofs.sources.next_source.Goals as goal

pub returns-in-None : goal.returns-in-None
returns-in-None g c =
    let w = c.args.getting.now in
    c.other_at.ensures ∙ others_at (g.H.Here.sight c.args.here.now) w.job.peer (length w.causes.items) c.repo.result c.count.result c.len-asked.result c.in-None.is (omega (arith, w.causes.ok.0, c.len-asked.ensures)) c.repo.ensures c.count.ensures.same

pub returns-then-asked-eq0 : goal.returns-then-asked-eq0
returns-then-asked-eq0 g c =
    let w = c.args.getting.now in
    own_first (g.H.Here.sight c.args.here.now) w.job.peer c.in-Some.peer (length w.causes.items) c.len-asked.result c.in-Some.is (omega (arith, w.causes.ok.0, c.len-asked.ensures)) c.if-asked-eq0.true

pub returns-else-asked-eq0 : goal.returns-else-asked-eq0
returns-else-asked-eq0 g c =
    let w = c.args.getting.now in
    own_past (g.H.Here.sight c.args.here.now) w.job.peer c.in-Some.peer (length w.causes.items) c.len-asked.result c.in-Some.is (omega (arith, w.causes.ok.0, c.len-asked.ensures)) c.if-asked-eq0.false
