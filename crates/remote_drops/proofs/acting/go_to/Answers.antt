-- The first request on an open connection.
use Rattle.std.proofs.Common.{refl, sym, ◌∙◌}
use Rattle.remote_requests.proofs.Requesting.{request_acts, request_speaks}
use Rattle.remote_requests.proofs.RemoteBegun.{request_gone}
use Rattle.remote_requests.proofs.Apart.{opens_stay, request_stays}
use Rattle.remote_drops.proofs.acting.go_to.Goals as goal

pub returns-clause-does : goal.returns-clause-does
returns-clause-does g c =
    let read = g.H.Here.reading c.args.here.now in
    let ends = g.H.Here.ends c.args.here.now in
    let w = c.args.worker.now in
    let live = rw c.slot.ensures at (sym c.is_open.ensures ∙ c.if-not-is_open.false) in
    request_acts read ends c.args.time w c.request.new.worker read.need c.args.target c.args.peer c.version-version.result c.args.end c.request.result c.requires.remote c.requires.next c.requires.known refl c.version-version.ensures
    live (rw c.key.ensures at c.reads_all.ensures) c.request.ensures.says

pub returns-clause-speaks : goal.returns-clause-speaks
returns-clause-speaks g c =
    request_speaks (g.H.Here.reading c.args.here.now).need c.args.worker.now c.request.new.worker c.args.target c.args.time c.args.peer c.version-version.result c.args.end c.request.result c.request.ensures.says

pub returns-clause-begun : goal.returns-clause-begun
returns-clause-begun g c =
    request_gone (g.H.Here.reading c.args.here.now) (g.H.Here.reading c.args.here.now).need c.args.worker.now c.request.new.worker c.args.target c.args.time c.args.peer c.version-version.result c.args.end c.request.result c.requires.other c.request.ensures.says

pub returns-clause-apart : goal.returns-clause-apart
returns-clause-apart g c =
    request_stays c.args.target c.args.time c.args.peer c.version-version.result (g.H.Here.reading c.args.here.now).need c.args.worker.now c.request.new.worker c.args.end c.request.result c.request.ensures.says
