-- The first request after a version.
use Rattle.std.proofs.Common.{arith}
use Rattle.remote_answers.proofs.Ordering.{greet_speaks, greet_takes}
use Rattle.remote_answers.proofs.Standing.{greet_gone}
use Rattle.remote_requests.proofs.Apart.{greet_stays}
use Rattle.remote_answers.proofs.taking.greet.Goals as goal

pub returns-clause-does : goal.returns-clause-does
returns-clause-does g c = λ rows.
    greet_takes (g.H.Here.reading c.args.here.now) (g.H.Here.ends c.args.here.now) c.args.time c.args.worker.now c.request.new.worker c.learn-2.new.self c.args.target c.args.peer c.args.version _ _ rows c.requires.remote c.requires.at
    c.in_ok-end.ensures (omega (arith, c.if-version-gt3.false)) (rw c.key.ensures at c.reads_all.ensures) c.in_ok-out-2.ensures.says c.learn-2.ensures

pub returns-clause-speaks : goal.returns-clause-speaks
returns-clause-speaks g c =
    greet_speaks (g.H.Here.reading c.args.here.now).need c.args.worker.now c.request.new.worker c.learn-2.new.self c.args.target c.args.time c.args.peer c.args.version _ _ c.in_ok-out-2.ensures.says c.learn-2.ensures

pub returns-clause-begun : goal.returns-clause-begun
returns-clause-begun g c =
    greet_gone (g.H.Here.reading c.args.here.now).need c.args.worker.now c.request.new.worker c.learn-2.new.self c.args.target c.args.time c.args.peer c.args.version _ _ c.in_ok-out-2.ensures.says c.learn-2.ensures

pub returns-clause-apart : goal.returns-clause-apart
returns-clause-apart g c =
    greet_stays (g.H.Here.reading c.args.here.now).need c.args.worker.now c.request.new.worker c.learn-2.new.self c.args.target c.args.time c.args.peer c.args.version _ _ c.requires.at c.in_ok-out-2.ensures.says c.learn-2.ensures
