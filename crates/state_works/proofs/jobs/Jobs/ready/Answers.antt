-- What the proof of `jobs::Jobs::ready` needs beside the tactics.
use Rattle.std.proofs.Common.{refl, sym, subst, arith}
use Rattle.annex_base.specs.Lists.{Each}
use Rattle.state_jobs.specs.Works.{HasRoom}
use Rattle.state_works.proofs.WorkLemmas.{stays}
use Rattle.state_works.proofs.jobs.Jobs.ready.Goals as goal

pub returns-in_err-reserve_all-clause-same : goal.returns-in_err-reserve_all-clause-same
returns-in_err-reserve_all-clause-same c = stays c.args.self.now _ c.reserve_all.new.running.items c.reserve_all.ensures.same c.reserve_all.ensures.below refl

pub returns-in_err-reserve-clause-same : goal.returns-in_err-reserve-clause-same
returns-in_err-reserve-clause-same c = stays c.args.self.now _ c.reserve_all.new.running.items c.reserve_all.ensures.same c.reserve_all.ensures.below c.reserve.ensures.items

pub returns-in_err-begun-clause-same : goal.returns-in_err-begun-clause-same
returns-in_err-begun-clause-same c = stays c.args.self.now _ c.reserve_all.new.running.items c.reserve_all.ensures.same c.reserve_all.ensures.below c.reserve.ensures.items

pub returns-in_err-talk-clause-same : goal.returns-in_err-talk-clause-same
returns-in_err-talk-clause-same c = stays c.args.self.now _ c.reserve_all.new.running.items c.reserve_all.ensures.same c.reserve_all.ensures.below c.reserve.ensures.items

pub returns-clause-same : goal.returns-clause-same
returns-clause-same c = stays c.args.self.now _ c.reserve_all.new.running.items c.reserve_all.ensures.same c.reserve_all.ensures.below c.reserve.ensures.items

pub returns-clause-room : goal.returns-clause-room
returns-clause-room c = record {
  jobs = omega (arith, c.in_ok-reserve.ensures.ok);
  each = subst (Each HasRoom) (sym c.reserve.ensures.items) c.in_ok-reserve_all.ensures.room;
}
