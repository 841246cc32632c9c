-- The slots one after the other.
use Rattle.std.proofs.Common.{◌∙◌, arith}
use Rattle.running_jobs.proofs.Placing.{first_found, more_idle}
use Rattle.running_jobs.proofs.finding.find_ready.Goals as goal

pub returns-in-Some-clause-finds : goal.returns-in-Some-clause-finds
returns-in-Some-clause-finds c =
    first_found c.args.place.now c.args.clock c.args.ends.now c.loop-slot.ends c.args.jobs.now c.args.time c.loop-slot.slot c.in_ok-found.field-0 c.in-Some.found c.loop-slot.invariant.same c.in-Some.is c.in_ok-found.ensures.finds
    c.loop-slot.invariant.idle

pub loop-slot-preserved : goal.loop-slot-preserved
loop-slot-preserved c = record {
  same = c.at_slot.ensures.same ∙ c.loop-slot.invariant.same;
  idle = more_idle c.args.place.now c.args.clock c.args.ends.now c.loop-slot.ends c.args.jobs.now c.args.time c.loop-slot.slot c.in_ok-found.field-0 c.loop-slot.invariant.same c.in_default.is c.in_ok-found.ensures.finds
      c.loop-slot.invariant.idle;
}

pub returns-clause-finds : goal.returns-clause-finds
returns-clause-finds c = λ slot below. c.loop-slot.invariant.idle slot (omega (arith, below))
