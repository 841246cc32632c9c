-- What holds at each turn of the loops of `listing::reserve_all`.
use Rattle.std.proofs.Common.{◌≡◌, map, take}
use Rattle.annex_base.specs.Lists.{Each}
use Rattle.state_jobs.specs.Works.{HasRoom, work_of}
use Rattle.state_works.proofs.listing.reserve_all.Given as goal

abbrev pub invariant-loop-work : goal.invariant-loop-work
invariant-loop-work l = record {
  same : map work_of l.work-items ≡ map work_of l.initial.work-items;
  phases : map (λ w. w.phase) l.work-items ≡ map (λ w. w.phase) l.initial.work-items;
  room : Each HasRoom (take l.work-index l.work-items);
}
