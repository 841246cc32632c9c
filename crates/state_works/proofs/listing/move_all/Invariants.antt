-- What holds at each turn of the loops of `listing::move_all`.
use Rattle.std.proofs.Common.{◌≡◌, ℕ, ◌+◌, ◌≤◌, ◌^◌, ◌++◌, drop, get_or, map, take}
use Rattle.annex_base.specs.Lists.{Each}
use Rattle.node_model.specs.Jobs.{RowsAndEnds, work_after}
use Rattle.state_jobs.specs.Around.{AreEndedBy, AreRows}
use Rattle.state_jobs.specs.Phases.{IsBelow}
use Rattle.state_jobs.specs.Works.{work_of}
use Rattle.state_jobs.specs.declared.work.Work.{Work}
use Rattle.state_works.proofs.listing.move_all.Given as goal

abbrev pub invariant-loop-work : goal.invariant-loop-work
invariant-loop-work l = record {
  works : (x : RowsAndEnds) → AreRows x l.rows → AreEndedBy x l.entry l.ends
      → map work_of l.work-items ≡ map (work_after x l.repo l.entry) (take l.work-index (map work_of l.initial.work-items)) ++ drop l.work-index (map work_of l.initial.work-items);
  rest : (k : ℕ) (d : Work) → l.work-index ≤ k → get_or l.work-items k d ≡ get_or l.initial.work-items k d;
  small : (limit : ℕ) → 2 ^ 64 ≤ limit → Each (λ w. IsBelow limit w.phase) l.initial.work-items → Each (λ w. IsBelow (limit + 2 ^ 64) w.phase) (take l.work-index l.work-items);
}
