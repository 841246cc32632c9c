-- What holds at each turn of the loop of `holders::Holders::claim_all`.
use Rattle.std.proofs.Common.{◌≡◌, ℕ, ◌<◌, length, take}
use Rattle.std.specs.Prelude.{◌==◌, ◌||◌}
use Rattle.std.specs.List.{list_any}
use Rattle.run_audit.specs.Holders.{holder_at}
use Rattle.run_audit.proofs.holders.Holders.claim_all.Given as goal

-- the claims so far were counted
abbrev pub invariant-loop-repo : goal.invariant-loop-repo
invariant-loop-repo l = record {
  all : length l.self.each.items ≡ length l.initial.self.each.items;
  each : (r : ℕ) → r < length l.initial.self.each.items → holder_at l.self.each.items r
      ≡ record (holder_at l.initial.self.each.items r) { claim = (holder_at l.initial.self.each.items r).claim || list_any (λ c. c == r) (take l.repo-index l.repos) };
}
