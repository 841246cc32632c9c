-- What the proof of `holders::Holders::claim_all` needs beside the tactics.
use Rattle.std.proofs.Common.{◌<◌, refl, subst, sym, ◌∙◌}
use Rattle.run_audit.specs.Holders.{holder_at}
use Rattle.run_audit.proofs.Holding.{claims_more, no_claims}
use Rattle.run_audit.proofs.holders.Holders.claim_all.Goals as goal

pub loop-repo-init : goal.loop-repo-init
loop-repo-init c = record { all = refl; each = λ r lt. no_claims (holder_at c.args.self.now.each.items r) }

pub loop-repo-preserved : goal.loop-repo-preserved
loop-repo-preserved c = record {
  all = c.claim.ensures.all ∙ c.loop-repo.invariant.all;
  each = λ r lt. claims_more c.args.repos.now c.loop-repo.repo-index r (holder_at c.args.self.now.each.items r) (holder_at c.loop-repo.self.each.items r) (holder_at c.claim.new.self.each.items r) c.loop-repo-test.true
      (c.loop-repo.invariant.each r lt) (c.claim.ensures.each r (subst (λ n. r < n) (sym c.loop-repo.invariant.all) lt));
}
