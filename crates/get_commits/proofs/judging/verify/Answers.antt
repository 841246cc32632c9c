-- By the verdict.
use Rattle.std.proofs.Common.{Option, ℕ, subst}
use Rattle.get_verdicts.specs.Verdicts.{IsVerdict}
use Rattle.get_phases.proofs.Losses.{word_at}
use Rattle.get_commits.proofs.judging.verify.Goals as goal

pub commit-requires : goal.commit-requires
commit-requires g c = record {
  judged = record { taken = c.in-Word.taken; at = word_at c.args.peer _ _ _ _ _ _ c.requires.served.at c.in-Word.is; verdict = subst (λ (o : Option ℕ). IsVerdict c.in-Word.taken o) c.in-Some.is c.in_ok-size.ensures };
  has = c.requires.has;
}

pub discard-requires : goal.discard-requires
discard-requires g c = record {
  judged = record { taken = c.in-Word.taken; at = word_at c.args.peer _ _ _ _ _ _ c.requires.served.at c.in-Word.is; verdict = subst (λ (o : Option ℕ). IsVerdict c.in-Word.taken o) c.in-None.is c.in_ok-size.ensures };
  has = c.requires.has;
}
