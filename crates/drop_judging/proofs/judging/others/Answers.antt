-- One repository more.
use Rattle.std.proofs.Common.{◌∷◌, [], ◌++◌, sym, ap, ◌∙◌, arith, length-append}
use Rattle.drop_judging.proofs.Judgings.{but_other, but_self}
use Rattle.drop_judging.proofs.judging.others.Goals as goal
use Rattle.drop_judging.proofs.judging.others.Goals.{then-c-repo+in_ok-push, else-c-repo}

pub loop-c-preserved : goal.loop-c-preserved
loop-c-preserved g c =
    elim c.if-c-repo.branch [
      | then-c-repo+in_ok-push v ↦ record {
        all = rw (v.found-is, v.in_ok-push.ensures.items) (ap (λ l. l ++ c.loop-c.c ∷ []) c.loop-c.invariant.all ∙ sym (but_other c.repo-repo.result c.loop-c.c v.if-c-repo.true));
        few = rw (v.found-is, v.in_ok-push.ensures.items, length-append) (omega (arith, c.loop-c.invariant.few));
      }
      | else-c-repo v ↦ record {
        all = rw v.found-is (c.loop-c.invariant.all ∙ sym (but_self c.repo-repo.result c.loop-c.c v.if-c-repo.false));
        few = rw v.found-is (omega (arith, c.loop-c.invariant.few));
      }
    ]
