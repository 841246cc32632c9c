-- One repository more.
use Rattle.std.proofs.Common.{ℕ, ◌==◌, ◌&&◌, [], ◌∷◌, ◌++◌, sym, ap, ◌∙◌}
use Rattle.std.specs.List.{list_any}
use Rattle.drop_proof.specs.declared.evidence.Evidence.{Evidence}
use Rattle.drop_judging.specs.Judging.{test_of}
use Rattle.drop_judging.proofs.Evidences.{chosen_no, chosen_yes}
use Rattle.drop_judging.proofs.evidence.repos_of.Goals as goal
use Rattle.drop_judging.proofs.evidence.repos_of.Goals.{then-has_item+in_ok-push, else-has_item}

pub loop-repo-preserved : goal.loop-repo-preserved
loop-repo-preserved c =
    let p = λ (r : ℕ). list_any (λ (i : Evidence). (i.repo == r) && test_of c.args.sort i.kind) c.args.items.now in
    elim c.if-has_item.branch [
      | then-has_item+in_ok-push v ↦ rw (v.repos-is, v.in_ok-push.ensures.items) (ap (λ l. l ++ c.loop-repo.repo ∷ []) c.loop-repo.invariant ∙ sym (chosen_yes p c.loop-repo.repo (sym c.has_item.ensures ∙ v.if-has_item.true)))
      | else-has_item v ↦ rw v.repos-is (c.loop-repo.invariant ∙ sym (chosen_no p c.loop-repo.repo (sym c.has_item.ensures ∙ v.if-has_item.false)))
    ]
