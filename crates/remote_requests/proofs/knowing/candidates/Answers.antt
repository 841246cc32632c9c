-- One repository more.
use Rattle.std.proofs.Common.{ℕ, ◌<◌, List, ◌∷◌, [], ◌++◌, sym, ap, ◌∙◌, arith, length-append}
use Rattle.remote_requests.proofs.CandidateLists.{one_more, same_own, same_target}
use Rattle.remote_requests.proofs.knowing.candidates.Goals as goal
use Rattle.remote_requests.proofs.knowing.candidates.Goals.{then-c-repo+then-c-target+in_ok-push-2, else-c-repo, else-c-repo-via-then-c-repo+else-c-target, else-c-repo-via-else-c-repo}

pub loop-c-preserved : goal.loop-c-preserved
loop-c-preserved g c =
    let repo = c.repo-repo.result in
    let target = c.args.target in
    let n = c.loop-c.c in
    let was = c.loop-c.invariant in
    elim c.if-c-repo.branch [
      | then-c-repo+then-c-target+in_ok-push-2 v ↦ record {
        all = rw (v.found-is, v.in_ok-push-2.ensures.items) (ap (λ (l : List ℕ). l ++ n ∷ []) was.all ∙ ap (λ (l : List ℕ). repo ∷ l) (sym (one_more target repo n v.if-c-repo.true v.if-c-target.true)));
        few = rw (v.found-is, v.in_ok-push-2.ensures.items, length-append) (omega (arith, was.few));
        passed = λ lt. let other = v.if-c-repo.true in let before : repo < n = omega arith in rw (v.found-is, v.in_ok-push-2.ensures.items, length-append) (omega (arith, was.passed before));
      }
      | else-c-repo v ↦ elim v.else-c-repo.branch [
        | else-c-repo-via-then-c-repo+else-c-target u ↦ record {
          all = rw v.found-is (was.all ∙ ap (λ (l : List ℕ). repo ∷ l) (sym (same_target target repo n u.if-c-repo.true u.if-c-target.false)));
          few = rw v.found-is (omega (arith, was.few));
          passed = λ lt. let other = u.if-c-repo.true in let before : repo < n = omega arith in rw v.found-is (omega (arith, was.passed before));
        }
        | else-c-repo-via-else-c-repo u ↦ record {
          all = rw v.found-is (was.all ∙ ap (λ (l : List ℕ). repo ∷ l) (sym (same_own target repo n u.if-c-repo.false)));
          few = rw v.found-is (omega (arith, was.few));
          passed = λ lt. rw v.found-is (omega (arith, was.few));
        }
      ]
    ]
