-- By the verdict on the sum.
use Rattle.std.proofs.Common.{refl, ◌∙◌}
use Rattle.std.proofs.lemmas.Result.{IfOk-weaker}
use Rattle.session_verdicts.proofs.Calm.{each_ok}
use Rattle.session_state.proofs.Transfers.{judged_lost, judged_right, judged_so, sees_right, sees_wrong, wrong_digest, wrong_size}
use Rattle.std.proofs.Common.{sym}
use Rattle.session_verdicts.proofs.verdict.verify.Goals as goal

pub returns-in-Right-clause-does : goal.returns-in-Right-clause-does
returns-in-Right-clause-does g c =
    IfOk-weaker c.commit.result _ _
    (λ step does k is rows part right sees.
    let key = c.in_ok-key.ensures ∙ c.key.ensures in
    let s = sees_right _ c.args.taken.now c.in-Some.sum c.in_ok-key.key right c.in_ok-judge_sum-in-Some.field-0 c.in-Some.is key c.in_ok-judge_sum-in-Some.ensures.right c.in-Right.is sees in
    judged_so _ _ _ _ _ _ _ _ _ _ _ _ s.0 key s.1 (does k is rows part s.2))
    c.commit.ensures.does

pub returns-in-WrongSize-clause-does : goal.returns-in-WrongSize-clause-does
returns-in-WrongSize-clause-does g c = λ k is rows part right sees.
    let key = c.in_ok-key.ensures ∙ c.key.ensures in
    let no = sees_wrong _ c.args.taken.now c.in-Some.sum c.in_ok-key.key right c.in_ok-judge_sum-in-Some.field-0 c.in-Some.is key c.in_ok-judge_sum-in-Some.ensures.right (wrong_size _ _ _ c.in-WrongSize.is) sees in
    judged_so _ _ _ _ _ _ _ _ _ _ _ _ no key refl (c.discard.ensures.does k is rows part c.args.taken.now.size)

pub returns-in-WrongDigest-clause-does : goal.returns-in-WrongDigest-clause-does
returns-in-WrongDigest-clause-does g c = λ k is rows part right sees.
    let key = c.in_ok-key.ensures ∙ c.key.ensures in
    let no = sees_wrong _ c.args.taken.now c.in-Some.sum c.in_ok-key.key right c.in_ok-judge_sum-in-Some.field-0 c.in-Some.is key c.in_ok-judge_sum-in-Some.ensures.right (wrong_digest _ _ _ c.in-WrongDigest.is) sees in
    judged_so _ _ _ _ _ _ _ _ _ _ _ _ no key refl (c.discard-in-WrongDigest.ensures.does k is rows part c.args.taken.now.size)

pub returns-in-Right-clause-judged : goal.returns-in-Right-clause-judged
returns-in-Right-clause-judged g c =
    let key = c.in_ok-key.ensures ∙ c.key.ensures in
    each_ok c.commit.result _ (λ step.
    judged_right c.args.taken.now c.in-Some.sum c.in_ok-key.key c.in_ok-judge_sum-in-Some.field-0 step.kind c.in-Some.is key c.in_ok-judge_sum-in-Some.ensures.exact c.in-Right.is)

pub returns-in-WrongSize-clause-judged : goal.returns-in-WrongSize-clause-judged
returns-in-WrongSize-clause-judged g c = judged_lost c.args.taken.now _ c.discard.ensures.lost

pub returns-in-WrongDigest-clause-judged : goal.returns-in-WrongDigest-clause-judged
returns-in-WrongDigest-clause-judged g c = judged_lost c.args.taken.now _ c.discard-in-WrongDigest.ensures.lost

pub returns-in-None-clause-judged : goal.returns-in-None-clause-judged
returns-in-None-clause-judged g c = judged_lost c.args.taken.now _ c.discard-in-None.ensures.lost

pub returns-in-Right-clause-calls : goal.returns-in-Right-clause-calls
returns-in-Right-clause-calls g c =
    IfOk-weaker c.commit.result _ _
    (λ step made right sees.
    let key = c.in_ok-key.ensures ∙ c.key.ensures in
    let s = sees_right _ c.args.taken.now c.in-Some.sum c.in_ok-key.key right c.in_ok-judge_sum-in-Some.field-0 c.in-Some.is key c.in_ok-judge_sum-in-Some.ensures.right c.in-Right.is sees in
    rw s.0 made)
    c.commit.ensures.calls

pub returns-in-WrongSize-clause-calls : goal.returns-in-WrongSize-clause-calls
returns-in-WrongSize-clause-calls g c = λ right sees.
    let key = c.in_ok-key.ensures ∙ c.key.ensures in
    let no = sees_wrong _ c.args.taken.now c.in-Some.sum c.in_ok-key.key right c.in_ok-judge_sum-in-Some.field-0 c.in-Some.is key c.in_ok-judge_sum-in-Some.ensures.right (wrong_size _ _ _ c.in-WrongSize.is) sees in
    rw no c.discard.ensures.calls

pub returns-in-WrongDigest-clause-calls : goal.returns-in-WrongDigest-clause-calls
returns-in-WrongDigest-clause-calls g c = λ right sees.
    let key = c.in_ok-key.ensures ∙ c.key.ensures in
    let no = sees_wrong _ c.args.taken.now c.in-Some.sum c.in_ok-key.key right c.in_ok-judge_sum-in-Some.field-0 c.in-Some.is key c.in_ok-judge_sum-in-Some.ensures.right (wrong_digest _ _ _ c.in-WrongDigest.is) sees in
    rw no c.discard-in-WrongDigest.ensures.calls

pub returns-in-WrongSize-clause-contents : goal.returns-in-WrongSize-clause-contents
returns-in-WrongSize-clause-contents g c = c.discard.ensures.contents ∙ sym (c.discard.ensures.leaves _ _)

pub returns-in-WrongDigest-clause-contents : goal.returns-in-WrongDigest-clause-contents
returns-in-WrongDigest-clause-contents g c = c.discard-in-WrongDigest.ensures.contents ∙ sym (c.discard-in-WrongDigest.ensures.leaves _ _)

pub returns-in-None-clause-contents : goal.returns-in-None-clause-contents
returns-in-None-clause-contents g c = c.discard-in-None.ensures.contents ∙ sym (c.discard-in-None.ensures.leaves _ _)
