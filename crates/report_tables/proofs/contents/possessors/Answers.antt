-- What the proof of `contents::possessors` needs beside the tactics.
use Rattle.std.proofs.Common.{◌≡◌, ◌<◌, ◌∙◌, sym, ap, arith, Vec, Global, ℕ}
use Rattle.report_tables.proofs.Numbers.{filter_kept, filter_left}
use Rattle.report_tables.proofs.contents.possessors.Goals as goal
use Rattle.report_tables.proofs.contents.possessors.Goals.{then-has+in_ok-push, else-has}

pub loop-repo-preserved : goal.loop-repo-preserved
loop-repo-preserved c = λ past t.
    let within : c.loop-repo.repo < c.args.repositories = omega arith in
    let known = c.has.ensures.known c.args.repositories past t within in
    elim c.if-has.branch [
      | then-has+in_ok-push w ↦
          filter_kept _ c.loop-repo.repo _ _ (sym known ∙ w.if-has.true) (c.loop-repo.invariant past t) (ap (λ (v : Vec ℕ Global). v.items) w.numbers-is ∙ w.in_ok-push.ensures.items)
      | else-has w ↦
          filter_left _ c.loop-repo.repo _ _ (sym known ∙ w.if-has.false) (c.loop-repo.invariant past t) (ap (λ (v : Vec ℕ Global). v.items) w.numbers-is)
    ]

pub returns : goal.returns
returns c = λ past t.
    let all : c.loop-repo.repo ≡ c.args.repositories = omega arith in
    rw all at (c.loop-repo.invariant past t)
