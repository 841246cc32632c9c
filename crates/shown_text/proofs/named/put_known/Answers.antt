-- What the proof of `named::put_known` needs beside the tactics.
use Rattle.std.proofs.Common.{◌<◌, ◌∙◌, sym, arith, length, Bool, bytes_eq}
use Rattle.std.specs.List.{list_any}
use Rattle.run_data.specs.declared.run.RepoView.{RepoView}
use Rattle.shown_text.proofs.Chosen.{chosen_with, chosen_without}
use Rattle.shown_text.proofs.named.put_known.Goals as goal
use Rattle.shown_text.proofs.named.put_known.Goals.{then-is_among+in_ok-clone+in_ok-push, else-is_among}

pub loop-repo-preserved : goal.loop-repo-preserved
loop-repo-preserved c =
    let among : RepoView → Bool = λ repo. list_any (λ id. bytes_eq id repo.id) c.args.ids.now in
    let within : c.loop-repo.repo-index < length c.args.repos.now = omega arith in
    elim c.if-is_among.branch [
      | then-is_among+in_ok-clone+in_ok-push w ↦
          chosen_with among (λ repo. repo.name) c.args.repos.now c.loop-repo.repo-index c.repo-item.result _ _ _ within c.repo-item.is (sym c.is_among.ensures ∙ w.if-is_among.true) c.loop-repo.invariant
          (cc (w.words-is, w.in_ok-push.ensures.items, w.in_ok-clone.ensures.cases))
      | else-is_among w ↦
          chosen_without among (λ repo. repo.name) c.args.repos.now c.loop-repo.repo-index c.repo-item.result _ _ _ within c.repo-item.is (sym c.is_among.ensures ∙ w.if-is_among.false) c.loop-repo.invariant (cc w.words-is)
    ]
