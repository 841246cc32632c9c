-- What the proof of `named::put_unknown` needs beside the tactics.
use Rattle.std.proofs.Common.{◌<◌, ◌∙◌, sym, ap, arith, length, Bool, not, ℕ, List, bytes_eq}
use Rattle.std.specs.List.{list_any}
use Rattle.annex_base.specs.RepoText.{repo_text}
use Rattle.shown_text.proofs.Chosen.{chosen_with, chosen_without}
use Rattle.shown_text.proofs.named.put_unknown.Goals as goal
use Rattle.shown_text.proofs.named.put_unknown.Goals.{then-not-has_name+in_ok-new+in_ok-push, else-not-has_name}

pub loop-id-preserved : goal.loop-id-preserved
loop-id-preserved c =
    let unnamed : List ℕ → Bool = λ id. not (list_any (λ repo. bytes_eq id repo.id) c.args.repos.now) in
    let within : c.loop-id.id-index < length c.args.ids.now = omega arith in
    elim c.if-not-has_name.branch [
      | then-not-has_name+in_ok-new+in_ok-push w ↦
          chosen_with unnamed repo_text c.args.ids.now c.loop-id.id-index c.id-item.result _ _ _ within c.id-item.is (ap not (sym c.has_name.ensures ∙ w.if-not-has_name.true)) c.loop-id.invariant
          (cc (w.words-is, w.in_ok-push.ensures.items, w.in_ok-new.ensures, w.print.ensures.text))
      | else-not-has_name w ↦
          chosen_without unnamed repo_text c.args.ids.now c.loop-id.id-index c.id-item.result _ _ _ within c.id-item.is (ap not (sym c.has_name.ensures ∙ w.if-not-has_name.false)) c.loop-id.invariant (cc w.words-is)
    ]
