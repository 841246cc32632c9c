-- What the proof of `facts::add_claimant` needs beside the tactics.
use Rattle.std.proofs.Common.{List, ◌∷◌, ◌++◌, [], sym, ap, ◌∙◌}
use Rattle.std.proofs.lemmas.Result.{IfOk-weaker}
use Rattle.trust_groups.specs.View.{settings_of}
use Rattle.wanted_expr.specs.declared.data.Claimant.{Claimant}
use Rattle.wanted_rules.proofs.WishLemmas.{gone_claimed, here_claimed}
use Rattle.wanted_rules.proofs.facts.add_claimant.Goals as goal

pub returns-then-is_gone : goal.returns-then-is_gone
returns-then-is_gone c = gone_claimed (settings_of c.args.settings.now) c.args.repo c.args.gone c.args.other c.args.claimed.now (sym c.is_gone.ensures ∙ c.if-is_gone.true)

pub returns : goal.returns
returns c =
    let claimed = c.args.claimed.now in
    IfOk-weaker c.push.result _ _ (λ v is.
    is
    ∙ ap (λ (x : Claimant). claimed ++ x ∷ []) c.in_ok-found.ensures
    ∙ ap (λ (xs : List Claimant). claimed ++ xs) (here_claimed (settings_of c.args.settings.now) c.args.repo c.args.gone c.args.other (sym c.is_gone.ensures ∙ c.if-is_gone.false))) c.push.ensures.ok
