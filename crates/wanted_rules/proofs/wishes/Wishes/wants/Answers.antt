-- What the proof of `wishes::Wishes::wants` needs beside the tactics.
use Rattle.std.proofs.Common.{sym, ap, ◌∙◌}
use Rattle.std.proofs.lemmas.Result.{IfOk-weaker}
use Rattle.std.specs.Option.{option_copied}
use Rattle.trust_groups.specs.View.{settings_of, text_read}
use Rattle.wanted_expr.specs.Wanted.{formula_read}
use Rattle.wanted_rules.specs.Reads.{Wishing}
use Rattle.wanted_rules.proofs.WishLemmas.{wants_all, wants_by}
use Rattle.wanted_rules.proofs.wishes.Wishes.wants.Goals as goal

pub returns-in-Some : goal.returns-in-Some
returns-in-Some c =
    let w = c.args.self.now in
    let some = sym (ap option_copied c.in-Some.is) ∙ c.self.invariant.is_preferred ∙ ap (λ (w : Wishing). text_read formula_read ((settings_of w.indices).preferred w.repo)) c.self.view_is in
    IfOk-weaker c.is_true.result _ _ (λ b is. is ∙ wants_by (settings_of w.indices) w.repo c.args.key.now c.args.paths.now c.args.gone c.in-Some.expr.now some) c.is_true.ensures

pub returns-in-None : goal.returns-in-None
returns-in-None c =
    let w = c.args.self.now in
    let none = sym (ap option_copied c.in-None.is) ∙ c.self.invariant.is_preferred ∙ ap (λ (w : Wishing). text_read formula_read ((settings_of w.indices).preferred w.repo)) c.self.view_is in
    wants_all (settings_of w.indices) w.repo c.args.key.now c.args.paths.now c.args.gone none
