-- What other jobs have.
use Rattle.std.proofs.Common.{sym, ◌∙◌, subst}
use Rattle.drop_phases.specs.declared.phase.Token.{Token}
use Rattle.drop_phases.specs.Doing.{HasToken}
use Rattle.drop_phases.proofs.Tokens.{others_off}
use Rattle.local_drops.proofs.acting.give_up.Goals as goal

pub returns-in-Bar-clause-others : goal.returns-in-Bar-clause-others
returns-in-Bar-clause-others c =
    let w = c.args.worker.now in
    others_off w.number c.in-Bar.bar w.job.key c.args.table.now c.unbar.new.self c.unbar.ensures.off
    (subst (λ (t : Token). HasToken w.number w.job.key t c.args.table.now) (sym c.take_token.ensures.token ∙ c.in-Bar.is) c.requires.owns) c.unbar.ensures.holds
