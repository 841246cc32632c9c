-- What other jobs have, and what a crash makes of the holds.
use Rattle.std.proofs.Common.{map, sym, ap, ◌∙◌, subst}
use Rattle.content_lock.specs.Rows.{Rows}
use Rattle.node_model.specs.Rows.{restart}
use Rattle.drop_phases.specs.declared.phase.Token.{Token}
use Rattle.drop_phases.specs.Doing.{HasToken}
use Rattle.drop_phases.proofs.Tokens.{others_off}
use Rattle.drop_worker.proofs.Ended.{restart_numbered}
use Rattle.drop_worker.proofs.machine.end.Goals as goal

pub returns-in-Bar-clause-others : goal.returns-in-Bar-clause-others
returns-in-Bar-clause-others c =
    let w = c.args.worker in
    others_off w.number c.in-Bar.bar w.job.key c.args.table.now c.unbar.new.self c.unbar.ensures.off
    (subst (λ (t : Token). HasToken w.number w.job.key t c.args.table.now) (sym c.into_token.ensures ∙ c.in-Bar.is) c.requires.owns) c.unbar.ensures.holds

pub returns-in-Share-clause-crash : goal.returns-in-Share-clause-crash
returns-in-Share-clause-crash c = λ clock.
    ap (λ (rows : Rows). map (restart clock) rows.holds) c.abandon.ensures.kept ∙ restart_numbered clock c.in-Share.share.number c.args.table.now.holds
