-- Why there is no share.
use Rattle.std.proofs.Common.{◌≡◌, ℕ, List, ◌∷◌, Option, subst, ap, ◌∙◌}
use Rattle.node_model.specs.Look.{failed_in}
use Rattle.content_lock.specs.Looks.{LooksSo, NotShared}
use Rattle.content_lock.specs.declared.refusals.Look.TheVariants as looks
use Rattle.content_lock.specs.Rows.{bar_at}
use Rattle.content_lock.specs.Stored.{HasContent}
use Rattle.drop_phases.specs.declared.phase.Heard.TheVariants as heards
use Rattle.drop_phases.specs.declared.phase.Phase.{Phase}
use Rattle.drop_phases.specs.declared.phase.Phase.TheVariants as phases
use Rattle.drop_phases.specs.Leaving.{store}
use Rattle.drop_phases.specs.Feeding.{FitsRemote}
use Rattle.remote_requests.specs.Remote.{FollowsShareRefused}
use Rattle.drop_phases.specs.Worker.{Worker}
use Rattle.drop_phases.specs.Working.{sight}
use Rattle.remote_drops.proofs.RemoteCalls.{shared_makes, unshared_makes}
use Rattle.remote_drops.proofs.Sharings.{unshared_did}
use Rattle.drop_phases.proofs.OwnCopies.{own_told}
use Rattle.remote_requests.proofs.RemoteBegun.{any_gone, unshared_gone, unshared_told}
use Rattle.drop_phases.specs.declared.phase.Token.TheVariants as tokens
use Rattle.remote_requests.proofs.Apart.{shares_stays, unshared_stays}
use Rattle.remote_drops.proofs.acting.share_own.Goals as goal

pub returns-in-Err-clause-did : goal.returns-in-Err-clause-did
returns-in-Err-clause-did g c =
    let read = g.H.Here.reading c.args.here.now in
    let w = c.args.worker.now in
    unshared_did (sight read (g.H.Here.ends c.args.here.now) c.args.input.now.time c.args.input.now.number) c.args.table.now c.share.new.self
    (store (g.K.Keeper.contents c.args.keeper.now) (g.K.Keeper.records c.args.keeper.now) (g.K.Keeper.faults c.args.keeper.now)) (store (g.K.Keeper.contents c.share.new.keeper) (g.K.Keeper.records c.share.new.keeper) (g.K.Keeper.faults c.share.new.keeper)) w c.unshared.new.worker
    c.args.target c.requires.stands.remote c.requires.at (subst (λ (ph : Phase). FitsRemote ph w.token) c.requires.at c.requires.stands.fits) c.requires.stands.owns c.requires.spared c.requires.asked
    c.in-Err.ensures.err c.in-Err.ensures.contents c.in-Err.ensures.err_records c.requires.stands.agrees c.in-Err.ensures.later c.in-Err.why c.unshared.result
    (subst (λ (key : List ℕ). NotShared c.in-Err.why (HasContent (g.K.Keeper.contents c.args.keeper.now) key) (bar_at c.args.table.now key)) (c.key-3.ensures ∙ ap (λ (u : Worker). u.job.key) c.in_ok-hear.ensures.ok) c.in-Err.ensures.why)
    c.in-Err.ensures.cause
    (subst (λ (bar : Option ℕ). FollowsShareRefused bar c.in-Err.why (record w { heard = (read.repo, heards.Held c.args.input.now.time) ∷ w.heard; phase = phases.Next }) c.unshared.new.worker c.unshared.result)
    (λ i. bar_at (c.in-Err.ensures.err i) (c.in_ok-hear.ensures.ok i).job.key)
    (subst (λ (u : Worker). FollowsShareRefused (bar_at c.share.new.self c.hear.new.self.job.key) c.in-Err.why u c.unshared.new.worker c.unshared.result)
    (c.in_ok-hear.ensures.ok ∙ (λ i. record w { heard = (c.repo.ensures i, heards.Held c.args.input.now.time) ∷ w.heard; phase = phases.Next })) c.unshared.ensures))

pub returns-in-Ok-clause-calls : goal.returns-in-Ok-clause-calls
returns-in-Ok-clause-calls g c =
    shared_makes (sight (g.H.Here.reading c.args.here.now) (g.H.Here.ends c.args.here.now) c.args.input.now.time c.args.input.now.number) (g.K.Keeper.contents c.args.keeper.now) c.args.table.now c.args.worker.now (g.K.Keeper.failing c.args.keeper.now) (g.K.Keeper.failing c.share.new.keeper) c.requires.stands.remote.side c.requires.at c.requires.spared c.requires.asked c.quietly.result
    (subst (λ (key : List ℕ). LooksSo looks.Present (HasContent (g.K.Keeper.contents c.args.keeper.now) key) (bar_at c.args.table.now key)) (c.key-3.ensures ∙ ap (λ (u : Worker). u.job.key) c.in_ok-hear.ensures.ok) c.in-Ok.ensures.free)
    (ap failed_in c.quietly.ensures.0) c.in-Ok.ensures.failing

pub returns-in-Err-clause-calls : goal.returns-in-Err-clause-calls
returns-in-Err-clause-calls g c =
    unshared_makes (sight (g.H.Here.reading c.args.here.now) (g.H.Here.ends c.args.here.now) c.args.input.now.time c.args.input.now.number) (g.K.Keeper.contents c.args.keeper.now) c.args.table.now c.args.worker.now (g.K.Keeper.failing c.args.keeper.now) (g.K.Keeper.failing c.share.new.keeper) c.requires.stands.remote.side c.requires.at c.requires.spared c.requires.asked c.hear.new.self c.unshared.new.worker (bar_at c.share.new.self c.hear.new.self.job.key) c.in-Err.why c.unshared.result
    (subst (λ (key : List ℕ). NotShared c.in-Err.why (HasContent (g.K.Keeper.contents c.args.keeper.now) key) (bar_at c.args.table.now key)) (c.key-3.ensures ∙ ap (λ (u : Worker). u.job.key) c.in_ok-hear.ensures.ok) c.in-Err.ensures.why)
    c.unshared.ensures c.in-Err.ensures.failing

pub returns-in-Err-clause-begun : goal.returns-in-Err-clause-begun
returns-in-Err-clause-begun g c =
    let read = g.H.Here.reading c.args.here.now in
    let w = c.args.worker.now in
    any_gone read w c.unshared.new.worker c.unshared.result
    (unshared_gone read w c.hear.new.self c.unshared.new.worker read.repo (heards.Held c.args.input.now.time) (c.in_ok-hear.ensures.ok ∙ (λ i. record w { heard = (c.repo.ensures i, heards.Held c.args.input.now.time) ∷ w.heard; phase = phases.Next }))
    (bar_at c.share.new.self c.hear.new.self.job.key) c.in-Err.why c.unshared.result c.unshared.ensures)

pub returns-in-Ok-clause-own : goal.returns-in-Ok-clause-own
returns-in-Ok-clause-own g c = λ going.
    own_told (g.H.Here.reading c.args.here.now).repo (heards.Held c.args.input.now.time) c.args.worker.now.heard c.take_share.new.self.heard
    (ap (λ (u : Worker). u.heard) c.take_share.ensures ∙ (ap (λ (u : Worker). u.heard) c.in_ok-hear.ensures.ok ∙ (λ i. (c.repo.ensures i, heards.Held c.args.input.now.time) ∷ c.args.worker.now.heard)))

pub returns-in-Err-clause-own : goal.returns-in-Err-clause-own
returns-in-Err-clause-own g c =
    let read = g.H.Here.reading c.args.here.now in
    let w = c.args.worker.now in
    unshared_told read w c.hear.new.self c.unshared.new.worker read.repo (heards.Held c.args.input.now.time) (c.in_ok-hear.ensures.ok ∙ (λ i. record w { heard = (c.repo.ensures i, heards.Held c.args.input.now.time) ∷ w.heard; phase = phases.Next }))
    (bar_at c.share.new.self c.hear.new.self.job.key) c.in-Err.why c.unshared.result c.unshared.ensures

pub returns-in-Ok-clause-apart : goal.returns-in-Ok-clause-apart
returns-in-Ok-clause-apart g c =
    let read = g.H.Here.reading c.args.here.now in
    let w = c.args.worker.now in
    let next : c.take_share.new.self ≡ record w { heard = (read.repo, heards.Held c.args.input.now.time) ∷ w.heard; phase = phases.Next; token = tokens.Share c.in-Ok.share } =
    c.take_share.ensures ∙ (λ i. record (c.in_ok-hear.ensures.ok i) { token = tokens.Share c.in-Ok.share }) ∙ (λ i. record w { heard = (c.repo.ensures i, heards.Held c.args.input.now.time) ∷ w.heard; phase = phases.Next; token = tokens.Share c.in-Ok.share }) in
    shares_stays read.repo c.args.target (heards.Held c.args.input.now.time) w c.take_share.new.self c.quietly.result (ap (λ (u : Worker). u.heard) next) (ap (λ (u : Worker). u.phase) next) (ap (λ (u : Worker). u.word) next) c.quietly.ensures.1

pub returns-in-Err-clause-apart : goal.returns-in-Err-clause-apart
returns-in-Err-clause-apart g c =
    let read = g.H.Here.reading c.args.here.now in
    let w = c.args.worker.now in
    unshared_stays read.repo c.args.target w c.hear.new.self c.unshared.new.worker (heards.Held c.args.input.now.time) (c.in_ok-hear.ensures.ok ∙ (λ i. record w { heard = (c.repo.ensures i, heards.Held c.args.input.now.time) ∷ w.heard; phase = phases.Next }))
    (bar_at c.share.new.self c.hear.new.self.job.key) c.in-Err.why c.unshared.result c.unshared.ensures
