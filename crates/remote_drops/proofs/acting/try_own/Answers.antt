-- Its own repository isn't asked.
use Rattle.std.proofs.Common.{refl, subst, sym, ap, ◌∙◌}
use Rattle.content_lock.specs.Rows.{bar_at}
use Rattle.node_model.specs.Evidence as seen
use Rattle.drop_phases.specs.declared.phase.Phase.{Phase}
use Rattle.drop_phases.specs.Leaving.{store}
use Rattle.drop_phases.specs.Feeding.{FitsRemote}
use Rattle.drop_phases.specs.Standings.{standing_of}
use Rattle.drop_phases.specs.Working.{sight}
use Rattle.drop_phases.proofs.Numbers.{each_number}
use Rattle.remote_requests.proofs.RemoteLeavings.{passes_speaks, speaks_numbered, spoken_well}
use Rattle.remote_drops.proofs.RemoteCalls.{skipped_makes}
use Rattle.remote_drops.proofs.Sharings.{skipped_did}
use Rattle.remote_requests.proofs.RemoteBegun.{passes_gone, passes_own}
use Rattle.remote_requests.proofs.Apart.{passes_stays}
use Rattle.remote_drops.proofs.acting.try_own.Goals as goal

pub returns-in-Claimed-clause-did : goal.returns-in-Claimed-clause-did
returns-in-Claimed-clause-did g c =
    let read = g.H.Here.reading c.args.here.now in
    let w = c.args.worker.now in
    skipped_did (sight read (g.H.Here.ends c.args.here.now) c.args.input.now.time c.args.input.now.number) c.args.table.now c.args.table.now
    (store (g.K.Keeper.contents c.args.keeper.now) (g.K.Keeper.records c.args.keeper.now) (g.K.Keeper.faults c.args.keeper.now)) (store (g.K.Keeper.contents c.args.keeper.now) (g.K.Keeper.records c.args.keeper.now) (g.K.Keeper.faults c.args.keeper.now)) w c.pass_by.new.worker
    c.args.target c.requires.stands.remote c.requires.at (subst (λ (ph : Phase). FitsRemote ph w.token) c.requires.at c.requires.stands.fits) c.requires.stands.owns c.requires.spared seen.Claimed c.pass_by.result (λ t. refl)
    (ap read.standing (sym c.repo.ensures) ∙ (sym c.standing.ensures ∙ ap standing_of c.in-Claimed.is)) c.pass_by.ensures.passes c.pass_by.ensures.err c.requires.stands.agrees

pub returns-in-Claimed-clause-numbered : goal.returns-in-Claimed-clause-numbered
returns-in-Claimed-clause-numbered g c =
    each_number c.args.input.now.number c.pass_by.result (speaks_numbered c.args.worker.now c.pass_by.new.worker c.pass_by.result
    (passes_speaks (g.H.Here.reading c.args.here.now).repo (bar_at c.args.table.now c.args.worker.now.job.key) c.args.worker.now c.pass_by.new.worker c.pass_by.result c.pass_by.ensures.passes))

pub returns-in-Claimed-clause-calls : goal.returns-in-Claimed-clause-calls
returns-in-Claimed-clause-calls g c =
    skipped_makes (sight (g.H.Here.reading c.args.here.now) (g.H.Here.ends c.args.here.now) c.args.input.now.time c.args.input.now.number) (g.K.Keeper.contents c.args.keeper.now) c.args.table.now c.args.worker.now (g.K.Keeper.failing c.args.keeper.now) (g.K.Keeper.failing c.args.keeper.now) c.requires.stands.remote.side c.requires.at c.requires.spared seen.Claimed c.pass_by.result (λ t. refl)
    (ap (g.H.Here.reading c.args.here.now).standing (sym c.repo.ensures) ∙ (sym c.standing.ensures ∙ ap standing_of c.in-Claimed.is))
    (spoken_well c.args.worker.now c.pass_by.new.worker c.pass_by.result
    (passes_speaks (g.H.Here.reading c.args.here.now).repo (bar_at c.args.table.now c.args.worker.now.job.key) c.args.worker.now c.pass_by.new.worker c.pass_by.result c.pass_by.ensures.passes))

pub returns-in-Ignored-clause-did : goal.returns-in-Ignored-clause-did
returns-in-Ignored-clause-did g c =
    let read = g.H.Here.reading c.args.here.now in
    let w = c.args.worker.now in
    skipped_did (sight read (g.H.Here.ends c.args.here.now) c.args.input.now.time c.args.input.now.number) c.args.table.now c.args.table.now
    (store (g.K.Keeper.contents c.args.keeper.now) (g.K.Keeper.records c.args.keeper.now) (g.K.Keeper.faults c.args.keeper.now)) (store (g.K.Keeper.contents c.args.keeper.now) (g.K.Keeper.records c.args.keeper.now) (g.K.Keeper.faults c.args.keeper.now)) w c.pass_by-in-Ignored.new.worker
    c.args.target c.requires.stands.remote c.requires.at (subst (λ (ph : Phase). FitsRemote ph w.token) c.requires.at c.requires.stands.fits) c.requires.stands.owns c.requires.spared (seen.Ignored c.in-Ignored.field-0) c.pass_by-in-Ignored.result (λ t. refl)
    (ap read.standing (sym c.repo.ensures) ∙ (sym c.standing.ensures ∙ ap standing_of c.in-Ignored.is)) c.pass_by-in-Ignored.ensures.passes c.pass_by-in-Ignored.ensures.err c.requires.stands.agrees

pub returns-in-Ignored-clause-numbered : goal.returns-in-Ignored-clause-numbered
returns-in-Ignored-clause-numbered g c =
    each_number c.args.input.now.number c.pass_by-in-Ignored.result (speaks_numbered c.args.worker.now c.pass_by-in-Ignored.new.worker c.pass_by-in-Ignored.result
    (passes_speaks (g.H.Here.reading c.args.here.now).repo (bar_at c.args.table.now c.args.worker.now.job.key) c.args.worker.now c.pass_by-in-Ignored.new.worker c.pass_by-in-Ignored.result c.pass_by-in-Ignored.ensures.passes))

pub returns-in-Ignored-clause-calls : goal.returns-in-Ignored-clause-calls
returns-in-Ignored-clause-calls g c =
    skipped_makes (sight (g.H.Here.reading c.args.here.now) (g.H.Here.ends c.args.here.now) c.args.input.now.time c.args.input.now.number) (g.K.Keeper.contents c.args.keeper.now) c.args.table.now c.args.worker.now (g.K.Keeper.failing c.args.keeper.now) (g.K.Keeper.failing c.args.keeper.now) c.requires.stands.remote.side c.requires.at c.requires.spared (seen.Ignored c.in-Ignored.field-0) c.pass_by-in-Ignored.result (λ t. refl)
    (ap (g.H.Here.reading c.args.here.now).standing (sym c.repo.ensures) ∙ (sym c.standing.ensures ∙ ap standing_of c.in-Ignored.is))
    (spoken_well c.args.worker.now c.pass_by-in-Ignored.new.worker c.pass_by-in-Ignored.result
    (passes_speaks (g.H.Here.reading c.args.here.now).repo (bar_at c.args.table.now c.args.worker.now.job.key) c.args.worker.now c.pass_by-in-Ignored.new.worker c.pass_by-in-Ignored.result c.pass_by-in-Ignored.ensures.passes))

pub returns-in-Claimed-clause-begun : goal.returns-in-Claimed-clause-begun
returns-in-Claimed-clause-begun g c = passes_gone (g.H.Here.reading c.args.here.now) (bar_at c.args.table.now c.args.worker.now.job.key) c.args.worker.now c.pass_by.new.worker c.pass_by.result c.pass_by.ensures.passes

pub returns-in-Claimed-clause-own : goal.returns-in-Claimed-clause-own
returns-in-Claimed-clause-own g c = passes_own (g.H.Here.reading c.args.here.now) (bar_at c.args.table.now c.args.worker.now.job.key) c.args.worker.now c.pass_by.new.worker c.pass_by.result c.pass_by.ensures.passes

pub returns-in-Ignored-clause-begun : goal.returns-in-Ignored-clause-begun
returns-in-Ignored-clause-begun g c = passes_gone (g.H.Here.reading c.args.here.now) (bar_at c.args.table.now c.args.worker.now.job.key) c.args.worker.now c.pass_by-in-Ignored.new.worker c.pass_by-in-Ignored.result c.pass_by-in-Ignored.ensures.passes

pub returns-in-Ignored-clause-own : goal.returns-in-Ignored-clause-own
returns-in-Ignored-clause-own g c = passes_own (g.H.Here.reading c.args.here.now) (bar_at c.args.table.now c.args.worker.now.job.key) c.args.worker.now c.pass_by-in-Ignored.new.worker c.pass_by-in-Ignored.result c.pass_by-in-Ignored.ensures.passes

pub returns-in-Claimed-clause-apart : goal.returns-in-Claimed-clause-apart
returns-in-Claimed-clause-apart g c = passes_stays (g.H.Here.reading c.args.here.now).repo c.args.target (bar_at c.args.table.now c.args.worker.now.job.key) c.args.worker.now c.pass_by.new.worker c.pass_by.result c.pass_by.ensures.passes

pub returns-in-Ignored-clause-apart : goal.returns-in-Ignored-clause-apart
returns-in-Ignored-clause-apart g c = passes_stays (g.H.Here.reading c.args.here.now).repo c.args.target (bar_at c.args.table.now c.args.worker.now.job.key) c.args.worker.now c.pass_by-in-Ignored.new.worker c.pass_by-in-Ignored.result c.pass_by-in-Ignored.ensures.passes
