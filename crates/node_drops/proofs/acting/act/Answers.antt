-- By what it has read, or reads now.
use Rattle.std.proofs.Common.{Option, Some, sym, subst}
use Rattle.std.specs.Prelude.{IfOk}
use Rattle.trust_groups.specs.View.{settings_of}
use Rattle.node_drops.specs.Calling.{JobMakes}
use Rattle.node_drops.specs.Doings.{Acts}
use Rattle.node_drops.specs.Reads.{KnownLogs}
use Rattle.node_drops.specs.Drops.{DropJob, HasReadByPhase}
use Rattle.node_drops.proofs.Knowing.{acts_ok, acts_so, learns_logs, learns_read, makes_ok, makes_so}
use Rattle.node_drops.proofs.acting.act.Goals as goal

pub returns-in-Some-clause-acts : goal.returns-in-Some-clause-acts
returns-in-Some-clause-acts g c =
    let p = c.args.place.now in
    let j : DropJob = record { worker = c.job.inside.worker; paths = c.job.inside.paths; known = c.job.inside.known; causes = c.job.inside.causes } in
    let settings = settings_of c.args.settings.now in
    let contents = g.K.Keeper.contents c.args.keeper.now in
    subst (λ (was : DropJob). IfOk c.advance.result (Acts p c.args.clock c.args.ends.now settings c.args.input.now contents c.args.table.now was (record { worker = c.advance.new.worker; paths = c.job.inside.paths; known = c.job.inside.known; causes = c.job.inside.causes }))) c.job.view_is
    (subst (λ (o : Option KnownLogs). IfOk c.advance.result (Acts p c.args.clock c.args.ends.now settings c.args.input.now contents c.args.table.now j (record { worker = c.advance.new.worker; paths = c.job.inside.paths; known = o; causes = c.job.inside.causes }))) (sym c.in-Some.is)
    (acts_ok p c.args.clock c.args.ends.now settings c.args.input.now contents (g.K.Keeper.contents c.advance.new.keeper) c.args.table.now c.advance.new.table j c.advance.new.worker c.in-Some.known c.advance.result
    (learns_read p settings j c.in-Some.known c.in-Some.is)
    (subst (λ (was : DropJob). HasReadByPhase p was.worker.phase was.known) (sym c.job.view_is) c.requires.stands) c.advance.ensures.does c.advance.ensures.steps))

pub returns-in_ok-out-in-None-clause-acts : goal.returns-in_ok-out-in-None-clause-acts
returns-in_ok-out-in-None-clause-acts g c =
    let p = c.args.place.now in
    let j : DropJob = record { worker = c.job.inside.worker; paths = c.job.inside.paths; known = c.job.inside.known; causes = c.job.inside.causes } in
    let settings = settings_of c.args.settings.now in
    let contents = g.K.Keeper.contents c.args.keeper.now in
    subst (λ (was : DropJob). Acts p c.args.clock c.args.ends.now settings c.args.input.now contents c.args.table.now was (record { worker = c.advance-in-None.new.worker; paths = c.job.inside.paths; known = Some c.in_ok-known-in-None.known; causes = c.job.inside.causes }) c.in_ok-out-in-None.out) c.job.view_is
    (acts_so p c.args.clock c.args.ends.now settings c.args.input.now contents (g.K.Keeper.contents c.advance-in-None.new.keeper) c.args.table.now c.advance-in-None.new.table j c.advance-in-None.new.worker
    c.in_ok-known-in-None.known c.in_ok-out-in-None.out
    (learns_logs p settings j c.in_ok-known-in-None.known c.target_id.result c.in-None.is c.target_id.ensures
    (rw c.as_slice.ensures at c.in_ok-known-in-None.ensures.need) (rw (c.key.ensures, c.ids.ensures) at c.in_ok-known-in-None.ensures.standings) (rw (c.key.ensures, c.as_slice.ensures) at c.in_ok-known-in-None.ensures.required))
    (subst (λ (was : DropJob). HasReadByPhase p was.worker.phase was.known) (sym c.job.view_is) c.requires.stands) c.in_ok-out-in-None.ensures.does c.in_ok-out-in-None.ensures.steps)

pub returns-in-Some-clause-calls : goal.returns-in-Some-clause-calls
returns-in-Some-clause-calls g c =
    let p = c.args.place.now in
    let j : DropJob = record { worker = c.job.inside.worker; paths = c.job.inside.paths; known = c.job.inside.known; causes = c.job.inside.causes } in
    let settings = settings_of c.args.settings.now in
    let contents = g.K.Keeper.contents c.args.keeper.now in
    let before = g.K.Keeper.failing c.args.keeper.now in
    let after = g.K.Keeper.failing c.advance.new.keeper in
    subst (λ (was : DropJob). IfOk c.advance.result (JobMakes p c.args.clock c.args.ends.now settings c.args.input.now contents c.args.table.now before after was)) c.job.view_is
    (makes_ok p c.args.clock c.args.ends.now settings c.args.input.now contents c.args.table.now j c.in-Some.known before after c.advance.result
    (learns_read p settings j c.in-Some.known c.in-Some.is) c.advance.ensures.calls)

pub returns-in_ok-out-in-None-clause-calls : goal.returns-in_ok-out-in-None-clause-calls
returns-in_ok-out-in-None-clause-calls g c =
    let p = c.args.place.now in
    let j : DropJob = record { worker = c.job.inside.worker; paths = c.job.inside.paths; known = c.job.inside.known; causes = c.job.inside.causes } in
    let settings = settings_of c.args.settings.now in
    let contents = g.K.Keeper.contents c.args.keeper.now in
    let before = g.K.Keeper.failing c.args.keeper.now in
    let after = g.K.Keeper.failing c.advance-in-None.new.keeper in
    subst (λ (was : DropJob). JobMakes p c.args.clock c.args.ends.now settings c.args.input.now contents c.args.table.now before after was c.in_ok-out-in-None.out) c.job.view_is
    (makes_so p c.args.clock c.args.ends.now settings c.args.input.now contents c.args.table.now j c.in_ok-known-in-None.known before after c.in_ok-out-in-None.out
    (learns_logs p settings j c.in_ok-known-in-None.known c.target_id.result c.in-None.is c.target_id.ensures
    (rw c.as_slice.ensures at c.in_ok-known-in-None.ensures.need) (rw (c.key.ensures, c.ids.ensures) at c.in_ok-known-in-None.ensures.standings) (rw (c.key.ensures, c.as_slice.ensures) at c.in_ok-known-in-None.ensures.required)) c.in_ok-out-in-None.ensures.calls)
