-- The drop's step.
use Rattle.trust_groups.specs.View.{settings_of}
use Rattle.transfer_turns.specs.Steps.{seen}
use Rattle.drop_phases.specs.Sides.{side_in}
use Rattle.node_tasks.proofs.Drops.{can_share, drop_acts, drop_leaves, drop_makes}
use Rattle.node_tasks.proofs.acting.drop_step.Goals as goal

pub act-requires-clause-shares : goal.act-requires-clause-shares
act-requires-clause-shares g c = can_share (side_in c.args.job.now.worker) (g.K.Keeper.records c.args.keeper.now) c.args.table.now.holds c.args.number c.requires.agrees c.requires.fresh

pub returns-clause-acts : goal.returns-clause-acts
returns-clause-acts g c =
    drop_acts c.args.place.now c.args.clock c.args.ends.now (settings_of c.args.settings.now) c.args.time c.args.number (g.K.Keeper.contents c.args.keeper.now) (g.K.Keeper.parts c.args.keeper.now) c.args.table.now c.args.job.now c.args.feed c.act.new.job c.in_ok-made.made
    c.in_ok-made.ensures.acts

pub returns-clause-calls : goal.returns-clause-calls
returns-clause-calls g c =
    drop_makes c.args.place.now c.args.clock c.args.ends.now (settings_of c.args.settings.now) c.args.time c.args.number (g.K.Keeper.contents c.args.keeper.now) (g.K.Keeper.parts c.args.keeper.now) c.args.table.now c.args.job.now c.args.feed
    (g.K.Keeper.failing c.args.keeper.now) (g.K.Keeper.failing c.act.new.keeper) c.in_ok-made.made c.in_ok-made.ensures.calls

pub returns-clause-leaves : goal.returns-clause-leaves
returns-clause-leaves g c =
    let was = c.args.keeper.now in
    let now = c.act.new.keeper in
    drop_leaves c.args.place.now c.args.table.now c.act.new.table
    (seen (g.K.Keeper.contents was) (g.K.Keeper.parts was) (g.K.Keeper.records was) (g.K.Keeper.files was) (g.K.Keeper.faults was) (g.K.Keeper.failing was))
    (seen (g.K.Keeper.contents now) (g.K.Keeper.parts now) (g.K.Keeper.records now) (g.K.Keeper.files now) (g.K.Keeper.faults now) (g.K.Keeper.failing now))
    c.args.time c.args.number c.args.job.now c.act.new.job c.args.feed c.in_ok-made.made c.requires.task c.in_ok-made.ensures.steps c.in_ok-made.ensures.stands c.in_ok-made.ensures.paths c.in_ok-made.ensures.owns c.in_ok-made.ensures.others
    c.in_ok-made.ensures.numbered c.in_ok-made.ensures.agrees c.in_ok-made.ensures.later c.in_ok-made.ensures.cause c.in_ok-made.ensures.parts c.in_ok-made.ensures.files c.in_ok-made.ensures.left
