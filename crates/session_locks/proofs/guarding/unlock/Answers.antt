-- The hold is released.
use Rattle.std.proofs.Common.{◌∙◌}
use Rattle.std.specs.Prelude.{None, false}
use Rattle.run_data.specs.declared.entry.EntryKind.TheVariants.{Release}
use Rattle.session_state.proofs.Phases.{going, released_so}
use Rattle.annex_base.specs.declared.kinds.Call.TheVariants as calls
use Rattle.std.proofs.Common.{true}
use Rattle.session_state.proofs.Calling.{makes_one}
use Rattle.session_state.proofs.Making.{unlock_makes}
use Rattle.session_locks.proofs.guarding.unlock.Goals as goal

pub returns-in-Ok-clause-goes : goal.returns-in-Ok-clause-goes
returns-in-Ok-clause-goes g c =
    let s = c.args.session.now in
    let share = c.unguard-share.result in
    released_so c.args.scene c.args.key s _ share c.args.table.now c.release.new.self _ _ _ _ _ _ _ _ c.silent.result c.requires.at c.requires.guards c.unguard-share.ensures.guards
    (λ j. going s (c.unguard-share.ensures.waits j))
    (c.silent.ensures ∙ (λ j. record { kind = Release (c.number-hold.ensures j) c.args.key; reply = None; close = false }))
    c.in-Ok.ensures.after c.in-Ok.ensures.owns c.in-Ok.ensures.others c.release.ensures.contents c.release.ensures.parts c.release.ensures.agrees c.release.ensures.later

pub returns-in-Ok-clause-calls : goal.returns-in-Ok-clause-calls
returns-in-Ok-clause-calls g c =
    unlock_makes c.args.scene c.args.key c.args.session.now c.unguard-share.result c.args.table.now _ _ _ _ c.silent.result c.requires.guards c.unguard-share.ensures.guards
    (rw c.silent.ensures (makes_one calls.Unhold false _ _ c.in-Ok.ensures.failing))

pub returns-in-Err-clause-calls : goal.returns-in-Err-clause-calls
returns-in-Err-clause-calls g c =
    unlock_makes c.args.scene c.args.key c.args.session.now c.unguard-share.result c.args.table.now _ _ _ _ c.silent-in-Err.result c.requires.guards c.unguard-share.ensures.guards
    (rw c.silent-in-Err.ensures (makes_one calls.Unhold true _ _ c.in-Err.ensures.failing))
