-- The content is there, or isn't.
use Rattle.std.proofs.Common.{List, ℕ, None, false, sym, ap, subst, ◌∙◌}
use Rattle.std.specs.Prelude.{is_some}
use Rattle.annex_base.specs.declared.kinds.Call.TheVariants as calls
use Rattle.session_state.proofs.Calling.{makes_one}
use Rattle.transfer_turns.specs.declared.parcels.Output.{Output}
use Rattle.transfer_turns.specs.Steps.{LeavesBut, seen}
use Rattle.put_steps.specs.Stepping.{GoesTo}
use Rattle.put_steps.proofs.Keeping.{Did, but_all, does_so}
use Rattle.put_steps.proofs.Requests.{begins_to, look_failed, not_here}
use Rattle.put_steps.proofs.acting.begin.Goals as goal

pub returns-in-Some : goal.returns-in-Some
returns-in-Some g c =
    let w = c.args.putting.now in
    let x = g.H.Here.sight c.args.here.now in
    let e = c.in-Ok-true.ensures in
    let made = makes_one calls.Has false _ _ e.failing in
    let k = seen (g.K.Keeper.contents c.args.keeper.now) (g.K.Keeper.parts c.args.keeper.now) (g.K.Keeper.records c.args.keeper.now) (g.K.Keeper.files c.args.keeper.now) (g.K.Keeper.faults c.args.keeper.now) (g.K.Keeper.failing c.args.keeper.now) in
    let after = seen (g.K.Keeper.contents c.has.new.self) (g.K.Keeper.parts c.has.new.self) (g.K.Keeper.records c.has.new.self) (g.K.Keeper.files c.has.new.self) (g.K.Keeper.faults c.has.new.self) (g.K.Keeper.failing c.has.new.self) in
    let but : LeavesBut None k after = record { contents = e.contents; parts = e.parts; records = e.records; files = e.files; later = e.later; cause = tt; left = made.left } in
    record {
      does =
          does_so x None c.args.table.now k after w c.go_to.new.putting c.go_to.result (GoesTo x c.in-Some.peer w c.go_to.new.putting) c.go_to.ensures.ok c.go_to.ensures.err (but_all k after but)
          (λ out goes. begins_to x c.args.table.now k after w c.go_to.new.putting c.in-Some.peer out c.requires.fresh c.in-Some.is
          (λ held told. sym c.in-Ok-true.field-0-test ∙ (e.ok held told ∙ ap (λ (key : List ℕ). is_some (held key)) c.key.ensures)) but made goes);
    }

pub returns-in-Ok-false : goal.returns-in-Ok-false
returns-in-Ok-false g c =
    let w = c.args.putting.now in
    let x = g.H.Here.sight c.args.here.now in
    let e = c.in-Ok-false.ensures in
    let made = makes_one calls.Has false _ _ e.failing in
    let k = seen (g.K.Keeper.contents c.args.keeper.now) (g.K.Keeper.parts c.args.keeper.now) (g.K.Keeper.records c.args.keeper.now) (g.K.Keeper.files c.args.keeper.now) (g.K.Keeper.faults c.args.keeper.now) (g.K.Keeper.failing c.args.keeper.now) in
    let after = seen (g.K.Keeper.contents c.has.new.self) (g.K.Keeper.parts c.has.new.self) (g.K.Keeper.records c.has.new.self) (g.K.Keeper.files c.has.new.self) (g.K.Keeper.faults c.has.new.self) (g.K.Keeper.failing c.has.new.self) in
    let but : LeavesBut None k after = record { contents = e.contents; parts = e.parts; records = e.records; files = e.files; later = e.later; cause = tt; left = made.left } in
    record {
      does = subst (λ (o : Output). Did x None c.args.table.now k after w w o) (sym c.ending.ensures)
          (not_here x c.args.table.now k after w c.in_ok-parting.parting c.requires.fresh c.requires.bare c.in_ok-parting.ensures (λ held told. sym c.in-Ok-false.field-0-test ∙ (e.ok held told ∙ ap (λ (key : List ℕ). is_some (held key)) c.key.ensures)) but made);
    }

pub returns-in-Err : goal.returns-in-Err
returns-in-Err g c =
    let e = c.in-Err.ensures in
    let k = seen (g.K.Keeper.contents c.args.keeper.now) (g.K.Keeper.parts c.args.keeper.now) (g.K.Keeper.records c.args.keeper.now) (g.K.Keeper.files c.args.keeper.now) (g.K.Keeper.faults c.args.keeper.now) (g.K.Keeper.failing c.args.keeper.now) in
    let after = seen (g.K.Keeper.contents c.has.new.self) (g.K.Keeper.parts c.has.new.self) (g.K.Keeper.records c.has.new.self) (g.K.Keeper.files c.has.new.self) (g.K.Keeper.faults c.has.new.self) (g.K.Keeper.failing c.has.new.self) in
    record {
      does =
          look_failed (g.H.Here.sight c.args.here.now) c.args.table.now k after c.args.putting.now c.fail.new.self c.fail.result c.requires.fresh e.failing
          (record { contents = e.contents; parts = e.parts; records = e.records; files = e.files; later = e.later; cause = e.cause; left = e.failing.count }) c.fail.ensures.says c.fail.ensures.next;
    }
