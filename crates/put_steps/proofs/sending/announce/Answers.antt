-- What is announced, by the size of the content.
use Rattle.std.proofs.Common.{List, ℕ, Option, Some, false, true, length, refl, ap, ◌∙◌}
use Rattle.std.specs.Prelude.{Err}
use Rattle.std.specs.Option.{option_map}
use Rattle.annex_base.specs.declared.kinds.Call.TheVariants as calls
use Rattle.session_state.proofs.Calling.{makes_one, memory_left}
use Rattle.transfer_turns.specs.Steps.{LeavesBut, seen}
use Rattle.put_steps.proofs.Keeping.{but_all, stays_as}
use Rattle.put_steps.proofs.Replies.{answered, size_failed}
use Rattle.put_steps.proofs.sending.announce.Goals as goal

pub returns-in-Ok : goal.returns-in-Ok
returns-in-Ok g c =
    let w = c.args.putting.now in
    let e = c.in-Ok.ensures in
    let a = c.answer.ensures in
    let made = makes_one calls.Size false _ _ e.failing in
    let k = seen (g.K.Keeper.contents c.args.keeper.now) (g.K.Keeper.parts c.args.keeper.now) (g.K.Keeper.records c.args.keeper.now) (g.K.Keeper.files c.args.keeper.now) (g.K.Keeper.faults c.args.keeper.now) (g.K.Keeper.failing c.args.keeper.now) in
    let after = seen (g.K.Keeper.contents c.size.new.self) (g.K.Keeper.parts c.size.new.self) (g.K.Keeper.records c.size.new.self) (g.K.Keeper.files c.size.new.self) (g.K.Keeper.faults c.size.new.self) (g.K.Keeper.failing c.size.new.self) in
    let but : LeavesBut _ k after = record { contents = e.contents; parts = e.parts; records = e.records; files = e.files; later = e.later; cause = tt; left = made.left } in
    record {
      does = λ x rows.
          answered x rows k after w c.answer.new.putting c.args.peer c.args.start c.in-Ok.size c.answer.result c.requires.offer (λ held told. e.ok held told ∙ ap (λ (key : List ℕ). option_map length (held key)) c.key.ensures) but (but_all k after but) made
          a.ok a.next a.goes_on a.line a.gone a.err;
    }

pub returns-in-Err-NoMemory : goal.returns-in-Err-NoMemory
returns-in-Err-NoMemory g c =
    let e = c.in-Err-NoMemory.ensures in
    record {
      does = λ x rows.
          stays_as _ _ _ _ refl (record { contents = e.contents; parts = e.parts; records = e.records; files = e.files; later = e.later; failing = memory_left (Option ℕ) calls.Size _ _ _ c.in-Err-NoMemory.field-0-is e.failing });
    }

pub returns-in-Err-Failed : goal.returns-in-Err-Failed
returns-in-Err-Failed g c =
    let e = c.in-Err-Failed.ensures in
    let made = makes_one calls.Size true _ _ (rw c.in-Err-Failed.field-0-is at e.failing) in
    let k = seen (g.K.Keeper.contents c.args.keeper.now) (g.K.Keeper.parts c.args.keeper.now) (g.K.Keeper.records c.args.keeper.now) (g.K.Keeper.files c.args.keeper.now) (g.K.Keeper.faults c.args.keeper.now) (g.K.Keeper.failing c.args.keeper.now) in
    let after = seen (g.K.Keeper.contents c.size.new.self) (g.K.Keeper.parts c.size.new.self) (g.K.Keeper.records c.size.new.self) (g.K.Keeper.files c.size.new.self) (g.K.Keeper.faults c.size.new.self) (g.K.Keeper.failing c.size.new.self) in
    let but : LeavesBut (Some calls.Size) k after = record { contents = e.contents; parts = e.parts; records = e.records; files = e.files; later = e.later; cause = e.cause (ap Err c.in-Err-Failed.field-0-is); left = made.left } in
    record {
      does = λ x rows. size_failed x rows k after c.args.putting.now c.fail.new.self c.args.peer c.args.start c.fail.result c.requires.offer but made c.fail.ensures.says c.fail.ensures.next;
    }
