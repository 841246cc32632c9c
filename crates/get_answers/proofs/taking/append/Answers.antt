-- By whether the piece is expected, and the store takes it.
use Rattle.std.proofs.Common.{◌≡◌, ℕ, ◌++◌, true, false, List, length, refl, sym, ap, subst, ◌∙◌, arith}
use Rattle.std.specs.Prelude.{[], Err}
use Rattle.std.specs.Option.{option_map}
use Rattle.annex_base.specs.declared.kinds.Call.TheVariants as calls
use Rattle.object_store.specs.Stores.{Parts, with_at}
use Rattle.node_model.specs.Jobs.{gets_bytes}
use Rattle.session_state.proofs.Calling.{makes_one, memory_left}
use Rattle.transfer_turns.specs.Steps.{seen}
use Rattle.transfer_turns.specs.Turns.{output_of}
use Rattle.get_phases.specs.Gets.{phase_of}
use Rattle.get_answers.specs.Taking.{GoesOn, IsLonger}
use Rattle.get_answers.proofs.Filling.{grown_does, may_come, ungrown_does}
use Rattle.get_answers.proofs.Losses.{fills_there, past_does, stray_does, taking_there}
use Rattle.get_answers.proofs.taking.append.Goals as goal

pub shut-requires : goal.shut-requires
shut-requires g c = record { fills = fills_there c.args.getting.now c.args.peer c.requires.awaits }

pub shut-requires-then-not-awaits : goal.shut-requires-then-not-awaits
shut-requires-then-not-awaits g c = record { fills = fills_there c.args.getting.now c.args.peer c.requires.awaits }

pub give_up-requires : goal.give_up-requires
give_up-requires g c = record { fills = fills_there c.args.getting.now c.args.peer c.requires.awaits }

pub returns-in_default : goal.returns-in_default
returns-in_default g c = record {
  does = λ x rows has.
      stray_does x rows (seen (g.K.Keeper.contents c.args.keeper.now) (g.K.Keeper.parts c.args.keeper.now) (g.K.Keeper.records c.args.keeper.now) (g.K.Keeper.files c.args.keeper.now) (g.K.Keeper.faults c.args.keeper.now) (g.K.Keeper.failing c.args.keeper.now)) c.args.getting.now c.shut.new.getting c.args.peer c.shut.result has c.requires.awaits c.shut.ensures.err c.args.bytes.now c.in_default.not-Bytes c.shut.ensures.ok;
}

pub returns-then-not-awaits : goal.returns-then-not-awaits
returns-then-not-awaits g c = record {
  does = λ x rows has.
      let len : c.len-count.result ≡ length c.args.bytes.now.items = omega (arith, c.args.bytes.now.ok.0, c.len-count.ensures) in
      past_does x rows (seen (g.K.Keeper.contents c.args.keeper.now) (g.K.Keeper.parts c.args.keeper.now) (g.K.Keeper.records c.args.keeper.now) (g.K.Keeper.files c.args.keeper.now) (g.K.Keeper.faults c.args.keeper.now) (g.K.Keeper.failing c.args.keeper.now)) c.args.getting.now c.shut-then-not-awaits.new.getting c.args.peer c.shut-then-not-awaits.result has c.requires.awaits c.shut-then-not-awaits.ensures.err c.args.bytes.now _ _ c.in-Bytes.taking c.in-Bytes.is
      (may_come c.len-count.result (length c.args.bytes.now.items) c.in-Bytes.taking.left len false (sym c.if-not-awaits.true ∙ c.awaits.ensures)) c.shut-then-not-awaits.ensures.ok;
}

pub returns-in-Ok : goal.returns-in-Ok
returns-in-Ok g c = record {
  does = λ x rows has.
      let w = c.args.getting.now in
      let w' = c.grow.new.getting in
      let t = c.in-Bytes.taking in
      let parts = g.K.Keeper.parts c.args.keeper.now in
      let len : c.len-count.result ≡ length c.args.bytes.now.items = omega (arith, c.args.bytes.now.ok.0, c.len-count.ensures) in
      let made = makes_one calls.Append false _ _ c.in-Ok.ensures.failing in
      grown_does x rows (seen (g.K.Keeper.contents c.args.keeper.now) (g.K.Keeper.parts c.args.keeper.now) (g.K.Keeper.records c.args.keeper.now) (g.K.Keeper.files c.args.keeper.now) (g.K.Keeper.faults c.args.keeper.now) (g.K.Keeper.failing c.args.keeper.now)) (seen (g.K.Keeper.contents c.append_part.new.self) (g.K.Keeper.parts c.append_part.new.self) (g.K.Keeper.records c.append_part.new.self) (g.K.Keeper.files c.append_part.new.self) (g.K.Keeper.faults c.append_part.new.self) (g.K.Keeper.failing c.append_part.new.self)) w w' c.args.peer _ t c.args.bytes.now c.quietly.result (taking_there w c.args.peer _ _ t c.in-Bytes.is c.requires.awaits)
      (may_come c.len-count.result (length c.args.bytes.now.items) t.left len true (sym c.if-not-awaits.false ∙ c.awaits.ensures))
      (subst (λ (l : List ℕ). GoesOn (gets_bytes (length l) (phase_of w.phase)) w w') c.deref-in-Ok.ensures.value c.grow.ensures.goes)
      (λ p p' was longer. c.grow.ensures.fed p p' was (subst (λ (l : List ℕ). IsLonger w.phase p p' l) (sym c.deref-in-Ok.ensures.value) longer))
      (c.quietly.ensures ∙ ap (λ kind. output_of kind [] false) c.talk.ensures) c.append_part.ensures.contents
      (c.in-Ok.ensures.ok ∙ (λ j. option_map (λ (p : Parts). with_at p (c.key.ensures j) (p (c.key.ensures j) ++ c.deref.ensures.value j)) parts)) c.append_part.ensures.small
      (record { records = c.append_part.ensures.records; files = c.append_part.ensures.files; later = c.append_part.ensures.later; cause = tt; left = made.left }) made has;
}

pub returns-in-Err-Failed : goal.returns-in-Err-Failed
returns-in-Err-Failed g c = record {
  does = λ x rows has.
      let w = c.args.getting.now in
      let t = c.in-Bytes.taking in
      let len : c.len-count.result ≡ length c.args.bytes.now.items = omega (arith, c.args.bytes.now.ok.0, c.len-count.ensures) in
      let made = makes_one calls.Append true _ _ (rw c.in-Err-Failed.field-0-is at c.in-Err-Failed.ensures.failing) in
      ungrown_does x rows (seen (g.K.Keeper.contents c.args.keeper.now) (g.K.Keeper.parts c.args.keeper.now) (g.K.Keeper.records c.args.keeper.now) (g.K.Keeper.files c.args.keeper.now) (g.K.Keeper.faults c.args.keeper.now) (g.K.Keeper.failing c.args.keeper.now)) (seen (g.K.Keeper.contents c.append_part.new.self) (g.K.Keeper.parts c.append_part.new.self) (g.K.Keeper.records c.append_part.new.self) (g.K.Keeper.files c.append_part.new.self) (g.K.Keeper.faults c.append_part.new.self) (g.K.Keeper.failing c.append_part.new.self)) w c.give_up.new.getting c.args.peer _ t c.args.bytes.now c.failing.result (taking_there w c.args.peer _ _ t c.in-Bytes.is c.requires.awaits)
      (may_come c.len-count.result (length c.args.bytes.now.items) t.left len true (sym c.if-not-awaits.false ∙ c.awaits.ensures)) c.give_up.ensures c.failing.ensures
      (record {
        contents = c.append_part.ensures.contents;
        parts = c.in-Err-Failed.ensures.err_parts;
        records = c.append_part.ensures.records;
        files = c.append_part.ensures.files;
        later = c.append_part.ensures.later;
        cause = c.in-Err-Failed.ensures.cause (ap Err c.in-Err-Failed.field-0-is);
        left = made.left;
      }) made has;
}

pub returns-in-Err-NoMemory : goal.returns-in-Err-NoMemory
returns-in-Err-NoMemory g c = record {
  does = λ x rows has. record {
    worker = refl;
    table = refl;
    store = record {
      contents = c.append_part.ensures.contents;
      parts = c.in-Err-NoMemory.ensures.err_parts;
      records = c.append_part.ensures.records;
      files = c.append_part.ensures.files;
      later = c.append_part.ensures.later;
      failing = memory_left (Unit {0}) calls.Append _ _ _ c.in-Err-NoMemory.field-0-is c.in-Err-NoMemory.ensures.failing;
    };
  };
}
