-- By whether the connection is open, and by what the content has next.
use Rattle.std.proofs.Common.{◌≡◌, ℕ, ◌+◌, ◌-◌, length, IfOk, sym, subst, ◌∙◌, arith}
use Rattle.node_model.specs.Jobs.{puts_more}
use Rattle.transfer_turns.specs.Steps.{seen}
use Rattle.put_steps.specs.Puts.{phase_of}
use Rattle.put_steps.proofs.Sendings.{sending_closed, sends_failed, sends_none, sends_piece}
use Rattle.put_steps.proofs.sending.send.Goals as goal

pub returns-then-not-is_open : goal.returns-then-not-is_open
returns-then-not-is_open g c = record {
  does = λ rows.
      sending_closed (g.H.Here.sight c.args.here.now) rows _ c.args.putting.now c.close.new.self c.args.sending c.close.result c.requires.bytes (sym c.is_open.ensures ∙ c.if-not-is_open.true) c.close.ensures;
}

pub returns-in-Piece : goal.returns-in-Piece
returns-in-Piece g c =
    let a = c.in_ok-next.ensures in
    let k = seen (g.K.Keeper.contents c.args.keeper.now) (g.K.Keeper.parts c.args.keeper.now) (g.K.Keeper.records c.args.keeper.now) (g.K.Keeper.files c.args.keeper.now) (g.K.Keeper.faults c.args.keeper.now) (g.K.Keeper.failing c.args.keeper.now) in
    let after = seen (g.K.Keeper.contents c.next_of.new.keeper) (g.K.Keeper.parts c.next_of.new.keeper) (g.K.Keeper.records c.next_of.new.keeper) (g.K.Keeper.files c.next_of.new.keeper) (g.K.Keeper.faults c.next_of.new.keeper) (g.K.Keeper.failing c.next_of.new.keeper) in
    let s = c.args.sending in
    let len : c.in-Piece.piece.len ≡ length c.in-Piece.piece.items = omega (arith, c.in-Piece.piece.ok.0) in
    record {
      does = λ rows.
          sends_piece (g.H.Here.sight c.args.here.now) rows k after c.args.putting.now c.pass.new.putting c.args.sending c.key.result.now c.in_ok-next.next c.requires.bytes (sym c.is_open.ensures ∙ c.if-not-is_open.false) c.key.ensures a.next a.bytes a.long
          a.leaves a.calls c.in-Piece.piece c.pass.result c.in-Piece.is c.pass.ensures.ok
          (subst (λ (n : ℕ). IfOk c.pass.result (λ out. phase_of c.pass.new.putting.phase ≡ puts_more s.peer s.start (s.at + n) (s.left - n))) len c.pass.ensures.next) c.pass.ensures.goes_on c.pass.ensures.err;
    }

pub returns-in-Gone : goal.returns-in-Gone
returns-in-Gone g c =
    let a = c.in_ok-next.ensures in
    let k = seen (g.K.Keeper.contents c.args.keeper.now) (g.K.Keeper.parts c.args.keeper.now) (g.K.Keeper.records c.args.keeper.now) (g.K.Keeper.files c.args.keeper.now) (g.K.Keeper.faults c.args.keeper.now) (g.K.Keeper.failing c.args.keeper.now) in
    let after = seen (g.K.Keeper.contents c.next_of.new.keeper) (g.K.Keeper.parts c.next_of.new.keeper) (g.K.Keeper.records c.next_of.new.keeper) (g.K.Keeper.files c.next_of.new.keeper) (g.K.Keeper.faults c.next_of.new.keeper) (g.K.Keeper.failing c.next_of.new.keeper) in
    record {
      does = λ rows.
          sends_none (g.H.Here.sight c.args.here.now) rows k after c.args.putting.now c.shut.new.putting c.args.sending c.key.result.now c.in_ok-next.next c.requires.bytes (sym c.is_open.ensures ∙ c.if-not-is_open.false) c.key.ensures a.next a.bytes a.long
          a.leaves a.calls c.shut.result c.in-Gone.is c.shut.ensures.ok c.shut.ensures.err;
    }

pub returns-in-Failed : goal.returns-in-Failed
returns-in-Failed g c =
    let a = c.in_ok-next.ensures in
    let k = seen (g.K.Keeper.contents c.args.keeper.now) (g.K.Keeper.parts c.args.keeper.now) (g.K.Keeper.records c.args.keeper.now) (g.K.Keeper.files c.args.keeper.now) (g.K.Keeper.faults c.args.keeper.now) (g.K.Keeper.failing c.args.keeper.now) in
    let after = seen (g.K.Keeper.contents c.next_of.new.keeper) (g.K.Keeper.parts c.next_of.new.keeper) (g.K.Keeper.records c.next_of.new.keeper) (g.K.Keeper.files c.next_of.new.keeper) (g.K.Keeper.faults c.next_of.new.keeper) (g.K.Keeper.failing c.next_of.new.keeper) in
    record {
      does = λ rows.
          sends_failed (g.H.Here.sight c.args.here.now) rows k after c.args.putting.now c.fail.new.self c.args.sending c.key.result.now c.in_ok-next.next c.requires.bytes (sym c.is_open.ensures ∙ c.if-not-is_open.false) c.key.ensures a.next a.bytes a.long
          a.leaves a.calls c.fail.result c.in-Failed.is c.fail.ensures.says c.fail.ensures.next;
    }
